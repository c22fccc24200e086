use Rattle.std.proofs.Common.{ap, sym, ◌∙◌, Some}
use Rattle.std.specs.Option.{option_map}
use Rattle.outside_io.proofs.Shelves.{files_at}
use Rattle.outside_io.proofs.shelf.look_up.Goals as goal

pub returns-in-Some : goal.returns-in-Some
returns-in-Some c = ap Some c.deref.ensures.value ∙ ap (option_map (λ v. v.items)) c.in-Some.ensures.value ∙ sym (files_at c.args.files.now c.args.name.now)

pub returns-in-None : goal.returns-in-None
returns-in-None c = ap (option_map (λ v. v.items)) c.in-None.ensures.value ∙ sym (files_at c.args.files.now c.args.name.now)
