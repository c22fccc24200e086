use Rattle.std.proofs.Common.{Some, refl, ap, ◌∙◌}
use Rattle.std.specs.FinMap as map
use Rattle.mesh_journal.proofs.Boxed.{held-without}
use Rattle.mesh_journal.proofs.boxes.unset_box.Goals as goal

pub returns-in-Some : goal.returns-in-Some
returns-in-Some c = λ q p apart h. held-without c.args.boxes.now (Some c.remove.new.self) c.in-Some.grid c.remove.new.self c.args.f q p c.in-Some.is refl
    (c.remove.ensures.removed ∙ ap (λ k. map.remove c.in-Some.grid k) (c.from.ensures ∙ c.f.view_is)) apart h
