use Rattle.std.proofs.Common.{sym, ◌∙◌}
use Rattle.edit_zip.specs.Zip.{four_ids}
use Rattle.edit_zip.proofs.Repeated.{repeats_first, repeats_second}
use Rattle.edit_zip.proofs.edges.are_shared.Goals as goal

pub returns-then-stand_again : goal.returns-then-stand_again
returns-then-stand_again c = c.if-stand_again.true ∙ repeats_first (four_ids c.args.s.now) (four_ids c.args.t.now) (sym c.stand_again.ensures ∙ c.if-stand_again.true)

pub returns-else-stand_again : goal.returns-else-stand_again
returns-else-stand_again c =
    c.are_repeated.ensures ∙ repeats_second (four_ids c.args.s.now) (four_ids c.args.t.now) (sym c.stand_again.ensures ∙ c.if-stand_again.false)
