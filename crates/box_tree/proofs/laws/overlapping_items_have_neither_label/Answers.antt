use Rattle.box_tree.proofs.Meant.{answer_rises, answer_has}
use Rattle.box_tree.proofs.laws.overlapping_items_have_neither_label.Goals as goal

pub returns : goal.returns
returns c = record { rising = answer_rises; items = answer_has }
