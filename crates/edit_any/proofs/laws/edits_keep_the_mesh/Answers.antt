use Rattle.edit_any.proofs.Asked.{asked_stays_sound, asked_stays_closed, asked_stays_clear, asked_moves_clear}
use Rattle.edit_any.proofs.laws.edits_keep_the_mesh.Goals as goal

pub returns : goal.returns
returns c = record { sound = asked_stays_sound; closed = asked_stays_closed; clear = asked_stays_clear; motion = asked_moves_clear }
