-- There is room for what came of edits that are asked for.
use Rattle.std.proofs.Common.{◌≡◌, ◌≤◌, List, length, ap, arith}
use Rattle.grid_decided.specs.Decided.{meets_exactly}
use Rattle.edit_base.specs.declared.Asked.{Asked}
use Rattle.edit_base.specs.declared.Edit.{Edit}
use Rattle.pass_run.specs.Edits.{edit_rules}
use Rattle.pass_run.proofs.Edited.{few_answers}
use Rattle.track_engine.specs.State.{State, is_open}
use Rattle.track_engine.specs.Effects.{edited_answers}
use Rattle.track_held.specs.declared.given_edits.ToldAnswer.{ToldAnswer}

few : (asked : List Asked) (s : State) → length (edited_answers asked s) ≤ length asked
unfolding edited_answers
few asked s = few_answers (edit_rules meets_exactly s.set.depth (is_open s.groups)) s.mesh asked

pub answers_fit : (asked : List Asked) (s : State) (answers : List Edit) (into : List ToldAnswer) → answers ≡ edited_answers asked s → length asked ≤ length into → length answers ≤ length into
answers_fit asked s answers into is room = let least = few asked s in let same : length answers ≡ length (edited_answers asked s) = ap length is in omega (arith, least, same, room)
