use Rattle.mesh_base.proofs.Moves.{clear_after_moves, translation_clear_along}
use Rattle.mesh_base.proofs.laws.translation_never_meets.Goals as goal

pub returns : goal.returns
returns c = record {
  along = translation_clear_along;
  after = λ m moves t sound clear one names inside. clear_after_moves m moves names.once inside (translation_clear_along m moves t sound clear one);
}
