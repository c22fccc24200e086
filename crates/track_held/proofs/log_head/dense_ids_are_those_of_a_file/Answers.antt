use Rattle.track_held.proofs.DenseIds.{dense_meshes_are_read, meshes_are_made_dense}
use Rattle.track_held.proofs.log_head.dense_ids_are_those_of_a_file.Goals as goal

pub returns : goal.returns
returns c = record { made = meshes_are_made_dense; read = dense_meshes_are_read }
