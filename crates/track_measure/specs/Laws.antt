-- Laws of what is measured.
use Rattle.std.specs.Prelude.{◌≡◌, ℕ}
use Rattle.mesh_base.specs.Mesh.{IsSound}
use Rattle.log_text.specs.declared.NewIds.{NewIds}
use Rattle.log_text.specs.declared.LogLine.TheVariants.{Vertices, Faces}
use Rattle.log_run.specs.Fits.{LineFits}
use Rattle.log_run.specs.States.{LogState, with_line}
use Rattle.track_measure.specs.MeasureLines.{measure_of}

-- where vertices take new ids, the mesh is measured as it was
abbrev pub VertexIdsChangeNoMeasure : Type 0
VertexIdsChangeNoMeasure =
    (s : LogState) (new : NewIds) (k : ℕ) → IsSound s.replay.mesh → LineFits s (Vertices new) →
    measure_of k (with_line s (Vertices new)).replay.mesh ≡ measure_of k s.replay.mesh

-- and where faces do
abbrev pub FaceIdsChangeNoMeasure : Type 0
FaceIdsChangeNoMeasure =
    (s : LogState) (new : NewIds) (k : ℕ) → IsSound s.replay.mesh → LineFits s (Faces new) →
    measure_of k (with_line s (Faces new)).replay.mesh ≡ measure_of k s.replay.mesh
