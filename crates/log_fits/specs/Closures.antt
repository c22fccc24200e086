-- What holds of runs by whatever fields and sizing.
use Rattle.std.specs.Prelude.{ℕ}
use Rattle.std.specs.Fn.{Shared}
use Rattle.grid_base.specs.declared.Point.{Point}
use Rattle.grid_base.specs.declared.Shift.{Shift}
use Rattle.mesh_field.specs.Stored.{StoredFields}
use Rattle.mesh_sizing.specs.declared.sizing.Band.{Band}
use Rattle.track_engine.specs.Answered.{Known, known}

-- A law holds of what a run sees, whatever fields are stored and whatever the sizing, which answer
-- by these closures.
abbrev pub ByClosures : {F G : Type 0} → Shared F (ℕ × (Point × Unit {0})) Shift →
    Shared G (Point × Unit {0}) Band → (Known → Type 0) → Type 0
ByClosures {F} {G} closures sizings law = (fields : StoredFields F) (sizing : G) →
    law (known closures fields sizings sizing)
