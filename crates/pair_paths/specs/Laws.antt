-- What holds of the edges and faces of a motion, and of their boxes.
use Rattle.std.specs.Prelude.{ℕ, ◌≡◌, false}
use Rattle.grid_base.specs.declared.Extent.{Extent}
use Rattle.grid_base.specs.declared.Positions.{Positions}
use Rattle.grid_base.specs.Extents.{overlaps}
use Rattle.grid_base.specs.Meeting.{MeetAt}
use Rattle.grid_base.specs.Separation.{Passes}
use Rattle.grid_base.specs.Triples.{Triple}
use Rattle.mesh_base.specs.declared.ids.Corners.{Corners}
use Rattle.mesh_base.specs.Placements.{Motion, positions}
use Rattle.pair_paths.specs.Bounds.{HoldPositions}
use Rattle.pair_paths.specs.Frames.{seen_from}
use Rattle.pair_paths.specs.Moving.{moving_edge, moving_face}
use Rattle.pair_paths.specs.Pairing.{pair_with, starts, ends}

-- an edge and a face of a motion begin where the motion has the ends and the corners of their
-- pair at its start
abbrev pub PairsBeginInTheMotion : Type 0
PairsBeginInTheMotion = (w : Motion) (a b : ℕ) (f : ℕ × Corners) →
    let e = moving_edge w a b in
    let g = moving_face w f in
    starts e g ≡ positions w.start (pair_with e g)

-- they end where it has them at its end
abbrev pub PairsEndInTheMotion : Type 0
PairsEndInTheMotion = (w : Motion) (a b : ℕ) (f : ℕ × Corners) →
    let e = moving_edge w a b in
    let g = moving_face w f in
    ends e g ≡ positions w.end (pair_with e g)

-- an edge and a face do not meet where boxes with no common point have them
abbrev pub BoxesApartKeepApart : Type 0
BoxesApartKeepApart = (edge face : Extent) (f : Positions) →
    HoldPositions edge face f → overlaps face edge ≡ false → ¬ (MeetAt f)

-- they pass the written test to each depth where boxes with no common point have them at the
-- start and at the end
abbrev pub BoxesApartPass : Type 0
BoxesApartPass = (depth : ℕ) (edge face : Extent) (s t : Positions) →
    HoldPositions edge face s → HoldPositions edge face t → overlaps face edge ≡ false →
    Passes depth s t

-- the same where the boxes have them at the end as one position sees them there
abbrev pub BoxesApartPassInAFrame : Type 0
BoxesApartPassInAFrame = (depth : ℕ) (edge face : Extent) (o : Triple) (s t : Positions) →
    HoldPositions edge face s → HoldPositions edge face (seen_from o t) →
    overlaps face edge ≡ false → Passes depth s t
