-- No edit that is done moves a solid vertex.
use Rattle.std.proofs.Common.{◌≡◌, ℕ, Bool, subst}
use Rattle.grid_base.specs.declared.Positions.{Positions}
use Rattle.mesh_base.specs.Mesh.{Mesh, IsSound}
use Rattle.mesh_base.specs.Sides.{IsClosed}
use Rattle.edit_base.specs.declared.Asked.{Asked}
use Rattle.edit_base.specs.declared.Asked.TheVariants as asked
use Rattle.edit_base.specs.declared.Change.{Change}
use Rattle.edit_base.specs.declared.Change.TheVariants.{Split, Flip, Collapse, Zip, Pinch}
use Rattle.edit_base.specs.declared.Edit.TheVariants.{Done}
use Rattle.edit_base.proofs.ReasonLaws.{done_is}
use Rattle.edit_split.specs.Done.{IsSplit}
use Rattle.edit_split.proofs.SplitDone.{split_always_makes}
use Rattle.edit_flip.specs.Done.{IsFlip}
use Rattle.edit_flip.proofs.FlipDone.{flip_always_makes}
use Rattle.edit_collapse.specs.Done.{IsCollapse}
use Rattle.edit_collapse.specs.SolidEnds.{SolidEndStays}
use Rattle.edit_collapse.proofs.CollapseDone.{collapse_always_makes}
use Rattle.edit_collapse.proofs.SolidEnds.{solid_ends_stay}
use Rattle.edit_zip.specs.Done.{IsZip}
use Rattle.edit_zip.proofs.ZipDone.{zip_always_makes}
use Rattle.edit_pinch.specs.Done.{IsPinch}
use Rattle.edit_pinch.proofs.PinchDone.{pinch_always_makes}
use Rattle.edit_pinch.proofs.SolidVertices.{pinches_none_solid}
use Rattle.edit_any.specs.Dispatch.{answer_to}
use Rattle.edit_any.proofs.SolidVertices.{asked_stays}
use Rattle.log_replay.specs.Safe.{PinchesNoSolid, NoSolidMoves}

-- what is said of a collapse and of a pinch
abbrev SaysOfBoth : Mesh → Change → Type 0
SaysOfBoth m change = SolidEndStays m change × PinchesNoSolid m change

of_split : (m : Mesh) (change : Change) → IsSplit change → SaysOfBoth m change
of_split m (Split a b w at) is = (tt, tt)
of_split m change is = absurd is

of_flip : (m : Mesh) (change : Change) → IsFlip change → SaysOfBoth m change
of_flip m (Flip a b) is = (tt, tt)
of_flip m change is = absurd is

of_collapse : (m : Mesh) (change : Change) → IsCollapse change → SolidEndStays m change → SaysOfBoth m change
of_collapse m (Collapse a b at) is stays = (stays, tt)
of_collapse m change is stays = absurd is

of_zip : (m : Mesh) (change : Change) → IsZip change → SaysOfBoth m change
of_zip m (Zip a b e f turn) is = (tt, tt)
of_zip m change is = absurd is

of_pinch : (m : Mesh) (change : Change) → IsPinch change → PinchesNoSolid m change → SaysOfBoth m change
of_pinch m (Pinch v at copies) is free = (tt, free)
of_pinch m change is free = absurd is

module _ (meets : Positions → Bool) (depth : ℕ) where
  of_asked : (what : Asked) (m : Mesh) (change : Change) → answer_to meets m depth what ≡ Done change → SaysOfBoth m change
  of_asked (asked.Split a b) m change done = of_split m change (split_always_makes meets a b depth m change done)
  of_asked (asked.Flip a b) m change done = of_flip m change (flip_always_makes meets a b depth m change done)
  of_asked (asked.Collapse a b) m change done = of_collapse m change (collapse_always_makes meets a b depth m change done) (solid_ends_stay meets a b depth m change done)
  of_asked (asked.Zip a b e f) m change done = of_zip m change (zip_always_makes meets a b e f m change done)
  of_asked (asked.Pinch v) m change done =
      of_pinch m change (pinch_always_makes meets v depth m change done) (subst (PinchesNoSolid m) (done_is _ _ _ done).1 (pinches_none_solid meets v depth m change done))

  pub none_moves : (what : Asked) (m : Mesh) (change : Change) → IsSound m → IsClosed m → answer_to meets m depth what ≡ Done change → NoSolidMoves m change
  none_moves what m change sound closed done =
      let both = of_asked what m change done in
      record { collapse = both.0; pinch = both.1; each = asked_stays meets depth what m change sound closed done }
