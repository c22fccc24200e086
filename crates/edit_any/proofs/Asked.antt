-- What holds of each edit holds of the edit that is asked for.
use Rattle.std.proofs.Common.{◌≡◌, ℕ, Bool, Option, None, refl, subst}
use Rattle.std.specs.Prelude.{IfSome}
use Rattle.grid_base.specs.declared.Positions.{Positions}
use Rattle.grid_base.specs.SeparationTests.{IsExact}
use Rattle.mesh_base.specs.Mesh.{Mesh, IsSound}
use Rattle.mesh_base.specs.Sides.{IsClosed}
use Rattle.mesh_base.specs.Placements.{IsClearMesh}
use Rattle.edit_base.specs.declared.asked.Asked.{Asked}
use Rattle.edit_base.specs.declared.answers.Change.{Change}
use Rattle.edit_base.specs.declared.answers.Change.TheVariants.{Split, Flip, Collapse, Zip, Pinch}
use Rattle.edit_base.specs.Scaffold.{Scaffold, motion_of, IsClearBut}
use Rattle.edit_base.specs.Laws.{Answer, Makes, AlwaysMakes, StaysSound, StaysClosed, StaysClear, MotionIsClear}
use Rattle.edit_split.specs.Done.{IsSplit, split_result, split_tested_on}
use Rattle.edit_flip.specs.Done.{IsFlip, flip_result, flip_tested_on}
use Rattle.edit_collapse.specs.Done.{IsCollapse, collapse_result, collapse_tested_on}
use Rattle.edit_zip.specs.Done.{IsZip, zip_result}
use Rattle.edit_pinch.specs.Done.{IsPinch, pinch_result, pinch_tested_on}
use Rattle.edit_split.proofs.SplitDone.{split_stays_sound, split_stays_closed, split_stays_clear, split_motion_is_clear, split_always_makes}
use Rattle.edit_flip.proofs.FlipDone.{flip_stays_sound, flip_stays_closed, flip_stays_clear, flip_motion_is_clear, flip_always_makes}
use Rattle.edit_collapse.proofs.CollapseKeeps.{collapse_stays_sound, collapse_stays_closed, collapse_stays_clear}
use Rattle.edit_collapse.proofs.CollapseDone.{collapse_motion_is_clear, collapse_always_makes}
use Rattle.edit_zip.proofs.ZipDone.{zip_stays_sound, zip_stays_closed, zip_stays_clear, zip_always_makes}
use Rattle.edit_pinch.proofs.PinchDone.{pinch_stays_sound, pinch_stays_closed, pinch_stays_clear, pinch_motion_is_clear, pinch_always_makes}
use Rattle.edit_any.specs.Dispatch.{answer_to, edited, scaffold_of}

-- ---- a change of one kind
pub split_makes : (m : Mesh) (change : Change) → IsSplit change → split_result m change ≡ edited m change
split_makes m (Split a b w at) h = refl
split_makes m change h = absurd h

split_scaffold : (m : Mesh) (change : Change) → IsSplit change → split_tested_on m change ≡ scaffold_of m change
split_scaffold m (Split a b w at) h = refl
split_scaffold m change h = absurd h

pub flip_makes : (m : Mesh) (change : Change) → IsFlip change → flip_result m change ≡ edited m change
flip_makes m (Flip a b) h = refl
flip_makes m change h = absurd h

flip_scaffold : (m : Mesh) (change : Change) → IsFlip change → flip_tested_on m change ≡ scaffold_of m change
flip_scaffold m (Flip a b) h = refl
flip_scaffold m change h = absurd h

pub collapse_makes : (m : Mesh) (change : Change) → IsCollapse change → collapse_result m change ≡ edited m change
collapse_makes m (Collapse a b at) h = refl
collapse_makes m change h = absurd h

collapse_scaffold : (m : Mesh) (change : Change) → IsCollapse change → collapse_tested_on m change ≡ scaffold_of m change
collapse_scaffold m (Collapse a b at) h = refl
collapse_scaffold m change h = absurd h

pub zip_makes : (m : Mesh) (change : Change) → IsZip change → zip_result m change ≡ edited m change
zip_makes m (Zip a b e f turn) h = refl
zip_makes m change h = absurd h

zip_scaffold : (m : Mesh) (change : Change) → IsZip change → None ≡ scaffold_of m change
zip_scaffold m (Zip a b e f turn) h = refl
zip_scaffold m change h = absurd h

pub pinch_makes : (m : Mesh) (change : Change) → IsPinch change → pinch_result m change ≡ edited m change
pinch_makes m (Pinch v at copies) h = refl
pinch_makes m change h = absurd h

pinch_scaffold : (m : Mesh) (change : Change) → IsPinch change → pinch_tested_on m change ≡ scaffold_of m change
pinch_scaffold m (Pinch v at copies) h = refl
pinch_scaffold m change h = absurd h

-- ---- what is said by one reading of changes holds by another that agrees with it
module _ (kind : Change → Type 0) (one other : Makes) (answer : Answer) (always : AlwaysMakes kind answer) (same : (m : Mesh) (change : Change) → kind change → one m change ≡ other m change) where
  sound_too : StaysSound one answer → StaysSound other answer
  sound_too stays m change sound closed done = subst IsSound (same m change (always m change done)) (stays m change sound closed done)

  closed_too : StaysClosed one answer → StaysClosed other answer
  closed_too stays m change sound closed done = subst IsClosed (same m change (always m change done)) (stays m change sound closed done)

  clear_too : StaysClear one answer → StaysClear other answer
  clear_too stays m change sound closed clear done = subst IsClearMesh (same m change (always m change done)) (stays m change sound closed clear done)

abbrev IsClearOn : Option Scaffold → Type 0
IsClearOn scaffold = IfSome scaffold (λ s. IsClosed s.mesh × IsClearBut s.touch s.mesh (motion_of s))

module _ (kind : Change → Type 0) (one other : Mesh → Change → Option Scaffold) (answer : Answer) (always : AlwaysMakes kind answer) (same : (m : Mesh) (change : Change) → kind change → one m change ≡ other m change) where
  motion_too : MotionIsClear one answer → MotionIsClear other answer
  motion_too moves m change sound closed done = subst IsClearOn (same m change (always m change done)) (moves m change sound closed done)

-- ---- the edit that is asked for
pub asked_stays_sound : (meets : Positions → Bool) (depth : ℕ) (what : Asked) → StaysSound edited (λ m. answer_to meets m depth what)
asked_stays_sound meets depth (Asked.Split a b) = sound_too IsSplit split_result edited _ (split_always_makes meets a b depth) split_makes (split_stays_sound meets a b depth)
asked_stays_sound meets depth (Asked.Flip a b) = sound_too IsFlip flip_result edited _ (flip_always_makes meets a b depth) flip_makes (flip_stays_sound meets a b depth)
asked_stays_sound meets depth (Asked.Collapse a b) = sound_too IsCollapse collapse_result edited _ (collapse_always_makes meets a b depth) collapse_makes (collapse_stays_sound meets a b depth)
asked_stays_sound meets depth (Asked.Zip a b e f) = sound_too IsZip zip_result edited _ (zip_always_makes meets a b e f) zip_makes (zip_stays_sound meets a b e f)
asked_stays_sound meets depth (Asked.Pinch v) = sound_too IsPinch pinch_result edited _ (pinch_always_makes meets v depth) pinch_makes (pinch_stays_sound meets v depth)

pub asked_stays_closed : (meets : Positions → Bool) (depth : ℕ) (what : Asked) → StaysClosed edited (λ m. answer_to meets m depth what)
asked_stays_closed meets depth (Asked.Split a b) = closed_too IsSplit split_result edited _ (split_always_makes meets a b depth) split_makes (split_stays_closed meets a b depth)
asked_stays_closed meets depth (Asked.Flip a b) = closed_too IsFlip flip_result edited _ (flip_always_makes meets a b depth) flip_makes (flip_stays_closed meets a b depth)
asked_stays_closed meets depth (Asked.Collapse a b) = closed_too IsCollapse collapse_result edited _ (collapse_always_makes meets a b depth) collapse_makes (collapse_stays_closed meets a b depth)
asked_stays_closed meets depth (Asked.Zip a b e f) = closed_too IsZip zip_result edited _ (zip_always_makes meets a b e f) zip_makes (zip_stays_closed meets a b e f)
asked_stays_closed meets depth (Asked.Pinch v) = closed_too IsPinch pinch_result edited _ (pinch_always_makes meets v depth) pinch_makes (pinch_stays_closed meets v depth)

pub asked_stays_clear : (meets : Positions → Bool) → IsExact meets → (depth : ℕ) (what : Asked) → StaysClear edited (λ m. answer_to meets m depth what)
asked_stays_clear meets exact depth (Asked.Split a b) = clear_too IsSplit split_result edited _ (split_always_makes meets a b depth) split_makes (split_stays_clear meets exact a b depth)
asked_stays_clear meets exact depth (Asked.Flip a b) = clear_too IsFlip flip_result edited _ (flip_always_makes meets a b depth) flip_makes (flip_stays_clear meets exact a b depth)
asked_stays_clear meets exact depth (Asked.Collapse a b) = clear_too IsCollapse collapse_result edited _ (collapse_always_makes meets a b depth) collapse_makes (collapse_stays_clear meets exact a b depth)
asked_stays_clear meets exact depth (Asked.Zip a b e f) = clear_too IsZip zip_result edited _ (zip_always_makes meets a b e f) zip_makes (zip_stays_clear meets exact a b e f)
asked_stays_clear meets exact depth (Asked.Pinch v) = clear_too IsPinch pinch_result edited _ (pinch_always_makes meets v depth) pinch_makes (pinch_stays_clear meets exact v depth)

pub asked_moves_clear : (meets : Positions → Bool) → IsExact meets → (depth : ℕ) (what : Asked) → MotionIsClear scaffold_of (λ m. answer_to meets m depth what)
asked_moves_clear meets exact depth (Asked.Split a b) = motion_too IsSplit split_tested_on scaffold_of _ (split_always_makes meets a b depth) split_scaffold (split_motion_is_clear meets exact a b depth)
asked_moves_clear meets exact depth (Asked.Flip a b) = motion_too IsFlip flip_tested_on scaffold_of _ (flip_always_makes meets a b depth) flip_scaffold (flip_motion_is_clear meets exact a b depth)
asked_moves_clear meets exact depth (Asked.Collapse a b) = motion_too IsCollapse collapse_tested_on scaffold_of _ (collapse_always_makes meets a b depth) collapse_scaffold (collapse_motion_is_clear meets exact a b depth)
asked_moves_clear meets exact depth (Asked.Zip a b e f) = motion_too IsZip (λ m change. None) scaffold_of _ (zip_always_makes meets a b e f) zip_scaffold (λ m change sound closed done. tt)
asked_moves_clear meets exact depth (Asked.Pinch v) = motion_too IsPinch pinch_tested_on scaffold_of _ (pinch_always_makes meets v depth) pinch_scaffold (pinch_motion_is_clear meets exact v depth)
