-- Solid vertices stay in each edit.
use Rattle.std.proofs.Common.{◌≡◌, ◌≢◌, ℕ, ◌<◌, Bool, true, false, cond, ◌||◌, ◌==◌, drop, Option, Some, None, is_some, refl, sym, ap, subst, ◌∙◌, arith}
use Rattle.mesh_base.proofs.Tests.{untied}
use Rattle.std.proofs.lemmas.Bool.{false≢true, eqb-true}
use Rattle.std.proofs.lemmas.Bool.Decides.{nat_tests}
use Rattle.std.specs.Ordering.{nat_cmp}
use Rattle.std.specs.Cmp.{nat_cmp_total, unsigned_tied}
use Rattle.std.specs.FinMap as finite
use Rattle.std.specs.FinMap.{get-insert}
use Rattle.grid_base.specs.declared.Point.{Point}
use Rattle.grid_base.specs.declared.Positions.{Positions}
use Rattle.grid_base.specs.Points.{point_at}
use Rattle.grid_base.proofs.PointLaws.{point_at-position_of}
use Rattle.mesh_base.specs.Mesh.{Mesh, IdSet, is_solid, IsSound, IsLiveVertex}
use Rattle.mesh_base.specs.Changes.{with_point}
use Rattle.mesh_base.specs.Placements.{point_of, position_or_origin}
use Rattle.edit_base.specs.declared.asked.Asked.{Asked}
use Rattle.edit_base.specs.declared.answers.Change.{Change}
use Rattle.edit_base.specs.declared.answers.Change.TheVariants.{Split, Flip, Collapse, Zip, Pinch}
use Rattle.edit_base.proofs.ReasonLaws.{done_is}
use Rattle.edit_split.specs.Done.{IsSplit}
use Rattle.edit_split.proofs.SplitDone.{split_always_makes}
use Rattle.edit_flip.specs.Done.{IsFlip}
use Rattle.edit_flip.proofs.FlipDone.{flip_always_makes}
use Rattle.edit_collapse.specs.Collapse.{collapse_mesh}
use Rattle.edit_collapse.specs.Done.{IsCollapse, collapse_result}
use Rattle.edit_collapse.specs.SolidEnds.{GoesToSolidEnd, KeepsSolidEnd, SolidEndStays}
use Rattle.edit_collapse.proofs.CollapseDone.{collapse_always_makes}
use Rattle.edit_collapse.proofs.CollapseKeeps.{collapse_stays_sound}
use Rattle.edit_collapse.proofs.SolidEnds.{solid_ends_stay, were_live}
use Rattle.edit_zip.specs.Done.{IsZip}
use Rattle.edit_zip.proofs.ZipDone.{zip_always_makes}
use Rattle.edit_pinch.specs.Pinch.{fans, pinch_mesh, copy_points}
use Rattle.edit_pinch.proofs.PinchDone.{kept_point}
use Rattle.edit_pinch.proofs.SolidVertices.{pinches_none_solid, same_marks}
use Rattle.edit_any.specs.Dispatch.{answer_to, edited}
use Rattle.edit_any.specs.SolidVertices.{SolidVerticesStay, SolidVerticesAlwaysStay}

-- an insertion at another key is not seen
got_elsewhere : (points : finite.FinMap nat_cmp Point) (k : ℕ) (at : Point) (v : ℕ) → v ≢ k → finite.get (finite.insert points k at) v ≡ finite.get points v
got_elsewhere points k at v apart = get-insert nat_cmp_total points k at v ∙ ap (λ t. cond t (Some at) (finite.get points v)) (unsigned_tied v k ∙ untied v k apart)

module _ (m : Mesh) (sound : IsSound m) where
  below : (v : ℕ) → is_solid m v ≡ true → v < m.next_vertex
  below v solid = (sound.is_mesh.vertex_ids v (sound.is_mesh.solid_ids v solid)).1

  -- ---- where the marks are the same
  same_stay : (change : Change) (next : Mesh) → next.solid ≡ m.solid → ((v : ℕ) → is_solid m v ≡ true → finite.get next.points v ≡ finite.get m.points v) → SolidVerticesStay m change next
  same_stay change next same stand =
      let alike : (v : ℕ) → is_solid next v ≡ is_solid m v = λ v. ap (λ (marks : IdSet). is_some (finite.get marks v)) same in
      record {
        stand = λ v solid live. stand v solid;
        remain = λ v solid live. alike v ∙ solid;
        marks = λ v live live' other. alike v;
        none_new = λ v solid. sound.is_mesh.solid_ids v (sym (alike v) ∙ solid);
      }

  split_stays : (change : Change) → IsSplit change → SolidVerticesStay m change (edited m change)
  split_stays (Split a b w at) is = same_stay (Split a b w at) (edited m (Split a b w at)) refl
      (λ v solid. got_elsewhere m.points m.next_vertex at v (let low = below v solid in λ e. omega (arith, e)))
  split_stays change is = absurd is

  flip_stays : (change : Change) → IsFlip change → SolidVerticesStay m change (edited m change)
  flip_stays (Flip a b) is = same_stay (Flip a b) (edited m (Flip a b)) refl (λ v solid. refl)
  flip_stays change is = absurd is

  zip_stays : (change : Change) → IsZip change → SolidVerticesStay m change (edited m change)
  zip_stays (Zip a b e f turn) is = same_stay (Zip a b e f turn) (edited m (Zip a b e f turn)) refl (λ v solid. refl)
  zip_stays change is = absurd is

  -- ---- a pinch is of a vertex that is not solid
  abbrev PinchesFree : Change → Type 0
  PinchesFree (Pinch v at copies) = is_solid m v ≡ false
  PinchesFree _ = ⊥

  pinch_stays : (change : Change) → PinchesFree change → SolidVerticesStay m change (edited m change)
  pinch_stays (Pinch v at copies) free = same_stay (Pinch v at copies) (pinch_mesh m v at (copy_points copies)) (same_marks m v at (copy_points copies))
      (λ u solid.
      kept_point v (with_point m v at) (drop 1 (fans m v)) (copy_points copies) u (below u solid)
      ∙ got_elsewhere m.points v at u (λ e. false≢true (sym free ∙ subst (λ x. is_solid m x ≡ true) e solid)))
  pinch_stays change free = absurd free

  -- ---- the end that a collapse leaves is put where a solid end stood
  point_there : (v : ℕ) → IsLiveVertex m v → Some (point_of m v) ≡ finite.get m.points v
  point_there v live = by_answer (finite.get m.points v) live
    where
      by_answer : (o : Option Point) → is_some o ≡ true → Some (point_at (position_or_origin o)) ≡ o
      by_answer (Some p) e = ap Some (point_at-position_of p)
      by_answer None e = absurd (false≢true e)

  module _ (a b : ℕ) (at : Point) (goes : GoesToSolidEnd m a b at) (keeps : KeepsSolidEnd m a b at) (after : IsSound (collapse_mesh m a b at)) where
    abbrev next : Mesh
    next = collapse_mesh m a b at

    by_end : {P : Type 0} (v : ℕ) → (v ≡ a → P) → (v ≢ a → P) → P
    by_end {P} v here elsewhere = by_test (v == a) refl
      where
        unlike : (x y : ℕ) → (x == y) ≡ false → x ≢ y
        unlike x y e h = grind (arith, nat_tests)

        by_test : (t : Bool) → (v == a) ≡ t → P
        by_test true e = here (eqb-true v a e)
        by_test false e = elsewhere (unlike v a e)

    stands_here : is_solid m a ≡ true → IsLiveVertex next a → finite.get next.points a ≡ finite.get m.points a
    stands_here solid live = keeps.stands live ∙ ap Some (goes.first solid) ∙ point_there a (sound.is_mesh.solid_ids a solid)

    remains_here : is_solid m a ≡ true → IsLiveVertex next a → is_solid next a ≡ true
    remains_here solid live = keeps.mark live ∙ ap (λ t. t || is_solid m b) solid

    ends_stay : SolidVerticesStay m (Collapse a b at) next
    ends_stay = record {
      stand = λ v solid live. by_end v
          (λ e. subst (λ x. is_solid m x ≡ true → IsLiveVertex next x → finite.get next.points x ≡ finite.get m.points x) (sym e) stands_here solid live)
          (λ apart. keeps.others_stand v apart live);
      remain = λ v solid live. by_end v
          (λ e. subst (λ x. is_solid m x ≡ true → IsLiveVertex next x → is_solid next x ≡ true) (sym e) remains_here solid live)
          (λ apart. keeps.other_marks v apart live ∙ solid);
      marks = λ v live live' other. keeps.other_marks v other live';
      none_new = λ v solid. were_live m a b at v (after.is_mesh.solid_ids v solid);
    }

  collapse_stays : (change : Change) → IsCollapse change → SolidEndStays m change → IsSound (collapse_result m change) → SolidVerticesStay m change (edited m change)
  collapse_stays (Collapse a b at) is stays after = ends_stay a b at stays.0 stays.1 after
  collapse_stays change is stays after = absurd is

-- ---- the edit that is asked for
pub asked_stays : (meets : Positions → Bool) (depth : ℕ) (what : Asked) → SolidVerticesAlwaysStay (λ m. answer_to meets m depth what)
asked_stays meets depth (Asked.Split a b) m change sound closed done = split_stays m sound change (split_always_makes meets a b depth m change done)
asked_stays meets depth (Asked.Flip a b) m change sound closed done = flip_stays m sound change (flip_always_makes meets a b depth m change done)
asked_stays meets depth (Asked.Collapse a b) m change sound closed done =
    collapse_stays m sound change (collapse_always_makes meets a b depth m change done) (solid_ends_stay meets a b depth m change done) (collapse_stays_sound meets a b depth m change sound closed done)
asked_stays meets depth (Asked.Zip a b e f) m change sound closed done = zip_stays m sound change (zip_always_makes meets a b e f m change done)
asked_stays meets depth (Asked.Pinch v) m change sound closed done =
    pinch_stays m sound change (subst (PinchesFree m sound) (done_is _ _ _ done).1 (pinches_none_solid meets v depth m change done))
