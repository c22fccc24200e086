-- A face whose new id is not left: the id is used up by the same corners, which may be made again at once.
use Rattle.std.proofs.Common.{◌≡◌, inl, inr, ℕ, ◌+◌, ◌≤◌, Bool, true, false, List, Option, Some, None, refl, ap, sym, subst, ◌∙◌, arith, if◌then◌else◌, cond, is_some}
use Rattle.std.specs.Option.{option_map}
use Rattle.std.specs.FinMap as finite
use Rattle.grid_base.specs.declared.TheConstants.{ID_MAX}
use Rattle.mesh_base.specs.declared.ids.Corners.{Corners}
use Rattle.mesh_base.specs.Mesh.{Mesh, IsSound, IsLiveFace, HasCorners, equal_up_to_rotation}
use Rattle.mesh_base.specs.Changes.{corners_of, corner_list, with_face, without_face, IsFresh, IsFullOfFaces}
use Rattle.mesh_base.proofs.Finite.{got_after_remove, live_inserted}
use Rattle.std.specs.Ordering.{nat_cmp, eq_by_cmp}
use Rattle.std.specs.Cmp.{nat_cmp_total}
use Rattle.std.specs.FinMap.{FinMap, get-insert, get-remove, get-entries, entries_sorted, same_entries_map}
use Rattle.std.specs.FinMap.Entries.{same_entries}
use Rattle.std.proofs.lemmas.Map.Lookups.{exact_unsigned}
use Rattle.std.proofs.lemmas.Map.Views.{tells_apart}
use Rattle.edit_base.specs.Edges.{with_renamed}
use Rattle.edit_acts.proofs.Flow.{not_live, below-without}
use Rattle.edit_collapse.specs.Tried.{has_id_in, with_id_used_up, with_joined_or_gone}
use Rattle.edit_acts.proofs.Counting.{len-without}

not_true : (b : Bool) → ¬ (b ≡ true) → b ≡ false
not_true true h = absurd (h refl)
not_true false h = refl

-- a face that was just dropped may be made again
pub fresh_again : (m : Mesh) (f : ℕ) (c : Corners) → IsSound m → HasCorners m f c → IsFresh (without_face m f) c
fresh_again m f c sound there = record {
  live = sound.is_mesh.live_corners f c there;
  different = sound.is_mesh.different_corners f c there;
  new = λ g d is. let got = got_after_remove m.faces f g d is in not_true (equal_up_to_rotation d c) (λ e. got.0 (sound.is_mesh.different_faces g f d c got.1 there e));
}

-- where an id is left, a face can be made after another is dropped
pub room_after : (m : Mesh) (f : ℕ) → IsSound m → IsLiveFace m f → m.next_face ≤ ID_MAX → ¬ (IsFullOfFaces (without_face m f))
room_after m f sound live room (inl e) = let fewer = len-without m.faces f live in let few = sound.limits.faces in absurd (omega (arith, e, fewer, few))
room_after m f sound live room (inr e) = absurd (omega (arith, e, room))

-- the list that is answered is that of the corners
pub listed_corners : (o : Option Corners) (list : List ℕ) → Some list ≡ option_map corner_list o → (c : Corners) × (o ≡ Some c) × (corners_of list ≡ c)
listed_corners None list e = absurd cc
listed_corners (Some c) list e = (c, refl, ap corners_of (inside e))
  where
    inside : {X : Type 0} {x y : X} → Some x ≡ Some y → x ≡ y
    inside e = cc

-- the face that uses up the id is live
pub spent_live : (m : Mesh) (c : Corners) (n : Mesh) (f : ℕ) → n ≡ with_face m c → f ≡ m.next_face → IsLiveFace n f
spent_live m c n f e is = subst (λ k. IsLiveFace k f) (sym e) (subst (λ i. IsLiveFace (with_face m c) i) (sym is) (live_inserted m.faces m.next_face c))

-- what is inserted at a new key and removed leaves the map
gone : (q : FinMap nat_cmp Corners) (k : ℕ) (v : Corners) → finite.get q k ≡ None → finite.remove (finite.insert q k v) k ≡ q
gone q k v none =
    same_entries_map (finite.remove (finite.insert q k v) k) q
    (same_entries nat_cmp nat_cmp_total exact_unsigned (finite.entries (finite.remove (finite.insert q k v) k)) (finite.entries q) (entries_sorted (finite.remove (finite.insert q k v) k)) (entries_sorted q)
    (λ x. sym (get-entries (finite.remove (finite.insert q k v) k) x) ∙ at x ∙ get-entries q x))
  where
    at : (x : ℕ) → finite.get (finite.remove (finite.insert q k v) k) x ≡ finite.get q x
    at x =
        get-remove nat_cmp_total (finite.insert q k v) k x ∙ ap (λ o. cond (eq_by_cmp nat_cmp x k) None o) (get-insert nat_cmp_total q k v x)
        ∙ elim (eq_by_cmp nat_cmp x k) as (λ b. eq_by_cmp nat_cmp x k ≡ b → cond b None (cond b (Some v) (finite.get q x)) ≡ finite.get q x) [
          | true ↦ λ e. sym (ap (finite.get q) (tells_apart exact_unsigned x k e) ∙ none)
          | false ↦ λ e. refl
        ] refl

-- the face is gone, and one id is used up
pub used_up : (m : Mesh) (f : ℕ) (c : Corners) (g : ℕ) (two : Mesh) → IsSound m → two ≡ with_face (without_face m f) c → g ≡ m.next_face → without_face two g ≡ with_id_used_up m f
used_up m f c g two sound e is =
    let bare = not_live (without_face m f) (below-without m f (λ k h. (sound.is_mesh.face_ids k h).1)) in
    (λ i. without_face (e i) (is i))
    ∙ ap (λ fs. record m { faces = fs; next_face = m.next_face + 1 }) (gone (finite.remove m.faces f) m.next_face c bare)

-- what is made of a live face, by whether it is left, and of one that is not live
pub joined_there : (m : Mesh) (f : ℕ) (c : Corners) (from to : ℕ) (left : List (ℕ × Corners)) → HasCorners m f c → has_id_in left m.next_face ≡ true → with_renamed from to m f ≡ with_joined_or_gone from to left m f
joined_there m f c from to left there is = sym (λ i. if is_some (there i) then (if is i then with_renamed from to m f else with_id_used_up m f) else m)

pub joined_used_up : (m : Mesh) (f : ℕ) (c : Corners) (from to : ℕ) (left : List (ℕ × Corners)) → HasCorners m f c → has_id_in left m.next_face ≡ false → with_id_used_up m f ≡ with_joined_or_gone from to left m f
joined_used_up m f c from to left there is = sym (λ i. if is_some (there i) then (if is i then with_renamed from to m f else with_id_used_up m f) else m)
