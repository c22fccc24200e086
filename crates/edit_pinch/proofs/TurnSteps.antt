-- The copies of a vertex, one fan and point after another, and the faces of each, one after another.
use Rattle.std.proofs.Common.{◌≡◌, ℕ, zero, suc, ◌+◌, ◌<◌, ◌≤◌, List, [], ◌∷◌, length, drop, get_or, refl, sym, ap, subst, ◌∙◌, add-one, arith}
use Rattle.std.specs.List.{fold, zip}
use Rattle.grid_base.specs.declared.Point.{Point}
use Rattle.mesh_base.specs.Mesh.{Mesh}
use Rattle.mesh_base.specs.Changes.{with_vertex}
use Rattle.pair_scan.proofs.Lists.{rest_at, ended}
use Rattle.edit_base.specs.Edges.{with_renamed, with_all_renamed}
use Rattle.edit_base.specs.declared.answers.CopyAt.{CopyAt}
use Rattle.edit_pinch.specs.Pinch.{with_copy, copy_points}
use Rattle.edit_pinch.specs.InTurn.{MayBeRemade, RemadeInTurn, MayBeCopied, CopiedInTurn}

zip_front : (fans : List (List ℕ)) (copies : List CopyAt) (i : ℕ) (d : List ℕ) (e : CopyAt) → i < length fans → length fans ≡ length copies →
    drop i (zip fans (copy_points copies)) ≡ (get_or fans i d, (get_or copies i e).at) ∷ drop (suc i) (zip fans (copy_points copies))
zip_front [] copies i d e below same = absurd (omega arith)
zip_front (f ∷ fs) [] i d e below same = absurd (omega arith)
zip_front (f ∷ fs) (c ∷ cs) zero d e below same = refl
zip_front (f ∷ fs) (c ∷ cs) (suc i) d e below same = zip_front fs cs i d e (omega arith) (omega arith)

zip_end : (fans : List (List ℕ)) (copies : List CopyAt) (i : ℕ) → length fans ≤ i → drop i (zip fans (copy_points copies)) ≡ []
zip_end [] copies zero end = refl
zip_end [] copies (suc i) end = refl
zip_end (f ∷ fs) [] zero end = refl
zip_end (f ∷ fs) [] (suc i) end = refl
zip_end (f ∷ fs) (c ∷ cs) zero end = absurd (omega arith)
zip_end (f ∷ fs) (c ∷ cs) (suc i) end = zip_end fs cs i (omega arith)

module _ (v : ℕ) (old m : Mesh) (fans : List (List ℕ)) (copies : List CopyAt) (i : ℕ) where
  abbrev all : List (List ℕ × Point)
  all = zip fans (copy_points copies)

  -- the copies from i on may be made, and then all are
  abbrev pub ToCome : Mesh → ℕ → Type 0
  ToCome n j = CopiedInTurn v n (drop j all) × (fold (with_copy v) n (drop j all) ≡ fold (with_copy v) old all)

  module _ (fan given : List ℕ) (e : CopyAt) (below : i < length fans) (same : length fans ≡ length copies) (item : fan ≡ get_or fans i fan) (is : given ≡ fan) (h : ToCome m i) where
    front : drop i all ≡ (given, (get_or copies i e).at) ∷ drop (i + 1) all
    front = rw add-one
        (zip_front fans copies i fan e below same
        ∙ (λ j. (sym (is ∙ item) j, (get_or copies i e).at) ∷ drop (suc i) all))

    pub next_may_be : MayBeCopied v m given (get_or copies i e).at
    next_may_be = (subst (CopiedInTurn v m) front h.0).0

    pub one_made : (n : Mesh) → n ≡ with_copy v m (given, (get_or copies i e).at) → ToCome n (i + 1)
    one_made n made = (
      subst (λ k. CopiedInTurn v k (drop (i + 1) all)) (sym made) (subst (CopiedInTurn v m) front h.0).1,
      ap (λ k. fold (with_copy v) k (drop (i + 1) all)) made ∙ sym (ap (fold (with_copy v) m) front) ∙ h.1,
    )

  pub all_made : length fans ≤ i → ToCome m i → m ≡ fold (with_copy v) old all
  all_made end h = sym (ap (fold (with_copy v) m) (zip_end fans copies i end)) ∙ h.1

-- ---- the faces of a fan
module _ (v : ℕ) (old : Mesh) (at : Point) (fan : List ℕ) where
  -- the faces that are left may be made again with the copy in v's place, and then all are
  abbrev pub FacesToCome : ℕ → Mesh → List ℕ → Type 0
  FacesToCome w m left = RemadeInTurn v w m left × (with_all_renamed v w m left ≡ with_copy v old (fan, at))

  pub faces_begun : (w : ℕ) (m : Mesh) → MayBeCopied v old fan at → w ≡ old.next_vertex → m ≡ with_vertex old at → FacesToCome w m fan
  faces_begun w m may id made =
      subst (λ (n : Mesh). FacesToCome w n fan) (sym made) (subst (λ u. FacesToCome u (with_vertex old at) fan) (sym id) (may.faces, refl))

  module _ (w : ℕ) (m : Mesh) (i f : ℕ) (h : FacesToCome w m (drop i fan)) where
    module _ (below : i < length fan) (is : f ≡ get_or fan i f) where
      next_face : FacesToCome w m (f ∷ drop (i + 1) fan)
      next_face = subst (FacesToCome w m) (rest_at fan i f below ∙ ap (λ k. k ∷ drop (i + 1) fan) (sym is)) h

      pub face_may_be : MayBeRemade v w m f
      face_may_be = next_face.0.0

      pub face_remade : (n : Mesh) → n ≡ with_renamed v w m f → FacesToCome w n (drop (i + 1) fan)
      face_remade n made = subst (λ (k : Mesh). FacesToCome w k (drop (i + 1) fan)) (sym made) (next_face.0.1, next_face.1)

    pub faces_remade : length fan ≤ i → m ≡ with_copy v old (fan, at)
    faces_remade end = sym (ap (with_all_renamed v w m) (ended fan i end)) ∙ h.1
