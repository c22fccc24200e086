-- Faces made in order: what is left may be made, and then all are made.
use Rattle.std.proofs.Common.{◌≡◌, ℕ, zero, suc, ◌+◌, ◌<◌, ◌≤◌, List, [], ◌∷◌, map, length, get_or, drop, ⊎_elim, refl, sym, ap, subst, ◌∙◌, add-one, arith}
use Rattle.std.proofs.Math.Seq.{drop-cons}
use Rattle.grid_base.specs.declared.TheConstants.{ID_MAX}
use Rattle.mesh_base.specs.declared.ids.Corners.{Corners}
use Rattle.mesh_base.specs.Mesh.{Mesh}
use Rattle.mesh_base.specs.Changes.{corners_of, with_face, IsFresh, IsFullOfFaces}
use Rattle.edit_acts.proofs.Counting.{len-insert_le}
use Rattle.edit_base.specs.Edges.{with_faces, AreFresh}
use Rattle.edit_base.specs.Required.{HasRoomFor}

rest_at : (xs : List (List ℕ)) (i : ℕ) (d : List ℕ) → i < length xs → drop i xs ≡ get_or xs i d ∷ drop (i + 1) xs
rest_at xs i d h = rw add-one (drop-cons xs i d h)

ended : (xs : List (List ℕ)) (i : ℕ) → length xs ≤ i → drop i xs ≡ []
ended [] zero h = refl
ended [] (suc i) h = refl
ended (x ∷ xs) zero h = absurd (omega arith)
ended (x ∷ xs) (suc i) h = ended xs i (omega arith)

room_for_one : (m : Mesh) (n : ℕ) → HasRoomFor (n + 1) m → ¬ IsFullOfFaces m
room_for_one m n room full =
    let f = room.faces in
    let g = room.ids in
    ⊎_elim (λ e. absurd (omega (arith, f, e))) (λ e. absurd (omega (arith, g, e))) full

room_after_one : (m : Mesh) (c : Corners) (n : ℕ) → HasRoomFor (n + 1) m → HasRoomFor n (with_face m c)
room_after_one m c n room =
    let f = room.faces in
    let g = room.ids in
    let e = len-insert_le m.faces m.next_face c in
    record { faces = omega (arith, f, e); ids = let h : m.next_face + 1 + n ≤ ID_MAX + 1 = omega (arith, g) in h }

-- what a walk over the corners keeps
abbrev pub AllToCome : Mesh → Mesh → List (List ℕ) → ℕ → Type 0
AllToCome old m all i = AreFresh m (map corners_of (drop i all)) × HasRoomFor (length (drop i all)) m × (with_faces m (map corners_of (drop i all)) ≡ with_faces old (map corners_of all))

module _ (old m : Mesh) (all : List (List ℕ)) (i : ℕ) (d : List ℕ) (h : AllToCome old m all i) (more : i < length all) where
  abbrev c : List ℕ
  c = get_or all i d

  fresh : AreFresh m (map corners_of (c ∷ drop (i + 1) all))
  fresh = subst (λ xs. AreFresh m (map corners_of xs)) (rest_at all i d more) h.0

  room : HasRoomFor (length (drop (i + 1) all) + 1) m
  room = let e = ap length (rest_at all i d more) in subst (λ n. HasRoomFor n m) (let same : length (drop i all) ≡ length (drop (i + 1) all) + 1 = omega (arith, e) in same) h.1

  pub one_is_fresh : IsFresh m (corners_of c)
  one_is_fresh = fresh.0

  pub one_has_room : ¬ IsFullOfFaces m
  one_has_room = room_for_one m (length (drop (i + 1) all)) room

  pub one_is_made : (n : Mesh) → n ≡ with_face m (corners_of c) → AllToCome old n all (i + 1)
  one_is_made n made = subst (λ n. AllToCome old n all (i + 1)) (sym made) (
    fresh.1,
    room_after_one m (corners_of c) (length (drop (i + 1) all)) room,
    ap (λ xs. with_faces m (map corners_of xs)) (sym (rest_at all i d more)) ∙ h.2,
  )

pub all_are_made : (old m : Mesh) (all : List (List ℕ)) (i : ℕ) → AllToCome old m all i → length all ≤ i → m ≡ with_faces old (map corners_of all)
all_are_made old m all i h end = ap (λ xs. with_faces m (map corners_of xs)) (sym (ended all i end)) ∙ h.2
