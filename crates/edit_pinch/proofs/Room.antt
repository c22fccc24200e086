-- Where a pinch passes no limit, each of its changes can be made when its turn comes.
use Rattle.std.proofs.Common.{◌≡◌, ℕ, suc, ◌+◌, ◌-◌, ◌≤◌, Bool, true, false, cond, ◌||◌, nat_lt, List, [], ◌∷◌, length, map, drop, sum, ⊎_elim, refl, sym, ap, subst, ◌∙◌, arith, is_some}
use Rattle.std.proofs.lemmas.Bool.{ltb-false}
use Rattle.std.proofs.lemmas.Bool.Decides.{nat_tests}
use Rattle.std.proofs.lemmas.List.Sums.{sum_by-cons}
use Rattle.std.specs.List.{zip}
use Rattle.std.specs.Cmp.{nat_cmp_total}
use Rattle.std.specs.FinMap as finite
use Rattle.std.specs.FinMap.{len-insert}
use Rattle.grid_base.specs.declared.TheConstants.{ID_MAX}
use Rattle.grid_base.specs.declared.Point.{Point}
use Rattle.mesh_base.specs.Mesh.{Mesh, IsMesh, IsSound, IsLiveVertex}
use Rattle.mesh_base.specs.Sides.{IsClosed}
use Rattle.mesh_base.specs.Changes.{without_face, with_vertex, with_point, IsFullOfFaces}
use Rattle.mesh_base.specs.Limits.{are_over, is_over_limits}
use Rattle.edit_base.specs.Edges.{corners_at, renamed, with_renamed}
use Rattle.edit_pinch.specs.Pinch.{fans, with_copy, pinch_scaffold}
use Rattle.edit_acts.proofs.Counting.{len-insert_le, len-without}
use Rattle.edit_pinch.proofs.CopyClosed.{next_vertex-renamed, limits-renamed, points-renamed}
use Rattle.edit_pinch.proofs.PinchSteps.{IsBeforeFan, IsInFan, first_fan, copy_made, next_fresh, next_made}
use Rattle.edit_pinch.proofs.PinchRoom.{len-fan, faces_in, scaffold_over}
use Rattle.edit_base.proofs.ReasonLaws.{first_false, second_false}
use Rattle.edit_pinch.specs.InTurn.{RemadeInTurn, CopiedInTurn}
use Rattle.mesh_base.specs.declared.limits.Limits.{Limits}

-- ---- the faces of a fan
len-remade : (v w : ℕ) (n : Mesh) (f : ℕ) → finite.len (without_face n f).faces + 1 ≡ finite.len n.faces → finite.len n.faces ≤ n.limits.faces → finite.len (with_renamed v w n f).faces ≤ n.limits.faces
len-remade v w n f less few =
    let more = len-insert_le (without_face n f).faces n.next_face (renamed v w (corners_at n f)) in
    omega (arith, less, few, more)

has_room : (n : Mesh) (f k : ℕ) → finite.len (without_face n f).faces + 1 ≡ finite.len n.faces → finite.len n.faces ≤ n.limits.faces → n.next_face + suc k ≤ ID_MAX + 1 → IsFullOfFaces (without_face n f) → ⊥
has_room n f k less few ids full = ⊎_elim (λ e. omega (arith, less, few, e)) (λ e. omega (arith, ids, e)) full

remade_in_turn : (m : Mesh) (v w : ℕ) (n : Mesh) (fan : List ℕ) (others : List (List ℕ)) → IsInFan m v w n fan others → finite.len n.faces ≤ n.limits.faces → n.next_face + length fan ≤ ID_MAX + 1 → RemadeInTurn v w n fan
remade_in_turn m v w n [] others h few ids = tt
remade_in_turn m v w n (f ∷ fs) others h few ids =
    let live = ap is_some h.faces_there.0 in
    let less = len-without n.faces f live in (
      record { live = live; fresh = next_fresh m v w n f fs others h; room = has_room n f (length fs) less few ids },
      remade_in_turn m v w (with_renamed v w n f) fs others (next_made m v w n f fs others h) (len-remade v w n f less few) (omega (arith, ids)),
    )

-- ---- the copies
pub record HasRoom (n : Mesh) (others : List (List ℕ)) : Type 0 where
  pub vertices : finite.len n.points + length others ≤ n.limits.vertices
  pub faces : finite.len n.faces ≤ n.limits.faces
  pub vertex_ids : n.next_vertex + length others ≤ ID_MAX + 1
  pub face_ids : n.next_face + faces_in others ≤ ID_MAX + 1

pub copied_in_turn : (m : Mesh) (v : ℕ) → IsMesh m → (n : Mesh) (others : List (List ℕ)) (points : List Point) → IsBeforeFan m v n others → HasRoom n others → CopiedInTurn v n (zip others points)
copied_in_turn m v mesh n [] points h room = tt
copied_in_turn m v mesh n (d ∷ ds) [] h room = tt
copied_in_turn m v mesh n (d ∷ ds) (p ∷ ps) h room =
    let w = n.next_vertex in
    let made = copy_made m v n d ds p mesh h in
    let fan = len-fan m v w (with_vertex n p) d ds made in
    let points = ap finite.len (points-renamed v w (with_vertex n p) d) in
    let more = len-insert_le n.points w p in
    let ids = next_vertex-renamed v w (with_vertex n p) d in
    let a = room.vertices in
    let b = room.faces in
    let c = room.vertex_ids in
    let e = room.face_ids in
    let same = fan.0 in
    let next = fan.1 in
    let allowed = sym (limits-renamed v w (with_vertex n p) d) in (
      record {
        room = λ full. ⊎_elim (λ k. omega (arith, a, k)) (λ k. omega (arith, c, k)) full;
        faces = remade_in_turn m v w (with_vertex n p) d ds made b (omega (arith, e));
      },
      copied_in_turn m v mesh (with_copy v n (d, p)) ds ps fan.2
          (record {
            vertices = let h : finite.len (with_copy v n (d, p)).points + length ds ≤ n.limits.vertices = omega (arith, a, points, more) in subst (λ (l : Limits). finite.len (with_copy v n (d, p)).points + length ds ≤ l.vertices) allowed h;
            faces = let h : finite.len (with_copy v n (d, p)).faces ≤ n.limits.faces = omega (arith, b, same) in subst (λ (l : Limits). finite.len (with_copy v n (d, p)).faces ≤ l.faces) allowed h;
            vertex_ids = omega (arith, c, ids);
            face_ids = omega (arith, e, next);
          }),
    )

-- ---- the limits
module _ (m : Mesh) (v : ℕ) (at : Point) (sound : IsSound m) (closed : IsClosed m) (live : IsLiveVertex m v) (fits : is_over_limits (pinch_scaffold m v).mesh ≡ false) where
  abbrev others : List (List ℕ)
  others = drop 1 (fans m v)

  abbrev n : ℕ
  n = length others

  -- no count passes its limit
  over : (((nat_lt m.limits.vertices (finite.len m.points + n) || nat_lt m.limits.faces (finite.len m.faces)) || nat_lt (ID_MAX + 1) (m.next_vertex + n)) || nat_lt (ID_MAX + 1) (m.next_face + faces_in others)) ≡ false
  over = sym (scaffold_over m v sound closed live) ∙ fits

  pub room_at_first : HasRoom (with_point m v at) (drop 1 (fans m v))
  room_at_first =
      let three = first_false _ _ over in
      let two = first_false _ _ three in
      let there : finite.len (finite.insert m.points v at) ≡ finite.len m.points = len-insert nat_cmp_total m.points v at ∙ ap (λ b. cond b (finite.len m.points) (finite.len m.points + 1)) live in
      let few = ltb-false m.limits.vertices (finite.len m.points + n) (first_false _ _ two) in
      record {
        vertices = omega (arith, few, there);
        faces = sound.limits.faces;
        vertex_ids = ltb-false (ID_MAX + 1) (m.next_vertex + n) (second_false _ _ three);
        face_ids = ltb-false (ID_MAX + 1) (m.next_face + faces_in others) (second_false _ _ over);
      }

  pub pinched_in_turn : (points : List Point) → CopiedInTurn v (with_point m v at) (zip (drop 1 (fans m v)) points)
  pinched_in_turn points = copied_in_turn m v sound.is_mesh (with_point m v at) (drop 1 (fans m v)) points (first_fan m v at sound closed live) room_at_first

-- ---- the test of the limits
faces_are : (others : List (List ℕ)) → faces_in others ≡ sum (map length others)
faces_are [] = refl
faces_are (d ∷ ds) = ap (λ k. length d + k) (faces_are ds) ∙ sym (sum_by-cons (λ n. n) (length d) (map length ds))

less_room : (most there n : ℕ) → there ≤ most → nat_lt (most - there) n ≡ nat_lt most (there + n)
less_room most there n h = grind (arith, nat_tests)

none_more : (a b c : Bool) (few : Bool) → few ≡ false → (((a || few) || b) || c) ≡ ((a || b) || c)
none_more true b c few e = refl
none_more false b c few e = ap (λ k. (k || b) || c) e

pub not_over : (a b : ℕ) → b ≤ a → nat_lt a b ≡ false
not_over a b h = grind (arith, nat_tests)

module _ (m : Mesh) (v : ℕ) (sound : IsSound m) (closed : IsClosed m) (live : IsLiveVertex m v) (others : List (List ℕ)) (is : others ≡ drop 1 (fans m v)) where
  pub over_by_room : (nat_lt (m.limits.vertices - finite.len m.points) (length others) || nat_lt (ID_MAX + 1 - m.next_vertex) (length others) || nat_lt (ID_MAX + 1 - m.next_face) (sum (map length others))) ≡ is_over_limits (pinch_scaffold m v).mesh
  over_by_room =
      let n = length others in
      let k = faces_in others in
      let one = less_room m.limits.vertices (finite.len m.points) n sound.limits.vertices in
      let two = less_room (ID_MAX + 1) m.next_vertex n sound.limits.vertex_ids.1 in
      let three = ap (nat_lt (ID_MAX + 1 - m.next_face)) (sym (faces_are others)) ∙ less_room (ID_MAX + 1) m.next_face k sound.limits.face_ids.1 in
      (λ i. (one i || two i) || three i)
      ∙ sym (none_more (nat_lt m.limits.vertices (finite.len m.points + n)) (nat_lt (ID_MAX + 1) (m.next_vertex + n)) (nat_lt (ID_MAX + 1) (m.next_face + k)) (nat_lt m.limits.faces (finite.len m.faces)) (not_over m.limits.faces (finite.len m.faces) sound.limits.faces))
      ∙ ap (λ l. are_over m.limits (finite.len m.points + length l) (finite.len m.faces) (m.next_vertex + length l) (m.next_face + faces_in l)) is
      ∙ sym (scaffold_over m v sound closed live)
