-- The third act of a collapse: faces go with their opposites. What is left after it has no face at b, and is closed.
use Rattle.std.proofs.Common.{◌≡◌, ◌≢◌, ◌⊎◌, ⊎_elim, inl, inr, ℕ, zero, suc, ◌+◌, Bool, true, false, ◌&&◌, ◌||◌, ◌==◌, [], ◌∷◌, Option, Some, None, IsSome, is_some, slice_get, refl, sym, ap, subst, ◌∙◌, arith}
use Rattle.std.proofs.lemmas.Bool.{eqb-true}
use Rattle.std.specs.Option.{option_map, option_map_or}
use Rattle.std.specs.List as list
use Rattle.std.specs.FinMap as finite
use Rattle.mesh_base.specs.declared.ids.Corners.{Corners}
use Rattle.mesh_base.specs.Mesh.{Mesh, IdSet, is_solid, IsSound, IsLiveVertex, HasCorners, AreDifferent, equal_up_to_rotation}
use Rattle.mesh_base.specs.Sides.{has_corner, IsClosed}
use Rattle.mesh_base.specs.Changes.{without_face}
use Rattle.mesh_base.proofs.Finite.{got_after_remove, live_after_remove}
use Rattle.mesh_base.proofs.Listed.{and_first, and_second, or_either}
use Rattle.edit_base.specs.Edges.{corners_from, renamed, without_faces}
use Rattle.edit_collapse.specs.Collapse.{without_shared, with_joined, are_opposite, least_opposite, with_opposites, with_one_cancelled, cancelled_times, joined_faces}
use Rattle.edit_base.proofs.Arcs.{round, other_way}
use Rattle.edit_acts.proofs.Flow.{below-without, still_there}
use Rattle.edit_collapse.proofs.Cancelled.{first_made}
use Rattle.edit_acts.proofs.Found.{found_both}
use Rattle.edit_collapse.proofs.Carried.{moved, weight, weight_round, spun, total_without, IsEven, closed_of_even}
use Rattle.edit_collapse.proofs.Joined.{Stage, each_there, different_renamed, renamed_without, second_stage}

-- ---- opposite corners
pub rotated : (x y z d e f : ℕ) → equal_up_to_rotation (corners_from x y z) (corners_from d e f) ≡ true →
    ((x ≡ d) × (y ≡ e) × (z ≡ f)) ⊎ (((y ≡ d) × (z ≡ e) × (x ≡ f)) ⊎ ((z ≡ d) × (x ≡ e) × (y ≡ f)))
rotated x y z d e f h = ⊎_elim
    (λ two. ⊎_elim (λ g. inl (all_three x y z g)) (λ g. inr (inl (all_three y z x g))) (or_either (x == d && y == e && z == f) (y == d && z == e && x == f) two))
    (λ g. inr (inr (all_three z x y g)))
    (or_either ((x == d && y == e && z == f) || (y == d && z == e && x == f)) (z == d && x == e && y == f) h)
  where
    all_three : (p q r : ℕ) → (p == d && q == e && r == f) ≡ true → (p ≡ d) × (q ≡ e) × (r ≡ f)
    all_three p q r g =
        let first = and_first (p == d && q == e) (r == f) g in
        (eqb-true p d (and_first (p == d) (q == e) first), eqb-true q e (and_second (p == d) (q == e) first), eqb-true r f (and_second (p == d && q == e) (r == f) g))

reversed : (p q r u v : ℕ) → round r q p u v ≡ round p q r v u
reversed p q r u v = total _ _ _ _ _ _ (other_way r q u v) (other_way q p u v) (other_way p r u v)
  where
    total : (x y z x' y' z' : ℕ) → x ≡ y' → y ≡ x' → z ≡ z' → x + y + z ≡ x' + y' + z'
    total x y z x' y' z' e f g = omega arith

module _ (a b : ℕ) (c d : Corners) (opposite : are_opposite c d ≡ true) where
  cases : ((c.third ≡ d.first) × (c.second ≡ d.second) × (c.first ≡ d.third))
      ⊎ (((c.second ≡ d.first) × (c.first ≡ d.second) × (c.third ≡ d.third)) ⊎ ((c.first ≡ d.first) × (c.third ≡ d.second) × (c.second ≡ d.third)))
  cases = rotated c.third c.second c.first d.first d.second d.third opposite

  -- no face is its own opposite
  not_itself : AreDifferent c → c ≡ d → ⊥
  not_itself different same = ⊎_elim
      (λ e. different.third_first (e.0 ∙ sym (ap (λ (k : Corners). k.first) same)))
      (λ es. ⊎_elim
      (λ e. different.first_second (sym (e.0 ∙ sym (ap (λ (k : Corners). k.first) same))))
      (λ e. different.second_third (sym (e.1 ∙ sym (ap (λ (k : Corners). k.second) same))))
      es)
      cases

  abbrev round_moved : ℕ → ℕ → ℕ → ℕ → ℕ → ℕ
  round_moved x y z u v = round (moved b a x) (moved b a y) (moved b a z) u v

  -- its steps go the other way
  opposite_weight : a ≢ b → AreDifferent c → AreDifferent d → (u v : ℕ) → weight a b d u v ≡ weight a b c v u
  opposite_weight apart different_c different_d u v =
      weight_round a b d u v apart different_d ∙ by_case ∙ reversed (moved b a c.first) (moved b a c.second) (moved b a c.third) u v ∙ sym (weight_round a b c v u apart different_c)
    where
      by_case : round_moved d.first d.second d.third u v ≡ round_moved c.third c.second c.first u v
      by_case = ⊎_elim
          (λ e. λ i. round_moved (sym e.0 i) (sym e.1 i) (sym e.2 i) u v)
          (λ es. ⊎_elim
          (λ e. (λ i. round_moved (sym e.0 i) (sym e.1 i) (sym e.2 i) u v) ∙ sym (spun (moved b a c.third) (moved b a c.second) (moved b a c.first) u v))
          (λ e. (λ i. round_moved (sym e.0 i) (sym e.1 i) (sym e.2 i) u v) ∙ spun (moved b a c.first) (moved b a c.third) (moved b a c.second) u v)
          es)
          cases

-- ---- the first face that has an opposite, and its opposite
pair_parts : (k f g : ℕ) (o : Option ℕ) → option_map {U = ℕ × ℕ} (λ opposite. (k, opposite)) o ≡ Some (f, g) → (k ≡ f) × (o ≡ Some g)
pair_parts k f g (Some opposite) e =
    let kept : ℕ × ℕ = (k, opposite) in
    let given : ℕ × ℕ = (f, g) in
    let same : kept ≡ given = cc in
    (ap (λ (t : ℕ × ℕ). t.0) same, ap (λ (t : ℕ × ℕ). Some t.1) same)
pair_parts k f g None e = absurd cc

name_of : (g : ℕ) (o : Option (ℕ × Corners)) → option_map (λ (e : ℕ × Corners). e.0) o ≡ Some g → (x : ℕ × Corners) × (o ≡ Some x) × (x.0 ≡ g)
name_of g (Some x) e = let same : x.0 ≡ g = cc in (x, refl, same)
name_of g None e = absurd cc

-- two faces, opposite to each other
record AreTwo (n : Mesh) (f g : ℕ) : Type 0 where
  pub c : Corners
  pub d : Corners
  pub first : HasCorners n f c
  pub second : HasCorners n g d
  pub opposite : are_opposite c d ≡ true

two_of : (n : Mesh) (a f g : ℕ) → slice_get (with_opposites n a) 0 ≡ Some (f, g) → AreTwo n f g
two_of n a f g e =
    let made = first_made (λ (x : ℕ × Corners). HasCorners n x.0 x.1) (λ x. has_corner x.1 a) (λ x. option_map {U = ℕ × ℕ} (λ opposite. (x.0, opposite)) (least_opposite n x.1)) (finite.entries n.faces) (f, g) (each_there n) e in
    let parts = pair_parts (made.0).0 f g (least_opposite n (made.0).1) made.2 in
    let other = name_of g (list.find (λ (x : ℕ × Corners). are_opposite (made.0).1 x.1) (finite.entries n.faces)) parts.1 in
    let found = found_both (λ (x : ℕ × Corners). HasCorners n x.0 x.1) (λ x. are_opposite (made.0).1 x.1) (finite.entries n.faces) other.0 (each_there n) other.1 in
    record {
      c = (made.0).1;
      d = (other.0).1;
      first = subst (λ k. HasCorners n k (made.0).1) parts.0 made.1;
      second = subst (λ k. HasCorners n k (other.0).1) other.2 found.0;
      opposite = found.1;
    }

-- ---- they are dropped
module _ (m : Mesh) (a b : ℕ) (sound : IsSound m) (apart : a ≢ b) where
  -- no face is left at b
  pub lacks_b : (n : Mesh) → Stage m a b n [] → (f : ℕ) (c : Corners) → HasCorners n f c → has_corner c b ≡ false
  lacks_b n s f c there = by_test (has_corner c b) refl
    where
      by_test : (t : Bool) → has_corner c b ≡ t → has_corner c b ≡ false
      by_test true e = absurd (s.others f c there e tt)
      by_test false e = e

  -- each face is an old one, renamed
  pub is_renamed : (n : Mesh) (s : Stage m a b n []) (f : ℕ) (c : Corners) (there : HasCorners n f c) → c ≡ renamed b a (s.came f c there).from
  is_renamed n s f c there = sym (renamed_without a b c (lacks_b n s f c there)) ∙ (s.came f c there).alike

  pub different_left : (n : Mesh) → Stage m a b n [] → (f : ℕ) (c : Corners) → HasCorners n f c → AreDifferent c
  different_left n s f c there =
      let old = s.came f c there in
      subst AreDifferent (sym (is_renamed n s f c there)) (different_renamed a b old.from (sound.is_mesh.different_corners old.face old.from old.there) old.single)

  dropped : (n : Mesh) (f : ℕ) → Stage m a b n [] → Stage m a b (without_face n f) []
  dropped n f s = record {
    below = below-without n f s.below;
    first = s.first;
    ids = λ g live. s.ids g (live_after_remove n.faces f g live).1;
    points = s.points;
    solid = s.solid;
    next = s.next;
    limits = s.limits;
    came = λ g c there. s.came g c (got_after_remove n.faces f g c there).1;
    waiting = tt;
    others = λ g c there has_b off. s.others g c (got_after_remove n.faces f g c there).1 has_b off;
  }

  two_even : (n : Mesh) (f g : ℕ) → Stage m a b n [] → AreTwo n f g → IsEven a b n → IsEven a b (without_faces n (f ∷ g ∷ []))
  two_even n f g s two even u v =
      let c_different = different_left n s f two.c two.first in
      let d_different = different_left n s g two.d two.second in
      let f_g : f ≢ g = λ same. not_itself a b two.c two.d two.opposite c_different (same_corners n f g two.c two.d same two.first two.second) in
      let left = still_there n f g two.d f_g two.second in
      balance _ _ _ _ _ _ _ _ _ _
      (total_without a b n f two.c two.first u v) (total_without a b n f two.c two.first v u)
      (total_without a b (without_face n f) g two.d left u v) (total_without a b (without_face n f) g two.d left v u)
      (opposite_weight a b two.c two.d two.opposite apart c_different d_different u v) (opposite_weight a b two.c two.d two.opposite apart c_different d_different v u) (even u v)
    where
      balance : (x x' w w' t t' k k' y y' : ℕ) → x + w ≡ t → x' + w' ≡ t' → y + k ≡ x → y' + k' ≡ x' → k ≡ w' → k' ≡ w → t ≡ t' → y ≡ y'
      balance x x' w w' t t' k k' y y' e f g h i j l = omega arith

      same_corners : (n : Mesh) (f g : ℕ) (c d : Corners) → f ≡ g → HasCorners n f c → HasCorners n g d → c ≡ d
      same_corners n f g c d same h k = let both : Some c ≡ Some d = sym h ∙ ap (finite.get n.faces) same ∙ k in cc

  one_cancelled : (n : Mesh) → Stage m a b n [] × IsEven a b n → Stage m a b (with_one_cancelled a n) [] × IsEven a b (with_one_cancelled a n)
  one_cancelled n s = by_first (slice_get (with_opposites n a) 0) refl
    where
      by_first : (o : Option (ℕ × ℕ)) → slice_get (with_opposites n a) 0 ≡ o →
          Stage m a b (option_map_or (λ two. without_faces n (two.0 ∷ two.1 ∷ [])) o n) [] × IsEven a b (option_map_or (λ two. without_faces n (two.0 ∷ two.1 ∷ [])) o n)
      by_first (Some two) e = (dropped (without_face n two.0) two.1 (dropped n two.0 s.0), two_even n two.0 two.1 s.0 (two_of n a two.0 two.1 e) s.1)
      by_first None e = s

  times_cancelled : (k : ℕ) (n : Mesh) → Stage m a b n [] × IsEven a b n → Stage m a b (cancelled_times k a n) [] × IsEven a b (cancelled_times k a n)
  times_cancelled zero n s = s
  times_cancelled (suc k) n s = times_cancelled k (with_one_cancelled a n) (one_cancelled n s)

  module _ (closed : IsClosed m) where
    third_stage : Stage m a b (joined_faces m a b) [] × IsEven a b (joined_faces m a b)
    third_stage = times_cancelled (finite.len (with_joined (without_shared m a b) a b).faces) (with_joined (without_shared m a b) a b) (second_stage m a b sound closed apart)

    pub joined : Stage m a b (joined_faces m a b) []
    joined = third_stage.0

    -- each solid vertex is live
    pub joined_solid : (v : ℕ) → is_solid (joined_faces m a b) v ≡ true → IsLiveVertex (joined_faces m a b) v
    joined_solid v solid = subst (λ ps. IsSome (finite.get ps v)) (sym joined.points) (sound.is_mesh.solid_ids v (subst (λ (marks : IdSet). is_some (finite.get marks v) ≡ true) joined.solid solid))

    pub joined_is_closed : IsClosed (joined_faces m a b)
    joined_is_closed = closed_of_even a b (joined_faces m a b) (lacks_b (joined_faces m a b) joined) third_stage.1
