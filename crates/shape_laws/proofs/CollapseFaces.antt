-- The faces after a collapse, where no faces cancel: those that hold one end at most, with a in the place of b.
use Rattle.std.proofs.Common.{◌≡◌, ◌≢◌, ℕ, zero, suc, ◌+◌, ◌==◌, ◌||◌, ◌&&◌, Bool, true, false, not, List, [], ◌∷◌, Option, Some, None, slice_get, inl, inr, ⊎_elim, refl, sym, ap, subst, ◌∙◌}
use Rattle.std.proofs.lemmas.Bool.{eqb-true}
use Rattle.std.specs.Option.{option_map, option_map_or}
use Rattle.std.specs.List.{filter_map, find, cons_option, AllByRecursion}
use Rattle.std.specs.FinMap as finite
use Rattle.mesh_base.specs.declared.ids.Corners.{Corners}
use Rattle.mesh_base.specs.Mesh.{Mesh, IsSound, HasCorners, AreDifferent}
use Rattle.mesh_base.specs.Sides.{has_corner, follows, IsClosed}
use Rattle.mesh_base.proofs.Listed.{or_either, at_key, all_filter}
use Rattle.mesh_base.proofs.Tests.{and_both}
use Rattle.edit_base.specs.Edges.{corners_from, renamed, without_faces}
use Rattle.edit_acts.proofs.Found.{found_both}
use Rattle.edit_acts.proofs.FaceCorners.{step_one, step_two, step_three}
use Rattle.edit_collapse.specs.Collapse.{without_shared, with_joined, joined_faces, are_opposite, with_opposites, with_one_cancelled, cancelled_times}
use Rattle.edit_collapse.specs.Tried.{only_at, numbered, two_in, opposite_in, joined_at}
use Rattle.edit_collapse.proofs.Carried.{moved}
use Rattle.edit_collapse.proofs.Joined.{Stage, holds_both, not_two, renamed_without, second_stage}
use Rattle.edit_collapse.proofs.JoinedFaces.{rotated, joined, is_renamed}
use Rattle.edit_collapse.proofs.Acts.{faces_kept_at, each_at, same_two, one_stays, joined_list}
use Rattle.edit_collapse.proofs.Three.{two_stays}
use Rattle.shape_laws.proofs.Lists.{In}
use Rattle.shape_laws.proofs.Numbers.{at_in, each_in}
use Rattle.shape_laws.proofs.Chained.{Holds}
use Rattle.shape_laws.proofs.Traded.{in_second}
use Rattle.shape_laws.proofs.Faces.{AreAlike, or_turned, of_three, of_steps, corner_one, corner_two, corner_three}

-- ---- a face from one of its corners on
-- the three corners from p on are p, x and y; and so they are with other vertices in their places
pub record Turn (c : Corners) (p : ℕ) : Type 0 where
  pub x : ℕ
  pub y : ℕ
  pub p_x : p ≢ x
  pub x_y : x ≢ y
  pub y_p : y ≢ p
  pub alike : (g : ℕ → ℕ) → AreAlike (corners_from (g c.first) (g c.second) (g c.third)) (corners_from (g p) (g x) (g y))

pub turn_at : (c : Corners) (p : ℕ) → AreDifferent c → has_corner c p ≡ true → Turn c p
turn_at c p different h = ⊎_elim
    (λ two. ⊎_elim (λ e. first (eqb-true c.first p e)) (λ e. second (eqb-true c.second p e)) (or_either (c.first == p) (c.second == p) two))
    (λ e. third (eqb-true c.third p e))
    (or_either ((c.first == p) || (c.second == p)) (c.third == p) h)
  where
    first : c.first ≡ p → Turn c p
    first e = record {
      x = c.second;
      y = c.third;
      p_x = λ k. different.first_second (e ∙ k);
      x_y = different.second_third;
      y_p = λ k. different.third_first (k ∙ sym e);
      alike = λ g. record { steps = λ u v i. follows (corners_from (g (e i)) (g c.second) (g c.third)) u v; corners = λ v i. has_corner (corners_from (g (e i)) (g c.second) (g c.third)) v };
    }

    second : c.second ≡ p → Turn c p
    second e = record {
      x = c.third;
      y = c.first;
      p_x = λ k. different.second_third (e ∙ k);
      x_y = different.third_first;
      y_p = λ k. different.first_second (k ∙ sym e);
      alike = λ g. record {
        steps = λ u v. or_turned (g c.first == u && g c.second == v) (g c.second == u && g c.third == v) (g c.third == u && g c.first == v) ∙ (λ i. follows (corners_from (g (e i)) (g c.third) (g c.first)) u v);
        corners = λ v. or_turned (g c.first == v) (g c.second == v) (g c.third == v) ∙ (λ i. has_corner (corners_from (g (e i)) (g c.third) (g c.first)) v);
      };
    }

    third : c.third ≡ p → Turn c p
    third e = record {
      x = c.first;
      y = c.second;
      p_x = λ k. different.third_first (e ∙ k);
      x_y = different.first_second;
      y_p = λ k. different.second_third (k ∙ sym e);
      alike = λ g. record {
        steps = λ u v. or_turned (g c.first == u && g c.second == v) (g c.second == u && g c.third == v) (g c.third == u && g c.first == v) ∙ or_turned (g c.second == u && g c.third == v) (g c.third == u && g c.first == v) (g c.first == u && g c.second == v) ∙ (λ i. follows (corners_from (g (e i)) (g c.first) (g c.second)) u v);
        corners = λ v. or_turned (g c.first == v) (g c.second == v) (g c.third == v) ∙ or_turned (g c.second == v) (g c.third == v) (g c.first == v) ∙ (λ i. has_corner (corners_from (g (e i)) (g c.first) (g c.second)) v);
      };
    }

-- ---- corners with a in the place of b
module _ (a b : ℕ) (c : Corners) where
  abbrev to : ℕ → ℕ
  to v = moved b a v

  pub renamed_step : (u v : ℕ) → follows c u v ≡ true → follows (renamed b a c) (to u) (to v) ≡ true
  renamed_step u v h = of_steps (λ p q. follows (renamed b a c) (to p) (to q) ≡ true) c.first c.second c.third u v
      (step_one (to c.first) (to c.second) (to c.third)) (step_two (to c.first) (to c.second) (to c.third)) (step_three (to c.first) (to c.second) (to c.third)) h

  pub renamed_corner : (v : ℕ) → has_corner c v ≡ true → has_corner (renamed b a c) (to v) ≡ true
  renamed_corner v h = of_three (λ p. has_corner (renamed b a c) (to p) ≡ true) c.first c.second c.third v
      (corner_one (to c.first) (to c.second) (to c.third)) (corner_two (to c.first) (to c.second) (to c.third)) (corner_three (to c.first) (to c.second) (to c.third)) h

  -- each step, and each corner, is that of one before
  pub was_step : (u v : ℕ) → follows (renamed b a c) u v ≡ true → (p : ℕ) × (q : ℕ) × (follows c p q ≡ true) × (to p ≡ u) × (to q ≡ v)
  was_step u v h = of_steps (λ u v. (p : ℕ) × (q : ℕ) × (follows c p q ≡ true) × (to p ≡ u) × (to q ≡ v)) (to c.first) (to c.second) (to c.third) u v
      (c.first, c.second, step_one c.first c.second c.third, refl, refl)
      (c.second, c.third, step_two c.first c.second c.third, refl, refl)
      (c.third, c.first, step_three c.first c.second c.third, refl, refl) h

  pub was_corner : (v : ℕ) → has_corner (renamed b a c) v ≡ true → (p : ℕ) × (has_corner c p ≡ true) × (to p ≡ v)
  was_corner v h = of_three (λ v. (p : ℕ) × (has_corner c p ≡ true) × (to p ≡ v)) (to c.first) (to c.second) (to c.third) v
      (c.first, corner_one c.first c.second c.third, refl)
      (c.second, corner_two c.first c.second c.third, refl)
      (c.third, corner_three c.first c.second c.third, refl) h

-- opposite corners have the steps the other way
pub opposite_step : (c d : Corners) (u v : ℕ) → are_opposite c d ≡ true → follows c u v ≡ true → follows d v u ≡ true
opposite_step c d u v opposite h = of_steps (λ p q. follows d q p ≡ true) c.first c.second c.third u v (three.0) (three.1) (three.2) h
  where
    at : (x y p q : ℕ) → x ≡ p → y ≡ q → follows d p q ≡ true → follows d x y ≡ true
    at x y p q e f k = subst (λ z. follows d z y ≡ true) (sym e) (subst (λ z. follows d p z ≡ true) (sym f) k)

    one : follows d d.first d.second ≡ true
    one = step_one d.first d.second d.third

    two : follows d d.second d.third ≡ true
    two = step_two d.first d.second d.third

    last : follows d d.third d.first ≡ true
    last = step_three d.first d.second d.third

    three : (follows d c.second c.first ≡ true) × (follows d c.third c.second ≡ true) × (follows d c.first c.third ≡ true)
    three = ⊎_elim
        (λ e. (at c.second c.first d.second d.third e.1 e.2 two, at c.third c.second d.first d.second e.0 e.1 one, at c.first c.third d.third d.first e.2 e.0 last))
        (λ rest. ⊎_elim
        (λ e. (at c.second c.first d.first d.second e.0 e.1 one, at c.third c.second d.third d.first e.2 e.0 last, at c.first c.third d.second d.third e.1 e.2 two))
        (λ e. (at c.second c.first d.third d.first e.2 e.0 last, at c.third c.second d.second d.third e.1 e.2 two, at c.first c.third d.first d.second e.0 e.1 one))
        rest)
        (rotated c.third c.second c.first d.first d.second d.third opposite)

-- ---- what cancels
first_mapped : {X Y : Type 0} (P : X → Type 0) (make : X → Option Y) (xs : List X) (y : Y) → AllByRecursion P xs → slice_get (filter_map make xs) 0 ≡ Some y → (x : X) × P x × (make x ≡ Some y)
first_mapped P make [] y h e = cc
first_mapped {X} {Y} P make (x ∷ xs) y h e = by_made (first_mapped P make xs y h.1) (make x) refl e
  where
    by_made : (slice_get (filter_map make xs) 0 ≡ Some y → (x : X) × P x × (make x ≡ Some y)) → (o : Option Y) → make x ≡ o → slice_get (cons_option o (filter_map make xs)) 0 ≡ Some y → (x : X) × P x × (make x ≡ Some y)
    by_made rest None m e = rest e
    by_made rest (Some z) m e = let same : Some z ≡ Some y = cc in (x, h.0, m ∙ same)

numbered_has : (a b : ℕ) (es : List (ℕ × Corners)) (next f : ℕ) (c : Corners) → In es (f, c) → (k : ℕ) × In (numbered b a next es) (k, renamed b a c)
numbered_has a b [] next f c i = absurd i
numbered_has a b (e ∷ es) next f c i = ⊎_elim
    (λ same. (next, inl (λ j. (next, renamed b a (same j).1))))
    (λ j. behind (numbered_has a b es (next + 1) f c j))
    i
  where
    behind : (k : ℕ) × In (numbered b a (next + 1) es) (k, renamed b a c) → (k : ℕ) × In (numbered b a next (e ∷ es)) (k, renamed b a c)
    behind r = (r.0, inr r.1)

-- a face that is not there before a collapse, as it is there behind it
pub record Was (m : Mesh) (a b : ℕ) (c : Corners) : Type 0 where
  pub from : Corners
  pub there : Holds m from
  pub single : holds_both a b from ≡ false
  pub is : c ≡ renamed b a from

module _ (m : Mesh) (a b : ℕ) (sound : IsSound m) (closed : IsClosed m) (apart : a ≢ b) where
  abbrev pub two : Mesh
  two = with_joined (without_shared m a b) a b

  abbrev pub three : Mesh
  three = joined_faces m a b

  was_of : (n : Mesh) → Stage m a b n [] → (c : Corners) → Holds n c → Was m a b c
  was_of n stage c h =
      let old = stage.came h.0 c h.1 in
      record { from = old.from; there = (old.face, old.there); single = old.single; is = is_renamed m a b sound apart n stage h.0 c h.1 }

  pub was_in_two : (c : Corners) → Holds two c → Was m a b c
  was_in_two c h = was_of two (second_stage m a b sound closed apart).0 c h

  pub was_in_three : (c : Corners) → Holds three c → Was m a b c
  was_in_three c h = was_of three (joined m a b sound apart closed) c h

  made_again : (f : ℕ) (c : Corners) → HasCorners m f c → has_corner c b ≡ true → has_corner c a ≡ false → Holds two (renamed b a c)
  made_again f c there has_b no_a =
      let test : ℕ × Corners → Bool = λ e. has_corner e.1 b && not (has_corner e.1 a) in
      let listed : In (only_at m b a) (f, c) = at_key (λ (e : ℕ × Corners). test e ≡ true → In (only_at m b a) e) m.faces f c
      (all_filter (In (only_at m b a)) test (finite.entries m.faces) (each_in (only_at m b a))) there
      (and_both (has_corner c b) (not (has_corner c a)) has_b (ap not no_a)) in
      let k = numbered_has a b (only_at m b a) m.next_face f c listed in
      let all : In (joined_at m a b) (k.0, renamed b a c) = subst (λ es. In es (k.0, renamed b a c)) (sym (joined_list m a b sound apart)) (in_second (only_at m a b) (numbered b a m.next_face (only_at m b a)) (k.0, renamed b a c) k.1) in
      (k.0, (at_in (λ (e : ℕ × Corners). HasCorners two e.0 e.1 × (has_corner e.1 a ≡ true)) (faces_kept_at a two) (k.0, renamed b a c) (each_at a two) all).0)

  two_has : (c : Corners) → Holds m c → holds_both a b c ≡ false → Holds two (renamed b a c)
  two_has c h single = by_test (has_corner c b) refl
    where
      no_a : has_corner c b ≡ true → (t : Bool) → has_corner c a ≡ t → has_corner c a ≡ false
      no_a has_b true e = absurd (not_two a b c single e has_b)
      no_a has_b false e = e

      by_test : (t : Bool) → has_corner c b ≡ t → Holds two (renamed b a c)
      by_test true e = made_again h.0 c h.1 e (no_a e (has_corner c a) refl)
      by_test false e = subst (Holds two) (sym (renamed_without a b c e)) (h.0, two_stays m a b sound apart h.0 c (one_stays m a b sound apart h.0 c h.1 single) e)

  module _ (never : (c d : Corners) → Holds two c → Holds two d → has_corner c a ≡ true → are_opposite c d ≡ true → ⊥) where
    abbrev es : List (ℕ × Corners)
    es = faces_kept_at a two

    abbrev Held : ℕ × Corners → Type 0
    Held e = HasCorners two e.0 e.1 × (has_corner e.1 a ≡ true)

    none_found : (x : ℕ × Corners) (t : ℕ × ℕ) → Held x → (o : Option (ℕ × Corners)) → find (λ (e : ℕ × Corners). are_opposite x.1 e.1) es ≡ o → option_map {U = ℕ × ℕ} (λ opposite. (x.0, opposite)) (option_map (λ (e : ℕ × Corners). e.0) o) ≡ Some t → ⊥
    none_found x t held None is e = cc
    none_found x t held (Some y) is e =
        let found = found_both Held (λ (e : ℕ × Corners). are_opposite x.1 e.1) es y (each_at a two) is in
        never x.1 y.1 (x.0, held.0) (y.0, (found.0).0) held.1 found.1

    none : slice_get (with_opposites two a) 0 ≡ None
    none = same_two a two ∙ by_answer (two_in es) refl
      where
        by_answer : (o : Option (ℕ × ℕ)) → two_in es ≡ o → o ≡ None
        by_answer None e = refl
        by_answer (Some t) e =
            let made = first_mapped Held (λ (x : ℕ × Corners). option_map {U = ℕ × ℕ} (λ opposite. (x.0, opposite)) (opposite_in es x.1)) es t (each_at a two) e in
            absurd (none_found made.0 t made.1 (find (λ (e : ℕ × Corners). are_opposite (made.0).1 e.1) es) refl made.2)

    once : with_one_cancelled a two ≡ two
    once = ap (λ o. option_map_or (λ (t : ℕ × ℕ). without_faces two (t.0 ∷ t.1 ∷ [])) o two) none

    no_times : (k : ℕ) → cancelled_times k a two ≡ two
    no_times zero = refl
    no_times (suc k) = ap (cancelled_times k a) once ∙ no_times k

    pub three_is_two : three ≡ two
    three_is_two = no_times (finite.len two.faces)

    pub three_has : (c : Corners) → Holds m c → holds_both a b c ≡ false → Holds three (renamed b a c)
    three_has c h single = subst (λ n. Holds n (renamed b a c)) (sym three_is_two) (two_has c h single)
