-- The first three acts of a collapse: each face that is left was one of the old mesh, renamed, and the steps of all faces stay even.
use Rattle.std.proofs.Common.{◌≡◌, ◌≢◌, ⊎_elim, ℕ, ◌+◌, ◌<◌, ◌≤◌, Bool, true, false, cond, ◌&&◌, ◌==◌, T, nat_lt, List, [], ◌∷◌, map, Option, Some, None, is_some, refl, sym, ap, subst, ◌∙◌, arith}
use Rattle.std.proofs.lemmas.Bool.{false≢true}
use Rattle.std.proofs.lemmas.Bool.Decides.{nat_tests}
use Rattle.std.specs.Option.{unwrap_or}
use Rattle.std.specs.List.{filter, AllByRecursion}
use Rattle.std.specs.Ordering.{nat_cmp, eq_by_cmp}
use Rattle.std.specs.Cmp.{nat_cmp_total, unsigned_tied}
use Rattle.std.specs.FinMap as finite
use Rattle.std.specs.FinMap.{same_map, nat_cmp-IsAntisymmetric, get-insert, get-remove, get-entries, entries_sorted}
use Rattle.std.specs.FinMap.Entries.{find, is_sorted, below_all}
use Rattle.std.proofs.lemmas.Map.Lookups.{exact_unsigned}
use Rattle.std.proofs.lemmas.Map.Views.{tells_apart}
use Rattle.mesh_base.specs.declared.ids.Corners.{Corners}
use Rattle.mesh_base.specs.Mesh.{Mesh, IsSound, IsLiveFace, HasCorners, AreDifferent}
use Rattle.mesh_base.specs.Sides.{has_corner, ids_where, faces_where, IsClosed}
use Rattle.mesh_base.specs.Changes.{with_face, without_face}
use Rattle.mesh_base.proofs.Finite.{got_after_insert, live_after_insert, got_after_remove, live_after_remove}
use Rattle.mesh_base.proofs.Listed.{each_found, all_map, all_filter, at_key, and_first, and_second}
use Rattle.mesh_base.proofs.ListedPairs.{all_weaker, all_mapped, all_filtered}
use Rattle.mesh_base.proofs.Tests.{and_both}
use Rattle.mesh_base.proofs.WalkSteps as above
use Rattle.mesh_base.proofs.WalkSteps.{both_of}
use Rattle.edit_base.specs.Edges.{renamed, without_faces, with_renamed, with_all_renamed}
use Rattle.edit_collapse.specs.Collapse.{without_shared, with_joined}
use Rattle.edit_acts.proofs.Flow.{AreBelow, below-with, below-without, still_there, below_next}
use Rattle.edit_acts.proofs.Changed.{points-without_faces, solid-without_faces, next_face-without_faces}
use Rattle.edit_acts.proofs.FaceCorners.{no_corner, same_corners}
use Rattle.edit_collapse.proofs.Carried.{moved, moved_either, moved_never, moved_stays, weight, weight_renamed, IsEvenWeight, even_both, total_without, total_with, IsEven, even_of_closed, even_without}

-- ---- corners
-- a face holds both
abbrev pub holds_both : ℕ → ℕ → Corners → Bool
holds_both a b c = has_corner c a && has_corner c b

pub first_held : (c : Corners) (v : ℕ) → c.first ≡ v → has_corner c v ≡ true
first_held c v e = grind (arith, nat_tests)

pub second_held : (c : Corners) (v : ℕ) → c.second ≡ v → has_corner c v ≡ true
second_held c v e = grind (arith, nat_tests)

pub third_held : (c : Corners) (v : ℕ) → c.third ≡ v → has_corner c v ≡ true
third_held c v e = grind (arith, nat_tests)

pub not_two : (a b : ℕ) (c : Corners) → holds_both a b c ≡ false → has_corner c a ≡ true → has_corner c b ≡ true → ⊥
not_two a b c single has_a has_b = false≢true (sym single ∙ and_both (has_corner c a) (has_corner c b) has_a has_b)

-- two that are not a and b stay two
moved_apart : (a b x y : ℕ) → x ≢ y → (x ≡ a → y ≡ b → ⊥) → (y ≡ a → x ≡ b → ⊥) → moved b a x ≢ moved b a y
moved_apart a b x y apart one two same = ⊎_elim
    (λ e. ⊎_elim (λ f. apart (e.0 ∙ sym f.0)) (λ f. two (sym f.1 ∙ sym same ∙ e.1) e.0) (moved_either b a y))
    (λ e. ⊎_elim (λ f. one (sym e.1 ∙ same ∙ f.1) f.0) (λ f. apart (sym e.1 ∙ same ∙ f.1)) (moved_either b a y))
    (moved_either b a x)

pub different_renamed : (a b : ℕ) (c : Corners) → AreDifferent c → holds_both a b c ≡ false → AreDifferent (renamed b a c)
different_renamed a b c different single = record {
  first_second = moved_apart a b c.first c.second different.first_second
      (λ e f. not_two a b c single (first_held c a e) (second_held c b f)) (λ e f. not_two a b c single (second_held c a e) (first_held c b f));
  second_third = moved_apart a b c.second c.third different.second_third
      (λ e f. not_two a b c single (second_held c a e) (third_held c b f)) (λ e f. not_two a b c single (third_held c a e) (second_held c b f));
  third_first = moved_apart a b c.third c.first different.third_first
      (λ e f. not_two a b c single (third_held c a e) (first_held c b f)) (λ e f. not_two a b c single (first_held c a e) (third_held c b f));
}

pub renamed_twice : (a b : ℕ) (c : Corners) → a ≢ b → renamed b a (renamed b a c) ≡ renamed b a c
renamed_twice a b c apart = λ i. record { first = still c.first i; second = still c.second i; third = still c.third i }
  where
    still : (x : ℕ) → moved b a (moved b a x) ≡ moved b a x
    still x = moved_stays b a (moved b a x) (moved_never b a x apart)

pub none_held : (c : Corners) (v : ℕ) → c.first ≢ v → c.second ≢ v → c.third ≢ v → has_corner c v ≡ false
none_held c v p q r = grind (arith, nat_tests)

pub renamed_lacks : (a b : ℕ) (c : Corners) → a ≢ b → has_corner (renamed b a c) b ≡ false
renamed_lacks a b c apart = none_held (renamed b a c) b (moved_never b a c.first apart) (moved_never b a c.second apart) (moved_never b a c.third apart)

pub renamed_without : (a b : ℕ) (c : Corners) → has_corner c b ≡ false → renamed b a c ≡ c
renamed_without a b c lacks = let no = no_corner c b lacks in λ i. record { first = moved_stays b a c.first no.0 i; second = moved_stays b a c.second no.1 i; third = moved_stays b a c.third no.2 i }

-- ---- faces
pub each_there : (m : Mesh) → AllByRecursion (λ (e : ℕ × Corners). HasCorners m e.0 e.1) (finite.entries m.faces)
each_there m = all_weaker (λ e. find nat_cmp e.0 (finite.entries m.faces) ≡ Some e.1) (λ e. HasCorners m e.0 e.1) (finite.entries m.faces)
    (λ e h. get-entries m.faces e.0 ∙ h) (each_found (finite.entries m.faces) (entries_sorted m.faces))

-- a face that is not there is dropped: nothing changes
pub absent_dropped : (m : Mesh) (f : ℕ) → finite.get m.faces f ≡ None → without_face m f ≡ m
absent_dropped m f none = λ i. record m { faces = same i }
  where
    same_at : (q : ℕ) → finite.get (finite.remove m.faces f) q ≡ finite.get m.faces q
    same_at q = get-remove nat_cmp_total m.faces f q ∙ by_test (eq_by_cmp nat_cmp q f) refl
      where
        by_test : (t : Bool) → eq_by_cmp nat_cmp q f ≡ t → cond t None (finite.get m.faces q) ≡ finite.get m.faces q
        by_test true e = sym none ∙ ap (finite.get m.faces) (sym (tells_apart exact_unsigned q f e))
        by_test false e = refl

    same : finite.remove m.faces f ≡ m.faces
    same = same_map nat_cmp_total nat_cmp-IsAntisymmetric (finite.remove m.faces f) m.faces same_at

pub kept_faces : (n : Mesh) (fs : List ℕ) (g : ℕ) (c : Corners) → HasCorners (without_faces n fs) g c → HasCorners n g c × AllByRecursion (λ f. g ≢ f) fs
kept_faces n [] g c h = (h, tt)
kept_faces n (f ∷ fs) g c h =
    let rest = kept_faces (without_face n f) fs g c h in
    let was = got_after_remove n.faces f g c rest.0 in
    (was.1, (was.0, rest.1))

pub kept_with : (n : Mesh) (c : Corners) (g : ℕ) (d : Corners) → g ≢ n.next_face → HasCorners n g d → HasCorners (with_face n c) g d
kept_with n c g d apart h = get-insert nat_cmp_total n.faces n.next_face c g ∙ ap (λ t. cond t (Some c) (finite.get n.faces g)) (unsigned_tied g n.next_face ∙ untied g n.next_face apart) ∙ h
  where
    untied : (x y : ℕ) → x ≢ y → (x == y) ≡ false
    untied x y k = grind (arith, nat_tests)

-- ---- the steps stay even where even faces are dropped
even_without_any : (a b : ℕ) (n : Mesh) (f : ℕ) → ((c : Corners) → HasCorners n f c → IsEvenWeight a b c) → IsEven a b n → IsEven a b (without_face n f)
even_without_any a b n f weighs even = by_answer (finite.get n.faces f) refl
  where
    by_answer : (o : Option Corners) → finite.get n.faces f ≡ o → IsEven a b (without_face n f)
    by_answer (Some c) e = even_without a b n f c e (weighs c e) even
    by_answer None e = subst (IsEven a b) (sym (absent_dropped n f e)) even

even_without_faces : (a b : ℕ) (n : Mesh) (fs : List ℕ) → AllByRecursion (λ f. (c : Corners) → HasCorners n f c → IsEvenWeight a b c) fs → IsEven a b n → IsEven a b (without_faces n fs)
even_without_faces a b n [] h even = even
even_without_faces a b n (f ∷ fs) h even =
    even_without_faces a b (without_face n f) fs
    (all_weaker (λ g. (c : Corners) → HasCorners n g c → IsEvenWeight a b c) (λ g. (c : Corners) → HasCorners (without_face n f) g c → IsEvenWeight a b c) fs (λ g was c there. was c (got_after_remove n.faces f g c there).1) h.1)
    (even_without_any a b n f h.0 even)

-- ---- where the faces come from
-- corners that are those of an old face, but for the two vertices that become one; the old face has but one of them
pub record Came (m : Mesh) (a b : ℕ) (c : Corners) : Type 0 where
  pub face : ℕ
  pub from : Corners
  pub there : HasCorners m face from
  pub alike : renamed b a c ≡ renamed b a from
  pub single : holds_both a b from ≡ false

-- a mesh after some of the acts; the faces of the list, if they hold b, are still to be renamed
pub record Stage (m : Mesh) (a b : ℕ) (n : Mesh) (es : List (ℕ × Corners)) : Type 0 where
  pub below : AreBelow n
  pub first : 1 ≤ n.next_face
  pub ids : (f : ℕ) → IsLiveFace n f → 1 ≤ f
  pub points : n.points ≡ m.points
  pub solid : n.solid ≡ m.solid
  pub next : n.next_vertex ≡ m.next_vertex
  pub limits : n.limits ≡ m.limits
  pub came : (f : ℕ) (c : Corners) → HasCorners n f c → Came m a b c
  pub waiting : AllByRecursion (λ (e : ℕ × Corners). HasCorners n e.0 e.1 × AreDifferent e.1 × (holds_both a b e.1 ≡ false)) es
  pub others : (f : ℕ) (c : Corners) → HasCorners n f c → has_corner c b ≡ true → AllByRecursion (λ (e : ℕ × Corners). f ≢ e.0) es → ⊥

-- ---- first act
module _ (m : Mesh) (a b : ℕ) (sound : IsSound m) (apart : a ≢ b) where
  abbrev shared : List ℕ
  shared = faces_where (λ c. has_corner c a && has_corner c b) m

  shared_even : AllByRecursion (λ f. (c : Corners) → HasCorners m f c → IsEvenWeight a b c) shared
  shared_even =
      all_mapped (λ f. (c : Corners) → HasCorners m f c → IsEvenWeight a b c) (λ e. e.0) (filter (λ e. holds_both a b e.1) (finite.entries m.faces))
      (all_filtered (λ (e : ℕ × Corners). (c : Corners) → HasCorners m e.0 c → IsEvenWeight a b c) (λ e. holds_both a b e.1) (finite.entries m.faces)
      (all_weaker (λ (e : ℕ × Corners). HasCorners m e.0 e.1) (λ (e : ℕ × Corners). holds_both a b e.1 ≡ true → (c : Corners) → HasCorners m e.0 c → IsEvenWeight a b c) (finite.entries m.faces)
      (λ e here both c there. subst (IsEvenWeight a b) (same_corners m e.0 e.1 c here there)
      (even_both a b e.1 apart (sound.is_mesh.different_corners e.0 e.1 here) (and_first (has_corner e.1 a) (has_corner e.1 b) both) (and_second (has_corner e.1 a) (has_corner e.1 b) both)))
      (each_there m)))

  pub shared_gone_even : IsClosed m → IsEven a b (without_shared m a b)
  shared_gone_even closed = even_without_faces a b m shared shared_even (even_of_closed a b m closed)

  -- no face that is left holds both
  pub single_left : (f : ℕ) (c : Corners) → HasCorners (without_shared m a b) f c → HasCorners m f c × (holds_both a b c ≡ false)
  single_left f c there =
      let kept = kept_faces m shared f c there in
      let off = at_key (λ e. holds_both a b e.1 ≡ true → f ≢ e.0) m.faces f c
      (all_filter (λ (e : ℕ × Corners). f ≢ e.0) (λ e. holds_both a b e.1) (finite.entries m.faces)
      (all_map (λ g. f ≢ g) (λ e. e.0) (filter (λ e. holds_both a b e.1) (finite.entries m.faces)) kept.1)) kept.0 in
      (kept.0, by_test (holds_both a b c) refl off)
    where
      by_test : (t : Bool) → holds_both a b c ≡ t → (holds_both a b c ≡ true → f ≢ f) → holds_both a b c ≡ false
      by_test true e off = absurd (off e refl)
      by_test false e off = e

pub next_vertex-without_faces : (m : Mesh) (fs : List ℕ) → (without_faces m fs).next_vertex ≡ m.next_vertex
next_vertex-without_faces m [] = refl
next_vertex-without_faces m (f ∷ fs) = next_vertex-without_faces (without_face m f) fs

pub limits-without_faces : (m : Mesh) (fs : List ℕ) → (without_faces m fs).limits ≡ m.limits
limits-without_faces m [] = refl
limits-without_faces m (f ∷ fs) = limits-without_faces (without_face m f) fs

live_kept : (m : Mesh) (fs : List ℕ) (f : ℕ) → IsLiveFace (without_faces m fs) f → IsLiveFace m f
live_kept m [] f live = live
live_kept m (g ∷ fs) f live = (live_after_remove m.faces g f (live_kept (without_face m g) fs f live)).1

-- ---- second act
pub all_two : {X : Type 0} (P Q : X → Type 0) (xs : List X) → AllByRecursion P xs → AllByRecursion Q xs → AllByRecursion (λ x. P x × Q x) xs
all_two P Q [] h k = tt
all_two P Q (x ∷ xs) h k = ((h.0, k.0), all_two P Q xs h.1 k.1)

pub all_above : (k : ℕ) (es : List (ℕ × Corners)) → T (below_all nat_cmp k es) → AllByRecursion (λ (e : ℕ × Corners). e.0 ≢ k) es
all_above k [] h = tt
all_above k (e ∷ es) h = let parts = both_of _ _ h in (apart k e.0 (above.less_true k e.0 parts.0), all_above k es parts.1)
  where
    apart : (k x : ℕ) → nat_lt k x ≡ true → x ≢ k
    apart k x h e = grind (arith, nat_tests)

module _ (m : Mesh) (a b : ℕ) (apart : a ≢ b) (n : Mesh) (e : ℕ × Corners) (es : List (ℕ × Corners)) (s : Stage m a b n (e ∷ es)) where
  -- a face that does not hold b needs no change
  step_over : has_corner e.1 b ≡ false → Stage m a b n es
  step_over lacks = record {
    below = s.below;
    first = s.first;
    ids = s.ids;
    points = s.points;
    solid = s.solid;
    next = s.next;
    limits = s.limits;
    came = s.came;
    waiting = s.waiting.1;
    others = λ f c there has_b off. s.others f c there has_b (
      λ same. false≢true (sym lacks ∙ subst (λ d. has_corner d b ≡ true) (same_corners n e.0 c e.1 (subst (λ g. HasCorners n g c) same there) (s.waiting.0).0) has_b),
      off,
    );
  }

  abbrev bare : Mesh
  bare = without_face n e.0

  abbrev made : Corners
  made = renamed b a e.1

  -- the face is dropped, and made again
  step_made : T (below_all nat_cmp e.0 es) → Stage m a b (with_face bare made) es
  step_made rising = record {
    below = below-with bare made (below-without n e.0 s.below);
    first = let h : 1 ≤ n.next_face + 1 = omega arith in h;
    ids = λ f live. ⊎_elim (λ same. let h : 1 ≤ n.next_face = s.first in omega arith) (λ old. s.ids f (live_after_remove n.faces e.0 f old).1) (live_after_insert bare.faces n.next_face made f live);
    points = s.points;
    solid = s.solid;
    next = s.next;
    limits = s.limits;
    came = λ f c there. ⊎_elim (λ new. subst (Came m a b) new.1 again) (λ old. s.came f c (got_after_remove n.faces e.0 f c old).1) (got_after_insert bare.faces n.next_face made f c there);
    waiting = all_weaker (λ (x : ℕ × Corners). (x.0 ≢ e.0) × (HasCorners n x.0 x.1 × AreDifferent x.1 × (holds_both a b x.1 ≡ false))) (λ (x : ℕ × Corners). HasCorners (with_face bare made) x.0 x.1 × AreDifferent x.1 × (holds_both a b x.1 ≡ false)) es
        (λ x h. (kept_with bare made x.0 x.1 (below_apart x.0 x.1 (h.1).0) (still_there n e.0 x.0 x.1 (λ k. h.0 (sym k)) (h.1).0), (h.1).1, (h.1).2))
        (all_two (λ (x : ℕ × Corners). x.0 ≢ e.0) (λ (x : ℕ × Corners). HasCorners n x.0 x.1 × AreDifferent x.1 × (holds_both a b x.1 ≡ false)) es (all_above e.0 es rising) s.waiting.1);
    others = λ f c there has_b off. ⊎_elim
        (λ new. false≢true (sym (renamed_lacks a b e.1 apart) ∙ subst (λ d. has_corner d b ≡ true) (sym new.1) has_b))
        (λ old. let was = got_after_remove n.faces e.0 f c old in s.others f c was.1 has_b (was.0, off))
        (got_after_insert bare.faces n.next_face made f c there);
  }
    where
      again : Came m a b made
      again = let old = s.came e.0 e.1 (s.waiting.0).0 in record {
        face = old.face;
        from = old.from;
        there = old.there;
        alike = renamed_twice a b e.1 apart ∙ old.alike;
        single = old.single;
      }

      below_apart : (f : ℕ) (c : Corners) → HasCorners n f c → f ≢ n.next_face
      below_apart f c there same = let h = s.below f (ap is_some there) in omega arith

  step_even : IsEven a b n → IsEven a b (with_face bare made)
  step_even even u v =
      let low = below-without n e.0 s.below in
      let here = (s.waiting.0).0 in
      balance _ _ _ _ _ _ _ _ _ _
      (total_without a b n e.0 e.1 here u v) (total_without a b n e.0 e.1 here v u) (total_with a b bare made low u v) (total_with a b bare made low v u)
      (like u v) (like v u) (even u v)
    where
      balance : (x x' w w' t t' k k' y y' : ℕ) → x + w ≡ t → x' + w' ≡ t' → x + k ≡ y → x' + k' ≡ y' → k ≡ w → k' ≡ w' → t ≡ t' → y ≡ y'
      balance x x' w w' t t' k k' y y' e f g h i j l = omega arith

      like : (p q : ℕ) → weight a b made p q ≡ weight a b e.1 p q
      like p q = weight_renamed a b e.1 apart (s.waiting.0).1 (different_renamed a b e.1 (s.waiting.0).1 (s.waiting.0).2) p q

all_renamed : (m : Mesh) (a b : ℕ) → a ≢ b → (es : List (ℕ × Corners)) (n : Mesh) → T (is_sorted nat_cmp es) → Stage m a b n es → IsEven a b n →
    Stage m a b (with_all_renamed b a n (ids_where (λ c. has_corner c b) es)) [] × IsEven a b (with_all_renamed b a n (ids_where (λ c. has_corner c b) es))
all_renamed m a b apart [] n rising s even = (s, even)
all_renamed m a b apart (e ∷ es) n rising s even = by_test (all_renamed m a b apart es) (has_corner e.1 b) refl
  where
    parts : T (below_all nat_cmp e.0 es) × T (is_sorted nat_cmp es)
    parts = both_of (below_all nat_cmp e.0 es) (is_sorted nat_cmp es) rising

    once : with_renamed b a n e.0 ≡ with_face (without_face n e.0) (renamed b a e.1)
    once = ap (λ o. with_face (without_face n e.0) (renamed b a (unwrap_or o (record { first = 0; second = 0; third = 0 })))) (s.waiting.0).0

    by_test : ((k : Mesh) → T (is_sorted nat_cmp es) → Stage m a b k es → IsEven a b k → Stage m a b (with_all_renamed b a k (ids_where (λ c. has_corner c b) es)) [] × IsEven a b (with_all_renamed b a k (ids_where (λ c. has_corner c b) es))) →
        (t : Bool) → has_corner e.1 b ≡ t →
        Stage m a b (with_all_renamed b a n (map (λ x. x.0) (cond t (e ∷ filter (λ x. has_corner x.1 b) es) (filter (λ x. has_corner x.1 b) es)))) []
        × IsEven a b (with_all_renamed b a n (map (λ x. x.0) (cond t (e ∷ filter (λ x. has_corner x.1 b) es) (filter (λ x. has_corner x.1 b) es))))
    by_test rest true t =
        subst (λ k. Stage m a b (with_all_renamed b a k (ids_where (λ c. has_corner c b) es)) [] × IsEven a b (with_all_renamed b a k (ids_where (λ c. has_corner c b) es))) (sym once)
        (rest (with_face (without_face n e.0) (renamed b a e.1)) parts.1 (step_made m a b apart n e es s parts.0) (step_even m a b apart n e es s even))
    by_test rest false t = rest n parts.1 (step_over m a b apart n e es s t) even

module _ (m : Mesh) (a b : ℕ) (sound : IsSound m) (closed : IsClosed m) (apart : a ≢ b) where
  abbrev one : Mesh
  one = without_shared m a b

  first_stage : Stage m a b one (finite.entries one.faces)
  first_stage = record {
    below = λ f live. subst (λ k. f < k) (sym (next_face-without_faces m (shared m a b sound apart))) (below_next m sound f (live_kept m (shared m a b sound apart) f live));
    first = subst (λ k. 1 ≤ k) (sym (next_face-without_faces m (shared m a b sound apart))) sound.limits.face_ids.0;
    ids = λ f live. (sound.is_mesh.face_ids f (live_kept m (shared m a b sound apart) f live)).0;
    points = points-without_faces m (shared m a b sound apart);
    solid = solid-without_faces m (shared m a b sound apart);
    next = next_vertex-without_faces m (shared m a b sound apart);
    limits = limits-without_faces m (shared m a b sound apart);
    came = λ f c there. let left = single_left m a b sound apart f c there in record { face = f; from = c; there = left.0; alike = refl; single = left.1 };
    waiting = all_weaker (λ (e : ℕ × Corners). HasCorners one e.0 e.1) (λ (e : ℕ × Corners). HasCorners one e.0 e.1 × AreDifferent e.1 × (holds_both a b e.1 ≡ false)) (finite.entries one.faces)
        (λ e there. let left = single_left m a b sound apart e.0 e.1 there in (there, sound.is_mesh.different_corners e.0 e.1 left.0, left.1)) (each_there one);
    others = λ f c there has_b off. at_key (λ e. f ≢ e.0) one.faces f c off there refl;
  }

  pub second_stage : Stage m a b (with_joined one a b) [] × IsEven a b (with_joined one a b)
  second_stage = all_renamed m a b apart (finite.entries one.faces) one (entries_sorted one.faces) first_stage (shared_gone_even m a b sound apart closed)
