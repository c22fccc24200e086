-- The edges that are looked at along faces.
use Rattle.std.proofs.Common.{◌≡◌, ℕ, ◌<◌, Bool, true, false, cond, not, ◌&&◌, ◌||◌, ◌==◌, nat_lt, List, [], ◌∷◌, ◌++◌, ◌⊎◌, ⊎_elim, inl, inr, refl, sym, ap, subst, ◌∙◌, fold, arith}
use Rattle.std.proofs.lemmas.Bool.{or_cases, eqb-true}
use Rattle.std.proofs.lemmas.Bool.Decides.{nat_tests}
use Rattle.std.proofs.lemmas.List.Elements.{recursion_from_All, All-from_recursion}
use Rattle.std.specs.List.{All, AllByRecursion}
use Rattle.mesh_base.specs.Sides.{follows}
use Rattle.mesh_base.proofs.Tests.{and_first, and_second}
use Rattle.mesh_base.proofs.Listed.{all_front}
use Rattle.mesh_base.proofs.ListedPairs.{all_joined}
use Rattle.mesh_base.specs.Placements.{Motion}
use Rattle.pair_paths.specs.declared.moving_parts.MovingEdge.{MovingEdge}
use Rattle.pair_paths.specs.declared.moving_parts.MovingFace.{MovingFace}
use Rattle.edit_check.specs.declared.boxed.BoxedFace.{BoxedFace}
use Rattle.edit_check.specs.Neighbourhood.{EdgeGoes, FaceGoes}
use Rattle.edit_check.specs.Sides.{first_side, second_side, third_side, turned, is_run_by_some}
use Rattle.edit_check.specs.Searching.{edges_at, edges_of}

below : (a b : ℕ) → a < b → nat_lt a b ≡ true
below a b h = grind (arith, nat_tests)

not_below : (a b : ℕ) → a < b → nat_lt b a ≡ false
not_below a b h = grind (arith, nat_tests)

pub from_below : (a b : ℕ) → nat_lt a b ≡ true → a < b
from_below a b h = grind (arith, nat_tests)

-- ---- at a side
pub at_up : (faces : List BoxedFace) (e : MovingEdge) → e.a < e.b → edges_at faces e ≡ e ∷ []
at_up faces e h = ap (λ t. cond t (e ∷ []) (cond (nat_lt e.b e.a && not (is_run_by_some e.b e.a faces)) (turned e ∷ []) [])) (below e.a e.b h)

pub at_turned : (faces : List BoxedFace) (e : MovingEdge) → e.b < e.a → is_run_by_some e.b e.a faces ≡ false → edges_at faces e ≡ turned e ∷ []
at_turned faces e h off =
    ap (λ t. cond t (e ∷ []) (cond (nat_lt e.b e.a && not (is_run_by_some e.b e.a faces)) (turned e ∷ []) [])) (not_below e.b e.a h)
    ∙ ap (λ t. cond (t && not (is_run_by_some e.b e.a faces)) (turned e ∷ []) []) (below e.b e.a h)
    ∙ ap (λ t. cond (not t) (turned e ∷ []) []) off

-- what a search makes of a side that runs up, and of one that does not
pub fold_up : {A : Type 0} (look : A → MovingEdge → A) (found : A) (faces : List BoxedFace) (e : MovingEdge) → nat_lt e.a e.b ≡ true → look found e ≡ fold look found (edges_at faces e)
fold_up look found faces e h = sym (ap (fold look found) (at_up faces e (from_below e.a e.b h)))

pub fold_down : {A : Type 0} (look : A → MovingEdge → A) (found : A) (faces : List BoxedFace) (e : MovingEdge) → nat_lt e.b e.a ≡ true
    → cond (is_run_by_some e.b e.a faces) found (look found (turned e)) ≡ fold look found (edges_at faces e)
fold_down look found faces e h = by_test (is_run_by_some e.b e.a faces) refl
  where
    below_false : nat_lt e.a e.b ≡ false
    below_false = not_below e.b e.a (from_below e.b e.a h)

    opened : edges_at faces e ≡ cond (not (is_run_by_some e.b e.a faces)) (turned e ∷ []) []
    opened =
        ap (λ t. cond t (e ∷ []) (cond (nat_lt e.b e.a && not (is_run_by_some e.b e.a faces)) (turned e ∷ []) [])) below_false
        ∙ ap (λ t. cond (t && not (is_run_by_some e.b e.a faces)) (turned e ∷ []) []) h

    by_test : (run : Bool) → is_run_by_some e.b e.a faces ≡ run → cond run found (look found (turned e)) ≡ fold look found (edges_at faces e)
    by_test true is = sym (ap (fold look found) (opened ∙ ap (λ t. cond (not t) (turned e ∷ []) []) is))
    by_test false is = sym (ap (fold look found) (opened ∙ ap (λ t. cond (not t) (turned e ∷ []) []) is))

module _ (P : MovingEdge → Type 0) (faces : List BoxedFace) where
  only : (es : List MovingEdge) (e : MovingEdge) → es ≡ e ∷ [] → All P es → P e
  only es e is h = (recursion_from_All P (e ∷ []) (subst (All P) is h)).0

  pub of_up : (e : MovingEdge) → e.a < e.b → All P (edges_at faces e) → P e
  of_up e h all = only (edges_at faces e) e (at_up faces e h) all

  pub of_turned : (e : MovingEdge) → e.b < e.a → is_run_by_some e.b e.a faces ≡ false → All P (edges_at faces e) → P (turned e)
  of_turned e h off all = only (edges_at faces e) (turned e) (at_turned faces e h off) all

  -- the edges at each of the three sides
  pub record OfSides (f : MovingFace) : Type 0 where
    pub first : All P (edges_at faces (first_side f))
    pub second : All P (edges_at faces (second_side f))
    pub third : All P (edges_at faces (third_side f))

  pub of_sides : (f : MovingFace) → All P (edges_of faces f) → OfSides f
  of_sides f all =
      let one = edges_at faces (first_side f) in
      let two = edges_at faces (second_side f) in
      let three = edges_at faces (third_side f) in
      let front = all_front P one (two ++ (three ++ [])) (recursion_from_All P (edges_of faces f) all) in
      let middle = all_front P two (three ++ []) front.1 in
      record {
        first = All-from_recursion P one front.0;
        second = All-from_recursion P two middle.0;
        third = All-from_recursion P three (all_front P three [] middle.1).0;
      }

  -- what holds of a side that runs up, and of one that is turned, holds of each edge
  at_side : (e : MovingEdge) → (e.a < e.b → P e) → (e.b < e.a → P (turned e)) → AllByRecursion P (edges_at faces e)
  at_side e up down = by_tests (nat_lt e.a e.b) (nat_lt e.b e.a) (is_run_by_some e.b e.a faces) refl refl
    where
      by_tests : (t u run : Bool) → nat_lt e.a e.b ≡ t → nat_lt e.b e.a ≡ u → AllByRecursion P (cond t (e ∷ []) (cond (u && not run) (turned e ∷ []) []))
      by_tests true u run i j = (up (from_below e.a e.b i), tt)
      by_tests false true false i j = (down (from_below e.b e.a j), tt)
      by_tests false true true i j = tt
      by_tests false false run i j = tt

  pub each_of : (f : MovingFace) → ((e : MovingEdge) → (e ≡ first_side f) ⊎ ((e ≡ second_side f) ⊎ (e ≡ third_side f)) → (e.a < e.b → P e) × (e.b < e.a → P (turned e))) → AllByRecursion P (edges_of faces f)
  each_of f h =
      let one = h (first_side f) (inl refl) in
      let two = h (second_side f) (inr (inl refl)) in
      let three = h (third_side f) (inr (inr refl)) in
      all_joined P (edges_at faces (first_side f)) (edges_at faces (second_side f) ++ (edges_at faces (third_side f) ++ [])) (at_side (first_side f) one.0 one.1)
      (all_joined P (edges_at faces (second_side f)) (edges_at faces (third_side f) ++ []) (at_side (second_side f) two.0 two.1)
      (all_joined P (edges_at faces (third_side f)) [] (at_side (third_side f) three.0 three.1) tt))

-- ---- the sides of a face
-- each goes as the face does, and runs as it does
pub side_goes : (w : Motion) (f : MovingFace) (e : MovingEdge) → FaceGoes w f → (e ≡ first_side f) ⊎ ((e ≡ second_side f) ⊎ (e ≡ third_side f)) → EdgeGoes w e
side_goes w f e goes which = ⊎_elim
    (λ is. subst (EdgeGoes w) (sym is) (ap first_side goes))
    (λ rest. ⊎_elim (λ is. subst (EdgeGoes w) (sym is) (ap second_side goes)) (λ is. subst (EdgeGoes w) (sym is) (ap third_side goes)) rest)
    which

first_runs : (c d e : ℕ) → follows (record { first = c; second = d; third = e }) c d ≡ true
first_runs c d e = grind (arith, nat_tests)

second_runs : (c d e : ℕ) → follows (record { first = c; second = d; third = e }) d e ≡ true
second_runs c d e = grind (arith, nat_tests)

third_runs : (c d e : ℕ) → follows (record { first = c; second = d; third = e }) e c ≡ true
third_runs c d e = grind (arith, nat_tests)

pub side_runs : (f : MovingFace) (e : MovingEdge) → (e ≡ first_side f) ⊎ ((e ≡ second_side f) ⊎ (e ≡ third_side f)) → follows f.corners e.a e.b ≡ true
side_runs f e which = ⊎_elim
    (λ is. subst (λ k. follows f.corners k.a k.b ≡ true) (sym is) (first_runs f.corners.first f.corners.second f.corners.third))
    (λ rest. ⊎_elim
    (λ is. subst (λ k. follows f.corners k.a k.b ≡ true) (sym is) (second_runs f.corners.first f.corners.second f.corners.third))
    (λ is. subst (λ k. follows f.corners k.a k.b ≡ true) (sym is) (third_runs f.corners.first f.corners.second f.corners.third))
    rest)
    which

pub turned_goes : (w : Motion) (e : MovingEdge) → EdgeGoes w e → EdgeGoes w (turned e)
turned_goes w e goes = ap turned goes

-- where a face runs from one vertex to another, an edge is looked at there, this way or turned
module _ (Q : ℕ → ℕ → Type 0) (faces : List BoxedFace) (f : MovingFace) (a b : ℕ) (all : All (λ e. Q e.a e.b) (edges_of faces f)) where
  pub run_up : a < b → follows f.corners a b ≡ true → Q a b
  run_up less runs =
      let sides = of_sides (λ e. Q e.a e.b) faces f all in
      ⊎_elim
      (λ two. ⊎_elim (λ is. at (first_side f) is sides.first) (λ is. at (second_side f) is sides.second) (or_cases (f.corners.first == a && f.corners.second == b) (f.corners.second == a && f.corners.third == b) two))
      (λ is. at (third_side f) is sides.third)
      (or_cases ((f.corners.first == a && f.corners.second == b) || (f.corners.second == a && f.corners.third == b)) (f.corners.third == a && f.corners.first == b) runs)
    where
      at : (e : MovingEdge) → (e.a == a && e.b == b) ≡ true → All (λ k. Q k.a k.b) (edges_at faces e) → Q a b
      at e is h =
          let first = eqb-true e.a a (and_first (e.a == a) (e.b == b) is) in
          let second = eqb-true e.b b (and_second (e.a == a) (e.b == b) is) in
          let lower : e.a < e.b = subst (λ v. e.a < v) (sym second) (subst (λ u. u < b) (sym first) less) in
          subst (λ v. Q a v) second (subst (λ u. Q u e.b) first (of_up (λ k. Q k.a k.b) faces e lower h))

module _ (Q : ℕ → ℕ → Type 0) (faces : List BoxedFace) (f : MovingFace) (a b : ℕ) (all : All (λ e. Q e.a e.b) (edges_of faces f)) where
  pub run_down : a < b → is_run_by_some a b faces ≡ false → follows f.corners b a ≡ true → Q a b
  run_down less off runs =
      let sides = of_sides (λ e. Q e.a e.b) faces f all in
      ⊎_elim
      (λ two. ⊎_elim (λ is. at (first_side f) is sides.first) (λ is. at (second_side f) is sides.second) (or_cases (f.corners.first == b && f.corners.second == a) (f.corners.second == b && f.corners.third == a) two))
      (λ is. at (third_side f) is sides.third)
      (or_cases ((f.corners.first == b && f.corners.second == a) || (f.corners.second == b && f.corners.third == a)) (f.corners.third == b && f.corners.first == a) runs)
    where
      at : (e : MovingEdge) → (e.a == b && e.b == a) ≡ true → All (λ k. Q k.a k.b) (edges_at faces e) → Q a b
      at e is h =
          let first = eqb-true e.a b (and_first (e.a == b) (e.b == a) is) in
          let second = eqb-true e.b a (and_second (e.a == b) (e.b == a) is) in
          let lower : e.b < e.a = subst (λ u. e.b < u) (sym first) (subst (λ v. v < b) (sym second) less) in
          let away : is_run_by_some e.b e.a faces ≡ false = ap (λ u. is_run_by_some e.b u faces) first ∙ ap (λ v. is_run_by_some v b faces) second ∙ off in
          subst (λ u. Q a u) first (subst (λ v. Q v e.a) second (of_turned (λ k. Q k.a k.b) faces e lower away h))
