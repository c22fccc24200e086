-- The numbers of a fault of shape are in range.
use Rattle.std.proofs.Common.{◌≡◌, ℕ, zero, suc, ◌+◌, ◌<◌, ◌≤◌, Bool, true, false, cond, nat_lt, List, [], ◌∷◌, map, length, Option, Some, None, refl, arith}
use Rattle.std.proofs.lemmas.Bool.{ltb-false}
use Rattle.std.specs.Prelude.{◌==◌, not, IfSome}
use Rattle.std.specs.List.{AllByRecursion, find, flat_map, position_from, range_with_len}
use Rattle.std.specs.Option.{option_or, option_map}
use Rattle.grid_base.specs.declared.TheConstants.{VERTICES_MAX, FACES_MAX}
use Rattle.mesh_base.specs.declared.Scale.{Scale}
use Rattle.mesh_base.specs.Limits.{limits_of}
use Rattle.mesh_base.specs.declared.ids.Corners.{Corners}
use Rattle.mesh_base.specs.declared.faults.ShapeFault.{ShapeFault}
use Rattle.mesh_base.specs.declared.faults.ShapeFault.TheVariants.{TooManyVertices, TooManyFaces, NoVertex, Repeated, Doubled, Unbalanced}
use Rattle.mesh_base.specs.Mesh.{equal_up_to_rotation}
use Rattle.mesh_base.specs.Changes.{corners_of}
use Rattle.mesh_base.specs.Given.{Faces}
use Rattle.mesh_base.proofs.MeshLaws.{few_vertices_of, few_faces_of}
use Rattle.mesh_base.proofs.ListedPairs.{all_flat_mapped, all_mapped, all_weaker}
use Rattle.mesh_shape.specs.Shape.{is_vertex, bad_corner, no_vertex_from, repeats, repeated_from, doubled_from, runs_in, numbers_to, first_unbalanced, shape_fault}
use Rattle.edit_acts.proofs.Found.{found_both}
use Rattle.log_text.specs.declared.TheConstants.{COUNT_MAX, SEEN_MAX, CORNER_MAX}
use Rattle.log_read.specs.Laws.{IsFrom, IsShapeInRange}

-- one of n numbers from k on
record IsAmong (k n i : ℕ) : Type 0 where
  pub low : k ≤ i
  pub high : i < k + n

itself : (k n : ℕ) → IsAmong k (suc n) k
itself k n = record { low = omega arith; high = omega arith }

later : (k n i : ℕ) → IsAmong (k + 1) n i → IsAmong k (suc n) i
later k n i h = let low = h.low in let high = h.high in record { low = omega arith; high = omega arith }

-- a number among few is one of the log
counted : (n i : ℕ) → n ≤ FACES_MAX → IsAmong 1 n i → IsFrom 1 COUNT_MAX i
counted n i few h = let low = h.low in let high = h.high in (low, omega arith)

if_some_weaker : {X : Type 0} (P Q : X → Type 0) (o : Option X) → ((x : X) → P x → Q x) → IfSome o P → IfSome o Q
if_some_weaker P Q (Some x) w h = w x h
if_some_weaker P Q None w h = tt

if_found : {X : Type 0} (P : X → Type 0) (test : X → Bool) (xs : List X) → AllByRecursion P xs → IfSome (find test xs) P
if_found {X} P test xs h = by_answer (find test xs) refl
  where
    by_answer : (o : Option X) → find test xs ≡ o → IfSome o P
    by_answer (Some x) e = (found_both P test xs x h e).0
    by_answer None e = tt

-- ---- places
position_among : {X : Type 0} (test : X → Bool) (k : ℕ) (xs : List X) → IfSome (position_from test k xs) (IsAmong k (length xs))
position_among test k [] = tt
position_among test k (x ∷ xs) = by_test (test x) (position_among test (k + 1) xs)
  where
    by_test : (b : Bool) → IfSome (position_from test (k + 1) xs) (IsAmong (k + 1) (length xs)) → IfSome (cond b (Some k) (position_from test (k + 1) xs)) (IsAmong k (suc (length xs)))
    by_test true rest = itself k (length xs)
    by_test false rest = if_some_weaker (IsAmong (k + 1) (length xs)) (IsAmong k (suc (length xs))) (position_from test (k + 1) xs) (later k (length xs)) rest

corner_among : (n : ℕ) (c : Corners) → IfSome (bad_corner n c) (IsFrom 1 CORNER_MAX)
corner_among n c = by_tests (is_vertex n c.first) (is_vertex n c.second) (is_vertex n c.third)
  where
    by_tests : (a b d : Bool) → IfSome (cond a (cond b (cond d None (Some 3)) (Some 2)) (Some 1)) (IsFrom 1 CORNER_MAX)
    by_tests true true true = tt
    by_tests true true false = (omega arith, omega arith)
    by_tests true false d = (omega arith, omega arith)
    by_tests false b d = (omega arith, omega arith)

-- a face and its corner
abbrev IsCorner : ℕ → ℕ → ℕ × ℕ → Type 0
IsCorner k n p = IsAmong k n p.0 × IsFrom 1 CORNER_MAX p.1

no_vertex_among : (n k : ℕ) (fs : Faces) → IfSome (no_vertex_from n k fs) (IsCorner k (length fs))
no_vertex_among n k [] = tt
no_vertex_among n k (f ∷ fs) = by_corner (bad_corner n (corners_of f)) (corner_among n (corners_of f)) (no_vertex_among n (k + 1) fs)
  where
    by_corner : (o : Option ℕ) → IfSome o (IsFrom 1 CORNER_MAX) → IfSome (no_vertex_from n (k + 1) fs) (IsCorner (k + 1) (length fs))
        → IfSome (option_or (option_map (λ corner. (k, corner)) o) (no_vertex_from n (k + 1) fs)) (IsCorner k (suc (length fs)))
    by_corner (Some corner) h rest = (itself k (length fs), h)
    by_corner None h rest = if_some_weaker (IsCorner (k + 1) (length fs)) (IsCorner k (suc (length fs))) (no_vertex_from n (k + 1) fs) (λ p two. (later k (length fs) p.0 two.0, two.1)) rest

-- two of the numbers
abbrev AreTwo : ℕ → ℕ → ℕ × ℕ → Type 0
AreTwo k n p = IsAmong k n p.0 × IsAmong k n p.1

doubled_among : (k : ℕ) (fs : Faces) → IfSome (doubled_from k fs) (AreTwo k (length fs))
doubled_among k [] = tt
doubled_among k (f ∷ fs) = by_second (position_from (λ g. equal_up_to_rotation (corners_of f) (corners_of g)) (k + 1) fs) (position_among (λ g. equal_up_to_rotation (corners_of f) (corners_of g)) (k + 1) fs) (doubled_among (k + 1) fs)
  where
    by_second : (o : Option ℕ) → IfSome o (IsAmong (k + 1) (length fs)) → IfSome (doubled_from (k + 1) fs) (AreTwo (k + 1) (length fs))
        → IfSome (option_or (option_map (λ second. (k, second)) o) (doubled_from (k + 1) fs)) (AreTwo k (suc (length fs)))
    by_second (Some second) h rest = (itself k (length fs), later k (length fs) second h)
    by_second None h rest = if_some_weaker (AreTwo (k + 1) (length fs)) (AreTwo k (suc (length fs))) (doubled_from (k + 1) fs) (λ p two. (later k (length fs) p.0 two.0, later k (length fs) p.1 two.1)) rest

numbers_among : (a n : ℕ) → AllByRecursion (IsAmong a n) (range_with_len a n)
numbers_among a zero = tt
numbers_among a (suc n) = (itself a n, all_weaker (IsAmong (a + 1) n) (IsAmong a (suc n)) (range_with_len (a + 1) n) (later a n) (numbers_among (a + 1) n))

unbalanced_among : (n : ℕ) (fs : Faces) → IfSome (first_unbalanced n fs) (AreTwo 1 n)
unbalanced_among n fs = if_found (AreTwo 1 n) (λ p. not (runs_in fs p.0 p.1 == runs_in fs p.1 p.0)) (flat_map (λ u. map (λ v. (u, v)) (numbers_to n)) (numbers_to n))
    (all_flat_mapped (AreTwo 1 n) (λ u. map (λ v. (u, v)) (numbers_to n)) (numbers_to n)
    (all_weaker (IsAmong 1 n) (λ u. AllByRecursion (AreTwo 1 n) (map (λ v. (u, v)) (numbers_to n))) (numbers_to n)
    (λ u first. all_mapped (AreTwo 1 n) (λ v. (u, v)) (numbers_to n) (all_weaker (IsAmong 1 n) (λ v. AreTwo 1 n (u, v)) (numbers_to n) (λ v second. (first, second)) (numbers_among 1 n)))
    (numbers_among 1 n)))

-- ---- faults
or_later : (first others : Option ShapeFault) → IfSome first IsShapeInRange → IfSome others IsShapeInRange → IfSome (option_or first others) IsShapeInRange
or_later (Some fault) others h rest = h
or_later None others h rest = rest

told : {X : Type 0} (P : X → Type 0) (make : X → ShapeFault) (o : Option X) → ((x : X) → P x → IsShapeInRange (make x)) → IfSome o P → IfSome (option_map make o) IsShapeInRange
told P make (Some x) good h = good x h
told P make None good h = tt

module _ (n : ℕ) (fs : Faces) where
  abbrev at_corner : Option ShapeFault
  at_corner = option_map (λ p. NoVertex p.0 p.1) (no_vertex_from n 1 fs)

  abbrev twice : Option ShapeFault
  twice = option_map (λ face. Repeated face) (repeated_from 1 fs)

  abbrev doubled : Option ShapeFault
  doubled = option_map (λ p. Doubled p.0 p.1) (doubled_from 1 fs)

  abbrev unbalanced : Option ShapeFault
  unbalanced = option_map (λ p. Unbalanced p.0 p.1) (first_unbalanced n fs)

  abbrev of_faces : Option ShapeFault
  of_faces = option_or at_corner (option_or twice doubled)

  of_faces_good : length fs ≤ FACES_MAX → IfSome of_faces IsShapeInRange
  of_faces_good few =
      or_later at_corner (option_or twice doubled) (told (IsCorner 1 (length fs)) (λ p. NoVertex p.0 p.1) (no_vertex_from n 1 fs) (λ p two. (counted (length fs) p.0 few two.0, two.1)) (no_vertex_among n 1 fs))
      (or_later twice doubled
      (told (IsAmong 1 (length fs)) (λ face. Repeated face) (repeated_from 1 fs) (λ face h. counted (length fs) face few h) (position_among (λ f. repeats (corners_of f)) 1 fs))
      (told (AreTwo 1 (length fs)) (λ p. Doubled p.0 p.1) (doubled_from 1 fs) (λ p two. (counted (length fs) p.0 few two.0, counted (length fs) p.1 few two.1)) (doubled_among 1 fs)))

  unbalanced_good : n ≤ VERTICES_MAX → IfSome unbalanced IsShapeInRange
  unbalanced_good few = told (AreTwo 1 n) (λ p. Unbalanced p.0 p.1) (first_unbalanced n fs) (λ p two. (counted n p.0 (omega (arith, few)) two.0, counted n p.1 (omega (arith, few)) two.1)) (unbalanced_among n fs)

  abbrev by_count : Bool → ShapeFault → Option ShapeFault
  by_count over fault = cond over (Some fault) None

  pub shape_in_range : (scale : Scale) → n ≤ SEEN_MAX → length fs ≤ SEEN_MAX → IfSome (shape_fault scale n fs) IsShapeInRange
  shape_in_range scale seen faces_seen = by_vertices (nat_lt (limits_of scale).vertices n) refl
    where
      by_faces : (b : Bool) → nat_lt (limits_of scale).faces (length fs) ≡ b → IfSome (option_or (by_count b (TooManyFaces (length fs))) of_faces) IsShapeInRange
      by_faces true e = faces_seen
      by_faces false e = of_faces_good (omega (arith, ltb-false (limits_of scale).faces (length fs) e, few_faces_of scale))

      by_vertices : (b : Bool) → nat_lt (limits_of scale).vertices n ≡ b → IfSome (option_or (option_or (by_count b (TooManyVertices n)) (option_or (by_count (nat_lt (limits_of scale).faces (length fs)) (TooManyFaces (length fs))) of_faces)) unbalanced) IsShapeInRange
      by_vertices true e = seen
      by_vertices false e = or_later (option_or (by_count (nat_lt (limits_of scale).faces (length fs)) (TooManyFaces (length fs))) of_faces) unbalanced (by_faces (nat_lt (limits_of scale).faces (length fs)) refl) (unbalanced_good (omega (arith, ltb-false (limits_of scale).vertices n e, few_vertices_of scale)))
