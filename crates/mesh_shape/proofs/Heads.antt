-- The first of all faults is the one that `shape_fault` names.
use Rattle.std.proofs.Common.{◌≡◌, ℕ, zero, suc, ◌+◌, ◌<◌, ◌==◌, not, Bool, true, false, cond, List, [], ◌∷◌, ◌++◌, Option, Some, None, map, length, take, nat_lt, slice_get, if◌then◌else◌, option_map, append_assoc, refl, sym, ap, ◌∙◌, arith}
use Rattle.std.specs.Option.{option_or}
use Rattle.std.specs.List.{filter, find}
use Rattle.mesh_base.specs.declared.ids.Corners.{Corners}
use Rattle.mesh_base.specs.declared.faults.ShapeFault.{ShapeFault}
use Rattle.mesh_base.specs.declared.faults.ShapeFault.TheVariants.{TooManyVertices, TooManyFaces, NoVertex, Repeated, Doubled, Unbalanced}
use Rattle.mesh_base.specs.declared.limits.Scale.{Scale}
use Rattle.mesh_base.specs.Limits.{limits_of}
use Rattle.mesh_base.specs.Changes.{corners_of}
use Rattle.mesh_base.specs.Given.{Faces}
use Rattle.mesh_base.specs.Pairs.{id_pairs}
use Rattle.mesh_shape.specs.Shape.{is_vertex, bad_corner, no_vertex_from, repeats, repeated_from, doubled_from, runs_in, numbers_to, first_unbalanced, shape_fault}
use Rattle.mesh_shape.specs.ShapeFaults.{one_if, no_vertices_in, no_vertices_from, all_repeated_from, first_equal, doubled_by, all_doubled_from, unbalanced_fault, unbalanced_pairs, limit_faults, shape_faults}
use Rattle.mesh_shape.proofs.Prefixes.{same_before}
use Rattle.mesh_shape.proofs.Firsts.{first_pair}
use Rattle.mesh_shape.proofs.Lists.{none_mapped}

abbrev head : {A : Type 0} → List A → Option A
head xs = slice_get xs 0

-- ---- the first of two lists
pub head_joined : {A : Type 0} (xs ys : List A) → slice_get (xs ++ ys) 0 ≡ option_or (slice_get xs 0) (slice_get ys 0)
head_joined [] ys = refl
head_joined (x ∷ xs) ys = refl

head_one : {A : Type 0} (b : Bool) (x : A) → slice_get (one_if b x) 0 ≡ (if b then Some x else None)
head_one true x = refl
head_one false x = refl

mapped_or : {A B : Type 0} (g : A → B) (x y : Option A) → option_map g (option_or x y) ≡ option_or (option_map g x) (option_map g y)
mapped_or g None y = refl
mapped_or g (Some x) y = refl

head_filtered : {X Y : Type 0} (g : X → Y) (test : X → Bool) (xs : List X) → slice_get (map g (filter test xs)) 0 ≡ option_map g (find test xs)
head_filtered g test [] = refl
head_filtered {X} {Y} g test (x ∷ xs) = by_test (test x) (head_filtered g test xs)
  where
    by_test : (b : Bool) → slice_get (map g (filter test xs)) 0 ≡ option_map g (find test xs) → slice_get (map g (cond b (x ∷ filter test xs) (filter test xs))) 0 ≡ option_map g (cond b (Some x) (find test xs))
    by_test true rest = refl
    by_test false rest = rest

-- ---- corners that are no vertex
head_corners : (k : ℕ) (p q r : Bool) → slice_get (one_if (not p) (NoVertex k 1) ++ one_if (not q) (NoVertex k 2) ++ one_if (not r) (NoVertex k 3)) 0
    ≡ option_map (λ (e : ℕ × ℕ). NoVertex e.0 e.1) (option_map (λ (corner : ℕ). (k, corner)) (if p then (if q then (if r then None else Some 3) else Some 2) else Some 1))
head_corners k true true true = refl
head_corners k true true false = refl
head_corners k true false true = refl
head_corners k true false false = refl
head_corners k false true true = refl
head_corners k false true false = refl
head_corners k false false true = refl
head_corners k false false false = refl

head_no_vertices : (n k : ℕ) (fs : Faces) → slice_get (no_vertices_from n k fs) 0 ≡ option_map (λ (e : ℕ × ℕ). NoVertex e.0 e.1) (no_vertex_from n k fs)
head_no_vertices n k [] = refl
head_no_vertices n k (f ∷ fs) =
    let c : Corners = corners_of f in
    head_joined (no_vertices_in n k c) (no_vertices_from n (k + 1) fs)
    ∙ ap (λ o. option_or o (slice_get (no_vertices_from n (k + 1) fs) 0)) (head_corners k (is_vertex n c.first) (is_vertex n c.second) (is_vertex n c.third))
    ∙ ap (option_or (option_map (λ (e : ℕ × ℕ). NoVertex e.0 e.1) (option_map (λ (corner : ℕ). (k, corner)) (bad_corner n c)))) (head_no_vertices n (k + 1) fs)
    ∙ sym (mapped_or (λ (e : ℕ × ℕ). NoVertex e.0 e.1) (option_map (λ (corner : ℕ). (k, corner)) (bad_corner n c)) (no_vertex_from n (k + 1) fs))

-- ---- faces with a corner twice
head_repeated : (k : ℕ) (fs : Faces) → slice_get (all_repeated_from k fs) 0 ≡ option_map (λ (face : ℕ). Repeated face) (repeated_from k fs)
head_repeated k [] = refl
head_repeated k (f ∷ fs) = by_test (repeats (corners_of f)) (head_repeated (k + 1) fs)
  where
    by_test : (b : Bool) → slice_get (all_repeated_from (k + 1) fs) 0 ≡ option_map (λ (face : ℕ). Repeated face) (repeated_from (k + 1) fs)
        → slice_get (one_if b (Repeated k) ++ all_repeated_from (k + 1) fs) 0 ≡ option_map (λ (face : ℕ). Repeated face) (cond b (Some k) (repeated_from (k + 1) fs))
    by_test true h = refl
    by_test false h = h

-- where none is put at the end of a list, there is none
pub none_repeated : (most : ℕ) (old new : List ShapeFault) (fs : Faces) → 0 < most → new ≡ [] → take most new ≡ take most (old ++ all_repeated_from 1 fs) → repeated_from 1 fs ≡ None
none_repeated zero old new fs some none put = absurd (omega arith)
none_repeated (suc most) old new fs some none put = none_mapped (λ (face : ℕ). Repeated face) (repeated_from 1 fs) (sym (head_repeated 1 fs) ∙ ap (λ l. slice_get l 0) (no_end old (all_repeated_from 1 fs) (sym (ap (take (suc most)) none) ∙ put)))
  where
    no_end : (xs ys : List ShapeFault) → [] ≡ take (suc most) (xs ++ ys) → ys ≡ []
    no_end [] [] e = refl
    no_end [] (y ∷ ys) e = cc
    no_end (x ∷ xs) ys e = cc

-- ---- double faces
head_doubled : (k : ℕ) (fs : Faces) → slice_get (all_doubled_from k fs) 0 ≡ option_map (λ (e : ℕ × ℕ). Doubled e.0 e.1) (doubled_from k fs)
head_doubled k [] = refl
head_doubled k (f ∷ fs) = by_second (first_equal (k + 1) f fs) (head_doubled (k + 1) fs)
  where
    by_second : (o : Option ℕ) → slice_get (all_doubled_from (k + 1) fs) 0 ≡ option_map (λ (e : ℕ × ℕ). Doubled e.0 e.1) (doubled_from (k + 1) fs)
        → slice_get (doubled_by k o ++ all_doubled_from (k + 1) fs) 0 ≡ option_map (λ (e : ℕ × ℕ). Doubled e.0 e.1) (option_or (option_map (λ (second : ℕ). (k, second)) o) (doubled_from (k + 1) fs))
    by_second (Some second) h = refl
    by_second None h = h

-- ---- unbalanced pairs
head_unbalanced : (n : ℕ) (fs : Faces) → slice_get (map unbalanced_fault (unbalanced_pairs n fs)) 0 ≡ option_map (λ (e : ℕ × ℕ). Unbalanced e.0 e.1) (first_unbalanced n fs)
head_unbalanced n fs = head_filtered unbalanced_fault (λ p. not (runs_in fs p.0 p.1 == runs_in fs p.1 p.0)) (id_pairs (numbers_to n)) ∙ ap (option_map unbalanced_fault) (first_pair n fs)

-- ---- all of them
regroup : {A : Type 0} (a b c d e f : Option A) → option_or (option_or (option_or (option_or (option_or a b) c) d) e) f ≡ option_or (option_or a (option_or b (option_or c (option_or d e)))) f
regroup (Some x) b c d e f = refl
regroup None (Some x) c d e f = refl
regroup None None (Some x) d e f = refl
regroup None None None (Some x) e f = refl
regroup None None None None e f = refl

pub first_is_shape_fault : (scale : Scale) (n : ℕ) (fs : Faces) → slice_get (shape_faults scale n fs) 0 ≡ shape_fault scale n fs
first_is_shape_fault scale n fs =
    let a : List ShapeFault = one_if (nat_lt (limits_of scale).vertices n) (TooManyVertices n) in
    let b : List ShapeFault = one_if (nat_lt (limits_of scale).faces (length fs)) (TooManyFaces (length fs)) in
    let c : List ShapeFault = no_vertices_from n 1 fs in
    let d : List ShapeFault = all_repeated_from 1 fs in
    let e : List ShapeFault = all_doubled_from 1 fs in
    let f : List ShapeFault = map unbalanced_fault (unbalanced_pairs n fs) in
    head_joined ((((a ++ b) ++ c) ++ d) ++ e) f
    ∙ ap (λ o. option_or o (slice_get f 0)) (head_joined (((a ++ b) ++ c) ++ d) e)
    ∙ ap (λ o. option_or (option_or o (slice_get e 0)) (slice_get f 0)) (head_joined ((a ++ b) ++ c) d)
    ∙ ap (λ o. option_or (option_or (option_or o (slice_get d 0)) (slice_get e 0)) (slice_get f 0)) (head_joined (a ++ b) c)
    ∙ ap (λ o. option_or (option_or (option_or (option_or o (slice_get c 0)) (slice_get d 0)) (slice_get e 0)) (slice_get f 0)) (head_joined a b)
    ∙ regroup (slice_get a 0) (slice_get b 0) (slice_get c 0) (slice_get d 0) (slice_get e 0) (slice_get f 0)
    ∙ six (head_one (nat_lt (limits_of scale).vertices n) (TooManyVertices n)) (head_one (nat_lt (limits_of scale).faces (length fs)) (TooManyFaces (length fs))) (head_no_vertices n 1 fs) (head_repeated 1 fs) (head_doubled 1 fs) (head_unbalanced n fs)
  where
    six : {a a' b b' c c' d d' e e' f f' : Option ShapeFault} → a ≡ a' → b ≡ b' → c ≡ c' → d ≡ d' → e ≡ e' → f ≡ f'
        → option_or (option_or a (option_or b (option_or c (option_or d e)))) f ≡ option_or (option_or a' (option_or b' (option_or c' (option_or d' e')))) f'
    six p q r s t u = λ i. option_or (option_or (p i) (option_or (q i) (option_or (r i) (option_or (s i) (t i))))) (u i)

-- the first of a list of one at most, which are the first of them all
pub first_of_one : (scale : Scale) (n : ℕ) (fs : Faces) (found : List ShapeFault) → found ≡ take 1 (shape_faults scale n fs) → slice_get found 0 ≡ shape_fault scale n fs
first_of_one scale n fs found is = ap (λ l. slice_get l 0) is ∙ head_of_one (shape_faults scale n fs) ∙ first_is_shape_fault scale n fs
  where
    head_of_one : (xs : List ShapeFault) → slice_get (take 1 xs) 0 ≡ slice_get xs 0
    head_of_one [] = refl
    head_of_one (x ∷ xs) = refl

-- ---- they are put into one list, kind by kind
pub kinds_joined : (scale : Scale) (n : ℕ) (fs : Faces) (most : ℕ) (l0 l1 l2 l3 l4 : List ShapeFault) → l0 ≡ [] → take most l1 ≡ take most (l0 ++ limit_faults scale n (length fs)) → take most l2 ≡ take most (l1 ++ no_vertices_from n 1 fs)
    → take most l3 ≡ take most (l2 ++ all_repeated_from 1 fs) → take most l4 ≡ take most (l3 ++ (all_doubled_from 1 fs ++ map unbalanced_fault (unbalanced_pairs n fs)))
    → take most l4 ≡ take most (shape_faults scale n fs)
kinds_joined scale n fs most l0 l1 l2 l3 l4 e0 e1 e2 e3 e4 =
    let a : List ShapeFault = limit_faults scale n (length fs) in
    let b : List ShapeFault = no_vertices_from n 1 fs in
    let c : List ShapeFault = all_repeated_from 1 fs in
    let d : List ShapeFault = all_doubled_from 1 fs in
    let e : List ShapeFault = map unbalanced_fault (unbalanced_pairs n fs) in
    let f1 : take most l1 ≡ take most a = e1 ∙ ap (λ l. take most (l ++ a)) e0 in
    let f2 : take most l2 ≡ take most (a ++ b) = e2 ∙ same_before most l1 a b f1 in
    let f3 : take most l3 ≡ take most ((a ++ b) ++ c) = e3 ∙ same_before most l2 (a ++ b) c f2 in
    e4 ∙ same_before most l3 ((a ++ b) ++ c) (d ++ e) f3 ∙ ap (take most) (sym (append_assoc ((a ++ b) ++ c) d e))
