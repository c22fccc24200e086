-- Lists that grow by one more item, or by one more piece.
use Rattle.std.proofs.Common.{◌≡◌, ℕ, zero, suc, ◌+◌, ◌*◌, ◌^◌, ◌<◌, ◌≤◌, List, [], ◌∷◌, ◌++◌, map, length, sym, ap, refl, ◌∙◌, append_assoc, arith}
use Rattle.std.specs.List.{flat_map, range_with_len, enumerate_from}
use Rattle.std.proofs.Math.Nat.{mul-le-mul}
use Rattle.std.proofs.lemmas.List.{map-append, length-append}
use Rattle.std.proofs.lemmas.List.FromFn.{length-map-range_with_len}
use Rattle.std.proofs.lemmas.List.Concat.{flat_map-append}
use Rattle.edit_base.specs.declared.PassKind.TheVariants as pass
use Rattle.step_text.specs.declared.Directive.{Directive}
use Rattle.step_text.specs.declared.Directive.TheVariants.{ShiftOne, Step, Pass, Save}
use Rattle.step_text.specs.declared.Placed.{Placed}
use Rattle.mesh_make.specs.Cubes.{IsRow}
use Rattle.mesh_make.specs.CubeSteps.{cube_shift, cube_with, shifts_in, step_of, cubes_directives, on_lines}

-- there are at most so many cubes
pub cubes-few : (n : ℕ) → IsRow n → n * n * n ≤ 1728
cubes-few n row = mul-le-mul (mul-le-mul row.few row.few) row.few

range_more : (a n : ℕ) → range_with_len a (suc n) ≡ range_with_len a n ++ (a + n) ∷ []
range_more a zero = let same : a ≡ a + 0 = omega arith in ap (λ k. k ∷ []) same
range_more a (suc n) = let same : (a + 1) + n ≡ a + suc n = omega arith in ap (λ ks. a ∷ ks) (range_more (a + 1) n ∙ ap (λ k. range_with_len (a + 1) n ++ k ∷ []) same)

-- one more number, from 0
numbers_more : (n : ℕ) → range_with_len 0 (n + 1) ≡ range_with_len 0 n ++ n ∷ []
numbers_more n = let next : n + 1 ≡ suc n = omega arith in let same : 0 + n ≡ n = omega arith in ap (range_with_len 0) next ∙ range_more 0 n ∙ ap (λ k. range_with_len 0 n ++ k ∷ []) same

-- what has the items of s and then those of a piece has those of one more
pub pieces_more : {X : Type 0} (piece : ℕ → List X) (n : ℕ) (s t : List X) → s ≡ flat_map piece (range_with_len 0 n) → t ≡ s ++ piece n → t ≡ flat_map piece (range_with_len 0 (n + 1))
pieces_more piece n s t before after =
    let one : piece n ++ [] ≡ piece n = append_none (piece n) in
    after ∙ ap (λ xs. xs ++ piece n) before ∙ ap (λ xs. flat_map piece (range_with_len 0 n) ++ xs) (sym one)
    ∙ sym (flat_map-append piece (range_with_len 0 n) (n ∷ [])) ∙ ap (flat_map piece) (sym (numbers_more n))
  where
    append_none : {X : Type 0} (xs : List X) → xs ++ [] ≡ xs
    append_none [] = refl
    append_none (x ∷ xs) = ap (λ ys. x ∷ ys) (append_none xs)

-- the same of items that are made of the numbers from 1
pub items_more : {X : Type 0} (item : ℕ → X) (n : ℕ) (base s t : List X) → s ≡ base ++ map item (range_with_len 1 n) → t ≡ s ++ item (n + 1) ∷ [] → t ≡ base ++ map item (range_with_len 1 (n + 1))
items_more item n base s t before after =
    let next : suc n ≡ n + 1 = omega arith in
    let same : 1 + n ≡ n + 1 = omega arith in
    after ∙ ap (λ xs. xs ++ item (n + 1) ∷ []) before ∙ append_assoc base (map item (range_with_len 1 n)) (item (n + 1) ∷ [])
    ∙ ap (λ xs. base ++ xs) (sym (map-append item (range_with_len 1 n) ((n + 1) ∷ [])) ∙ ap (map item) (ap (λ k. range_with_len 1 n ++ k ∷ []) (sym same) ∙ sym (range_more 1 n) ∙ ap (range_with_len 1) next))

-- one more directive on the next line
line_more : (k : ℕ) (xs : List Directive) (d : Directive) → enumerate_from k (xs ++ d ∷ []) ≡ enumerate_from k xs ++ (k + length xs, d) ∷ []
line_more k [] d = let same : k ≡ k + 0 = omega arith in ap (λ n. (n, d) ∷ []) same
line_more k (x ∷ xs) d =
    let same : (k + 1) + length xs ≡ k + suc (length xs) = omega arith in
    ap (λ es. (k, x) ∷ es) (line_more (k + 1) xs d ∙ ap (λ n. enumerate_from (k + 1) xs ++ (n, d) ∷ []) same)

abbrev placed : ℕ × Directive → Placed
placed e = record { line = e.0; what = e.1 }

pub on_lines_more : (xs : List Directive) (d : Directive) (line : ℕ) → line ≡ length xs + 1 → on_lines (xs ++ d ∷ []) ≡ on_lines xs ++ record { line = line; what = d } ∷ []
on_lines_more xs d line is =
    let same : 1 + length xs ≡ line = omega arith in
    ap (map placed) (line_more 1 xs d) ∙ map-append placed (enumerate_from 1 xs) ((1 + length xs, d) ∷ []) ∙ ap (λ n. on_lines xs ++ record { line = n; what = d } ∷ []) same

step_length : (n key step : ℕ) → length (step_of n key step) ≡ 8 * (n * n * n) + 1
step_length n key step =
    let count = length-map-range_with_len (λ v. ShiftOne v (cube_shift key step (cube_with v))) 1 (8 * (n * n * n)) in
    length-append (shifts_in n key step) (Step ∷ []) ∙ ap (λ (k : ℕ). k + 1) count

-- there are few directives
pub directives-few : (n key : ℕ) → IsRow n → length (cubes_directives n key) < 2 ^ 32
directives-few n key row =
    let few = cubes-few n row in
    let one = step_of n key 1 in
    let two = step_of n key 2 in
    let three = step_of n key 3 in
    let last = Pass (pass.Split 50) ∷ Save ∷ [] in
    few_of (length-append (one ++ two ++ three) last) (length-append (one ++ two) three) (length-append one two) (step_length n key 1) (step_length n key 2) (step_length n key 3) few
  where
    few_of : {whole all both a b c cubes : ℕ} → whole ≡ all + 2 → all ≡ both + c → both ≡ a + b → a ≡ 8 * cubes + 1 → b ≡ 8 * cubes + 1 → c ≡ 8 * cubes + 1 → cubes ≤ 1728 → whole < 2 ^ 32
    few_of p q r s t u few = omega arith
