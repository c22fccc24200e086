-- Where no side runs up twice, no two faces are equal up to rotation.
use Rattle.std.proofs.Common.{◌≡◌, ℕ, ◌+◌, ◌<◌, ◌≤◌, ◌==◌, ◌&&◌, ◌||◌, Bool, true, false, cond, List, [], ◌∷◌, ◌++◌, Some, None, nat_lt, refl, sym, ap, subst, ◌∙◌, arith, if◌then◌else◌}
use Rattle.std.proofs.lemmas.List.Sums.{sum_by-cons}
use Rattle.std.proofs.lemmas.Bool.{eqb-true}
use Rattle.std.proofs.lemmas.Bool.Decides.{nat_tests}
use Rattle.mesh_base.specs.declared.ids.Corners.{Corners}
use Rattle.mesh_base.specs.Mesh.{equal_up_to_rotation}
use Rattle.mesh_base.specs.Sides.{follows}
use Rattle.mesh_base.specs.SideList.{side_rank}
use Rattle.mesh_base.specs.Changes.{corners_of}
use Rattle.mesh_base.specs.Given.{Faces}
use Rattle.mesh_base.proofs.Tests.{and_first, and_second}
use Rattle.mesh_shape.specs.Shape.{repeats, repeated_from, runs_in}
use Rattle.mesh_shape.specs.Balance.{same_ends, times, HasRuns, rises_from}
use Rattle.mesh_shape.specs.ShapeFaults.{first_equal, doubled_by, all_doubled_from}
use Rattle.mesh_shape.proofs.Lists.{none_here}
use Rattle.mesh_shape.proofs.Rotations.{follows_equal}
use Rattle.mesh_shape.proofs.Differing.{times_more}

-- ---- in a list that rises each side stands once

less_of : (a b : ℕ) → nat_lt a b ≡ true → a < b
less_of a b h = grind (arith, nat_tests)

same_rank : (s : ℕ × ℕ) (u v : ℕ) → same_ends s (u, v) ≡ true → side_rank s ≡ side_rank (u, v)
same_rank s u v h =
    let first : s.0 ≡ u = eqb-true s.0 u (and_first (s.0 == u) (s.1 == v) h) in
    let second : s.1 ≡ v = eqb-true s.1 v (and_second (s.0 == u) (s.1 == v) h) in
    ap (λ a. side_rank (a, s.1)) first ∙ ap (λ b. side_rank (u, b)) second

none_after : (last : ℕ) (ss : List (ℕ × ℕ)) (u v : ℕ) → rises_from last ss ≡ true → side_rank (u, v) ≤ last → times ss u v ≡ 0
none_after last [] u v rise past = refl
none_after last (s ∷ ss) u v rise past =
    let more : last < side_rank s = less_of last (side_rank s) (and_first (nat_lt last (side_rank s)) (rises_from (side_rank s) ss) rise) in
    let rest = none_after (side_rank s) ss u v (and_second (nat_lt last (side_rank s)) (rises_from (side_rank s) ss) rise) (omega (arith, past, more)) in
    times_more s ss u v ∙ by (same_ends s (u, v)) refl more rest
  where
    by : (b : Bool) → same_ends s (u, v) ≡ b → last < side_rank s → times ss u v ≡ 0 → cond {A = ℕ} b 1 0 + times ss u v ≡ 0
    by true is more rest = absurd (omega (arith, same_rank s u v is, past, more))
    by false is more rest = omega (arith, rest)

once : (last : ℕ) (ss : List (ℕ × ℕ)) (u v : ℕ) → rises_from last ss ≡ true → times ss u v ≤ 1
once last [] u v rise = omega arith
once last (s ∷ ss) u v rise =
    let rises = and_second (nat_lt last (side_rank s)) (rises_from (side_rank s) ss) rise in
    subst (λ n. n ≤ 1) (sym (times_more s ss u v)) (by (same_ends s (u, v)) refl rises (once (side_rank s) ss u v rises))
  where
    by : (b : Bool) → same_ends s (u, v) ≡ b → rises_from (side_rank s) ss ≡ true → times ss u v ≤ 1 → cond {A = ℕ} b 1 0 + times ss u v ≤ 1
    by true is rises later =
        let none : times ss u v ≡ 0 = none_after (side_rank s) ss u v rises (omega (arith, same_rank s u v is)) in
        omega (arith, none)
    by false is rises later = omega (arith, later)

-- ---- a face with three corners has a side that runs up

record RunsUp (c : Corners) : Type 0 where
  from : ℕ
  to : ℕ
  up : nat_lt from to ≡ true
  runs : follows c from to ≡ true

one_up : (c : Corners) → repeats c ≡ false → RunsUp c
one_up c different = by (nat_lt c.first c.second) (nat_lt c.second c.third) refl refl
  where
    first_runs : (a b c : ℕ) → ((a == a && b == b) || (b == a && c == b) || (c == a && a == b)) ≡ true
    first_runs a b c = grind (arith, nat_tests)

    second_runs : (a b c : ℕ) → ((a == b && b == c) || (b == b && c == c) || (c == b && a == c)) ≡ true
    second_runs a b c = grind (arith, nat_tests)

    third_runs : (a b c : ℕ) → ((a == c && b == a) || (b == c && c == a) || (c == c && a == a)) ≡ true
    third_runs a b c = grind (arith, nat_tests)

    else_third : (a b c : ℕ) → ((a == b) || (b == c) || (c == a)) ≡ false → nat_lt a b ≡ false → nat_lt b c ≡ false → nat_lt c a ≡ true
    else_third a b c h p q = grind (arith, nat_tests)

    by : (p q : Bool) → nat_lt c.first c.second ≡ p → nat_lt c.second c.third ≡ q → RunsUp c
    by true q first second = record { from = c.first; to = c.second; up = first; runs = first_runs c.first c.second c.third }
    by false true first second = record { from = c.second; to = c.third; up = second; runs = second_runs c.first c.second c.third }
    by false false first second = record {
      from = c.third;
      to = c.first;
      up = else_third c.first c.second c.third different first second;
      runs = third_runs c.first c.second c.third;
    }

-- ---- so none is found

run_more : (f : List ℕ) (fs : Faces) (u v : ℕ) → runs_in (f ∷ fs) u v ≡ cond {A = ℕ} (follows (corners_of f) u v) 1 0 + runs_in fs u v
run_more f fs u v = sum_by-cons (λ g. cond {A = ℕ} (follows (corners_of g) u v) 1 0) f fs

abbrev RunOnce : Faces → Type 0
RunOnce fs = (u v : ℕ) → nat_lt u v ≡ true → runs_in fs u v ≤ 1

-- a face that runs a side is not among others that do not
none_runs : (f : List ℕ) (k : ℕ) (fs : Faces) (u v : ℕ) → follows (corners_of f) u v ≡ true → runs_in fs u v ≡ 0 → first_equal k f fs ≡ None
none_runs f k [] u v runs none = refl
none_runs f k (g ∷ gs) u v runs none = by (equal_up_to_rotation (corners_of f) (corners_of g)) refl (none_runs f (k + 1) gs u v runs)
  where
    sum : cond {A = ℕ} (follows (corners_of g) u v) 1 0 + runs_in gs u v ≡ 0
    sum = sym (run_more g gs u v) ∙ none

    later : runs_in gs u v ≡ 0
    later = omega (arith, sum)

    here : follows (corners_of g) u v ≡ true → ⊥
    here is =
        let one : cond {A = ℕ} (follows (corners_of g) u v) 1 0 ≡ 1 = ap (λ b. cond {A = ℕ} b 1 0) is in
        absurd (omega (arith, sum, one))

    by : (b : Bool) → equal_up_to_rotation (corners_of f) (corners_of g) ≡ b → (runs_in gs u v ≡ 0 → first_equal (k + 1) f gs ≡ None) → cond b (Some k) (first_equal (k + 1) f gs) ≡ None
    by true is rest = absurd (here (follows_equal (corners_of f) (corners_of g) u v is ∙ runs))
    by false is rest = rest later

none_equal : (j k : ℕ) (fs : Faces) → RunOnce fs → repeated_from j fs ≡ None → all_doubled_from k fs ≡ []
none_equal j k [] runs different = refl
none_equal j k (f ∷ fs) runs different =
    let parts = none_here (repeats (corners_of f)) j (repeated_from (j + 1) fs) different in
    let side = one_up (corners_of f) parts.0 in
    let one : cond {A = ℕ} (follows (corners_of f) side.from side.to) 1 0 ≡ 1 = ap (λ b. cond {A = ℕ} b 1 0) side.runs in
    let none : runs_in fs side.from side.to ≡ 0 = omega (arith, one, run_more f fs side.from side.to, runs side.from side.to side.up) in
    let later : RunOnce fs = λ u v up. omega (arith, run_more f fs u v, runs u v up) in
    ap (λ o. doubled_by k o ++ all_doubled_from (k + 1) fs) (none_runs f (k + 1) fs side.from side.to side.runs none) ∙ none_equal (j + 1) (k + 1) fs later parts.1

pub none_doubled : (fs : Faces) (up : List (ℕ × ℕ)) → HasRuns up (λ u v. runs_in fs u v) → rises_from 0 up ≡ true → repeated_from 1 fs ≡ None → all_doubled_from 1 fs ≡ []
none_doubled fs up has rises different = none_equal 1 1 fs
    (λ u v less. subst (λ n. n ≤ 1) (has u v ∙ ap (λ b. if b then runs_in fs u v else 0) less) (once 0 up u v rises)) different
