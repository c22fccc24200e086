-- A solid vertex that has no shift gets none.
use Rattle.std.proofs.Common.{◌≡◌, ℕ, ◌==◌, ◌||◌, Bool, true, false, cond, List, [], ◌∷◌, map, ℤ, pos, Some, refl, sym, ap, ◌∙◌, ⊎_elim, arith}
use Rattle.std.specs.Option.{option_map, unwrap_or}
use Rattle.std.specs.List.{find, list_any}
use Rattle.std.proofs.lemmas.Bool.{false≢true, eqb-true}
use Rattle.grid_base.specs.Triples.{Triple}
use Rattle.grid_base.specs.Points.{displacement_of, shift_by}
use Rattle.mesh_base.specs.declared.steps.ShiftOf.{ShiftOf}
use Rattle.mesh_base.specs.Mesh.{Mesh, is_solid}
use Rattle.mesh_base.specs.Pairs.{Pair, five_ids}
use Rattle.mesh_base.specs.Placements.{origin, rest_positions, positions}
use Rattle.mesh_base.specs.Shifts.{Shifts, with_shift, shift_at}
use Rattle.mesh_base.proofs.Tests.{or_either, or_first, or_second}
use Rattle.step_impulse.specs.declared.axis.Axis.{Axis}
use Rattle.step_impulse.specs.declared.axis.Axis.TheVariants.{X, Y, Z}
use Rattle.step_impulse.specs.Axes.{with_component}
use Rattle.step_impulse.specs.Impulse.{widest_axis, sum_on, given, some_fixed, share, below, each_given}
use Rattle.step_impulse.specs.Passes.{with_shift_of, with_shifts_of, after_pair, after_pass}

abbrev is_one_of : List ℕ → ℕ → Bool
is_one_of xs v = list_any (λ u. u == v) xs

-- ---- one vertex
still_put : (u v : ℕ) (t : Triple) (shifts : Shifts) → ((u == v) ≡ true → t ≡ origin) → shift_at shifts v ≡ origin → shift_at (with_shift_of u t shifts) v ≡ origin
still_put u v t [] rests none = refl
still_put u v t (s ∷ rest) rests none = by_tests (s.v == u) (s.v == v) refl refl none (still_put u v t rest rests)
  where
    after : Bool → ShiftOf
    after a = cond a (with_shift s t) s

    named : (a : Bool) → (after a).v ≡ s.v
    named true = refl
    named false = refl

    at_test : (a b : Bool) → (s.v == v) ≡ b → shift_at (after a ∷ with_shift_of u t rest) v ≡ unwrap_or (option_map (λ x. displacement_of x.by) (cond b (Some (after a)) (find (λ x. x.v == v) (with_shift_of u t rest)))) origin
    at_test a b e = ap (λ k. unwrap_or (option_map (λ x. displacement_of x.by) (cond (k == v) (Some (after a)) (find (λ x. x.v == v) (with_shift_of u t rest)))) origin) (named a) ∙ ap (λ c. unwrap_or (option_map (λ x. displacement_of x.by) (cond c (Some (after a)) (find (λ x. x.v == v) (with_shift_of u t rest)))) origin) e

    before : (b : Bool) → (s.v == v) ≡ b → shift_at (s ∷ rest) v ≡ unwrap_or (option_map (λ x. displacement_of x.by) (cond b (Some s) (find (λ x. x.v == v) rest))) origin
    before b e = ap (λ c. unwrap_or (option_map (λ x. displacement_of x.by) (cond c (Some s) (find (λ x. x.v == v) rest))) origin) e

    same_two : (k a b : ℕ) → (k == a) ≡ true → (k == b) ≡ true → (a == b) ≡ true
    same_two k a b e f = ap (λ x. x == b) (sym (eqb-true k a e)) ∙ f

    by_tests : (a b : Bool) → (s.v == u) ≡ a → (s.v == v) ≡ b → shift_at (s ∷ rest) v ≡ origin → (shift_at rest v ≡ origin → shift_at (with_shift_of u t rest) v ≡ origin) → shift_at (cond a (with_shift s t) s ∷ with_shift_of u t rest) v ≡ origin
    by_tests true true e f none later = at_test true true f ∙ ap (λ d. displacement_of (shift_by d)) (rests (same_two s.v u v e f))
    by_tests false true e f none later = at_test false true f ∙ sym (before true f) ∙ none
    by_tests true false e f none later = at_test true false f ∙ later (sym (before false f) ∙ none)
    by_tests false false e f none later = at_test false false f ∙ later (sym (before false f) ∙ none)

-- ---- the five
no_component : (axis : Axis) → with_component axis (pos 0) origin ≡ origin
no_component X = refl
no_component Y = refl
no_component Z = refl

still_given : (axis : Axis) (gets : ℕ → ℤ) (by : ℕ → Triple) (ids : List ℕ) (v : ℕ) (shifts : Shifts) → (is_one_of ids v ≡ true → (gets v ≡ pos 0) × (by v ≡ origin)) → shift_at shifts v ≡ origin
    → shift_at (with_shifts_of ids (each_given axis gets ids (map by ids)) shifts) v ≡ origin
still_given axis gets by [] v shifts rests none = none
still_given axis gets by (u ∷ ids) v shifts rests none =
    still_given axis gets by ids v (with_shift_of u (with_component axis (gets u) (by u)) shifts) (λ k. rests (or_second (u == v) (is_one_of ids v) k))
    (still_put u v (with_component axis (gets u) (by u)) shifts nothing none)
  where
    nothing : (u == v) ≡ true → with_component axis (gets u) (by u) ≡ origin
    nothing e =
        let parts = rests (or_first (u == v) (is_one_of ids v) e) in
        let same = eqb-true u v e in
        (λ i. with_component axis (gets (same i)) (by (same i))) ∙ (λ i. with_component axis (parts.0 i) (parts.1 i)) ∙ no_component axis

-- one of five that are given is fixed
some_of : (holds : ℕ → Bool) (a b c d e v : ℕ) → holds v ≡ true → is_one_of (a ∷ b ∷ c ∷ d ∷ e ∷ []) v ≡ true → some_fixed (map holds (a ∷ b ∷ c ∷ d ∷ e ∷ [])) ≡ true
some_of holds a b c d e v h is =
    ⊎_elim (λ k. or_first (holds a || holds b || holds c || holds d) (holds e) (or_first (holds a || holds b || holds c) (holds d) (or_first (holds a || holds b) (holds c) (or_first (holds a) (holds b) (at a k)))))
    (λ k. ⊎_elim (λ k. or_first (holds a || holds b || holds c || holds d) (holds e) (or_first (holds a || holds b || holds c) (holds d) (or_first (holds a || holds b) (holds c) (or_second (holds a) (holds b) (at b k)))))
    (λ k. ⊎_elim (λ k. or_first (holds a || holds b || holds c || holds d) (holds e) (or_first (holds a || holds b || holds c) (holds d) (or_second (holds a || holds b) (holds c) (at c k))))
    (λ k. ⊎_elim (λ k. or_first (holds a || holds b || holds c || holds d) (holds e) (or_second (holds a || holds b || holds c) (holds d) (at d k)))
    (λ k. ⊎_elim (λ k. or_second (holds a || holds b || holds c || holds d) (holds e) (at e k))
    (λ k. absurd (false≢true k))
    (or_either (e == v) (is_one_of [] v) k))
    (or_either (d == v) (is_one_of (e ∷ []) v) k))
    (or_either (c == v) (is_one_of (d ∷ e ∷ []) v) k))
    (or_either (b == v) (is_one_of (c ∷ d ∷ e ∷ []) v) k))
    (or_either (a == v) (is_one_of (b ∷ c ∷ d ∷ e ∷ []) v) is)
  where
    at : (u : ℕ) → (u == v) ≡ true → holds u ≡ true
    at u k = ap holds (eqb-true u v k) ∙ h

still_after_pair : (m : Mesh) (shifts : Shifts) (p : Pair) (v : ℕ) → is_solid m v ≡ true → shift_at shifts v ≡ origin → shift_at (after_pair m shifts p) v ≡ origin
unfolding after_pair
still_after_pair m shifts p v solid none =
    let axis : Axis = widest_axis (positions (rest_positions m) p) in
    let ids : List ℕ = five_ids p in
    let sum : ℤ = sum_on axis (map (shift_at shifts) ids) in
    still_given axis (given (some_fixed (map (is_solid m) ids)) sum ids) (shift_at shifts) ids v shifts
    (λ k. (ap (λ t. cond t (pos 0) (share sum (below ids v))) (some_of (is_solid m) p.name.a p.name.b p.corners.first p.corners.second p.corners.third v solid k), none)) none

pub still_after : (m : Mesh) (hits : List Pair) (shifts : Shifts) (v : ℕ) → is_solid m v ≡ true → shift_at shifts v ≡ origin → shift_at (after_pass m hits shifts) v ≡ origin
still_after m [] shifts v solid none = none
still_after m (p ∷ hits) shifts v solid none = still_after m hits (after_pair m shifts p) v solid (still_after_pair m shifts p v solid none)
