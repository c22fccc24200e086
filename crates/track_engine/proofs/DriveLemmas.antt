-- What a field answers at each vertex is added to what is asked of it.
use Rattle.std.proofs.Common.{◌≡◌, ℕ, ◌+◌, ◌<◌, ◌≤◌, ◌==◌, ◌||◌, suc, zero, add-one, Bool, true, false, cond, not, List, [], ◌∷◌, ◌++◌, map, length, take, get_or, slice_get, Option, Some, None, Result, Ok, Err, refl, ap, sym, ◌∙◌, subst, arith}
use Rattle.std.specs.FinMap as finite
use Rattle.std.specs.FinMap.{get-entries}
use Rattle.std.specs.FinMap.Entries as entries
use Rattle.std.specs.Map.{keys_of}
use Rattle.std.specs.Cmp.{unsigned_tied}
use Rattle.std.specs.List.{find, AllByRecursion}
use Rattle.std.specs.List.Sorted.{IsStrictlySortedBy}
use Rattle.std.specs.Option.{option_map, option_or}
use Rattle.std.specs.Ordering.{nat_cmp, eq_by_cmp}
use Rattle.std.proofs.Math.Seq.{take-suc}
use Rattle.std.proofs.lemmas.Bool.{eq-eqb, eqb-true}
use Rattle.std.proofs.lemmas.List.{map-append, take_all}
use Rattle.std.proofs.lemmas.List.Folds.{find-append}
use Rattle.std.proofs.lemmas.Map.Keys.{sorted_head, sorted_tail}
use Rattle.grid_base.specs.declared.TheConstants.{SHIFT_MAX}
use Rattle.grid_base.specs.declared.Point.{Point}
use Rattle.grid_base.specs.declared.Shift.{Shift}
use Rattle.grid_base.specs.Points.{is_within, point_at}
use Rattle.grid_base.proofs.PointLaws.{point_at-position_of}
use Rattle.mesh_base.specs.declared.ShiftOf.{ShiftOf}
use Rattle.mesh_base.specs.Mesh.{Mesh, is_solid}
use Rattle.mesh_base.specs.declared.UseWhy.TheVariants.{ShiftRange}
use Rattle.mesh_base.specs.Placements.{point_of, position_or_origin}
use Rattle.mesh_base.specs.Shifts.{Shifts, NameLive, with_shift}
use Rattle.mesh_base.proofs.ListedPairs.{all_mapped}
use Rattle.track_engine.specs.Answered.{IsAnswerAt, AreAnswersOf}
use Rattle.track_engine.specs.Effects.{summed, is_beyond, first_beyond, summed_unless_solid, all_summed, sum_or_range, sum_of_all}
use Rattle.track_engine.specs.Shifting.{SumsOne, Sums}
use Rattle.track_engine.proofs.ShiftLemmas.{below_at, not_earlier}

-- one answer more
abbrev pub with_answer : ℕ → Shift → (ℕ → Shift) → ℕ → Shift
with_answer v answer by u = cond (u == v) answer (by u)

module _ (may_answer : Point → Shift → Type 0) (m : Mesh) (by : ℕ → Shift) (v : ℕ) (answer : Shift) where
  abbrev more : ℕ → Shift
  more = with_answer v answer by

  at_others : (u : ℕ) → (u == v) ≡ false → more u ≡ by u
  at_others u e = ap (λ b. cond b answer (by u)) e

  at_itself : more v ≡ answer
  at_itself = ap (λ b. cond b answer (by v)) (eq-eqb v v refl)

  -- the sums of other vertices stay
  same_sums : (xs : Shifts) → AllByRecursion (λ t. (t.v == v) ≡ false) xs → all_summed m more xs ≡ all_summed m by xs
  same_sums [] h = refl
  same_sums (t ∷ xs) h =
      ap (λ (q : Shift). cond (is_solid m t.v) t (with_shift t (summed q t)) ∷ all_summed m more xs) (at_others t.v h.0)
      ∙ ap (λ l. summed_unless_solid m by t ∷ l) (same_sums xs h.1)

  same_found : (xs : Shifts) → AllByRecursion (λ t. (t.v == v) ≡ false) xs → find (is_beyond m more) xs ≡ find (is_beyond m by) xs
  same_found [] h = refl
  same_found (t ∷ xs) h =
      ap (λ (q : Shift). cond (not (is_solid m t.v || is_within SHIFT_MAX (summed q t))) (Some t) (find (is_beyond m more) xs)) (at_others t.v h.0)
      ∙ ap (λ o. cond (is_beyond m by t) (Some t) o) (same_found xs h.1)

  same_answered : (xs : Shifts) → AllByRecursion (λ t. (t.v == v) ≡ false) xs → AllByRecursion (λ t. IsAnswerAt may_answer m t.v (by t.v)) xs → AllByRecursion (λ t. IsAnswerAt may_answer m t.v (more t.v)) xs
  same_answered [] h a = tt
  same_answered (t ∷ xs) h a = (subst (λ (q : Shift). IsAnswerAt may_answer m t.v q) (sym (at_others t.v h.0)) a.0, same_answered xs h.1 a.1)

-- those before a vertex are others
others_before : (asked : Shifts) (i : ℕ) (s : ShiftOf) → IsStrictlySortedBy nat_cmp (map (λ t. t.v) asked) → slice_get asked i ≡ Some s → AllByRecursion (λ t. (t.v == s.v) ≡ false) (take i asked)
others_before [] i s sorted at = absurd cc
others_before (t ∷ rest) zero s sorted at = tt
others_before (t ∷ rest) (suc i) s sorted at =
    (not_earlier t.v s.v s.v refl (below_at t.v rest i s (sorted_head nat_cmp t.v (map (λ u. u.v) rest) sorted) at), others_before rest i s (sorted_tail nat_cmp t.v (map (λ u. u.v) rest) sorted) at)

get_at : {X : Type 0} (xs : List X) (i : ℕ) (x : X) → i < length xs → x ≡ get_or xs i x → slice_get xs i ≡ Some x
get_at [] i x h at = absurd (omega (arith, h))
get_at (y ∷ xs) zero x h at = ap Some (sym at)
get_at (y ∷ xs) (suc i) x h at = get_at xs i x (omega (arith, h)) at

one_further : {X : Type 0} (xs : List X) (i : ℕ) (x : X) → i < length xs → x ≡ get_or xs i x → take (i + 1) xs ≡ take i xs ++ x ∷ []
one_further xs i x h at = ap (λ n. take n xs) (add-one i) ∙ take-suc xs i x h ∙ ap (λ y. take i xs ++ y ∷ []) (sym at)

all_then : {X : Type 0} (P : X → Type 0) (xs : List X) (x : X) → AllByRecursion P xs → P x → AllByRecursion P (xs ++ x ∷ [])
all_then P [] x all here = (here, tt)
all_then P (y ∷ xs) x all here = (all.0, all_then P xs x all.1 here)

-- The vertices so far were answered so. Of these the first whose sum is above the limit is told, and where there is none, these are the
-- sums.
pub record Driving (may_answer : Point → Shift → Type 0) (m : Mesh) (asked sums : Shifts) (beyond : Option ℕ) : Type 0 where
  pub by : ℕ → Shift
  pub answered : AllByRecursion (λ s. IsAnswerAt may_answer m s.v (by s.v)) asked
  pub found : first_beyond m by asked ≡ beyond
  pub summed : beyond ≡ None → sums ≡ all_summed m by asked

pub driving_none : (may_answer : Point → Shift → Type 0) (m : Mesh) (unasked : Shift) (sums : Shifts) → sums ≡ [] → Driving may_answer m [] sums None
driving_none may_answer m unasked sums e = record { by = λ v. unasked; answered = tt; found = refl; summed = λ none. e }

module _ (may_answer : Point → Shift → Type 0) (m : Mesh) (asked : Shifts) (i : ℕ) (s : ShiftOf) (sorted : IsStrictlySortedBy nat_cmp (map (λ t. t.v) asked)) (h : i < length asked) (at : s ≡ get_or asked i s)
    (sums : Shifts) (beyond : Option ℕ) (driving : Driving may_answer m (take i asked) sums beyond) (answer : Shift) (is : IsAnswerAt may_answer m s.v answer) where
  abbrev now : ℕ → Shift
  now = with_answer s.v answer driving.by

  others : AllByRecursion (λ t. (t.v == s.v) ≡ false) (take i asked)
  others = others_before asked i s sorted (get_at asked i s h at)

  sums_one : (o : Option ShiftOf) → SumsOne m (λ v. answer) s o → SumsOne m now s o
  sums_one o = let P : Shift → Type 0 = λ q. SumsOne m (λ v. q) s o in subst P (sym (at_itself may_answer m driving.by s.v answer))

  answered : AllByRecursion (λ t. IsAnswerAt may_answer m t.v (now t.v)) (take i asked ++ s ∷ [])
  answered =
      all_then (λ t. IsAnswerAt may_answer m t.v (now t.v)) (take i asked) s (same_answered may_answer m driving.by s.v answer (take i asked) others driving.answered)
      (subst (λ (q : Shift). IsAnswerAt may_answer m s.v q) (sym (at_itself may_answer m driving.by s.v answer)) is)

  -- what is found among those so far and this one
  found_with : (b : Bool) → is_beyond m now s ≡ b → first_beyond m now (take i asked ++ s ∷ []) ≡ option_or beyond (cond b (Some s.v) None)
  found_with b e =
      ap (option_map (λ (t : ShiftOf). t.v)) (find-append (is_beyond m now) (take i asked) (s ∷ []) ∙ ap (λ o. option_or o (find (is_beyond m now) (s ∷ []))) (same_found may_answer m driving.by s.v answer (take i asked) others) ∙ ap (λ c. option_or (find (is_beyond m driving.by) (take i asked)) (cond c (Some s) None)) e)
      ∙ named (find (is_beyond m driving.by) (take i asked)) b
      ∙ ap (λ o. option_or o (cond b (Some s.v) None)) driving.found
    where
      named : (o : Option ShiftOf) (c : Bool) → option_map (λ (t : ShiftOf). t.v) (option_or o (cond c (Some s) None)) ≡ option_or (option_map (λ (t : ShiftOf). t.v) o) (cond c (Some s.v) None)
      named (Some t) c = refl
      named None true = refl
      named None false = refl

  -- its sum is within the limit
  pub driven_within : (sum : ShiftOf) (after : Shifts) (told : Option ℕ) → SumsOne m (λ v. answer) s (Some sum) → after ≡ sums ++ sum ∷ [] → told ≡ beyond → Driving may_answer m (take (i + 1) asked) after told
  driven_within sum after told one e same =
      let here = sums_one (Some sum) one in
      let P : Shifts → Type 0 = λ l. Driving may_answer m l after told in
      subst P (sym (one_further asked i s h at)) (record {
        by = now;
        answered = answered;
        found = found_with false here.0 ∙ none_or beyond ∙ sym same;
        summed = λ none.
            e ∙ ap (λ l. l ++ sum ∷ []) (driving.summed (sym same ∙ none) ∙ sym (same_sums may_answer m driving.by s.v answer (take i asked) others))
            ∙ ap (λ x. all_summed m now (take i asked) ++ x ∷ []) here.1
            ∙ sym (map-append (summed_unless_solid m now) (take i asked) (s ∷ []));
      })
    where
      none_or : (o : Option ℕ) → option_or o None ≡ o
      none_or (Some v) = refl
      none_or None = refl

  -- its sum is above the limit
  pub driven_beyond : (after : Shifts) (told : Option ℕ) → SumsOne m (λ v. answer) s None → told ≡ option_or beyond (Some s.v) → Driving may_answer m (take (i + 1) asked) after told
  driven_beyond after told one is_told =
      let P : Shifts → Type 0 = λ l. Driving may_answer m l after told in
      subst P (sym (one_further asked i s h at)) (record {
        by = now;
        answered = answered;
        found = found_with true (sums_one None one) ∙ sym is_told;
        summed = λ none. absurd (some_or beyond (sym is_told ∙ none));
      })
    where
      some_or : (o : Option ℕ) → option_or o (Some s.v) ≡ None → ⊥
      some_or (Some v) e = cc
      some_or None e = cc

-- ---- all vertices

found_key : {X : Type 0} (P : ℕ → Type 0) (es : List (ℕ × X)) (v : ℕ) (x : X) → AllByRecursion P (keys_of es) → entries.find nat_cmp v es ≡ Some x → P v
found_key P [] v x all e = absurd cc
found_key P (k ∷ es) v x all e = by_test (found_key P es v x all.1) (eq_by_cmp nat_cmp v k.0) refl e
  where
    by_test : (entries.find nat_cmp v es ≡ Some x → P v) → (b : Bool) → eq_by_cmp nat_cmp v k.0 ≡ b → cond b (Some k.1) (entries.find nat_cmp v es) ≡ Some x → P v
    by_test later true t e = subst P (sym (eqb-true v k.0 (sym (unsigned_tied v k.0) ∙ t))) all.0
    by_test later false t e = later e

each_live : (may_answer : Point → Shift → Type 0) (m : Mesh) (asked : Shifts) (by : ℕ → Shift) → NameLive m asked → AllByRecursion (λ s. IsAnswerAt may_answer m s.v (by s.v)) asked → AreAnswersOf may_answer m by
each_live may_answer m asked by named all v p stands free =
    let P : ℕ → Type 0 = λ u. IsAnswerAt may_answer m u (by u) in
    found_key P (finite.entries m.points) v p (subst (AllByRecursion P) named (all_mapped P (λ s. s.v) asked all)) (sym (get-entries m.points v) ∙ stands) p stands free

module _ (may_answer : Point → Shift → Type 0) (m : Mesh) (asked : Shifts) (named : NameLive m asked) (i : ℕ) (over : length asked ≤ i) (sums : Shifts) (beyond : Option ℕ) (driving : Driving may_answer m (take i asked) sums beyond) where
  whole : Driving may_answer m asked sums beyond
  whole = let P : Shifts → Type 0 = λ l. Driving may_answer m l sums beyond in subst P (take_all i asked over) driving

  -- each sum is within the limit
  pub driven_all : beyond ≡ None → (by : ℕ → Shift) × AreAnswersOf may_answer m by × Sums m by asked (Ok sums)
  driven_all none = (whole.by, each_live may_answer m asked whole.by named whole.answered, (whole.found ∙ none, whole.summed none))

  -- the first that is not
  pub driven_over : (v : ℕ) → beyond ≡ Some v → (by : ℕ → Shift) × AreAnswersOf may_answer m by × Sums m by asked (Err v)
  driven_over v some = (whole.by, each_live may_answer m asked whole.by named whole.answered, whole.found ∙ some)

-- ---- what is asked from here on

-- a vertex stands at its point
pub stands_at : (m : Mesh) (v : ℕ) (p : Point) → finite.get m.points v ≡ Some p → point_of m v ≡ p
stands_at m v p stands = ap (λ (o : Option Point). point_at (position_or_origin o)) stands ∙ point_at-position_of p

module _ (may_answer : Point → Shift → Type 0) (m : Mesh) (asked given : Shifts) (same : given ≡ asked) (r : Result Shifts ℕ) (driven : (by : ℕ → Shift) × AreAnswersOf may_answer m by × Sums m by given r) where
  sums_at : (x : Result Shifts ℕ) → r ≡ x → Sums m driven.0 given x
  sums_at x e = let P : Result Shifts ℕ → Type 0 = λ y. Sums m driven.0 given y in subst P e driven.2

  -- the first vertex whose sum is above the limit is told
  pub asks_over : (v w : ℕ) → r ≡ Err v → w ≡ v → (by : ℕ → Shift) × AreAnswersOf may_answer m by × (sum_of_all m by asked ≡ Err (ShiftRange w))
  asks_over v w is named = (
    driven.0,
    driven.1,
    ap (sum_of_all m driven.0) (sym same) ∙ ap (λ o. sum_or_range o m driven.0 given) (sums_at (Err v) is) ∙ ap (λ x. Err (ShiftRange x)) (sym named),
  )
