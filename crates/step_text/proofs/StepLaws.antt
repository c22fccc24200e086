-- The directives of a step text are in range, on its lines and nested; its fault is on one of its lines.
use Rattle.std.proofs.Common.{◌≡◌, ℕ, ◌+◌, ◌-◌, ◌<◌, ◌≤◌, eqb, ltb, List, [], ◌∷◌, ◌++◌, length, take, Result, Ok, Err, refl, sym, subst, arith, length-append, length-take}
use Rattle.std.specs.Prelude.{IfOk}
use Rattle.std.specs.List.{AllByRecursion, enumerate_from}
use Rattle.std.specs.Str.Lines.{lines}
use Rattle.std.proofs.lemmas.Bool.{ltb-true, eqb-false}
use Rattle.std.proofs.lemmas.List.Elements.{All-from_recursion, recursion_from_All, All-take}
use Rattle.std.proofs.lemmas.List.FromFn.{length-enumerate_from}
use Rattle.line_text.specs.declared.TextWhy.{TextWhy}
use Rattle.line_text.specs.declared.TextWhy.TheVariants.{Nesting}
use Rattle.line_text.specs.declared.TextFault.{TextFault}
use Rattle.line_text.specs.declared.ReadFault.{ReadFault}
use Rattle.line_text.specs.Faults.{◌>>=◌, at_line, Gives}
use Rattle.line_text.specs.Texts.{numbered_lines, words_of}
use Rattle.line_text.proofs.LineCuts.{few_lines}
use Rattle.line_text.proofs.ReadSteps.{bound, ok_same, by_test, fault_value}
use Rattle.step_text.specs.declared.TheConstants.{GROUPS_MAX}
use Rattle.step_text.specs.declared.directive.Directive.{Directive}
use Rattle.step_text.specs.declared.directive.Directive.TheVariants.{SetDepth, SetPasses, SetZones, SetHalvings, ShiftOne, ShiftAll, Drive, Solid, Step, Pass, Fit, Save, Group, Close}
use Rattle.step_text.specs.declared.directive.Placed.{Placed}
use Rattle.step_text.specs.Ranges.{IsFrom, IsInRange, AreInRange, AreOnLines, Nests, open_behind, AreNested}
use Rattle.step_text.specs.Steps.{directive_of, SoFar, so_far, groups_behind, words_add, lines_add, closed_or_nesting, steps_of}
use Rattle.step_text.specs.Laws.{line_count, StepsAreInRange, FaultsAreOnLines, LinesAreFew}
use Rattle.step_text.proofs.DirectiveRanges.{directive_range}

-- ---- lists

all-append : {A : Type 0} (P : A → Type 0) (xs ys : List A) → AllByRecursion P xs → AllByRecursion P ys → AllByRecursion P (xs ++ ys)
all-append P [] ys p q = q
all-append P (x ∷ xs) ys p q = (p.0, all-append P xs ys p.1 q)

all-take : {A : Type 0} (P : A → Type 0) (n : ℕ) (xs : List A) → AllByRecursion P xs → AllByRecursion P (take n xs)
all-take P n xs p = recursion_from_All P (take n xs) (All-take P n xs (All-from_recursion P xs p))

nested-append : (first middle last : ℕ) (xs ys : List Placed) → AreNested first xs middle → AreNested middle ys last → AreNested first (xs ++ ys) last
nested-append first middle last [] ys p q = let P : ℕ → Type 0 = λ n. AreNested n ys last in subst P (sym p) q
nested-append first middle last (x ∷ xs) ys p q = (p.0, nested-append (open_behind first x.what) middle last xs ys p.1 q)

-- ---- groups

-- a directive that has its groups nests, and leaves as many open as it should, each opened on one of the lines
record Nested (count : ℕ) (what : Directive) (groups behind : List ℕ) : Type 0 where
  nests : Nests (length groups) what
  left : open_behind (length groups) what ≡ length behind
  lines : AllByRecursion (IsFrom 1 count) behind

groups_kept : (count : ℕ) (what : Directive) (groups behind : List ℕ) → AllByRecursion (IsFrom 1 count) groups → Nests (length groups) what → open_behind (length groups) what ≡ length groups → ◌≡◌ {A = Result (List ℕ) TextWhy} (Ok groups) (Ok behind) → Nested count what groups behind
groups_kept count what groups behind on nests same h = subst (Nested count what groups) (ok_same groups behind h) (record { nests = nests; left = same; lines = on })

groups_nested : (count line : ℕ) (what : Directive) (groups behind : List ℕ) → IsFrom 1 count line → AllByRecursion (IsFrom 1 count) groups → groups_behind line what groups ≡ Ok behind → Nested count what groups behind
groups_nested count line (SetDepth n) groups behind here on h = groups_kept count (SetDepth n) groups behind on tt refl h
groups_nested count line (SetPasses n) groups behind here on h = groups_kept count (SetPasses n) groups behind on tt refl h
groups_nested count line (SetZones b) groups behind here on h = groups_kept count (SetZones b) groups behind on tt refl h
groups_nested count line (SetHalvings n) groups behind here on h = groups_kept count (SetHalvings n) groups behind on tt refl h
groups_nested count line (ShiftOne v by) groups behind here on h = groups_kept count (ShiftOne v by) groups behind on tt refl h
groups_nested count line (ShiftAll by) groups behind here on h = groups_kept count (ShiftAll by) groups behind on tt refl h
groups_nested count line (Drive name) groups behind here on h = groups_kept count (Drive name) groups behind on tt refl h
groups_nested count line (Solid v) groups behind here on h = groups_kept count (Solid v) groups behind on tt refl h
groups_nested count line Step groups behind here on h = groups_kept count Step groups behind on tt refl h
groups_nested count line (Pass kind) groups behind here on h = groups_kept count (Pass kind) groups behind on tt refl h
groups_nested count line Fit groups behind here on h = groups_kept count Fit groups behind on tt refl h
groups_nested count line Save groups behind here on h = groups_kept count Save groups behind on tt refl h
groups_nested count line Group groups behind here on h = by_test (ltb (length groups) GROUPS_MAX) (Ok (groups ++ line ∷ [])) (Err Nesting) (Ok behind)
    (λ t e.
    let room : length groups < GROUPS_MAX = ltb-true (length groups) GROUPS_MAX t in
    subst (Nested count Group groups) (ok_same (groups ++ line ∷ []) behind e)
    (record { nests = room; left = sym (length-append groups (line ∷ [])); lines = all-append (IsFrom 1 count) groups (line ∷ []) on (here, tt) }))
    (λ t e. fault_value Nesting behind e)
    h
groups_nested count line Close groups behind here on h = by_test (eqb (length groups) 0) (Err Nesting) (Ok (take (length groups - 1) groups)) (Ok behind)
    (λ t e. fault_value Nesting behind e)
    (λ t e.
    let some : 0 < length groups = omega (arith, eqb-false (length groups) 0 t) in
    subst (Nested count Close groups) (ok_same (take (length groups - 1) groups) behind e)
    (record { nests = some; left = omega (arith, length-take (length groups - 1) groups); lines = all-take (IsFrom 1 count) (length groups - 1) groups on }))
    h

-- ---- lines

-- what there is so far is in range, on so many lines and nested
record IsGood (count : ℕ) (s : SoFar) : Type 0 where
  ranges : AreInRange s.directives
  lines : AreOnLines count s.directives
  groups : AllByRecursion (IsFrom 1 count) s.groups
  nested : AreNested 0 s.directives (length s.groups)

abbrev GoodWords : ℕ → Result SoFar TextWhy → Type 0
GoodWords count (Ok s) = IsGood count s
GoodWords count (Err why) = Unit {0}

abbrev GoodLines : ℕ → Result SoFar TextFault → Type 0
GoodLines count (Ok s) = IsGood count s
GoodLines count (Err fault) = IsFrom 1 count fault.line

more_good : (count line : ℕ) (s : SoFar) (what : Directive) (groups : List ℕ) → IsFrom 1 count line → IsGood count s → IsInRange what → Nested count what s.groups groups → IsGood count (so_far (s.directives ++ record { line = line; what = what } ∷ []) groups)
more_good count line s what groups here g r n =
    let more : List Placed = record { line = line; what = what } ∷ [] in
    record {
      ranges = all-append (λ placed. IsInRange placed.what) s.directives more g.ranges (r, tt);
      lines = all-append (λ placed. IsFrom 1 count placed.line) s.directives more g.lines (here, tt);
      groups = n.lines;
      nested = nested-append 0 (length s.groups) (length groups) s.directives more g.nested (n.nests, n.left);
    }

words_good : (count line : ℕ) (s : SoFar) (words : List (List ℕ)) → IsFrom 1 count line → IsGood count s → (r : Result SoFar TextWhy) → words_add line s words ≡ r → GoodWords count r
unfolding words_add
words_good count line s [] here g r h = subst (GoodWords count) h g
words_good count line s (first ∷ words) here g (Err why) h = tt
words_good count line s (first ∷ words) here g (Ok t) h =
    let w = bound (directive_of first words) (λ (what : Directive). groups_behind line what s.groups >>= λ groups. Ok (so_far (s.directives ++ record { line = line; what = what } ∷ []) groups)) t h in
    let b = bound (groups_behind line w.value s.groups) (λ (groups : List ℕ). Ok (so_far (s.directives ++ record { line = line; what = w.value } ∷ []) groups)) t w.after in
    subst (IsGood count) (ok_same (so_far (s.directives ++ record { line = line; what = w.value } ∷ []) b.value) t b.after)
    (more_good count line s w.value b.value here g (directive_range first words w.value w.first) (groups_nested count line w.value s.groups b.value here g.groups b.first))

then_good : (count line : ℕ) (rest : List (ℕ × List ℕ)) (r : Result SoFar TextWhy) → IsFrom 1 count line → GoodWords count r → ((s : SoFar) → IsGood count s → GoodLines count (lines_add s rest)) → GoodLines count (at_line line r >>= λ more. lines_add more rest)
then_good count line rest (Ok s) here g f = f s g
then_good count line rest (Err why) here g f = here

lines_good : (count : ℕ) (rest : List (ℕ × List ℕ)) → AllByRecursion (λ line. IsFrom 1 count line.0) rest → (s : SoFar) → IsGood count s → GoodLines count (lines_add s rest)
lines_good count [] on s g = g
lines_good count (line ∷ rest) on s g = then_good count line.0 rest (words_add line.0 s (words_of line.1)) on.0 (words_good count line.0 s (words_of line.1) on.0 g (words_add line.0 s (words_of line.1)) refl) (lines_good count rest on.1)

numbers_good : (count first : ℕ) (xs : List (List ℕ)) → 1 ≤ first → first + length xs ≤ count + 1 → AllByRecursion (λ line. IsFrom 1 count line.0) (enumerate_from first xs)
numbers_good count first [] low high = tt
numbers_good count first (x ∷ xs) low high = ((low, omega arith), numbers_good count (first + 1) xs (omega arith) (omega arith))

-- ---- whole texts

abbrev GoodSteps : ℕ → Result (List Placed) TextFault → Type 0
GoodSteps count (Ok directives) = AreInRange directives × AreOnLines count directives × AreNested 0 directives 0
GoodSteps count (Err fault) = IsFrom 1 count fault.line

closed_good : (count : ℕ) (directives : List Placed) (groups : List ℕ) → IsGood count (so_far directives groups) → GoodSteps count (closed_or_nesting directives groups)
closed_good count directives [] g = (g.ranges, g.lines, g.nested)
closed_good count directives (outermost ∷ inner) g = g.groups.0

then_closed : (count : ℕ) (r : Result SoFar TextFault) → GoodLines count r → GoodSteps count (r >>= λ s. closed_or_nesting s.directives s.groups)
then_closed count (Ok s) g = closed_good count s.directives s.groups g
then_closed count (Err fault) g = g

steps_good : (bytes : List ℕ) → GoodSteps (line_count bytes) (steps_of bytes)
steps_good bytes =
    let count = line_count bytes in
    let on = numbers_good count 1 (lines bytes) (omega arith) (omega (arith, length-enumerate_from 1 (lines bytes))) in
    let none : IsGood count (so_far [] []) = record { ranges = tt; lines = tt; groups = tt; nested = refl } in
    then_closed count (lines_add (so_far [] []) (numbered_lines 1 bytes)) (lines_good count (numbered_lines 1 bytes) on (so_far [] []) none)

pub steps_are_in_range_lem : StepsAreInRange
steps_are_in_range_lem bytes directives h = subst (GoodSteps (line_count bytes)) h (steps_good bytes)

pub faults_are_on_lines_lem : FaultsAreOnLines
faults_are_on_lines_lem bytes fault h = subst (GoodSteps (line_count bytes)) h (steps_good bytes)

pub lines_are_few_lem : LinesAreFew
lines_are_few_lem bytes = few_lines 1 bytes

-- ---- what is read

module _ (bytes : List ℕ) where
  pub read_ranges : (r : Result (List Placed) ReadFault) → Gives (λ (d : List Placed). d) r (steps_of bytes) → IfOk r AreInRange
  read_ranges (Ok d) h = (steps_are_in_range_lem bytes d h).0
  read_ranges (Err e) h = tt

  pub read_lines : (r : Result (List Placed) ReadFault) → Gives (λ (d : List Placed). d) r (steps_of bytes) → IfOk r (AreOnLines (line_count bytes))
  read_lines (Ok d) h = (steps_are_in_range_lem bytes d h).1
  read_lines (Err e) h = tt

  pub read_nested : (r : Result (List Placed) ReadFault) → Gives (λ (d : List Placed). d) r (steps_of bytes) → IfOk r (λ d. AreNested 0 d 0)
  read_nested (Ok d) h = (steps_are_in_range_lem bytes d h).2
  read_nested (Err e) h = tt
