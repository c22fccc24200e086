-- What the two texts of a job give is in range.
use Rattle.std.proofs.Common.{◌≡◌, ℕ, suc, ◌+◌, ◌*◌, ◌≤◌, List, [], ◌∷◌, ◌++◌, length, Result, Ok, Err, refl, subst, arith, length-append}
use Rattle.std.proofs.Math.Nat.{mul-le-mul_left}
use Rattle.std.specs.Prelude.{IfSome}
use Rattle.std.specs.List.{AllByRecursion}
use Rattle.std.specs.Str.Lines.{lines}
use Rattle.std.proofs.lemmas.List.Elements.{All-from_recursion}
use Rattle.grid_base.specs.declared.TheConstants.{TEXT_MAX}
use Rattle.edit_base.specs.declared.PassKind.{PassKind}
use Rattle.edit_base.specs.declared.PassKind.TheVariants.{Split, Collapse, Flip, Zip, Pinch}
use Rattle.line_text.specs.declared.fault.TextWhy.{TextWhy}
use Rattle.line_text.specs.Faults.{◌>>=◌, at_line}
use Rattle.line_text.specs.Texts.{words_of, numbered_lines}
use Rattle.line_text.proofs.ReadSteps.{ok_same, bound}
use Rattle.step_text.specs.declared.directive.Directive.{Directive}
use Rattle.step_text.specs.declared.directive.Placed.{Placed}
use Rattle.step_text.specs.Steps.{directive_of, groups_behind, SoFar, so_far, words_add, lines_add, closed_or_nesting}
use Rattle.step_text.specs.Ranges as steps
use Rattle.step_text.specs.Laws.{line_count}
use Rattle.step_text.proofs.StepLaws.{steps_are_in_range_lem, faults_are_on_lines_lem, lines_are_few_lem}
use Rattle.log_text.specs.declared.TheConstants.{COUNT_MAX, SEEN_MAX}
use Rattle.log_read.specs.Laws.{IsFrom, IsPassInRange, IsShapeInRange}
use Rattle.run_laws.specs.Texts.{MeshFaultsAreInRange, ShapeFaultsAreInRange, StepFaultsAreInRange, IsPlacedInRange, DirectivesAreInRange, DirectivesAreFew}
use Rattle.run_laws.proofs.MeshText.{line_count as mesh_lines, fault_at_line, few_given}
use Rattle.run_laws.proofs.ShapeFaults.{shape_in_range}
use Rattle.run_laws.proofs.StepReasons.{step_reason}

-- lines of a text that is not too long are few
counted : (n i : ℕ) → n ≤ TEXT_MAX → IsFrom 1 n i → IsFrom 1 COUNT_MAX i
counted n i short h = let low = h.0 in let high = h.1 in (low, omega (arith, short, high))

pub mesh_faults_in_range : MeshFaultsAreInRange
mesh_faults_in_range decimals bytes fault short e = let at = fault_at_line decimals bytes fault e in (counted (length bytes) fault.line short at.0, at.1)

few_faces : (n k : ℕ) → n ≤ TEXT_MAX → k ≤ n → k * (n + 1) ≤ SEEN_MAX
few_faces n k short few =
    let a : k * (n + 1) ≤ k * (TEXT_MAX + 1) = mul-le-mul_left k (omega (arith, short)) in
    omega (arith, a, short, few)

pub shape_faults_in_range : ShapeFaultsAreInRange
shape_faults_in_range scale decimals bytes lists fault short e is =
    let few = few_given decimals bytes lists e in
    let points = few.0 in
    let faces = few.1 in
    let most = few_faces (length bytes) (length (lines bytes)) short (mesh_lines bytes) in
    subst (λ o. IfSome o IsShapeInRange) is (shape_in_range (length lists.points) lists.faces scale (omega (arith, points, short)) (omega (arith, faces, most)))

few_lines : (bytes : List ℕ) (line : ℕ) → length bytes ≤ TEXT_MAX → IsFrom 1 (line_count bytes) line → IsFrom 1 COUNT_MAX line
few_lines bytes line short at = counted (line_count bytes) line (omega (arith, short, lines_are_few_lem bytes)) at

pub step_faults_in_range : StepFaultsAreInRange
step_faults_in_range bytes fault short e = (few_lines bytes fault.line short (faults_are_on_lines_lem bytes fault e), step_reason bytes fault e)

-- the length of a pass, in a text and in a log
pub pass_told : (kind : PassKind) → steps.IsPassInRange kind → IsPassInRange kind
pass_told (Split over) h = h
pass_told (Collapse under) h = h
pass_told Flip h = tt
pass_told (Zip within) h = h
pass_told Pinch h = tt

each_placed : (bytes : List ℕ) → length bytes ≤ TEXT_MAX → (placed : List Placed) → steps.AreInRange placed → steps.AreOnLines (line_count bytes) placed → AllByRecursion IsPlacedInRange placed
each_placed bytes short [] ranges on = tt
each_placed bytes short (one ∷ more) ranges on = ((few_lines bytes one.line short on.0, ranges.0), each_placed bytes short more ranges.1 on.1)

pub directives_in_range : DirectivesAreInRange
directives_in_range bytes placed short e =
    let good = steps_are_in_range_lem bytes placed e in
    All-from_recursion IsPlacedInRange placed (each_placed bytes short placed good.0 good.1)

-- ---- directives are few
words_more : (line : ℕ) (s t : SoFar) (words : List (List ℕ)) → words_add line s words ≡ Ok t → length t.directives ≤ length s.directives + 1
unfolding words_add
words_more line s t [] h =
    let P : SoFar → Type 0 = λ x. length x.directives ≤ length s.directives + 1 in
    let at_most : length s.directives ≤ length s.directives + 1 = omega arith in
    subst P (ok_same s t h) at_most
words_more line s t (first ∷ words) h =
    let w = bound (directive_of first words) (λ (what : Directive). groups_behind line what s.groups >>= λ groups. Ok (so_far (s.directives ++ record { line = line; what = what } ∷ []) groups)) t h in
    let b = bound (groups_behind line w.value s.groups) (λ (groups : List ℕ). Ok (so_far (s.directives ++ record { line = line; what = w.value } ∷ []) groups)) t w.after in
    let P : SoFar → Type 0 = λ x. length x.directives ≤ length s.directives + 1 in
    let one : List Placed = record { line = line; what = w.value } ∷ [] in
    let more : length (s.directives ++ one) ≤ length s.directives + 1 = omega (arith, length-append s.directives one) in
    subst P (ok_same (so_far (s.directives ++ one) b.value) t b.after) more

lines_more : (rest : List (ℕ × List ℕ)) (s t : SoFar) → lines_add s rest ≡ Ok t → length t.directives ≤ length s.directives + length rest
lines_more [] s t h =
    let P : SoFar → Type 0 = λ x. length x.directives ≤ length s.directives + 0 in
    let same : length s.directives ≤ length s.directives + 0 = omega arith in
    subst P (ok_same s t h) same
lines_more (line ∷ rest) s t h = by_line (words_add line.0 s (words_of line.1)) refl (λ more e. lines_more rest more t e) h
  where
    by_line : (r : Result SoFar TextWhy) → words_add line.0 s (words_of line.1) ≡ r → ((more : SoFar) → lines_add more rest ≡ Ok t → length t.directives ≤ length more.directives + length rest)
        → (at_line line.0 r >>= λ more. lines_add more rest) ≡ Ok t → length t.directives ≤ length s.directives + suc (length rest)
    by_line (Ok more) e later h = let a = words_more line.0 s more (words_of line.1) e in let b = later more h in omega (arith, a, b)
    by_line (Err why) e later h = absurd (let no : ⊥ = cc in no)

pub directives_are_few : DirectivesAreFew
directives_are_few bytes placed e =
    let all = bound (lines_add (so_far [] []) (numbered_lines 1 bytes)) (λ (s : SoFar). closed_or_nesting s.directives s.groups) placed e in
    let few = lines_more (numbered_lines 1 bytes) (so_far [] []) all.value all.first in
    let P : List Placed → Type 0 = λ x. length x ≤ length bytes in
    subst P (closed_same all.value.directives all.value.groups all.after) (omega (arith, few, lines_are_few_lem bytes))
  where
    closed_same : (directives : List Placed) (groups : List ℕ) → closed_or_nesting directives groups ≡ Ok placed → directives ≡ placed
    closed_same directives [] h = cc
    closed_same directives (outermost ∷ inner) h = absurd (let no : ⊥ = cc in no)
