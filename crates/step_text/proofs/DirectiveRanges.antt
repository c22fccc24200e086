-- Each directive that words give is in range.
use Rattle.std.proofs.Common.{◌≡◌, ℕ, ◌≤◌, Bool, eqb, leb, ◌&&◌, List, [], ◌∷◌, Option, Some, None, Ok, Err, refl, subst, length, arith}
use Rattle.std.specs.Prelude.{codes, if◌then◌else◌}
use Rattle.std.specs.Str.{bytes_eq}
use Rattle.std.specs.Str.{is_utf8}
use Rattle.std.proofs.lemmas.Bool.{leb-true, eqb-true, and_parts}
use Rattle.std.proofs.lemmas.Option.{same_Some}
use Rattle.std.proofs.lemmas.Str.{IsUtf8-from_is_utf8}
use Rattle.grid_base.specs.declared.TheConstants.{DEPTH_MAX, HALVINGS_MAX, ID_MAX, LENGTH_MAX}
use Rattle.grid_base.specs.declared.grid.Shift.{Shift}
use Rattle.line_text.specs.declared.TextWhy.TheVariants.{Short, Number, Range, Unknown}
use Rattle.line_text.specs.Faults.{◌>>=◌}
use Rattle.line_text.specs.Fields.{count_is, number_at, number_from}
use Rattle.line_text.specs.Numbers.{whole_parts}
use Rattle.line_text.proofs.ReadSteps.{bound, ok_same, by_test, fault_value}
use Rattle.edit_base.specs.declared.PassKind.{PassKind}
use Rattle.edit_base.specs.declared.PassKind.TheVariants as pass
use Rattle.mesh_plain.specs.declared.TheConstants.{FIELD_NAME_MAX}
use Rattle.mesh_plain.specs.FieldNames.{IsFieldName, is_field_name, field_name_of}
use Rattle.step_text.specs.declared.TheConstants.{PASSES_MAX}
use Rattle.step_text.specs.declared.directive.Directive.{Directive}
use Rattle.step_text.specs.declared.directive.Directive.TheVariants.{SetDepth, SetPasses, SetZones, SetHalvings, ShiftOne, ShiftAll, Drive, Solid, Step, Pass, Fit, Save, Group, Close}
use Rattle.step_text.specs.Ranges.{IsFrom, IsPassInRange, IsInRange}
use Rattle.step_text.specs.Steps.{set_of, shift_at, shift_one_of, shift_of, drive_or_range, drive_of, solid_of, length_of, without_more_words, directive_of}

-- ---- numbers

number_range : (low high n : ℕ) (o : Option (Bool × ℕ)) → number_from low high o ≡ Ok n → IsFrom low high n
number_range low high n None h = fault_value Number n h
number_range low high n (Some m) h = by_test (leb low m.1 && leb m.1 high) (if m.0 then (if eqb m.1 0 then Ok 0 else Err Range) else Ok m.1) (Err Range) (Ok n)
    (λ t e.
    let q = and_parts (leb low m.1) (leb m.1 high) t in
    let above : low ≤ m.1 = leb-true low m.1 q.0 in
    let below : m.1 ≤ high = leb-true m.1 high q.1 in
    by_test m.0 (if eqb m.1 0 then Ok 0 else Err Range) (Ok m.1) (Ok n)
    (λ s g. by_test (eqb m.1 0) (Ok 0) (Err Range) (Ok n)
    (λ r k. let zero_is : 0 ≡ n = ok_same 0 n k in let none : m.1 ≡ 0 = eqb-true m.1 0 r in (omega arith, omega arith))
    (λ r k. fault_value Range n k)
    g)
    (λ s g. let same : m.1 ≡ n = ok_same m.1 n g in (omega arith, omega arith))
    e)
    (λ t e. fault_value Range n e)
    h

number_at-range : (low high : ℕ) (words : List (List ℕ)) (n : ℕ × List (List ℕ)) → number_at low high words ≡ Ok n → IsFrom low high n.0
unfolding number_at
number_at-range low high [] n h = fault_value Short n h
number_at-range low high (word ∷ words) n h =
    let b = bound (number_from low high (whole_parts word)) (λ (m : ℕ). Ok (m, words)) n h in
    let P : ℕ × List (List ℕ) → Type 0 = λ m. IsFrom low high m.0 in
    subst P (ok_same (b.value, words) n b.after) (number_range low high b.value (whole_parts word) b.first)

-- a directive that is made of one number
one_number : (low high : ℕ) (make : ℕ → Directive) → ((n : ℕ) → IsFrom low high n → IsInRange (make n)) → (words : List (List ℕ)) (what : Directive) → (count_is 1 words >>= λ counted. number_at low high words >>= λ n. Ok (make n.0)) ≡ Ok what → IsInRange what
one_number low high make fits words what h =
    let c = bound (count_is 1 words) (λ (u : Unit {0}). number_at low high words >>= λ n. Ok (make n.0)) what h in
    let b = bound (number_at low high words) (λ (n : ℕ × List (List ℕ)). Ok (make n.0)) what c.after in
    subst IsInRange (ok_same (make b.value.0) what b.after) (fits b.value.0 (number_at-range low high words b.value b.first))

-- ---- forms

set_range : (words : List (List ℕ)) (what : Directive) → set_of words ≡ Ok what → IsInRange what
unfolding set_of
set_range [] what h = fault_value Short what h
set_range (name ∷ words) what h =
    by_test (bytes_eq name (codes "depth")) _ _ (Ok what) (λ t e. one_number 0 DEPTH_MAX SetDepth (λ n r. r.1) words what e)
    (λ t e. by_test (bytes_eq name (codes "passes")) _ _ (Ok what) (λ t e. one_number 0 PASSES_MAX SetPasses (λ n r. r.1) words what e)
    (λ t e. by_test (bytes_eq name (codes "zones")) _ _ (Ok what) (λ t e. one_number 0 1 (λ n. SetZones (eqb n 1)) (λ n r. tt) words what e)
    (λ t e. by_test (bytes_eq name (codes "halvings")) _ _ (Ok what) (λ t e. one_number 0 HALVINGS_MAX SetHalvings (λ n r. r.1) words what e)
    (λ t e. fault_value Unknown what e)
    e) e) e) h

shift_range : (words : List (List ℕ)) (what : Directive) → shift_of words ≡ Ok what → IsInRange what
unfolding shift_of shift_one_of
shift_range [] what h = fault_value Short what h
shift_range (who ∷ words) what h =
    let c = bound (count_is 3 words) (λ (u : Unit {0}). if bytes_eq who (codes "all") then (shift_at words >>= λ by. Ok (ShiftAll by)) else shift_one_of (who ∷ words)) what h in
    by_test (bytes_eq who (codes "all")) (shift_at words >>= λ by. Ok (ShiftAll by)) (shift_one_of (who ∷ words)) (Ok what)
    (λ t e. let b = bound (shift_at words) (λ (by : Shift). Ok (ShiftAll by)) what e in subst IsInRange (ok_same (ShiftAll b.value) what b.after) tt)
    (λ t e.
    let b = bound (number_at 1 ID_MAX (who ∷ words)) (λ (v : ℕ × List (List ℕ)). shift_at v.1 >>= λ by. Ok (ShiftOne v.0 by)) what e in
    let s = bound (shift_at b.value.1) (λ (by : Shift). Ok (ShiftOne b.value.0 by)) what b.after in
    subst IsInRange (ok_same (ShiftOne b.value.0 s.value) what s.after) (number_at-range 1 ID_MAX (who ∷ words) b.value b.first))
    c.after

-- the name that bytes are is the name of a field
names_field : (bytes name : List ℕ) → field_name_of bytes ≡ Some name → IsFieldName name
names_field bytes name h = by_test (is_field_name bytes) (Some bytes) None (Some name)
    (λ t e.
    let parts = and_parts (leb 1 (length bytes) && leb (length bytes) FIELD_NAME_MAX) (is_utf8 bytes) t in
    let sizes = and_parts (leb 1 (length bytes)) (leb (length bytes) FIELD_NAME_MAX) parts.0 in
    subst IsFieldName (same_Some bytes name e)
    (record { some = leb-true 1 (length bytes) sizes.0; few = leb-true (length bytes) FIELD_NAME_MAX sizes.1; text = IsUtf8-from_is_utf8 bytes parts.1 }))
    (λ t e. absurd (let no : ⊥ = cc in no))
    h

name_range : (named : Option (List ℕ)) (what : Directive) → ((name : List ℕ) → named ≡ Some name → IsFieldName name) → drive_or_range named ≡ Ok what → IsInRange what
name_range None what is h = fault_value Range what h
name_range (Some name) what is h = subst IsInRange (ok_same (Drive name) what h) (is name refl)

drive_range : (words : List (List ℕ)) (what : Directive) → drive_of words ≡ Ok what → IsInRange what
unfolding drive_of
drive_range [] what h = fault_value Short what h
drive_range (word ∷ words) what h = name_range (field_name_of word) what (names_field word) (bound (count_is 0 words) (λ (u : Unit {0}). drive_or_range (field_name_of word)) what h).after

solid_range : (words : List (List ℕ)) (what : Directive) → solid_of words ≡ Ok what → IsInRange what
unfolding solid_of
solid_range words what h = one_number 1 ID_MAX Solid (λ n r. r) words what h

length_range : (words : List (List ℕ)) (n : ℕ) → length_of words ≡ Ok n → n ≤ LENGTH_MAX
unfolding length_of
length_range words n h =
    let c = bound (count_is 1 words) (λ (u : Unit {0}). number_at 0 LENGTH_MAX words >>= λ n. Ok n.0) n h in
    let b = bound (number_at 0 LENGTH_MAX words) (λ (n : ℕ × List (List ℕ)). Ok n.0) n c.after in
    let P : ℕ → Type 0 = λ m. m ≤ LENGTH_MAX in
    subst P (ok_same b.value.0 n b.after) (number_at-range 0 LENGTH_MAX words b.value b.first).1

-- a pass that goes by a length
pass_range : (make : ℕ → PassKind) → ((n : ℕ) → n ≤ LENGTH_MAX → IsPassInRange (make n)) → (words : List (List ℕ)) (what : Directive) → (length_of words >>= λ n. Ok (Pass (make n))) ≡ Ok what → IsInRange what
pass_range make fits words what h =
    let b = bound (length_of words) (λ (n : ℕ). Ok (Pass (make n))) what h in
    subst IsInRange (ok_same (Pass (make b.value)) what b.after) (fits b.value (length_range words b.value b.first))

alone_range : (directive : Directive) → IsInRange directive → (words : List (List ℕ)) (what : Directive) → without_more_words directive words ≡ Ok what → IsInRange what
unfolding without_more_words
alone_range directive r words what h =
    let b = bound (count_is 0 words) (λ (u : Unit {0}). Ok directive) what h in
    subst IsInRange (ok_same directive what b.after) r

pub directive_range : (first : List ℕ) (words : List (List ℕ)) (what : Directive) → directive_of first words ≡ Ok what → IsInRange what
unfolding directive_of
directive_range first words what h =
    by_test (bytes_eq first (codes "set")) _ _ (Ok what) (λ t e. set_range words what e)
    (λ t e. by_test (bytes_eq first (codes "shift")) _ _ (Ok what) (λ t e. shift_range words what e)
    (λ t e. by_test (bytes_eq first (codes "drive")) _ _ (Ok what) (λ t e. drive_range words what e)
    (λ t e. by_test (bytes_eq first (codes "solid")) _ _ (Ok what) (λ t e. solid_range words what e)
    (λ t e. by_test (bytes_eq first (codes "step")) _ _ (Ok what) (λ t e. alone_range Step tt words what e)
    (λ t e. by_test (bytes_eq first (codes "split")) _ _ (Ok what) (λ t e. pass_range pass.Split (λ n r. r) words what e)
    (λ t e. by_test (bytes_eq first (codes "collapse")) _ _ (Ok what) (λ t e. pass_range pass.Collapse (λ n r. r) words what e)
    (λ t e. by_test (bytes_eq first (codes "flip")) _ _ (Ok what) (λ t e. alone_range (Pass pass.Flip) tt words what e)
    (λ t e. by_test (bytes_eq first (codes "zip")) _ _ (Ok what) (λ t e. pass_range pass.Zip (λ n r. r) words what e)
    (λ t e. by_test (bytes_eq first (codes "pinch")) _ _ (Ok what) (λ t e. alone_range (Pass pass.Pinch) tt words what e)
    (λ t e. by_test (bytes_eq first (codes "fit")) _ _ (Ok what) (λ t e. alone_range Fit tt words what e)
    (λ t e. by_test (bytes_eq first (codes "save")) _ _ (Ok what) (λ t e. alone_range Save tt words what e)
    (λ t e. by_test (bytes_eq first (codes "group")) _ _ (Ok what) (λ t e. alone_range Group tt words what e)
    (λ t e. by_test (bytes_eq first (codes "close")) _ _ (Ok what) (λ t e. alone_range Close tt words what e)
    (λ t e. fault_value Unknown what e)
    e) e) e) e) e) e) e) e) e) e) e) e) e) h
