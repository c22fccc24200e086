-- The values of each line are read exactly.
use Rattle.std.proofs.Common.{◌≡◌, ℕ, ◌+◌, ◌<◌, ◌≤◌, ◌^◌, Bool, List, [], ◌∷◌, ◌++◌, Option, Some, None, Ok, ℤ, refl, sym, ap, subst, arith, lit<}
use Rattle.std.specs.Prelude.{decimal, codes, unsigned_abs}
use Rattle.std.specs.Fmt.{signed_decimal}
use Rattle.std.proofs.lemmas.Bool.{eqb-true}
use Rattle.grid_base.specs.declared.TheConstants.{ID_MAX, SHIFT_MAX}
use Rattle.grid_base.specs.declared.grid.Shift.{Shift}
use Rattle.grid_base.specs.Triples.{Triple}
use Rattle.grid_base.specs.Points.{shift_by}
use Rattle.grid_base.proofs.PointLaws.{shift_by-displacement_of, displacement_of-shift_by}
use Rattle.line_text.specs.declared.TextWhy.{TextWhy}
use Rattle.line_text.specs.declared.TextWhy.TheVariants as why
use Rattle.line_text.specs.declared.TextFault.{TextFault}
use Rattle.line_text.specs.Faults.{◌>>=◌}
use Rattle.mesh_base.specs.declared.FileWord.{FileWord}
use Rattle.mesh_base.specs.declared.FileWord.TheVariants as file
use Rattle.mesh_base.specs.declared.PairName.{PairName}
use Rattle.mesh_base.specs.declared.ShiftOf.{ShiftOf}
use Rattle.log_text.specs.declared.TheConstants.{COUNT_MAX, VERSION}
use Rattle.line_text.specs.Spellings.{spelled_at, spelled_signed_at}
use Rattle.log_read.specs.Fields.{Reader, in_turn, both, or_number}
use Rattle.log_text.specs.Lines.{file_word, why_word, pair_words}
use Rattle.log_read.specs.Values.{is_later, pair_at, shift_of_at, why_of, why_at, fault_at}
use Rattle.log_read.specs.Reading.{file_of}
use Rattle.log_read.specs.Laws.{IsFrom, IsPairInRange, IsWhyOf, IsFileOfVersion}
use Rattle.line_text.proofs.ReadSteps.{bound, ok_same, some_same, picked, picked_if}
use Rattle.log_read.proofs.Exactness.{IsExact, or_number-some, spelled_at-exact, spelled_signed_at-exact, in_turn-exact, made-exact}

-- ---- two values

pub both-exact : {A B : Type 0} (first : Reader A) (second : Reader B) (wa : A → List (List ℕ)) (wb : B → List (List ℕ)) (R : A → Type 0) (S : B → Type 0) → IsExact first wa R → IsExact second wb S → IsExact (both first second) (λ p. wa p.0 ++ wb p.1) (λ p. R p.0 × S p.1)
both-exact first second wa wb R S f g = in_turn-exact first (λ a. second) wa (λ a. wb) R (λ a. S) f (λ a. g)

abbrev pub one : ℕ → List (List ℕ)
one n = decimal n ∷ []

abbrev signed_one : ℤ → List (List ℕ)
signed_one z = signed_decimal z ∷ []

pub two_numbers : (a b c d : ℕ) → b < 2 ^ 64 → d < 2 ^ 64 → IsExact (both (spelled_at a b) (spelled_at c d)) (λ p. decimal p.0 ∷ decimal p.1 ∷ []) (λ p. IsFrom a b p.0 × IsFrom c d p.1)
two_numbers a b c d x y = both-exact (spelled_at a b) (spelled_at c d) one one (IsFrom a b) (IsFrom c d) (spelled_at-exact a b x) (spelled_at-exact c d y)

pub three_numbers : (a b c d e f : ℕ) → b < 2 ^ 64 → d < 2 ^ 64 → f < 2 ^ 64 → IsExact (both (spelled_at a b) (both (spelled_at c d) (spelled_at e f))) (λ p. decimal p.0 ∷ decimal p.1.0 ∷ decimal p.1.1 ∷ []) (λ p. IsFrom a b p.0 × (IsFrom c d p.1.0 × IsFrom e f p.1.1))
three_numbers a b c d e f x y z = both-exact (spelled_at a b) (both (spelled_at c d) (spelled_at e f)) one (λ p. decimal p.0 ∷ decimal p.1 ∷ []) (IsFrom a b) (λ p. IsFrom c d p.0 × IsFrom e f p.1) (spelled_at-exact a b x) (two_numbers c d e f y z)

-- ---- pairs

abbrev PairParts : Type 0
PairParts = ℕ × (ℕ × ℕ)

abbrev PairFits : PairParts → Type 0
PairFits p = IsFrom 1 ID_MAX p.0 × (IsFrom (p.0 + 1) ID_MAX p.1.0 × IsFrom 1 ID_MAX p.1.1)

pair_parts-exact : IsExact (in_turn (spelled_at 1 ID_MAX) (λ a. both (spelled_at (a + 1) ID_MAX) (spelled_at 1 ID_MAX))) (λ p. decimal p.0 ∷ decimal p.1.0 ∷ decimal p.1.1 ∷ []) PairFits
pair_parts-exact = in_turn-exact (spelled_at 1 ID_MAX) (λ a. both (spelled_at (a + 1) ID_MAX) (spelled_at 1 ID_MAX)) one (λ a p. decimal p.0 ∷ decimal p.1 ∷ []) (IsFrom 1 ID_MAX) (λ a p. IsFrom (a + 1) ID_MAX p.0 × IsFrom 1 ID_MAX p.1) (spelled_at-exact 1 ID_MAX (lit< tt)) (λ a. two_numbers (a + 1) ID_MAX 1 ID_MAX (lit< tt) (lit< tt))

abbrev pair_made : PairParts → PairName
pair_made p = record { a = p.0; b = p.1.0; face = p.1.1 }

abbrev parts_of_pair : PairName → PairParts
parts_of_pair p = (p.a, (p.b, p.face))

pair_range : (p : PairParts) → PairFits p → IsPairInRange (pair_made p)
pair_range p h = record { a = h.0; b = (omega (arith, h.1.0), h.1.0.1); face = h.1.1; rising = omega (arith, h.1.0) }

pair_fits : (p : PairName) → IsPairInRange p → PairFits (parts_of_pair p)
pair_fits p h = (h.a, ((omega (arith, h.rising), h.b.1), h.face))

pub pair_at-exact : IsExact pair_at pair_words IsPairInRange
unfolding pair_at
pair_at-exact = made-exact (in_turn (spelled_at 1 ID_MAX) (λ a. both (spelled_at (a + 1) ID_MAX) (spelled_at 1 ID_MAX))) (λ p. decimal p.0 ∷ decimal p.1.0 ∷ decimal p.1.1 ∷ []) PairFits pair_words IsPairInRange pair_made parts_of_pair pair_parts-exact (λ p h. (refl, pair_range p h)) (λ p h. (refl, pair_fits p h))

-- ---- shifts of vertices

abbrev ShiftParts : Type 0
ShiftParts = ℕ × (ℤ × (ℤ × ℤ))

abbrev ShiftFits : ShiftParts → Type 0
ShiftFits p = IsFrom 1 ID_MAX p.0 × ((unsigned_abs p.1.0 ≤ SHIFT_MAX) × ((unsigned_abs p.1.1.0 ≤ SHIFT_MAX) × (unsigned_abs p.1.1.1 ≤ SHIFT_MAX)))

abbrev shift_parts_words : ShiftParts → List (List ℕ)
shift_parts_words p = decimal p.0 ∷ signed_decimal p.1.0 ∷ signed_decimal p.1.1.0 ∷ signed_decimal p.1.1.1 ∷ []

abbrev pub AreWithin : ℕ → ℤ × (ℤ × ℤ) → Type 0
AreWithin most p = (unsigned_abs p.0 ≤ most) × ((unsigned_abs p.1.0 ≤ most) × (unsigned_abs p.1.1 ≤ most))

-- three numbers of a size up to most
pub components : (most : ℕ) → most < 2 ^ 32 → IsExact (both (spelled_signed_at most) (both (spelled_signed_at most) (spelled_signed_at most))) (λ p. signed_decimal p.0 ∷ signed_decimal p.1.0 ∷ signed_decimal p.1.1 ∷ []) (AreWithin most)
components most small =
    let Within : ℤ → Type 0 = λ z. unsigned_abs z ≤ most in
    let one_of = spelled_signed_at-exact most small in
    both-exact (spelled_signed_at most) (both (spelled_signed_at most) (spelled_signed_at most)) signed_one (λ p. signed_decimal p.0 ∷ signed_decimal p.1 ∷ []) Within (λ p. Within p.0 × Within p.1) one_of (both-exact (spelled_signed_at most) (spelled_signed_at most) signed_one signed_one Within Within one_of one_of)

shift_parts-exact : IsExact (both (spelled_at 1 ID_MAX) (both (spelled_signed_at SHIFT_MAX) (both (spelled_signed_at SHIFT_MAX) (spelled_signed_at SHIFT_MAX)))) shift_parts_words ShiftFits
shift_parts-exact = both-exact (spelled_at 1 ID_MAX) (both (spelled_signed_at SHIFT_MAX) (both (spelled_signed_at SHIFT_MAX) (spelled_signed_at SHIFT_MAX))) one (λ p. signed_decimal p.0 ∷ signed_decimal p.1.0 ∷ signed_decimal p.1.1 ∷ []) (IsFrom 1 ID_MAX) (AreWithin SHIFT_MAX) (spelled_at-exact 1 ID_MAX (lit< tt)) (components SHIFT_MAX (lit< tt))

abbrev shift_made : ShiftParts → ShiftOf
shift_made p = record { v = p.0; by = shift_by (record { x = p.1.0; y = p.1.1.0; z = p.1.1.1 }) }

abbrev parts_of_shift : ShiftOf → ShiftParts
parts_of_shift s = (s.v, (s.by.x, (s.by.y, s.by.z)))

abbrev pub shift_of_words : ShiftOf → List (List ℕ)
shift_of_words s = decimal s.v ∷ signed_decimal s.by.x ∷ signed_decimal s.by.y ∷ signed_decimal s.by.z ∷ []

abbrev shift_words_with : ℕ → Triple → List (List ℕ)
shift_words_with v t = decimal v ∷ signed_decimal t.x ∷ signed_decimal t.y ∷ signed_decimal t.z ∷ []

shift_written : (p : ShiftParts) → ShiftFits p → (shift_of_words (shift_made p) ≡ shift_parts_words p) × IsFrom 1 ID_MAX p.0
shift_written p h =
    let t : Triple = record { x = p.1.0; y = p.1.1.0; z = p.1.1.1 } in
    (ap (shift_words_with p.0) (displacement_of-shift_by t (record { x_fits = h.1.0; y_fits = h.1.1.0; z_fits = h.1.1.1 })), h.0)

shift_again : (s : ShiftOf) → IsFrom 1 ID_MAX s.v → (shift_made (parts_of_shift s) ≡ s) × ShiftFits (parts_of_shift s)
shift_again s h =
    let with_by : Shift → ShiftOf = λ by. record { v = s.v; by = by } in
    (ap with_by (shift_by-displacement_of s.by), (h, (s.by.in_range.x_fits, (s.by.in_range.y_fits, s.by.in_range.z_fits))))

pub shift_of_at-exact : IsExact shift_of_at shift_of_words (λ s. IsFrom 1 ID_MAX s.v)
unfolding shift_of_at
shift_of_at-exact = made-exact (both (spelled_at 1 ID_MAX) (both (spelled_signed_at SHIFT_MAX) (both (spelled_signed_at SHIFT_MAX) (spelled_signed_at SHIFT_MAX)))) shift_parts_words ShiftFits shift_of_words (λ s. IsFrom 1 ID_MAX s.v) shift_made parts_of_shift shift_parts-exact shift_written shift_again

-- ---- reasons and files

why_of-word : (groups : Bool) (w : TextWhy) → IsWhyOf groups w → why_of groups (why_word w) ≡ Some w
unfolding why_of
why_of-word groups why.Number r = refl
why_of-word groups why.Corner r = refl
why_of-word groups why.Range r = refl
why_of-word groups why.Short r = refl
why_of-word groups why.Long r = refl
why_of-word groups why.Unknown r = refl
why_of-word groups why.Continuation r = refl
why_of-word groups why.Order r = absurd r
why_of-word groups why.Nesting r = let P : Bool → Type 0 = λ b. why_of b (why_word why.Nesting) ≡ Some why.Nesting in subst P (sym r) refl

why_of-some : (groups : Bool) (word : List ℕ) (w : TextWhy) → why_of groups word ≡ Some w → (word ≡ why_word w) × IsWhyOf groups w
unfolding why_of
why_of-some groups word w h =
    let P : List ℕ → Type 0 = λ t. (t ≡ why_word w) × IsWhyOf groups w in
    let Q : List ℕ → TextWhy → Type 0 = λ t v. (t ≡ why_word v) × IsWhyOf groups v in
    let here : (v : TextWhy) → IsWhyOf groups v → ◌≡◌ {A = Option TextWhy} (Some v) (Some w) → P (why_word v) = λ v r e. subst (Q (why_word v)) (some_same v w e) (refl, r) in
    picked P word (codes "number") (Some why.Number) _ (Some w) (here why.Number tt)
    (picked P word (codes "corner") (Some why.Corner) _ (Some w) (here why.Corner tt)
    (picked P word (codes "range") (Some why.Range) _ (Some w) (here why.Range tt)
    (picked P word (codes "short") (Some why.Short) _ (Some w) (here why.Short tt)
    (picked P word (codes "long") (Some why.Long) _ (Some w) (here why.Long tt)
    (picked P word (codes "unknown") (Some why.Unknown) _ (Some w) (here why.Unknown tt)
    (picked P word (codes "continuation") (Some why.Continuation) _ (Some w) (here why.Continuation tt)
    (picked_if P word (codes "nesting") groups (Some why.Nesting) None (Some w) (here why.Nesting)
    (λ e. absurd (let no : ⊥ = cc in no)))))))))
    h

why_at-of_read : (groups : Bool) (words : List (List ℕ)) (w : TextWhy) (rest : List (List ℕ)) → why_at groups words ≡ Ok (w, rest) → (words ≡ why_word w ∷ rest) × IsWhyOf groups w
unfolding why_at
why_at-of_read groups [] w rest h = absurd (let no : ⊥ = cc in no)
why_at-of_read groups (word ∷ words) w rest h =
    let b = bound (or_number (why_of groups word)) (λ (m : TextWhy). Ok (m, words)) (w, rest) h in
    let e : ◌≡◌ {A = TextWhy × List (List ℕ)} (b.value, words) (w, rest) = ok_same (b.value, words) (w, rest) b.after in
    let s = why_of-some groups word b.value (or_number-some (why_of groups word) b.value b.first) in
    let P : TextWhy × List (List ℕ) → Type 0 = λ r. (word ∷ words ≡ why_word r.0 ∷ r.1) × IsWhyOf groups r.0 in
    subst P e (ap (λ w. w ∷ words) s.0, s.1)

why_at-of_written : (groups : Bool) (w : TextWhy) (words : List (List ℕ)) → IsWhyOf groups w → why_at groups (why_word w ∷ words) ≡ Ok (w, words)
unfolding why_at
why_at-of_written groups w words r = ap (λ o. or_number o >>= λ n. Ok (n, words)) (why_of-word groups w r)

pub why_at-exact : (groups : Bool) → IsExact (why_at groups) (λ w. why_word w ∷ []) (IsWhyOf groups)
why_at-exact groups = record { of_written = why_at-of_written groups; of_read = why_at-of_read groups }

abbrev FaultParts : Type 0
FaultParts = ℕ × TextWhy

abbrev pub fault_words : TextFault → List (List ℕ)
fault_words f = decimal f.line ∷ why_word f.why ∷ []

abbrev pub FaultFits : Bool → TextFault → Type 0
FaultFits groups f = IsFrom 1 COUNT_MAX f.line × IsWhyOf groups f.why

pub fault_at-exact : (groups : Bool) → IsExact (fault_at groups) fault_words (FaultFits groups)
unfolding fault_at
fault_at-exact groups = made-exact (both (spelled_at 1 COUNT_MAX) (why_at groups)) (λ p. decimal p.0 ∷ why_word p.1 ∷ []) (λ p. IsFrom 1 COUNT_MAX p.0 × IsWhyOf groups p.1) fault_words (FaultFits groups) (λ (p : FaultParts). record { line = p.0; why = p.1 }) (λ f. (f.line, f.why)) (both-exact (spelled_at 1 COUNT_MAX) (why_at groups) one (λ w. why_word w ∷ []) (IsFrom 1 COUNT_MAX) (IsWhyOf groups) (spelled_at-exact 1 COUNT_MAX (lit< tt)) (why_at-exact groups)) (λ p h. (refl, h)) (λ f h. (refl, h))

pub file_of-word : (version : ℕ) (f : FileWord) → IsFileOfVersion version f → file_of version (file_word f) ≡ Some f
unfolding file_of
file_of-word version file.Mesh r = refl
file_of-word version file.Steps r = refl
file_of-word version file.Log r = rw r refl
file_of-word version file.Proof r = rw r refl

pub file_of-some : (version : ℕ) (word : List ℕ) (f : FileWord) → file_of version word ≡ Some f → (word ≡ file_word f) × IsFileOfVersion version f
unfolding file_of
file_of-some version word f h =
    let P : List ℕ → Type 0 = λ t. (t ≡ file_word f) × IsFileOfVersion version f in
    let Q : List ℕ → FileWord → Type 0 = λ t g. (t ≡ file_word g) × IsFileOfVersion version g in
    let here : (g : FileWord) → IsFileOfVersion version g → ◌≡◌ {A = Option FileWord} (Some g) (Some f) → P (file_word g) = λ g r e. subst (Q (file_word g)) (some_same g f e) (refl, r) in
    picked P word (codes "mesh") (Some file.Mesh) _ (Some f) (here file.Mesh tt)
    (picked P word (codes "steps") (Some file.Steps) _ (Some f) (here file.Steps tt)
    (picked_if P word (codes "log") (is_later version) (Some file.Log) _ (Some f) (λ t. here file.Log (t))
    (picked_if P word (codes "proof") (is_later version) (Some file.Proof) None (Some f) (λ t. here file.Proof (t))
    (λ e. absurd (let no : ⊥ = cc in no)))))
    h
