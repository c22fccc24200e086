-- The words of a card's lines are read as they were written, and a card is by its text.
use Rattle.std.proofs.Common.{◌≡◌, ℕ, ◌^◌, ◌<◌, ◌≤◌, ◌/◌, ◌%◌, Bool, true, false, inl, inr, eqb, List, [], ◌∷◌, ◌++◌, length, get_or, drop, Option, Some, None, Result, Ok, refl, sym, ap, ◌∙◌, arith, lit<}
use Rattle.std.specs.Prelude.{not, codes, decimal}
use Rattle.std.specs.List.{slice_split, join_with_byte}
use Rattle.std.specs.Str.{bytes_eq}
use Rattle.std.proofs.lemmas.Bool.{cases_Bool}
use Rattle.std.proofs.lemmas.Slice.Eq.{bytes_eq-Decides}
use Rattle.std.proofs.lemmas.List.Splits.{join_with_byte-slice_split}
use Rattle.std.proofs.lemmas.List.{append-nil}
use Rattle.std.proofs.lemmas.Fmt.{decimal_injective}
use Rattle.grid_base.specs.declared.TheConstants.{DECIMALS_MAX}
use Rattle.hex.specs.Hex.{encode_lower, lower_digits, decode_of, decode_sized}
use Rattle.hex.specs.declared.error.FromHexError.{FromHexError}
use Rattle.hex.proofs.HexLemmas.{decode_of-encode_lower, decode_pairs-encode_with, IsDigits-lower_digits, length-encode_with}
use Rattle.line_text.specs.Spellings.{spelled_number}
use Rattle.line_text.proofs.Decimals.{number_within-decimal, no_zero}
use Rattle.job_card.specs.declared.card.Card.{Card}
use Rattle.job_card.specs.declared.card.FileMark.{FileMark}
use Rattle.job_card.specs.declared.card.Version.{Version}
use Rattle.job_card.specs.Text.{version_text, mark_line, lines_of, text_of}
use Rattle.job_card.specs.Laws.{IsVersion, IsDigest, IsMark, CardsHaveTheirText}
use Rattle.job_card.specs.Reading.{IsGraphic, Finds}
use Rattle.job_card.proofs.Cuts.{IsOver, fixed_over, over-append, over-less, decimal_over, hex_over, two_again, three_again, two_same, three_same}
use Rattle.job_card.proofs.Lines.{lines_over, same_lines}

pub number_word : (word : List ℕ) (n : ℕ) → n < 2 ^ 64 → word ≡ decimal n → spelled_number word ≡ Some n
number_word word n lt e =
    let fits : n < 10 ^ 38 = omega (arith, lt) in
    rw e (rw (no_zero n lt, number_within-decimal 38 n (omega arith) fits lt) refl)

pub digest_word : (word d : List ℕ) → IsDigest d → word ≡ encode_lower d → decode_sized word 32 ≡ Ok d
digest_word word d g e =
    let len : length (encode_lower d) ≡ 64 = length-encode_with lower_digits d ∙ omega (arith, g.long) in
    let even : eqb (length (encode_lower d) % 2) 1 ≡ false = rw len refl in
    let half : eqb (length (encode_lower d) / 2) 32 ≡ true = rw len refl in
    rw e (rw (even, half) (decode_pairs-encode_with lower_digits IsDigits-lower_digits 0 d g.bytes))

-- what a test of two names says
pub same_name : (x y : List ℕ) (r : Bool) → r ≡ not (bytes_eq x y) → r ≡ false → x ≡ y
same_name x y r e f = elim (cases_Bool (bytes_eq x y)) [
  | inl same ↦ (bytes_eq-Decides x y).0 same
  | inr other ↦ absurd (let t : true ≡ false = sym (e ∙ ap not other) ∙ f in (let bad : ⊥ = cc in bad))
]

pub other_name : (x y : List ℕ) (r : Bool) → r ≡ not (bytes_eq x y) → r ≡ true → x ≡ y → ⊥
other_name x y r e f same =
    let t : false ≡ true = sym (e ∙ ap not ((bytes_eq-Decides x y).1 same)) ∙ f in
    cc

pub other_bytes : (x y : List ℕ) (r : Bool) → r ≡ bytes_eq x y → r ≡ false → x ≡ y → ⊥
other_bytes x y r e f same =
    let t : true ≡ false = sym ((bytes_eq-Decides x y).1 same) ∙ sym e ∙ f in
    cc

pub same_bytes : (x y : List ℕ) (r : Bool) → r ≡ bytes_eq x y → r ≡ true → x ≡ y
same_bytes x y r e f = (bytes_eq-Decides x y).0 (sym e ∙ f)

-- ---- lines are cut into their words

pub version_parts : (v : Version) → IsVersion v → slice_split (λ b. eqb b 46) (version_text v) ≡ decimal v.major ∷ decimal v.minor ∷ decimal v.patch ∷ []
version_parts v g = three_again 46 (decimal v.major) (decimal v.minor) (decimal v.patch) (decimal_over v.major g.major) (decimal_over v.minor g.minor) (decimal_over v.patch g.patch)

number_over : (n : ℕ) → n < 2 ^ 64 → IsOver 32 (decimal n)
number_over n lt = over-less 32 46 (decimal n) (lit< tt) (decimal_over n lt)

version_over : (v : Version) → IsVersion v → IsOver 32 (version_text v)
version_over v g =
    over-append 32 (decimal v.major) (46 ∷ (decimal v.minor ++ 46 ∷ decimal v.patch)) (number_over v.major g.major)
    (lit< tt, over-append 32 (decimal v.minor) (46 ∷ decimal v.patch) (number_over v.minor g.minor) (lit< tt, number_over v.patch g.patch))

pub program_parts : (v : Version) → IsVersion v → slice_split (λ b. eqb b 32) (join_with_byte 32 (codes "program" ∷ version_text v ∷ [])) ≡ codes "program" ∷ version_text v ∷ []
program_parts v g = two_again 32 (codes "program") (version_text v) (fixed_over 32 (codes "program") refl) (version_over v g)

pub small : (n : ℕ) → n ≤ DECIMALS_MAX → n < 2 ^ 64
small n le = omega (arith, le)

pub decimals_parts : (n : ℕ) → n ≤ DECIMALS_MAX → slice_split (λ b. eqb b 32) (join_with_byte 32 (codes "decimals" ∷ decimal n ∷ [])) ≡ codes "decimals" ∷ decimal n ∷ []
decimals_parts n le = two_again 32 (codes "decimals") (decimal n) (fixed_over 32 (codes "decimals") refl) (number_over n (small n le))

pub mark_parts : (name : List ℕ) (m : FileMark) → IsGraphic name → IsMark m → slice_split (λ b. eqb b 32) (mark_line name m) ≡ name ∷ decimal m.bytes ∷ encode_lower m.digest ∷ []
mark_parts name m p g = three_again 32 name (decimal m.bytes) (encode_lower m.digest) p (number_over m.bytes g.bytes) (over-less 32 46 (encode_lower m.digest) (lit< tt) (hex_over m.digest g.digest.bytes))

-- the line is found where its version is
pub program_finds : (line name version : List ℕ) (r : Option Version) → slice_split (λ b. eqb b 32) line ≡ name ∷ version ∷ [] → name ≡ codes "program" → Finds IsVersion version_text version r → Finds IsVersion (λ v. join_with_byte 32 (codes "program" ∷ version_text v ∷ [])) line r
program_finds line name version None cut n f = λ v g e. f v g (two_same name version (codes "program") (version_text v) (sym cut ∙ ap (slice_split (λ b. eqb b 32)) e ∙ program_parts v g)).second
program_finds line name version (Some v) cut n f = (f.0, sym (join_with_byte-slice_split 32 line) ∙ ap (join_with_byte 32) cut ∙ (λ i. n i ++ 32 ∷ f.1 i))

-- ---- what has one text is one

version_same : (v w : Version) → IsVersion v → IsVersion w → version_text v ≡ version_text w → v ≡ w
version_same v w g h e =
    let s = three_same _ _ _ _ _ _ (sym (version_parts v g) ∙ ap (slice_split (λ b. eqb b 46)) e ∙ version_parts w h) in
    let a : v.major ≡ w.major = decimal_injective v.major w.major g.major h.major s.first in
    let b : v.minor ≡ w.minor = decimal_injective v.minor w.minor g.minor h.minor s.second in
    let c : v.patch ≡ w.patch = decimal_injective v.patch w.patch g.patch h.patch s.third in
    λ i. record { major = a i; minor = b i; patch = c i }

digest_same : (d f : List ℕ) → IsDigest d → IsDigest f → encode_lower d ≡ encode_lower f → d ≡ f
digest_same d f g h e =
    let same : ◌≡◌ {A = Result (List ℕ) FromHexError} (Ok d) (Ok f) = sym (decode_of-encode_lower d g.bytes) ∙ ap decode_of e ∙ decode_of-encode_lower f h.bytes in
    cc

mark_same : (name : List ℕ) (m n : FileMark) → IsGraphic name → IsMark m → IsMark n → mark_line name m ≡ mark_line name n → m ≡ n
mark_same name m n p g h e =
    let s = three_same _ _ _ _ _ _ (sym (mark_parts name m p g) ∙ ap (slice_split (λ b. eqb b 32)) e ∙ mark_parts name n p h) in
    let a : m.bytes ≡ n.bytes = decimal_injective m.bytes n.bytes g.bytes h.bytes s.second in
    let b : m.digest ≡ n.digest = digest_same m.digest n.digest g.digest h.digest s.third in
    λ i. record { bytes = a i; digest = b i }

card_same : (c d : Card) → c.program ≡ d.program → c.decimals ≡ d.decimals → c.mesh ≡ d.mesh → c.steps ≡ d.steps → c.log ≡ d.log → c ≡ d
card_same c d e f g h k = λ i. record { program = e i; decimals = f i; mesh = g i; steps = h i; log = k i }

pub cards_have_their_text_lem : CardsHaveTheirText
cards_have_their_text_lem c d g h e =
    let same : lines_of c ≡ lines_of d = (same_lines (lines_of c) (lines_of d) [] [] refl (lines_over c g) (lines_over d h) (append-nil (text_of c) ∙ e ∙ sym (append-nil (text_of d)))).lines in
    let at = λ (k : ℕ). ap (λ (ls : List (List ℕ)). get_or ls k []) same in
    let program : version_text c.program ≡ version_text d.program = ap (drop 8) (at 1) in
    let decimals : decimal c.decimals ≡ decimal d.decimals = ap (drop 9) (at 2) in
    card_same c d
    (version_same c.program d.program g.program h.program program)
    (decimal_injective c.decimals d.decimals (small c.decimals g.decimals) (small d.decimals h.decimals) decimals)
    (mark_same (codes "mesh") c.mesh d.mesh (fixed_over 32 (codes "mesh") refl) g.mesh h.mesh (at 3))
    (mark_same (codes "steps") c.steps d.steps (fixed_over 32 (codes "steps") refl) g.steps h.steps (at 4))
    (mark_same (codes "log") c.log d.log (fixed_over 32 (codes "log") refl) g.log h.log (at 5))
