-- A text of which one line after another is parsed.
use Rattle.std.proofs.Common.{◌≡◌, ℕ, zero, suc, ◌+◌, ◌-◌, ◌<◌, ◌≤◌, Bool, true, false, eqb, List, [], ◌∷◌, ◌++◌, append-nil, append_assoc, length, drop, Option, Some, Result, Ok, Err, refl, sym, ap, ◌∙◌, subst, arith}
use Rattle.std.specs.List.{join_with_byte}
use Rattle.std.proofs.lemmas.List.{length-append, drop-drop, drop_all}
use Rattle.std.proofs.lemmas.List.Splits.{join_with_byte-slice_split}
use Rattle.line_text.specs.declared.TextWhy.{TextWhy}
use Rattle.line_text.specs.declared.TextFault.{TextFault}
use Rattle.line_text.specs.declared.ReadFault.{ReadFault}
use Rattle.line_text.specs.declared.ReadFault.TheVariants as faults
use Rattle.line_text.specs.Faults.{◌>>=◌, at_line, Fails, GivesAt}
use Rattle.line_text.specs.Spellings.{spaced_words}
use Rattle.line_text.proofs.ReadSteps.{bound, ok_same, by_test, fault_value}
use Rattle.mesh_base.specs.declared.Scale.{Scale}
use Rattle.log_text.specs.declared.LogLine.{LogLine}
use Rattle.log_read.specs.Reading.{line_of, line_adds, parts_add, parts_of_text, version_of, log_of}
use Rattle.log_read.specs.Ahead.{rest_of, HasLines, lines_in, lines_ahead, IsAhead, IsChecked, ParsesFirst}
use Rattle.log_read.proofs.LogParts.{some_parts, parts_more, PartsLeft, PartsLeft-more, PartsLeft-fails}

-- ---- one line

-- a line that was read is added to any others
pub read_adds : (lines : List LogLine) (number : ℕ) (read : Result LogLine TextWhy) (line : LogLine) → at_line number read ≡ Ok line → at_line number (read >>= λ l. Ok (lines ++ l ∷ [])) ≡ Ok (lines ++ line ∷ [])
read_adds lines number (Ok l) line h = ap (λ (l : LogLine). Ok (lines ++ l ∷ [])) (ok_same l line h)
read_adds lines number (Err why) line h = fault_value (record { line = number; why = why }) line h

-- and so is its fault
pub fault_adds : (lines : List LogLine) (number : ℕ) (read : Result LogLine TextWhy) (fault : ReadFault) → Fails fault (at_line number read) → Fails fault (at_line number (read >>= λ l. Ok (lines ++ l ∷ [])))
fault_adds lines number read faults.NoMemory h = tt
fault_adds lines number (Ok l) (faults.Text f) h = absurd (let no : ⊥ = cc in no)
fault_adds lines number (Err why) (faults.Text f) h = ap (λ (f : TextFault). Err f) (let e : record { line = number; why = why } ≡ f = cc in e)

pub read_ok : (number : ℕ) (read : Result LogLine TextWhy) (line : LogLine) → at_line number read ≡ Ok line → read ≡ Ok line
read_ok number (Ok l) line h = ap (λ (l : LogLine). Ok l) (ok_same l line h)
read_ok number (Err why) line h = fault_value (record { line = number; why = why }) line h

record OneLine (before lines : List LogLine) (read : Result LogLine TextWhy) (ls : List LogLine) : Type 0 where
  line : LogLine
  read_is : read ≡ Ok line
  is : before ++ (lines ++ line ∷ []) ≡ ls

one_line : (number : ℕ) (before lines : List LogLine) (read : Result LogLine TextWhy) (ls : List LogLine) → at_line number (read >>= λ l. Ok ((before ++ lines) ++ l ∷ [])) ≡ Ok ls → OneLine before lines read ls
one_line number before lines (Ok l) ls h = record { line = l; read_is = refl; is = sym (append_assoc before lines (l ∷ [])) ∙ ok_same ((before ++ lines) ++ l ∷ []) ls h }
one_line number before lines (Err why) ls h = fault_value (record { line = number; why = why }) ls h

-- ---- the parts behind some lines

-- what parts add hangs neither on the lines before them nor on their numbers
record Behind (scale : Scale) (version : ℕ) (lines : List LogLine) (number : ℕ) (parts : List (List ℕ)) (before ls : List LogLine) : Type 0 where
  tail : List LogLine
  is : ls ≡ before ++ tail
  read : parts_add scale version lines number parts ≡ Ok tail

behind : (scale : Scale) (version n m : ℕ) (before lines : List LogLine) (parts : List (List ℕ)) (ls : List LogLine) → parts_add scale version (before ++ lines) n parts ≡ Ok ls → Behind scale version lines m parts before ls
behind scale version n m before lines [] ls h = record { tail = lines; is = sym (ok_same (before ++ lines) ls h); read = refl }
behind scale version n m before lines (last ∷ []) ls h =
    by_test (eqb (length last) 0) (Ok (before ++ lines)) (at_line n (line_adds scale version (before ++ lines) false last)) (Ok ls)
    (λ t e. record { tail = lines; is = sym (ok_same (before ++ lines) ls e); read = rw t refl })
    (λ t e.
    let o = one_line n before lines (line_of scale version false (spaced_words last)) ls e in
    record { tail = lines ++ o.line ∷ []; is = sym o.is; read = rw t (ap (λ (r : Result LogLine TextWhy). at_line m (r >>= λ l. Ok (lines ++ l ∷ []))) o.read_is) })
    h
behind scale version n m before lines (part ∷ next ∷ parts) ls h =
    let d = bound (at_line n (line_adds scale version (before ++ lines) true part)) (λ (more : List LogLine). parts_add scale version more (n + 1) (next ∷ parts)) ls h in
    let o = one_line n before lines (line_of scale version true (spaced_words part)) d.value d.first in
    let i = behind scale version (n + 1) (m + 1) before (lines ++ o.line ∷ []) (next ∷ parts) ls (ap (λ (x : List LogLine). parts_add scale version x (n + 1) (next ∷ parts)) o.is ∙ d.after) in
    record {
      tail = i.tail;
      is = i.is;
      read = ap (λ (r : Result LogLine TextWhy). at_line m (r >>= λ l. Ok (lines ++ l ∷ [])) >>= λ more. parts_add scale version more (m + 1) (next ∷ parts)) o.read_is ∙ i.read;
    }

-- ---- the first line of a text that is left

module _ (scale : Scale) (version : ℕ) (rest part : List ℕ) (line : LogLine) (h : HasLines (rest_of scale version rest)) where
  module _ (next : List ℕ) (cut : parts_of_text rest ≡ part ∷ parts_of_text next) (read : line_of scale version true (spaced_words part) ≡ Ok line) where
    stepped : parts_add scale version (line ∷ []) 2 (parts_of_text next) ≡ Ok h.0
    stepped =
        sym (
        ap (parts_add scale version [] 1) cut
        ∙ parts_more scale version [] 1 part (parts_of_text next) (some_parts next)
        ∙ ap (λ (r : Result LogLine TextWhy). at_line 1 (r >>= λ l. Ok ([] ++ l ∷ [])) >>= λ more. parts_add scale version more (1 + 1) (parts_of_text next)) read)
        ∙ h.1

    left : Behind scale version [] 1 (parts_of_text next) (line ∷ []) h.0
    left = behind scale version 2 1 (line ∷ []) [] (parts_of_text next) h.0 stepped

    pub has_more : HasLines (rest_of scale version next)
    has_more = (left.tail, left.read)

    pub first_is : lines_in (rest_of scale version rest) ≡ line ∷ lines_in (rest_of scale version next)
    first_is = ap lines_in h.1 ∙ left.is ∙ ap (λ (l : List LogLine). line ∷ l) (sym (ap lines_in left.read))

-- the last part
pub last_none : (scale : Scale) (version : ℕ) (rest part : List ℕ) → parts_of_text rest ≡ part ∷ [] → eqb (length part) 0 ≡ true → lines_in (rest_of scale version rest) ≡ []
last_none scale version rest part cut t =
    let e : parts_add scale version [] 1 (part ∷ []) ≡ Ok [] = rw t refl in
    ap lines_in (ap (parts_add scale version [] 1) cut ∙ e)

pub last_is : (scale : Scale) (version : ℕ) (rest part : List ℕ) (line : LogLine) → parts_of_text rest ≡ part ∷ [] → eqb (length part) 0 ≡ false → line_of scale version false (spaced_words part) ≡ Ok line → lines_in (rest_of scale version rest) ≡ line ∷ []
last_is scale version rest part line cut t read =
    let e : parts_add scale version [] 1 (part ∷ []) ≡ Ok (line ∷ []) = rw t (ap (λ (r : Result LogLine TextWhy). at_line 1 (r >>= λ l. Ok ([] ++ l ∷ []))) read) in
    ap lines_in (ap (parts_add scale version [] 1) cut ∙ e)

-- ---- the place behind a part

joined : (part : List ℕ) (parts : List (List ℕ)) → 0 < length parts → join_with_byte 10 (part ∷ parts) ≡ part ++ 10 ∷ join_with_byte 10 parts
joined part [] h = absurd (omega arith)
joined part (next ∷ parts) h = refl

cut_text : (rest part next : List ℕ) → parts_of_text rest ≡ part ∷ parts_of_text next → rest ≡ part ++ 10 ∷ next
cut_text rest part next cut =
    sym (join_with_byte-slice_split 10 rest)
    ∙ ap (join_with_byte 10) cut
    ∙ joined part (parts_of_text next) (some_parts next)
    ∙ ap (λ (t : List ℕ). part ++ 10 ∷ t) (join_with_byte-slice_split 10 next)

drop_past : (part next : List ℕ) → drop (suc (length part)) (part ++ 10 ∷ next) ≡ next
drop_past [] next = refl
drop_past (x ∷ part) next = drop_past part next

module _ (text rest part next : List ℕ) (at : ℕ) (rest_is : rest ≡ drop at text) (long : length rest + at ≡ length text) (cut : parts_of_text rest ≡ part ∷ parts_of_text next) where
  pub fits_in : length next ≤ length text
  fits_in = omega (arith, long, ap length (cut_text rest part next cut), length-append part (10 ∷ next))

  place_is : drop (length text - length next) text ≡ next
  place_is =
      let same : length text - length next ≡ at + suc (length part) = omega (arith, long, ap length (cut_text rest part next cut), length-append part (10 ∷ next)) in
      ap (λ n. drop n text) same
      ∙ sym (drop-drop (suc (length part)) at text)
      ∙ ap (drop (suc (length part))) (sym rest_is ∙ cut_text rest part next cut)
      ∙ drop_past part next

  -- the line that the part spells, and the place behind it
  pub parses_first : (scale : Scale) (version : ℕ) (line : LogLine) → IsAhead scale version text at → Ok line ≡ line_of scale version true (spaced_words part) → ParsesFirst scale version text at (Some (line, length text - length next))
  parses_first scale version line h read =
      let here : HasLines (rest_of scale version rest) = subst (λ (r : List ℕ). HasLines (rest_of scale version r)) (sym rest_is) h.lines in (
        record {
          inside = omega arith;
          lines = subst (λ (r : List ℕ). HasLines (rest_of scale version r)) (sym place_is) (has_more scale version rest part line here next cut (sym read));
        },
        ap (λ (r : List ℕ). lines_in (rest_of scale version r)) (sym rest_is)
            ∙ first_is scale version rest part line here next cut (sym read)
            ∙ ap (λ (r : List ℕ). line ∷ lines_in (rest_of scale version r)) (sym place_is),
      )

-- ---- the first pass over a text

-- the lines so far, and what the whole text gives
abbrev pub Checking : Scale → ℕ → List ℕ → ℕ → List ℕ → Type 0
Checking scale version bytes number rest = (lines : List LogLine) × PartsLeft scale version bytes lines number rest

module _ (scale : Scale) (version : ℕ) (bytes : List ℕ) (number : ℕ) (rest part next : List ℕ) (cut : parts_of_text rest ≡ part ∷ parts_of_text next) (h : Checking scale version bytes number rest) where
  pub checking_more : (line : LogLine) → at_line number (line_of scale version true (spaced_words part)) ≡ Ok line → Checking scale version bytes (number + 1) next
  checking_more line e = (
    h.0 ++ line ∷ [],
    PartsLeft-more scale version bytes h.0 number rest part next cut h.1 (h.0 ++ line ∷ []) (read_adds h.0 number (line_of scale version true (spaced_words part)) line e),
  )

  pub checking_fails : (fault : ReadFault) → Fails fault (at_line number (line_of scale version true (spaced_words part))) → Fails fault (log_of scale bytes)
  checking_fails fault e = PartsLeft-fails scale version bytes h.0 number rest part next cut h.1 fault (fault_adds h.0 number (line_of scale version true (spaced_words part)) fault e)

-- what stands after the last LF
module _ (scale : Scale) (version : ℕ) (last : List ℕ) (number : ℕ) where
  pub checked_none : eqb (length last) 0 ≡ true → (lines : List LogLine) → HasLines (parts_add scale version lines number (last ∷ []))
  checked_none t lines = (lines, rw t refl)

  pub checked_last : eqb (length last) 0 ≡ false → (lines : List LogLine) (line : LogLine) → at_line number (line_of scale version false (spaced_words last)) ≡ Ok line → HasLines (parts_add scale version lines number (last ∷ []))
  checked_last t lines line e = (lines ++ line ∷ [], rw t (read_adds lines number (line_of scale version false (spaced_words last)) line e))
