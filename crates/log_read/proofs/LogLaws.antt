-- Lines are read exactly from their bodies, and logs from the texts of their lines.
use Rattle.std.proofs.Common.{◌≡◌, ℕ, suc, ◌+◌, ◌<◌, ◌^◌, Bool, true, false, eqb, List, [], ◌∷◌, ◌++◌, length, Result, Ok, Err, refl, sym, ap, subst, ◌∙◌, arith, lit<, append_assoc}
use Rattle.std.specs.Prelude.{All, codes, if◌then◌else◌}
use Rattle.std.specs.List.{AllByRecursion, join_with_byte}
use Rattle.std.specs.Str.{bytes_eq}
use Rattle.std.proofs.lemmas.Bool.{eqb-true, false≢true}
use Rattle.std.proofs.lemmas.List.{append-nil}
use Rattle.std.proofs.lemmas.List.Elements.{All-from_recursion, recursion_from_All, All-weaker}
use Rattle.std.proofs.lemmas.List.Splits.{slice_split_at, join_with_byte-slice_split}
use Rattle.line_text.specs.declared.TextWhy.{TextWhy}
use Rattle.line_text.specs.Faults.{◌>>=◌, at_line}
use Rattle.line_text.specs.Spellings.{spaced_words}
use Rattle.mesh_base.specs.declared.Scale.{Scale}
use Rattle.log_text.specs.declared.TheConstants.{VERSION, IDS_VERSION, OLD_VERSION}
use Rattle.log_text.specs.declared.LogLine.{LogLine}
use Rattle.log_text.specs.declared.LogLine.TheVariants.{First}
use Rattle.log_text.specs.Lines.{line_words, body_of, text_of_lines}
use Rattle.log_read.specs.Values.{is_later}
use Rattle.log_read.specs.Reading.{line_of, line_adds, parts_add, parts_of_text, version_in, version_of, log_of}
use Rattle.log_read.specs.Laws.{IsInRange, IsOfVersion, NamesOnly, IsLineOf, LinesAreTheirSpellings, BodiesHaveNoEnd, LogsAreTheirLines, WrittenLogsAreRead, NumberedLogsAreRead}
use Rattle.line_text.proofs.ReadSteps.{bound, ok_same, by_test, fault_value}
use Rattle.log_read.proofs.Latest.{latest_line}
use Rattle.log_read.proofs.LineForms.{IsSpelling}
use Rattle.log_read.proofs.LineSpellings.{printed_is_read, read_is_spelled}
use Rattle.log_read.proofs.GraphicWords.{line_graphic, words_again, some_words, has_no_end, is_no_end}
use Rattle.log_read.proofs.LogParts.{some_parts, parts_more, latest_body, numbered_body, version_named, version_numbered}

-- ---- one line

-- the body of what was read is the bytes that were read
pub body_again : (scale : Scale) (version : ℕ) (ended : Bool) (body : List ℕ) (l : LogLine) → IsSpelling scale version ended (spaced_words body) l → body_of l ≡ body
body_again scale version ended body l s = ap (join_with_byte 32) s.same ∙ join_with_byte-slice_split 32 body

-- the bytes of a line in range are read as the line
pub line_again : (scale : Scale) (version : ℕ) → version < 2 ^ 8 → (l : LogLine) → IsInRange scale l → IsOfVersion version l → line_of scale version true (spaced_words (body_of l)) ≡ Ok l
line_again scale version small l r e = ap (line_of scale version true) (words_again (line_words l) (some_words l) (line_graphic scale version small l r e)) ∙ printed_is_read scale version small l r e

pub lines_are_their_spellings_lem : LinesAreTheirSpellings
lines_are_their_spellings_lem scale version small body l = (
  (λ h. let s = read_is_spelled scale version small true (spaced_words body) l h in (s.fits, s.of_version, body_again scale version true body l s)),
  (λ h. ap (λ (b : List ℕ). line_of scale version true (spaced_words b)) (sym h.2) ∙ line_again scale version small l h.0 h.1),
)

pub bodies_have_no_end_lem : BodiesHaveNoEnd
bodies_have_no_end_lem scale version small l r e = has_no_end (line_words l) (line_graphic scale version small l r e)

-- ---- whole texts

-- the lines that were added to those so far
record Added (scale : Scale) (version : ℕ) (before : List LogLine) (parts : List (List ℕ)) (ls : List LogLine) : Type 0 where
  more : List LogLine
  all : ls ≡ before ++ more
  fit : AllByRecursion (IsLineOf scale version) more
  text : text_of_lines more ≡ join_with_byte 10 parts

at_line-ok : {A : Type 0} (number : ℕ) (read : Result A TextWhy) (a : A) → at_line number read ≡ Ok a → read ≡ Ok a
at_line-ok number (Ok b) a h = ap (λ (c : _). Ok c) (ok_same b a h)
at_line-ok number (Err why) a h = fault_value (record { line = number; why = why }) a h

no_bytes : (bytes : List ℕ) → eqb (length bytes) 0 ≡ true → bytes ≡ []
no_bytes [] h = refl
no_bytes (b ∷ bytes) h = absurd (let e : suc (length bytes) ≡ 0 = eqb-true (suc (length bytes)) 0 h in omega (arith, e))

added : (scale : Scale) (version : ℕ) → version < 2 ^ 8 → (before : List LogLine) (number : ℕ) (parts : List (List ℕ)) (ls : List LogLine) → 0 < length parts → parts_add scale version before number parts ≡ Ok ls → Added scale version before parts ls
added scale version small before number [] ls some h = absurd (omega arith)
added scale version small before number (last ∷ []) ls some h =
    by_test (eqb (length last) 0) (Ok before) (at_line number (line_adds scale version before false last)) (Ok ls)
    (λ t e. record { more = []; all = sym (ok_same before ls e) ∙ sym (append-nil before); fit = tt; text = sym (no_bytes last t) })
    (λ t e.
    let a = at_line-ok number (line_adds scale version before false last) ls e in
    let b = bound (line_of scale version false (spaced_words last)) (λ (l : LogLine). Ok (before ++ l ∷ [])) ls a in
    let s = read_is_spelled scale version small false (spaced_words last) b.value b.first in
    absurd (false≢true s.has_end))
    h
added scale version small before number (part ∷ next ∷ parts) ls some h =
    let d = bound (at_line number (line_adds scale version before true part)) (λ (lines : List LogLine). parts_add scale version lines (number + 1) (next ∷ parts)) ls h in
    let a = at_line-ok number (line_adds scale version before true part) d.value d.first in
    let b = bound (line_of scale version true (spaced_words part)) (λ (l : LogLine). Ok (before ++ l ∷ [])) d.value a in
    let s = read_is_spelled scale version small true (spaced_words part) b.value b.first in
    let i = added scale version small d.value (number + 1) (next ∷ parts) ls (omega arith) d.after in
    let so_far : before ++ b.value ∷ [] ≡ d.value = ok_same (before ++ b.value ∷ []) d.value b.after in
    let line_text : body_of b.value ≡ part = body_again scale version true part b.value s in
    record {
      more = b.value ∷ i.more;
      all = i.all ∙ ap (λ (t : List LogLine). t ++ i.more) (sym so_far) ∙ append_assoc before (b.value ∷ []) i.more;
      fit = ((s.fits, s.of_version), i.fit);
      text = append_assoc (body_of b.value) (10 ∷ []) (text_of_lines i.more) ∙ ap (λ (t : List ℕ). t ++ 10 ∷ text_of_lines i.more) line_text ∙ ap (λ (t : List ℕ). part ++ 10 ∷ t) i.text;
    }

-- the first line's body is the first part of the text
first_part : (scale : Scale) (version : ℕ) → version < 2 ^ 8 → (l : LogLine) (ls : List LogLine) → IsLineOf scale version l → parts_of_text (text_of_lines (l ∷ ls)) ≡ body_of l ∷ parts_of_text (text_of_lines ls)
first_part scale version small l ls h = ap parts_of_text (append_assoc (body_of l) (10 ∷ []) (text_of_lines ls)) ∙ slice_split_at (λ b. eqb b 10) (body_of l) 10 (text_of_lines ls) (is_no_end (line_words l) (line_graphic scale version small l h.0 h.1)) refl

read_again : (scale : Scale) (version : ℕ) → version < 2 ^ 8 → (ls : List LogLine) (before : List LogLine) (number : ℕ) → AllByRecursion (IsLineOf scale version) ls → parts_add scale version before number (parts_of_text (text_of_lines ls)) ≡ Ok (before ++ ls)
read_again scale version small [] before number h = ap Ok (sym (append-nil before))
read_again scale version small (l ∷ ls) before number h =
    let rest = text_of_lines ls in
    let cut = first_part scale version small l ls h.0 in
    let here : line_adds scale version before true (body_of l) ≡ Ok (before ++ l ∷ []) = ap (λ (r : Result LogLine TextWhy). r >>= λ l. Ok (before ++ l ∷ [])) (line_again scale version small l h.0.0 h.0.1) in
    ap (parts_add scale version before number) cut
    ∙ parts_more scale version before number (body_of l) (parts_of_text rest) (some_parts rest)
    ∙ ap (λ (r : Result (List LogLine) TextWhy). at_line number r >>= λ more. parts_add scale version more (number + 1) (parts_of_text rest)) here
    ∙ read_again scale version small ls (before ++ l ∷ []) (number + 1) h.1
    ∙ ap Ok (append_assoc before (l ∷ []) ls)

-- ---- the version by which a text is read

small_in : (parts : List (List ℕ)) → version_in parts < 2 ^ 8
small_in [] = lit< tt
small_in (first ∷ parts) =
    let P : ℕ → Type 0 = λ n. n < 2 ^ 8 in
    by_test (bytes_eq first (body_of (First VERSION))) VERSION (if bytes_eq first (body_of (First IDS_VERSION)) then IDS_VERSION else OLD_VERSION) (version_in (first ∷ parts))
    (λ t e. subst P e (lit< tt))
    (λ t e. subst P e (by_test (bytes_eq first (body_of (First IDS_VERSION))) IDS_VERSION OLD_VERSION _ (λ u f. subst P f (lit< tt)) (λ u f. subst P f (lit< tt)) refl))
    refl

pub logs_are_their_lines_lem : LogsAreTheirLines
logs_are_their_lines_lem scale bytes ls =
    let version = version_of bytes in
    let small = small_in (parts_of_text bytes) in (
      (λ h.
          let a = added scale version small [] 1 (parts_of_text bytes) ls (some_parts bytes) h in
          subst (λ (ls : List LogLine). All (IsLineOf scale version) ls × (text_of_lines ls ≡ bytes)) (sym a.all) (All-from_recursion (IsLineOf scale version) a.more a.fit, a.text ∙ join_with_byte-slice_split 10 bytes)),
      (λ h. ap (λ (t : List ℕ). parts_add scale version [] 1 (parts_of_text t)) (sym h.1) ∙ read_again scale version small ls [] 1 (recursion_from_All (IsLineOf scale version) ls h.0)),
    )

-- the text of a log whose first line names a version by which it is read
written_again : (scale : Scale) (version : ℕ) → version < 2 ^ 8 → is_later version ≡ true → ((first : List ℕ) (parts : List (List ℕ)) (bytes : List ℕ) → parts_of_text bytes ≡ first ∷ parts → body_of (First version) ≡ first → version ≡ version_of bytes)
    → (ls : List LogLine) → All (λ l. IsInRange scale l × NamesOnly version l) ls → log_of scale (text_of_lines (First version ∷ ls)) ≡ Ok (First version ∷ ls)
written_again scale version small later names ls h =
    let text = text_of_lines (First version ∷ ls) in
    let here : IsLineOf scale version (First version) = (tt, refl) in
    let named : version ≡ version_of text = names (body_of (First version)) (parts_of_text (text_of_lines ls)) text (first_part scale version small (First version) ls here) refl in
    ap (λ v. parts_add scale v [] 1 (parts_of_text text)) (sym named) ∙ read_again scale version small (First version ∷ ls) [] 1 (here, recursion_from_All (IsLineOf scale version) ls (All-weaker (λ l. IsInRange scale l × NamesOnly version l) (IsLineOf scale version) (λ l r. (r.0, latest_line version later scale l r.0 r.1)) ls h))

pub written_logs_are_read_lem : WrittenLogsAreRead
written_logs_are_read_lem scale ls h = written_again scale VERSION (lit< tt) refl (λ first parts bytes cut is. version_named bytes first parts cut (ap (λ (b : List ℕ). bytes_eq b (codes "topo log 2")) (sym is ∙ latest_body))) ls h

pub numbered_logs_are_read_lem : NumberedLogsAreRead
numbered_logs_are_read_lem scale ls h =
    written_again scale IDS_VERSION (lit< tt) refl
    (λ first parts bytes cut is. version_numbered bytes first parts cut (ap (λ (b : List ℕ). bytes_eq b (codes "topo log 2")) (sym is ∙ numbered_body)) (ap (λ (b : List ℕ). bytes_eq b (codes "topo log 3")) (sym is ∙ numbered_body)))
    ls h
