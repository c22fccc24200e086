-- Texts of lines: none is empty, and lists of lines are written one after another.
use Rattle.std.proofs.Common.{◌≡◌, ℕ, ◌<◌, List, [], ◌∷◌, ◌++◌, length, refl, sym, ap, ◌∙◌, arith, append_assoc, length-append}
use Rattle.log_text.specs.declared.log_line.LogLine.{LogLine}
use Rattle.std.specs.List.{join_with_byte}
use Rattle.line_text.specs.WrittenLines.{line_of_words}
use Rattle.log_text.specs.Lines.{body_of, text_of_line, text_of_lines}

-- a line of words is the words with one space between them, and LF
pub line_of_words-join : (words : List (List ℕ)) → 0 < length words → line_of_words words ≡ join_with_byte 32 words ++ 10 ∷ []
line_of_words-join [] h = absurd (omega arith)
line_of_words-join (word ∷ []) h = refl
line_of_words-join (word ∷ next ∷ words) h = ap (λ (t : List ℕ). word ++ 32 ∷ t) (line_of_words-join (next ∷ words) (omega arith)) ∙ sym (append_assoc word (32 ∷ join_with_byte 32 (next ∷ words)) (10 ∷ []))

-- no line's text is empty
pub text_of_line-some : (l : LogLine) → 0 < length (text_of_line l)
text_of_line-some l = omega (arith, length-append (body_of l) (10 ∷ []))

pub text_of_lines-append : (xs ys : List LogLine) → text_of_lines (xs ++ ys) ≡ text_of_lines xs ++ text_of_lines ys
text_of_lines-append [] ys = refl
text_of_lines-append (x ∷ xs) ys = ap (λ (t : List ℕ). text_of_line x ++ t) (text_of_lines-append xs ys) ∙ sym (append_assoc (text_of_line x) (text_of_lines xs) (text_of_lines ys))
