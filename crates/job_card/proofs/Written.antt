-- Words that are written one right behind the other.
use Rattle.std.proofs.Common.{◌≡◌, ℕ, ◌+◌, ◌<◌, ◌≤◌, List, [], ◌∷◌, ◌++◌, length, get_or, drop, take, map, refl, sym, ap, ◌∙◌, append_assoc}
use Rattle.std.specs.Prelude.{codes, decimal}
use Rattle.std.specs.List.{concat, join_with_byte}
use Rattle.std.proofs.lemmas.List.{append-nil, drop_all, drop_more}
use Rattle.line_text.specs.declared.fields.Field.{Field}
use Rattle.line_text.specs.WrittenLines.{word_of}
use Rattle.job_card.specs.declared.card.Card.{Card}
use Rattle.job_card.specs.declared.card.Version.{Version}
use Rattle.job_card.specs.Text.{version_text, mark_line, lines_of, text_of_lines, text_of}
use Rattle.job_card.proofs.Lines.{text_of_lines-push}

-- the words from the one of this index on
abbrev left_of : List Field → ℕ → List ℕ
left_of words i = concat (map word_of (drop i words))

-- the text so far and the words that are left are what stood there and all words
pub record WordsLeft (start : List ℕ) (words : List Field) (i : ℕ) (text : List ℕ) : Type 0 where
  pub same : text ++ concat (map word_of (drop i words)) ≡ start ++ concat (map word_of words)

pub WordsLeft-first : (start : List ℕ) (words : List Field) → WordsLeft start words 0 start
WordsLeft-first start words = record { same = refl }

pub WordsLeft-more : (start : List ℕ) (words : List Field) (i : ℕ) (text : List ℕ) (d : Field) → i < length words → WordsLeft start words i text → WordsLeft start words (i + 1) (text ++ word_of (get_or words i d))
WordsLeft-more start words i text d lt h = record {
  same = append_assoc text (word_of (get_or words i d)) (left_of words (i + 1))
      ∙ ap (λ (fs : List Field). text ++ concat (map word_of fs)) (sym (drop_more words i d lt))
      ∙ h.same;
}

pub WordsLeft-last : (start : List ℕ) (words : List Field) (i : ℕ) (text : List ℕ) → length words ≤ i → WordsLeft start words i text → text ≡ start ++ concat (map word_of words)
WordsLeft-last start words i text le h = sym (append-nil text) ∙ ap (λ (fs : List Field). text ++ concat (map word_of fs)) (sym (drop_all i words le)) ∙ h.same

-- ---- the lines of a card

abbrev head_lines : Version → ℕ → List (List ℕ)
head_lines v n =
    codes "topo card 1"
    ∷ join_with_byte 32 (codes "program" ∷ version_text v ∷ [])
    ∷ join_with_byte 32 (codes "decimals" ∷ decimal n ∷ [])
    ∷ []

head_same : (a b c d : List ℕ) → codes "topo card 1\nprogram " ++ (a ++ 46 ∷ (b ++ 46 ∷ (c ++ (codes "\ndecimals " ++ (d ++ 10 ∷ []))))) ≡ text_of_lines (codes "topo card 1" ∷ join_with_byte 32 (codes "program" ∷ join_with_byte 46 (a ∷ b ∷ c ∷ []) ∷ []) ∷ join_with_byte 32 (codes "decimals" ∷ d ∷ []) ∷ [])
head_same a b c d = simp append_assoc

pub head_written : (v : Version) (n m : ℕ) → n ≡ m → codes "topo card 1\nprogram " ++ (decimal v.major ++ 46 ∷ (decimal v.minor ++ 46 ∷ (decimal v.patch ++ (codes "\ndecimals " ++ (decimal n ++ 10 ∷ []))))) ≡ text_of_lines (head_lines v m)
head_written v n m e = head_same (decimal v.major) (decimal v.minor) (decimal v.patch) (decimal n) ∙ ap (λ (k : ℕ). text_of_lines (head_lines v k)) e

-- one more line is written
more : (lines : List (List ℕ)) (line old new : List ℕ) → old ≡ text_of_lines lines → new ≡ old ++ (line ++ 10 ∷ []) → new ≡ text_of_lines (lines ++ line ∷ [])
more lines line old new e f = f ∙ ap (λ (t : List ℕ). t ++ (line ++ 10 ∷ [])) e ∙ sym (text_of_lines-push lines line)

pub whole_card : (c : Card) (h m s l t : List ℕ) → h ≡ text_of_lines (take 3 (lines_of c)) → m ≡ h ++ (mark_line (codes "mesh") c.mesh ++ 10 ∷ []) → s ≡ m ++ (mark_line (codes "steps") c.steps ++ 10 ∷ []) → l ≡ s ++ (mark_line (codes "log") c.log ++ 10 ∷ []) → t ≡ l ++ (codes "end" ++ 10 ∷ []) → t ≡ text_of c
whole_card c h m s l t a b d e f =
    let four = more (take 3 (lines_of c)) (mark_line (codes "mesh") c.mesh) h m a b in
    let five = more (take 4 (lines_of c)) (mark_line (codes "steps") c.steps) m s four d in
    let six = more (take 5 (lines_of c)) (mark_line (codes "log") c.log) s l five e in
    more (take 6 (lines_of c)) (codes "end") l t six f
