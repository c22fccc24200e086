-- Lines that are written one after another.
use Rattle.std.proofs.Common.{◌≡◌, ℕ, List, [], ◌∷◌, ◌++◌, subst, refl, ap, sym, ◌∙◌, append_assoc, append-nil, take}
use Rattle.std.specs.declared.option.Option.{Option}
use Rattle.log_text.specs.Lines.{text_of_lines, text_of_line}
use Rattle.log_text.specs.declared.LogLine.{LogLine}
use Rattle.log_text.proofs.LineLaws.{text_of_line-some, text_of_lines-append}
use Rattle.outside_io.specs.Sink.{appended, AppendsPart}
use Rattle.outside_io.proofs.Written.{appended-nil, appended-appended}
use Rattle.log_write.specs.Written.{IsBegun, WrittenInPart}

-- nothing is a part of the first of any lines
pub begun_nothing : (lines : List LogLine) → IsBegun [] lines
begun_nothing [] = refl
begun_nothing (line ∷ lines) = (0, text_of_line-some line, refl)

-- a part of the first of some lines is one of the first of more
pub begun_more : (part : List ℕ) (rest more : List LogLine) → IsBegun part rest → IsBegun part (rest ++ more)
begun_more part [] more b = let P : List ℕ → Type 0 = λ t. IsBegun t more in subst P (sym b) (begun_nothing more)
begun_more part (line ∷ rest) more b = b

-- nothing of a line
pub part_none : (old new : Option (List ℕ)) (line : LogLine) → new ≡ old → AppendsPart old new (text_of_line line)
part_none old new line same = (0, text_of_line-some line, same ∙ sym (appended-nil old))

-- nothing of some lines
abbrev pub written_nothing : (old new : Option (List ℕ)) (lines : List LogLine) → new ≡ old → WrittenInPart old new lines
written_nothing old new lines same = record { done = []; rest = lines; split = refl; part = []; begun = begun_nothing lines; written = same ∙ sym (appended-nil old) }

-- a part of one line
abbrev pub written_part : (old new : Option (List ℕ)) (line : LogLine) → AppendsPart old new (text_of_line line) → WrittenInPart old new (line ∷ [])
written_part old new line part = record { done = []; rest = line ∷ []; split = refl; part = take part.0 (text_of_line line); begun = (part.0, part.1, refl); written = part.2 }

-- all of some lines
abbrev pub written_whole : (old new : Option (List ℕ)) (lines : List LogLine) → new ≡ appended old (text_of_lines lines) → WrittenInPart old new lines
written_whole old new lines e = record {
  done = lines;
  rest = [];
  split = sym (append-nil lines);
  part = [];
  begun = refl;
  written = e ∙ ap (appended old) (sym (append-nil (text_of_lines lines)));
}

-- one whole line
pub written_line : (old new : Option (List ℕ)) (line : LogLine) → new ≡ appended old (text_of_line line) → new ≡ appended old (text_of_lines (line ∷ []))
written_line old new line e = e ∙ ap (appended old) (sym (append-nil (text_of_line line)))

-- some lines after others
pub written_then : (a b c : Option (List ℕ)) (xs ys : List LogLine) → b ≡ appended a (text_of_lines xs) → c ≡ appended b (text_of_lines ys) → c ≡ appended a (text_of_lines (xs ++ ys))
written_then a b c xs ys p q = q ∙ ap (λ w. appended w (text_of_lines ys)) p ∙ appended-appended a _ _ ∙ ap (appended a) (sym (text_of_lines-append xs ys))

-- a part of some lines after others
abbrev pub part_then : (a b c : Option (List ℕ)) (xs ys : List LogLine) → b ≡ appended a (text_of_lines xs) → WrittenInPart b c ys → WrittenInPart a c (xs ++ ys)
part_then a b c xs ys p s = record {
  done = xs ++ s.done;
  rest = s.rest;
  split = ap (λ l. xs ++ l) s.split ∙ sym (append_assoc xs s.done s.rest);
  part = s.part;
  begun = s.begun;
  written = s.written ∙ ap (λ w. appended w (text_of_lines s.done ++ s.part)) p ∙ appended-appended a _ _
      ∙ ap (appended a) (sym (append_assoc (text_of_lines xs) (text_of_lines s.done) s.part) ∙ ap (λ t. t ++ s.part) (sym (text_of_lines-append xs s.done)));
}

-- a part of some lines is a part of more
abbrev pub part_more : (a b : Option (List ℕ)) (xs ys : List LogLine) → WrittenInPart a b xs → WrittenInPart a b (xs ++ ys)
part_more a b xs ys s = record {
  done = s.done;
  rest = s.rest ++ ys;
  split = ap (λ l. l ++ ys) s.split ∙ append_assoc s.done s.rest ys;
  part = s.part;
  begun = begun_more s.part s.rest ys s.begun;
  written = s.written;
}

-- ---- lines that are written one after another

-- some of the lines are written, and the rest is left
pub record WrittenSoFar (old now : Option (List ℕ)) (left all : List LogLine) : Type 0 where
  pub done : List LogLine
  pub whole : done ++ left ≡ all
  pub written : now ≡ appended old (text_of_lines done)

-- none is written yet
pub written_none : (old : Option (List ℕ)) (all : List LogLine) → WrittenSoFar old old all all
written_none old all = record { done = []; whole = refl; written = sym (appended-nil old) }

-- more of them
pub written_more : (old now new : Option (List ℕ)) (xs left all : List LogLine) → WrittenSoFar old now (xs ++ left) all → new ≡ appended now (text_of_lines xs) → WrittenSoFar old new left all
written_more old now new xs left all s p = record {
  done = s.done ++ xs;
  whole = append_assoc s.done xs left ∙ s.whole;
  written = written_then old now new s.done xs s.written p;
}

-- the next are written in part
pub written_more_in_part : (old now new : Option (List ℕ)) (xs left all : List LogLine) → WrittenSoFar old now (xs ++ left) all → WrittenInPart now new xs → WrittenInPart old new all
written_more_in_part old now new xs left all s part =
    let P : List LogLine → Type 0 = λ l. WrittenInPart old new l in
    subst P s.whole (part_then old now new s.done (xs ++ left) s.written (part_more now new xs left part))

-- no more is left
pub written_all : (old now : Option (List ℕ)) (all : List LogLine) → WrittenSoFar old now [] all → now ≡ appended old (text_of_lines all)
written_all old now all s = s.written ∙ ap (λ l. appended old (text_of_lines l)) (sym (append-nil s.done) ∙ s.whole)
