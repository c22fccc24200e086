-- The counts of a text of lines are those of its lines.
use Rattle.std.proofs.Common.{◌≡◌, ℕ, suc, ◌+◌, Bool, cond, if◌then◌else◌, List, [], ◌∷◌, ◌++◌, map, length, count_by, refl, sym, ap, ◌∙◌, append_assoc, append-nil}
use Rattle.std.proofs.lemmas.List.Sums.{sum_by-cons}
use Rattle.log_text.specs.declared.log_line.LogLine.{LogLine}
use Rattle.log_text.specs.Lines.{body_of, text_of_lines}
use Rattle.outside_io.specs.ToldLines.{LF, ended_behind, ended_lines, lines_in, steps_in, whole_steps_in, splits_in, tells_step, tells_whole_step, tells_split}
use Rattle.track_try.specs.Summary.{is_step_line, is_whole_step_line, is_split_line, counts_of}
use Rattle.track_try.specs.Told.{counts_in}
use Rattle.track_try.proofs.NoEnds.{HasNoEnd, body_has_no_end}
use Rattle.track_try.proofs.Beginnings.{step_told, whole_told, split_told}

-- a line that ends, behind what stands in front of it
pub ended_line : (front body rest : List ℕ) → HasNoEnd body → ended_behind front (body ++ LF ∷ rest) ≡ (front ++ body) ∷ ended_behind [] rest
ended_line front [] rest h = ap (λ l. l ∷ ended_behind [] rest) (sym (append-nil front))
ended_line front (b ∷ body) rest h =
    ap (λ v. if v then front ∷ ended_behind [] (body ++ LF ∷ rest) else ended_behind (front ++ b ∷ []) (body ++ LF ∷ rest)) h.0
    ∙ ended_line (front ++ b ∷ []) body rest h.1
    ∙ ap (λ l. l ∷ ended_behind [] rest) (append_assoc front (b ∷ []) body)

-- the lines that have ended in a text of lines are their spellings
pub ended_bodies : (lines : List LogLine) → ended_lines (text_of_lines lines) ≡ map body_of lines
ended_bodies [] = refl
ended_bodies (l ∷ ls) =
    ap (ended_behind []) (append_assoc (body_of l) (LF ∷ []) (text_of_lines ls))
    ∙ ended_line [] (body_of l) (text_of_lines ls) (body_has_no_end l)
    ∙ ap (λ ls. body_of l ∷ ls) (ended_bodies ls)

length_bodies : (lines : List LogLine) → length (map body_of lines) ≡ length lines
length_bodies [] = refl
length_bodies (l ∷ ls) = ap suc (length_bodies ls)

-- the lines that a test tells by their spellings
count_bodies : (tells : List ℕ → Bool) (kind : LogLine → Bool) → ((l : LogLine) → tells (body_of l) ≡ kind l) → (lines : List LogLine) → count_by tells (map body_of lines) ≡ count_by kind lines
count_bodies tells kind told [] = refl
count_bodies tells kind told (l ∷ ls) =
    sum_by-cons (λ x. cond (tells x) 1 0) (body_of l) (map body_of ls)
    ∙ ap (λ v. cond v 1 0 + count_by tells (map body_of ls)) (told l)
    ∙ ap (λ n. cond (kind l) 1 0 + n) (count_bodies tells kind told ls)
    ∙ sym (sum_by-cons (λ x. cond (kind x) 1 0) l ls)

pub lines_told : (lines : List LogLine) → lines_in (text_of_lines lines) ≡ length lines
lines_told lines = ap length (ended_bodies lines) ∙ length_bodies lines

pub steps_told : (lines : List LogLine) → steps_in (text_of_lines lines) ≡ count_by is_step_line lines
steps_told lines = ap (count_by tells_step) (ended_bodies lines) ∙ count_bodies tells_step is_step_line step_told lines

pub whole_steps_told : (lines : List LogLine) → whole_steps_in (text_of_lines lines) ≡ count_by is_whole_step_line lines
whole_steps_told lines = ap (count_by tells_whole_step) (ended_bodies lines) ∙ count_bodies tells_whole_step is_whole_step_line whole_told lines

pub splits_told : (lines : List LogLine) → splits_in (text_of_lines lines) ≡ count_by is_split_line lines
splits_told lines = ap (count_by tells_split) (ended_bodies lines) ∙ count_bodies tells_split is_split_line split_told lines

-- all of them
pub counts_told : (lines : List LogLine) → counts_in (text_of_lines lines) ≡ counts_of lines
counts_told lines = let a = lines_told lines in let b = steps_told lines in let c = whole_steps_told lines in let d = splits_told lines in cc
