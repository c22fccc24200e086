-- Each summary has seven lines.
use Rattle.std.proofs.Common.{◌≡◌, ℕ, suc, Option, None, List, [], ◌∷◌, ◌++◌, if◌then◌else◌, Some, length, refl, sym, ap, ◌∙◌, append_assoc, append-nil}
use Rattle.std.specs.Prelude.{◌*◌, codes, decimal, IsSome}
use Rattle.std.specs.FinMap as finite
use Rattle.std.proofs.lemmas.Bool.{false≢true}
use Rattle.grid_base.specs.declared.grid.Point.{Point}
use Rattle.mesh_base.specs.Mesh.{Mesh}
use Rattle.mesh_make.specs.Cubes.{IsRow}
use Rattle.line_text.specs.WrittenLines.{line_of_words}
use Rattle.log_text.specs.Lines.{point_words}
use Rattle.outside_io.specs.ToldLines.{LF, ended_behind, lines_in}
use Rattle.run_laws.proofs.FirstVertex.{first_lives}
use Rattle.track_try.specs.Summary.{Counts, counts_of, log_of_cubes, replay_of_cubes, count_word, job_text, kinds_text, corner_text, end_text, length_text, summary_text, summary_of}
use Rattle.track_try.proofs.NoEnds.{HasNoEnd, HaveNoEnd, text, number, point_parts}
use Rattle.track_try.proofs.Counts.{ended_line}

-- a word with no end, behind what stands in front of it
passed : (front word rest : List ℕ) → HasNoEnd word → ended_behind front (word ++ rest) ≡ ended_behind (front ++ word) rest
passed front [] rest h = ap (λ f. ended_behind f rest) (sym (append-nil front))
passed front (b ∷ word) rest h =
    ap (λ v. if v then front ∷ ended_behind [] (word ++ rest) else ended_behind (front ++ b ∷ []) (word ++ rest)) h.0
    ∙ passed (front ++ b ∷ []) word rest h.1
    ∙ ap (λ f. ended_behind f rest) (append_assoc front (b ∷ []) word)

-- a line of words
line_more : (front word : List ℕ) (words : List (List ℕ)) (rest : List ℕ) → HaveNoEnd (word ∷ words) → length (ended_behind front (line_of_words (word ∷ words) ++ rest)) ≡ suc (lines_in rest)
line_more front word [] rest h =
    ap (λ t. length (ended_behind front t)) (append_assoc word (LF ∷ []) rest)
    ∙ ap length (ended_line front word rest h.0)
line_more front word (next ∷ words) rest h =
    ap (λ t. length (ended_behind front t)) (append_assoc word (32 ∷ line_of_words (next ∷ words)) rest)
    ∙ ap length (passed front word (32 ∷ line_of_words (next ∷ words) ++ rest) h.0)
    ∙ line_more ((front ++ word) ++ 32 ∷ []) next words rest h.1

-- two lines of words
lines_more : (word : List ℕ) (words : List (List ℕ)) (other : List ℕ) (others : List (List ℕ)) (rest : List ℕ) → HaveNoEnd (word ∷ words) → HaveNoEnd (other ∷ others)
    → lines_in ((line_of_words (word ∷ words) ++ line_of_words (other ∷ others)) ++ rest) ≡ suc (suc (lines_in rest))
lines_more word words other others rest h k =
    ap lines_in (append_assoc (line_of_words (word ∷ words)) (line_of_words (other ∷ others)) rest)
    ∙ line_more [] word words (line_of_words (other ∷ others) ++ rest) h
    ∙ ap suc (line_more [] other others rest k)

module _ (n key : ℕ) (counts : Counts) (m : Mesh) where
  last_line : lines_in (length_text counts) ≡ 1
  last_line =
      ap lines_in (sym (append-nil (length_text counts)))
      ∙ line_more [] (codes "lines") (count_word counts.lines ∷ []) [] (text (codes "lines") refl, (number _, tt))

  from_end : (p : Point) → finite.get m.points 1 ≡ Some p → lines_in (end_text m ++ length_text counts) ≡ 3
  from_end p lives =
      ap (λ o. lines_in ((line_of_words (codes "mesh" ∷ decimal (finite.len m.points) ∷ decimal (finite.len m.faces) ∷ []) ++ corner_text o) ++ length_text counts)) lives
      ∙ lines_more (codes "mesh") (decimal (finite.len m.points) ∷ decimal (finite.len m.faces) ∷ []) (codes "corner") (point_words p) (length_text counts)
      (text (codes "mesh") refl, (number _, (number _, tt))) (text (codes "corner") refl, point_parts p)
      ∙ ap (λ k. suc (suc k)) last_line

  from_kinds : (p : Point) → finite.get m.points 1 ≡ Some p → lines_in (kinds_text counts ++ (end_text m ++ length_text counts)) ≡ 5
  from_kinds p lives =
      lines_more (codes "steps") (count_word counts.steps ∷ codes "whole" ∷ count_word counts.whole_steps ∷ []) (codes "splits") (count_word counts.splits ∷ []) (end_text m ++ length_text counts)
      (text (codes "steps") refl, (number _, (text (codes "whole") refl, (number _, tt)))) (text (codes "splits") refl, (number _, tt))
      ∙ ap (λ k. suc (suc k)) (from_end p lives)

  all_lines : (p : Point) → finite.get m.points 1 ≡ Some p → lines_in (summary_text n key counts m) ≡ 7
  all_lines p lives =
      ap lines_in (append_assoc (job_text n key ++ kinds_text counts) (end_text m) (length_text counts) ∙ append_assoc (job_text n key) (kinds_text counts) (end_text m ++ length_text counts))
      ∙ lines_more (codes "try") (decimal n ∷ decimal key ∷ []) (codes "cubes") (decimal (n * n * n) ∷ []) (kinds_text counts ++ (end_text m ++ length_text counts))
      (text (codes "try") refl, (number n, (number key, tt))) (text (codes "cubes") refl, (number _, tt))
      ∙ ap (λ k. suc (suc k)) (from_kinds p lives)

given : (o : Option Point) → IsSome o → (p : Point) × (o ≡ Some p)
given None h = absurd (false≢true h)
given (Some p) h = (p, refl)

pub seven_lines : (n key : ℕ) → IsRow n → lines_in (summary_of n key) ≡ 7
unfolding summary_of
seven_lines n key row =
    let m = (replay_of_cubes n key).mesh in
    let lives = given (finite.get m.points 1) (first_lives n key row) in
    all_lines n key (counts_of (log_of_cubes n key)) m lives.0 lives.1
