-- Which kind a line is of is told by the beginning of its spelling.
use Rattle.std.proofs.Common.{◌≡◌, ℕ, Bool, false, List, [], ◌∷◌, ◌++◌, refl, ap, sym, ◌∙◌, append-nil}
use Rattle.std.specs.Prelude.{codes, decimal, map}
use Rattle.std.specs.List.{join_with_byte}
use Rattle.edit_base.specs.declared.Change.{Change}
use Rattle.edit_base.specs.declared.Change.TheVariants as change
use Rattle.mesh_base.specs.declared.How.{How}
use Rattle.mesh_base.specs.declared.How.TheVariants.{Whole, Impulse, Zones, Halved, Zero}
use Rattle.log_text.specs.declared.log_line.LogLine.{LogLine}
use Rattle.log_text.specs.declared.log_line.LogLine.TheVariants as line
use Rattle.log_text.specs.Lines.{new_ids_words, body_of, asked_words, reason_words, refusal_words, pass_words, how_words}
use Rattle.outside_io.specs.ToldLines.{tells_step, tells_whole_step, tells_split}
use Rattle.track_try.specs.Summary.{is_step_line, is_whole_step_line, is_split_line}

-- what stands behind the first of some words
behind : List (List ℕ) → List ℕ
behind [] = []
behind (word ∷ words) = 32 ∷ join_with_byte 32 (word ∷ words)

first_word : (word : List ℕ) (words : List (List ℕ)) → join_with_byte 32 (word ∷ words) ≡ word ++ behind words
unfolding behind
first_word word [] = sym (append-nil word)
first_word word (next ∷ words) = refl

-- a test of a line that computes by the first word
by_first : (test : List ℕ → Bool) (v : Bool) (word : List ℕ) (words : List (List ℕ)) → test (word ++ behind words) ≡ v → test (join_with_byte 32 (word ∷ words)) ≡ v
by_first test v word words h = ap test (first_word word words) ∙ h

-- ---- steps

step_change : (done : Change) → tells_step (body_of (line.Did done)) ≡ false
step_change (change.Split a b w at) = refl
step_change (change.Flip a b) = refl
step_change (change.Collapse a b at) = refl
step_change (change.Zip a b e f turn) = refl
step_change (change.Pinch v at copies) = refl

pub step_told : (l : LogLine) → tells_step (body_of l) ≡ is_step_line l
step_told (line.First v) = refl
step_told (line.Mesh k v f) = refl
step_told (line.Step k) = refl
step_told (line.Solid v) = refl
step_told (line.Hit pair) = refl
step_told (line.Vertices new) = by_first tells_step false (codes "vertices") (new_ids_words new) refl
step_told (line.Faces new) = by_first tells_step false (codes "faces") (new_ids_words new) refl
step_told (line.Block ids) = by_first tells_step false (codes "block") (map decimal ids) refl
step_told (line.Move s) = refl
step_told (line.Moved how) = by_first tells_step false (codes "moved") (how_words how) refl
step_told (line.Pass kind) = by_first tells_step false (codes "pass") (pass_words kind) refl
step_told line.PassFit = refl
step_told (line.Did done) = step_change done
step_told (line.No what w) = by_first tells_step false (codes "no") (asked_words what ++ reason_words w) refl
step_told line.Group = refl
step_told (line.Close kept) = refl
step_told (line.Refused w) = by_first tells_step false (codes "refused") (refusal_words w) refl
step_told line.End = refl

-- ---- steps that are taken whole

whole_change : (done : Change) → tells_whole_step (body_of (line.Did done)) ≡ false
whole_change (change.Split a b w at) = refl
whole_change (change.Flip a b) = refl
whole_change (change.Collapse a b at) = refl
whole_change (change.Zip a b e f turn) = refl
whole_change (change.Pinch v at copies) = refl

whole_how : (how : How) → tells_whole_step (body_of (line.Moved how)) ≡ is_whole_step_line (line.Moved how)
whole_how Whole = refl
whole_how (Impulse n) = refl
whole_how (Zones n) = refl
whole_how (Halved n) = refl
whole_how Zero = refl

pub whole_told : (l : LogLine) → tells_whole_step (body_of l) ≡ is_whole_step_line l
whole_told (line.First v) = refl
whole_told (line.Mesh k v f) = refl
whole_told (line.Step k) = refl
whole_told (line.Solid v) = refl
whole_told (line.Hit pair) = refl
whole_told (line.Vertices new) = by_first tells_whole_step false (codes "vertices") (new_ids_words new) refl
whole_told (line.Faces new) = by_first tells_whole_step false (codes "faces") (new_ids_words new) refl
whole_told (line.Block ids) = by_first tells_whole_step false (codes "block") (map decimal ids) refl
whole_told (line.Move s) = refl
whole_told (line.Moved how) = whole_how how
whole_told (line.Pass kind) = by_first tells_whole_step false (codes "pass") (pass_words kind) refl
whole_told line.PassFit = refl
whole_told (line.Did done) = whole_change done
whole_told (line.No what w) = by_first tells_whole_step false (codes "no") (asked_words what ++ reason_words w) refl
whole_told line.Group = refl
whole_told (line.Close kept) = refl
whole_told (line.Refused w) = by_first tells_whole_step false (codes "refused") (refusal_words w) refl
whole_told line.End = refl

-- ---- splits

split_change : (done : Change) → tells_split (body_of (line.Did done)) ≡ is_split_line (line.Did done)
split_change (change.Split a b w at) = refl
split_change (change.Flip a b) = refl
split_change (change.Collapse a b at) = refl
split_change (change.Zip a b e f turn) = refl
split_change (change.Pinch v at copies) = refl

pub split_told : (l : LogLine) → tells_split (body_of l) ≡ is_split_line l
split_told (line.First v) = refl
split_told (line.Mesh k v f) = refl
split_told (line.Step k) = refl
split_told (line.Solid v) = refl
split_told (line.Hit pair) = refl
split_told (line.Vertices new) = by_first tells_split false (codes "vertices") (new_ids_words new) refl
split_told (line.Faces new) = by_first tells_split false (codes "faces") (new_ids_words new) refl
split_told (line.Block ids) = by_first tells_split false (codes "block") (map decimal ids) refl
split_told (line.Move s) = refl
split_told (line.Moved how) = by_first tells_split false (codes "moved") (how_words how) refl
split_told (line.Pass kind) = by_first tells_split false (codes "pass") (pass_words kind) refl
split_told line.PassFit = refl
split_told (line.Did done) = split_change done
split_told (line.No what w) = by_first tells_split false (codes "no") (asked_words what ++ reason_words w) refl
split_told line.Group = refl
split_told (line.Close kept) = refl
split_told (line.Refused w) = by_first tells_split false (codes "refused") (refusal_words w) refl
split_told line.End = refl
