-- The line that tells how many meshes of a log are stored.
use Rattle.std.specs.Prelude.{ℕ, List, [], ◌∷◌, codes, decimal}
use Rattle.line_text.specs.WrittenLines.{line_of_words}

-- `replayed K`, with LF at its end
abbrev pub replayed_text : ℕ → List ℕ
replayed_text count = line_of_words (codes "replayed" ∷ decimal count ∷ [])
