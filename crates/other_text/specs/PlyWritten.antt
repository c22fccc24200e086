-- The PLY text of lists.
use Rattle.std.specs.Prelude.{ℕ, List, [], ◌∷◌, ◌++◌, length, codes, decimal}
use Rattle.line_text.specs.WrittenLines.{line_of_words}
use Rattle.obj_text.specs.Obj.{Lists}
use Rattle.other_text.specs.OffWritten.{rows_text}

-- the head, and the same rows as OFF
abbrev pub ply_text : ℕ → Lists → List ℕ
ply_text decimals lists =
    line_of_words (codes "ply" ∷ [])
    ++ (line_of_words (codes "format" ∷ codes "ascii" ∷ codes "1.0" ∷ [])
    ++ (line_of_words (codes "element" ∷ codes "vertex" ∷ decimal (length lists.points) ∷ [])
    ++ (line_of_words (codes "property" ∷ codes "double" ∷ codes "x" ∷ [])
    ++ (line_of_words (codes "property" ∷ codes "double" ∷ codes "y" ∷ [])
    ++ (line_of_words (codes "property" ∷ codes "double" ∷ codes "z" ∷ [])
    ++ (line_of_words (codes "element" ∷ codes "face" ∷ decimal (length lists.faces) ∷ [])
    ++ (line_of_words
    (codes "property" ∷ codes "list" ∷ codes "uchar" ∷ codes "int" ∷ codes "vertex_indices" ∷ [])
    ++ (line_of_words (codes "end_header" ∷ []) ++ rows_text decimals lists))))))))
