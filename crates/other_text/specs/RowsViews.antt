-- The faces that rows give, as the code adds them.
use Rattle.std.specs.Prelude.{ℕ, List, ◌++◌, Result, Ok}
use Rattle.line_text.specs.declared.fault.TextWhy.{TextWhy}
use Rattle.line_text.specs.declared.fault.TextFault.{TextFault}
use Rattle.line_text.specs.declared.fault.ReadFault.{ReadFault}
use Rattle.line_text.specs.Faults.{◌>>=◌, at_line, Leaves}
use Rattle.obj_text.specs.Obj.{fan, fan_after}
use Rattle.other_text.specs.Rows.{corners_of}

-- faces, and the triangles that so many more corners add to them
abbrev pub fan_from : ℕ → ℕ → ℕ → ℕ → List (List ℕ) → List (List ℕ) →
    Result (List (List ℕ)) TextFault
fan_from more line a b faces words =
    at_line line (corners_of more words >>= λ corners. Ok (faces ++ fan_after a b corners))

-- faces, and the triangles that a face gives, if there is one
abbrev pub faces_after : List (List ℕ) → Result (List ℕ) TextWhy → Result (List (List ℕ)) TextWhy
faces_after faces ring = ring >>= λ corners. Ok (faces ++ fan corners)

-- what a function left in the list of faces is what they are after the triangles that a face gives
abbrev pub AddsFace : {X : Type 0} → List (List ℕ) → List (List ℕ) → Result X ReadFault → ℕ →
    Result (List ℕ) TextWhy → Type 0
AddsFace old new result line ring = Leaves new result (at_line line (faces_after old ring))
