-- The texts of each format.
use Rattle.std.specs.Prelude.{ℕ, List, Result}
use Rattle.line_text.specs.declared.TextFault.{TextFault}
use Rattle.obj_text.specs.Obj.{Lists}
use Rattle.obj_text.specs.Obj as obj
use Rattle.obj_text.specs.ListsWritten.{lists_text}
use Rattle.other_text.specs.Off as off
use Rattle.other_text.specs.OffWritten.{off_text}
use Rattle.other_text.specs.Ply as ply
use Rattle.other_text.specs.PlyWritten.{ply_text}
use Rattle.track_input.specs.declared.Format.{Format}
use Rattle.track_input.specs.declared.Format.TheVariants as format

-- the lists that a text gives by the grammar of the format, on a grid of so many decimals, or
-- its first line outside the grammar
abbrev pub lists_in : Format → ℕ → List ℕ → Result Lists TextFault
lists_in format.Obj decimals bytes = obj.lists_of decimals bytes
lists_in format.Off decimals bytes = off.lists_of decimals bytes
lists_in format.Ply decimals bytes = ply.lists_of decimals bytes

-- the text of lists in the format
abbrev pub text_in : Format → ℕ → Lists → List ℕ
text_in format.Obj decimals lists = lists_text decimals lists
text_in format.Off decimals lists = off_text decimals lists
text_in format.Ply decimals lists = ply_text decimals lists
