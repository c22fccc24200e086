-- The one spelling of each line.
use Rattle.std.specs.Prelude.{ℕ, Bool, true, false, List, [], ◌∷◌, ◌++◌, codes, decimal, map}
use Rattle.std.specs.Fmt.{signed_decimal}
use Rattle.std.specs.List.{join_with_byte}
use Rattle.edit_base.specs.declared.Asked.{Asked}
use Rattle.edit_base.specs.declared.Asked.TheVariants as asked
use Rattle.edit_base.specs.declared.Change.{Change}
use Rattle.edit_base.specs.declared.Change.TheVariants as change
use Rattle.edit_base.specs.declared.CopyAt.{CopyAt}
use Rattle.edit_base.specs.declared.PassKind.{PassKind}
use Rattle.edit_base.specs.declared.PassKind.TheVariants as pass
use Rattle.edit_base.specs.declared.Why.{Why}
use Rattle.edit_base.specs.declared.Why.TheVariants as reason
use Rattle.grid_base.specs.declared.grid.Point.{Point}
use Rattle.line_text.specs.declared.Field.{Field}
use Rattle.line_text.specs.declared.TextWhy.{TextWhy}
use Rattle.line_text.specs.declared.TextWhy.TheVariants as why
use Rattle.line_text.specs.WrittenLines.{word_of}
use Rattle.mesh_base.specs.declared.FileWord.{FileWord}
use Rattle.mesh_base.specs.declared.FileWord.TheVariants as file
use Rattle.mesh_base.specs.declared.How.{How}
use Rattle.mesh_base.specs.declared.How.TheVariants.{Whole, Impulse, Zones, Halved, Zero}
use Rattle.mesh_base.specs.declared.PairName.{PairName}
use Rattle.mesh_base.specs.declared.ShapeFault.{ShapeFault}
use Rattle.mesh_base.specs.declared.ShapeFault.TheVariants.{TooManyVertices, TooManyFaces, NoVertex, Repeated, Doubled, Unbalanced}
use Rattle.mesh_base.specs.declared.UseWhy.{UseWhy}
use Rattle.mesh_base.specs.declared.UseWhy.TheVariants as using
use Rattle.log_text.specs.declared.log_line.LogLine.{LogLine}
use Rattle.log_text.specs.declared.log_line.LogLine.TheVariants as line
use Rattle.log_text.specs.declared.log_line.NewIds.{NewIds}
use Rattle.log_text.specs.declared.log_line.Refusal.{Refusal}
use Rattle.log_text.specs.declared.log_line.Refusal.TheVariants as refusal

-- the word of a file
abbrev pub file_word : FileWord → List ℕ
file_word file.Mesh = codes "mesh"
file_word file.Steps = codes "steps"
file_word file.Log = codes "log"
file_word file.Proof = codes "proof"

-- the word of a text's reason
abbrev pub why_word : TextWhy → List ℕ
why_word why.Number = codes "number"
why_word why.Corner = codes "corner"
why_word why.Range = codes "range"
why_word why.Short = codes "short"
why_word why.Long = codes "long"
why_word why.Unknown = codes "unknown"
why_word why.Continuation = codes "continuation"
why_word why.Nesting = codes "nesting"
why_word why.Order = codes "order"

-- the smaller end, the larger end, and the face
abbrev pub pair_words : PairName → List (List ℕ)
pair_words p = decimal p.a ∷ decimal p.b ∷ decimal p.face ∷ []

-- how a step was taken
abbrev pub how_words : How → List (List ℕ)
how_words Whole = codes "whole" ∷ []
how_words (Impulse passes) = codes "impulse" ∷ decimal passes ∷ []
how_words (Zones rounds) = codes "zones" ∷ decimal rounds ∷ []
how_words (Halved times) = codes "halved" ∷ decimal times ∷ []
how_words Zero = codes "zero" ∷ []

-- what a mesh's shape lacks
abbrev pub shape_words : ShapeFault → List (List ℕ)
shape_words (TooManyVertices count) = codes "vertices" ∷ decimal count ∷ []
shape_words (TooManyFaces count) = codes "faces" ∷ decimal count ∷ []
shape_words (NoVertex face corner) = codes "corner" ∷ decimal face ∷ decimal corner ∷ []
shape_words (Repeated face) = codes "repeated" ∷ decimal face ∷ []
shape_words (Doubled first second) = codes "doubled" ∷ decimal first ∷ decimal second ∷ []
shape_words (Unbalanced from to) = codes "unbalanced" ∷ decimal from ∷ decimal to ∷ []

-- why a directive is refused
abbrev pub use_words : UseWhy → List (List ℕ)
use_words (using.NoVertex v) = codes "vertex" ∷ decimal v ∷ []
use_words (using.ShiftRange v) = codes "range" ∷ decimal v ∷ []
use_words (using.Box v) = codes "box" ∷ decimal v ∷ []
use_words using.NoField = codes "field" ∷ []
use_words (using.Solid v) = codes "solid" ∷ decimal v ∷ []

-- what is refused, and why
abbrev pub refusal_words : Refusal → List (List ℕ)
refusal_words (refusal.Long file seen) = codes "long" ∷ file_word file ∷ decimal seen ∷ []
refusal_words (refusal.Missing file) = codes "missing" ∷ file_word file ∷ []
refusal_words (refusal.Mesh fault) = codes "mesh" ∷ decimal fault.line ∷ why_word fault.why ∷ []
refusal_words (refusal.Shape fault) = codes "shape" ∷ shape_words fault
refusal_words (refusal.Meets pair) = codes "meets" ∷ pair_words pair
refusal_words (refusal.Steps fault) = codes "steps" ∷ decimal fault.line ∷ why_word fault.why ∷ []
refusal_words (refusal.StepUse at why) = codes "use" ∷ decimal at ∷ use_words why

-- ---- passes and edits

-- the kind of a pass, and its length
abbrev pub pass_words : PassKind → List (List ℕ)
pass_words (pass.Split over) = codes "split" ∷ decimal over ∷ []
pass_words (pass.Collapse under) = codes "collapse" ∷ decimal under ∷ []
pass_words pass.Flip = codes "flip" ∷ []
pass_words (pass.Zip within) = codes "zip" ∷ decimal within ∷ []
pass_words pass.Pinch = codes "pinch" ∷ []

-- the three coordinates of a point
abbrev pub point_words : Point → List (List ℕ)
point_words p = signed_decimal p.x ∷ signed_decimal p.y ∷ signed_decimal p.z ∷ []

-- a vertex, and the point where it stands
abbrev pub place_words : CopyAt → List (List ℕ)
place_words c = decimal c.w ∷ point_words c.at

-- each vertex with its point
abbrev pub places_words : List CopyAt → List (List ℕ)
places_words [] = []
places_words (c ∷ cs) = place_words c ++ places_words cs

-- an edit that is done
abbrev pub change_words : Change → List (List ℕ)
change_words (change.Split a b w at) =
    codes "split" ∷ decimal a ∷ decimal b ∷ decimal w ∷ point_words at
change_words (change.Flip a b) = codes "flip" ∷ decimal a ∷ decimal b ∷ []
change_words (change.Collapse a b at) = codes "collapse" ∷ decimal a ∷ decimal b ∷ point_words at
change_words (change.Zip a b e f turn) =
    codes "zip" ∷ decimal a ∷ decimal b ∷ decimal e ∷ decimal f ∷ decimal turn ∷ []
change_words (change.Pinch v at copies) =
    codes "pinch" ∷ places_words (record { w = v; at = at } ∷ copies)

-- an edit that was asked for
abbrev pub asked_words : Asked → List (List ℕ)
asked_words (asked.Split a b) = codes "split" ∷ decimal a ∷ decimal b ∷ []
asked_words (asked.Flip a b) = codes "flip" ∷ decimal a ∷ decimal b ∷ []
asked_words (asked.Collapse a b) = codes "collapse" ∷ decimal a ∷ decimal b ∷ []
asked_words (asked.Zip a b e f) = codes "zip" ∷ decimal a ∷ decimal b ∷ decimal e ∷ decimal f ∷ []
asked_words (asked.Pinch v) = codes "pinch" ∷ decimal v ∷ []

-- why an edit isn't done
abbrev pub reason_words : Why → List (List ℕ)
reason_words reason.NoEdge = codes "noedge" ∷ []
reason_words reason.Crowded = codes "crowded" ∷ []
reason_words reason.Edge = codes "edge" ∷ []
reason_words reason.Shared = codes "shared" ∷ []
reason_words reason.Full = codes "full" ∷ []
reason_words reason.Doubled = codes "doubled" ∷ []
reason_words reason.OneFan = codes "onefan" ∷ []
reason_words (reason.Hit pair) = codes "hit" ∷ pair_words pair
reason_words reason.Solid = codes "solid" ∷ []

-- whether a group is kept
abbrev pub kept_word : Bool → List ℕ
kept_word true = codes "kept"
kept_word false = codes "undone"

-- ---- lines

-- the next id, and the ids that are taken
abbrev pub new_ids_words : NewIds → List (List ℕ)
new_ids_words new = decimal new.next ∷ map decimal new.ids

-- the words of a line
abbrev pub line_words : LogLine → List (List ℕ)
line_words (line.First version) = codes "topo" ∷ codes "log" ∷ decimal version ∷ []
line_words (line.Mesh k vertices faces) =
    codes "mesh" ∷ decimal k ∷ decimal vertices ∷ decimal faces ∷ []
line_words (line.Step k) = codes "step" ∷ decimal k ∷ []
line_words (line.Vertices new) = codes "vertices" ∷ new_ids_words new
line_words (line.Faces new) = codes "faces" ∷ new_ids_words new
line_words (line.Solid v) = codes "solid" ∷ decimal v ∷ []
line_words (line.Hit pair) = codes "hit" ∷ pair_words pair
line_words (line.Block ids) = codes "block" ∷ map decimal ids
line_words (line.Move s) =
    codes "move" ∷ decimal s.v ∷ signed_decimal s.by.x ∷ signed_decimal s.by.y
    ∷ signed_decimal s.by.z ∷ []
line_words (line.Moved how) = codes "moved" ∷ how_words how
line_words (line.Pass kind) = codes "pass" ∷ pass_words kind
line_words line.PassFit = codes "pass" ∷ codes "fit" ∷ []
line_words (line.Did done) = change_words done
line_words (line.No what why) = codes "no" ∷ asked_words what ++ reason_words why
line_words line.Group = codes "group" ∷ []
line_words (line.Close kept) = codes "close" ∷ kept_word kept ∷ []
line_words (line.Refused why) = codes "refused" ∷ refusal_words why
line_words line.End = codes "end" ∷ []

-- a space in front of each word
abbrev pub spaced : List (List ℕ) → List ℕ
spaced [] = []
spaced (word ∷ words) = 32 ∷ word ++ spaced words

-- a line without its end: one space between its words
abbrev pub body_of : LogLine → List ℕ
body_of l = join_with_byte 32 (line_words l)

-- a line with the LF at its end
abbrev pub text_of_line : LogLine → List ℕ
text_of_line l = body_of l ++ 10 ∷ []

-- fields with one space between them, and LF after them
abbrev pub line_of_fields : List Field → List ℕ
line_of_fields fields = join_with_byte 32 (map word_of fields) ++ 10 ∷ []

-- the line of a mesh
abbrev pub mesh_text : ℕ → ℕ → ℕ → List ℕ
mesh_text k vertices faces = text_of_line (line.Mesh k vertices faces)

-- the line of an edit that is done
abbrev pub done_text : Change → List ℕ
done_text done = text_of_line (line.Did done)

-- the line of a refusal
abbrev pub refused_text : Refusal → List ℕ
refused_text why = text_of_line (line.Refused why)

-- the vertex that is pinched and its copies, each with its point and
-- with a space in front of each word
abbrev pub spaced_pinch : ℕ → Point → List CopyAt → List ℕ
spaced_pinch v at copies = spaced (places_words (record { w = v; at = at } ∷ copies))

-- what was asked and why it isn't done, with a space in front of each word
abbrev pub spaced_refusal : Asked → Why → List ℕ
spaced_refusal what why = spaced (asked_words what ++ reason_words why)

-- lines, one after another
abbrev pub text_of_lines : List LogLine → List ℕ
text_of_lines [] = []
text_of_lines (l ∷ ls) = text_of_line l ++ text_of_lines ls
