-- When the values of a line are in their ranges, and that a line is read exactly from its spelling.
use Rattle.std.specs.Prelude.{◌≡◌, ◌↔◌, ℕ, Bool, false, ◌+◌, ◌-◌, ◌<◌, ◌≤◌, ◌^◌, List, [], ◌∷◌, length, Ok, All, true}
use Rattle.grid_base.specs.declared.TheConstants.{ID_MAX, HALVINGS_MAX, LENGTH_MAX}
use Rattle.edit_base.specs.declared.Asked.{Asked}
use Rattle.edit_base.specs.declared.Asked.TheVariants as asked
use Rattle.edit_base.specs.declared.Change.{Change}
use Rattle.edit_base.specs.declared.Change.TheVariants as change
use Rattle.edit_base.specs.declared.PassKind.{PassKind}
use Rattle.edit_base.specs.declared.PassKind.TheVariants as pass
use Rattle.edit_base.specs.declared.Why.{Why}
use Rattle.edit_base.specs.declared.Why.TheVariants as reason
use Rattle.line_text.specs.declared.TextWhy.{TextWhy}
use Rattle.line_text.specs.declared.TextWhy.TheVariants as why
use Rattle.mesh_base.specs.declared.FileWord.{FileWord}
use Rattle.mesh_base.specs.declared.FileWord.TheVariants as file
use Rattle.mesh_base.specs.declared.How.{How}
use Rattle.mesh_base.specs.declared.How.TheVariants.{Whole, Impulse, Zones, Halved, Zero}
use Rattle.mesh_base.specs.declared.PairName.{PairName}
use Rattle.mesh_base.specs.declared.Scale.{Scale}
use Rattle.mesh_base.specs.declared.ShapeFault.{ShapeFault}
use Rattle.mesh_base.specs.declared.ShapeFault.TheVariants as shape
use Rattle.mesh_base.specs.declared.UseWhy.{UseWhy}
use Rattle.mesh_base.specs.declared.UseWhy.TheVariants as using
use Rattle.mesh_base.specs.Limits.{limits_of}
use Rattle.log_text.specs.declared.TheConstants.{COUNT_MAX, SEEN_MAX, CORNER_MAX, PASSES_MAX, TURN_MAX, VERSION, IDS_VERSION}
use Rattle.log_text.specs.declared.LogLine.{LogLine}
use Rattle.log_text.specs.declared.LogLine.TheVariants as line
use Rattle.log_text.specs.declared.NewIds.{NewIds}
use Rattle.log_text.specs.declared.Refusal.{Refusal}
use Rattle.log_text.specs.declared.Refusal.TheVariants as refusal
use Rattle.log_text.specs.Lines.{body_of, text_of_lines}
use Rattle.line_text.specs.Spellings.{spaced_words}
use Rattle.log_read.specs.Values.{is_later}
use Rattle.log_read.specs.Reading.{rounds_most, line_of, version_of, log_of}

-- from low to high
abbrev pub IsFrom : ℕ → ℕ → ℕ → Type 0
IsFrom low high n = (low ≤ n) × (n ≤ high)

-- ids from 1 up to the greatest, and the smaller end first
pub record IsPairInRange (p : PairName) : Type 0 where
  pub a : IsFrom 1 ID_MAX p.a
  pub b : IsFrom 1 ID_MAX p.b
  pub face : IsFrom 1 ID_MAX p.face
  pub rising : p.a < p.b

-- the number of passes, rounds or halvings
abbrev pub IsHowInRange : Scale → How → Type 0
IsHowInRange scale Whole = Unit {0}
IsHowInRange scale (Impulse passes) = IsFrom 1 PASSES_MAX passes
IsHowInRange scale (Zones rounds) = IsFrom 1 (rounds_most scale) rounds
IsHowInRange scale (Halved times) = IsFrom 1 HALVINGS_MAX times
IsHowInRange scale Zero = Unit {0}

-- counts of what there is too much of, and the numbers of faces, corners and vertices from 1
abbrev pub IsShapeInRange : ShapeFault → Type 0
IsShapeInRange (shape.TooManyVertices count) = count ≤ SEEN_MAX
IsShapeInRange (shape.TooManyFaces count) = count ≤ SEEN_MAX
IsShapeInRange (shape.NoVertex face corner) = IsFrom 1 COUNT_MAX face × IsFrom 1 CORNER_MAX corner
IsShapeInRange (shape.Repeated face) = IsFrom 1 COUNT_MAX face
IsShapeInRange (shape.Doubled first second) = IsFrom 1 COUNT_MAX first × IsFrom 1 COUNT_MAX second
IsShapeInRange (shape.Unbalanced from to) = IsFrom 1 COUNT_MAX from × IsFrom 1 COUNT_MAX to

-- the id of a vertex, if there is one
abbrev pub IsUseInRange : UseWhy → Type 0
IsUseInRange (using.NoVertex v) = IsFrom 1 ID_MAX v
IsUseInRange (using.ShiftRange v) = IsFrom 1 ID_MAX v
IsUseInRange (using.Box v) = IsFrom 1 ID_MAX v
IsUseInRange using.NoField = Unit {0}
IsUseInRange (using.Solid v) = IsFrom 1 ID_MAX v

-- Nesting is a reason of a text with groups alone, and Order of no text that a log tells of.
abbrev pub IsWhyOf : Bool → TextWhy → Type 0
IsWhyOf groups why.Number = Unit {0}
IsWhyOf groups why.Corner = Unit {0}
IsWhyOf groups why.Range = Unit {0}
IsWhyOf groups why.Short = Unit {0}
IsWhyOf groups why.Long = Unit {0}
IsWhyOf groups why.Unknown = Unit {0}
IsWhyOf groups why.Continuation = Unit {0}
IsWhyOf groups why.Nesting = groups ≡ true
IsWhyOf groups why.Order = ⊥

-- the numbers of a refusal; no groups are in a mesh file
abbrev pub IsRefusalInRange : Refusal → Type 0
IsRefusalInRange (refusal.Long name seen) = seen ≤ SEEN_MAX
IsRefusalInRange (refusal.Missing name) = Unit {0}
IsRefusalInRange (refusal.Mesh fault) = IsFrom 1 COUNT_MAX fault.line × IsWhyOf false fault.why
IsRefusalInRange (refusal.Shape fault) = IsShapeInRange fault
IsRefusalInRange (refusal.Meets pair) = IsPairInRange pair
IsRefusalInRange (refusal.Steps fault) = IsFrom 1 COUNT_MAX fault.line × IsWhyOf true fault.why
IsRefusalInRange (refusal.StepUse at why) = IsFrom 1 COUNT_MAX at × IsUseInRange why

-- ids up to the greatest: the smaller end from 1 on, and the larger above it
abbrev pub IsEdgeInRange : ℕ → ℕ → Type 0
IsEdgeInRange a b = IsFrom 1 ID_MAX a × IsFrom (a + 1) ID_MAX b

-- ids from low up to the most, each above the one before
abbrev pub AreRisingTo : ℕ → ℕ → List ℕ → Type 0
AreRisingTo most low [] = Unit {0}
AreRisingTo most low (v ∷ vs) = IsFrom low most v × AreRisingTo most (v + 1) vs

-- the same up to the greatest that there is
abbrev pub AreRising : ℕ → List ℕ → Type 0
AreRising low ids = AreRisingTo ID_MAX low ids

-- ids below the next one, which is at most one above the greatest
pub record AreNewIds (new : NewIds) : Type 0 where
  pub next : IsFrom 1 (ID_MAX + 1) new.next
  pub ids : AreRisingTo (new.next - 1) 1 new.ids

-- the length that a pass goes by
abbrev pub IsPassInRange : PassKind → Type 0
IsPassInRange (pass.Split over) = over ≤ LENGTH_MAX
IsPassInRange (pass.Collapse under) = under ≤ LENGTH_MAX
IsPassInRange pass.Flip = Unit {0}
IsPassInRange (pass.Zip within) = within ≤ LENGTH_MAX
IsPassInRange pass.Pinch = Unit {0}

-- Points are in the box by their type.
abbrev pub IsChangeInRange : Change → Type 0
IsChangeInRange (change.Split a b w at) = IsEdgeInRange a b × IsFrom 1 ID_MAX w
IsChangeInRange (change.Flip a b) = IsEdgeInRange a b
IsChangeInRange (change.Collapse a b at) = IsEdgeInRange a b
IsChangeInRange (change.Zip a b e f turn) =
    IsEdgeInRange a b × IsEdgeInRange e f × (turn ≤ TURN_MAX)
IsChangeInRange (change.Pinch v at copies) =
    IsFrom 1 ID_MAX v × (0 < length copies) × All (λ c. IsFrom 1 ID_MAX c.w) copies

-- the ids of what was asked
abbrev pub IsAskedInRange : Asked → Type 0
IsAskedInRange (asked.Split a b) = IsEdgeInRange a b
IsAskedInRange (asked.Flip a b) = IsEdgeInRange a b
IsAskedInRange (asked.Collapse a b) = IsEdgeInRange a b
IsAskedInRange (asked.Zip a b e f) = IsEdgeInRange a b × IsEdgeInRange e f
IsAskedInRange (asked.Pinch v) = IsFrom 1 ID_MAX v

-- the pair that was hit
abbrev pub IsReasonInRange : Why → Type 0
IsReasonInRange (reason.Hit pair) = IsPairInRange pair
IsReasonInRange _ = Unit {0}

-- the values of a line are in their ranges, where those of a mesh and of rounds go by a scale
abbrev pub IsInRange : Scale → LogLine → Type 0
IsInRange scale (line.First version) = Unit {0}
IsInRange scale (line.Mesh k vertices faces) =
    (k ≤ COUNT_MAX) × (vertices ≤ (limits_of scale).vertices) × (faces ≤ (limits_of scale).faces)
IsInRange scale (line.Step k) = IsFrom 1 COUNT_MAX k
IsInRange scale (line.Vertices new) = AreNewIds new
IsInRange scale (line.Faces new) = AreNewIds new
IsInRange scale (line.Solid v) = IsFrom 1 ID_MAX v
IsInRange scale (line.Hit pair) = IsPairInRange pair
IsInRange scale (line.Block ids) = (2 ≤ length ids) × AreRising 1 ids
IsInRange scale (line.Move s) = IsFrom 1 ID_MAX s.v
IsInRange scale (line.Moved how) = IsHowInRange scale how
IsInRange scale (line.Pass kind) = IsPassInRange kind
IsInRange scale line.PassFit = Unit {0}
IsInRange scale (line.Did done) = IsChangeInRange done
IsInRange scale (line.No what why) = IsAskedInRange what × IsReasonInRange why
IsInRange scale line.Group = Unit {0}
IsInRange scale (line.Close kept) = Unit {0}
IsInRange scale (line.Refused why) = IsRefusalInRange why
IsInRange scale line.End = Unit {0}

-- ---- versions

-- no reason in the old version names a solid vertex
abbrev pub IsReasonOfVersion : ℕ → Why → Type 0
IsReasonOfVersion version reason.Solid = is_later version ≡ true
IsReasonOfVersion version _ = Unit {0}

-- no refused directive in the old version names a solid vertex
abbrev pub IsUseOfVersion : ℕ → UseWhy → Type 0
IsUseOfVersion version (using.Solid v) = is_later version ≡ true
IsUseOfVersion version _ = Unit {0}

-- no file that the old version tells of is a log or a proof
abbrev pub IsFileOfVersion : ℕ → FileWord → Type 0
IsFileOfVersion version file.Mesh = Unit {0}
IsFileOfVersion version file.Steps = Unit {0}
IsFileOfVersion version file.Log = is_later version ≡ true
IsFileOfVersion version file.Proof = is_later version ≡ true

-- no refusal in the old version tells of groups, solid vertices, logs or proofs
abbrev pub IsRefusalOfVersion : ℕ → Refusal → Type 0
IsRefusalOfVersion version (refusal.Long name seen) = IsFileOfVersion version name
IsRefusalOfVersion version (refusal.Missing name) = IsFileOfVersion version name
IsRefusalOfVersion version (refusal.Mesh fault) = Unit {0}
IsRefusalOfVersion version (refusal.Shape fault) = Unit {0}
IsRefusalOfVersion version (refusal.Meets pair) = Unit {0}
IsRefusalOfVersion version (refusal.Steps fault) = IsWhyOf (is_later version) fault.why
IsRefusalOfVersion version (refusal.StepUse at why) = IsUseOfVersion version why

-- The line is one of this version's lines: a first line names the version, none but the old one tells
-- of no solid vertices, passes by the sizing, groups, logs and proofs, and one alone of which ids
-- vertices and faces have.
abbrev pub IsOfVersion : ℕ → LogLine → Type 0
IsOfVersion version (line.First v) = v ≡ version
IsOfVersion version (line.Vertices new) = version ≡ IDS_VERSION
IsOfVersion version (line.Faces new) = version ≡ IDS_VERSION
IsOfVersion version (line.Solid v) = is_later version ≡ true
IsOfVersion version line.PassFit = is_later version ≡ true
IsOfVersion version line.Group = is_later version ≡ true
IsOfVersion version (line.Close kept) = is_later version ≡ true
IsOfVersion version (line.No what why) = IsReasonOfVersion version why
IsOfVersion version (line.Refused why) = IsRefusalOfVersion version why
IsOfVersion version _ = Unit {0}

-- the line names no other version than this one, and is none of another alone
abbrev pub NamesOnly : ℕ → LogLine → Type 0
NamesOnly version (line.First v) = v ≡ version
NamesOnly version (line.Vertices new) = version ≡ IDS_VERSION
NamesOnly version (line.Faces new) = version ≡ IDS_VERSION
NamesOnly version _ = Unit {0}

-- the same of the one that is written
abbrev pub NamesNoOther : LogLine → Type 0
NamesNoOther l = NamesOnly VERSION l

-- the line is in range, and one of this version's lines
abbrev pub IsLineOf : Scale → ℕ → LogLine → Type 0
IsLineOf scale version l = IsInRange scale l × IsOfVersion version l

-- ---- laws

-- bytes are read as a line exactly where they are its body and it is in range
abbrev pub LinesAreTheirSpellings : Type 0
LinesAreTheirSpellings = (scale : Scale) (version : ℕ) → version < 2 ^ 8 →
    (body : List ℕ) (l : LogLine) →
    (line_of scale version true (spaced_words body) ≡ Ok l)
    ↔ (IsInRange scale l × IsOfVersion version l × (body_of l ≡ body))

-- no body has LF in it
abbrev pub BodiesHaveNoEnd : Type 0
BodiesHaveNoEnd = (scale : Scale) (version : ℕ) → version < 2 ^ 8 → (l : LogLine) →
    IsInRange scale l → IsOfVersion version l → All (λ b. ¬ (b ≡ 10)) (body_of l)

-- A text is read as lines exactly where it is their text, and each is in range and of the
-- version that the first line names.
abbrev pub LogsAreTheirLines : Type 0
LogsAreTheirLines = (scale : Scale) (bytes : List ℕ) (ls : List LogLine) →
    (log_of scale bytes ≡ Ok ls)
    ↔ (All (IsLineOf scale (version_of bytes)) ls × (text_of_lines ls ≡ bytes))

-- The text of a log whose first line names the version that is written is read as the log's lines,
-- where each further one is in range and names no other version.
abbrev pub WrittenLogsAreRead : Type 0
WrittenLogsAreRead = (scale : Scale) (ls : List LogLine) →
    All (λ l. IsInRange scale l × NamesNoOther l) ls →
    log_of scale (text_of_lines (line.First VERSION ∷ ls)) ≡ Ok (line.First VERSION ∷ ls)

-- So is that of a log whose first line names the version that tells which ids there are.
abbrev pub NumberedLogsAreRead : Type 0
NumberedLogsAreRead = (scale : Scale) (ls : List LogLine) →
    All (λ l. IsInRange scale l × NamesOnly IDS_VERSION l) ls →
    log_of scale (text_of_lines (line.First IDS_VERSION ∷ ls)) ≡ Ok (line.First IDS_VERSION ∷ ls)
