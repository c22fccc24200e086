-- What the call of an edit promises. `result` says what a done edit makes of a mesh, and
-- `scaffold` on what it was tested.
use Rattle.std.specs.Prelude.{⊤, ◌≡◌, ℕ, IfSome, IfOk, IfErr, List, Option, Result, Ok, Err}
use Rattle.grid_base.specs.declared.NoMemory.{NoMemory}
use Rattle.edit_base.specs.declared.answers.Change.{Change}
use Rattle.edit_base.specs.declared.answers.Why.{Why}
use Rattle.edit_base.specs.declared.answers.Edit.{Edit}
use Rattle.edit_base.specs.declared.answers.Edit.TheVariants.{Done, No}
use Rattle.mesh_base.specs.Mesh.{Mesh}
use Rattle.mesh_base.specs.Sides.{IsClosed}
use Rattle.edit_base.specs.Scaffold.{Scaffold, motion_of, IsClearBut}

-- where the answer is Ok, its value is this one
abbrev pub OnOkIs : {A E : Type 0} → Result A E → A → Type 0
OnOkIs result value = IfOk result (λ found. found ≡ value)

-- where the answer is a reason, the edit is refused for it, to whatever depth it is tested
abbrev pub OnErrRefuses : {A : Type 0} → Result A Why → (ℕ → Edit) → Type 0
OnErrRefuses result answer = IfErr result (λ why. (depth : ℕ) → No why ≡ answer depth)

-- the mesh that an answer leaves
abbrev pub mesh_after : (Mesh → Change → Mesh) → Mesh → Edit → Mesh
mesh_after result m (Done change) = result m change
mesh_after result m (No why) = m

-- the mesh that a call leaves: what the answer says, and where memory was out the same mesh
abbrev pub mesh_after_call : (Mesh → Change → Mesh) → Mesh → Result Edit NoMemory → Mesh
mesh_after_call result m (Ok edit) = mesh_after result m edit
mesh_after_call result m (Err fault) = m

-- after No and where memory was out the kept meshes are those before the call
abbrev pub KeepsOnNo : Result Edit NoMemory → List Mesh → List Mesh → Type 0
KeepsOnNo (Ok (Done change)) new old = ⊤
KeepsOnNo (Ok (No why)) new old = new ≡ old
KeepsOnNo (Err fault) new old = new ≡ old

-- The motion of a done edit, where it has one: its scaffold is closed, and clear at each fraction,
-- but the start or the end where two may touch there.
abbrev pub MovesClear : (Mesh → Change → Option Scaffold) → Mesh → Change → Type 0
MovesClear scaffold m change =
    IfSome (scaffold m change) (λ s. IsClosed s.mesh × IsClearBut s.touch s.mesh (motion_of s))

-- the same of an answer; one that does nothing promises nothing
abbrev pub MovesClearOnDone : (Mesh → Change → Option Scaffold) → Mesh → Edit → Type 0
MovesClearOnDone scaffold m (Done change) = MovesClear scaffold m change
MovesClearOnDone scaffold m (No why) = ⊤
