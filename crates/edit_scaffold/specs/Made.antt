-- What is made of the scaffold of a done edit.
use Rattle.std.specs.Prelude.{◌≡◌, ⊤, ℕ, List, [], IsNone, Result, Ok, Err}
use Rattle.std.proofs.Common.{Option, Some, None}
use Rattle.in_out.specs.InOut.{InOut, value_before, value_after}
use Rattle.grid_base.specs.declared.NoMemory.{NoMemory}
use Rattle.grid_decided.specs.Decided.{meets_exactly}
use Rattle.mesh_base.specs.Mesh.{Mesh}
use Rattle.mesh_plain.specs.Plain.{mesh_in, kept_in}
use Rattle.edit_base.specs.declared.Asked.{Asked}
use Rattle.edit_base.specs.declared.Change.{Change}
use Rattle.edit_base.specs.declared.Edit.TheVariants.{Done}
use Rattle.edit_base.specs.declared.Move.{Move}
use Rattle.edit_base.specs.declared.Touch.{Touch}
use Rattle.edit_base.specs.declared.Touch.TheVariants.{Never, Start, End}
use Rattle.edit_base.specs.Scaffold as edits
use Rattle.motion_proof.specs.declared.Claim.{Claim}
use Rattle.motion_proof.specs.declared.Claim.TheVariants.{Along, After, Before}
use Rattle.edit_any.specs.Dispatch.{answer_to, scaffold_of}
use Rattle.edit_scaffold.specs.declared.scaffold.Scaffold.{Scaffold}
use Rattle.edit_scaffold.specs.declared.scaffold.MarkedMotion.{MarkedMotion}

-- the change is what some edit of the mesh does, tested to some depth
pub record IsDone (m : Mesh) (change : Change) : Type 0 where
  pub what : Asked
  pub depth : ℕ
  pub answer : answer_to meets_exactly m depth what ≡ Done change

-- When no pair meets, by when two of the vertices that move may touch: at each fraction where they
-- never do, at each above zero where they begin so, and at each below one where they end so.
abbrev pub claim_of : Touch → Claim
claim_of Never = Along
claim_of Start = After
claim_of End = Before

-- these are the mesh and the ways of a scaffold, and the claim for its touch
pub record ArePartsOf (s : edits.Scaffold) (m : Mesh) (moves : List Move)
    (when : Claim) : Type 0 where
  pub mesh : m ≡ s.mesh
  pub ways : moves ≡ s.moves
  pub claim : when ≡ claim_of s.touch

-- there is a scaffold, and these are its
abbrev pub IsTestedOn : Option edits.Scaffold → Mesh → List Move → Claim → Type 0
IsTestedOn None m moves when = ⊥
IsTestedOn (Some s) m moves when = ArePartsOf s m moves when

-- what is made is of the edit's scaffold, where that has one
abbrev pub IsMade : Option edits.Scaffold → Option Scaffold → Type 0
IsMade scaffold None = IsNone scaffold
IsMade scaffold (Some made) = IsTestedOn scaffold (mesh_in made.mesh) made.ways made.claim

-- the mesh that is made, where one is, keeps no mesh
abbrev pub HasNothingKept : Option Scaffold → Type 0
HasNothingKept None = ⊤
HasNothingKept (Some made) = kept_in made.mesh ≡ []

-- the mesh before is made that of the edit's scaffold, where that has one, and else it stays
abbrev pub IsLaid : Option edits.Scaffold → Mesh → Mesh → Option MarkedMotion → Type 0
IsLaid scaffold before now None = IsNone scaffold × (now ≡ before)
IsLaid scaffold before now (Some laid) = IsTestedOn scaffold now laid.ways laid.claim

-- By the call the surface became the mesh on which the change is tested, and these are its ways and
-- claim; where the change is tested on none, the surface stayed.
abbrev pub IsLaidFor : {S : Type 0} → (S → Mesh) → InOut S → Change → Option MarkedMotion → Type 0
IsLaidFor mesh surface change laid =
    let before = mesh (value_before surface) in
    IsLaid (scaffold_of before change) before (mesh (value_after surface)) laid

-- of what is laid, where something is
abbrev pub OnLaid : Result (Option MarkedMotion) NoMemory → (MarkedMotion → Type 0) → Type 0
OnLaid (Ok (Some laid)) P = P laid
OnLaid (Ok None) P = ⊤
OnLaid (Err fault) P = ⊤

-- unless something is laid, the kept meshes are those before
abbrev pub KeepsUnlessLaid : Result (Option MarkedMotion) NoMemory → List Mesh → List Mesh → Type 0
KeepsUnlessLaid (Ok (Some laid)) new old = ⊤
KeepsUnlessLaid (Ok None) new old = new ≡ old
KeepsUnlessLaid (Err fault) new old = new ≡ old
