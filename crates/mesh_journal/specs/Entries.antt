-- Undo entries, the oldest first, and the meshes to which they lead.
use Rattle.std.specs.Prelude.{◌≡◌, ℕ, ◌-◌, min, Bool, true, false, List, [], ◌∷◌, ⊤, IsSome, is_some}
use Rattle.std.specs.Coded.{×_prop, Unit-prop}
use Rattle.std.specs.FinMap as map
use denote.Struct.Props.{props}
use Rattle.mesh_base.specs.Mesh.{Mesh, IsLiveVertex, is_solid}
use Rattle.mesh_base.specs.Changes.{with_point}
use Rattle.mesh_journal.specs.declared.entries.Entry.{Entry}
use Rattle.mesh_journal.specs.declared.entries.Entry.TheVariants.{FaceMade, VertexMade, FaceDropped}
use Rattle.mesh_journal.specs.declared.entries.Entry.TheVariants.{VertexDropped, VertexPlaced}
use Rattle.mesh_journal.specs.declared.entries.Entry.TheVariants.{VertexMadeSolid, Unchanged}
use Rattle.half_mesh.specs.States.{State, with_mesh, without_solid, raise_face, raise_vertex, unmake_face}
use Rattle.half_mesh.specs.States.{unmake_vertex, CanRaiseFace, CanRaiseVertex, CanUnmakeFace, CanUnmakeVertex}

-- the state before the entry's change
abbrev pub undo : Entry → State → State
undo (FaceMade f) s = unmake_face s f
undo (VertexMade v) s = unmake_vertex s v
undo (FaceDropped f) s = raise_face s f
undo (VertexDropped v) s = raise_vertex s v
undo (VertexPlaced v p) s = with_mesh s (with_point s.mesh v p)
undo (VertexMadeSolid v) s = with_mesh s (without_solid s.mesh v)
undo Unchanged s = s

-- a live vertex that is solid
pub record IsMarked (s : State) (v : ℕ) : Type 0 where
  pub live : IsLiveVertex s.mesh v
  pub solid : is_solid s.mesh v ≡ true

-- the condition of the call that undoes the entry
abbrev pub CanUndo : Entry → State → Type 0
CanUndo (FaceMade f) s = CanUnmakeFace s f
CanUndo (VertexMade v) s = CanUnmakeVertex s v
CanUndo (FaceDropped f) s = CanRaiseFace s f
CanUndo (VertexDropped v) s = CanRaiseVertex s v
CanUndo (VertexPlaced v p) s = IsLiveVertex s.mesh v
CanUndo (VertexMadeSolid v) s = IsMarked s v
CanUndo Unchanged s = ⊤

-- the state before the changes of all the entries
abbrev pub back : List Entry → State → State
back [] s = s
back (e ∷ es) s = undo e (back es s)

-- the meshes at each length of the journal up to the present one
abbrev pub trail : List Entry → State → List Mesh
trail [] s = s.mesh ∷ []
trail (e ∷ es) s = (undo e (back es s)).mesh ∷ trail es s

-- each entry can be undone where the newer ones lead
abbrev pub CanUndoAll : List Entry → State → Type 0
CanUndoAll [] s = ⊤
CanUndoAll (e ∷ es) s = CanUndo e (back es s) × CanUndoAll es s

-- of what is buried, vertices alone are solid
abbrev pub MarksAreBuried : State → Type 0
MarksAreBuried s = (v : ℕ) → is_some (map.get s.buried.solid v) ≡ true
    → IsSome (map.get s.buried.points v)

-- that an entry can be undone is said in one way
pub CanUndo-prop : (e : Entry) (s : State) → IsProp (CanUndo e s)
CanUndo-prop (FaceMade f) s = hlevel props
CanUndo-prop (VertexMade v) s = hlevel props
CanUndo-prop (FaceDropped f) s = hlevel props
CanUndo-prop (VertexDropped v) s = hlevel props
CanUndo-prop (VertexPlaced v p) s = hlevel props
CanUndo-prop (VertexMadeSolid v) s = hlevel props
CanUndo-prop Unchanged s = Unit-prop

-- so it is of several
pub CanUndoAll-prop : (es : List Entry) (s : State) → IsProp (CanUndoAll es s)
CanUndoAll-prop [] s = Unit-prop
CanUndoAll-prop (e ∷ es) s = ×_prop (CanUndo-prop e (back es s)) (CanUndoAll-prop es s)

-- how many changes find memory, for the mesh and for the journal
abbrev pub spare_of : ℕ → ℕ → ℕ → ℕ
spare_of inner capacity len = min inner (capacity - len)

-- the entry of a vertex that is made solid, by whether it was so before
abbrev pub solid_entry : ℕ → Bool → Entry
solid_entry v true = Unchanged
solid_entry v false = VertexMadeSolid v
