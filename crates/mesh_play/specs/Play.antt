-- What a list of calls answers, whichever way the mesh is kept.
use Rattle.std.specs.Prelude.{⊤, ◌≡◌, ◌⊎◌, ℕ, ◌+◌, ◌<◌, ◌==◌, ◌||◌, Bool, if◌then◌else◌, List, []}
use Rattle.std.specs.Prelude.{◌∷◌, ◌++◌, map, take, length, slice_get, slice_index_or, Some, Vec}
use Rattle.std.specs.Option.{unwrap_or, option_map}
use Rattle.std.specs.FinMap as finite
use Rattle.std.specs.declared.alloc.Global.{Global}
use Rattle.in_out.specs.InOut.{InOut, value_before, value_after}
use Rattle.grid_base.specs.declared.TheConstants.{ID_MAX}
use Rattle.grid_base.specs.declared.Point.{Point}
use Rattle.mesh_base.specs.declared.marks.Mark.{Mark}
use Rattle.mesh_base.specs.Mesh.{Mesh, IsLiveVertex, IsLiveFace, is_solid}
use Rattle.mesh_base.specs.Sides.{above, runs, faces_running, faces_at}
use Rattle.mesh_base.specs.Near.{faces_near}
use Rattle.mesh_base.specs.Changes.{corners_of, corner_list, with_vertex, with_face, without_face}
use Rattle.mesh_base.specs.Changes.{without_vertex, with_point, with_solid, IsFresh}
use Rattle.mesh_base.specs.Given.{empty_mesh}
use Rattle.mesh_base.specs.Kept.{MarkHolds}
use Rattle.mesh_play.specs.declared.calls.Call.{Call}
use Rattle.mesh_play.specs.declared.calls.Call.TheVariants.{Ask, Make, Index, MakeMark, BackTo, Settle}
use Rattle.mesh_play.specs.declared.calls.Question.{Question}
use Rattle.mesh_play.specs.declared.calls.Question.TheVariants.{CountVertices, CountFaces, NextVertex}
use Rattle.mesh_play.specs.declared.calls.Question.TheVariants.{NextFace, VertexAfter, FaceAfter}
use Rattle.mesh_play.specs.declared.calls.Question.TheVariants.{PointOf, IsSolid, CornersOf, CountRuns}
use Rattle.mesh_play.specs.declared.calls.Question.TheVariants.{RunFace, FacesAt, FacesNear}
use Rattle.mesh_play.specs.declared.calls.Act.{Act}
use Rattle.mesh_play.specs.declared.calls.Act.TheVariants.{AddVertex, AddFace, DropFace, DropVertex, Place, MakeSolid}
use Rattle.mesh_play.specs.declared.calls.Answer.{Answer}
use Rattle.mesh_play.specs.declared.calls.Answer.TheVariants.{Done, Full, Number, VertexFound}
use Rattle.mesh_play.specs.declared.calls.Answer.TheVariants.{FaceFound, PointFound, Truth, CornersFound}
use Rattle.mesh_play.specs.declared.calls.Answer.TheVariants.{FacesFound, VertexMade, FaceMade}

-- the mesh, and the meshes of the marks that were made and not taken back, the oldest first
pub record PlayState : Type 0 where
  pub mesh : Mesh
  pub marked : List Mesh

-- a mesh of which no mark was made
abbrev pub start_of : Mesh → PlayState
start_of m = record { mesh = m; marked = [] }

-- the mesh for which a mark stands that holds
abbrev pub mesh_at_mark : List Mesh → Mark → Mesh
mesh_at_mark kept mark = unwrap_or (slice_get kept mark.place) empty_mesh

-- the mesh of each mark
abbrev pub meshes_at_marks : List Mesh → List Mark → List Mesh
meshes_at_marks kept marks = map (λ mark. mesh_at_mark kept mark) marks

-- a surface and marks of it: its mesh, and the meshes for which the marks stand
abbrev pub play_state : {X : Type 0} → (X → Mesh) → (X → List Mesh) → X → List Mark → PlayState
play_state mesh kept surface marks =
    record { mesh = mesh surface; marked = meshes_at_marks (kept surface) marks }

-- whether no vertex can be made
abbrev pub full_of_vertices : Mesh → Bool
full_of_vertices m = (finite.len m.points == m.limits.vertices) || (m.next_vertex == (ID_MAX + 1))

-- whether no face can be made
abbrev pub full_of_faces : Mesh → Bool
full_of_faces m = (finite.len m.faces == m.limits.faces) || (m.next_face == (ID_MAX + 1))

-- a vertex more, where one can be made
abbrev pub more_vertex : Mesh → Point → Mesh
more_vertex m p = if full_of_vertices m then m else with_vertex m p

-- a face more, where one can be made
abbrev pub more_face : Mesh → List ℕ → Mesh
more_face m c = if full_of_faces m then m else with_face m (corners_of c)

-- what is answered to that
abbrev pub vertex_answer : Mesh → Answer
vertex_answer m = if full_of_vertices m then Full else VertexMade m.next_vertex

-- and to a call that makes a face
abbrev pub face_answer : Mesh → Answer
face_answer m = if full_of_faces m then Full else FaceMade m.next_face

-- faces, as an answer
abbrev pub faces_answer : List ℕ → Answer
faces_answer faces = FacesFound faces

-- the answer to a question
abbrev pub question_answer : Mesh → Question → Answer
question_answer m CountVertices = Number (finite.len m.points)
question_answer m CountFaces = Number (finite.len m.faces)
question_answer m NextVertex = Number m.next_vertex
question_answer m NextFace = Number m.next_face
question_answer m (VertexAfter v) = VertexFound (slice_get (above v (finite.keys m.points)) 0)
question_answer m (FaceAfter f) = FaceFound (slice_get (above f (finite.keys m.faces)) 0)
question_answer m (PointOf v) = PointFound (finite.get m.points v)
question_answer m (IsSolid v) = Truth (is_solid m v)
question_answer m (CornersOf f) = CornersFound (option_map corner_list (finite.get m.faces f))
question_answer m (CountRuns u v) = Number (runs m u v)
question_answer m (RunFace u v nth) = FaceFound (slice_get (faces_running m u v) nth)
question_answer m (FacesAt v) = faces_answer (faces_at m v)
question_answer m (FacesNear at) = faces_answer (faces_near m at)

-- what an act makes of the mesh
abbrev pub mesh_after_act : Mesh → Act → Mesh
mesh_after_act m (AddVertex p) = more_vertex m p
mesh_after_act m (AddFace c) = more_face m c
mesh_after_act m (DropFace f) = without_face m f
mesh_after_act m (DropVertex v) = without_vertex m v
mesh_after_act m (Place v p) = with_point m v p
mesh_after_act m (MakeSolid v) = with_solid m v

-- what it answers
abbrev pub act_answer : Mesh → Act → Answer
act_answer m (AddVertex p) = vertex_answer m
act_answer m (AddFace c) = face_answer m
act_answer m (DropFace f) = Done
act_answer m (DropVertex v) = Done
act_answer m (Place v p) = Done
act_answer m (MakeSolid v) = Done

-- the vertex may be dropped
pub record IsBareVertex (m : Mesh) (v : ℕ) : Type 0 where
  pub live : IsLiveVertex m v
  pub bare : faces_at m v ≡ []

-- the act meets its condition
abbrev pub IsAllowed : Mesh → Act → Type 0
IsAllowed m (AddVertex p) = ⊤
IsAllowed m (AddFace c) = IsFresh m (corners_of c)
IsAllowed m (DropFace f) = IsLiveFace m f
IsAllowed m (DropVertex v) = IsBareVertex m v
IsAllowed m (Place v p) = IsLiveVertex m v
IsAllowed m (MakeSolid v) = IsLiveVertex m v

-- what a call leaves. A return goes to the mesh of its mark, and takes back that mark and those
-- made after it; giving up what is kept takes back all
abbrev pub after : PlayState → Call → PlayState
after s (Ask question) = s
after s (Make act) = record s { mesh = mesh_after_act s.mesh act }
after s Index = s
after s MakeMark = record s { marked = s.marked ++ s.mesh ∷ [] }
after s (BackTo nth) =
    record { mesh = slice_index_or s.marked nth s.mesh; marked = take nth s.marked }
after s Settle = record s { marked = [] }

-- what it answers
abbrev pub answer_of : PlayState → Call → Answer
answer_of s (Ask question) = question_answer s.mesh question
answer_of s (Make act) = act_answer s.mesh act
answer_of s Index = Done
answer_of s MakeMark = Done
answer_of s (BackTo nth) = Done
answer_of s Settle = Done

-- the call meets its condition
abbrev pub IsLawful : PlayState → Call → Type 0
IsLawful s (Ask question) = ⊤
IsLawful s (Make act) = IsAllowed s.mesh act
IsLawful s Index = ⊤
IsLawful s MakeMark = ⊤
IsLawful s (BackTo nth) = nth < length s.marked
IsLawful s Settle = ⊤

-- each call meets its condition when its turn comes
abbrev pub AreLawful : PlayState → List Call → Type 0
AreLawful s [] = ⊤
AreLawful s (call ∷ calls) = IsLawful s call × AreLawful (after s call) calls

-- what calls answer, in order
abbrev pub answers_of : PlayState → List Call → List Answer
answers_of s [] = []
answers_of s (call ∷ calls) = answer_of s call ∷ answers_of (after s call) calls

-- what they leave
abbrev pub after_all : PlayState → List Call → PlayState
after_all s [] = s
after_all s (call ∷ calls) = after_all (after s call) calls

-- what calls answer, made of a mesh of which no mark was made
abbrev pub answers_in : Mesh → List Call → List Answer
answers_in m calls = answers_of (start_of m) calls

-- the mesh that they leave
abbrev pub mesh_after : Mesh → List Call → Mesh
mesh_after m calls = (after_all (start_of m) calls).mesh

-- so many of the calls were made of the mesh and no more, since memory was wanting for
-- the next one; they left the other mesh
pub record IsStopped (m : Mesh) (calls : List Call) (left : Mesh) : Type 0 where
  pub made : ℕ
  pub next : made < length calls
  pub mesh : left ≡ mesh_after m (take made calls)

-- the calls are made of two surfaces that have one mesh before, seen by their meshes, the one first:
-- those of the one were stopped, and none was made of the other; or the one has made all, and those
-- of the other were stopped
abbrev pub IsEitherStopped : {X Y : Type 0} → (X → Mesh) → (Y → Mesh) → InOut X → InOut Y →
    List Call → Type 0
IsEitherStopped of_one of_other one other calls =
    (IsStopped (of_one (value_before one)) calls (of_one (value_after one))
    × (of_other (value_after other) ≡ of_one (value_before one)))
    ⊎ ((of_one (value_after one) ≡ mesh_after (of_one (value_before one)) calls)
    × IsStopped (of_one (value_before one)) calls (of_other (value_after other)))

-- a surface, by its mesh and by what it keeps, is as before
abbrev pub IsUnchanged : {X : Type 0} → (X → Mesh) → (X → List Mesh) → InOut X → Type 0
IsUnchanged mesh kept surface =
    (mesh (value_after surface) ≡ mesh (value_before surface))
    × (kept (value_after surface) ≡ kept (value_before surface))

-- a surface and marks of it before a call
abbrev pub state_before : {X : Type 0} → (X → Mesh) → (X → List Mesh) → InOut X →
    InOut (Vec Mark Global) → PlayState
state_before mesh kept surface marks =
    play_state mesh kept (value_before surface) (value_before marks).items

-- and after it
abbrev pub state_after : {X : Type 0} → (X → Mesh) → (X → List Mesh) → InOut X →
    InOut (Vec Mark Global) → PlayState
state_after mesh kept surface marks =
    play_state mesh kept (value_after surface) (value_after marks).items

-- it is what the call answers
abbrev pub IsAnswer : {X : Type 0} → (X → Mesh) → (X → List Mesh) → InOut X →
    InOut (Vec Mark Global) → Call → Answer → Type 0
IsAnswer mesh kept surface marks call answer =
    answer ≡ answer_of (state_before mesh kept surface marks) call

-- the surface and the marks are as the call leaves them
abbrev pub IsDone : {X : Type 0} → (X → Mesh) → (X → List Mesh) → InOut X →
    InOut (Vec Mark Global) → Call → Type 0
IsDone mesh kept surface marks call =
    state_after mesh kept surface marks ≡ after (state_before mesh kept surface marks) call

-- the marks hold, and each leaves those before it
pub record AreMarks (beyond : ℕ) (kept : List Mesh) (marks : List Mark) : Type 0 where
  pub hold : (i : ℕ) (m : Mark) → slice_get marks i ≡ Some m → MarkHolds beyond kept m
  pub nested : (i j : ℕ) (m n : Mark) → i < j → slice_get marks i ≡ Some m
      → slice_get marks j ≡ Some n
      → m.place < n.under
