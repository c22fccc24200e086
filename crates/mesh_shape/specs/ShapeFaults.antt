-- All that is wrong with lists of points and faces, in the order in which `shape_fault` looks for
-- the first. Faces, corners and vertices are numbered from 1.
use Rattle.std.specs.Prelude.{◌≡◌, slice_get, ℕ, ◌+◌, ◌==◌, Bool, not, List, [], ◌∷◌, ◌++◌, map, length, nat_lt, if◌then◌else◌}
use Rattle.std.specs.List.{filter, position_from}
use Rattle.std.proofs.Common.{Option, Some, None}
use Rattle.mesh_base.specs.declared.ids.Corners.{Corners}
use Rattle.mesh_base.specs.declared.MeshLists.{MeshLists}
use Rattle.mesh_base.specs.declared.faults.ShapeFault.{ShapeFault}
use Rattle.mesh_base.specs.declared.faults.ShapeFault.TheVariants.{TooManyVertices, TooManyFaces, NoVertex, Repeated, Doubled, Unbalanced}
use Rattle.mesh_base.specs.declared.limits.Scale.{Scale}
use Rattle.mesh_base.specs.Limits.{limits_of}
use Rattle.mesh_base.specs.Changes.{corners_of}
use Rattle.mesh_base.specs.Given.{Faces}
use Rattle.mesh_base.specs.Mesh.{equal_up_to_rotation}
use Rattle.mesh_base.specs.Pairs.{id_pairs}
use Rattle.mesh_shape.specs.Shape.{is_vertex, repeats, runs_in, numbers_to, shape_fault}

-- a list of one, or of none
abbrev pub one_if : {A : Type 0} → Bool → A → List A
one_if b x = if b then x ∷ [] else []

-- each corner of face k that is no vertex, of n
abbrev pub no_vertices_in : ℕ → ℕ → Corners → List ShapeFault
no_vertices_in n k c =
    one_if (not (is_vertex n c.first)) (NoVertex k 1)
    ++ one_if (not (is_vertex n c.second)) (NoVertex k 2)
    ++ one_if (not (is_vertex n c.third)) (NoVertex k 3)

-- each corner that is no vertex, face by face from number k
abbrev pub no_vertices_from : ℕ → ℕ → Faces → List ShapeFault
no_vertices_from n k [] = []
no_vertices_from n k (f ∷ fs) = no_vertices_in n k (corners_of f) ++ no_vertices_from n (k + 1) fs

-- each face, from number k, with a corner twice
abbrev pub all_repeated_from : ℕ → Faces → List ShapeFault
all_repeated_from k [] = []
all_repeated_from k (f ∷ fs) =
    one_if (repeats (corners_of f)) (Repeated k) ++ all_repeated_from (k + 1) fs

-- the first face, from number k, that is this one, turned or not
abbrev pub first_equal : ℕ → List ℕ → Faces → Option ℕ
first_equal k f fs = position_from (λ g. equal_up_to_rotation (corners_of f) (corners_of g)) k fs

-- a face with a later one that it equals, if there is one
abbrev pub doubled_by : ℕ → Option ℕ → List ShapeFault
doubled_by k None = []
doubled_by k (Some second) = Doubled k second ∷ []

-- each face, from number k, that a later one equals up to rotation, with the first such
abbrev pub all_doubled_from : ℕ → Faces → List ShapeFault
all_doubled_from k [] = []
all_doubled_from k (f ∷ fs) = doubled_by k (first_equal (k + 1) f fs) ++ all_doubled_from (k + 1) fs

-- each two vertices, of n, the smaller first, between which the faces do not run as
-- often one way as the other, in order
abbrev pub unbalanced_pairs : ℕ → Faces → List (ℕ × ℕ)
unbalanced_pairs n fs =
    filter (λ p. not (runs_in fs p.0 p.1 == runs_in fs p.1 p.0)) (id_pairs (numbers_to n))

-- the fault of such two
abbrev pub unbalanced_fault : ℕ × ℕ → ShapeFault
unbalanced_fault p = Unbalanced p.0 p.1

-- too many vertices, too many faces for a scale
abbrev pub limit_faults : Scale → ℕ → ℕ → List ShapeFault
limit_faults scale n count =
    one_if (nat_lt (limits_of scale).vertices n) (TooManyVertices n)
    ++ one_if (nat_lt (limits_of scale).faces count) (TooManyFaces count)

-- all faults, of n points and these faces, at a scale
abbrev pub shape_faults : Scale → ℕ → Faces → List ShapeFault
shape_faults scale n fs =
    limit_faults scale n (length fs)
    ++ no_vertices_from n 1 fs
    ++ all_repeated_from 1 fs
    ++ all_doubled_from 1 fs
    ++ map unbalanced_fault (unbalanced_pairs n fs)

-- all faults of lists
abbrev pub faults_of : Scale → MeshLists → List ShapeFault
faults_of scale lists = shape_faults scale (length lists.points) lists.faces

-- the first of them is the one that a test for one finds
abbrev pub FirstIsShapeFault : Scale → MeshLists → Type 0
FirstIsShapeFault scale lists =
    slice_get (faults_of scale lists) 0 ≡ shape_fault scale (length lists.points) lists.faces
