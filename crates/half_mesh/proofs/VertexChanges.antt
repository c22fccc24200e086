-- The mesh of fans as one vertex is made, changed or dropped.
use Rattle.std.proofs.Common.{◌≡◌, ℕ, true, false, Some, None, refl, sym, ap, ◌∙◌}
use Rattle.std.specs.Option.{option_map}
use Rattle.std.specs.FinMap as finite
use Rattle.grid_base.specs.declared.Point.{Point}
use Rattle.mesh_base.specs.Changes.{with_point, with_solid, without_vertex}
use Rattle.half_mesh.specs.declared.row.Vertex.{Vertex}
use Rattle.half_mesh.specs.Fans.{Fan, Fans, Woven, bare_fan}
use Rattle.half_mesh.specs.Vertices.{VertexMap, vertices_in, points_in, is_marked, solid_in}
use Rattle.half_mesh.specs.Tied.{Keys, woven_mesh}
use Rattle.half_mesh.specs.States.{carry, without_solid}
use Rattle.half_mesh.proofs.StateLaws.{carry-some}
use Rattle.half_mesh.proofs.Mapped.{map_values-remove}
use Rattle.half_mesh.proofs.Vertices.{points-insert, points-kept, solid-kept, solid-made, solid-unmade, solid-carry, solid-remove, point-there, vertices-insert, get-vertices}
use Rattle.mesh_base.specs.declared.limits.Limits.{Limits}

-- the woven half-edges with another fan
abbrev pub with_fan : Woven → ℕ → Fan → Woven
with_fan w k fan = record w { fans = finite.insert w.fans k fan }

vertex_at : (fans : Fans) (k : ℕ) (fan : Fan) → finite.get fans k ≡ Some fan → finite.get (vertices_in fans) k ≡ Some fan.vertex
vertex_at fans k fan there = get-vertices fans k ∙ ap (option_map (λ (x : Fan). x.vertex)) there

-- a vertex that is not solid is made
pub mesh-vertex_made : (w : Woven) (keys : Keys) (l : Limits) (nv nf k : ℕ) (x : Vertex) → x.solid ≡ false → finite.get w.fans k ≡ None → woven_mesh (with_fan w k (bare_fan x)) keys l nv nf ≡ with_point (woven_mesh w keys l nv nf) k x.point
mesh-vertex_made w keys l nv nf k x plain none =
    let vertices = vertices-insert w.fans k (bare_fan x) in
    let points = ap points_in vertices ∙ points-insert (vertices_in w.fans) k x in
    let unmarked = ap is_marked (get-vertices w.fans k ∙ ap (option_map (λ (y : Fan). y.vertex)) none) in
    let solid = ap solid_in vertices ∙ solid-kept (vertices_in w.fans) k x (plain ∙ sym unmarked) in
    λ i. record (woven_mesh w keys l nv nf) { points = points i; solid = solid i }

-- a vertex is moved
pub mesh-vertex_moved : (w : Woven) (keys : Keys) (l : Limits) (nv nf k : ℕ) (fan : Fan) (p : Point) → finite.get w.fans k ≡ Some fan
    → woven_mesh (with_fan w k (record fan { vertex = record fan.vertex { point = p } })) keys l nv nf ≡ with_point (woven_mesh w keys l nv nf) k p
mesh-vertex_moved w keys l nv nf k fan p there =
    let x : Vertex = record fan.vertex { point = p } in
    let vertices = vertices-insert w.fans k (record fan { vertex = x }) in
    let points = ap points_in vertices ∙ points-insert (vertices_in w.fans) k x in
    let solid = ap solid_in vertices ∙ solid-kept (vertices_in w.fans) k x (sym (ap is_marked (vertex_at w.fans k fan there))) in
    λ i. record (woven_mesh w keys l nv nf) { points = points i; solid = solid i }

-- a vertex is made solid
pub mesh-vertex_solid : (w : Woven) (keys : Keys) (l : Limits) (nv nf k : ℕ) (fan : Fan) → finite.get w.fans k ≡ Some fan
    → woven_mesh (with_fan w k (record fan { vertex = record fan.vertex { solid = true } })) keys l nv nf ≡ with_solid (woven_mesh w keys l nv nf) k
mesh-vertex_solid w keys l nv nf k fan there =
    let x : Vertex = record fan.vertex { solid = true } in
    let vertices = vertices-insert w.fans k (record fan { vertex = x }) in
    let points = ap points_in vertices ∙ points-kept (vertices_in w.fans) k fan.vertex x (vertex_at w.fans k fan there) refl in
    let solid = ap solid_in vertices ∙ solid-made (vertices_in w.fans) k x refl in
    λ i. record (woven_mesh w keys l nv nf) { points = points i; solid = solid i }

-- a vertex is solid no longer
pub mesh-vertex_plain : (w : Woven) (keys : Keys) (l : Limits) (nv nf k : ℕ) (fan : Fan) → finite.get w.fans k ≡ Some fan
    → woven_mesh (with_fan w k (record fan { vertex = record fan.vertex { solid = false } })) keys l nv nf ≡ without_solid (woven_mesh w keys l nv nf) k
mesh-vertex_plain w keys l nv nf k fan there =
    let x : Vertex = record fan.vertex { solid = false } in
    let vertices = vertices-insert w.fans k (record fan { vertex = x }) in
    let points = ap points_in vertices ∙ points-kept (vertices_in w.fans) k fan.vertex x (vertex_at w.fans k fan there) refl in
    let solid = ap solid_in vertices ∙ solid-unmade (vertices_in w.fans) k x refl in
    λ i. record (woven_mesh w keys l nv nf) { points = points i; solid = solid i }

-- a vertex of another map is raised
pub mesh-vertex_raised : (w : Woven) (keys : Keys) (l : Limits) (nv nf k : ℕ) (from : VertexMap) (x : Vertex) → finite.get from k ≡ Some x → finite.get w.fans k ≡ None
    → woven_mesh (with_fan w k (bare_fan x)) keys l nv nf ≡ record (woven_mesh w keys l nv nf) { points = carry (points_in from) (points_in (vertices_in w.fans)) k; solid = carry (solid_in from) (solid_in (vertices_in w.fans)) k }
mesh-vertex_raised w keys l nv nf k from x there none =
    let vertices = vertices-insert w.fans k (bare_fan x) in
    let no_vertex = get-vertices w.fans k ∙ ap (option_map (λ (y : Fan). y.vertex)) none in
    let points = ap points_in vertices ∙ points-insert (vertices_in w.fans) k x ∙ sym (carry-some (points_in from) (points_in (vertices_in w.fans)) k x.point (point-there from k x there)) in
    let solid = ap solid_in vertices ∙ solid-carry from (vertices_in w.fans) k x there no_vertex in
    λ i. record (woven_mesh w keys l nv nf) { points = points i; solid = solid i }

-- a vertex is buried, among vertices that have none of its id
pub points-buried : (fans : Fans) (buried : VertexMap) (k : ℕ) (fan : Fan) → finite.get fans k ≡ Some fan → points_in (finite.insert buried k fan.vertex) ≡ carry (points_in (vertices_in fans)) (points_in buried) k
points-buried fans buried k fan there =
    points-insert buried k fan.vertex ∙ sym (carry-some (points_in (vertices_in fans)) (points_in buried) k fan.vertex.point (point-there (vertices_in fans) k fan.vertex (vertex_at fans k fan there)))

pub solid-buried : (fans : Fans) (buried : VertexMap) (k : ℕ) (fan : Fan) → finite.get fans k ≡ Some fan → finite.get buried k ≡ None → solid_in (finite.insert buried k fan.vertex) ≡ carry (solid_in (vertices_in fans)) (solid_in buried) k
solid-buried fans buried k fan there none = solid-carry (vertices_in fans) buried k fan.vertex (vertex_at fans k fan there) none

-- a vertex is dropped
pub mesh-vertex_gone : (w : Woven) (keys : Keys) (l : Limits) (nv nf k : ℕ) → woven_mesh (record w { fans = finite.remove w.fans k }) keys l nv nf ≡ without_vertex (woven_mesh w keys l nv nf) k
mesh-vertex_gone w keys l nv nf k =
    let vertices = map_values-remove (λ (x : Fan). x.vertex) w.fans k in
    let points = ap points_in vertices ∙ map_values-remove (λ (x : Vertex). x.point) (vertices_in w.fans) k in
    let solid = ap solid_in vertices ∙ solid-remove (vertices_in w.fans) k in
    λ i. record (woven_mesh w keys l nv nf) { points = points i; solid = solid i }

-- the vertex that is found is that of the fan
pub same_vertex : (fans : Fans) (k : ℕ) (fan : Fan) (x : Vertex) → Some x ≡ option_map (λ (y : Fan). y.vertex) (finite.get fans k) → finite.get fans k ≡ Some fan → x ≡ fan.vertex
same_vertex fans k fan x found there = let e : Some x ≡ Some fan.vertex = found ∙ ap (option_map (λ (y : Fan). y.vertex)) there in cc

pub dead_vertex : (fans : Fans) (k : ℕ) (fan : Fan) → None ≡ option_map (λ (y : Fan). y.vertex) (finite.get fans k) → finite.get fans k ≡ Some fan → ⊥
dead_vertex fans k fan found there = let e : None ≡ Some fan.vertex = found ∙ ap (option_map (λ (y : Fan). y.vertex)) there in cc
