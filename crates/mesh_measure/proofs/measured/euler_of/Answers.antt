use Rattle.std.proofs.Common.{◌≡◌, ◌≤◌, ◌*◌, pos, ◌+ℤ◌, ◌-ℤ◌, to_z, of_z, w64, length, refl, sym, ap, subst, ◌∙◌, arith}
use Rattle.std.proofs.lemmas.Int.{ints}
use Rattle.grid_base.specs.declared.TheConstants.{VERTICES_MAX}
use Rattle.mesh_measure.specs.Components.{edges_above, vertices_of}
use Rattle.mesh_measure.proofs.ShapeSteps.{at_most, same_euler}
use Rattle.mesh_measure.proofs.ComponentSteps.{few_vertices, few_above}
use Rattle.mesh_measure.proofs.measured.euler_of.Goals as goal

pub edges_above-requires : goal.edges_above-requires
edges_above-requires g c =
    let m = g.S.Surface.mesh c.args.mesh.now in
    subst (λ l. length l ≤ VERTICES_MAX) (sym c.requires.vertices) (few_vertices m (g.met.S.Surface.sound c.args.mesh.now) c.args.faces.now)

pub euler_by-requires-clause-vertices : goal.euler_by-requires-clause-vertices
euler_by-requires-clause-vertices g c =
    let m = g.S.Surface.mesh c.args.mesh.now in
    subst (λ l. length l ≤ VERTICES_MAX) (sym c.requires.vertices) (few_vertices m (g.met.S.Surface.sound c.args.mesh.now) c.args.faces.now)

pub euler_by-requires-clause-edges : goal.euler_by-requires-clause-edges
euler_by-requires-clause-edges g c =
    let m = g.S.Surface.mesh c.args.mesh.now in
    let sound = g.met.S.Surface.sound c.args.mesh.now in
    let few = subst (λ l. length l ≤ VERTICES_MAX) (sym c.requires.vertices) (few_vertices m sound c.args.faces.now) in
    at_most c.in_ok-edges.edges (length (edges_above m c.args.vertices.now)) (VERTICES_MAX * VERTICES_MAX) c.in_ok-edges.ensures (few_above m sound c.args.vertices.now few)

pub returns : goal.returns
returns g c =
    let m = g.S.Surface.mesh c.args.mesh.now in
    let sound = g.met.S.Surface.sound c.args.mesh.now in
    let vs = vertices_of m c.args.faces.now in
    let a = length c.args.vertices.now in
    let b = c.in_ok-edges.edges in
    let d = length c.args.faces.now in
    let a_few : a ≤ VERTICES_MAX = subst (λ l. length l ≤ VERTICES_MAX) (sym c.requires.vertices) (few_vertices m sound c.args.faces.now) in
    let b_few : b ≤ VERTICES_MAX * VERTICES_MAX = at_most b (length (edges_above m c.args.vertices.now)) (VERTICES_MAX * VERTICES_MAX) c.in_ok-edges.ensures (few_above m sound c.args.vertices.now a_few) in
    let value : to_z w64 (of_z w64 c.euler_by.result) ≡ pos a -ℤ pos b +ℤ pos d = omega (arith, ints, c.euler_by.ensures, a_few, b_few, c.requires.few) in
    value ∙ same_euler a b d (length vs) (length (edges_above m vs)) d (ap length c.requires.vertices) (c.in_ok-edges.ensures ∙ ap (λ l. length (edges_above m l)) c.requires.vertices) refl
