use Rattle.std.proofs.Common.{◌≡◌, ℕ, List, map, refl, sym, ap, subst, ◌∙◌}
use Rattle.std.specs.List.Sorted.{IsNonDecreasing}
use Rattle.std.proofs.lemmas.Result.{IfOk-weaker}
use Rattle.mesh_base.specs.declared.limits.Limits.{Limits}
use Rattle.mesh_base.specs.declared.limits.Scale.TheVariants.{Large}
use Rattle.mesh_base.specs.Mesh.{Mesh}
use Rattle.mesh_journal.specs.Journal.{mesh_in}
use Rattle.mesh_rows.specs.declared.MeshRows.{MeshRows}
use Rattle.mesh_rows.specs.Rows.{mesh_of_rows}
use Rattle.obj_text.proofs.InOrder.{few_ids}
use Rattle.obj_text.proofs.Ranks.{keys_rise}
use Rattle.mesh_ids.specs.NewIds.{new_id, with_vertex_ids}
use Rattle.mesh_rename.specs.Rows.{vertex_row, face_row, solid_ids}
use Rattle.mesh_rename.proofs.MadeIds.{vertices_made}
use Rattle.mesh_rename.proofs.taking.with_vertex_ids.Goals as goal

pub vertices_taken-requires-clause-rising : goal.vertices_taken-requires-clause-rising
vertices_taken-requires-clause-rising g c = subst IsNonDecreasing (sym (c.as_slice.ensures ∙ c.in_ok-old.ensures)) (keys_rise (g.S.Surface.mesh c.args.mesh.now).points)

pub vertices_taken-requires-clause-few : goal.vertices_taken-requires-clause-few
vertices_taken-requires-clause-few g c = few_ids (g.S.Surface.mesh c.args.mesh.now) c.as_slice.result.now (g.met.S.Surface.sound c.args.mesh.now) (c.as_slice.ensures ∙ c.in_ok-old.ensures)

pub faces_of_taken-requires-clause-rising : goal.faces_of_taken-requires-clause-rising
faces_of_taken-requires-clause-rising g c = subst IsNonDecreasing (sym (c.as_slice-3.ensures ∙ c.in_ok-old.ensures)) (keys_rise (g.S.Surface.mesh c.args.mesh.now).points)

pub faces_of_taken-requires-clause-few : goal.faces_of_taken-requires-clause-few
faces_of_taken-requires-clause-few g c = few_ids (g.S.Surface.mesh c.args.mesh.now) c.as_slice-3.result.now (g.met.S.Surface.sound c.args.mesh.now) (c.as_slice-3.ensures ∙ c.in_ok-old.ensures)

pub solids_taken-requires-clause-rising : goal.solids_taken-requires-clause-rising
solids_taken-requires-clause-rising g c = subst IsNonDecreasing (sym (c.as_slice-4.ensures ∙ c.in_ok-old.ensures)) (keys_rise (g.S.Surface.mesh c.args.mesh.now).points)

pub solids_taken-requires-clause-few : goal.solids_taken-requires-clause-few
solids_taken-requires-clause-few g c = few_ids (g.S.Surface.mesh c.args.mesh.now) c.as_slice-4.result.now (g.met.S.Surface.sound c.args.mesh.now) (c.as_slice-4.ensures ∙ c.in_ok-old.ensures)

pub returns-clause-mesh : goal.returns-clause-mesh
returns-clause-mesh g c =
    let m = g.S.Surface.mesh c.args.mesh.now in
    let ids = c.args.ids.now in
    let rows : MeshRows = record { vertices = c.in_ok-vertices_taken.field-0; faces = c.in_ok-faces_of_taken.field-0; solids = c.in_ok-solids_taken.field-0; next_vertex = c.args.next; next_face = c.next_face.result } in
    let vertices = c.in_ok-vertices_taken.ensures ∙ ap (λ (old : List ℕ). map (vertex_row m (new_id old ids)) old) (c.as_slice.ensures ∙ c.in_ok-old.ensures) in
    let faces = c.in_ok-faces_of_taken.ensures ∙ (λ i. map (face_row m (λ f. f) (new_id ((c.as_slice-3.ensures ∙ c.in_ok-old.ensures) i) ids)) ((c.as_slice-2.ensures ∙ c.in_ok-faces.ensures) i)) in
    let solids = c.in_ok-solids_taken.ensures ∙ ap (λ (old : List ℕ). solid_ids m (new_id old ids) old) (c.as_slice-4.ensures ∙ c.in_ok-old.ensures) in
    let whole : ◌≡◌ {A = Mesh} (record (mesh_of_rows Large rows) { limits = m.limits }) (with_vertex_ids m ids c.args.next) = vertices_made m ids c.args.next rows vertices faces solids refl c.next_face.ensures in
    let limits : ◌≡◌ {A = Mesh} (record (mesh_of_rows Large rows) { limits = c.limits.result }) (record (mesh_of_rows Large rows) { limits = m.limits }) = ap (λ (l : Limits). record (mesh_of_rows Large rows) { limits = l }) c.limits.ensures in
    IfOk-weaker c.made.result (λ made. mesh_in made ≡ record (mesh_of_rows Large rows) { limits = c.limits.result }) (λ made. mesh_in made ≡ with_vertex_ids m ids c.args.next) (λ made e. e ∙ limits ∙ whole) c.made.ensures.mesh
