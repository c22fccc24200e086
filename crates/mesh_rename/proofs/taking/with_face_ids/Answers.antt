use Rattle.std.proofs.Common.{◌≡◌, ℕ, List, map, refl, sym, ap, subst, ◌∙◌}
use Rattle.std.specs.List.Sorted.{IsNonDecreasing}
use Rattle.std.proofs.lemmas.Result.{IfOk-weaker}
use Rattle.mesh_base.specs.declared.limits.Limits.{Limits}
use Rattle.mesh_base.specs.declared.limits.Scale.TheVariants.{Large}
use Rattle.mesh_base.specs.Mesh.{Mesh}
use Rattle.mesh_journal.specs.Journal.{mesh_in}
use Rattle.mesh_rows.specs.declared.MeshRows.{MeshRows}
use Rattle.mesh_rows.specs.Rows.{mesh_of_rows}
use Rattle.obj_text.proofs.Ranks.{keys_rise}
use Rattle.mesh_ids.specs.NewIds.{new_id, with_face_ids}
use Rattle.mesh_rename.specs.Rows.{vertex_row, face_row, solid_ids}
use Rattle.mesh_rename.proofs.MadeIds.{faces_made}
use Rattle.mesh_rename.proofs.taking.with_face_ids.Goals as goal

pub faces_taken-requires : goal.faces_taken-requires
faces_taken-requires g c = subst IsNonDecreasing (sym (c.as_slice-2.ensures ∙ c.in_ok-old.ensures)) (keys_rise (g.S.Surface.mesh c.args.mesh.now).faces)

pub returns-clause-mesh : goal.returns-clause-mesh
returns-clause-mesh g c =
    let m = g.S.Surface.mesh c.args.mesh.now in
    let ids = c.args.ids.now in
    let rows : MeshRows = record { vertices = c.in_ok-vertices_kept.field-0; faces = c.in_ok-faces_taken.field-0; solids = c.in_ok-solids_kept.field-0; next_vertex = c.next_vertex.result; next_face = c.args.next } in
    let vertices = c.in_ok-vertices_kept.ensures ∙ ap (map (vertex_row m (λ v. v))) (c.as_slice.ensures ∙ c.in_ok-vertices.ensures) in
    let faces = c.in_ok-faces_taken.ensures ∙ ap (λ (old : List ℕ). map (face_row m (new_id old ids) (λ v. v)) old) (c.as_slice-2.ensures ∙ c.in_ok-old.ensures) in
    let solids = c.in_ok-solids_kept.ensures ∙ ap (solid_ids m (λ v. v)) (c.as_slice-3.ensures ∙ c.in_ok-vertices.ensures) in
    let whole : ◌≡◌ {A = Mesh} (record (mesh_of_rows Large rows) { limits = m.limits }) (with_face_ids m ids c.args.next) = faces_made m ids c.args.next rows (g.met.S.Surface.sound c.args.mesh.now) vertices faces solids c.next_vertex.ensures refl in
    let limits : ◌≡◌ {A = Mesh} (record (mesh_of_rows Large rows) { limits = c.limits.result }) (record (mesh_of_rows Large rows) { limits = m.limits }) = ap (λ (l : Limits). record (mesh_of_rows Large rows) { limits = l }) c.limits.ensures in
    IfOk-weaker c.made.result (λ made. mesh_in made ≡ record (mesh_of_rows Large rows) { limits = c.limits.result }) (λ made. mesh_in made ≡ with_face_ids m ids c.args.next) (λ made e. e ∙ limits ∙ whole) c.made.ensures.mesh
