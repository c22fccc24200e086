use Rattle.std.proofs.Common.{◌≡◌, None, Ok, sym, ap, subst, ◌∙◌}
use Rattle.mesh_base.specs.Mesh.{Mesh, IsSound}
use Rattle.mesh_shape.specs.Numbered.{numbered}
use Rattle.half_mesh.specs.Half.{mesh_in}
use Rattle.half_mesh.specs.States.{State}
use Rattle.mesh_rows.specs.Making.{of_all_rows}
use Rattle.mesh_rows.specs.Faults.{made_fault}
use Rattle.mesh_rows.proofs.MadeRows.{made_is}
use Rattle.mesh_rows.proofs.Balanced.{closed_rows}
use Rattle.mesh_rows.proofs.construction.mesh_of_rows.Goals as goal

pub returns-clause-mesh : goal.returns-clause-mesh
returns-clause-mesh c =
    let scale = c.args.scale in
    let rows = c.args.rows.now in
    let none : made_fault scale rows ≡ None = sym c.in_ok-fault.ensures.fault ∙ c.in_default-2.is in
    let put : mesh_in c.put_rows.new.mesh ≡ of_all_rows scale rows = c.in_ok-fault.ensures.put (ap Ok c.in_default-2.is) in
    c.over.ensures.mesh ∙ ap (λ (s : State). s.mesh) c.set_next.ensures.state
    ∙ ap (λ (m : Mesh). numbered m rows.next_vertex rows.next_face) put ∙ made_is scale rows none

pub returns-clause-sound : goal.returns-clause-sound
returns-clause-sound c = λ ok. subst IsSound (sym c.over.ensures.mesh ∙ returns-clause-mesh c) c.set_next.new.self.now_sound

pub returns-clause-closed : goal.returns-clause-closed
returns-clause-closed c = λ ok. closed_rows c.args.scale c.args.rows.now (sym c.in_ok-fault.ensures.fault ∙ c.in_default-2.is)
