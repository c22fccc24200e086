use Rattle.std.proofs.Common.{◌≡◌, IfOk, refl, ◌∙◌}
use Rattle.mesh_base.specs.declared.limits.Scale.TheVariants.{Large}
use Rattle.mesh_base.specs.Valid.{IsValidSurface}
use Rattle.mesh_journal.specs.Journal.{mesh_in, kept_in}
use Rattle.mesh_rows.specs.declared.rows.MeshRows.{MeshRows}
use Rattle.mesh_rows.specs.Rows.{mesh_of_rows}
use Rattle.track_engine.specs.Engines.{state_in}
use Rattle.track_engine.specs.State.{unsaved}
use Rattle.track_held.specs.Held.{engine_in}
use Rattle.track_held.proofs.NumberedFaults.{along_rows, of_rows, refused_rows}
use Rattle.track_held.proofs.numbered_tracker.track_numbered.Goals as goal

pub returns-clause-state : goal.returns-clause-state
returns-clause-state c =
    let P : MeshRows → Type 0 = λ rows. IfOk c.track_rows.result (λ held. state_in mesh_in kept_in (engine_in held) ≡ unsaved (mesh_of_rows Large rows)) in
    along_rows c.args.points.now c.args.faces.now c.args.solids.now c.args.next_vertex c.args.next_face _ _ _ c.in-Ok.ensures.vertices c.in_ok-faces.ensures c.in_ok-solids.ensures P c.track_rows.ensures.state

pub returns-clause-valid : goal.returns-clause-valid
returns-clause-valid c = λ ok.
    let P : MeshRows → Type 0 = λ rows. IsValidSurface (mesh_of_rows Large rows) in
    along_rows c.args.points.now c.args.faces.now c.args.solids.now c.args.next_vertex c.args.next_face _ _ _ c.in-Ok.ensures.vertices c.in_ok-faces.ensures c.in_ok-solids.ensures P (c.track_rows.ensures.valid ok)

pub returns-clause-none : goal.returns-clause-none
returns-clause-none c = λ ok.
    of_rows c.args.points.now c.args.faces.now c.args.solids.now c.args.next_vertex c.args.next_face _ _ _ c.in-Ok.ensures.vertices c.in_ok-faces.ensures c.in_ok-solids.ensures c.if-points.false (c.in-Ok.ensures.none refl)
    ∙ c.track_rows.ensures.none ok

pub returns-clause-first : goal.returns-clause-first
returns-clause-first c =
    refused_rows c.args.points.now c.args.faces.now c.args.solids.now c.args.next_vertex c.args.next_face _ _ _ c.in-Ok.ensures.vertices c.in_ok-faces.ensures c.in_ok-solids.ensures c.if-points.false (c.in-Ok.ensures.none refl)
    c.track_rows.result c.track_rows.ensures.first
