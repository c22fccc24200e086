use Rattle.std.proofs.Common.{refl, ap, ◌∙◌}
use Rattle.mesh_journal.specs.Journal.{mesh_in, kept_in}
use Rattle.track_held.proofs.DenseStates.{dense_state_is}
use Rattle.track_held.proofs.renumbering.dense_engine.Goals as goal

pub returns-clause-state : goal.returns-clause-state
returns-clause-state g c =
    let old = c.args.engine.now in
    let made = c.in_ok-dense.dense in
    dense_state_is (g.S.Surface.mesh old.mesh) (mesh_in made.mesh) (g.S.Surface.kept old.mesh) (kept_in made.mesh) old.run
    (record made.run { asked = c.in_ok-asked.asked; set = old.run.set; steps = old.run.steps; saved = old.run.saved })
    (ap (λ j. mesh_in j) c.in_ok-dense.ensures.mesh ∙ c.in_ok-mesh.ensures) c.in_ok-asked.ensures refl refl refl c.in_ok-dense.ensures.groups
