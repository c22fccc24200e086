use Rattle.std.proofs.Common.{subst, ◌∙◌}
use Rattle.grid_base.specs.declared.Point.{Point}
use Rattle.mesh_field.specs.Stored.{MayAnswer}
use Rattle.track_engine.proofs.DriveLemmas.{stands_at}
use Rattle.track_engine.proofs.field_shifts.answer_at.Goals as goal

pub returns : goal.returns
returns g c = λ p stands free.
    let P : Point → Type 0 = λ at. MayAnswer g.F.Fn c.args.fields.now c.args.which at c.ask.result in
    subst P (c.point_of.ensures ∙ stands_at (g.S.Surface.mesh c.args.mesh.now) c.args.v p stands) c.ask.ensures.answer
