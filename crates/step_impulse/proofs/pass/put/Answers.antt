use Rattle.std.proofs.Common.{◌≡◌, map, ap, subst, sym, ◌∙◌}
use Rattle.std.specs.Prelude.{slice_get}
use Rattle.std.specs.List.{find}
use Rattle.std.proofs.Common.{◌==◌, Option, Some, None}
use Rattle.grid_base.specs.Points.{displacement_of}
use Rattle.mesh_base.specs.Shifts.{Shifts}
use Rattle.step_impulse.proofs.Placed.{put_found, put_nowhere}
use Rattle.step_impulse.proofs.pass.put.Goals as goal

pub returns-in-Some : goal.returns-in-Some
returns-in-Some c =
    let found = c.in-Some.ensures in
    let same : c.as_slice.result.now ≡ c.args.shifts.now = c.as_slice.ensures in
    c.set.ensures ∙ put_found c.args.v c.args.by c.args.shifts.now c.in-Some.place found.0 c.requires
    (ap (λ (l : Shifts). slice_get l c.in-Some.place) (sym same) ∙ found.1)
    (ap (find (λ s. s.v == c.args.v)) (sym same) ∙ found.2)

pub returns-in_default : goal.returns-in_default
returns-in_default c =
    put_nowhere c.args.v (displacement_of c.args.by) c.args.shifts.now (ap (find (λ s. s.v == c.args.v)) (sym c.as_slice.ensures) ∙ c.in_default.ensures)
