-- A shift that a caller asks and a point that a caller gives are those that their numbers make.
use Rattle.std.proofs.Common.{◌≡◌, sym, ap, ◌∙◌}
use Rattle.grid_base.specs.declared.Shift.{Shift}
use Rattle.grid_base.specs.declared.Point.{Point}
use Rattle.grid_base.specs.Points.{shift_by, point_at}
use Rattle.grid_base.proofs.PointLaws.{shift_by-displacement_of, point_at-position_of}
use Rattle.step_text.specs.declared.Directive.TheVariants.{ShiftOne, ShiftAll}
use Rattle.track_held.specs.declared.given.NamedPoint.{NamedPoint}
use Rattle.track_held.specs.declared.given.GivenPoint.{GivenPoint}
use Rattle.track_held.specs.Asking.{IsGiven, shift_directive, shift_all_directive}
use Rattle.track_held.specs.Given.{point_in}

pub is_asking : (row : NamedPoint) (by : Shift) → IsGiven row by → ShiftOne row.id by ≡ shift_directive row
is_asking row by given = ap (λ (s : Shift). ShiftOne row.id s) (sym (shift_by-displacement_of by) ∙ ap shift_by (λ i. record { x = given.x i; y = given.y i; z = given.z i }))

pub is_asking_all : (row : NamedPoint) (by : Shift) → IsGiven row by → ShiftAll by ≡ shift_all_directive row
is_asking_all row by given = ap ShiftAll (sym (shift_by-displacement_of by) ∙ ap shift_by (λ i. record { x = given.x i; y = given.y i; z = given.z i }))

pub is_point_in : (p : GivenPoint) (q : Point) → q.x ≡ p.x → q.y ≡ p.y → q.z ≡ p.z → q ≡ point_in p
is_point_in p q x y z = sym (point_at-position_of q) ∙ ap point_at (λ i. record { x = x i; y = y i; z = z i })
