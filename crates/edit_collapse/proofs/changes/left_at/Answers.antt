use Rattle.std.proofs.Common.{◌≡◌, ℕ, List, length, ap, subst, ◌∙◌}
use Rattle.std.specs.Prelude.{IfOk}
use Rattle.mesh_base.specs.declared.ids.Corners.{Corners}
use Rattle.edit_collapse.specs.Tried.{cancelled_in}
use Rattle.edit_collapse.proofs.Acts.{cancelled_is_left}
use Rattle.edit_collapse.proofs.changes.left_at.Goals as goal

pub returns : goal.returns
returns g c =
    subst (λ (es : List (ℕ × Corners)). IfOk c.cancel_opposites.result (λ left. left ≡ es))
    (ap (λ (es : List (ℕ × Corners)). cancelled_in (length es) es) c.in_ok-faces.ensures ∙ cancelled_is_left (g.S.Surface.mesh c.args.mesh.now) c.args.a c.args.b) c.cancel_opposites.ensures
