use Rattle.std.proofs.Common.{◌≡◌, ℕ, ◌+◌, Bool, ◌∷◌, List, drop, sym, subst, ap, ◌∙◌}
use Rattle.mesh_base.specs.declared.ids.Corners.{Corners}
use Rattle.edit_collapse.specs.Alike.{AreUnlike, has_met}
use Rattle.edit_collapse.proofs.Lists.{rest_at, ended}
use Rattle.edit_collapse.proofs.Unlike.{none_met}
use Rattle.edit_collapse.proofs.alike.may_be_alike.Goals as goal

pub loop-e-init : goal.loop-e-init
loop-e-init c = λ h. subst (λ (met : ℕ → Bool). AreUnlike met c.args.faces.now) (none_met c.new-met.result c.new-met.ensures.empty) h

pub loop-e-preserved : goal.loop-e-preserved
loop-e-preserved c = λ h.
    let es = c.args.faces.now in
    let e = c.e-item.result in
    let behind : List (ℕ × Corners) = drop (c.loop-e.e-index + 1) es in
    let anew = c.in_ok-anew.ensures c.if-not-anew.false in
    let rest : drop c.loop-e.e-index es ≡ e ∷ behind = rest_at es c.loop-e.e-index e c.loop-e-test.true ∙ ap (λ (g : ℕ × Corners). g ∷ behind) (sym c.e-item.is) in
    c.loop-e.invariant (subst (AreUnlike (has_met c.loop-e.met)) (sym rest) (
      record { three = anew.three; not_before = anew.not_before },
      subst (λ (met : ℕ → Bool). AreUnlike met behind) (λ i k. anew.now k i) h,
    ))

pub returns : goal.returns
returns c = λ no.
    c.loop-e.invariant (subst (AreUnlike (has_met c.loop-e.met)) (sym (ended c.args.faces.now c.loop-e.e-index c.loop-e-test.false)) tt)
