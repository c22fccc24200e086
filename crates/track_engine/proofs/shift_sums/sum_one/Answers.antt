use Rattle.std.proofs.Common.{is_some, ap, sym, subst, ◌∙◌, refl}
use Rattle.std.proofs.lemmas.Bool.{false≢true}
use Rattle.grid_base.specs.declared.TheConstants.{SHIFT_MAX}
use Rattle.grid_base.specs.Triples.{IsWithin}
use Rattle.mesh_base.specs.declared.ShiftOf.{ShiftOf}
use Rattle.track_engine.specs.Effects.{summed}
use Rattle.track_engine.proofs.AskedLemmas.{sum_is, sum_none, sum_solid, sum_beyond}
use Rattle.track_engine.proofs.shift_sums.sum_one.Goals as goal

pub returns-then-is_none-clause-sum : goal.returns-then-is_none-clause-sum
returns-then-is_none-clause-sum g c =
    sum_none (g.S.Surface.mesh c.args.mesh.now) c.args.v c.args.by c.args.asked.now (ap is_some (sym c.point.ensures) ∙ c.if-is_none.ensures)

pub returns-then-solid-clause-sum : goal.returns-then-solid-clause-sum
returns-then-solid-clause-sum g c =
    sum_solid (g.S.Surface.mesh c.args.mesh.now) c.args.v c.args.by c.args.asked.now (ap is_some (sym c.point.ensures) ∙ c.if-is_none.ensures) (sym c.solid.ensures ∙ c.if-solid.true)

pub returns-in_default-clause-sum : goal.returns-in_default-clause-sum
returns-in_default-clause-sum g c =
    let out = λ (w : IsWithin SHIFT_MAX (summed c.args.by c.asked_of-was.result)). false≢true (c.in_default.ensures.some.1 w) in
    let P : ShiftOf → Type 0 = λ s. IsWithin SHIFT_MAX (summed c.args.by s) → ⊥ in
    sum_beyond (g.S.Surface.mesh c.args.mesh.now) c.args.v c.args.by c.args.asked.now (ap is_some (sym c.point.ensures) ∙ c.if-is_none.ensures) (sym c.solid.ensures ∙ c.if-solid.false)
    (subst P c.asked_of-was.ensures out)

pub returns-clause-sum : goal.returns-clause-sum
returns-clause-sum g c =
    let P : ShiftOf → Type 0 = λ s. IsWithin SHIFT_MAX (summed c.args.by s) in
    sum_is (g.S.Surface.mesh c.args.mesh.now) c.args.v c.args.by c.args.asked.now (ap is_some (sym c.point.ensures) ∙ c.if-is_none.ensures) (sym c.solid.ensures ∙ c.if-solid.false)
    c.in-Some.by (c.in-Some.ensures.made ∙ ap (λ (s : ShiftOf). summed c.args.by s) c.asked_of-was.ensures) (subst P c.asked_of-was.ensures (c.in-Some.ensures.some.0 refl)) c.put_in.new.asked c.in_ok-put_in.ensures
