use Rattle.std.proofs.Common.{◌≡◌, List, map, ap, sym, subst, ◌∙◌, arith}
use Rattle.std.specs.List.Sorted.{IsStrictlySortedBy}
use Rattle.std.specs.Ordering.{nat_cmp}
use Rattle.mesh_base.specs.Placements.{origin}
use Rattle.mesh_base.specs.Shifts.{Shifts, shift_at}
use Rattle.mesh_base.specs.declared.steps.ShiftOf.{ShiftOf}
use Rattle.mesh_base.specs.declared.ids.PairName.{PairName}
use Rattle.pair_scan.specs.Named.{pair_named, pairs_named}
use Rattle.pair_scan.proofs.Lists.{ended}
use Rattle.pair_scan.proofs.Paths.{ids_sorted}
use Rattle.step_impulse.specs.Passes.{after_pair, after_pass}
use Rattle.step_impulse.proofs.Placed.{names_after_pair, names_after, pass_more}
use Rattle.step_impulse.proofs.Resting.{still_after}
use Rattle.step_impulse.proofs.pass.impulse_pass.Goals as goal

pub impulse_on-requires : goal.impulse_on-requires
impulse_on-requires g c = subst (IsStrictlySortedBy nat_cmp) (sym c.loop-name.invariant.names) (ids_sorted (g.S.Surface.mesh c.args.mesh.now) c.args.shifts.now c.requires)

pub loop-name-preserved : goal.loop-name-preserved
loop-name-preserved g c =
    let m = g.S.Surface.mesh c.args.mesh.now in
    let names : List PairName = c.as_slice-name-items.result.now in
    record {
      whole = pass_more m names c.loop-name.name-index c.name-item.result c.loop-name.shifts c.impulse_on.new.shifts (after_pass m (pairs_named m names) c.args.shifts.now)
          c.loop-name-test.true c.name-item.is c.impulse_on.ensures c.loop-name.invariant.whole;
      names = ap (map (λ (s : ShiftOf). s.v)) c.impulse_on.ensures ∙ names_after_pair m c.loop-name.shifts (pair_named m c.name-item.result) ∙ c.loop-name.invariant.names;
    }

pub returns-clause-after : goal.returns-clause-after
returns-clause-after g c =
    let m = g.S.Surface.mesh c.args.mesh.now in
    let names : List PairName = c.as_slice-name-items.result.now in
    (λ i. after_pass m (pairs_named m (sym (ended names c.loop-name.name-index c.loop-name-test.false) i)) c.loop-name.shifts)
    ∙ c.loop-name.invariant.whole ∙ ap (λ l. after_pass m (pairs_named m l) c.args.shifts.now) c.as_slice-name-items.ensures

pub returns-clause-names : goal.returns-clause-names
returns-clause-names g c = c.loop-name.invariant.names ∙ c.requires

pub returns-clause-solid : goal.returns-clause-solid
returns-clause-solid g c = λ v solid none.
    let m = g.S.Surface.mesh c.args.mesh.now in
    ap (λ (l : Shifts). shift_at l v) (returns-clause-after g c) ∙ still_after m (pairs_named m c.args.hits.now) c.args.shifts.now v solid none
