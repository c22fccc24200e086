use Rattle.std.proofs.Common.{◌≡◌, ◌<◌, ◌≤◌, length, map, drop, List, ℕ, ap, sym, subst, ◌∙◌, arith}
use Rattle.std.specs.List.Sorted.{IsStrictlySortedBy}
use Rattle.std.specs.Ordering.{nat_cmp}
use Rattle.grid_base.specs.Points.{displacement_of}
use Rattle.mesh_base.specs.declared.steps.ShiftOf.{ShiftOf}
use Rattle.step_impulse.specs.Passes.{with_shift_of, with_shifts_of}
use Rattle.pair_scan.proofs.Lists.{ended}
use Rattle.step_impulse.proofs.Placed.{put_more, names_put}
use Rattle.step_impulse.proofs.pass.put_five.Goals as goal

pub put-requires : goal.put-requires
put-requires c = subst (IsStrictlySortedBy nat_cmp) (sym c.loop-k.invariant.names) c.requires

pub loop-k-preserved : goal.loop-k-preserved
loop-k-preserved c =
    let put : c.put.new.shifts ≡ with_shift_of c.index-ids-k.result (displacement_of c.index-by-k.result) c.loop-k.shifts =
    c.put.ensures ∙ (λ i. with_shift_of (sym c.index-ids-k.is i) (displacement_of (sym c.index-by-k.is i)) c.loop-k.shifts) in
    record {
      whole = put_more c.args.ids.now c.args.by.now c.loop-k.k c.index-ids-k.result c.index-by-k.result c.loop-k.shifts c.put.new.shifts (with_shifts_of c.args.ids.now (map displacement_of c.args.by.now) c.args.shifts.now)
          (omega arith) (omega arith) c.index-ids-k.is c.index-by-k.is put c.loop-k.invariant.whole;
      names = ap (map (λ (s : ShiftOf). s.v)) put ∙ names_put c.index-ids-k.result (displacement_of c.index-by-k.result) c.loop-k.shifts ∙ c.loop-k.invariant.names;
    }

pub returns : goal.returns
returns c =
    (λ i. with_shifts_of (sym (ended c.args.ids.now c.loop-k.k (omega arith)) i) (map displacement_of (drop c.loop-k.k c.args.by.now)) c.loop-k.shifts) ∙ c.loop-k.invariant.whole
