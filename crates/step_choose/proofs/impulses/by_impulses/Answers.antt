use Rattle.std.proofs.Common.{◌≡◌, ℕ, ◌<◌, ◌+◌, map, length, ◌==◌, true, false, ap, sym, subst, ◌∙◌, arith}
use Rattle.grid_decided.specs.Decided.{meets_exactly}
use Rattle.mesh_base.specs.declared.steps.ShiftOf.{ShiftOf}
use Rattle.mesh_base.specs.Shifts.{Shifts, NameLive, end_in_box}
use Rattle.mesh_base.specs.Failing.{failing}
use Rattle.step_choose.specs.Impulses.{all_pass, after_passes}
use Rattle.step_choose.proofs.Searching.{none_is, some_is}
use Rattle.step_choose.proofs.Ways.{no_pass, all_to_come, next_pass, names_passed, EndsUpTo, ends_more, passes_here, passes_later, passes_end, passes_none, passes_found, passes_over}
use Rattle.step_choose.proofs.impulses.by_impulses.Goals as goal

pub loop-k-init : goal.loop-k-init
loop-k-init g c =
    let m = g.S.Surface.mesh c.args.mesh.now in
    let same : c.in_ok-taken.taken ≡ c.args.asked.now = c.in_ok-taken.ensures ∙ c.as_slice.ensures in
    record {
      taken = same ∙ sym (no_pass m c.args.asked.now c.args.set.depth);
      failed = c.in_ok-failed.ensures ∙ c.as_slice-2.ensures ∙ c.requires.hits ∙ ap (λ by. failing meets_exactly m by c.args.set.depth) (sym same);
      ends = λ q some h. absurd (omega arith);
      left = all_to_come m c.args.asked.now c.args.set.depth c.args.set.passes;
    }

pub impulse_pass-requires : goal.impulse_pass-requires
impulse_pass-requires g c =
    let m = g.S.Surface.mesh c.args.mesh.now in
    subst (NameLive m) (sym c.loop-k.invariant.taken) (names_passed m c.args.asked.now c.args.set.depth c.loop-k.k ∙ c.requires.named)

pub returns-then-not-end_in_box : goal.returns-then-not-end_in_box
returns-then-not-end_in_box g c =
    let m = g.S.Surface.mesh c.args.mesh.now in
    let asked : Shifts = c.args.asked.now in
    let depth : ℕ = c.args.set.depth in
    let after = next_pass m asked depth c.loop-k.k c.loop-k.taken c.impulse_pass.new.shifts c.loop-k.failed c.loop-k.invariant.taken c.loop-k.invariant.failed c.impulse_pass.ensures.after in
    let out : end_in_box m (after_passes meets_exactly m asked depth (c.loop-k.k + 1)) ≡ false = ap (end_in_box m) (sym (c.as_slice-in-loop-k.ensures ∙ after)) ∙ sym c.end_in_box.ensures ∙ c.if-not-end_in_box.true in
    passes_none m asked depth c.args.set.passes (passes_end m asked depth c.loop-k.k c.args.set.passes out c.loop-k.invariant.left)

pub failing-requires-clause-named : goal.failing-requires-clause-named
failing-requires-clause-named g c = c.impulse_pass.ensures.names

pub returns-then-len-eq0 : goal.returns-then-len-eq0
returns-then-len-eq0 g c =
    let m = g.S.Surface.mesh c.args.mesh.now in
    let asked : Shifts = c.args.asked.now in
    let depth : ℕ = c.args.set.depth in
    let after = next_pass m asked depth c.loop-k.k c.loop-k.taken c.impulse_pass.new.shifts c.loop-k.failed c.loop-k.invariant.taken c.loop-k.invariant.failed c.impulse_pass.ensures.after in
    let ends : end_in_box m (after_passes meets_exactly m asked depth (c.loop-k.k + 1)) ≡ true = ap (end_in_box m) (sym (c.as_slice-in-loop-k.ensures ∙ after)) ∙ sym c.end_in_box.ensures ∙ c.if-not-end_in_box.false in
    let none : length (failing meets_exactly m (after_passes meets_exactly m asked depth (c.loop-k.k + 1)) depth) ≡ 0 =
    sym (ap length (c.in_ok-failed-2.ensures.failing ∙ ap (λ by. failing meets_exactly m by depth) after)) ∙ sym c.len.ensures ∙ c.if-len-eq0.true in
    passes_found m asked depth c.args.set.passes (c.loop-k.k + 1) c.impulse_pass.new.shifts c.new.result
    (passes_here m asked depth c.loop-k.k c.args.set.passes c.loop-k-test.true (ends_more m asked depth c.loop-k.k c.loop-k.invariant.ends ends) (none_is _ none) c.loop-k.invariant.left) after c.new.ensures

pub loop-k-preserved : goal.loop-k-preserved
loop-k-preserved g c =
    let m = g.S.Surface.mesh c.args.mesh.now in
    let asked : Shifts = c.args.asked.now in
    let depth : ℕ = c.args.set.depth in
    let after = next_pass m asked depth c.loop-k.k c.loop-k.taken c.impulse_pass.new.shifts c.loop-k.failed c.loop-k.invariant.taken c.loop-k.invariant.failed c.impulse_pass.ensures.after in
    let ends : end_in_box m (after_passes meets_exactly m asked depth (c.loop-k.k + 1)) ≡ true = ap (end_in_box m) (sym (c.as_slice-in-loop-k.ensures ∙ after)) ∙ sym c.end_in_box.ensures ∙ c.if-not-end_in_box.false in
    let same : c.len.result ≡ length (failing meets_exactly m (after_passes meets_exactly m asked depth (c.loop-k.k + 1)) depth) =
    c.len.ensures ∙ ap length (c.in_ok-failed-2.ensures.failing ∙ ap (λ by. failing meets_exactly m by depth) after) in
    record {
      taken = after;
      failed = c.in_ok-failed-2.ensures.failing;
      ends = ends_more m asked depth c.loop-k.k c.loop-k.invariant.ends ends;
      left = passes_later m asked depth c.loop-k.k c.args.set.passes c.loop-k-test.true (some_is _ _ same c.if-len-eq0.false) c.loop-k.invariant.left;
    }

pub returns : goal.returns
returns g c =
    let m = g.S.Surface.mesh c.args.mesh.now in
    passes_none m c.args.asked.now c.args.set.depth c.args.set.passes (passes_over m c.args.asked.now c.args.set.depth c.loop-k.k c.args.set.passes c.loop-k-test.false c.loop-k.invariant.left)
