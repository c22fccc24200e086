use Rattle.std.proofs.Common.{◌≡◌, ◌+◌, ℕ, Bool, true, false, ap, sym, ◌∙◌, subst, Some}
use Rattle.std.specs.Option.{option_map}
use Rattle.std.specs.List.{find, range_with_len}
use Rattle.grid_decided.specs.Decided.{meets_exactly}
use Rattle.mesh_base.specs.Shifts.{NameLive, end_in_box, Shifts}
use Rattle.mesh_base.specs.declared.How.TheVariants as How
use Rattle.mesh_base.specs.Failing.{failing}
use Rattle.step_choose.specs.Choice.{halved_times, all_pass, halving}
use Rattle.step_choose.proofs.Shortened.{names_halved, ends_halved}
use Rattle.pair_scan.proofs.NoneFail.{by_length}
use Rattle.step_choose.proofs.Searching.{later, here}
use Rattle.step_choose.proofs.halved_shifts.by_halving.Goals as goal

pub all_pass-requires-clause-named : goal.all_pass-requires-clause-named
all_pass-requires-clause-named g c =
    let P : Shifts → Type 0 = λ shifts. NameLive (g.S.Surface.mesh c.args.mesh.now) shifts in
    subst P (sym (c.in_ok-taken.ensures ∙ ap (halved_times (c.loop-k.k + 1)) c.as_slice.ensures)) (names_halved (c.loop-k.k + 1) c.args.asked.now ∙ c.requires.named)

pub all_pass-requires-clause-in_box : goal.all_pass-requires-clause-in_box
all_pass-requires-clause-in_box g c =
    ap (end_in_box (g.S.Surface.mesh c.args.mesh.now)) (c.in_ok-taken.ensures ∙ ap (halved_times (c.loop-k.k + 1)) c.as_slice.ensures) ∙ ends_halved (g.S.Surface.mesh c.args.mesh.now) (c.loop-k.k + 1) c.args.asked.now c.requires.in_box

pub returns-then-pass : goal.returns-then-pass
returns-then-pass g c =
    let m = g.S.Surface.mesh c.args.mesh.now in
    let asked = c.args.asked.now in
    let depth = c.args.set.depth in
    let most = c.args.set.halvings in
    let test : ℕ → Bool = λ n. all_pass meets_exactly m (halved_times n asked) depth in
    let taken : c.in_ok-taken.taken ≡ halved_times (c.loop-k.k + 1) asked = c.in_ok-taken.ensures ∙ ap (halved_times (c.loop-k.k + 1)) c.as_slice.ensures in
    let serves : test (c.loop-k.k + 1) ≡ true = ap (λ shifts. all_pass meets_exactly m shifts depth) (sym taken) ∙ sym (by_length (failing meets_exactly m c.in_ok-taken.taken depth)) ∙ sym c.in_ok-pass.ensures.exact ∙ c.if-pass.true in
    let found : find test (range_with_len 1 most) ≡ Some (c.loop-k.k + 1) = here test c.loop-k.k most _ c.loop-k-test.true serves c.loop-k.invariant in
    (λ i. Some (record { how = How.Halved (c.loop-k.k + 1); taken = taken i; blocks = c.new.ensures i })) ∙ sym (ap (option_map (halving asked)) found)

pub loop-k-preserved : goal.loop-k-preserved
loop-k-preserved g c =
    let m = g.S.Surface.mesh c.args.mesh.now in
    let asked = c.args.asked.now in
    let depth = c.args.set.depth in
    let test : ℕ → Bool = λ n. all_pass meets_exactly m (halved_times n asked) depth in
    let taken : c.in_ok-taken.taken ≡ halved_times (c.loop-k.k + 1) asked = c.in_ok-taken.ensures ∙ ap (halved_times (c.loop-k.k + 1)) c.as_slice.ensures in
    let fails : test (c.loop-k.k + 1) ≡ false = ap (λ shifts. all_pass meets_exactly m shifts depth) (sym taken) ∙ sym (by_length (failing meets_exactly m c.in_ok-taken.taken depth)) ∙ sym c.in_ok-pass.ensures.exact ∙ c.if-pass.false in
    later test c.loop-k.k c.args.set.halvings _ c.loop-k-test.true fails c.loop-k.invariant
