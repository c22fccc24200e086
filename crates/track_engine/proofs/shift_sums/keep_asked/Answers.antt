use Rattle.std.proofs.Common.{sym, subst, ap, ◌∙◌}
use Rattle.mesh_base.specs.Shifts.{Shifts}
use Rattle.pair_scan.proofs.Paths.{ids_sorted}
use Rattle.track_engine.specs.Shifting.{AsksOfGiven, AreBelow}
use Rattle.track_engine.specs.State.{asked_in}
use Rattle.track_engine.proofs.AskedLemmas.{given_below, given_whole, whole_again}
use Rattle.track_engine.proofs.AskedLists.{Rises}
use Rattle.track_engine.proofs.Keeping.{ids_in}
use Rattle.track_engine.proofs.shift_sums.keep_asked.Goals as goal

pub returns-then-are_below-clause-given : goal.returns-then-are_below-clause-given
returns-then-are_below-clause-given g c =
    let m = g.S.Surface.mesh c.args.mesh.now in
    given_below m c.args.asked.now (subst (λ n. AreBelow n c.args.asked.now) c.next_vertex.ensures (c.are_below.ensures c.if-are_below.true))

pub of_all-requires : goal.of_all-requires
of_all-requires g c =
    let m = g.S.Surface.mesh c.args.mesh.now in
    subst Rises (sym c.in_ok-all.ensures) (ids_sorted m (asked_in m c.args.asked.now) (ids_in m c.args.asked.now))

pub returns-clause-given : goal.returns-clause-given
returns-clause-given g c =
    let m = g.S.Surface.mesh c.args.mesh.now in
    let P : Shifts → Type 0 = λ asked. AsksOfGiven m asked in
    subst P (sym (c.of_all.ensures ∙ c.in_ok-all.ensures)) (given_whole m (g.met.S.Surface.sound c.args.mesh.now) c.args.asked.now)

pub returns-clause-same : goal.returns-clause-same
returns-clause-same g c =
    let m = g.S.Surface.mesh c.args.mesh.now in
    ap (asked_in m) (c.of_all.ensures ∙ c.in_ok-all.ensures) ∙ whole_again m c.args.asked.now
