use Rattle.std.proofs.Common.{◌≡◌, Ok, true, ap, sym, subst, ◌∙◌}
use Rattle.std.proofs.lemmas.Bool.{false≢true}
use Rattle.pair_scan.proofs.Paths.{ids_sorted}
use Rattle.track_engine.specs.State.{asked_in}
use Rattle.track_engine.proofs.AskedLemmas.{put_live, put_second}
use Rattle.track_engine.proofs.AskedLists.{Rises}
use Rattle.track_engine.proofs.Keeping.{ids_in}
use Rattle.track_engine.proofs.shift_sums.put_in.Goals as goal

pub of_all-requires : goal.of_all-requires
of_all-requires g c =
    let m = g.S.Surface.mesh c.args.mesh.now in
    subst Rises (sym c.in_ok-all.ensures) (ids_sorted m (asked_in m c.put.new.self) (ids_in m c.put.new.self))

pub returns-then-branch : goal.returns-then-branch
returns-then-branch g c =
    put_live (g.S.Surface.mesh c.args.mesh.now) c.args.s.now c.args.asked.now c.put.new.self (c.in_ok-put.ensures.put (ap Ok c.if-branch.true)) c.requires.free

pub returns : goal.returns
returns g c =
    let m = g.S.Surface.mesh c.args.mesh.now in
    let left : c.put.new.self ≡ c.args.asked.now = c.in_ok-put.ensures.left (λ e. let is : c.in_ok-put.field-0 ≡ true = cc in false≢true (sym c.if-branch.false ∙ is)) in
    let all = c.of_all.ensures ∙ c.in_ok-all.ensures ∙ ap (asked_in m) left in
    put_second m c.args.s.now c.args.asked.now c.of_all.result c.put-2.new.self c.in_ok-_there._there c.requires.live c.requires.free all c.in_ok-_there.ensures.put c.in_ok-_there.ensures.none
