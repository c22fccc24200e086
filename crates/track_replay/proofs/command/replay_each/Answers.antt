use Rattle.std.proofs.Common.{Ok, Err, refl, ap, arith}
use Rattle.std.proofs.lemmas.Result.{err_from_is_err_and}
use Rattle.track_log.proofs.ToldTexts.{tells_whole, tells_stopped}
use Rattle.track_engine.specs.Targets.{target_of}
use Rattle.track_replay.proofs.SoFar.{replaying_none, unspent, few, forgotten_before, forgotten_here, refused_here, few_here, more_here, stops_here, no_line_here, done_here}
use Rattle.track_replay.proofs.command.replay_each.Goals as goal

pub loop-line-init : goal.loop-line-init
loop-line-init g c =
    replaying_none c.args.only (target_of c.args.to) c.args.run.now.replay.mesh c.args.lines.now c.args.run.now (g.O.Outside.around c.args.outside.now) c.requires.fresh c.requires.valid

pub overflow_add-number : goal.overflow_add-number
overflow_add-number g c = omega (arith, few _ _ _ _ _ _ _ _ _ _ c.loop-line.invariant, c.requires.few_lines)

pub take_tested-requires-clause-unspent : goal.take_tested-requires-clause-unspent
take_tested-requires-clause-unspent g c = unspent _ _ _ _ _ _ _ _ _ _ c.loop-line.invariant

pub take_tested-requires-clause-valid : goal.take_tested-requires-clause-valid
take_tested-requires-clause-valid g c = c.loop-line.invariant.valid

pub returns-in_err-line : goal.returns-in_err-line
returns-in_err-line g c =
    let p = err_from_is_err_and c.from_residual.result c.from_residual.ensures.1 in
    rw (p.1, p.2) (forgotten_before c.args.only (target_of c.args.to) c.args.run.now.replay.mesh c.args.lines.now c.loop-line.lines c.loop-line.run c.loop-line.count c.loop-line.number
    (g.O.Outside.around c.args.outside.now) (g.O.Outside.around c.loop-line.outside) c.loop-line.invariant)

pub returns-in_err-take_tested : goal.returns-in_err-take_tested
returns-in_err-take_tested g c =
    let p = err_from_is_err_and c.from_residual-in_err-take_tested.result c.from_residual-in_err-take_tested.ensures.1 in
    rw (p.1, p.2) (forgotten_here c.args.only (target_of c.args.to) c.args.run.now.replay.mesh c.args.lines.now c.loop-line.lines c.loop-line.run c.loop-line.count c.loop-line.number
    (g.O.Outside.around c.args.outside.now) (g.O.Outside.around c.loop-line.outside) c.loop-line.invariant c.in-Some.line c.take_first.new.self (rw c.in-Some.is at c.in_ok-line.ensures) (g.O.Outside.around c.hear.new.self) c.hear.ensures)

pub returns-then-not-branch : goal.returns-then-not-branch
returns-then-not-branch g c =
    refused_here c.args.only (target_of c.args.to) c.args.run.now.replay.mesh c.args.lines.now c.loop-line.lines c.loop-line.run c.loop-line.count c.loop-line.number
    (g.O.Outside.around c.args.outside.now) (g.O.Outside.around c.loop-line.outside) c.loop-line.invariant c.in-Some.line c.take_first.new.self (rw c.in-Some.is at c.in_ok-line.ensures) (g.O.Outside.around c.hear.new.self) c.hear.ensures
    c.in_ok-take_tested.field-0 c.in_ok-take_tested.ensures.fits c.if-not-branch.true (g.O.Outside.around c.refuse.new.outside) c.refuse.result c.refuse.ensures.tells c.refuse.ensures.ending

pub returns-in_err-more : goal.returns-in_err-more
returns-in_err-more g c =
    let p = err_from_is_err_and c.from_residual-in_err-more.result c.from_residual-in_err-more.ensures.1 in
    let yes = c.if-not-branch.false in
    rw (p.1, p.2) (stops_here c.args.only (target_of c.args.to) c.args.run.now.replay.mesh c.args.lines.now c.loop-line.lines c.loop-line.run c.loop-line.count c.loop-line.number
    (g.O.Outside.around c.args.outside.now) (g.O.Outside.around c.loop-line.outside) c.loop-line.invariant c.in-Some.line c.take_first.new.self (rw c.in-Some.is at c.in_ok-line.ensures) (g.O.Outside.around c.hear.new.self) c.hear.ensures
    c.in_ok-take_tested.field-0 c.in_ok-take_tested.ensures.fits yes c.take_tested.new.run (c.in_ok-take_tested.ensures.taken (ap Ok yes)) (g.O.Outside.around c.store_line.new.outside) _ c.in_err-more.ensures)

pub overflow_add-count : goal.overflow_add-count
overflow_add-count g c =
    let yes = c.if-not-branch.false in
    omega (
      arith,
      few_here c.args.only (target_of c.args.to) c.args.run.now.replay.mesh c.args.lines.now c.loop-line.lines c.loop-line.run c.loop-line.count c.loop-line.number
          (g.O.Outside.around c.args.outside.now) (g.O.Outside.around c.loop-line.outside) c.loop-line.invariant c.in-Some.line c.take_first.new.self (rw c.in-Some.is at c.in_ok-line.ensures) (g.O.Outside.around c.hear.new.self) c.hear.ensures
          c.in_ok-take_tested.field-0 c.in_ok-take_tested.ensures.fits yes c.take_tested.new.run (c.in_ok-take_tested.ensures.taken (ap Ok yes)) (g.O.Outside.around c.store_line.new.outside) c.in_ok-more.more c.in_ok-more.ensures,
      c.requires.few_lines,
    )

pub loop-line-preserved : goal.loop-line-preserved
loop-line-preserved g c =
    let yes = c.if-not-branch.false in
    more_here c.args.only (target_of c.args.to) c.args.run.now.replay.mesh c.args.lines.now c.loop-line.lines c.loop-line.run c.loop-line.count c.loop-line.number
    (g.O.Outside.around c.args.outside.now) (g.O.Outside.around c.loop-line.outside) c.loop-line.invariant c.in-Some.line c.take_first.new.self (rw c.in-Some.is at c.in_ok-line.ensures) (g.O.Outside.around c.hear.new.self) c.hear.ensures
    c.in_ok-take_tested.field-0 c.in_ok-take_tested.ensures.fits yes c.take_tested.new.run (c.in_ok-take_tested.ensures.taken (ap Ok yes)) (g.O.Outside.around c.store_line.new.outside) c.in_ok-more.more c.in_ok-more.ensures
    (c.in_ok-take_tested.ensures.valid (ap Ok yes))

pub returns-then-number-eq0 : goal.returns-then-number-eq0
returns-then-number-eq0 g c =
    no_line_here c.args.only (target_of c.args.to) c.args.run.now.replay.mesh c.args.lines.now c.loop-line.lines c.loop-line.run c.loop-line.count c.loop-line.number
    (g.O.Outside.around c.args.outside.now) (g.O.Outside.around c.loop-line.outside) c.loop-line.invariant (rw c.in_default.is at c.in_ok-line.ensures).0 (g.O.Outside.around c.refuse-then-number-eq0.new.outside) c.if-number-eq0.true c.refuse-then-number-eq0.result c.refuse-then-number-eq0.ensures.tells c.refuse-then-number-eq0.ensures.ending

pub returns-in_err-tell_count : goal.returns-in_err-tell_count
returns-in_err-tell_count g c =
    let p = err_from_is_err_and c.from_residual-in_err-tell_count.result c.from_residual-in_err-tell_count.ensures.1 in
    rw (p.1, p.2) (done_here c.args.only (target_of c.args.to) c.args.run.now.replay.mesh c.args.lines.now c.loop-line.lines c.loop-line.run c.loop-line.count c.loop-line.number
    (g.O.Outside.around c.args.outside.now) (g.O.Outside.around c.loop-line.outside) c.loop-line.invariant (rw c.in_default.is at c.in_ok-line.ensures).0 (g.O.Outside.around c.tell_count.new.outside) c.if-number-eq0.false (Err _) (tells_stopped _ _ _ _ c.in_err-tell_count.ensures) tt)

pub returns : goal.returns
returns g c =
    done_here c.args.only (target_of c.args.to) c.args.run.now.replay.mesh c.args.lines.now c.loop-line.lines c.loop-line.run c.loop-line.count c.loop-line.number
    (g.O.Outside.around c.args.outside.now) (g.O.Outside.around c.loop-line.outside) c.loop-line.invariant (rw c.in_default.is at c.in_ok-line.ensures).0 (g.O.Outside.around c.tell_count.new.outside) c.if-number-eq0.false _ (tells_whole _ _ _ _ _ c.in_ok-tell_count.ensures) refl
