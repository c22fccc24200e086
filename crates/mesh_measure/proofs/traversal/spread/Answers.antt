use Rattle.std.proofs.Common.{◌≡◌, ◌<◌, ◌≤◌, [], ◌∷◌, length, get_or, ap, subst, ◌∙◌, arith}
use Rattle.std.proofs.lemmas.List.{get_or_default}
use Rattle.std.specs.FinMap as map
use Rattle.mesh_measure.specs.Walk.{Meets}
use Rattle.mesh_measure.specs.Ahead.{ahead}
use Rattle.mesh_measure.proofs.Ahead.{ahead_around}
use Rattle.mesh_measure.proofs.Spreading.{spreading_first, spreading_on, fewer_left, spread_all, queue_new}
use Rattle.mesh_measure.proofs.Around.{around_live}
use Rattle.mesh_measure.proofs.traversal.spread.Goals as goal

pub loop-i-init : goal.loop-i-init
loop-i-init g c =
    let m = g.S.Surface.mesh c.args.mesh.now in
    spreading_first m c.args.v c.args.met.now c.meet.new.met c.meet.new.queue
    (subst (λ q. Meets (c.args.v ∷ []) c.args.met.now c.meet.new.met q c.meet.new.queue) c.new-queue.ensures c.in_ok-meet.ensures)

pub loop-i-smaller : goal.loop-i-smaller
loop-i-smaller g c =
    let m = g.S.Surface.mesh c.args.mesh.now in
    let queue = c.loop-i.queue in
    let below : c.loop-i.i < length queue = omega arith in
    let near : c.index-as_slice-i.result ≡ get_or queue c.loop-i.i 0 = c.index-as_slice-i.is ∙ ap (λ l. get_or l c.loop-i.i c.index-as_slice-i.result) c.as_slice.ensures ∙ get_or_default queue c.loop-i.i c.index-as_slice-i.result 0 below in
    let met = subst (λ u. Meets (ahead m u) c.loop-i.met c.meet_ahead.new.met queue c.meet_ahead.new.queue) near c.in_ok-meet_ahead.ensures in
    fewer_left m c.args.v c.args.met.now c.loop-i.met c.meet_ahead.new.met queue c.meet_ahead.new.queue c.loop-i.i c.loop-i.invariant below met
    (map.keys m.points) (λ u has. around_live m (g.met.S.Surface.sound c.args.mesh.now) (get_or queue c.loop-i.i 0) u (ahead_around m (get_or queue c.loop-i.i 0) u has))

pub loop-i-preserved : goal.loop-i-preserved
loop-i-preserved g c =
    let m = g.S.Surface.mesh c.args.mesh.now in
    let queue = c.loop-i.queue in
    let below : c.loop-i.i < length queue = omega arith in
    let near : c.index-as_slice-i.result ≡ get_or queue c.loop-i.i 0 = c.index-as_slice-i.is ∙ ap (λ l. get_or l c.loop-i.i c.index-as_slice-i.result) c.as_slice.ensures ∙ get_or_default queue c.loop-i.i c.index-as_slice-i.result 0 below in
    let met = subst (λ u. Meets (ahead m u) c.loop-i.met c.meet_ahead.new.met queue c.meet_ahead.new.queue) near c.in_ok-meet_ahead.ensures in
    spreading_on m c.args.v c.args.met.now c.loop-i.met c.meet_ahead.new.met queue c.meet_ahead.new.queue c.loop-i.i c.loop-i.invariant below met

pub returns-clause-met : goal.returns-clause-met
returns-clause-met g c =
    let m = g.S.Surface.mesh c.args.mesh.now in
    let end : length c.loop-i.queue ≤ c.loop-i.i = omega arith in
    spread_all m (g.met.S.Surface.sound c.args.mesh.now) c.args.v c.args.met.now c.loop-i.met c.loop-i.queue c.loop-i.i c.loop-i.invariant end

pub returns-clause-new : goal.returns-clause-new
returns-clause-new g c = queue_new (g.S.Surface.mesh c.args.mesh.now) c.args.v c.args.met.now c.loop-i.met c.loop-i.queue c.loop-i.i c.loop-i.invariant
