use Rattle.std.proofs.Common.{◌≡◌, map, take, ap, ◌∙◌}
use Rattle.mesh_base.specs.declared.steps.ShiftOf.{ShiftOf}
use Rattle.step_zones.specs.declared.totals.Total.{Total}
use Rattle.step_zones.specs.Ranks.{label_by}
use Rattle.mesh_base.specs.Mesh.{is_solid}
use Rattle.mesh_base.specs.Shifts.{Shifts}
use Rattle.std.proofs.lemmas.List.{take_all}
use Rattle.std.proofs.lemmas.Option.{slice_get_within}
use Rattle.std.specs.Prelude.{slice_set}
use Rattle.std.specs.declared.vec.Vec.{Vec}
use Rattle.std.specs.declared.alloc.Global.{Global}
use Rattle.step_zones.specs.Totals.{with_one, total_of}
use Rattle.step_zones.proofs.Summed.{place_made, summed_more, summed_none, total_here, room_for_one, room_for_sum}
use Rattle.step_zones.proofs.totals.totals_of.Goals as goal
use Rattle.step_zones.proofs.totals.totals_of.Goals.{in-Some, in_default}

pub index-requires : goal.index-requires
index-requires g c =
    let m = g.S.Surface.mesh c.args.mesh.now in
    let found = c.in-Some.ensures in
    place_made (λ (x : ShiftOf). total_of m (label_by c.args.asked.now c.args.labels.now) x.v (take c.loop-i.i c.args.asked.now)) c.args.asked.now c.loop-i.totals.items c.loop-i.totals.len c.in-Some.place c.loop-i.totals.ok.0 c.loop-i.invariant (slice_get_within c.args.asked.now c.in-Some.place found.0 found.1)

pub index_mut-requires : goal.index_mut-requires
index_mut-requires g c =
    let m = g.S.Surface.mesh c.args.mesh.now in
    let found = c.in-Some.ensures in
    place_made (λ (x : ShiftOf). total_of m (label_by c.args.asked.now c.args.labels.now) x.v (take c.loop-i.i c.args.asked.now)) c.args.asked.now c.loop-i.totals.items c.loop-i.totals.len c.in-Some.place c.loop-i.totals.ok.0 c.loop-i.invariant (slice_get_within c.args.asked.now c.in-Some.place found.0 found.1)

pub returns : goal.returns
returns g c =
    let m = g.S.Surface.mesh c.args.mesh.now in
    let at = label_by c.args.asked.now c.args.labels.now in
    c.loop-i.invariant ∙ ap (λ (l : Shifts). map (λ (x : ShiftOf). total_of m at x.v l) c.args.asked.now) (take_all c.loop-i.i c.args.asked.now c.loop-i-test.false)

pub with_one-requires-clause-few : goal.with_one-requires-clause-few
with_one-requires-clause-few g c =
    let m = g.S.Surface.mesh c.args.mesh.now in
    let found = c.in-Some.ensures in
    room_for_one m c.args.asked.now c.args.labels.now c.requires.rising c.requires.each c.loop-i.i found.0 c.index.result.now c.loop-i-test.true c.requires.few
    (total_here m c.args.asked.now c.args.labels.now c.requires.rising c.requires.each c.loop-i.i c.in-Some.place found.0 c.index.result.now c.loop-i.totals.items found.1 c.loop-i.invariant c.index.ensures)

pub with_one-requires-clause-small : goal.with_one-requires-clause-small
with_one-requires-clause-small g c =
    let m = g.S.Surface.mesh c.args.mesh.now in
    let found = c.in-Some.ensures in
    room_for_sum m c.args.asked.now c.args.labels.now c.requires.rising c.requires.each c.loop-i.i found.0 c.index.result.now c.loop-i-test.true c.requires.few
    (total_here m c.args.asked.now c.args.labels.now c.requires.rising c.requires.each c.loop-i.i c.in-Some.place found.0 c.index.result.now c.loop-i.totals.items found.1 c.loop-i.invariant c.index.ensures)

pub loop-i-preserved : goal.loop-i-preserved
loop-i-preserved g c =
    let m = g.S.Surface.mesh c.args.mesh.now in
    let s : ShiftOf = c.index-asked-i.result in
    elim c.match-place_of.branch [
      | in-Some w ↦
          let found = w.in-Some.ensures in
          let is = total_here m c.args.asked.now c.args.labels.now c.requires.rising c.requires.each c.loop-i.i w.in-Some.place found.0 w.index.result.now c.loop-i.totals.items found.1 c.loop-i.invariant w.index.ensures in
          let made : w.with_one.result ≡ with_one w.index.result.now s.by (is_solid m s.v) = w.with_one.ensures ∙ ap (with_one w.index.result.now s.by) w.solid.ensures in
          let set : c.match-place_of.totals.items ≡ slice_set c.loop-i.totals.items w.in-Some.place (with_one w.index.result.now s.by (is_solid m s.v)) =
          ap (λ (v : Vec Total Global). v.items) w.totals-is ∙ ap (slice_set c.loop-i.totals.items w.in-Some.place) made in
          summed_more m c.args.asked.now c.args.labels.now c.requires.rising c.requires.each c.loop-i.i c.index-labels-i.result w.in-Some.place s found.0 w.index.result.now c.loop-i.totals.items c.match-place_of.totals.items
          c.loop-i-test.true c.index-asked-i.is c.index-labels-i.is found.1 found.2 is c.loop-i.invariant set
      | in_default w ↦
          ap (λ (v : Vec Total Global). v.items) w.totals-is
          ∙ summed_none m c.args.asked.now c.args.labels.now c.requires.rising c.requires.each c.loop-i.i c.index-labels-i.result s c.loop-i.totals.items c.loop-i-test.true c.index-asked-i.is c.index-labels-i.is w.in_default.ensures c.loop-i.invariant
    ]
