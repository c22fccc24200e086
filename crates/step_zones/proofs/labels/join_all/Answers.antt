use Rattle.std.proofs.Common.{◌≡◌, List, ℕ, length, refl, ap, sym, ◌∙◌}
use Rattle.mesh_base.specs.declared.ids.PairName.{PairName}
use Rattle.mesh_base.specs.Pairs.{five_ids}
use Rattle.pair_scan.specs.Named.{pair_named}
use Rattle.pair_scan.proofs.Lists.{ended}
use Rattle.step_zones.specs.Ranks.{joined_in, joined_all}
use Rattle.step_zones.proofs.Ranked.{joined_more, joined_length}
use Rattle.step_zones.proofs.labels.join_all.Goals as goal

pub loop-name-preserved : goal.loop-name-preserved
loop-name-preserved g c =
    let m = g.S.Surface.mesh c.args.mesh.now in
    let names : List PairName = c.as_slice-name-items.result.now in
    let joined : c.join.new.labels ≡ joined_in c.args.asked.now c.loop-name.labels (five_ids (pair_named m c.name-item.result)) = c.in_ok-join.ensures.joined refl ∙ ap (joined_in c.args.asked.now c.loop-name.labels) c.five_of-five.ensures in
    record {
      whole = joined_more m c.args.asked.now names c.loop-name.name-index c.name-item.result c.loop-name.labels c.join.new.labels (joined_all m c.args.asked.now c.args.labels.now names)
          c.loop-name-test.true c.name-item.is joined c.loop-name.invariant.whole;
      each = ap (λ (l : List ℕ). length l) joined ∙ joined_length c.args.asked.now c.loop-name.labels (five_ids (pair_named m c.name-item.result)) ∙ c.loop-name.invariant.each;
      alone = c.in_ok-join.ensures.alone refl;
    }

pub join-requires-clause-alone : goal.join-requires-clause-alone
join-requires-clause-alone g c = c.loop-name.invariant.alone

pub returns : goal.returns
returns g c =
    let m = g.S.Surface.mesh c.args.mesh.now in
    let names : List PairName = c.as_slice-name-items.result.now in
    record {
      joined = λ _.
          (λ i. joined_all m c.args.asked.now c.loop-name.labels (sym (ended names c.loop-name.name-index c.loop-name-test.false) i))
          ∙ c.loop-name.invariant.whole ∙ ap (joined_all m c.args.asked.now c.args.labels.now) c.as_slice-name-items.ensures;
      alone = λ _. c.loop-name.invariant.alone;
    }
