use Rattle.std.proofs.Common.{sym, ◌∙◌, subst}
use Rattle.std.specs.List.Sorted.{IsNonDecreasing}
use Rattle.obj_text.proofs.InOrder.{few_ids}
use Rattle.obj_text.proofs.Ranks.{keys_rise}
use Rattle.track_held.proofs.DenseStates.{ranked_are, ranked_rise}
use Rattle.track_held.proofs.renumbering.dense_asked.Goals as goal

pub ranked_shifts-requires : goal.ranked_shifts-requires
ranked_shifts-requires g c =
    let m = g.S.Surface.mesh c.args.mesh.now in
    let all = c.as_slice.ensures ∙ c.in_ok-ids.ensures in
    record { rising = subst IsNonDecreasing (sym all) (keys_rise m.points); few = few_ids m c.as_slice.result.now (g.met.S.Surface.sound c.args.mesh.now) all }

pub of_all-requires : goal.of_all-requires
of_all-requires g c =
    ranked_rise (g.S.Surface.mesh c.args.mesh.now) c.args.asked.now c.as_slice.result.now c.as_slice-2.result.now c.in_ok-ranked.ranked
    (c.as_slice.ensures ∙ c.in_ok-ids.ensures) (c.as_slice-2.ensures ∙ c.in_ok-all.ensures) c.in_ok-ranked.ensures

pub returns : goal.returns
returns g c =
    c.of_all.ensures
    ∙ ranked_are (g.S.Surface.mesh c.args.mesh.now) c.args.asked.now c.as_slice.result.now c.as_slice-2.result.now c.in_ok-ranked.ranked
    (c.as_slice.ensures ∙ c.in_ok-ids.ensures) (c.as_slice-2.ensures ∙ c.in_ok-all.ensures) c.in_ok-ranked.ensures
