use Rattle.std.proofs.Common.{◌≡◌, ℕ, ◌<◌, ◌+◌, map, true, false, Some, refl, ap, sym, subst, ◌∙◌, arith}
use Rattle.std.specs.Option.{option_map}
use Rattle.grid_decided.specs.Decided.{meets_exactly, meets_exactly-is_exact}
use Rattle.mesh_base.specs.Shifts.{Shifts, NameLive, end_in_box, shift_at}
use Rattle.mesh_base.specs.Mesh.{IsSound}
use Rattle.pair_scan.proofs.Paths.{ids_sorted}
use Rattle.step_zones.specs.Ranks.{AreAlone}
use Rattle.step_zones.proofs.Alone.{alone_first}
use Rattle.step_zones.specs.declared.found.Zoned.{Zoned}
use Rattle.step_zones.specs.Rounds.{round_shifts, IsFirstToServe, SomeRoundLeaves}
use Rattle.step_zones.specs.Zoned.{zoned_at}
use Rattle.step_zones.proofs.Rounds.{fewer_each_round, few_rounds}
use Rattle.step_zones.proofs.Searched.{ready_as, shifts_as, shifts_named, solids_stay, blocks_as, hits_as, none_as, some_as, labels_as, one_more_fails, one_more_ends, first_is_taken, none_is_taken, rounds_left, vertices_are_few, first_labels}
use Rattle.step_zones.proofs.zone_search.zones_told.Goals as goal

pub round-init : goal.round-init
round-init g c =
    let m = g.S.Surface.mesh c.args.mesh.now in
    record {
      labels = c.in_ok-labels.ensures ∙ ap (map (λ s. s.v)) c.as_slice.ensures ∙ first_labels m c.args.asked.now c.args.depth;
      alone =
          let each = c.in_ok-labels.ensures ∙ ap (map (λ s. s.v)) c.as_slice.ensures in
          subst (AreAlone c.args.asked.now c.new-places.result.items) (sym each)
          (subst (λ ps. AreAlone c.args.asked.now ps (map (λ s. s.v) c.args.asked.now)) (sym c.new-places.ensures.items) (alone_first c.args.asked.now (ids_sorted m c.args.asked.now c.requires.named)));
      each_fails = λ q h. absurd (omega arith);
      in_box = λ q h. absurd (omega arith);
    }

pub zone_shifts-requires : goal.zone_shifts-requires
zone_shifts-requires g c =
    let m = g.S.Surface.mesh c.args.mesh.now in
    let ready = ready_as m c.args.asked.now c.args.depth c.round.rounds (g.met.S.Surface.sound c.args.mesh.now) c.requires.named c.as_slice-in-round.result.now c.as_slice-in-round-2.result.now c.as_slice-in-round.ensures (c.as_slice-in-round-2.ensures ∙ c.round.invariant.labels) in
    record { rising = ready.rising; each = ready.each; few = ready.few; named = ready.named }

pub failing-requires-clause-named : goal.failing-requires-clause-named
failing-requires-clause-named g c =
    let m = g.S.Surface.mesh c.args.mesh.now in
    let sound = g.met.S.Surface.sound c.args.mesh.now in
    let taken = shifts_as m c.args.asked.now c.args.depth c.round.rounds sound c.requires.named c.as_slice-in-round.result.now c.as_slice-in-round-2.result.now c.in_ok-taken.taken c.as_slice-in-round.ensures (c.as_slice-in-round-2.ensures ∙ c.round.invariant.labels) c.in_ok-taken.ensures in
    subst (NameLive m) (sym taken) (shifts_named m c.args.asked.now c.args.depth c.round.rounds sound c.requires.named)

pub returns-then-not-end_in_box : goal.returns-then-not-end_in_box
returns-then-not-end_in_box g c =
    let m = g.S.Surface.mesh c.args.mesh.now in
    let sound = g.met.S.Surface.sound c.args.mesh.now in
    let taken = shifts_as m c.args.asked.now c.args.depth c.round.rounds sound c.requires.named c.as_slice-in-round.result.now c.as_slice-in-round-2.result.now c.in_ok-taken.taken c.as_slice-in-round.ensures (c.as_slice-in-round-2.ensures ∙ c.round.invariant.labels) c.in_ok-taken.ensures in
    let leaves : end_in_box m (round_shifts meets_exactly m c.args.asked.now c.args.depth c.round.rounds) ≡ false =
    ap (end_in_box m) (sym (c.as_slice-in-round-3.ensures ∙ taken)) ∙ sym c.end_in_box.ensures ∙ c.if-not-end_in_box.true in
    let some : SomeRoundLeaves meets_exactly m c.args.asked.now c.args.depth = (c.round.rounds, record { leaves = leaves; each_fails = c.round.invariant.each_fails }) in
    record {
      zoned = sym (ap (option_map (zoned_at meets_exactly m c.args.asked.now c.args.depth)) (none_is_taken meets_exactly m c.args.asked.now c.args.depth some));
      first = some;
      few = tt;
      names = tt;
      solid = tt;
    }

pub blocks_of-requires : goal.blocks_of-requires
blocks_of-requires g c =
    let m = g.S.Surface.mesh c.args.mesh.now in
    let ready = ready_as m c.args.asked.now c.args.depth c.round.rounds (g.met.S.Surface.sound c.args.mesh.now) c.requires.named c.as_slice-then-len-eq0.result.now c.as_slice-then-len-eq0-2.result.now c.as_slice-then-len-eq0.ensures (c.as_slice-then-len-eq0-2.ensures ∙ c.round.invariant.labels) in
    record { rising = ready.rising; each = ready.each; few = ready.few }

pub returns-then-len-eq0 : goal.returns-then-len-eq0
returns-then-len-eq0 g c =
    let m = g.S.Surface.mesh c.args.mesh.now in
    let asked : Shifts = c.args.asked.now in
    let depth : ℕ = c.args.depth in
    let sound = g.met.S.Surface.sound c.args.mesh.now in
    let taken = shifts_as m asked depth c.round.rounds sound c.requires.named c.as_slice-in-round.result.now c.as_slice-in-round-2.result.now c.in_ok-taken.taken c.as_slice-in-round.ensures (c.as_slice-in-round-2.ensures ∙ c.round.invariant.labels) c.in_ok-taken.ensures in
    let hits = hits_as m asked depth c.round.rounds sound c.requires.named c.in_ok-taken.taken c.in_ok-hits.hits taken c.in_ok-hits.ensures.failing in
    let none = none_as m asked depth c.round.rounds sound c.requires.named c.in_ok-hits.hits hits (sym c.len.ensures ∙ c.if-len-eq0.true) in
    let ends : end_in_box m (round_shifts meets_exactly m asked depth c.round.rounds) ≡ true =
    ap (end_in_box m) (sym (c.as_slice-in-round-3.ensures ∙ taken)) ∙ sym c.end_in_box.ensures ∙ c.if-not-end_in_box.false in
    let up_to : (q : ℕ) → q < c.round.rounds + 1 → end_in_box m (round_shifts meets_exactly m asked depth q) ≡ true = one_more_ends meets_exactly m asked depth c.round.rounds c.round.invariant.in_box ends in
    let first : IsFirstToServe meets_exactly m asked depth c.round.rounds = record { none_fails = none; in_box = λ q h. up_to q (omega arith); each_fails = c.round.invariant.each_fails } in
    let few = rounds_left meets_exactly m asked depth c.round.rounds meets_exactly-is_exact sound c.requires.clear c.requires.named c.round.invariant.each_fails in
    let made = blocks_as m asked depth c.round.rounds sound c.requires.named c.as_slice-then-len-eq0.result.now c.as_slice-then-len-eq0-2.result.now c.in_ok-blocks.blocks c.as_slice-then-len-eq0.ensures (c.as_slice-then-len-eq0-2.ensures ∙ c.round.invariant.labels) c.in_ok-blocks.ensures in
    let is : ◌≡◌ {A = Zoned} (record { rounds = c.round.rounds; taken = c.in_ok-taken.taken; blocks = c.in_ok-blocks.blocks }) (zoned_at meets_exactly m asked depth c.round.rounds) =
    (λ i. record { rounds = c.round.rounds; taken = taken i; blocks = made i }) in
    record {
      zoned = ap Some is ∙ sym (ap (option_map (zoned_at meets_exactly m asked depth)) (first_is_taken meets_exactly m asked depth c.round.rounds few first));
      first = first;
      few = λ some. few_rounds meets_exactly m asked depth c.round.rounds meets_exactly-is_exact sound c.requires.clear c.requires.named some c.round.invariant.each_fails;
      names = subst (NameLive m) (sym taken) (shifts_named m asked depth c.round.rounds sound c.requires.named);
      solid = λ v solid none. ap (λ (l : Shifts). shift_at l v) taken ∙ solids_stay m asked depth c.round.rounds sound c.requires.named v solid none;
    }

pub join_all-requires : goal.join_all-requires
join_all-requires g c =
    let m = g.S.Surface.mesh c.args.mesh.now in
    let ready = ready_as m c.args.asked.now c.args.depth c.round.rounds (g.met.S.Surface.sound c.args.mesh.now) c.requires.named c.as_slice-in-round-4.result.now c.round.labels c.as_slice-in-round-4.ensures c.round.invariant.labels in
    record { rising = ready.rising; each = ready.each; alone = subst (λ a. AreAlone a c.round.places.items c.round.labels) (sym c.as_slice-in-round-4.ensures) c.round.invariant.alone }

pub overflow_add-rounds : goal.overflow_add-rounds
overflow_add-rounds g c =
    let m = g.S.Surface.mesh c.args.mesh.now in
    let sound : IsSound m = g.met.S.Surface.sound c.args.mesh.now in
    let left = rounds_left meets_exactly m c.args.asked.now c.args.depth c.round.rounds meets_exactly-is_exact sound c.requires.clear c.requires.named c.round.invariant.each_fails in
    let few = vertices_are_few m sound in
    omega arith

pub round-preserved : goal.round-preserved
round-preserved g c =
    let m = g.S.Surface.mesh c.args.mesh.now in
    let asked : Shifts = c.args.asked.now in
    let sound = g.met.S.Surface.sound c.args.mesh.now in
    let taken = shifts_as m asked c.args.depth c.round.rounds sound c.requires.named c.as_slice-in-round.result.now c.as_slice-in-round-2.result.now c.in_ok-taken.taken c.as_slice-in-round.ensures (c.as_slice-in-round-2.ensures ∙ c.round.invariant.labels) c.in_ok-taken.ensures in
    let hits = hits_as m asked c.args.depth c.round.rounds sound c.requires.named c.in_ok-taken.taken c.in_ok-hits.hits taken c.in_ok-hits.ensures.failing in
    let some = some_as m asked c.args.depth c.round.rounds sound c.requires.named c.in_ok-hits.hits hits (λ none. c.if-len-eq0.false (c.len.ensures ∙ none)) in
    let ends : end_in_box m (round_shifts meets_exactly m asked c.args.depth c.round.rounds) ≡ true =
    ap (end_in_box m) (sym (c.as_slice-in-round-3.ensures ∙ taken)) ∙ sym c.end_in_box.ensures ∙ c.if-not-end_in_box.false in
    record {
      labels = labels_as m asked c.args.depth c.round.rounds sound c.requires.named c.as_slice-in-round-4.result.now c.round.labels c.join_all.new.labels c.in_ok-hits.hits c.as_slice-in-round-4.ensures c.round.invariant.labels hits (c.in_ok-join_all.ensures.joined refl);
      alone = subst (λ a. AreAlone a c.join_all.new.places.items c.join_all.new.labels) c.as_slice-in-round-4.ensures (c.in_ok-join_all.ensures.alone refl);
      each_fails = one_more_fails meets_exactly m asked c.args.depth c.round.rounds c.round.invariant.each_fails some;
      in_box = one_more_ends meets_exactly m asked c.args.depth c.round.rounds c.round.invariant.in_box ends;
    }

pub round-smaller : goal.round-smaller
round-smaller g c =
    let m = g.S.Surface.mesh c.args.mesh.now in
    let asked : Shifts = c.args.asked.now in
    let sound = g.met.S.Surface.sound c.args.mesh.now in
    let taken = shifts_as m asked c.args.depth c.round.rounds sound c.requires.named c.as_slice-in-round.result.now c.as_slice-in-round-2.result.now c.in_ok-taken.taken c.as_slice-in-round.ensures (c.as_slice-in-round-2.ensures ∙ c.round.invariant.labels) c.in_ok-taken.ensures in
    let hits = hits_as m asked c.args.depth c.round.rounds sound c.requires.named c.in_ok-taken.taken c.in_ok-hits.hits taken c.in_ok-hits.ensures.failing in
    fewer_each_round meets_exactly m asked c.args.depth c.round.rounds meets_exactly-is_exact sound c.requires.clear c.requires.named
    (some_as m asked c.args.depth c.round.rounds sound c.requires.named c.in_ok-hits.hits hits (λ none. c.if-len-eq0.false (c.len.ensures ∙ none)))
