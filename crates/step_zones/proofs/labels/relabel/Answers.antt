use Rattle.std.proofs.Common.{take, get_or, ap, sym, ◌∙◌}
use Rattle.std.specs.Prelude.{slice_set}
use Rattle.std.proofs.lemmas.List.{take_more, take_all}
use Rattle.step_zones.specs.Ranks.{relabelled_at}
use Rattle.step_zones.proofs.Alone.{none_joined, one_more, none_more}
use Rattle.step_zones.proofs.labels.relabel.Goals as goal
use Rattle.step_zones.proofs.labels.relabel.Goals.{in-Some, in_default}

pub loop-place-init : goal.loop-place-init
loop-place-init c = none_joined c.args.touched.now 0 c.args.labels.now

pub loop-place-preserved : goal.loop-place-preserved
loop-place-preserved c =
    let places = c.args.places.now in
    let k = c.loop-place.place-index in
    let p = get_or places k 0 in
    let more = ap (λ ps. relabelled_at c.args.touched.now ps 0 c.args.labels.now) (sym (take_more places k 0 c.loop-place-test.true)) in
    elim c.match-get.branch [
      | in-Some w ↦
          one_more c.args.touched.now (take k places) c.args.labels.now c.loop-place.labels c.match-get.labels p w.in-Some.l.now c.loop-place.invariant (sym w.in-Some.ensures)
          (w.labels-is ∙ w.set.ensures ∙ ap (slice_set c.loop-place.labels p) w.relabelled-l.ensures)
          ∙ more
      | in_default w ↦ w.labels-is ∙ none_more c.args.touched.now (take k places) c.args.labels.now c.loop-place.labels p c.loop-place.invariant (sym w.in_default.ensures) ∙ more
    ]

pub returns : goal.returns
returns c = c.loop-place.invariant ∙ ap (λ ps. relabelled_at c.args.touched.now ps 0 c.args.labels.now) (take_all c.loop-place.place-index c.args.places.now c.loop-place-test.false)
