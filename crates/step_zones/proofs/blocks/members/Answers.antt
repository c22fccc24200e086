use Rattle.std.proofs.Common.{◌≡◌, ℕ, ◌==◌, Bool, ap, sym, ◌∙◌}
use Rattle.step_zones.specs.Ranks.{label_by}
use Rattle.step_zones.proofs.Listing.{kept_more, kept_skip, kept_all}
use Rattle.step_zones.proofs.Summed.{label_at}
use Rattle.step_zones.proofs.blocks.members.Goals as goal
use Rattle.step_zones.proofs.blocks.members.Goals.{then-eq+in_ok-push, else-eq}

pub loop-i-preserved : goal.loop-i-preserved
loop-i-preserved c =
    let test : ℕ → Bool = λ v. label_by c.args.asked.now c.args.labels.now v == c.args.l in
    let label = label_at c.args.asked.now c.args.labels.now c.requires.rising c.requires.each c.loop-i.i c.index-labels-i.result c.index-asked-i.result c.loop-i-test.true c.index-asked-i.is c.index-labels-i.is in
    let is : test c.index-asked-i.result.v ≡ c.eq.result = ap (λ k. k == c.args.l) (sym label) ∙ sym c.eq.ensures in
    elim c.if-eq.branch [
      | then-eq+in_ok-push w ↦ kept_more test c.args.asked.now c.loop-i.i c.index-asked-i.result c.loop-i.ids c.if-eq.ids _ c.loop-i-test.true c.index-asked-i.is (is ∙ w.if-eq.true) (w.ids-is ∙ w.in_ok-push.ensures.ok) c.loop-i.invariant
      | else-eq w ↦ kept_skip test c.args.asked.now c.loop-i.i c.index-asked-i.result c.loop-i.ids c.if-eq.ids _ c.loop-i-test.true c.index-asked-i.is (is ∙ w.if-eq.false) w.ids-is c.loop-i.invariant
    ]

pub returns : goal.returns
returns c = kept_all (λ v. label_by c.args.asked.now c.args.labels.now v == c.args.l) c.args.asked.now c.loop-i.i c.loop-i.ids _ c.loop-i-test.false c.loop-i.invariant
