use Rattle.std.proofs.Common.{◌++◌, append-nil, map, sym, ap, ◌∙◌}
use Rattle.edit_base.specs.declared.answers.CopyAt.{CopyAt}
use Rattle.pair_scan.proofs.Lists.{ended}
use Rattle.edit_pinch.proofs.CopiesMade.{next_mapped}
use Rattle.edit_pinch.proofs.operation.together_of.Goals as goal

pub loop-copy-preserved : goal.loop-copy-preserved
loop-copy-preserved c =
    next_mapped (λ copy. copy.w) c.args.copies.now c.loop-copy.copy-index c.copy-item.result c.loop-copy.together c.push-in-loop-copy.new.self c.loop-copy-test.true c.copy-item.is c.in_ok-push-2.ensures.ok
    ∙ c.loop-copy.invariant

pub returns : goal.returns
returns c =
    sym (append-nil c.loop-copy.together)
    ∙ ap (λ l. c.loop-copy.together ++ map (λ (copy : CopyAt). copy.w) l) (sym (ended c.args.copies.now c.loop-copy.copy-index c.loop-copy-test.false))
    ∙ c.loop-copy.invariant
