use Rattle.std.proofs.Common.{◌++◌, ◌∷◌, [], append-nil, map, sym, ap, ◌∙◌}
use Rattle.edit_base.specs.declared.answers.CopyAt.{CopyAt}
use Rattle.pair_scan.proofs.Lists.{ended}
use Rattle.edit_pinch.specs.Pinch.{move_to}
use Rattle.edit_pinch.proofs.CopiesMade.{next_mapped}
use Rattle.edit_pinch.proofs.operation.moves_of.Goals as goal

pub loop-copy-preserved : goal.loop-copy-preserved
loop-copy-preserved c =
    let here = c.args.here in
    let copy = c.copy-item.result in
    next_mapped (λ copy. move_to here copy.w copy.at) c.args.copies.now c.loop-copy.copy-index copy c.loop-copy.moves c.push-in-loop-copy.new.self c.loop-copy-test.true c.copy-item.is
    (c.in_ok-push-2.ensures.ok ∙ ap (λ end. c.loop-copy.moves ++ record { v = copy.w; start = here; end = end } ∷ []) c.doubled-in-loop-copy.ensures.value)
    ∙ c.loop-copy.invariant

pub returns : goal.returns
returns c =
    sym (append-nil c.loop-copy.moves)
    ∙ ap (λ l. c.loop-copy.moves ++ map (λ (copy : CopyAt). move_to c.args.here copy.w copy.at) l) (sym (ended c.args.copies.now c.loop-copy.copy-index c.loop-copy-test.false))
    ∙ c.loop-copy.invariant
