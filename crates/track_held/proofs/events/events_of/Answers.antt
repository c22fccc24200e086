use Rattle.std.proofs.Common.{◌++◌, List, append-nil, sym, ap, ◌∙◌, arith}
use Rattle.std.specs.List.{flat_map}
use Rattle.std.proofs.lemmas.List.{drop_all}
use Rattle.log_text.specs.declared.LogLine.{LogLine}
use Rattle.pair_scan.proofs.Lists.{made_more}
use Rattle.track_held.specs.Events.{line_events}
use Rattle.track_held.proofs.events.events_of.Goals as goal

pub loop-line-preserved : goal.loop-line-preserved
loop-line-preserved c =
    made_more line_events c.args.lines.now c.loop-line.line-index c.line-item.result c.loop-line.events c.put_line.new.events (flat_map line_events c.args.lines.now) c.loop-line-test.true
    (c.in_ok-put_line.ensures ∙ ap (λ (l : LogLine). c.loop-line.events ++ line_events l) c.line-item.is) c.loop-line.invariant

pub returns : goal.returns
returns c =
    sym (append-nil c.loop-line.events)
    ∙ ap (λ (l : List LogLine). c.loop-line.events ++ flat_map line_events l) (sym (drop_all c.loop-line.line-index c.args.lines.now (omega arith)))
    ∙ c.loop-line.invariant
