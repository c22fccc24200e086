use Rattle.std.proofs.Common.{ap, sym, ◌∙◌, cond}
use Rattle.std.specs.Option.{unwrap_or}
use Rattle.track_engine.specs.State.{still_at, asked_of}
use Rattle.track_engine.proofs.ShiftLemmas.{at_rest}
use Rattle.track_engine.proofs.shift_sums.still_asked.Goals as goal

pub returns-then-solid : goal.returns-then-solid
returns-then-solid g c =
    at_rest c.args.v _ ∙ sym (ap (λ b. cond b (still_at c.args.v) (unwrap_or (asked_of c.args.v c.args.asked.now) (still_at c.args.v))) (sym c.solid.ensures ∙ c.if-solid.true))
