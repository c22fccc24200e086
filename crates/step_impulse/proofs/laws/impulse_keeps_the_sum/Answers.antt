use Rattle.step_impulse.proofs.Shares.{sum_kept}
use Rattle.step_impulse.proofs.laws.impulse_keeps_the_sum.Goals as goal

pub returns : goal.returns
returns c f ids fixed shifts are = sum_kept f ids fixed shifts are.differ are.five_ids are.five_shifts are.free
