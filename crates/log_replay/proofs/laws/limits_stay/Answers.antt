use Rattle.log_replay.proofs.Limits.{limits_stay, limits-after_lines, limits_stay_within, within_large}
use Rattle.log_replay.proofs.laws.limits_stay.Goals as goal

pub returns : goal.returns
returns c = record { replays = limits_stay; meshes = limits-after_lines; within = limits_stay_within; greatest = within_large }
