use Rattle.grid_base.proofs.SeparationLaws.{NeverMeet-at_start, NeverMeet-at_end, NeverMeetAfterStart-at_end, NeverMeetBeforeEnd-at_start}
use Rattle.grid_base.proofs.laws.ends_are_apart.Goals as goal

pub returns : goal.returns
returns c = record { start = NeverMeet-at_start; end = NeverMeet-at_end; end_after_start = NeverMeetAfterStart-at_end; start_before_end = NeverMeetBeforeEnd-at_start }
