use Rattle.track_try.proofs.Counts.{lines_told, steps_told, whole_steps_told, splits_told}
use Rattle.track_try.proofs.laws.counts_of_a_text_are_those_of_its_lines.Goals as goal

pub returns : goal.returns
returns c = record { lines = lines_told; steps = steps_told; whole_steps = whole_steps_told; splits = splits_told }
