-- What a line of a log tells, as far as those look who watch a run.
use Rattle.std.specs.Prelude.{true, false}
use Rattle.edit_base.specs.declared.Change.TheVariants as change
use Rattle.log_text.specs.declared.LogLine.{LogLine}
use Rattle.log_text.specs.declared.LogLine.TheVariants as line
use Rattle.outside_io.specs.declared.LineKind.{LineKind}
use Rattle.outside_io.specs.declared.LineKind.TheVariants.{Step, Group, Kept, Undone, Gone, Other}

-- that a step begins, that a group is opened, kept or taken back, that a collapse takes a vertex
-- away, its second, or something else
abbrev pub kind_of : LogLine → LineKind
kind_of (line.Step k) = Step
kind_of line.Group = Group
kind_of (line.Close true) = Kept
kind_of (line.Close false) = Undone
kind_of (line.Did (change.Collapse a b at)) = Gone b
kind_of _ = Other
