use Rattle.std.proofs.Common.{rules}
use Rattle.line_text.specs.Faults.{Gives}
use Rattle.step_text.specs.declared.directive.Placed.{Placed}
use Rattle.std.proofs.Common.{List}
use Rattle.step_text.specs.Steps.{steps_of}
use Rattle.step_text.proofs.StepLaws.{read_ranges, read_lines, read_nested}
use Rattle.step_text.proofs.parser.read_steps.Goals as goal

pub returns-clause-ranges : goal.returns-clause-ranges
returns-clause-ranges c = let value : Gives (λ (d : List Placed). d) c.check_closed.result (steps_of c.args.bytes.now) = search rules in read_ranges c.args.bytes.now c.check_closed.result value

pub returns-clause-lines : goal.returns-clause-lines
returns-clause-lines c = let value : Gives (λ (d : List Placed). d) c.check_closed.result (steps_of c.args.bytes.now) = search rules in read_lines c.args.bytes.now c.check_closed.result value

pub returns-clause-nested : goal.returns-clause-nested
returns-clause-nested c = let value : Gives (λ (d : List Placed). d) c.check_closed.result (steps_of c.args.bytes.now) = search rules in read_nested c.args.bytes.now c.check_closed.result value
