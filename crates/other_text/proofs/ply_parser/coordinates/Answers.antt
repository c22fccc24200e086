use Rattle.std.proofs.Common.{drop, sym, ◌∙◌, arith}
use Rattle.std.proofs.lemmas.List.{drop_more, drop_all}
use Rattle.grid_base.specs.Points.{position_of}
use Rattle.line_text.specs.Remaining.{words_left}
use Rattle.other_text.specs.declared.ply_head.Role.TheVariants.{X}
use Rattle.other_text.proofs.Coordinates.{coordinate_more, coordinate_fault, coordinate_short, coordinates_end}
use Rattle.other_text.proofs.ply_parser.coordinates.Goals as goal

pub returns-in_default : goal.returns-in_default
returns-in_default c = sym c.loop-role.invariant ∙ coordinate_short c.args.decimals (drop c.loop-role.role-index c.args.roles.now) (words_left c.loop-role.words) (position_of c.loop-role.p) _ _ (drop_more c.args.roles.now c.loop-role.role-index X c.loop-role-test.true) c.in_default.ensures.steps.0

pub returns-in-Err : goal.returns-in-Err
returns-in-Err c = sym c.loop-role.invariant ∙ coordinate_fault c.args.decimals (drop c.loop-role.role-index c.args.roles.now) (words_left c.loop-role.words) (position_of c.loop-role.p) _ _ (drop_more c.args.roles.now c.loop-role.role-index X c.loop-role-test.true) c.in-Some.word.now (words_left c.next.new.self) c.in-Some.ensures.steps c.in-Err.why c.in-Err.ensures

pub loop-role-preserved : goal.loop-role-preserved
loop-role-preserved c = sym (coordinate_more c.args.decimals (drop c.loop-role.role-index c.args.roles.now) (words_left c.loop-role.words) (position_of c.loop-role.p) _ _ (drop_more c.args.roles.now c.loop-role.role-index X c.loop-role-test.true) c.in-Some.word.now (words_left c.next.new.self) c.in-Some.ensures.steps (position_of c.in-Ok.next) c.in-Ok.ensures) ∙ c.loop-role.invariant

pub returns : goal.returns
returns c = sym c.loop-role.invariant ∙ coordinates_end c.args.decimals (drop c.loop-role.role-index c.args.roles.now) (words_left c.loop-role.words) (position_of c.loop-role.p) (drop_all c.loop-role.role-index c.args.roles.now (omega arith))
