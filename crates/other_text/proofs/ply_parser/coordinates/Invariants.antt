use Rattle.std.proofs.Common.{◌≡◌, drop}
use Rattle.grid_base.specs.Points.{position_of}
use Rattle.line_text.specs.Remaining.{words_left}
use Rattle.other_text.specs.Ply.{coordinates_of}
use Rattle.other_text.proofs.ply_parser.coordinates.Given as goal

abbrev pub invariant-loop-role : goal.invariant-loop-role
invariant-loop-role l = coordinates_of l.decimals (drop l.role-index l.roles) (words_left l.words) (position_of l.p) ≡ coordinates_of l.decimals l.roles (words_left l.fn.words) (position_of l.fn.start)
