use Rattle.std.proofs.Common.{sym, ◌∙◌}
use Rattle.pair_scan.proofs.MovesFit.{move_fits}
use Rattle.pair_scan.proofs.motions.MovedVerticesPaths.path_of.Goals as goal

pub of-requires : goal.of-requires
of-requires g c = (move_fits (g.M.Moves.moves c.args.self.now.moves) c.args.v c.in-Some.m c.args.self.now.fit (sym c.move_of.ensures ∙ c.in-Some.is)).start

pub of-requires-in-Some : goal.of-requires-in-Some
of-requires-in-Some g c = (move_fits (g.M.Moves.moves c.args.self.now.moves) c.args.v c.in-Some.m c.args.self.now.fit (sym c.move_of.ensures ∙ c.in-Some.is)).end
