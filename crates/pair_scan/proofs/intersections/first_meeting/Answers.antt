use Rattle.std.proofs.Common.{◌∙◌}
use Rattle.pair_scan.proofs.Clear.{clear_exactly, answer_meets}
use Rattle.pair_scan.proofs.InOrder.{answer_is_first}
use Rattle.pair_scan.proofs.Scans.{first_told}
use Rattle.pair_scan.proofs.intersections.first_meeting.Goals as goal

pub returns-clause-first : goal.returns-clause-first
returns-clause-first g c = c.first_of-first.ensures ∙ first_told (g.S.Surface.mesh c.args.mesh.now) c.in_ok-found.found c.in_ok-found.ensures

pub returns-clause-clear : goal.returns-clause-clear
returns-clause-clear g c = clear_exactly (g.S.Surface.mesh c.args.mesh.now) c.first_of-first.result (g.met.S.Surface.sound c.args.mesh.now) (returns-clause-first g c)

pub returns-clause-meets : goal.returns-clause-meets
returns-clause-meets g c = answer_meets (g.S.Surface.mesh c.args.mesh.now) c.first_of-first.result (returns-clause-first g c)

pub returns-clause-least : goal.returns-clause-least
returns-clause-least g c = answer_is_first (g.S.Surface.mesh c.args.mesh.now) c.first_of-first.result (g.met.S.Surface.sound c.args.mesh.now) (returns-clause-first g c)
