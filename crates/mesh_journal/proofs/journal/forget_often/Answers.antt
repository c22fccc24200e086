use Rattle.std.proofs.Common.{sym, subst}
use Rattle.mesh_journal.specs.Entries.{MarksAreBuried}
use Rattle.mesh_journal.proofs.Undone.{marks-none}
use Rattle.mesh_journal.proofs.journal.forget_often.Goals as goal

pub returns-clause-marks : goal.returns-clause-marks
returns-clause-marks g c = λ marks. subst MarksAreBuried (sym c.forget.ensures.state) (marks-none (g.B.Undoable.state c.args.mesh.now).mesh)
