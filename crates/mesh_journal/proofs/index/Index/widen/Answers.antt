use Rattle.std.proofs.Common.{sym, subst}
use Rattle.mesh_journal.specs.Boxed.{Holds}
use Rattle.mesh_journal.proofs.Boxed.{held-wider}
use Rattle.mesh_journal.proofs.index.Index.widen.Goals as goal

pub returns-clause-at : goal.returns-clause-at
returns-clause-at c = c.set_box.ensures.at c.args.p c.wider_box-around.ensures.new

pub returns-clause-keeps : goal.returns-clause-keeps
returns-clause-keeps c = held-wider c.args.self.now.grid c.set_box.new.boxes c.in-Some.grid c.args.f c.wider_box-around.result c.in-Some.is
    (λ d t. c.wider_box-around.ensures.old d t) c.set_box.ensures.at
    (λ q t apart h. c.set_box.ensures.others q t apart (subst (λ o. Holds o q t) (sym c.note_widened.ensures.grid) h))
