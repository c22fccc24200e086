use Rattle.std.proofs.Common.{sym, subst}
use Rattle.mesh_journal.specs.Boxed.{AreBoxed}
use Rattle.mesh_journal.proofs.Covers.{IsIndexed, present}
use Rattle.mesh_journal.proofs.journal.JournalSurface.faces_near.Goals as goal

pub near_in-requires-clause-boxed : goal.near_in-requires-clause-boxed
near_in-requires-clause-boxed g c =
    let s = c.args.self.now in
    let old = g.B.Undoable.state s.inner in
    let ix : IsIndexed s.boxes.since s.boxes.grid s.entries.items old = record { boxed = s.boxed; since_there = s.since_there } in
    subst (λ o. AreBoxed o (g.B.Surface.mesh s.inner)) c.in-Some.is
    (subst (AreBoxed s.boxes.grid) (sym (g.met.B.Undoable.same_mesh s.inner)) (present s.boxes.since s.boxes.grid s.entries.items old ix))
