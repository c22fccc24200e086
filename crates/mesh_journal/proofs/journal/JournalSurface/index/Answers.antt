use Rattle.std.proofs.Common.{◌∙◌}
use Rattle.mesh_journal.proofs.Covers.{made_anew, renumbered}
use Rattle.std.proofs.Common.{length}
use Rattle.mesh_journal.proofs.journal.JournalSurface.index.Goals as goal

pub invariant_of-self : goal.invariant_of-self
invariant_of-self g c =
    let s = c.args.self.now in
    record { undoable = s.undoable; trail_sound = s.trail_sound; marks_buried = s.marks_buried; boxed = s.boxed; since_there = s.since_there }

pub invariant_of-self-2 : goal.invariant_of-self-2
invariant_of-self-2 g c =
    let s = c.args.self.now in
    let es = s.entries.items in
    let old = g.B.Undoable.state s.inner in
    let made = c.of.result in
    let gx = renumbered (length es) made.since made.grid es old (c.of.ensures.since ∙ c.len.ensures ∙ s.entries.ok.0)
    (made_anew made.grid es old (g.B.Surface.mesh s.inner) (g.met.B.Undoable.same_mesh s.inner) c.of.ensures.boxed) in
    record { undoable = s.undoable; trail_sound = s.trail_sound; marks_buried = s.marks_buried; boxed = gx.boxed; since_there = gx.since_there }
