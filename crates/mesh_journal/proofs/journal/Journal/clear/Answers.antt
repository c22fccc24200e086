use Rattle.std.proofs.Common.{sym, subst, ◌∙◌}
use Rattle.mesh_journal.specs.Boxed.{AreBoxed}
use Rattle.mesh_journal.proofs.Calls.{stands-cleared}
use Rattle.mesh_journal.proofs.Covers.{IsIndexed, present, settled, renumbered}
use Rattle.mesh_journal.proofs.journal.Journal.clear.Goals as goal

pub invariant_of-self : goal.invariant_of-self
invariant_of-self g c =
    let s = c.args.self.now in
    let old = g.B.Undoable.state s.inner in
    let now = c.forget_often-self.new.mesh in
    let stood = stands-cleared c.truncate.new.self.items (g.B.Undoable.state now) (g.B.Surface.mesh now) c.truncate.ensures.items
    (g.met.B.Undoable.same_mesh now) (c.forget_often-self.ensures.marks s.marks_buried) (g.met.B.Surface.sound now) in
    let ix : IsIndexed s.boxes.since s.boxes.grid s.entries.items old = record { boxed = s.boxed; since_there = s.since_there } in
    let here : AreBoxed s.boxes.grid (g.B.Surface.mesh s.inner) =
    subst (AreBoxed s.boxes.grid) (sym (g.met.B.Undoable.same_mesh s.inner)) (present s.boxes.since s.boxes.grid s.entries.items old ix) in
    let left = c.settle.new.self in
    let gx = renumbered 0 left.since left.grid c.truncate.new.self.items (g.B.Undoable.state now) c.settle.ensures.since
    (settled left.grid c.truncate.new.self.items (g.B.Undoable.state now) (g.B.Surface.mesh s.inner) c.truncate.ensures.items
    (g.met.B.Undoable.same_mesh s.inner ∙ sym c.forget_often-self.ensures.state) (c.settle.ensures.boxed here)) in
    record { undoable = stood.undoable; trail_sound = stood.trail_sound; marks_buried = stood.marks_buried; boxed = gx.boxed; since_there = gx.since_there }
