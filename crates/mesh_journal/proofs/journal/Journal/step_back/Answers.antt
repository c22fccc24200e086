use Rattle.std.proofs.Common.{◌≡◌, ◌+◌, ◌≤◌, length, arith}
use Rattle.mesh_journal.proofs.Covers.{IsIndexed, shorter}
use Rattle.mesh_journal.proofs.Calls.{can_undo-last, stands-undone, trail-undone}
use Rattle.mesh_journal.proofs.journal.Journal.step_back.Goals as goal

pub undo-requires : goal.undo-requires
undo-requires g c =
    let s = c.args.self.now in
    can_undo-last s.entries.items c.pop.new.self.items c.in-Some.e (g.B.Undoable.state s.inner) c.in-Some.ensures.items
    (record { undoable = s.undoable; trail_sound = s.trail_sound; marks_buried = s.marks_buried })

pub invariant_of-self : goal.invariant_of-self
invariant_of-self g c =
    let s = c.args.self.now in
    let left = stands-undone s.entries.items c.pop.new.self.items c.in-Some.e (g.B.Undoable.state s.inner) c.in-Some.ensures.items
    (record { undoable = s.undoable; trail_sound = s.trail_sound; marks_buried = s.marks_buried }) _ c.undo.ensures.state in
    let old = g.B.Undoable.state s.inner in
    let len : length c.pop.new.self.items + 1 ≡ length s.entries.items = let l = c.in-Some.ensures.len in omega (arith, l, s.entries.ok.0, c.pop.new.self.ok.0) in
    let ix : IsIndexed s.boxes.since s.boxes.grid s.entries.items old = record { boxed = s.boxed; since_there = s.since_there } in
    let there : c.cut.new.self.since ≤ length c.pop.new.self.items = let l = c.cut.ensures.since in omega (arith, l, c.len.ensures, c.pop.new.self.ok.0) in
    let gx = shorter s.boxes.since c.cut.new.self.since s.boxes.grid c.cut.new.self.grid s.entries.items c.pop.new.self.items old (g.B.Undoable.state c.undo.new.mesh) ix there
    (trail-undone s.entries.items c.pop.new.self.items c.in-Some.e old c.in-Some.ensures.items
    (record { undoable = s.undoable; trail_sound = s.trail_sound; marks_buried = s.marks_buried }) _ c.undo.ensures.state len) len c.cut.ensures.grid in
    record { undoable = left.undoable; trail_sound = left.trail_sound; marks_buried = left.marks_buried; boxed = gx.boxed; since_there = gx.since_there }

pub returns-in-Some-clause-kept : goal.returns-in-Some-clause-kept
returns-in-Some-clause-kept g c =
    let s = c.args.self.now in
    trail-undone s.entries.items c.pop.new.self.items c.in-Some.e (g.B.Undoable.state s.inner) c.in-Some.ensures.items
    (record { undoable = s.undoable; trail_sound = s.trail_sound; marks_buried = s.marks_buried }) _ c.undo.ensures.state
    (let l = c.in-Some.ensures.len in omega (arith, l, s.entries.ok.0, c.pop.new.self.ok.0))
