use Rattle.mesh_journal.specs.Undoable.{make_vertex}
use Rattle.mesh_journal.specs.declared.entries.Entry.TheVariants.{VertexMade}
use Rattle.mesh_journal.proofs.Undone.{made_vertex}
use Rattle.mesh_journal.proofs.Trails.{Stands}
use Rattle.mesh_journal.proofs.Calls.{lawful, named, changed}
use Rattle.std.proofs.Common.{◌≡◌, ap, subst, ◌∙◌}
use Rattle.mesh_base.specs.Mesh.{IsSound}
use Rattle.mesh_base.specs.Changes.{with_vertex}
use Rattle.half_mesh.specs.States.{State}
use Rattle.mesh_journal.specs.Boxed.{AreBoxed}
use Rattle.mesh_journal.proofs.Covers.{IsIndexed, present, grown-same, still-with_vertex}
use Rattle.mesh_journal.proofs.journal.JournalSurface.add_vertex.Goals as goal

pub invariant_of-self-2 : goal.invariant_of-self-2
invariant_of-self-2 g c =
    let s = c.args.self.now in
    let old = g.B.Undoable.state s.inner in
    let now = c.make_vertex.new.self in
    let stood : Stands s.entries.items old = record { undoable = s.undoable; trail_sound = s.trail_sound; marks_buried = s.marks_buried } in
    let is = lawful (g.B.Surface.mesh s.inner) old (g.met.B.Undoable.same_mesh s.inner) (g.met.B.Surface.sound s.inner) (g.met.B.Undoable.apart s.inner) s.marks_buried in
    let left = changed s.entries.items c.reserve.new.self.items c.push_reserved.new.self.items (VertexMade old.mesh.next_vertex) (g.B.Undoable.state now)
    (make_vertex old c.args.p) old (g.B.Surface.mesh now) (named c.reserve.new.self.items c.push_reserved.new.self.items VertexMade c.in_ok-v.v old.mesh.next_vertex c.push_reserved.ensures.items c.in_ok-v.ensures.id) c.reserve.ensures.items c.in_ok-v.ensures.ok
    (made_vertex old c.args.p is) (g.met.B.Undoable.same_mesh now) (g.met.B.Surface.sound now) stood in
    let ix : IsIndexed s.boxes.since s.boxes.grid s.entries.items old = record { boxed = s.boxed; since_there = s.since_there } in
    let here : AreBoxed s.boxes.grid old.mesh = present s.boxes.since s.boxes.grid s.entries.items old ix in
    let same : g.B.Surface.mesh now ≡ with_vertex old.mesh c.args.p = g.met.B.Undoable.same_mesh now ∙ ap (λ (t : State). t.mesh) c.in_ok-v.ensures.ok in
    let gx = grown-same s.boxes.since s.boxes.grid s.entries.items c.push_reserved.new.self.items old (g.B.Undoable.state now) (g.B.Surface.mesh now) (with_vertex old.mesh c.args.p) ix left.grows same
    (still-with_vertex s.boxes.grid old.mesh c.args.p is.sound (subst IsSound same (g.met.B.Surface.sound now)) here) in
    record { undoable = left.stands.undoable; trail_sound = left.stands.trail_sound; marks_buried = left.stands.marks_buried; boxed = gx.boxed; since_there = gx.since_there }

pub returns-clause-marks : goal.returns-clause-marks
returns-clause-marks g c =
    let s = c.args.self.now in
    let old = g.B.Undoable.state s.inner in
    let now = c.make_vertex.new.self in
    let stood : Stands s.entries.items old = record { undoable = s.undoable; trail_sound = s.trail_sound; marks_buried = s.marks_buried } in
    let is = lawful (g.B.Surface.mesh s.inner) old (g.met.B.Undoable.same_mesh s.inner) (g.met.B.Surface.sound s.inner) (g.met.B.Undoable.apart s.inner) s.marks_buried in
    let left = changed s.entries.items c.reserve.new.self.items c.push_reserved.new.self.items (VertexMade old.mesh.next_vertex) (g.B.Undoable.state now)
    (make_vertex old c.args.p) old (g.B.Surface.mesh now) (named c.reserve.new.self.items c.push_reserved.new.self.items VertexMade c.in_ok-v.v old.mesh.next_vertex c.push_reserved.ensures.items c.in_ok-v.ensures.id) c.reserve.ensures.items c.in_ok-v.ensures.ok
    (made_vertex old c.args.p is) (g.met.B.Undoable.same_mesh now) (g.met.B.Surface.sound now) stood in
    left.begins

pub returns-clause-kept : goal.returns-clause-kept
returns-clause-kept g c =
    let s = c.args.self.now in
    let old = g.B.Undoable.state s.inner in
    let now = c.make_vertex.new.self in
    let stood : Stands s.entries.items old = record { undoable = s.undoable; trail_sound = s.trail_sound; marks_buried = s.marks_buried } in
    let is = lawful (g.B.Surface.mesh s.inner) old (g.met.B.Undoable.same_mesh s.inner) (g.met.B.Surface.sound s.inner) (g.met.B.Undoable.apart s.inner) s.marks_buried in
    let left = changed s.entries.items c.reserve.new.self.items c.push_reserved.new.self.items (VertexMade old.mesh.next_vertex) (g.B.Undoable.state now)
    (make_vertex old c.args.p) old (g.B.Surface.mesh now) (named c.reserve.new.self.items c.push_reserved.new.self.items VertexMade c.in_ok-v.v old.mesh.next_vertex c.push_reserved.ensures.items c.in_ok-v.ensures.id) c.reserve.ensures.items c.in_ok-v.ensures.ok
    (made_vertex old c.args.p is) (g.met.B.Undoable.same_mesh now) (g.met.B.Surface.sound now) stood in
    left.grows
