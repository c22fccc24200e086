use Rattle.mesh_base.specs.Changes.{corners_of, IsFresh}
use Rattle.mesh_journal.specs.Undoable.{make_face}
use Rattle.mesh_journal.specs.declared.entries.Entry.TheVariants.{FaceMade}
use Rattle.mesh_journal.proofs.Undone.{made_face}
use Rattle.mesh_journal.proofs.Trails.{Stands}
use Rattle.mesh_journal.proofs.Calls.{lawful, named, changed}
use Rattle.std.proofs.Common.{◌≡◌, sym, ap, subst, ◌∙◌}
use Rattle.mesh_base.specs.Changes.{with_face}
use Rattle.half_mesh.specs.States.{State}
use Rattle.mesh_journal.specs.Boxed.{AreBoxed, IsAround}
use Rattle.mesh_journal.proofs.Covers.{IsIndexed, present, grown, renumbered, with_new_face, boxed-with_face}
use Rattle.mesh_journal.proofs.journal.JournalSurface.add_face.Goals as goal

pub make_face-requires : goal.make_face-requires
make_face-requires g c = subst (λ m. IsFresh m (corners_of c.args.c)) (g.met.B.Undoable.same_mesh c.args.self.now.inner) c.requires

pub invariant_of-self-2 : goal.invariant_of-self-2
invariant_of-self-2 g c =
    let s = c.args.self.now in
    let old = g.B.Undoable.state s.inner in
    let now = c.make_face.new.self in
    let stood : Stands s.entries.items old = record { undoable = s.undoable; trail_sound = s.trail_sound; marks_buried = s.marks_buried } in
    let is = lawful (g.B.Surface.mesh s.inner) old (g.met.B.Undoable.same_mesh s.inner) (g.met.B.Surface.sound s.inner) (g.met.B.Undoable.apart s.inner) s.marks_buried in
    let left = changed s.entries.items c.reserve.new.self.items c.push_reserved.new.self.items (FaceMade old.mesh.next_face) (g.B.Undoable.state now)
    (make_face old (corners_of c.args.c)) old (g.B.Surface.mesh now) (named c.reserve.new.self.items c.push_reserved.new.self.items FaceMade c.in_ok-f.f old.mesh.next_face c.push_reserved.ensures.items c.in_ok-f.ensures.id) c.reserve.ensures.items c.in_ok-f.ensures.ok
    (made_face old (corners_of c.args.c) is) (g.met.B.Undoable.same_mesh now) (g.met.B.Surface.sound now) stood in
    let ix : IsIndexed s.boxes.since s.boxes.grid s.entries.items old = record { boxed = s.boxed; since_there = s.since_there } in
    let here : AreBoxed s.boxes.grid old.mesh = present s.boxes.since s.boxes.grid s.entries.items old ix in
    let corners = corners_of c.args.c in
    let wide = c.set.new.self in
    let id : c.in_ok-f.f ≡ old.mesh.next_face = c.in_ok-f.ensures.id in
    let around : IsAround c.box_of-around.result old.mesh corners = subst (λ m. IsAround c.box_of-around.result m corners) (g.met.B.Undoable.same_mesh s.inner) c.box_of-around.ensures in
    let same : g.B.Surface.mesh now ≡ with_face old.mesh corners = g.met.B.Undoable.same_mesh now ∙ ap (λ (t : State). t.mesh) c.in_ok-f.ensures.ok in
    let gx = renumbered s.boxes.since wide.since wide.grid c.push_reserved.new.self.items (g.B.Undoable.state now) c.set.ensures.since
    (grown s.boxes.since s.boxes.grid wide.grid s.entries.items c.push_reserved.new.self.items old (g.B.Undoable.state now) (g.B.Surface.mesh now) ix left.grows
    (with_new_face s.boxes.grid wide.grid s.entries.items old c.in_ok-f.f id stood c.set.ensures.others)
    (subst (AreBoxed wide.grid) (sym same) (boxed-with_face s.boxes.grid wide.grid old.mesh c.in_ok-f.f corners c.box_of-around.result id is.sound c.set.ensures.at c.set.ensures.others around here))) in
    record { undoable = left.stands.undoable; trail_sound = left.stands.trail_sound; marks_buried = left.stands.marks_buried; boxed = gx.boxed; since_there = gx.since_there }

pub returns-clause-marks : goal.returns-clause-marks
returns-clause-marks g c =
    let s = c.args.self.now in
    let old = g.B.Undoable.state s.inner in
    let now = c.make_face.new.self in
    let stood : Stands s.entries.items old = record { undoable = s.undoable; trail_sound = s.trail_sound; marks_buried = s.marks_buried } in
    let is = lawful (g.B.Surface.mesh s.inner) old (g.met.B.Undoable.same_mesh s.inner) (g.met.B.Surface.sound s.inner) (g.met.B.Undoable.apart s.inner) s.marks_buried in
    let left = changed s.entries.items c.reserve.new.self.items c.push_reserved.new.self.items (FaceMade old.mesh.next_face) (g.B.Undoable.state now)
    (make_face old (corners_of c.args.c)) old (g.B.Surface.mesh now) (named c.reserve.new.self.items c.push_reserved.new.self.items FaceMade c.in_ok-f.f old.mesh.next_face c.push_reserved.ensures.items c.in_ok-f.ensures.id) c.reserve.ensures.items c.in_ok-f.ensures.ok
    (made_face old (corners_of c.args.c) is) (g.met.B.Undoable.same_mesh now) (g.met.B.Surface.sound now) stood in
    left.begins

pub returns-clause-kept : goal.returns-clause-kept
returns-clause-kept g c =
    let s = c.args.self.now in
    let old = g.B.Undoable.state s.inner in
    let now = c.make_face.new.self in
    let stood : Stands s.entries.items old = record { undoable = s.undoable; trail_sound = s.trail_sound; marks_buried = s.marks_buried } in
    let is = lawful (g.B.Surface.mesh s.inner) old (g.met.B.Undoable.same_mesh s.inner) (g.met.B.Surface.sound s.inner) (g.met.B.Undoable.apart s.inner) s.marks_buried in
    let left = changed s.entries.items c.reserve.new.self.items c.push_reserved.new.self.items (FaceMade old.mesh.next_face) (g.B.Undoable.state now)
    (make_face old (corners_of c.args.c)) old (g.B.Surface.mesh now) (named c.reserve.new.self.items c.push_reserved.new.self.items FaceMade c.in_ok-f.f old.mesh.next_face c.push_reserved.ensures.items c.in_ok-f.ensures.id) c.reserve.ensures.items c.in_ok-f.ensures.ok
    (made_face old (corners_of c.args.c) is) (g.met.B.Undoable.same_mesh now) (g.met.B.Surface.sound now) stood in
    left.grows
