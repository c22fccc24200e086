use Rattle.std.proofs.Common.{subst}
use Rattle.half_mesh.specs.States.{bury_face}
use Rattle.mesh_journal.specs.declared.entries.Entry.TheVariants.{FaceDropped}
use Rattle.mesh_journal.proofs.Undone.{buried_face}
use Rattle.mesh_base.specs.Mesh.{IsLiveFace}
use Rattle.mesh_journal.proofs.Trails.{Stands}
use Rattle.mesh_journal.proofs.Calls.{lawful, changed}
use Rattle.std.proofs.Common.{◌≡◌, ap, ◌∙◌}
use Rattle.mesh_base.specs.Changes.{without_face}
use Rattle.half_mesh.specs.States.{State}
use Rattle.mesh_journal.specs.Boxed.{AreBoxed}
use Rattle.mesh_journal.proofs.Covers.{IsIndexed, present, grown-same, still-without_face}
use Rattle.mesh_journal.proofs.journal.JournalSurface.drop_face.Goals as goal

pub invariant_of-self-2 : goal.invariant_of-self-2
invariant_of-self-2 g c =
    let s = c.args.self.now in
    let old = g.B.Undoable.state s.inner in
    let now = c.bury_face.new.self in
    let stood : Stands s.entries.items old = record { undoable = s.undoable; trail_sound = s.trail_sound; marks_buried = s.marks_buried } in
    let is = lawful (g.B.Surface.mesh s.inner) old (g.met.B.Undoable.same_mesh s.inner) (g.met.B.Surface.sound s.inner) (g.met.B.Undoable.apart s.inner) s.marks_buried in
    let left = changed s.entries.items c.reserve.new.self.items c.push_reserved.new.self.items (FaceDropped c.args.f) (g.B.Undoable.state now)
    (bury_face old c.args.f) old (g.B.Surface.mesh now) c.push_reserved.ensures.items c.reserve.ensures.items c.bury_face.ensures.state
    (buried_face old c.args.f is (subst (λ m. IsLiveFace m c.args.f) (g.met.B.Undoable.same_mesh s.inner) c.requires)) (g.met.B.Undoable.same_mesh now) (g.met.B.Surface.sound now) stood in
    let ix : IsIndexed s.boxes.since s.boxes.grid s.entries.items old = record { boxed = s.boxed; since_there = s.since_there } in
    let here : AreBoxed s.boxes.grid old.mesh = present s.boxes.since s.boxes.grid s.entries.items old ix in
    let same : g.B.Surface.mesh now ≡ without_face old.mesh c.args.f = g.met.B.Undoable.same_mesh now ∙ ap (λ (t : State). t.mesh) c.bury_face.ensures.state in
    let gx = grown-same s.boxes.since s.boxes.grid s.entries.items c.push_reserved.new.self.items old (g.B.Undoable.state now) (g.B.Surface.mesh now) (without_face old.mesh c.args.f) ix left.grows same
    (still-without_face s.boxes.grid old.mesh c.args.f here) in
    record { undoable = left.stands.undoable; trail_sound = left.stands.trail_sound; marks_buried = left.stands.marks_buried; boxed = gx.boxed; since_there = gx.since_there }

pub returns-clause-marks : goal.returns-clause-marks
returns-clause-marks g c =
    let s = c.args.self.now in
    let old = g.B.Undoable.state s.inner in
    let now = c.bury_face.new.self in
    let stood : Stands s.entries.items old = record { undoable = s.undoable; trail_sound = s.trail_sound; marks_buried = s.marks_buried } in
    let is = lawful (g.B.Surface.mesh s.inner) old (g.met.B.Undoable.same_mesh s.inner) (g.met.B.Surface.sound s.inner) (g.met.B.Undoable.apart s.inner) s.marks_buried in
    let left = changed s.entries.items c.reserve.new.self.items c.push_reserved.new.self.items (FaceDropped c.args.f) (g.B.Undoable.state now)
    (bury_face old c.args.f) old (g.B.Surface.mesh now) c.push_reserved.ensures.items c.reserve.ensures.items c.bury_face.ensures.state
    (buried_face old c.args.f is (subst (λ m. IsLiveFace m c.args.f) (g.met.B.Undoable.same_mesh s.inner) c.requires)) (g.met.B.Undoable.same_mesh now) (g.met.B.Surface.sound now) stood in
    left.begins

pub returns-clause-kept : goal.returns-clause-kept
returns-clause-kept g c =
    let s = c.args.self.now in
    let old = g.B.Undoable.state s.inner in
    let now = c.bury_face.new.self in
    let stood : Stands s.entries.items old = record { undoable = s.undoable; trail_sound = s.trail_sound; marks_buried = s.marks_buried } in
    let is = lawful (g.B.Surface.mesh s.inner) old (g.met.B.Undoable.same_mesh s.inner) (g.met.B.Surface.sound s.inner) (g.met.B.Undoable.apart s.inner) s.marks_buried in
    let left = changed s.entries.items c.reserve.new.self.items c.push_reserved.new.self.items (FaceDropped c.args.f) (g.B.Undoable.state now)
    (bury_face old c.args.f) old (g.B.Surface.mesh now) c.push_reserved.ensures.items c.reserve.ensures.items c.bury_face.ensures.state
    (buried_face old c.args.f is (subst (λ m. IsLiveFace m c.args.f) (g.met.B.Undoable.same_mesh s.inner) c.requires)) (g.met.B.Undoable.same_mesh now) (g.met.B.Surface.sound now) stood in
    left.grows
