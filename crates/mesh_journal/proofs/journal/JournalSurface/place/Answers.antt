use Rattle.std.proofs.Common.{sym, ap, ◌∙◌}
use Rattle.mesh_base.specs.Changes.{with_point}
use Rattle.half_mesh.specs.States.{with_mesh}
use Rattle.mesh_journal.specs.declared.entries.Entry.TheVariants.{VertexPlaced}
use Rattle.mesh_journal.proofs.Undone.{placed}
use Rattle.std.specs.FinMap as map
use Rattle.mesh_base.specs.Mesh.{Mesh}
use Rattle.mesh_journal.proofs.Trails.{Stands}
use Rattle.mesh_journal.proofs.Calls.{lawful, changed}
use Rattle.std.proofs.Common.{◌≡◌, All, subst}
use Rattle.grid_base.specs.Triples.{times}
use Rattle.grid_base.specs.Points.{position_of}
use Rattle.mesh_base.specs.Sides.{faces_at}
use Rattle.half_mesh.specs.States.{State}
use Rattle.mesh_journal.specs.Boxed.{AreBoxed, Holds}
use Rattle.mesh_journal.proofs.Covers.{IsIndexed, present, grown, renumbered, kept-wider, boxed-with_point}
use Rattle.mesh_journal.proofs.journal.JournalSurface.place.Goals as goal

pub invariant_of-self-in-Some : goal.invariant_of-self-in-Some
invariant_of-self-in-Some g c =
    let s = c.args.self.now in
    let old = g.B.Undoable.state s.inner in
    let now = c.place_now.new.self in
    let stood : Stands s.entries.items old = record { undoable = s.undoable; trail_sound = s.trail_sound; marks_buried = s.marks_buried } in
    let is = lawful (g.B.Surface.mesh s.inner) old (g.met.B.Undoable.same_mesh s.inner) (g.met.B.Surface.sound s.inner) (g.met.B.Undoable.apart s.inner) s.marks_buried in
    let left = changed s.entries.items c.reserve.new.self.items c.push_reserved.new.self.items (VertexPlaced c.args.v c.in-Some.before) (g.B.Undoable.state now)
    (with_mesh old (with_point old.mesh c.args.v c.args.p)) old (g.B.Surface.mesh now) c.push_reserved.ensures.items c.reserve.ensures.items c.place_now.ensures.state
    (placed old c.args.v c.args.p c.in-Some.before is (sym (ap (λ (m : Mesh). map.get m.points c.args.v) (g.met.B.Undoable.same_mesh s.inner)) ∙ sym c.point.ensures ∙ c.in-Some.is)) (g.met.B.Undoable.same_mesh now) (g.met.B.Surface.sound now) stood in
    let ix : IsIndexed s.boxes.since s.boxes.grid s.entries.items old = record { boxed = s.boxed; since_there = s.since_there } in
    let here : AreBoxed s.boxes.grid old.mesh = present s.boxes.since s.boxes.grid s.entries.items old ix in
    let wide = c.widen_at.new.self in
    let same : g.B.Surface.mesh now ≡ with_point old.mesh c.args.v c.args.p = g.met.B.Undoable.same_mesh now ∙ ap (λ (t : State). t.mesh) c.place_now.ensures.state in
    let all : All (λ f. Holds wide.grid f (times 2 (position_of c.args.p))) (faces_at old.mesh c.args.v) =
    subst (λ m. All (λ f. Holds wide.grid f (times 2 (position_of c.args.p))) (faces_at m c.args.v)) (g.met.B.Undoable.same_mesh s.inner) c.widen_at.ensures.at in
    let gx = renumbered s.boxes.since wide.since wide.grid c.push_reserved.new.self.items (g.B.Undoable.state now) c.widen_at.ensures.since
    (grown s.boxes.since s.boxes.grid wide.grid s.entries.items c.push_reserved.new.self.items old (g.B.Undoable.state now) (g.B.Surface.mesh now) ix left.grows
    (λ k m at h. kept-wider s.boxes.grid wide.grid c.widen_at.ensures.keeps m h)
    (subst (AreBoxed wide.grid) (sym same) (boxed-with_point s.boxes.grid wide.grid old.mesh c.args.v c.args.p all c.widen_at.ensures.keeps here))) in
    record { undoable = left.stands.undoable; trail_sound = left.stands.trail_sound; marks_buried = left.stands.marks_buried; boxed = gx.boxed; since_there = gx.since_there }

pub returns-in-Some-clause-marks : goal.returns-in-Some-clause-marks
returns-in-Some-clause-marks g c =
    let s = c.args.self.now in
    let old = g.B.Undoable.state s.inner in
    let now = c.place_now.new.self in
    let stood : Stands s.entries.items old = record { undoable = s.undoable; trail_sound = s.trail_sound; marks_buried = s.marks_buried } in
    let is = lawful (g.B.Surface.mesh s.inner) old (g.met.B.Undoable.same_mesh s.inner) (g.met.B.Surface.sound s.inner) (g.met.B.Undoable.apart s.inner) s.marks_buried in
    let left = changed s.entries.items c.reserve.new.self.items c.push_reserved.new.self.items (VertexPlaced c.args.v c.in-Some.before) (g.B.Undoable.state now)
    (with_mesh old (with_point old.mesh c.args.v c.args.p)) old (g.B.Surface.mesh now) c.push_reserved.ensures.items c.reserve.ensures.items c.place_now.ensures.state
    (placed old c.args.v c.args.p c.in-Some.before is (sym (ap (λ (m : Mesh). map.get m.points c.args.v) (g.met.B.Undoable.same_mesh s.inner)) ∙ sym c.point.ensures ∙ c.in-Some.is)) (g.met.B.Undoable.same_mesh now) (g.met.B.Surface.sound now) stood in
    left.begins

pub returns-in-Some-clause-kept : goal.returns-in-Some-clause-kept
returns-in-Some-clause-kept g c =
    let s = c.args.self.now in
    let old = g.B.Undoable.state s.inner in
    let now = c.place_now.new.self in
    let stood : Stands s.entries.items old = record { undoable = s.undoable; trail_sound = s.trail_sound; marks_buried = s.marks_buried } in
    let is = lawful (g.B.Surface.mesh s.inner) old (g.met.B.Undoable.same_mesh s.inner) (g.met.B.Surface.sound s.inner) (g.met.B.Undoable.apart s.inner) s.marks_buried in
    let left = changed s.entries.items c.reserve.new.self.items c.push_reserved.new.self.items (VertexPlaced c.args.v c.in-Some.before) (g.B.Undoable.state now)
    (with_mesh old (with_point old.mesh c.args.v c.args.p)) old (g.B.Surface.mesh now) c.push_reserved.ensures.items c.reserve.ensures.items c.place_now.ensures.state
    (placed old c.args.v c.args.p c.in-Some.before is (sym (ap (λ (m : Mesh). map.get m.points c.args.v) (g.met.B.Undoable.same_mesh s.inner)) ∙ sym c.point.ensures ∙ c.in-Some.is)) (g.met.B.Undoable.same_mesh now) (g.met.B.Surface.sound now) stood in
    left.grows
