use Rattle.std.proofs.Common.{sym, ap, ◌∙◌, arith}
use Rattle.mesh_journal.proofs.Boxed.{none_boxed}
use Rattle.half_mesh.specs.States.{none_buried}
use Rattle.mesh_journal.proofs.Calls.{stands-empty}
use Rattle.mesh_journal.proofs.journal.Journal.over.Goals as goal

pub invariant_of-result : goal.invariant_of-result
invariant_of-result g c =
    let now = c.forget.new.self in
    let stood = stands-empty c.new.result.items (g.B.Undoable.state now) (g.B.Surface.mesh now) c.new.ensures.items
    (c.forget.ensures.state ∙ ap (λ m. record { mesh = m; buried = none_buried }) (sym (ap (λ s. s.mesh) c.forget.ensures.state) ∙ sym (g.met.B.Undoable.same_mesh now)))
    (g.met.B.Surface.sound now) in
    record { undoable = stood.undoable; trail_sound = stood.trail_sound; marks_buried = stood.marks_buried; boxed = λ k m low at. none_boxed c.none.result.grid m c.none.ensures.grid; since_there = omega (arith, c.none.ensures.since) }
