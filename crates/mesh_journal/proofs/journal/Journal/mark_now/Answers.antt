use Rattle.std.proofs.Common.{◌+◌, sym, ◌∙◌, ap}
use Rattle.mesh_journal.proofs.Trails.{length-trail}
use Rattle.mesh_journal.proofs.Calls.{mark-holds, mark-stands}
use Rattle.mesh_journal.proofs.journal.Journal.mark_now.Goals as goal

pub returns-clause-holds : goal.returns-clause-holds
returns-clause-holds g c =
    let s = c.args.self.now in
    mark-holds s.entries.items (g.B.Undoable.state s.inner) c.len-place.result (c.len-place.ensures ∙ s.entries.ok.0)

pub returns-clause-stands : goal.returns-clause-stands
returns-clause-stands g c =
    let s = c.args.self.now in
    mark-stands s.entries.items (g.B.Undoable.state s.inner) (g.B.Surface.mesh s.inner) c.len-place.result (g.met.B.Undoable.same_mesh s.inner)
    (c.len-place.ensures ∙ s.entries.ok.0)

pub returns-clause-under : goal.returns-clause-under
returns-clause-under g c =
    let s = c.args.self.now in
    ap (λ n. n + 1) (c.len-place.ensures ∙ s.entries.ok.0) ∙ sym (length-trail s.entries.items (g.B.Undoable.state s.inner))
