use Rattle.std.proofs.Common.{◌≡◌, ◌+◌, length, sym, arith}
use Rattle.std.proofs.lemmas.List.{take_all}
use Rattle.mesh_journal.specs.Entries.{trail}
use Rattle.mesh_journal.proofs.Trails.{length-trail}
use Rattle.mesh_journal.proofs.Calls.{stands-returned}
use Rattle.mesh_journal.proofs.journal.JournalSurface.back_to.Goals as goal

pub loop-m-init : goal.loop-m-init
loop-m-init g c =
    let s = c.args.self.now in
    let at = g.B.Undoable.state s.inner in
    let len = length-trail s.entries.items at in
    record {
      long = let there = c.requires.kept_there in omega (arith, len, there);
      front = sym (take_all (length s.entries.items + 1) (trail s.entries.items at) (omega (arith, len)));
      spare = omega arith;
    }

pub returns-clause-mesh : goal.returns-clause-mesh
returns-clause-mesh g c =
    let s = c.args.self.now in
    let now = c.loop-m.self in
    let long = c.loop-m.invariant.long in
    let len : length now.entries.items ≡ c.args.m.place = omega (arith, long, now.entries.ok.0, c.len.ensures, c.loop-m-test.false) in
    stands-returned now.entries.items (g.B.Undoable.state now.inner) (trail s.entries.items (g.B.Undoable.state s.inner)) c.args.m.place
    (rw len at c.loop-m.invariant.front) len (g.B.Surface.mesh now.inner) (g.met.B.Undoable.same_mesh now.inner)
