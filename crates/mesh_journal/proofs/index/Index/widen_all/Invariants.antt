use Rattle.std.proofs.Common.{◌≡◌, ℕ, All, take}
use Rattle.grid_base.specs.Triples.{Triple}
use Rattle.mesh_journal.specs.Boxed.{Holds}
use Rattle.mesh_journal.proofs.index.Index.widen_all.Given as goal

-- the faces so far have the position, and nothing was lost
abbrev pub invariant-loop-f : goal.invariant-loop-f
invariant-loop-f l = record {
  at : All (λ f. Holds l.self.grid f l.p) (take l.f-index l.faces);
  keeps : (q : ℕ) (t : Triple) → Holds l.initial.self.grid q t → Holds l.self.grid q t;
  since : l.self.since ≡ l.initial.self.since;
}
