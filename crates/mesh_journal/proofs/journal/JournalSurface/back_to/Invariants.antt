use Rattle.std.proofs.Common.{◌≡◌, ◌+◌, ◌≤◌, length, take}
use Rattle.mesh_journal.specs.Journal.{kept_in, spare_in}
use Rattle.mesh_journal.proofs.journal.JournalSurface.back_to.Given as goal

abbrev pub invariant-loop-m : goal.invariant-loop-m
invariant-loop-m g l = record {
  long : l.m.place ≤ length l.self.entries.items;
  front : kept_in l.self ≡ take (length l.self.entries.items + 1) (kept_in l.initial.self);
  spare : spare_in l.initial.self ≤ spare_in l.self;
}

abbrev pub decreases-loop-m : goal.decreases-loop-m
decreases-loop-m g l = length l.self.entries.items
