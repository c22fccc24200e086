use Rattle.grid_base.specs.declared.narrow.TheConstants.{SPAN_MAX}
use Rattle.grid_base.specs.Triples.{IsWithin}
use Rattle.pair_candidates.proofs.neighbours.longest_way.Given as goal

abbrev pub invariant-loop-a : goal.invariant-loop-a
invariant-loop-a g l = IsWithin SPAN_MAX l.way
