use Rattle.std.proofs.Common.{inr, refl}
use Rattle.pair_paths.specs.Pairing.{starts}
use Rattle.pair_candidates.proofs.Beyond.{beyond_parts}
use Rattle.pair_candidates.proofs.separation.SlabQuery.is_beyond.Goals as goal

pub returns-then-are_beyond : goal.returns-then-are_beyond
returns-then-are_beyond c =
    let e = c.args.self.now.edge.now in
    let s = c.args.s.now in
    let beyond = rw (c.wide-a.ensures.value, c.wide-b.ensures.value) at (c.if-are_beyond.ensures refl) in
    λ yes f h. inr (beyond_parts c.args.self.now.across.now.first s.first (starts e f) beyond h.c.first h.d.first h.e.first)

pub returns : goal.returns
returns c =
    let e = c.args.self.now.edge.now in
    let s = c.args.s.now in
    λ yes f h. let beyond = rw (c.wide-a.ensures.value, c.wide-b.ensures.value) at (c.are_beyond-2.ensures yes) in
    inr (beyond_parts c.args.self.now.across.now.second s.second (starts e f) beyond h.c.second h.d.second h.e.second)
