use Rattle.std.proofs.Common.{◌≡◌, ◌++◌, drop}
use Rattle.pair_candidates.specs.Told.{told_at}
use Rattle.pair_candidates.proofs.scan.put_told.Given as goal

-- what is put so far, and what those that are left make, is all
abbrev pub invariant-loop-k : goal.invariant-loop-k
invariant-loop-k g l =
    let test = g.A.PairTest.test l.test in
    l.found ++ told_at test g.A.PairTest.what l.e l.faces (drop l.k-index l.near)
    ≡ l.fn.found ++ told_at test g.A.PairTest.what l.e l.faces l.near
