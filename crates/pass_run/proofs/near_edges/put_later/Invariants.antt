use Rattle.std.proofs.Common.{◌≡◌, ◌++◌, drop}
use Rattle.pass_run.specs.Near.{later_zips}
use Rattle.pass_run.proofs.near_edges.put_later.Given as goal

-- what is put so far, and what those that are left make, is all
abbrev pub invariant-loop-k : goal.invariant-loop-k
invariant-loop-k g l =
    let m = g.S.Surface.mesh l.mesh in
    let t = l.turn in
    l.asked ++ later_zips m t.within t.edges.now t.place t.edge (drop l.k-index l.places) ≡ l.fn.asked ++ later_zips m t.within t.edges.now t.place t.edge l.places
