use Rattle.std.proofs.Common.{◌≡◌, None, drop}
use Rattle.edit_check.specs.Searching.{with_faces}
use Rattle.edit_check.proofs.pair_search.first_along.Given as goal

-- what is found along those that are left, from what is found so far, is what is found along all
abbrev pub invariant-loop-f : goal.invariant-loop-f
invariant-loop-f l =
    let n = l.near in
    with_faces n.terms n.faces.now n.touched.now l.found (drop l.f-index n.faces.now) ≡ with_faces n.terms n.faces.now n.touched.now None n.faces.now
