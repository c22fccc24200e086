use Rattle.std.proofs.Common.{◌≡◌, ap, subst, ◌++◌, ◌∙◌}
use Rattle.std.specs.Prelude.{OnOk}
use Rattle.pair_candidates.specs.Told.{told_at}
use Rattle.pair_candidates.proofs.scan.put_told_seen.Goals as goal

pub returns-clause-found : goal.returns-clause-found
returns-clause-found g c =
    let test = g.A.PairTest.test c.args.scan.now.test.now in
    let all = ap (told_at test g.A.PairTest.what c.args.e.now c.args.scan.now.faces.now) c.deref.ensures.value ∙ c.in_ok-near_edge.ensures.near in
    subst (λ zs. OnOk c.put_told.result (c.put_told.new.found ≡ (c.args.found.now ++ zs))) all c.put_told.ensures
