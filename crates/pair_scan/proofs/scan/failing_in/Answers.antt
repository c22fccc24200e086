use Rattle.std.proofs.Common.{◌≡◌, subst}
use Rattle.pair_paths.specs.Pairing.{name_with}
use Rattle.pair_candidates.specs.Told.{told_of_mesh, up_to}
use Rattle.pair_scan.specs.Failed.{do_not_pass}
use Rattle.pair_scan.specs.Found.{AreFound}
use Rattle.pair_scan.proofs.Fails.{told_failing}
use Rattle.pair_scan.proofs.NoneFail.{found_up_to}
use Rattle.pair_scan.proofs.scan.failing_in.Goals as goal

pub returns : goal.returns
returns g c =
    let m = g.S.Surface.mesh c.args.mesh.now in
    let w = g.P.Paths.motion c.args.motion.now in
    let early = c.args.ends_early in
    let found = c.in_ok-found.found in
    let all = told_of_mesh (do_not_pass c.args.depth) name_with m w in
    let told = subst (λ most. up_to most found ≡ up_to most all) c.most_if.ensures c.in_ok-found.ensures in
    subst (λ names. AreFound early names found) (told_failing m w c.args.depth) (found_up_to early all found told)
