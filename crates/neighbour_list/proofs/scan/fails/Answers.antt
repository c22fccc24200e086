use Rattle.std.proofs.Common.{◌≡◌, ap, not, subst, sym, ◌∙◌}
use Rattle.std.specs.Prelude.{IfSome}
use Rattle.grid_base.specs.Meeting.{MeetAt}
use Rattle.grid_base.specs.SeparationTests.{passes}
use Rattle.grid_decided.specs.Decided.{meets_exactly}
use Rattle.mesh_base.specs.Placements.{positions}
use Rattle.neighbour_list.specs.FivePaths.{starts_of, ends_of}
use Rattle.neighbour_list.specs.Listed.{pair_of}
use Rattle.neighbour_list.proofs.scan.fails.Goals as goal

pub do_pass-requires-clause-apart : goal.do_pass-requires-clause-apart
do_pass-requires-clause-apart g c =
    let w = g.P.Paths.motion c.args.paths.now in
    let p = pair_of c.args.p.now in
    let start = subst (λ o. IfSome o (λ five. starts_of five ≡ positions w.start p)) c.in-Some.is (c.paths_of_pair.ensures.starts w c.requires.known) in
    subst (λ s. ¬ (MeetAt s)) (sym start) c.requires.apart

pub returns-in-Some : goal.returns-in-Some
returns-in-Some g c =
    let w = g.P.Paths.motion c.args.paths.now in
    let p = pair_of c.args.p.now in
    let depth = c.args.depth in
    let five = c.in-Some.five in
    let start = subst (λ o. IfSome o (λ five. starts_of five ≡ positions w.start p)) c.in-Some.is (c.paths_of_pair.ensures.starts w c.requires.known) in
    let end = subst (λ o. IfSome o (λ five. ends_of five ≡ positions w.end p)) c.in-Some.is (c.paths_of_pair.ensures.ends w c.requires.known) in
    ap not (c.do_pass.ensures
    ∙ ap (λ s. passes meets_exactly depth s (ends_of five)) start
    ∙ ap (λ t. passes meets_exactly depth (positions w.start p) t) end)
