use Rattle.std.proofs.Common.{ap, not, subst, sym, ◌∙◌}
use Rattle.grid_base.specs.Meeting.{MeetAt}
use Rattle.grid_base.specs.SeparationTests.{passes}
use Rattle.grid_decided.specs.Decided.{meets_exactly}
use Rattle.mesh_base.specs.Placements.{positions}
use Rattle.neighbour_list.specs.Listed.{pair_of}
use Rattle.neighbour_list.proofs.Five.{they_start, they_end}
use Rattle.neighbour_list.proofs.scan.fails_asked.Goals as goal

pub do_pass-requires-clause-apart : goal.do_pass-requires-clause-apart
do_pass-requires-clause-apart g c =
    let w = g.P.Paths.motion c.args.paths.now in
    let p = pair_of c.args.p.now in
    subst (λ s. ¬ (MeetAt s)) (sym (they_start w p c.path_of-a.result c.path_of-b.result c.path_of-c.result c.path_of-d.result c.path_of-e.result
    c.path_of-a.ensures c.path_of-b.ensures c.path_of-c.ensures c.path_of-d.ensures c.path_of-e.ensures)) c.requires.apart

pub returns : goal.returns
returns g c =
    let w = g.P.Paths.motion c.args.paths.now in
    let p = pair_of c.args.p.now in
    let depth = c.args.depth in
    let start = they_start w p c.path_of-a.result c.path_of-b.result c.path_of-c.result c.path_of-d.result c.path_of-e.result
    c.path_of-a.ensures c.path_of-b.ensures c.path_of-c.ensures c.path_of-d.ensures c.path_of-e.ensures in
    let end = they_end w p c.path_of-a.result c.path_of-b.result c.path_of-c.result c.path_of-d.result c.path_of-e.result
    c.path_of-a.ensures c.path_of-b.ensures c.path_of-c.ensures c.path_of-d.ensures c.path_of-e.ensures in
    ap not (c.do_pass.ensures
    ∙ ap (λ s. passes meets_exactly depth s (record { a = c.path_of-a.result.end; b = c.path_of-b.result.end; c = c.path_of-c.result.end; d = c.path_of-d.result.end; e = c.path_of-e.result.end })) start
    ∙ ap (λ t. passes meets_exactly depth (positions w.start p) t) end)
