use Rattle.neighbour_list.specs.Listed.{pair_of}
use Rattle.neighbour_list.proofs.Five.{along, they_start, they_end}
use Rattle.neighbour_list.proofs.five_paths.paths_of_pair.Goals as goal

pub returns-clause-starts : goal.returns-clause-starts
returns-clause-starts c = λ w all.
    let p = pair_of c.args.p.now in
    let known = c.args.known.now in
    they_start w p c.in_ok-a.a.now c.in_ok-b.b.now c.in_ok-c.c.now c.in_ok-d.d.now c.in_ok-e.e.now
    (along w known p.name.a c.in_ok-a.a.now all c.in_ok-a.ensures)
    (along w known p.name.b c.in_ok-b.b.now all c.in_ok-b.ensures)
    (along w known p.corners.first c.in_ok-c.c.now all c.in_ok-c.ensures)
    (along w known p.corners.second c.in_ok-d.d.now all c.in_ok-d.ensures)
    (along w known p.corners.third c.in_ok-e.e.now all c.in_ok-e.ensures)

pub returns-clause-ends : goal.returns-clause-ends
returns-clause-ends c = λ w all.
    let p = pair_of c.args.p.now in
    let known = c.args.known.now in
    they_end w p c.in_ok-a.a.now c.in_ok-b.b.now c.in_ok-c.c.now c.in_ok-d.d.now c.in_ok-e.e.now
    (along w known p.name.a c.in_ok-a.a.now all c.in_ok-a.ensures)
    (along w known p.name.b c.in_ok-b.b.now all c.in_ok-b.ensures)
    (along w known p.corners.first c.in_ok-c.c.now all c.in_ok-c.ensures)
    (along w known p.corners.second c.in_ok-d.d.now all c.in_ok-d.ensures)
    (along w known p.corners.third c.in_ok-e.e.now all c.in_ok-e.ensures)
