use Rattle.pair_paths.proofs.Boxed.{if_ok}
use Rattle.edit_check.proofs.Reached.{all_moves_more, wider_still}
use Rattle.edit_check.proofs.reach.reach_old.Goals as goal

pub reach_vertices-requires : goal.reach_vertices-requires
reach_vertices-requires g c = c.in_ok-moving.ensures.reaches

pub returns-clause-moves : goal.returns-clause-moves
returns-clause-moves g c =
    let m = g.S.Surface.mesh c.args.paths.now.mesh.now in
    let moves = c.args.paths.now.moves.now in
    let moving = c.in_ok-moving.moving in
    if_ok c.reach_vertices.result (λ wide keeps. all_moves_more m moves c.args.fresh_from moving wide moves keeps c.in_ok-moving.ensures.reaches) c.reach_vertices.ensures.keeps

pub returns-clause-vertices : goal.returns-clause-vertices
returns-clause-vertices g c = c.reach_vertices.ensures.reaches

pub returns-clause-keeps : goal.returns-clause-keeps
returns-clause-keeps g c =
    if_ok c.reach_vertices.result (λ wide keeps. wider_still c.args.reach c.in_ok-moving.moving wide c.in_ok-moving.ensures.keeps keeps) c.reach_vertices.ensures.keeps
