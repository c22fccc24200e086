use Rattle.std.proofs.Common.{◌≡◌, ◌-◌, subst, sym, ◌∙◌}
use Rattle.std.specs.List.{All}
use Rattle.std.specs.FinMap as map
use Rattle.mesh_base.specs.Sides.{above}
use Rattle.edit_check.specs.Reach.{Reaches, ReachesTouched}
use Rattle.edit_check.proofs.Reached.{reached_touched, all_reached_more}
use Rattle.edit_check.proofs.reach.reach_of.Goals as goal

pub returns : goal.returns
returns g c =
    let m = g.S.Surface.mesh c.args.paths.now.mesh.now in
    let moves = c.args.paths.now.moves.now in
    let fresh : c.as_slice.result.now ≡ above (c.args.fresh_from - 1) (map.keys m.faces) = c.as_slice.ensures ∙ c.in_ok-fresh.ensures in
    let all = c.in_ok-all.all in
    let new = all_reached_more m moves c.reach_faces-new.result all c.as_slice.result.now c.in_ok-all.ensures.keeps c.reach_faces-new.ensures.reaches in
    subst (ReachesTouched m moves c.args.together.now c.args.fresh_from) (sym c.extent_of.ensures)
    (reached_touched m moves c.args.together.now c.args.fresh_from all (g.met.S.Surface.sound c.args.paths.now.mesh.now)
    (subst (All (Reaches m moves all)) fresh new)
    c.in_ok-all.ensures.moves
    c.in_ok-all.ensures.vertices)
