use Rattle.std.proofs.Common.{◌≡◌, subst, sym, ◌∙◌, ap}
use Rattle.std.specs.Prelude.{IfOk}
use Rattle.std.specs.List.Sorted.{IsStrictlySortedBy}
use Rattle.mesh_base.specs.SideList.{edge_cmp, neighbours_in_any, HasSides}
use Rattle.edit_check.specs.Nearby.{faces_among}
use Rattle.edit_check.specs.Reach.{faces_in_reach}
use Rattle.edit_proof.proofs.Kept.{near_gives_all}
use Rattle.edit_proof.proofs.near.needing_near.Goals as goal

pub returns : goal.returns
returns g c =
    let m = g.S.Surface.mesh c.args.going.now.mesh.now in
    let ways = c.args.going.now.moves.now in
    let reach = c.in_ok-reach.reach in
    let near : c.as_slice.result.now ≡ faces_in_reach m reach = c.as_slice.ensures.value ∙ c.in_ok-find_near.ensures in
    let again : c.as_slice-2.result.now ≡ faces_in_reach m reach = c.as_slice-2.ensures.value ∙ c.in_ok-find_near.ensures in
    let sides = c.in_ok-sides.sides in
    let order = subst (IsStrictlySortedBy edge_cmp) (sym c.as_slice-3.ensures) c.in_ok-sides.ensures.order in
    let are : HasSides sides (neighbours_in_any m (faces_in_reach m reach)) = subst (λ fs. HasSides sides (neighbours_in_any m fs)) again c.in_ok-sides.ensures.sides in
    let has = subst (λ es. HasSides es (neighbours_in_any m (faces_in_reach m reach))) (sym c.as_slice-3.ensures) are in
    let faces = c.as_slice-4.ensures ∙ c.in_ok-faces.ensures ∙ ap (faces_among m ways) near in
    let all = near_gives_all m ways c.args.fresh_from (g.met.S.Surface.sound c.args.going.now.mesh.now) c.requires reach c.in_ok-reach.ensures c.as_slice-3.result.now c.as_slice-4.result.now order has faces in
    subst (λ names. IfOk c.needing_along.result (λ found. found ≡ names)) all c.needing_along.ensures
