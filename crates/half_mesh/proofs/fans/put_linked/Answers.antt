use Rattle.std.proofs.Common.{◌≡◌, ◌&&◌, ◌||◌, Some, None, ◌-◌, nat_lt, map, refl, ap, sym, ◌∙◌}
use Rattle.std.specs.FinMap as finite
use Rattle.slab.specs.Slab.{get}
use Rattle.mesh_base.specs.SideList.{has_id, neighbours_in}
use Rattle.mesh_base.proofs.NeighboursAbove.{found_more, found_all}
use Rattle.half_mesh.specs.Fans.{faces_of}
use Rattle.half_mesh.specs.Tied.{are_beside, faces_in}
use Rattle.half_mesh.specs.Walks.{walk, spoke_of}
use Rattle.half_mesh.proofs.Chains.{walk-next, walk-none}
use Rattle.half_mesh.proofs.fans.put_linked.Goals as goal

pub loop-left-preserved : goal.loop-left-preserved
loop-left-preserved c w =
    let l = c.loop-left in
    let half = c.in-Some.half in
    let s = c.args.halves.now in
    let sides = c.args.fans.now.woven.sides in
    let keys = c.args.keys.now.live in
    let v = c.args.v in
    let there : get s l.at ≡ Some half = sym c.get.ensures ∙ sym c.copied.ensures ∙ c.in-Some.is in
    let old = has_id l.into.items w in
    let new = has_id c.put_corners_above.new.into.items w in
    let here = neighbours_in (finite.get (faces_in sides keys) half.face) v w in
    let rest = are_beside sides keys (faces_of (map spoke_of (walk s (l.left - 1) half.after))) v w in
    found_more old (nat_lt v w) here rest new (c.in_ok-put_corners_above.ensures refl w)
    ∙ ap (λ es. old || (nat_lt v w && are_beside sides keys (faces_of (map spoke_of es)) v w)) (sym (walk-next s l.left l.at half c.loop-left-test.true there))
    ∙ l.invariant w

pub returns-in_default : goal.returns-in_default
returns-in_default c ok w =
    let l = c.loop-left in
    let s = c.args.halves.now in
    let sides = c.args.fans.now.woven.sides in
    let keys = c.args.keys.now.live in
    let v = c.args.v in
    let none : get s l.at ≡ None = sym c.get.ensures ∙ sym c.copied.ensures ∙ c.in_default.is in
    sym (found_all (has_id l.into.items w) (nat_lt v w))
    ∙ ap (λ es. has_id l.into.items w || (nat_lt v w && are_beside sides keys (faces_of (map spoke_of es)) v w)) (sym (walk-none s l.left l.at none))
    ∙ l.invariant w
