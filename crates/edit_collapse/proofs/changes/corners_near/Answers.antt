use Rattle.std.proofs.Common.{◌++◌, sym, ap, ◌∙◌}
use Rattle.std.specs.List.{flat_map}
use Rattle.pair_scan.proofs.Lists.{made_more}
use Rattle.edit_collapse.specs.Tried.{corners_if_live}
use Rattle.edit_collapse.proofs.Lists.{ended, nothing_more}
use Rattle.edit_collapse.proofs.changes.corners_near.Goals as goal

pub loop-f-preserved : goal.loop-f-preserved
loop-f-preserved g c =
    let m = g.S.Surface.mesh c.args.mesh.now in
    let ids = c.deref-f-items.result.now in
    made_more (λ f. corners_if_live m f) ids c.loop-f.f-index c.f-item.result c.loop-f.near c.put_corners_of.new.near (flat_map (λ f. corners_if_live m f) ids) c.loop-f-test.true
    (c.in_ok-put_corners_of.ensures ∙ ap (λ f. c.loop-f.near ++ corners_if_live m f) c.f-item.is) c.loop-f.invariant

pub returns : goal.returns
returns g c =
    let m = g.S.Surface.mesh c.args.mesh.now in
    sym (nothing_more c.loop-f.near)
    ∙ ap (λ l. c.loop-f.near ++ flat_map (λ f. corners_if_live m f) l) (sym (ended c.deref-f-items.result.now c.loop-f.f-index c.loop-f-test.false))
    ∙ c.loop-f.invariant
    ∙ ap (flat_map (λ f. corners_if_live m f)) (c.deref-f-items.ensures.value ∙ c.in_ok-faces_at.ensures.ok)
