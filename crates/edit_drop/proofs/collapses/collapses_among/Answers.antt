use Rattle.std.proofs.Common.{◌++◌, get_or, map, ap, ◌∙◌}
use Rattle.edit_base.specs.declared.Asked.TheVariants as asked
use Rattle.edit_drop.specs.Drop.{collapses_among}
use Rattle.edit_drop.proofs.Tries.{more_collapses}
use Rattle.edit_drop.proofs.collapses.collapses_among.Goals as goal

pub loop-v-preserved : goal.loop-v-preserved
loop-v-preserved g c =
    let m = g.S.Surface.mesh c.args.mesh.now in
    more_collapses m c.args.vs.now c.loop-v.v-index c.loop-v-test.true (collapses_among m c.args.vs.now) c.loop-v.all c.put_collapses.new.all
    (c.in_ok-put_collapses.ensures ∙ ap (λ near. c.loop-v.all ++ map (λ w. asked.Collapse (get_or c.args.vs.now c.loop-v.v-index 0) w) near) (c.as_slice.ensures.value ∙ c.in_ok-neighbours_above.ensures.ok))
    c.loop-v.invariant
