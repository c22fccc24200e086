use Rattle.mesh_base.proofs.ListLaws.{mapped_more}
use Rattle.pair_paths.specs.Paths.{path_in}
use Rattle.pair_paths.proofs.Listed.{with_path}
use Rattle.pair_paths.proofs.known.paths_among.Goals as goal

pub loop-v-preserved : goal.loop-v-preserved
loop-v-preserved g c = let w = g.P.Paths.motion c.args.paths.now in
    mapped_more (path_in w) c.args.ids.now c.loop-v.v-index c.v-item.result c.loop-v.known c.push.new.self _ _ c.loop-v-test.true c.v-item.is c.in_ok-push.ensures.ok (with_path w c.v-item.result _ c.path_of.ensures) c.loop-v.invariant
