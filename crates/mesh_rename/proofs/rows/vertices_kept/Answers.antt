use Rattle.std.proofs.Common.{ℕ, ap, ◌∙◌}
use Rattle.mesh_ids.specs.NewIds.{new_id}
use Rattle.mesh_rename.specs.Rows.{vertex_row}
use Rattle.mesh_rename.proofs.MadeIds.{more_rows}
use Rattle.mesh_rename.proofs.rows.vertices_kept.Goals as goal

pub loop-v-preserved : goal.loop-v-preserved
loop-v-preserved g c =
    let m = g.S.Surface.mesh c.args.mesh.now in
    more_rows (vertex_row m (λ v. v)) c.args.old.now c.loop-v.v-index c.v-item.result c.vertex_row.result _ _ c.in_ok-push.ensures.ok c.vertex_row.ensures c.v-item.is c.loop-v-test.true c.loop-v.invariant
