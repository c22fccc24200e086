use Rattle.std.proofs.Common.{sym, ◌∙◌, subst}
use Rattle.std.specs.List.Sorted.{IsNonDecreasing}
use Rattle.mesh_journal.specs.Journal.{mesh_in}
use Rattle.obj_text.proofs.InOrder.{few_ids}
use Rattle.obj_text.proofs.Ranks.{keys_rise}
use Rattle.track_held.proofs.DenseStates.{dense_shape, marks_live, marked_is}
use Rattle.track_held.proofs.renumbering.dense_mesh.Goals as goal

pub ranks_of-requires : goal.ranks_of-requires
ranks_of-requires g c =
    let m = g.S.Surface.mesh c.args.mesh.now in
    let all = c.as_slice.ensures ∙ c.in_ok-ids.ensures in
    record { rising = subst IsNonDecreasing (sym all) (keys_rise m.points); few = few_ids m c.as_slice.result.now (g.met.S.Surface.sound c.args.mesh.now) all }

pub of-requires : goal.of-requires
of-requires g c =
    let m = g.S.Surface.mesh c.args.mesh.now in
    dense_shape m _ _ (g.met.S.Surface.sound c.args.mesh.now) c.requires c.in_ok-lists.ensures.points c.in_ok-lists.ensures.faces

pub put_solids-requires : goal.put_solids-requires
put_solids-requires g c =
    let m = g.S.Surface.mesh c.args.mesh.now in
    marks_live m (g.met.S.Surface.sound c.args.mesh.now) (mesh_in c.in_ok-dense.dense) c.in_ok-lists.lists.points c.in_ok-lists.lists.faces c.as_slice.result.now c.as_slice-2.result.now c.as_slice-3.result.now
    c.in_ok-dense.ensures.mesh c.in_ok-lists.ensures.points c.in_ok-lists.ensures.faces (c.as_slice.ensures ∙ c.in_ok-ids.ensures) (c.as_slice-2.ensures ∙ c.in_ok-solids.ensures) (c.as_slice-3.ensures ∙ c.in_ok-ranks.ensures)

pub returns : goal.returns
returns g c =
    let m = g.S.Surface.mesh c.args.mesh.now in
    c.settle.ensures.mesh
    ∙ marked_is m (g.met.S.Surface.sound c.args.mesh.now) (mesh_in c.in_ok-dense.dense) c.in_ok-lists.lists.points c.in_ok-lists.lists.faces c.as_slice.result.now c.as_slice-2.result.now c.as_slice-3.result.now
    c.in_ok-dense.ensures.mesh c.in_ok-lists.ensures.points c.in_ok-lists.ensures.faces (c.as_slice.ensures ∙ c.in_ok-ids.ensures) (c.as_slice-2.ensures ∙ c.in_ok-solids.ensures) (c.as_slice-3.ensures ∙ c.in_ok-ranks.ensures)
    (mesh_in c.put_solids.new.mesh) c.in_ok-put_solids.ensures
