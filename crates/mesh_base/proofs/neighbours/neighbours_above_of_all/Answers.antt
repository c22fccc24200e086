use Rattle.std.proofs.Common.{◌≡◌, ℕ, true, ◌∙◌, rules}
use Rattle.std.specs.Result.{is_ok}
use Rattle.std.specs.FinMap as map
use Rattle.mesh_base.proofs.EdgesInOrder.{edge_seen}
use Rattle.mesh_base.proofs.NeighboursAbove.{ids_are_neighbours}
use Rattle.mesh_base.proofs.neighbours.neighbours_above_of_all.Goals as goal

pub returns-clause-ok : goal.returns-clause-ok
returns-clause-ok g c =
    let m = g.T.FaceTable.mesh c.args.table.now in
    let v : ℕ = c.args.v in
    let stored : is_ok c.put_all.result ≡ true = search rules in
    ids_are_neighbours m v (map.keys m.faces) c.put_rising.new.ids.items c.requires (edge_seen m v) c.put_rising.ensures.order
    (λ w. c.put_rising.ensures.same w ∙ c.put_all.ensures stored w)
