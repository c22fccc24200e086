use Rattle.std.proofs.Common.{[], ◌∷◌}
use Rattle.std.proofs.lemmas.Result.{on_ok_weaker}
use Rattle.mesh_measure.proofs.EdgesFrom.{adds_then}
use Rattle.mesh_measure.proofs.edge_number.put_corners.Goals as goal

pub returns : goal.returns
returns c =
    let v = c.args.v in
    let old = c.args.near.now.items in
    let one = c.put_above.new.near.items in
    let two = c.put_above-2.new.near.items in
    let both = adds_then v (c.args.c.first ∷ []) (c.args.c.second ∷ []) old one two c.in_ok-put_above.ensures c.in_ok-put_above-2.ensures in
    on_ok_weaker c.put_above-3.result
    (λ h. adds_then v (c.args.c.first ∷ c.args.c.second ∷ []) (c.args.c.third ∷ []) old two c.put_above-3.new.near.items both h)
    c.put_above-3.ensures
