use Rattle.std.proofs.Common.{◌≡◌, ℕ, List, ◌++◌, map, take, OnOk, subst}
use Rattle.mesh_shape.specs.ShapeFaults.{unbalanced_fault}
use Rattle.mesh_shape.proofs.Unbalanced.{between_vertices}
use Rattle.mesh_shape.proofs.balance.put_unbalanced.Goals as goal

pub returns : goal.returns
returns c =
    let P : List (ℕ × ℕ) → Type 0 = λ l. OnOk c.put_between.result (take c.args.most c.put_between.new.faults.items ≡ take c.args.most (c.args.faults.now.items ++ map unbalanced_fault l)) in
    subst P (between_vertices c.args.n c.args.faces.now c.args.sides.now c.requires.order c.requires.sides) c.put_between.ensures
