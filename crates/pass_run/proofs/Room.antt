-- How many pairs of edges there may be.
use Rattle.std.proofs.Common.{◌≡◌, ℕ, suc, ◌+◌, ◌^◌, ◌<◌, ◌≤◌, Bool, true, false, cond, List, [], ◌∷◌, map, length, drop, ap, ◌∙◌, length-drop, arith}
use Rattle.std.specs.List.{filter}
use Rattle.std.proofs.lemmas.List.{length-map}
use Rattle.mesh_base.specs.Mesh.{Mesh, IsSound}
use Rattle.mesh_base.specs.Pairs.{edges}
use Rattle.edit_base.specs.declared.Asked.{Asked}
use Rattle.mesh_base.proofs.EdgeNumber.{edges_by_faces}
use Rattle.mesh_base.proofs.MeshLaws.{few_live_faces}

filter_few : {X : Type 0} (p : X → Bool) (xs : List X) → length (filter p xs) ≤ length xs
filter_few p [] = omega arith
filter_few p (x ∷ xs) = by_test (p x) (filter_few p xs)
  where
    by_test : (b : Bool) → length (filter p xs) ≤ length xs → length (cond b (x ∷ filter p xs) (filter p xs)) ≤ suc (length xs)
    by_test true h = omega arith
    by_test false h = omega arith

pub edges_few : (m : Mesh) → IsSound m → length (edges m) ≤ 2 ^ 26
edges_few m sound = omega (arith, edges_by_faces m sound, few_live_faces m sound)

-- the pairs of one edge are fewer
pub near_few : {X : Type 0} (ask : X → Asked) (p : X → Bool) (items : List X) (i : ℕ) (all : List Asked) → i < length items → all ≡ map ask (filter p (drop (i + 1) items)) → length all + (i + 1) ≤ length items
near_few ask p items i all inside is =
    let one = ap length is ∙ length-map (filter p (drop (i + 1) items)) ask in
    let two = filter_few p (drop (i + 1) items) in
    let three = length-drop (i + 1) items in
    omega (arith, one, two, three)
