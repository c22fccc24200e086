use Rattle.std.proofs.Common.{◌≡◌, ℕ, Bool, true, false, ◌&&◌, ◌||◌, List, [], ◌∷◌, nat_lt, reverse, refl, sym, ap, ◌∙◌, rules}
use Rattle.std.specs.List.{list_any}
use Rattle.std.specs.Option.{option_map}
use Rattle.std.specs.Result.{is_ok}
use Rattle.std.specs.FinMap as finite
use Rattle.std.proofs.lemmas.List.{reverse-append}
use Rattle.std.proofs.lemmas.List.Folds.{list_any-append}
use Rattle.mesh_base.specs.Sides.{faces_at, IsEdge}
use Rattle.mesh_base.specs.SideList.{has_id, neighbours_in}
use Rattle.mesh_base.proofs.NeighboursAbove.{seen, edge_seen_at, ids_are_neighbours}
use Rattle.half_mesh.specs.Fans.{faces_of, spokes_at}
use Rattle.half_mesh.specs.States.{Ledger}
use Rattle.half_mesh.specs.Tied.{corners_at, faces_in, are_beside, woven_mesh}
use Rattle.half_mesh.proofs.Mapped.{get-map_values}
use Rattle.half_mesh.proofs.TiedLaws.{at-tied}
use Rattle.half_mesh.proofs.tables.Tables.neighbours_above.Goals as goal

swapped : (b a : Bool) → (b || (a || false)) ≡ (a || b)
swapped true true = refl
swapped true false = refl
swapped false true = refl
swapped false false = refl

any_reversed : (p : ℕ → Bool) (xs : List ℕ) → list_any p (reverse xs) ≡ list_any p xs
any_reversed p [] = refl
any_reversed p (x ∷ xs) =
    ap (list_any p) (reverse-append (x ∷ []) xs) ∙ list_any-append p (reverse xs) (x ∷ []) ∙ swapped (list_any p (reverse xs)) (p x) ∙ ap (λ b. p x || b) (any_reversed p xs)

pub put_neighbours-requires : goal.put_neighbours-requires
put_neighbours-requires c = λ f key at.
    let i = c.self.inside in
    let faces : faces_in i.fans.woven.sides i.keys.live ≡ c.args.self.now.state.mesh.faces = ap (λ (x : Ledger). x.state.mesh.faces) c.self.view_is in
    c.requires.is_mesh.different_corners f (corners_at i.fans.woven.sides key)
    (ap (λ x. finite.get x f) (sym faces) ∙ get-map_values (corners_at i.fans.woven.sides) i.keys.live f ∙ ap (option_map (corners_at i.fans.woven.sides)) at)

pub returns-clause-ok : goal.returns-clause-ok
returns-clause-ok c =
    let i = c.self.inside in
    let m = c.args.self.now.state.mesh in
    let v : ℕ = c.args.v in
    let view : woven_mesh i.fans.woven i.keys.live i.limits i.next_vertex i.next_face ≡ m = ap (λ (x : Ledger). x.state.mesh) c.self.view_is in
    let faces = faces_of (spokes_at i.fans.woven.fans v) in
    let stored : is_ok c.put_neighbours.result ≡ true = search rules in
    let tied : reverse faces ≡ faces_at m v = at-tied i.fans.woven i.keys.live i.limits i.next_vertex i.next_face m v view c.self.invariant.live in
    let shown : (w : ℕ) → IsEdge m v w → list_any (seen m v w) faces ≡ true = λ w edge. sym (any_reversed (seen m v w) faces) ∙ ap (list_any (seen m v w)) tied ∙ edge_seen_at m v w edge in
    ids_are_neighbours m v faces c.put_rising.new.ids.items c.requires shown c.put_rising.ensures.order
    (λ w. c.put_rising.ensures.same w
    ∙ c.put_neighbours.ensures stored w
    ∙ ap (λ ids. has_id ids w || (nat_lt v w && are_beside i.fans.woven.sides i.keys.live faces v w)) c.clear.ensures.items
    ∙ ap (λ x. nat_lt v w && list_any (λ f. neighbours_in (finite.get x f) v w) faces) (ap (λ x. x.faces) view))
