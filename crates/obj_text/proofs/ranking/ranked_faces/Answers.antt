use Rattle.std.proofs.Common.{◌≡◌, ◌++◌, ◌∷◌, [], ℕ, List, take, length, map, get_or, is_some, Option, Some, None, refl, ap, sym, subst, ◌∙◌, arith}
use Rattle.std.specs.FinMap as finite
use Rattle.std.specs.Option.{option_map}
use Rattle.std.specs.List.Sorted.{IsNonDecreasing}
use Rattle.std.proofs.lemmas.List.{take_all}
use Rattle.mesh_base.specs.declared.Corners.{Corners}
use Rattle.mesh_base.specs.Changes.{corner_list}
use Rattle.obj_text.specs.Written.{rank, rank_among, ranks, faces_by_rank}
use Rattle.obj_text.proofs.Ranks.{keys_rise}
use Rattle.obj_text.proofs.Lookups.{key_is_live}
use Rattle.obj_text.proofs.InOrder.{next_value, as_many, corners_listed, few_ids}
use Rattle.obj_text.proofs.ranking.ranked_faces.Goals as goal

is_some-option_map : (f : Corners → List ℕ) (o : Option Corners) → is_some (option_map f o) ≡ is_some o
is_some-option_map f (Some c) = refl
is_some-option_map f None = refl

pub unwrap-corners-requires : goal.unwrap-corners-requires
unwrap-corners-requires g c =
    let faces = (g.S.Surface.mesh c.args.mesh.now).faces in
    let i = c.loop-f.f-index in
    let f = c.f-item.result in
    let here : f ≡ get_or (finite.keys faces) i f = c.f-item.is ∙ ap (λ (ids : List ℕ). get_or ids i f) c.requires.live_faces in
    ap is_some (c.corners.ensures) ∙ is_some-option_map corner_list (finite.get faces f) ∙ ap (λ (k : ℕ). is_some (finite.get faces k)) here ∙ key_is_live faces i f (omega (arith, ap length c.requires.live_faces))

pub ranks_of-requires : goal.ranks_of-requires
ranks_of-requires g c =
    let m = g.S.Surface.mesh c.args.mesh.now in
    record { rising = subst IsNonDecreasing (sym c.requires.live) (keys_rise m.points); few = few_ids m c.args.ids.now (g.met.S.Surface.sound c.args.mesh.now) c.requires.live }

pub returns : goal.returns
returns g c =
    let m = g.S.Surface.mesh c.args.mesh.now in
    let many = as_many m.faces (λ (k : Corners). ranks m k) c.args.faces.now c.requires.live_faces in
    c.loop-f.invariant ∙ take_all c.loop-f.f-index (faces_by_rank m) (omega (arith, many))

pub loop-f-preserved : goal.loop-f-preserved
loop-f-preserved g c =
    let m = g.S.Surface.mesh c.args.mesh.now in
    let i = c.loop-f.f-index in
    let f = c.f-item.result in
    let found = c.unwrap-corners.result in
    let listed = corners_listed (finite.get m.faces f) found (sym c.corners.ensures ∙ c.unwrap-corners.ensures) in
    let k : Corners = listed.0 in
    let by_rank : c.ranks_of.result ≡ ranks m k = c.ranks_of.ensures ∙ ap (λ (ids : List ℕ). map (rank_among ids) found) c.requires.live ∙ ap (λ (ks : List ℕ). map (rank m) ks) listed.2 in
    c.in_ok-push.ensures.ok
    ∙ ap (λ (fs : List (List ℕ)). fs ++ c.ranks_of.result ∷ []) c.loop-f.invariant
    ∙ ap (λ (r : List ℕ). take i (faces_by_rank m) ++ r ∷ []) by_rank
    ∙ next_value m.faces (λ (x : Corners). ranks m x) c.args.faces.now i f k c.requires.live_faces c.loop-f-test.true c.f-item.is listed.1
