-- What a test of edges and faces tells of a mesh is what a test of its pairs keeps, where the two agree.
use Rattle.std.proofs.Common.{◌≡◌, ℕ, Bool, ◌||◌, ◌&&◌, not, cond, List, [], ◌∷◌, ◌++◌, map, Some, None, refl, sym, ap, ◌∙◌}
use Rattle.std.specs.List.{filter, flat_map}
use Rattle.std.specs.FinMap as finite
use Rattle.std.proofs.lemmas.List.Folds.{flat_map-map}
use Rattle.mesh_base.specs.declared.ids.Corners.{Corners}
use Rattle.mesh_base.specs.Mesh.{Mesh}
use Rattle.mesh_base.specs.Pairs.{Pair, edges, pairs, pairs_of}
use Rattle.mesh_base.specs.Placements.{Motion}
use Rattle.mesh_base.specs.Sides.{has_corner}
use Rattle.pair_paths.specs.declared.MovingEdge.{MovingEdge}
use Rattle.pair_paths.specs.declared.MovingFace.{MovingFace}
use Rattle.pair_paths.specs.Moving.{moving_edge, moving_face, moving_faces}
use Rattle.pair_candidates.specs.Told.{one_or_none, told_with, told_among, told_of_mesh}
use Rattle.pair_candidates.proofs.Kept.{kept_by_list, kept_of_taken}

each_alike : {X Y : Type 0} (f g : X → List Y) → ((x : X) → f x ≡ g x) → (xs : List X) → flat_map f xs ≡ flat_map g xs
each_alike f g same [] = refl
each_alike f g same (x ∷ xs) = ap (λ ys. ys ++ flat_map f xs) (same x) ∙ ap (λ ys. g x ++ ys) (each_alike f g same xs)

-- an edge and a face of a mesh, as a pair
abbrev pub pair_at : ℕ → ℕ → ℕ × Corners → Pair
pair_at a b f = record { name = record { a = a; b = b; face = f.0 }; corners = f.1 }

module _ {Told : Type 0} (test : MovingEdge → MovingFace → Bool) (what : MovingEdge → MovingFace → Told) (w : Motion) (keep : Pair → Bool) (name : Pair → Told)
    (kept : (a b : ℕ) (f : ℕ × Corners) → test (moving_edge w a b) (moving_face w f) ≡ keep (pair_at a b f))
    (named : (a b : ℕ) (f : ℕ × Corners) → what (moving_edge w a b) (moving_face w f) ≡ name (pair_at a b f)) (m : Mesh) where
  of_edge : (a b : ℕ) → told_among test what (moving_edge w a b) (moving_faces m w) ≡ map name (filter keep (pairs_of m (a, b)))
  of_edge a b =
      let e = moving_edge w a b in
      let es = finite.entries m.faces in
      let apart : ℕ × Corners → Bool = λ f. not (has_corner f.1 a || has_corner f.1 b) in
      flat_map-map (λ f. one_or_none (told_with test what e (Some f))) (moving_face w) es
      ∙ kept_of_taken apart (pair_at a b) keep name (λ f. one_or_none (told_with test what e (Some (moving_face w f))))
      (λ f. ap (λ t. one_or_none (cond (apart f && t) (Some (what e (moving_face w f))) None)) (kept a b f)
      ∙ ap (λ x. one_or_none (cond (apart f && keep (pair_at a b f)) (Some x) None)) (named a b f)) es

  pub told_pairs : told_of_mesh test what m w ≡ map name (filter keep (pairs m))
  told_pairs =
      each_alike (λ e. told_among test what (moving_edge w e.0 e.1) (moving_faces m w)) (λ e. map name (filter keep (pairs_of m e))) (λ e. of_edge e.0 e.1) (edges m)
      ∙ sym (kept_by_list name keep (λ e. pairs_of m e) (edges m))
