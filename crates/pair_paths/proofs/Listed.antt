-- Vertices listed with their paths.
use Rattle.std.proofs.Common.{◌≡◌, ℕ, List, map, ap, refl, subst, sym}
use Rattle.std.proofs.lemmas.List.Elements.{All-map}
use Rattle.mesh_base.specs.Placements.{Motion}
use Rattle.pair_paths.specs.declared.path.Path.{Path}
use Rattle.pair_paths.specs.declared.known.PathOf.{PathOf}
use Rattle.pair_paths.specs.Paths.{AreKnown, path_along, path_in}

-- a vertex with the path that it has is one of the list
pub with_path : (w : Motion) (v : ℕ) (path : Path) → path ≡ path_along w v → ◌≡◌ {A = PathOf} (record { v = v; path = path }) (path_in w v)
with_path w v path is = ap (λ (p : Path). record { v = v; path = p }) is

-- what is listed with its path in a motion is known
pub listed_known : (w : Motion) (ids : List ℕ) (known : List PathOf) → known ≡ map (path_in w) ids → AreKnown w known
listed_known w ids known is = subst (AreKnown w) (sym is) (All-map (λ k. k.path ≡ path_along w k.v) (path_in w) ids (λ k d h. refl))
