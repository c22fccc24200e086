-- Five paths of a motion start and end where the vertices of their pair do.
use Rattle.std.proofs.Common.{◌≡◌, ℕ, List, refl}
use Rattle.std.specs.List.{Contains}
use Rattle.std.proofs.lemmas.List.Elements.{All-contains}
use Rattle.grid_base.specs.declared.Positions.{Positions}
use Rattle.grid_base.specs.Triples.{Triple}
use Rattle.mesh_base.specs.Pairs.{Pair}
use Rattle.mesh_base.specs.Placements.{Motion, positions}
use Rattle.pair_paths.specs.declared.path.Path.{Path}
use Rattle.pair_paths.specs.declared.known.PathOf.{PathOf}
use Rattle.pair_paths.specs.Paths.{AreKnown, path_along}

-- a path that is known is that of its vertex
pub along : (w : Motion) (known : List PathOf) (v : ℕ) (path : Path) → AreKnown w known → Contains known (record { v = v; path = path }) → path ≡ path_along w v
along w known v path all at = All-contains (λ (k : PathOf). k.path ≡ path_along w k.v) known (record { v = v; path = path }) all at

module _ (w : Motion) (p : Pair) (a b c d e : Path)
    (at_a : a ≡ path_along w p.name.a) (at_b : b ≡ path_along w p.name.b) (at_c : c ≡ path_along w p.corners.first) (at_d : d ≡ path_along w p.corners.second) (at_e : e ≡ path_along w p.corners.third) where
  -- a position of each
  abbrev pub five : (Path → Triple) → Positions
  five read = record { a = read a; b = read b; c = read c; d = read d; e = read e }

  pub they_start : five (λ x. x.start) ≡ positions w.start p
  they_start = rw (at_a, at_b, at_c, at_d, at_e) refl

  pub they_end : five (λ x. x.end) ≡ positions w.end p
  they_end = rw (at_a, at_b, at_c, at_d, at_e) refl
