-- Rows whose half-edges stay linked as half-edges of a face that none of them is in go from the slab.
use Rattle.std.proofs.Common.{◌≡◌, ◌≢◌, ℕ, ◌^◌, List, [], ◌∷◌, Some, map, sym, ◌∙◌}
use Rattle.slab.specs.Slab.{Slab, get}
use Rattle.half_mesh.specs.declared.halves.Half.{Half}
use Rattle.half_mesh.specs.declared.row.Row.{Row}
use Rattle.half_mesh.specs.Fans.{IsOutside}
use Rattle.half_mesh.specs.Walks.{KeyedHalf, spoke_of, fan_of, IsChain, IsFanned}
use Rattle.half_mesh.proofs.Fanned.{fan-fanned}

-- the half-edges of the other faces stay
abbrev pub OthersStay : Slab Half → Slab Half → ℕ → Type 0
OthersStay s t f = (k : ℕ) (h : Half) → get s k ≡ Some h → h.face ≢ f → get t k ≡ Some h

pub chain-outside : (s t : Slab Half) (v b key f : ℕ) (es : List KeyedHalf) → OthersStay s t f → IsOutside f (map spoke_of es) → IsChain s v b key es → IsChain t v b key es
chain-outside s t v b key f [] stays out c = tt
chain-outside s t v b key f (e ∷ rest) stays out c = (c.0, stays e.0 e.1 c.1 out.0, c.2, c.3, chain-outside s t v e.1.face e.1.after f rest stays out.1 c.4)

abbrev pub fanned-outside : (s t : Slab Half) (v f : ℕ) (row : Row) → OthersStay s t f → (g : IsFanned s v row) → IsOutside f (map spoke_of g.halves) → IsFanned t v row
fanned-outside s t v f row stays g out = record {
  halves = g.halves;
  chain = chain-outside s t v (2 ^ 32) row.first f g.halves stays out g.chain;
  count = g.count;
}

pub fan-outside : (s t : Slab Half) (v f : ℕ) (row : Row) → OthersStay s t f → (g : IsFanned s v row) → IsOutside f (map spoke_of g.halves) → fan_of t row ≡ fan_of s row
fan-outside s t v f row stays g out = fan-fanned t v row (fanned-outside s t v f row stays g out) ∙ sym (fan-fanned s v row g)
