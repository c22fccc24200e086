-- The parts of what a contract sees of the vertices.
use Rattle.std.proofs.Common.{◌≡◌, ℕ, true, Option, Some, None, is_some, refl, ap, ◌∙◌}
use Rattle.std.specs.Option.{option_map}
use Rattle.std.specs.Ordering.{nat_cmp}
use Rattle.std.specs.FinMap as finite
use Rattle.half_mesh.specs.declared.row.Vertex.{Vertex}
use Rattle.half_mesh.specs.Fans.{Woven}
use Rattle.half_mesh.specs.Ground.{Ground}
use Rattle.half_mesh.specs.Mapped.{map_values}
use Rattle.half_mesh.specs.declared.row.Row.{Row}
use Rattle.half_mesh.proofs.Mapped.{get-map_values}

pub ground_same : (a b : Woven) (c d : finite.FinMap nat_cmp Vertex) (m n : ℕ) → a ≡ b → c ≡ d → m ≡ n → ◌≡◌ {A = Ground} (record { woven = a; buried = c; seats = m }) (record { woven = b; buried = d; seats = n })
ground_same a b c d m n p q r = λ i. record { woven = p i; buried = q i; seats = r i }

-- a buried row is a buried vertex
pub buried_there : (rows : finite.FinMap nat_cmp Row) (v : ℕ) → is_some (finite.get rows v) ≡ true → is_some (finite.get (map_values (λ (r : Row). r.vertex) rows) v) ≡ true
buried_there rows v some = ap is_some (get-map_values (λ (r : Row). r.vertex) rows v) ∙ seen (finite.get rows v) ∙ some
  where
    seen : (o : Option Row) → is_some (option_map (λ (r : Row). r.vertex) o) ≡ is_some o
    seen None = refl
    seen (Some r) = refl
