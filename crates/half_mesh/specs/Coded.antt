-- How fans and ledgers are stored, by which a proof tells them apart.
use Rattle.std.specs.Prelude.{ℕ, List, Option, refl}
use Rattle.std.specs.Ordering.{nat_cmp}
use Rattle.std.specs.FinMap as map
use Rattle.std.specs.Coded.{Coded, code_by, coded×, coded_ℕ, coded_list, coded_option}
use Rattle.half_mesh.specs.declared.row.Vertex.{Vertex}
use Rattle.half_mesh.specs.Fans.{Spoke, Fan, Side, Woven}
use Rattle.half_mesh.specs.Ground.{Ground}
use Rattle.half_mesh.specs.States.{Buried, State, Ledger}
use base.Stored.{coded_unit}
use Rattle.grid_base.specs.declared.Point.{Point}
use Rattle.mesh_base.specs.declared.ids.Corners.{Corners}
use Rattle.mesh_base.specs.declared.limits.Limits.{Limits}
use Rattle.mesh_base.specs.Mesh.{Mesh, IdSet}
use Rattle.mesh_shape.specs.Coded.{mesh_code}

-- half-edges at a vertex by codes, so that two with one code are equal
abbrev pub spoke_code : Coded Spoke
spoke_code =
    code_by (ℕ × ℕ) (coded× coded_ℕ coded_ℕ) (λ s. (s.face, s.to))
    (λ p. record { face = p.0; to = p.1 }) (λ _. refl)

-- the same of a vertex with its half-edges
abbrev pub fan_code : Coded Vertex → Coded Fan
fan_code vertex =
    code_by (Vertex × List Spoke) (coded× vertex (coded_list spoke_code))
    (λ f. (f.vertex, f.spokes)) (λ p. record { vertex = p.0; spokes = p.1 }) (λ _. refl)

-- the same of a half-edge with its parts
abbrev pub side_code : Coded Side
side_code =
    code_by ((ℕ × ℕ) × (ℕ × ℕ)) (coded× (coded× coded_ℕ coded_ℕ) (coded× coded_ℕ coded_ℕ))
    (λ s. ((s.origin, s.to), (s.face, s.next)))
    (λ p. record { origin = p.0.0; to = p.0.1; face = p.1.0; next = p.1.1 })
    (λ _. refl)

-- the same of all vertices with their half-edges, and what finds room
abbrev pub woven_code : Coded Vertex → Coded Woven
woven_code vertex =
    code_by (map.FinMap nat_cmp Fan × (List (Option Side) × ℕ))
    (coded× (map.code coded_ℕ (fan_code vertex))
    (coded× (coded_list (coded_option side_code)) coded_ℕ))
    (λ w. (w.fans, (w.sides, w.room)))
    (λ p. record { fans = p.0; sides = p.1.0; room = p.1.1 })
    (λ _. refl)

-- the same of that with the buried vertices
abbrev pub ground_code : Coded Vertex → Coded Ground
ground_code vertex =
    code_by (Woven × (map.FinMap nat_cmp Vertex × ℕ))
    (coded× (woven_code vertex) (coded× (map.code coded_ℕ vertex) coded_ℕ))
    (λ g. (g.woven, (g.buried, g.seats)))
    (λ p. record { woven = p.0; buried = p.1.0; seats = p.1.1 })
    (λ _. refl)

-- the same of what is buried
abbrev pub buried_code : Coded Point → Coded Corners → Coded Buried
buried_code point corners =
    code_by (map.FinMap nat_cmp Point × (map.FinMap nat_cmp Corners × IdSet))
    (coded× (map.code coded_ℕ point)
    (coded× (map.code coded_ℕ corners) (map.code coded_ℕ coded_unit)))
    (λ b. (b.points, (b.faces, b.solid)))
    (λ p. record { points = p.0; faces = p.1.0; solid = p.1.1 })
    (λ _. refl)

-- the same of a mesh with what is buried of it
abbrev pub state_code : Coded Point → Coded Corners → Coded Limits → Coded State
state_code point corners limits =
    code_by (Mesh × Buried) (coded× (mesh_code point corners limits) (buried_code point corners))
    (λ s. (s.mesh, s.buried))
    (λ p. record { mesh = p.0; buried = p.1 })
    (λ _. refl)

-- the same of that with its spare changes
abbrev pub ledger_code : Coded Point → Coded Corners → Coded Limits → Coded Ledger
ledger_code point corners limits =
    code_by (State × ℕ) (coded× (state_code point corners limits) coded_ℕ)
    (λ l. (l.state, l.spare))
    (λ p. record { state = p.0; spare = p.1 })
    (λ _. refl)
