-- The sides of faces, and those that two lists do not have equally often. A side is named by
-- its two ends, the smaller first.
use Rattle.std.specs.Prelude.{◌≡◌, ℕ, ◌+◌, ◌^◌, ◌<◌, ◌≤◌, ◌==◌, ◌&&◌, ◌||◌, not, cond, Bool, true, List, [], ◌∷◌, length, drop, nat_lt, if◌then◌else◌, count_by}
use Rattle.std.specs.List.Sorted.{IsNonDecreasingBy}
use Rattle.mesh_base.specs.Given.{Faces}
use Rattle.mesh_base.specs.SideList.{side_rank, has_side}
use Rattle.mesh_shape.specs.declared.balance.Sides.{Sides}
use Rattle.mesh_shape.specs.Shape.{is_vertex, runs_in}

-- whether two sides have the same ends
abbrev pub same_ends : ℕ × ℕ → ℕ × ℕ → Bool
same_ends s t = s.0 == t.0 && s.1 == t.1

-- how often the list has the side
abbrev pub times : List (ℕ × ℕ) → ℕ → ℕ → ℕ
times sides u v = count_by (λ s. same_ends s (u, v)) sides

-- the list has each side as often as there are runs
abbrev pub HasRuns : List (ℕ × ℕ) → (ℕ → ℕ → ℕ) → Type 0
HasRuns sides runs = (u v : ℕ) → times sides u v ≡ (if nat_lt u v then runs u v else 0)

-- the list has what it had before, and once more each side that the test names
abbrev pub AddsRuns : List (ℕ × ℕ) → List (ℕ × ℕ) → (ℕ → ℕ → Bool) → Type 0
AddsRuns old new named =
    (u v : ℕ) → times new u v ≡ times old u v + cond (nat_lt u v && named u v) 1 0

-- the larger ends are below 2^32
abbrev pub AreSmall : List (ℕ × ℕ) → Type 0
AreSmall sides = (u v : ℕ) → 0 < times sides u v → v < 2 ^ 32

-- the sides are small, and in order
pub record IsInOrder (sides : List (ℕ × ℕ)) : Type 0 where
  pub small : AreSmall sides
  pub rises : IsNonDecreasingBy side_rank sides

-- the lists have the sides of the faces, by how they run, in order
pub record AreSidesOf (faces : Faces) (sides : Sides) : Type 0 where
  pub up : HasRuns sides.up.items (λ u v. runs_in faces u v)
  pub down : HasRuns sides.down.items (λ u v. runs_in faces v u)
  pub up_order : IsInOrder sides.up.items
  pub down_order : IsInOrder sides.down.items

-- whether each side has a greater number than the one before it, and the first a greater than this
abbrev pub rises_from : ℕ → List (ℕ × ℕ) → Bool
rises_from last [] = true
rises_from last (s ∷ ss) = nat_lt last (side_rank s) && rises_from (side_rank s) ss

-- whether the one list has a side more often than the other
abbrev pub differs : List (ℕ × ℕ) → List (ℕ × ℕ) → ℕ → ℕ → Bool
differs one other u v = not (times one u v == times other u v)

-- A step from the places i and j of two lists: what the list that is made has, and what is to come
-- differs in, is the same as before.
pub record Walks (one other : List (ℕ × ℕ)) (i j : ℕ) (old new : List (ℕ × ℕ))
    (at : ℕ × ℕ) : Type 0 where
  pub further : i + j < at.0 + at.1
  pub in_one : at.0 ≤ length one
  pub in_other : at.1 ≤ length other
  pub same : (u v : ℕ) →
      (has_side new u v || differs (drop at.0 one) (drop at.1 other) u v)
      ≡ (has_side old u v || differs (drop i one) (drop j other) u v)

-- whether both ends are vertices, of n
abbrev pub are_vertices : ℕ → ℕ × ℕ → Bool
are_vertices n p = is_vertex n p.0 && is_vertex n p.1

-- the list has each two numbers, the smaller first, between which the faces do not run as often
-- one way as the other, and no others
abbrev pub HasUnbalanced : List (ℕ × ℕ) → Faces → Type 0
HasUnbalanced sides fs =
    (u v : ℕ) → has_side sides u v ≡ (nat_lt u v && not (runs_in fs u v == runs_in fs v u))
