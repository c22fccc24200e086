-- Faces of a list of which none is equal or opposite to another, as a number of their corners tells.
use Rattle.std.specs.Prelude.{◌≡◌, ℕ, ◌+◌, ◌*◌, ◌^◌, ◌==◌, ◌||◌, ⊤, Bool, false, List, [], ◌∷◌}
use Rattle.std.specs.BTreeSet.{BTreeSet, contains}
use Rattle.std.specs.Ordering.{nat_cmp}
use Rattle.mesh_base.specs.declared.ids.Corners.{Corners}

-- a number that corners keep when they change places
abbrev pub corner_rank : Corners → ℕ
corner_rank c =
    (c.first + c.second + c.third) * 2 ^ 66
    + (c.first * c.second + c.second * c.third + c.third * c.first)

-- two of the corners are one
abbrev pub is_folded : Corners → Bool
is_folded c = (c.first == c.second) || (c.second == c.third) || (c.third == c.first)

-- the number is met
abbrev pub has_met : BTreeSet ℕ → ℕ → Bool
has_met met k = contains nat_cmp met k

-- no number is
abbrev pub met_none : ℕ → Bool
met_none k = false

-- the corners are three, and their number is met now and was not before
pub record IsMetAnew (old new : BTreeSet ℕ) (c : Corners) : Type 0 where
  pub three : is_folded c ≡ false
  pub not_before : has_met old (corner_rank c) ≡ false
  pub now : (k : ℕ) → has_met new k ≡ ((corner_rank c == k) || has_met old k)

-- the face has three corners, of a number that was not met
pub record IsApart (met : ℕ → Bool) (e : ℕ × Corners) : Type 0 where
  pub three : is_folded e.1 ≡ false
  pub not_before : met (corner_rank e.1) ≡ false

-- so has each face, and its number is no earlier face's
abbrev pub AreUnlike : (ℕ → Bool) → List (ℕ × Corners) → Type 0
AreUnlike met [] = ⊤
AreUnlike met (e ∷ es) = IsApart met e × AreUnlike (λ k. (corner_rank e.1 == k) || met k) es
