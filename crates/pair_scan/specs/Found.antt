-- What a scan finds.
use Rattle.std.specs.Prelude.{◌≡◌, ℕ, Bool, true, false, cond, List, [], ◌∷◌}
use Rattle.std.proofs.Common.{Option, Some, None}
use Rattle.mesh_base.specs.declared.ids.PairName.{PairName}

-- whether a list has nothing
abbrev pub has_none : {X : Type 0} → List X → Bool
has_none [] = true
has_none (x ∷ xs) = false

-- what is found is all, where the scan does not end early; and it is
-- nothing exactly where all is nothing
pub record AreFound (ends_early : Bool) (all found : List PairName) : Type 0 where
  pub whole : ends_early ≡ false → found ≡ all
  pub none : has_none found ≡ has_none all

-- how much a scan is asked for
abbrev pub most_if : Bool → Option ℕ
most_if ends_early = cond ends_early (Some 1) None
