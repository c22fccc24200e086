-- The tests of opening and of closing at run time are the tests of the definitions.
use Rattle.std.proofs.Common.{◌≡◌, ◌↔◌, ℕ, Bool, IsTrue}
use Rattle.grid_base.specs.declared.Positions.{Positions}
use Rattle.grid_base.specs.Separation.{Opens, Closes}
use Rattle.grid_base.specs.SeparationTests.{opens, closes}
use Rattle.grid_base.proofs.Reflected.{opens_of, of_opens}
use Rattle.mesh_base.proofs.Tests.{both_ways}

pub is_opens : (b : Bool) (depth : ℕ) (s t : Positions) → (IsTrue b ↔ Opens depth s t) → b ≡ opens depth s t
is_opens b depth s t h = both_ways b (opens depth s t) (λ e. of_opens depth s t (h.0 e)) (λ e. h.1 (opens_of depth s t e))

pub is_closes : (b : Bool) (depth : ℕ) (s t : Positions) → (IsTrue b ↔ Closes depth s t) → b ≡ closes depth s t
is_closes b depth s t h = is_opens b depth t s h
