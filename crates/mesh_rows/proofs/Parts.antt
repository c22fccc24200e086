-- What follows where no part of a fault is there.
use Rattle.std.proofs.Common.{◌≡◌, ℕ, ◌+◌, ◌<◌, ◌≤◌, ◌&&◌, Bool, true, false, Option, Some, None, nat_lt, if◌then◌else◌, refl, arith}
use Rattle.std.proofs.lemmas.Bool.Decides.{nat_tests}
use Rattle.mesh_rows.specs.Faults.{may_have}

pub passed : {A : Type 0} (b : Bool) (x : Option A) (fault : A) → (if b then x else Some fault) ≡ None → (b ≡ true) × (x ≡ None)
passed true x fault h = (refl, h)
passed false x fault h = cc

pub may_be : (low next id : ℕ) → may_have low next id ≡ true → (low ≤ id) × (id < next)
may_be low next id h = (grind (arith, nat_tests), grind (arith, nat_tests))

pub rises : (last v : ℕ) (b : Bool) → (nat_lt last v && b) ≡ true → last + 1 ≤ v
rises last v true h = grind (arith, nat_tests)
rises last v false h = grind (arith, nat_tests)

pub balanced_test : {A : Type 0} (b : Bool) (fault : A) → (if b then None else Some fault) ≡ None → b ≡ true
balanced_test true fault h = refl
balanced_test false fault h = cc
