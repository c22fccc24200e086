-- The test that a pair needs no entry is true exactly where it needs none.
use Rattle.std.proofs.Common.{◌≡◌, ◌↔◌, IsTrue, Bool, true, ⊎_elim, inl, inr, refl}
use Rattle.std.proofs.lemmas.Bool.{and_parts, and_from, or_cases, or_left, or_right}
use Rattle.std.specs.List.{list_any}
use Rattle.grid_base.specs.declared.Positions.{Positions}
use Rattle.grid_base.specs.Separation.{KeepsApart, axes}
use Rattle.grid_base.specs.SeparationTests.{keeps_apart, move_together}
use Rattle.grid_base.proofs.Reflected.{apart_of, of_apart, any_of, of_any, together_of, of_together, apart_if, if_apart}
use Rattle.grid_decided.specs.Decided.{meets_exactly, meets_exactly-is_exact}
use Rattle.mesh_base.proofs.Tests.{both_ways}
use Rattle.motion_proof.specs.Needs.{NeedsNone, needs_none}

pub NeedsNone-of : (s t : Positions) → needs_none s t ≡ true → NeedsNone s t
NeedsNone-of s t e = ⊎_elim
    (λ axis. inr (any_of (KeepsApart s t) (keeps_apart s t) (apart_of s t) axes axis))
    (λ two. inl (together_of s t (and_parts _ _ two).0, apart_if meets_exactly meets_exactly-is_exact s _ refl (and_parts (move_together s t) _ two).1))
    (or_cases (list_any (keeps_apart s t) axes) _ e)

pub of-NeedsNone : (s t : Positions) → NeedsNone s t → needs_none s t ≡ true
of-NeedsNone s t h = ⊎_elim
    (λ two. or_right (list_any (keeps_apart s t) axes) _ (and_from _ _ (of_together s t two.0) (if_apart meets_exactly meets_exactly-is_exact s _ refl two.1)))
    (λ axis. or_left (list_any (keeps_apart s t) axes) _ (of_any (KeepsApart s t) (keeps_apart s t) (of_apart s t) axes axis.0 axis.1 axis.2 axis.3 axis.4)) h

-- a test that is true exactly where the pair needs no entry is this one
pub is_needs_none : (b : Bool) (s t : Positions) → (IsTrue b ↔ NeedsNone s t) → b ≡ needs_none s t
is_needs_none b s t h = both_ways b (needs_none s t) (λ e. of-NeedsNone s t (h.0 e)) (λ e. h.1 (NeedsNone-of s t e))
