-- What a test answers is told as a number.
use Rattle.std.proofs.Common.{◌≡◌, ℕ, Bool, true, false, IsTrue, ◌↔◌, refl, subst, inl, inr}
use mir.Val.{bool_byte}
use Rattle.grid_base.specs.declared.Positions.{Positions}
use Rattle.topo_library.specs.Alone.{HasTested}

pub answered : (may holds : Type 0) (r : Bool) → IsTrue r ↔ holds → may → (before after : ℕ) → after ≡ bool_byte r → HasTested may holds before after 0
answered may holds true x asked before after e = record { beyond = λ no. absurd (no asked); told = λ _. (refl, inl (e, x.0 refl)) }
answered may holds false x asked before after e =
    let no : ¬ holds = λ h. let bad : false ≡ true = x.1 h in cc in
    record { beyond = λ no. absurd (no asked); told = λ _. (refl, inr (e, no)) }

-- the same of what is said of two lots of five positions, which are these
pub answered_at : (may : Type 0) (says : Positions → Positions → Type 0) (s t from to : Positions) → s ≡ from → t ≡ to → (r : Bool) → IsTrue r ↔ says s t → may → (before after : ℕ) → after ≡ bool_byte r → HasTested may (says from to) before after 0
answered_at may says s t from to is_from is_to r x asked before after e =
    let P : Positions → Type 0 = λ f. IsTrue r ↔ says f t in
    let Q : Positions → Type 0 = λ f. IsTrue r ↔ says from f in
    answered may (says from to) r (subst Q is_to (subst P is_from x)) asked before after e
