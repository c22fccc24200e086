-- A copy of a list whose items are copied as they are.
use Rattle.std.proofs.Common.{◌≡◌, List, [], ◌∷◌, refl}
use Rattle.std.specs.List.{AllZip}

pub items-copied : {X : Type 0} (R : X → X → Type 0) → ((x y : X) → R x y → y ≡ x) → (xs ys : List X) → AllZip R xs ys → ys ≡ xs
items-copied R same [] [] h = refl
items-copied R same [] (y ∷ ys) h = absurd h
items-copied R same (x ∷ xs) [] h = absurd h
items-copied R same (x ∷ xs) (y ∷ ys) h = let a = same x y h.0 in let b = items-copied R same xs ys h.1 in λ i. a i ∷ b i
