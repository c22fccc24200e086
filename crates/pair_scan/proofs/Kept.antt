-- Where nothing of a list is kept.
use Rattle.std.proofs.Common.{◌≡◌, Bool, true, false, cond, List, [], ◌∷◌, map, refl}
use Rattle.std.specs.List.{filter, AllByRecursion}

pub nothing_kept : {Y Z : Type 0} (name : Y → Z) (p : Y → Bool) (ys : List Y) → map name (filter p ys) ≡ [] → AllByRecursion (λ y. p y ≡ false) ys
nothing_kept name p [] e = tt
nothing_kept {Y} {Z} name p (y ∷ ys) e = by_test (nothing_kept name p ys) (p y) refl e
  where
    by_test : (map name (filter p ys) ≡ [] → AllByRecursion (λ z. p z ≡ false) ys) → (b : Bool) → p y ≡ b → map name (cond b (y ∷ filter p ys) (filter p ys)) ≡ [] → (p y ≡ false) × AllByRecursion (λ z. p z ≡ false) ys
    by_test rest true t e = cc
    by_test rest false t e = (t, rest e)
