-- What is found in a list.
use Rattle.std.proofs.Common.{◌≡◌, Bool, true, false, cond, List, [], ◌∷◌, Some, refl, subst}
use Rattle.std.specs.List.{AllByRecursion, find}

-- what is found passes the test, and is what all of the list are
pub found_both : {X : Type 0} (P : X → Type 0) (test : X → Bool) (xs : List X) (x : X) → AllByRecursion P xs → find test xs ≡ Some x → P x × (test x ≡ true)
found_both P test [] x h e = cc
found_both P test (y ∷ ys) x h e = by_test (found_both P test ys x h.1) (test y) refl e
  where
    by_test : (find test ys ≡ Some x → P x × (test x ≡ true)) → (b : Bool) → test y ≡ b → cond b (Some y) (find test ys) ≡ Some x → P x × (test x ≡ true)
    by_test rest true t e = let same : y ≡ x = cc in (subst P same h.0, subst (λ z. test z ≡ true) same t)
    by_test rest false t e = rest e
