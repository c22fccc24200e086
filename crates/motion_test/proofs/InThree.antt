-- Some direction of three lists, one after another.
use Rattle.std.proofs.Common.{◌≡◌, ◌⊎◌, inl, inr, ⊎_elim, ℕ, zero, suc, ◌+◌, ◌-◌, ◌∙◌, refl, sym, ap, subst, List, [], ◌∷◌, ◌++◌, length, get_or, arith, length-append}
use Rattle.std.proofs.lemmas.List.{get_or_append_left, get_or-append-add}
use Rattle.std.proofs.lemmas.Bool.{cases_lt}
use Rattle.std.specs.List.{Any}

module _ {X : Type 0} (P : X → Type 0) (xs ys : List X) where
  pub any_left : Any P xs → Any P (xs ++ ys)
  any_left (k, x, lt, at, p) = (k, x, omega (arith, length-append xs ys), get_or_append_left xs ys x k lt ∙ at, p)

  pub any_right : Any P ys → Any P (xs ++ ys)
  any_right (k, x, lt, at, p) = (length xs + k, x, omega (arith, length-append xs ys), get_or-append-add xs ys k x ∙ at, p)

  pub any_split : Any P (xs ++ ys) → Any P xs ⊎ Any P ys
  any_split (k, x, lt, at, p) = ⊎_elim
      (λ here. inl (k, x, here, sym (get_or_append_left xs ys x k here) ∙ at, p))
      (λ past.
      let j : ℕ = k - length xs in
      let e : k ≡ length xs + j = omega arith in
      inr (j, x, omega (arith, length-append xs ys), sym (get_or-append-add xs ys j x) ∙ ap (λ i. get_or (xs ++ ys) i x) (sym e) ∙ at, p))
      (cases_lt k (length xs))

-- ---- a list of three
module _ {X : Type 0} (P : X → Type 0) (x y z : X) where
  pub any_first : P x → Any P (x ∷ y ∷ z ∷ [])
  any_first p = (0, x, omega arith, refl, p)

  pub any_second : P y → Any P (x ∷ y ∷ z ∷ [])
  any_second p = (1, y, omega arith, refl, p)

  pub any_third : P z → Any P (x ∷ y ∷ z ∷ [])
  any_third p = (2, z, omega arith, refl, p)

  pub any_of_three : {Q : Type 0} → (P x → Q) → (P y → Q) → (P z → Q) → Any P (x ∷ y ∷ z ∷ []) → Q
  any_of_three f g h (zero, w, lt, at, p) = f (subst P (sym at) p)
  any_of_three f g h (suc zero, w, lt, at, p) = g (subst P (sym at) p)
  any_of_three f g h (suc (suc zero), w, lt, at, p) = h (subst P (sym at) p)
  any_of_three f g h (suc (suc (suc k)), w, lt, at, p) = absurd (omega arith)
