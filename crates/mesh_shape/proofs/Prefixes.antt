-- Lists that are the same as far as their first so many elements go.
use Rattle.std.proofs.Common.{◌≡◌, ℕ, ◌==◌, true, zero, suc, ◌+◌, ◌≤◌, List, [], ◌∷◌, ◌++◌, length, take, append_assoc, refl, sym, ap, ◌∙◌, arith}
use Rattle.std.proofs.lemmas.Bool.{eqb-true}
use Rattle.std.proofs.lemmas.List.{append-nil, take-append-le, nil_from_length}

module _ {A : Type 0} where
  -- what is cut off a list may be cut off before something is put behind it
  pub take_joined : (n : ℕ) (xs ys : List A) → take n (take n xs ++ ys) ≡ take n (xs ++ ys)
  take_joined zero xs ys = refl
  take_joined (suc n) [] ys = refl
  take_joined (suc n) (x ∷ xs) ys = ap (λ l. x ∷ l) (take_joined n xs ys)

  -- the same behind lists that are the same so far
  pub same_before : (n : ℕ) (xs ys zs : List A) → take n xs ≡ take n ys → take n (xs ++ zs) ≡ take n (ys ++ zs)
  same_before n xs ys zs e = sym (take_joined n xs zs) ∙ ap (λ l. take n (l ++ zs)) e ∙ take_joined n ys zs

  -- two are put at the end, one after the other
  pub after_two : (n : ℕ) (old middle new xs ys : List A) → take n middle ≡ take n (old ++ xs) → take n new ≡ take n (middle ++ ys) → take n new ≡ take n (old ++ (xs ++ ys))
  after_two n old middle new xs ys first second = second ∙ same_before n middle (old ++ xs) ys first ∙ ap (take n) (append_assoc old xs ys)

  -- a list that is full takes no more
  pub full : (n : ℕ) (xs ys : List A) → n ≤ length xs → take n xs ≡ take n (xs ++ ys)
  full n xs ys h = sym (take-append-le n xs ys h)

  -- nothing is put at the end
  pub none_put : (n : ℕ) (xs : List A) → take n xs ≡ take n (xs ++ [])
  none_put n xs = ap (take n) (sym (append-nil xs))

  less_taken : (n k : ℕ) (ys : List A) → take n (take (k + n) ys) ≡ take n ys
  less_taken zero k ys = refl
  less_taken (suc n) k [] = let e : k + suc n ≡ suc (k + n) = omega arith in ap (λ m. take (suc n) (take m [])) e
  less_taken (suc n) k (y ∷ ys) = let e : k + suc n ≡ suc (k + n) = omega arith in ap (λ m. take (suc n) (take m (y ∷ ys))) e ∙ ap (λ l. y ∷ l) (less_taken n k ys)

  behind_more : (n k : ℕ) (xs ys : List A) → take n (xs ++ take (k + n) ys) ≡ take n (xs ++ ys)
  behind_more n k [] ys = less_taken n k ys
  behind_more zero k (x ∷ xs) ys = refl
  behind_more (suc n) k (x ∷ xs) ys = let e : k + suc n ≡ suc k + n = omega arith in ap (λ m. x ∷ take n (xs ++ take m ys)) e ∙ ap (λ l. x ∷ l) (behind_more n (suc k) xs ys)

  -- what is cut off may be cut off before it is put at the end
  pub behind_taken : (n : ℕ) (xs ys : List A) → take n (xs ++ take n ys) ≡ take n (xs ++ ys)
  behind_taken n xs ys = let e : 0 + n ≡ n = omega arith in ap (λ m. take n (xs ++ take m ys)) (sym e) ∙ behind_more n 0 xs ys

  -- a list that is found to be empty
  pub nil_tested : (xs : List A) (count : ℕ) → count ≡ length xs → (count == 0) ≡ true → xs ≡ []
  nil_tested xs count is h = nil_from_length xs (sym is ∙ eqb-true count 0 h)
