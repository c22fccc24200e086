-- Labels that two have.
use Rattle.std.proofs.Common.{◌≡◌, ◌∙◌, ⊎_elim, ℕ, Bool, true, false, cond, ◌||◌, not, nat_eq, sym, ap, refl}
use Rattle.std.proofs.lemmas.Bool.{and_parts, and_from, or_cases, or_left, or_right, cases_Bool, false≢true, not-true, not_from_true, eqb-true}
use Rattle.box_tree.specs.declared.labels.Labels.{Labels}
use Rattle.box_tree.specs.Labels.{has_label, is_apart, label_or_zero, common}

-- a number that is kept is one of both
kept_is : (m : Labels) (x n : ℕ) → not (nat_eq n 0) ≡ true → nat_eq n (label_or_zero m x) ≡ true → (nat_eq n x ≡ true) × (has_label m n ≡ true)
kept_is m x n some same = by_test (has_label m x) refl same
  where
    by_test : (b : Bool) → has_label m x ≡ b → nat_eq n (cond b x 0) ≡ true → (nat_eq n x ≡ true) × (has_label m n ≡ true)
    by_test true h e = (e, ap (has_label m) (eqb-true n x e) ∙ h)
    by_test false h e = absurd (false≢true (sym (not_from_true (nat_eq n 0) e) ∙ some))

-- what is found of each of three is found of one of them
of_three : {P : Type 0} (a b c : Bool) → (a || b || c) ≡ true → (a ≡ true → P) → (b ≡ true → P) → (c ≡ true → P) → P
of_three true b c h f g k = f refl
of_three false true c h f g k = g refl
of_three false false c h f g k = k h

module _ (l m : Labels) (n : ℕ) (h : has_label (common l m) n ≡ true) where
  parts : (not (nat_eq n 0) ≡ true) × ((nat_eq n (label_or_zero m l.first) || nat_eq n (label_or_zero m l.second) || nat_eq n (label_or_zero m l.third)) ≡ true)
  parts = and_parts (not (nat_eq n 0)) (nat_eq n (label_or_zero m l.first) || nat_eq n (label_or_zero m l.second) || nat_eq n (label_or_zero m l.third)) h

  one_of : Bool
  one_of = nat_eq n l.first || nat_eq n l.second || nat_eq n l.third

  -- a label that two have is one of each
  pub common_first : has_label l n ≡ true
  common_first = and_from (not (nat_eq n 0)) _ parts.0 (of_three (nat_eq n (label_or_zero m l.first)) (nat_eq n (label_or_zero m l.second)) (nat_eq n (label_or_zero m l.third)) parts.1
      (λ e. or_left (nat_eq n l.first || nat_eq n l.second) (nat_eq n l.third) (or_left (nat_eq n l.first) (nat_eq n l.second) (kept_is m l.first n parts.0 e).0))
      (λ e. or_left (nat_eq n l.first || nat_eq n l.second) (nat_eq n l.third) (or_right (nat_eq n l.first) (nat_eq n l.second) (kept_is m l.second n parts.0 e).0))
      (λ e. or_right (nat_eq n l.first || nat_eq n l.second) (nat_eq n l.third) (kept_is m l.third n parts.0 e).0))

  pub common_second : has_label m n ≡ true
  common_second = of_three (nat_eq n (label_or_zero m l.first)) (nat_eq n (label_or_zero m l.second)) (nat_eq n (label_or_zero m l.third)) parts.1
      (λ e. (kept_is m l.first n parts.0 e).1)
      (λ e. (kept_is m l.second n parts.0 e).1)
      (λ e. (kept_is m l.third n parts.0 e).1)

-- labels that are all among others are apart from what those are apart from
pub still_apart : (l m : Labels) (a b : ℕ) → ((n : ℕ) → has_label l n ≡ true → has_label m n ≡ true) → is_apart m a b ≡ true → is_apart l a b ≡ true
still_apart l m a b up apart = ⊎_elim
    (λ some. absurd (false≢true (sym (not-true _ apart) ∙ ⊎_elim
    (λ first. or_left (has_label m a) (has_label m b) (up a first))
    (λ second. or_right (has_label m a) (has_label m b) (up b second))
    (or_cases (has_label l a) (has_label l b) some))))
    (λ none. ap not none)
    (cases_Bool (has_label l a || has_label l b))
