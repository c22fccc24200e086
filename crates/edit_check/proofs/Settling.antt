-- What is found once edges are looked at, in any order.
use Rattle.std.proofs.Common.{◌≡◌, ℕ, Bool, true, false, cond, ◌&&◌, ◌||◌, ◌==◌, nat_lt, nat_le, List, [], ◌∷◌, Option, Some, None, ◌⊎◌, ⊎_elim, inl, inr, refl, sym, ap, ◌∙◌, arith}
use Rattle.std.proofs.lemmas.Bool.{false≢true}
use Rattle.std.proofs.lemmas.Bool.Decides.{nat_tests}
use Rattle.std.specs.List.{fold, AllByRecursion}
use Rattle.std.specs.Option.{option_or}
use Rattle.mesh_base.specs.declared.ids.PairName.{PairName}
use Rattle.pair_paths.specs.declared.moving_parts.MovingEdge.{MovingEdge}
use Rattle.edit_check.specs.Searching.{is_settled, with_edge}

-- the one is the other, or comes after it
abbrev pub is_after : ℕ → ℕ → ℕ → ℕ → Bool
is_after c d a b = nat_lt c a || ((c == a) && nat_le d b)

after_itself : (a b : ℕ) → is_after a b a b ≡ true
after_itself a b = grind (arith, nat_tests)

after_earlier : (k l c d a b : ℕ) → is_after k l a b ≡ true → is_after k l c d ≡ false → is_after c d a b ≡ true
after_earlier k l c d a b h i = grind (arith, nat_tests)

module _ (first : MovingEdge → Option PairName) (named : (e : MovingEdge) (n : PairName) → first e ≡ Some n → (n.a ≡ e.a) × (n.b ≡ e.b)) where
  -- each edge that was settled is settled still
  keeps : (found : Option PairName) (e : MovingEdge) (a b : ℕ) → is_settled found a b ≡ true → is_settled (with_edge first found e) a b ≡ true
  keeps found e a b h = by_test found (is_settled found e.a e.b) (first e) h refl refl
    where
      by_test : (found : Option PairName) (t : Bool) (o : Option PairName) → is_settled found a b ≡ true → is_settled found e.a e.b ≡ t → first e ≡ o → is_settled (cond t found (option_or o found)) a b ≡ true
      by_test found true o h i is = h
      by_test found false None h i is = h
      by_test None false (Some n) h i is = absurd (false≢true h)
      by_test (Some k) false (Some n) h i is =
          let two = named e n is in
          after_earlier k.a k.b n.a n.b a b h (ap (λ x. is_after k.a k.b x n.b) two.0 ∙ ap (λ x. is_after k.a k.b e.a x) two.1 ∙ i)

  -- an edge that is looked at is settled, or has none
  settles : (found : Option PairName) (e : MovingEdge) → (first e ≡ None) ⊎ (is_settled (with_edge first found e) e.a e.b ≡ true)
  settles found e = by_test (is_settled found e.a e.b) (first e) refl refl
    where
      by_test : (t : Bool) (o : Option PairName) → is_settled found e.a e.b ≡ t → first e ≡ o → (first e ≡ None) ⊎ (is_settled (cond t found (option_or o found)) e.a e.b ≡ true)
      by_test true o i is = inr i
      by_test false None i is = inl is
      by_test false (Some n) i is =
          let two = named e n is in
          inr (ap (λ x. is_after x n.b e.a e.b) two.0 ∙ ap (λ x. is_after e.a x e.a e.b) two.1 ∙ after_itself e.a e.b)

  -- what is found is the first of one that is looked at
  is_of_one : (found : Option PairName) (e : MovingEdge) (n : PairName) → with_edge first found e ≡ Some n → (found ≡ Some n) ⊎ (first e ≡ Some n)
  is_of_one found e n h = by_test (is_settled found e.a e.b) (first e) refl h
    where
      by_test : (t : Bool) (o : Option PairName) → first e ≡ o → cond t found (option_or o found) ≡ Some n → (found ≡ Some n) ⊎ (first e ≡ Some n)
      by_test true o is h = inl h
      by_test false None is h = inl h
      by_test false (Some k) is h = inr (is ∙ h)

  -- ---- of all edges of a list
  keeps_all : (es : List MovingEdge) (found : Option PairName) (a b : ℕ) → is_settled found a b ≡ true → is_settled (fold (with_edge first) found es) a b ≡ true
  keeps_all [] found a b h = h
  keeps_all (e ∷ es) found a b h = keeps_all es (with_edge first found e) a b (keeps found e a b h)

  pub all_settled : (es : List MovingEdge) (found : Option PairName) → AllByRecursion (λ e. (first e ≡ None) ⊎ (is_settled (fold (with_edge first) found es) e.a e.b ≡ true)) es
  all_settled [] found = tt
  all_settled (e ∷ es) found =
      (⊎_elim (λ none. inl none) (λ h. inr (keeps_all es (with_edge first found e) e.a e.b h)) (settles found e), all_settled es (with_edge first found e))

  pub found_of_one : (P : MovingEdge → Type 0) (es : List MovingEdge) (found : Option PairName) (n : PairName) → AllByRecursion P es → fold (with_edge first) found es ≡ Some n
      → (found ≡ Some n) ⊎ ((e : MovingEdge) × (P e × (first e ≡ Some n)))
  found_of_one P [] found n all h = inl h
  found_of_one P (e ∷ es) found n all h = ⊎_elim
      (λ now. ⊎_elim (λ before. inl before) (λ is. inr (e, (all.0, is))) (is_of_one found e n now))
      (λ later. inr later)
      (found_of_one P es (with_edge first found e) n all.1 h)

-- ---- an edge that is passed over
pub passed_over : (run : Bool) (found with_it : Option PairName) → (run ≡ false → with_it ≡ found) → found ≡ cond run found with_it
passed_over true found with_it h = refl
passed_over false found with_it h = sym (h refl)

pub left_out : (run : Bool) (found with_it : Option PairName) → run ≡ true → found ≡ cond run found with_it
left_out run found with_it h = sym (ap (λ t. cond t found with_it) h)

pub settled_already : (first : MovingEdge → Option PairName) (found : Option PairName) (e : MovingEdge) → is_settled found e.a e.b ≡ true → with_edge first found e ≡ found
settled_already first found e h = ap (λ t. cond t found (option_or (first e) found)) h

pub none_there : (first : MovingEdge → Option PairName) (found : Option PairName) (e : MovingEdge) → first e ≡ None → with_edge first found e ≡ found
none_there first found e h = ap (λ o. cond (is_settled found e.a e.b) found (option_or o found)) h ∙ alike (is_settled found e.a e.b)
  where
    alike : (t : Bool) → cond t found found ≡ found
    alike true = refl
    alike false = refl

-- what the edge has is what is found, where the edge is neither passed over nor settled
pub is_new : (first : MovingEdge → Option PairName) (run : Bool) (found : Option PairName) (e : MovingEdge) (n : PairName) → run ≡ false → is_settled found e.a e.b ≡ false → first e ≡ Some n
    → Some n ≡ cond run found (with_edge first found e)
is_new first run found e n off unsettled is =
    sym (ap (λ t. cond t found (with_edge first found e)) off ∙ ap (λ t. cond t found (option_or (first e) found)) unsettled ∙ ap (λ o. option_or o found) is)
