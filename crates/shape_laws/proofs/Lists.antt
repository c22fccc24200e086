-- Lists in which nothing stands twice, and how long they are.
use Rattle.std.proofs.Common.{◌≡◌, ◌⊎◌, suc, ◌≤◌, List, [], ◌∷◌, length, inl, inr, ⊎_elim, refl, sym, subst, ◌∙◌, arith}

-- the list has it
abbrev pub In : {X : Type 0} → List X → X → Type 0
In [] x = ⊥
In (y ∷ ys) x = (y ≡ x) ⊎ In ys x

-- nothing stands twice in the list
abbrev pub AllDiffer : {X : Type 0} → List X → Type 0
AllDiffer [] = Unit {0}
AllDiffer (x ∷ xs) = (In xs x → ⊥) × AllDiffer xs

-- one place less in a list, and all else that it has
abbrev LessOne : {X : Type 0} → List X → X → Type 0
LessOne {X} ys y = (zs : List X) × (suc (length zs) ≡ length ys) × ((z : X) → In ys z → (z ≡ y → ⊥) → In zs z)

take_out : {X : Type 0} (ys : List X) (y : X) → In ys y → LessOne ys y
take_out [] y i = absurd i
take_out {X} (x ∷ xs) y i = ⊎_elim here (λ j. behind (take_out xs y j)) i
  where
    here : x ≡ y → LessOne (x ∷ xs) y
    here e = (xs, omega arith, λ z j apart. ⊎_elim (λ h. absurd (apart (sym h ∙ e))) (λ k. k) j)

    behind : LessOne xs y → LessOne (x ∷ xs) y
    behind rest =
        let less = rest.1 in
        (x ∷ rest.0, omega (arith, less), λ z k apart. ⊎_elim (λ h. inl h) (λ l. inr (rest.2 z l apart)) k)

-- a list from which one-to-one ways lead into another is not the longer
pub no_longer : {X Y : Type 0} (P : X → Y → Type 0) (xs : List X) (ys : List Y) → AllDiffer xs → ((x : X) → In xs x → (y : Y) × In ys y × P x y) → ((x z : X) (y : Y) → In xs x → In xs z → P x y → P z y → x ≡ z) → length xs ≤ length ys
no_longer P [] ys differ to one = omega arith
no_longer {X} {Y} P (x ∷ xs) ys differ to one =
    let here = to x (inl refl) in
    let rest = take_out ys here.0 here.1 in
    let fewer = no_longer P xs rest.0 differ.1 (into here rest) (λ a b y i j p q. one a b y (inr i) (inr j) p q) in
    let less = rest.1 in
    omega (arith, fewer, less)
  where
    into : (here : (y : Y) × In ys y × P x y) (rest : LessOne ys here.0) (z : X) → In xs z → (y : Y) × In rest.0 y × P z y
    into here rest z i =
        let there = to z (inr i) in (
          there.0,
          rest.2 there.0 there.1 (λ e. differ.0 (subst (In xs) (one z x here.0 (inr i) (inl refl) (subst (P z) e there.2) here.2) i)),
          there.2,
        )

-- lists with the same elements are as long
pub same_length : {X : Type 0} (xs ys : List X) → AllDiffer xs → AllDiffer ys → ((x : X) → In xs x → In ys x) → ((x : X) → In ys x → In xs x) → length xs ≡ length ys
same_length {X} xs ys differ differ' to from =
    let one = no_longer (λ x y. x ≡ y) xs ys differ (λ x i. (x, to x i, refl)) (λ x z y i j p q. p ∙ sym q) in
    let two = no_longer (λ x y. x ≡ y) ys xs differ' (λ x i. (x, from x i, refl)) (λ x z y i j p q. p ∙ sym q) in
    omega (arith, one, two)
