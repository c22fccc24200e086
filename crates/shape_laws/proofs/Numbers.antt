-- What a list has, told in several ways, and lists in order.
use Rattle.std.proofs.Common.{◌≡◌, ℕ, ◌<◌, true, ◌==◌, List, [], ◌∷◌, length, slice_index, inl, inr, ⊎_elim, refl, subst, arith}
use Rattle.std.proofs.lemmas.Bool.{false≢true, eqb-true}
use Rattle.std.proofs.lemmas.Bool.Decides.{nat_tests}
use Rattle.std.proofs.lemmas.List.Elements.{All-from_recursion, recursion_from_All, All-contains_itself, All-contains}
use Rattle.std.specs.List.{AllByRecursion, Contains}
use Rattle.std.specs.List.Sorted.{IsStrictlySortedBy}
use Rattle.std.specs.Ordering.{nat_cmp}
use Rattle.std.specs.declared.cmp.Ordering.{Ordering}
use Rattle.std.specs.declared.cmp.Ordering.TheVariants.{Less, Equal}
use Rattle.mesh_base.proofs.Listed.{or_either}
use Rattle.mesh_base.proofs.ListedPairs.{all_weaker}
use Rattle.edit_base.specs.Classes.{is_one_of}
use Rattle.edit_base.proofs.Chains.{Has, either_first, either_second, equal_itself}
use Rattle.edit_pinch.proofs.FansApart.{Differ}
use Rattle.shape_laws.proofs.Lists.{In, AllDiffer}

-- ---- numbers
pub has_in : (xs : List ℕ) (x : ℕ) → In xs x → Has xs x
has_in [] x i = absurd i
has_in (y ∷ ys) x i = ⊎_elim (λ e. either_first (y == x) (is_one_of ys x) (subst (λ z. (y == z) ≡ true) e (equal_itself y))) (λ j. either_second (y == x) (is_one_of ys x) (has_in ys x j)) i

pub in_has : (xs : List ℕ) (x : ℕ) → Has xs x → In xs x
in_has [] x has = absurd (false≢true has)
in_has (y ∷ ys) x has = ⊎_elim (λ e. inl (eqb-true y x e)) (λ behind. inr (in_has ys x behind)) (or_either (y == x) (is_one_of ys x) has)

pub all_differ : (xs : List ℕ) → Differ xs → AllDiffer xs
all_differ [] h = tt
all_differ (x ∷ xs) h = (λ i. h.0 (has_in xs x i), all_differ xs h.1)

-- the first is one of them
pub first_there : (xs : List ℕ) (x : ℕ) → Has xs x → Has xs (slice_index xs 0)
first_there [] x has = absurd (false≢true has)
first_there (y ∷ ys) x has = either_first (y == y) (is_one_of ys y) (equal_itself y)

pub some_there : (xs : List ℕ) → 0 < length xs → (x : ℕ) × Has xs x
some_there [] h = absurd (omega arith)
some_there (y ∷ ys) h = (y, either_first (y == y) (is_one_of ys y) (equal_itself y))

pub has_some : (xs : List ℕ) (x : ℕ) → Has xs x → 0 < length xs
has_some [] x has = absurd (false≢true has)
has_some (y ∷ ys) x has = omega arith

-- ---- elements of any kind
pub at_in : {X : Type 0} (P : X → Type 0) (xs : List X) (x : X) → AllByRecursion P xs → In xs x → P x
at_in P [] x all i = absurd i
at_in P (y ∷ ys) x all i = ⊎_elim (λ e. subst P e all.0) (λ j. at_in P ys x all.1 j) i

pub each_in : {X : Type 0} (xs : List X) → AllByRecursion (In xs) xs
each_in [] = tt
each_in (x ∷ xs) = (inl refl, all_weaker (In xs) (In (x ∷ xs)) xs (λ y i. inr i) (each_in xs))

pub contains_in : {X : Type 0} (xs : List X) (x : X) → In xs x → Contains xs x
contains_in xs x i = at_in (Contains xs) xs x (recursion_from_All (Contains xs) xs (All-contains_itself xs)) i

pub in_contains : {X : Type 0} (xs : List X) (x : X) → Contains xs x → In xs x
in_contains xs x h = All-contains (In xs) xs x (All-from_recursion (In xs) xs (each_in xs)) h

-- ---- lists in order
pub differ_sorted : {X : Type 0} (R : X → X → Ordering) → ((x : X) → R x x ≡ Equal) → (xs : List X) → IsStrictlySortedBy R xs → AllDiffer xs
unfolding IsStrictlySortedBy
differ_sorted R tied [] h = tt
differ_sorted R tied (x ∷ xs) h = (λ i. let less : R x x ≡ Less = at_in (λ y. R x y ≡ Less) xs x h.0 i in let equal = tied x in absurd (cc), differ_sorted R tied xs h.1)

pub number_tied : (n : ℕ) → nat_cmp n n ≡ Equal
number_tied n = grind (arith, nat_tests)
