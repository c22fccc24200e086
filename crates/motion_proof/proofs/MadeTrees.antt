-- What the written test of a claim says of halves, and of the tree that the rule makes.
use Rattle.std.proofs.Common.{◌≡◌, ℕ, zero, suc, ◌-◌, ◌<◌, ◌++◌, ⊎_elim, inl, inr, ◌⊎◌, List, Option, Some, None, Box, Global, sym, subst, arith}
use Rattle.std.specs.List.{Any}
use Rattle.std.proofs.Math.IntN.{+ℤ_comm}
use Rattle.grid_base.specs.declared.TheConstants.{DEPTH_MAX, DIRECTION_MAX}
use Rattle.grid_base.specs.declared.Positions.{Positions}
use Rattle.grid_base.specs.Triples.{Triple, IsWithin, plus}
use Rattle.grid_base.specs.Separation.{KeepsApart, TakesApart, BringsTogether, AreSeparated, Opens, axes, ten_directions, directions, double, middle}
use Rattle.grid_base.proofs.MeetingLaws.{same_triple}
use Rattle.grid_base.proofs.SeparationLaws.{brought_backwards, taken_backwards, AreSeparated-at_once, Opens-at_once}
use Rattle.motion_test.proofs.InThree.{any_left, any_right, any_split}
use Rattle.motion_proof.specs.declared.certificate.Claim.{Claim}
use Rattle.motion_proof.specs.declared.certificate.Claim.TheVariants.{Along, After, Before}
use Rattle.motion_proof.specs.declared.certificate.Tree.{Tree}
use Rattle.motion_proof.specs.declared.certificate.Tree.TheVariants.{Leaf, Halves'}
use Rattle.motion_proof.specs.Trees.{Serves, Separates, FitsIn, IsValid, first_claim, second_claim, IsFirst, IsByRule, IsMadeTree, AreHalvesOf, IsFoundTree, PassesTest, Holds}
use Rattle.grid_base.proofs.SeparationLaws.{same_five}

-- ---- the interval the other way round
pub any_as : {P Q : Triple → Type 0} (ns : List Triple) → ((n : Triple) → P n → Q n) → Any P ns → Any Q ns
any_as ns f h = (h.0, h.1, h.2, h.3, f h.1 h.4)

-- it has the same directions, in another order
swapped : (P : Triple → Type 0) (s t : Positions) → Any P (directions s t) → Any P (directions t s)
swapped P s t any =
    let a = axes in let b = ten_directions s in let d = ten_directions t in
    ⊎_elim
    (λ two. ⊎_elim (λ axis. any_left P (a ++ d) b (any_left P a d axis)) (λ own. any_right P (a ++ d) b own) (any_split P a b two))
    (λ own. any_left P (a ++ d) b (any_right P a d own))
    (any_split P (a ++ b) d any)

kept_back : (s t : Positions) (n : Triple) → KeepsApart s t n → KeepsApart t s n
kept_back s t n h = ⊎_elim (λ b. inl (b.1, b.0)) (λ a. inr (a.1, a.0)) h

middle_back : (s t : Positions) → middle t s ≡ middle s t
middle_back s t = same_five _ _ (one t.a s.a) (one t.b s.b) (one t.c s.c) (one t.d s.d) (one t.e s.e)
  where
    one : (a b : Triple) → plus a b ≡ plus b a
    one a b = same_triple _ _ (+ℤ_comm a.x b.x) (+ℤ_comm a.y b.y) (+ℤ_comm a.z b.z)

any_kept_back : (s t : Positions) → Any (KeepsApart s t) (directions s t) → Any (KeepsApart t s) (directions t s)
any_kept_back s t h = any_as (directions t s) (kept_back s t) (swapped (KeepsApart s t) s t h)

-- separation is the same backwards
pub AreSeparated-back : (depth : ℕ) (s t : Positions) → AreSeparated depth s t → AreSeparated depth t s
AreSeparated-back zero s t h = any_kept_back s t h
AreSeparated-back (suc depth) s t h = ⊎_elim
    (λ one. inl (any_kept_back s t one))
    (λ two. inr (
      subst (λ m. AreSeparated depth (double t) m) (sym (middle_back s t)) (AreSeparated-back depth (middle s t) (double t) two.1),
      subst (λ m. AreSeparated depth m (double s)) (sym (middle_back s t)) (AreSeparated-back depth (double s) (middle s t) two.0),
    )) h

-- what serves before is what takes apart backwards
brought : (s t : Positions) → Any (BringsTogether s t) (directions s t) → Any (TakesApart t s) (directions t s)
brought s t h = any_as (directions t s) (brought_backwards s t) (swapped (BringsTogether s t) s t h)

of_brought : (s t : Positions) → Any (TakesApart t s) (directions t s) → Any (BringsTogether s t) (directions s t)
of_brought s t h = any_as (directions s t) (taken_backwards t s) (swapped (TakesApart t s) t s h)

-- ---- one step of the test
abbrev InHalves : Claim → ℕ → Positions → Positions → Type 0
InHalves claim depth s t = PassesTest (first_claim claim) depth (double s) (middle s t) × PassesTest (second_claim claim) depth (middle s t) (double t)

pub at_once : (claim : Claim) (depth : ℕ) (s t : Positions) → Any (Serves claim s t) (directions s t) → PassesTest claim depth s t
at_once Along depth s t h = AreSeparated-at_once depth s t h
at_once After depth s t h = Opens-at_once depth s t h
at_once Before depth s t h = Opens-at_once depth t s (brought s t h)

by_halves : (claim : Claim) (depth : ℕ) (s t : Positions) → InHalves claim depth s t → PassesTest claim (suc depth) s t
by_halves Along depth s t h = inr h
by_halves After depth s t h = inr h
by_halves Before depth s t h = inr (
  subst (λ m. Opens depth (double t) m) (sym (middle_back s t)) h.1,
  subst (λ m. AreSeparated depth m (double s)) (sym (middle_back s t)) (AreSeparated-back depth (double s) (middle s t) h.0),
)

no_depth : (claim : Claim) (s t : Positions) → PassesTest claim zero s t → Any (Serves claim s t) (directions s t)
no_depth Along s t h = h
no_depth After s t h = h
no_depth Before s t h = of_brought s t h

some_depth : (claim : Claim) (depth : ℕ) (s t : Positions) → PassesTest claim (suc depth) s t → Any (Serves claim s t) (directions s t) ⊎ InHalves claim depth s t
some_depth Along depth s t h = h
some_depth After depth s t h = h
some_depth Before depth s t h = ⊎_elim
    (λ one. inl (of_brought s t one))
    (λ two. inr (
      AreSeparated-back depth (middle s t) (double s) (subst (λ m. AreSeparated depth m (double s)) (middle_back s t) two.1),
      subst (λ m. Opens depth (double t) m) (middle_back s t) two.0,
    )) h

-- ---- where no direction serves
module _ (claim : Claim) (s t : Positions) (none : ¬ (Any (Serves claim s t) (directions s t))) where
  pub none_at_zero : (depth : ℕ) → depth ≡ 0 → ¬ (Holds claim depth s t)
  none_at_zero zero e h = none (no_depth claim s t h.test)
  none_at_zero (suc depth) e h = absurd (omega arith)

  pub none_by_first : (depth : ℕ) → 0 < depth → ¬ (Holds (first_claim claim) (depth - 1) (double s) (middle s t)) → ¬ (Holds claim depth s t)
  none_by_first zero some never h = absurd (omega arith)
  none_by_first (suc depth) some never h = let e : suc depth - 1 ≡ depth = omega arith in
      ⊎_elim none (λ two. never (rw e (record { test = two.0 }))) (some_depth claim depth s t h.test)

  pub none_by_second : (depth : ℕ) → 0 < depth → ¬ (Holds (second_claim claim) (depth - 1) (middle s t) (double t)) → ¬ (Holds claim depth s t)
  none_by_second zero some never h = absurd (omega arith)
  none_by_second (suc depth) some never h = let e : suc depth - 1 ≡ depth = omega arith in
      ⊎_elim none (λ two. never (rw e (record { test = two.1 }))) (some_depth claim depth s t h.test)

  halves_made : (depth : ℕ) (p q : Box (Unit {0}) Global) (a b : Tree) → 0 < depth → IsMadeTree (first_claim claim) (depth - 1) (double s) (middle s t) a → IsMadeTree (second_claim claim) (depth - 1) (middle s t) (double t) b → IsMadeTree claim depth s t (Halves' p a q b)
  halves_made zero p q a b some h k = absurd (omega arith)
  halves_made (suc depth) p q a b some h k = let e : suc depth - 1 ≡ depth = omega arith in
      record { fits = (rw e at h.fits, rw e at k.fits); rule = (none, h.rule, k.rule) }

  pub found_halves : (depth : ℕ) (a b : Tree) (tree : Option Tree) → 0 < depth → IsMadeTree (first_claim claim) (depth - 1) (double s) (middle s t) a → IsMadeTree (second_claim claim) (depth - 1) (middle s t) (double t) b → AreHalvesOf a b tree → IsFoundTree claim depth s t tree
  found_halves depth a b None some h k are = absurd are
  found_halves depth a b (Some (Leaf n)) some h k are = absurd are
  found_halves depth a b (Some (Halves' p x q y)) some h k are =
      halves_made depth p q x y some (subst (IsMadeTree (first_claim claim) (depth - 1) (double s) (middle s t)) (sym are.0) h) (subst (IsMadeTree (second_claim claim) (depth - 1) (middle s t) (double t)) (sym are.1) k)

-- ---- the tree that the rule makes
pub made_leaf : (claim : Claim) (depth : ℕ) (s t : Positions) (n : Triple) → IsFirst (Serves claim s t) (directions s t) n → IsWithin DIRECTION_MAX n → IsMadeTree claim depth s t (Leaf n)
made_leaf claim depth s t n first fits = record { fits = leaf_fits depth; rule = first }
  where
    leaf_fits : (depth : ℕ) → FitsIn depth (Leaf n)
    leaf_fits zero = fits
    leaf_fits (suc depth) = fits

some_first : (claim : Claim) (s t : Positions) (n : Triple) → IsFirst (Serves claim s t) (directions s t) n → Any (Serves claim s t) (directions s t)
some_first claim s t n h = (h.place, n, h.inside, h.there n, h.has)

made_test : (depth : ℕ) (claim : Claim) (tree : Tree) (s t : Positions) → FitsIn depth tree → IsByRule claim tree s t → PassesTest claim depth s t
made_test zero claim (Leaf n) s t fits rule = at_once claim zero s t (some_first claim s t n rule)
made_test zero claim (Halves' p a q b) s t fits rule = absurd fits
made_test (suc depth) claim (Leaf n) s t fits rule = at_once claim (suc depth) s t (some_first claim s t n rule)
made_test (suc depth) claim (Halves' p a q b) s t fits rule =
    by_halves claim depth s t (made_test depth (first_claim claim) a (double s) (middle s t) fits.0 rule.1, made_test depth (second_claim claim) b (middle s t) (double t) fits.1 rule.2)

pub made_holds : (claim : Claim) (depth : ℕ) (s t : Positions) (tree : Tree) → IsMadeTree claim depth s t tree → Holds claim depth s t
made_holds claim depth s t tree h = record { test = made_test depth claim tree s t h.fits h.rule }

rule_separates : (claim : Claim) (tree : Tree) (s t : Positions) → IsByRule claim tree s t → Separates claim tree s t
rule_separates claim (Leaf n) s t h = h.has
rule_separates claim (Halves' p a q b) s t h = (rule_separates (first_claim claim) a (double s) (middle s t) h.1, rule_separates (second_claim claim) b (middle s t) (double t) h.2)

pub made_valid : (claim : Claim) (s t : Positions) (tree : Tree) → IsMadeTree claim DEPTH_MAX s t tree → IsValid claim tree s t
made_valid claim s t tree h = record { fits = h.fits; separates = rule_separates claim tree s t h.rule }
