-- Where no pair of a scaffold fails to do what is required, its motion is clear.
use Rattle.std.proofs.Common.{◌≡◌, ℕ, ◌<◌, ◌≤◌, Bool, true, false, cond, not, List, [], ◌∷◌, Option, Some, None, refl, subst, arith}
use Rattle.std.proofs.lemmas.Bool.{not-false}
use Rattle.std.specs.List.{find, AllByRecursion}
use Rattle.std.specs.Option.{option_map}
use Rattle.grid_base.specs.declared.Positions.{Positions}
use Rattle.grid_base.specs.Motion.{NeverMeet, NeverMeetAfterStart, NeverMeetBeforeEnd}
use Rattle.grid_base.proofs.SeparationLaws.{Passes-never_meet, Opens-never_meet, Closes-never_meet}
use Rattle.edit_base.specs.declared.scaffold.Touch.{Touch}
use Rattle.edit_base.specs.declared.scaffold.Touch.TheVariants.{Never, Start, End}
use Rattle.mesh_base.specs.Mesh.{IsSound}
use Rattle.mesh_base.specs.Pairs.{Pair, IsPair, pairs}
use Rattle.mesh_base.specs.Placements.{positions}
use Rattle.grid_base.specs.SeparationTests.{IsExact, passes}
use Rattle.edit_base.specs.Scaffold.{Scaffold, motion_of, joins_contacts, meets_contact_rule, is_as_required, first_failing, IsClearBut}
use Rattle.edit_base.specs.Laws.{NoneFailingIsClear}
use Rattle.grid_base.proofs.Reflected.{passes_of, opens_of}
use Rattle.mesh_base.proofs.Listed.{listed}

pub not_found : {X : Type 0} (test : X → Bool) (xs : List X) → find test xs ≡ None → AllByRecursion (λ x. test x ≡ false) xs
not_found test [] e = tt
not_found {X} test (x ∷ xs) e = by_test (not_found test xs) (test x) refl e
  where
    by_test : (find test xs ≡ None → AllByRecursion (λ y. test y ≡ false) xs) → (b : Bool) → test x ≡ b → cond b (Some x) (find test xs) ≡ None → (test x ≡ false) × AllByRecursion (λ y. test y ≡ false) xs
    by_test rest true t e = absurd cc
    by_test rest false t e = (t, rest e)

pub no_name : {X Y : Type 0} (f : X → Y) (o : Option X) → option_map f o ≡ None → o ≡ None
no_name f (Some x) e = absurd cc
no_name f None e = refl

-- each pair is as required
pub as_required : (meets : Positions → Bool) (s : Scaffold) (depth : ℕ) → IsSound s.mesh → first_failing meets s depth ≡ None → (p : Pair) → IsPair s.mesh p → is_as_required meets s depth p ≡ true
as_required meets s depth sound none p is_pair =
    let found = not_found (λ q. not (is_as_required meets s depth q)) (pairs s.mesh) (no_name (λ q. q.name) (find (λ q. not (is_as_required meets s depth q)) (pairs s.mesh)) none) in
    not-false _ (listed s.mesh (λ q. not (is_as_required meets s depth q) ≡ false) sound found p is_pair)

either_of : (b x y : Bool) → cond b x y ≡ true → (P : Type 0) → (x ≡ true → P) → (y ≡ true → P) → P
either_of true x y e P f g = f e
either_of false x y e P f g = g e

-- where it does not meet, seen in the way that the definition of a clear motion sees it
module _ (meets : Positions → Bool) (exact : IsExact meets) (s : Scaffold) (depth : ℕ) where
  start : Pair → Positions
  start p = positions (motion_of s).start p

  end : Pair → Positions
  end p = positions (motion_of s).end p

  along : (p : Pair) → s.touch ≡ Never → is_as_required meets s depth p ≡ true → NeverMeet (start p) (end p)
  unfolding start end
  along p e r = Passes-never_meet depth (start p) (end p) (passes_of meets exact depth (start p) (end p)
      (either_of (joins_contacts s.together p) (meets_contact_rule meets s.touch depth (start p) (end p)) (passes meets depth (start p) (end p)) r _
      (λ t. subst (λ touch. meets_contact_rule meets touch depth (start p) (end p) ≡ true) e t) (λ t. t)))

  after_start : (p : Pair) → s.touch ≡ Start → is_as_required meets s depth p ≡ true → NeverMeetAfterStart (start p) (end p)
  unfolding start end
  after_start p e r = either_of (joins_contacts s.together p) (meets_contact_rule meets s.touch depth (start p) (end p)) (passes meets depth (start p) (end p)) r _
      (λ t. Opens-never_meet depth (start p) (end p) (opens_of depth (start p) (end p) (subst (λ touch. meets_contact_rule meets touch depth (start p) (end p) ≡ true) e t)))
      (λ t. λ n q some within. Passes-never_meet depth (start p) (end p) (passes_of meets exact depth (start p) (end p) t) n q (below some within) within)
    where
      below : {n q : ℕ} → 0 < n → n ≤ q → 0 < q
      below h k = omega arith

  before_end : (p : Pair) → s.touch ≡ End → is_as_required meets s depth p ≡ true → NeverMeetBeforeEnd (start p) (end p)
  unfolding start end
  before_end p e r = either_of (joins_contacts s.together p) (meets_contact_rule meets s.touch depth (start p) (end p)) (passes meets depth (start p) (end p)) r _
      (λ t. Closes-never_meet depth (start p) (end p) (opens_of depth (end p) (start p) (subst (λ touch. meets_contact_rule meets touch depth (start p) (end p) ≡ true) e t)))
      (λ t. λ n q within. Passes-never_meet depth (start p) (end p) (passes_of meets exact depth (start p) (end p) t) n q (some within) (most within))
    where
      some : {n q : ℕ} → n < q → 0 < q
      some h = omega arith

      most : {n q : ℕ} → n < q → n ≤ q
      most h = omega arith

  by_touch : IsSound s.mesh → first_failing meets s depth ≡ None → (touch : Touch) → s.touch ≡ touch → IsClearBut touch s.mesh (motion_of s)
  unfolding start end
  by_touch sound none Never e = λ n q some within p is_pair. along p e (as_required meets s depth sound none p is_pair) n q some within
  by_touch sound none Start e = λ n q some within p is_pair. after_start p e (as_required meets s depth sound none p is_pair) n q some within
  by_touch sound none End e = λ n q within p is_pair. before_end p e (as_required meets s depth sound none p is_pair) n q within

pub none_failing_is_clear : (meets : Positions → Bool) → IsExact meets → NoneFailingIsClear meets
none_failing_is_clear meets exact s depth sound none = by_touch meets exact s depth sound none s.touch refl
