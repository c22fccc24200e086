-- An edit that is done, tested to some depth, is done at each greater one.
use Rattle.std.proofs.Common.{◌≡◌, ℕ, ◌≤◌, Bool, true, false, cond, not, List, [], ◌∷◌, ◌++◌, Option, Some, None, refl, ap, ◌∙◌}
use Rattle.std.specs.List.{find}
use Rattle.std.specs.Option.{option_or, option_map}
use Rattle.grid_base.specs.declared.Positions.{Positions}
use Rattle.grid_base.specs.SeparationTests.{passes}
use Rattle.grid_base.proofs.Deeper.{passes_test_deeper, opens_test_deeper, closes_test_deeper}
use Rattle.mesh_base.specs.Pairs.{Pair, pairs}
use Rattle.mesh_base.specs.Placements.{positions}
use Rattle.edit_base.specs.declared.scaffold.Touch.{Touch}
use Rattle.edit_base.specs.declared.scaffold.Touch.TheVariants.{Never, Start, End}
use Rattle.edit_base.specs.declared.answers.Why.{Why}
use Rattle.edit_base.specs.declared.answers.Why.TheVariants.{Hit}
use Rattle.edit_base.specs.declared.answers.Change.{Change}
use Rattle.edit_base.specs.declared.answers.Edit.TheVariants.{Done}
use Rattle.edit_base.specs.Scaffold.{Scaffold, motion_of, joins_contacts, meets_contact_rule, is_as_required, first_failing}
use Rattle.edit_base.specs.Reasons.{first_reason, done_unless, hit_in}
use Rattle.edit_base.proofs.Clear.{no_name}
use Rattle.edit_base.proofs.ReasonLaws.{done_is, none_first}

module _ {X : Type 0} (p q : X → Bool) (more : (x : X) → p x ≡ true → q x ≡ true) where
  none_found : (xs : List X) → find (λ x. not (p x)) xs ≡ None → find (λ x. not (q x)) xs ≡ None
  none_found [] e = refl
  none_found (x ∷ xs) e = by_test (none_found xs) (p x) refl e
    where
      by_test : (find (λ y. not (p y)) xs ≡ None → find (λ y. not (q y)) xs ≡ None) → (b : Bool) → p x ≡ b
          → cond (not b) (Some x) (find (λ y. not (p y)) xs) ≡ None → cond (not (q x)) (Some x) (find (λ y. not (q y)) xs) ≡ None
      by_test rest true t e = ap (λ b. cond (not b) (Some x) (find (λ y. not (q y)) xs)) (more x t) ∙ rest e
      by_test rest false t e = absurd cc

module _ (meets : Positions → Bool) (depth deeper : ℕ) (most : depth ≤ deeper) where
  rule_deeper : (touch : Touch) (s t : Positions) → meets_contact_rule meets touch depth s t ≡ true → meets_contact_rule meets touch deeper s t ≡ true
  rule_deeper Never s t e = passes_test_deeper meets depth deeper s t most e
  rule_deeper Start s t e = opens_test_deeper depth deeper s t most e
  rule_deeper End s t e = closes_test_deeper depth deeper s t most e

  required_deeper : (s : Scaffold) (p : Pair) → is_as_required meets s depth p ≡ true → is_as_required meets s deeper p ≡ true
  required_deeper s p e = by_test (joins_contacts s.together p) e
    where
      start : Positions
      start = positions (motion_of s).start p

      end : Positions
      end = positions (motion_of s).end p

      by_test : (b : Bool) → cond b (meets_contact_rule meets s.touch depth start end) (passes meets depth start end) ≡ true
          → cond b (meets_contact_rule meets s.touch deeper start end) (passes meets deeper start end) ≡ true
      by_test true e = rule_deeper s.touch start end e
      by_test false e = passes_test_deeper meets depth deeper start end most e

  none_failing_deeper : (s : Scaffold) → first_failing meets s depth ≡ None → first_failing meets s deeper ≡ None
  none_failing_deeper s none = ap (option_map (λ (p : Pair). p.name)) (none_found (is_as_required meets s depth) (is_as_required meets s deeper) (required_deeper s) (pairs s.mesh) (no_name (λ p. p.name) (find (λ p. not (is_as_required meets s depth p)) (pairs s.mesh)) none))

  no_hit_deeper : (s : Scaffold) → hit_in meets s depth ≡ None → hit_in meets s deeper ≡ None
  no_hit_deeper s none = ap (option_map (λ p. Hit p)) (none_failing_deeper s (no_name (λ p. Hit p) (first_failing meets s depth) none))

  no_reason_deeper : (s : Scaffold) (before : List (Option Why)) → first_reason (before ++ hit_in meets s depth ∷ []) ≡ None → first_reason (before ++ hit_in meets s deeper ∷ []) ≡ None
  no_reason_deeper s [] none = ap (λ o. option_or o None) (no_hit_deeper s (none_first (hit_in meets s depth) [] none).0)
  no_reason_deeper s (reason ∷ before) none =
      let two = none_first reason (before ++ hit_in meets s depth ∷ []) none in
      ap (λ o. option_or o (first_reason (before ++ hit_in meets s deeper ∷ []))) two.0 ∙ no_reason_deeper s before two.1

  -- the reasons before that of a pair do not look at the depth
  pub done_deeper : (s : Scaffold) (before : List (Option Why)) (change done : Change) → done_unless (first_reason (before ++ hit_in meets s depth ∷ [])) change ≡ Done done → done_unless (first_reason (before ++ hit_in meets s deeper ∷ [])) change ≡ Done done
  done_deeper s before change done e =
      let is = done_is (first_reason (before ++ hit_in meets s depth ∷ [])) change done e in
      ap (λ r. done_unless r change) (no_reason_deeper s before is.0) ∙ ap (λ c. Done c) is.1
