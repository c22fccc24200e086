-- A pair is as required by the moves of the vertices that are asked to move exactly where it passes in the step.
use Rattle.std.proofs.Common.{◌≡◌, ℕ, Bool, true, false, cond, not, ◌&&◌, List, [], ◌∷◌, map, Option, Some, is_some, refl, sym, ap, ◌∙◌}
use Rattle.std.proofs.lemmas.Bool.{false≢true, and_parts}
use Rattle.std.specs.Option.{option_map}
use Rattle.std.specs.List.{filter, find}
use Rattle.grid_base.specs.SeparationTests.{passes}
use Rattle.grid_decided.specs.Decided.{meets_exactly, meets_exactly-is_exact}
use Rattle.mesh_base.specs.declared.PairName.{PairName}
use Rattle.mesh_base.specs.Failing.{failing, pair_passes}
use Rattle.mesh_base.specs.Mesh.{Mesh}
use Rattle.mesh_base.specs.Pairs.{Pair, pairs}
use Rattle.mesh_base.specs.Placements.{positions}
use Rattle.mesh_base.specs.Shifts.{Shifts, NameLive, moved_by}
use Rattle.pair_scan.specs.Found.{has_none}
use Rattle.edit_base.specs.declared.Touch.TheVariants.{Never}
use Rattle.edit_base.specs.Scaffold.{Scaffold, is_as_required, first_failing}
use Rattle.edit_check.specs.Checking.{scaffold_by}
use Rattle.step_near.specs.Moving.{moves_by}
use Rattle.step_near.proofs.Halves.{passes_alike}
use Rattle.step_near.proofs.Motion.{starts_doubled, ends_doubled}

-- ---- the first for which a test fails, and all for which it does
none_alike : {X Y : Type 0} (name : X → Y) (f g : X → Bool) → ((x : X) → f x ≡ g x) → (xs : List X)
    → not (is_some (option_map name (find (λ x. not (f x)) xs))) ≡ has_none (map name (filter (λ x. not (g x)) xs))
none_alike name f g alike [] = refl
none_alike {X} name f g alike (x ∷ xs) =
    ap (λ b. not (is_some (option_map name (cond (not b) (Some x) (find (λ y. not (f y)) xs))))) (alike x)
    ∙ by_test (none_alike name f g alike xs) (g x)
  where
    by_test : not (is_some (option_map name (find (λ y. not (f y)) xs))) ≡ has_none (map name (filter (λ y. not (g y)) xs)) → (b : Bool)
        → not (is_some (option_map name (cond (not b) (Some x) (find (λ y. not (f y)) xs)))) ≡ has_none (map name (cond (not b) (x ∷ filter (λ y. not (g y)) xs) (filter (λ y. not (g y)) xs)))
    by_test others true = others
    by_test others false = refl

turned : (a b : Bool) → a ≡ not b → b ≡ not a
turned a true e = ap not (sym e)
turned a false e = ap not (sym e)

-- ---- in a step
module _ (m : Mesh) (asked : Shifts) (depth : ℕ) (named : NameLive m asked) where
  abbrev tested : Scaffold
  tested = scaffold_by m (moves_by m asked) Never []

  as_required : (p : Pair) → is_as_required meets_exactly tested depth p ≡ pair_passes meets_exactly depth (moved_by m asked) p
  as_required p =
      (λ i. passes meets_exactly depth (starts_doubled m asked named p i) (ends_doubled m asked named p i))
      ∙ passes_alike meets_exactly meets_exactly-is_exact depth (positions (moved_by m asked).start p) (positions (moved_by m asked).end p)

  -- none is found exactly where none fails
  none_found : not (is_some (first_failing meets_exactly tested depth)) ≡ has_none (failing meets_exactly m asked depth)
  none_found = none_alike (λ (p : Pair). p.name) (is_as_required meets_exactly tested depth) (pair_passes meets_exactly depth (moved_by m asked)) as_required (pairs m)

  -- so that is what is answered
  pub answered : (found : Option PairName) (none : Bool) → is_some found ≡ not none → found ≡ first_failing meets_exactly tested depth
      → none ≡ has_none (failing meets_exactly m asked depth)
  answered found none e is = turned (is_some found) none e ∙ ap (λ o. not (is_some o)) is ∙ none_found

-- ---- a list that has none
nothing : (xs : List PairName) → has_none xs ≡ true → xs ≡ []
nothing [] e = refl
nothing (x ∷ xs) e = absurd (false≢true e)

pub none_fails : (pass few : Bool) (failed : List PairName) → pass ≡ (few && has_none failed) → pass ≡ true → failed ≡ []
none_fails pass few failed is e = nothing failed (and_parts few (has_none failed) (sym is ∙ e)).1
