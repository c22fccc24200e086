-- Where nothing moves, the first pair that is not as required is the first that meets.
use Rattle.std.proofs.Common.{◌≡◌, ℕ, Bool, true, false, not, [], refl, ap, ◌∙◌, arith}
use Rattle.std.specs.Option.{option_map}
use Rattle.grid_base.specs.declared.Positions.{Positions}
use Rattle.grid_base.specs.Meeting.{MeetAt}
use Rattle.grid_base.specs.Separation.{multiple}
use Rattle.grid_base.specs.SeparationTests.{passes}
use Rattle.grid_base.proofs.MeetingLaws.{Meets-multiple, Meets-unmultiple}
use Rattle.grid_base.proofs.SeparationLaws.{Passes-still, still-Passes}
use Rattle.grid_base.proofs.Reflected.{passes_of, of_passes}
use Rattle.grid_decided.specs.Decided.{meets_exactly, meets_exactly-is_exact}
use Rattle.mesh_base.specs.Mesh.{Mesh}
use Rattle.mesh_base.specs.Pairs.{Pair, pairs}
use Rattle.mesh_base.specs.Placements.{rest_positions, rest_positions_doubled, positions}
use Rattle.mesh_base.specs.Failing.{first_meeting}
use Rattle.mesh_base.proofs.Tests.{both_ways}
use Rattle.edit_base.specs.declared.Touch.TheVariants.{Never}
use Rattle.edit_base.specs.Scaffold.{is_as_required, first_failing}
use Rattle.edit_check.specs.Checking.{scaffold_by}
use Rattle.pair_scan.proofs.Lists.{find-alike}

not_met : (f : Positions) → (MeetAt f → ⊥) → not (meets_exactly f) ≡ true
not_met f never = by_test (meets_exactly f) refl
  where
    by_test : (b : Bool) → meets_exactly f ≡ b → not b ≡ true
    by_test true e = absurd (never ((meets_exactly-is_exact f).0 e))
    by_test false e = refl

met_not : (f : Positions) → not (meets_exactly f) ≡ true → MeetAt f → ⊥
met_not f e meet = let met = (meets_exactly-is_exact f).1 meet in cc

-- what stays passes where it does not meet
stays : (depth : ℕ) (f : Positions) → passes meets_exactly depth f f ≡ not (meets_exactly f)
stays depth f = both_ways (passes meets_exactly depth f f) (not (meets_exactly f))
    (λ e. not_met f (still-Passes depth f (passes_of meets_exactly meets_exactly-is_exact depth f f e)))
    (λ e. of_passes meets_exactly meets_exactly-is_exact depth f f (Passes-still depth f (met_not f e)))

-- in half units as in whole ones
doubled : (f : Positions) → meets_exactly (multiple 2 f) ≡ meets_exactly f
doubled f = both_ways (meets_exactly (multiple 2 f)) (meets_exactly f)
    (λ e. (meets_exactly-is_exact f).1 (Meets-unmultiple 2 f (omega arith) ((meets_exactly-is_exact (multiple 2 f)).0 e)))
    (λ e. (meets_exactly-is_exact (multiple 2 f)).1 (Meets-multiple 2 f ((meets_exactly-is_exact f).0 e)))

not_not : (b : Bool) → not (not b) ≡ b
not_not true = refl
not_not false = refl

lacks : (m : Mesh) (depth : ℕ) (p : Pair) → not (is_as_required meets_exactly (scaffold_by m [] Never []) depth p) ≡ meets_exactly (positions (rest_positions m) p)
lacks m depth p =
    ap not (stays depth (positions (rest_positions_doubled m) p))
    ∙ not_not (meets_exactly (positions (rest_positions_doubled m) p))
    ∙ doubled (positions (rest_positions m) p)

pub first_met : (m : Mesh) (depth : ℕ) → first_failing meets_exactly (scaffold_by m [] Never []) depth ≡ first_meeting meets_exactly m (rest_positions m)
first_met m depth = ap (option_map (λ p. p.name))
    (find-alike (λ p. not (is_as_required meets_exactly (scaffold_by m [] Never []) depth p)) (λ p. meets_exactly (positions (rest_positions m) p)) (lacks m depth) (pairs m))
