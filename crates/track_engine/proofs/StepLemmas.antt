-- A step of asked shifts of the live vertices that all end in the box.
use Rattle.std.proofs.Common.{◌≡◌, Bool, true, false, cond, ◌&&◌, not, List, [], ◌∷◌, map, eqb, Some, None, refl, sym, ap, ◌∙◌}
use Rattle.std.specs.Option.{option_map}
use Rattle.std.specs.List.{find, All, AllByRecursion, IsDistinct}
use Rattle.std.proofs.lemmas.List.Elements.{All-head, All-tail}
use Rattle.std.proofs.lemmas.Map.Keys.{IsDistinct-head, IsDistinct-tail}
use Rattle.grid_base.specs.declared.TheConstants.{BOX}
use Rattle.grid_base.specs.Points.{is_within}
use Rattle.grid_base.proofs.PointLaws.{within_of}
use Rattle.mesh_base.specs.declared.ShiftOf.{ShiftOf}
use Rattle.mesh_base.specs.Mesh.{Mesh, IsLiveVertex}
use Rattle.mesh_base.specs.Shifts.{Shifts, NameLive, end_in_box, with_move}
use Rattle.mesh_base.proofs.Moves.{both_true, still_live, same_ends}
use Rattle.mesh_base.proofs.MovesNamed.{name_once}
use Rattle.track_engine.specs.State.{still_at, no_shifts}
use Rattle.track_engine.specs.Effects.{end_of, first_outside, moves, all_still}
use Rattle.track_engine.specs.Placing.{AreLive, CanPlace}

-- what holds of all holds of each in turn
by_recursion : {X : Type 0} (P : X → Type 0) (xs : List X) → All P xs → AllByRecursion P xs
by_recursion P [] h = tt
by_recursion P (x ∷ xs) h = (All-head P x xs h, by_recursion P xs (All-tail P x xs h))

pub asked_are_live : (m : Mesh) (asked : Shifts) → NameLive m asked → AreLive m asked
asked_are_live m asked named = by_recursion (λ s. IsLiveVertex m s.v) asked (name_once m asked named).live

-- none ends outside
pub all_inside : (m : Mesh) (asked : Shifts) → first_outside m asked ≡ None → end_in_box m asked ≡ true
all_inside m [] e = refl
all_inside m (s ∷ rest) e = by_test (all_inside m rest) (is_within BOX (end_of m s)) e
  where
    by_test : (first_outside m rest ≡ None → end_in_box m rest ≡ true) → (b : Bool) → option_map (λ (t : ShiftOf). t.v) (cond (not b) (Some s) (find (λ t. not (is_within BOX (end_of m t))) rest)) ≡ None → (b && end_in_box m rest) ≡ true
    by_test others true h = others h
    by_test others false h = absurd cc

-- each can be placed in turn
placeable : (m : Mesh) (asked : Shifts) → All (λ s. IsLiveVertex m s.v) asked → IsDistinct eqb (map (λ s. s.v) asked) → end_in_box m asked ≡ true → CanPlace m asked
placeable m [] live once inside = tt
placeable m (s ∷ rest) live once inside =
    let here = All-head (λ x. IsLiveVertex m x.v) s rest live in
    let others = All-tail (λ x. IsLiveVertex m x.v) s rest live in
    let ends = both_true (is_within BOX (end_of m s)) (end_in_box m rest) inside in
    let apart = IsDistinct-tail eqb s.v (map (λ x. x.v) rest) once in (
      λ t. (here, within_of BOX (end_of m s) ends.0),
      by_test (placeable m rest others apart ends.1)
          (placeable (with_move m s) rest (still_live m s rest here others) apart (same_ends m s rest (IsDistinct-head eqb s.v (map (λ x. x.v) rest) once) ∙ ends.1))
          (moves s),
    )
  where
    by_test : CanPlace m rest → CanPlace (with_move m s) rest → (b : Bool) → CanPlace (cond b (with_move m s) m) rest
    by_test kept moved true = moved
    by_test kept moved false = kept

pub can_place_taken : (m : Mesh) (taken : Shifts) → NameLive m taken → end_in_box m taken ≡ true → CanPlace m taken
can_place_taken m taken named inside = let names = name_once m taken named in placeable m taken names.live names.once inside

-- the same vertices are named
pub ids_of_still : (asked : Shifts) → map (λ s. s.v) (all_still asked) ≡ map (λ s. s.v) asked
ids_of_still [] = refl
ids_of_still (s ∷ rest) = ap (λ l. s.v ∷ l) (ids_of_still rest)

stills_of : (asked : Shifts) → map still_at (map (λ s. s.v) asked) ≡ all_still asked
stills_of [] = refl
stills_of (s ∷ rest) = ap (λ l. still_at s.v ∷ l) (stills_of rest)

-- where each live vertex is named, no shift for each of them is none for each that is named
pub still_is : (m : Mesh) (asked : Shifts) → NameLive m asked → no_shifts m ≡ all_still asked
still_is m asked named = ap (map still_at) (sym named) ∙ stills_of asked
