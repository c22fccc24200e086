-- A shift more: its vertex is named, it ends in the box, and it is none of a solid vertex.
use Rattle.std.proofs.Common.{◌≡◌, ℕ, ◌==◌, Bool, true, false, cond, ◌++◌, [], ◌∷◌, map, Option, Some, refl, sym, ap, ◌∙◌, IsTrue}
use Rattle.std.specs.Option.{option_map, unwrap_or}
use Rattle.std.specs.List.{find}
use Rattle.std.proofs.lemmas.Bool.{eqb-true}
use Rattle.grid_base.specs.declared.TheConstants.{BOX}
use Rattle.grid_base.specs.Triples.{plus}
use Rattle.grid_base.specs.Points.{displacement_of, is_within}
use Rattle.mesh_base.specs.declared.ShiftOf.{ShiftOf}
use Rattle.mesh_base.specs.Mesh.{Mesh, is_solid}
use Rattle.mesh_base.specs.Placements.{origin, rest_positions}
use Rattle.mesh_base.specs.Shifts.{Shifts, shift_at, end_in_box}
use Rattle.mesh_base.proofs.Tests.{and_first, and_second, and_both}
use Rattle.pair_scan.specs.Solids.{SolidsRest}

pub rests_more : (m : Mesh) (by : Shifts) (s : ShiftOf) → (is_solid m s.v ≡ true → displacement_of s.by ≡ origin) → SolidsRest m by → SolidsRest m (by ++ s ∷ [])
rests_more m by s here before v solid = among by (before v solid)
  where
    last : (b : Bool) → (s.v == v) ≡ b → unwrap_or (option_map (λ (x : ShiftOf). displacement_of x.by) (cond b (Some s) (find (λ x. x.v == v) []))) origin ≡ origin
    last true e = here (ap (is_solid m) (eqb-true s.v v e) ∙ solid)
    last false e = refl

    by_test : (x : ShiftOf) (rest : Shifts) (b : Bool) → unwrap_or (option_map (λ (y : ShiftOf). displacement_of y.by) (cond b (Some x) (find (λ y. y.v == v) rest))) origin ≡ origin
        → (shift_at rest v ≡ origin → shift_at (rest ++ s ∷ []) v ≡ origin)
        → unwrap_or (option_map (λ (y : ShiftOf). displacement_of y.by) (cond b (Some x) (find (λ y. y.v == v) (rest ++ s ∷ [])))) origin ≡ origin
    by_test x rest true h later = h
    by_test x rest false h later = later h

    among : (xs : Shifts) → shift_at xs v ≡ origin → shift_at (xs ++ s ∷ []) v ≡ origin
    among [] h = last (s.v == v) refl
    among (x ∷ rest) h = by_test x rest (x.v == v) h (among rest)

pub names_more : (by : Shifts) (s : ShiftOf) → map (λ x. x.v) (by ++ s ∷ []) ≡ map (λ x. x.v) by ++ s.v ∷ []
names_more [] s = refl
names_more (x ∷ by) s = ap (λ ids. x.v ∷ ids) (names_more by s)

pub ends_more : (m : Mesh) (by : Shifts) (s : ShiftOf) → end_in_box m by ≡ true → is_within BOX (plus (rest_positions m s.v) (displacement_of s.by)) ≡ true → end_in_box m (by ++ s ∷ []) ≡ true
ends_more m [] s h inside = and_both (is_within BOX (plus (rest_positions m s.v) (displacement_of s.by))) true inside refl
ends_more m (x ∷ by) s h inside =
    and_both (is_within BOX (plus (rest_positions m x.v) (displacement_of x.by))) (end_in_box m (by ++ s ∷ []))
    (and_first (is_within BOX (plus (rest_positions m x.v) (displacement_of x.by))) (end_in_box m by) h)
    (ends_more m by s (and_second (is_within BOX (plus (rest_positions m x.v) (displacement_of x.by))) (end_in_box m by) h) inside)
