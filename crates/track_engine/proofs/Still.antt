-- Nothing is asked of solid vertices, and none moves.
use Rattle.std.proofs.Common.{◌≡◌, ℕ, ◌==◌, Bool, true, false, cond, not, List, [], ◌∷◌, map, Option, Some, ⊎_elim, refl, ap, sym, ◌∙◌, subst, eqb}
use Rattle.std.specs.Option.{option_map, unwrap_or}
use Rattle.std.specs.List.{AllByRecursion, IsDistinct, find}
use Rattle.std.proofs.lemmas.Map.Keys.{IsDistinct-head, IsDistinct-tail}
use Rattle.std.proofs.lemmas.Bool.{false≢true, eqb-true, eq-eqb}
use Rattle.grid_base.specs.declared.Shift.{Shift}
use Rattle.grid_base.specs.Triples.{Triple}
use Rattle.grid_base.specs.Points.{displacement_of, is_within}
use Rattle.mesh_base.specs.declared.ShiftOf.{ShiftOf}
use Rattle.mesh_base.specs.Mesh.{Mesh, is_solid}
use Rattle.mesh_base.specs.Changes.{with_solid}
use Rattle.mesh_base.specs.Placements.{origin, IsClearMesh}
use Rattle.mesh_base.specs.Shifts.{Shifts, shift_at, with_shift}
use Rattle.mesh_base.proofs.Moves.{unnamed}
use Rattle.mesh_base.proofs.Finite.{live_after_insert}
use Rattle.pair_scan.specs.Solids.{SolidsRest}
use Rattle.track_engine.specs.State.{Group, still_at}
use Rattle.track_engine.specs.Effects.{moves, moving, all_still, summed, summed_unless_solid, all_summed, one_summed, one_still, fail_if}
use Rattle.track_engine.specs.Invariant.{IsAskedWell}

-- nothing is asked of a solid vertex, one shift after the other
abbrev pub SolidsAreStill : Mesh → Shifts → Type 0
SolidsAreStill m asked = AllByRecursion (λ s. is_solid m s.v ≡ true → displacement_of s.by ≡ origin) asked

-- then each has no shift
pub rest_of_still : (m : Mesh) (asked : Shifts) → SolidsAreStill m asked → SolidsRest m asked
rest_of_still m [] still v solid = refl
rest_of_still m (s ∷ rest) still v solid = by_test (s.v == v) refl (rest_of_still m rest still.1 v solid)
  where
    by_test : (b : Bool) → (s.v == v) ≡ b → shift_at rest v ≡ origin → unwrap_or (option_map (λ (x : ShiftOf). displacement_of x.by) (cond b (Some s) (find (λ x. x.v == v) rest))) origin ≡ origin
    by_test true e later = still.0 (ap (is_solid m) (eqb-true s.v v e) ∙ solid)
    by_test false e later = later

-- and the other way round, where no vertex is named twice
pub still_of_rest : (m : Mesh) (asked : Shifts) → IsDistinct eqb (map (λ s. s.v) asked) → SolidsRest m asked → SolidsAreStill m asked
still_of_rest m [] once rests = tt
still_of_rest m (s ∷ rest) once rests =
    let apart = IsDistinct-head eqb s.v (map (λ x. x.v) rest) once in (
      λ solid. sym (here s.v (s.v == s.v) (eq-eqb s.v s.v refl)) ∙ rests s.v solid,
      still_of_rest m rest (IsDistinct-tail eqb s.v (map (λ x. x.v) rest) once) (λ v solid. others apart v (s.v == v) refl (rests v solid)),
    )
  where
    read : Option ShiftOf → Triple
    read o = unwrap_or (option_map (λ x. displacement_of x.by) o) origin

    here : (v : ℕ) (b : Bool) → b ≡ true → read (cond b (Some s) (find (λ x. x.v == v) rest)) ≡ displacement_of s.by
    here v b e = ap (λ t. read (cond t (Some s) (find (λ x. x.v == v) rest))) e

    others : AllByRecursion (λ u. eqb s.v u ≡ false) (map (λ x. x.v) rest) → (v : ℕ) (b : Bool) → (s.v == v) ≡ b → read (cond b (Some s) (find (λ x. x.v == v) rest)) ≡ origin → shift_at rest v ≡ origin
    others apart v true e h = subst (λ u. shift_at rest u ≡ origin) (eqb-true s.v v e) (unnamed s.v rest apart)
    others apart v false e h = h

-- a vertex whose shift is zero does not move
pub stays : (s : ShiftOf) → displacement_of s.by ≡ origin → moves s ≡ false
stays s e = ap (λ t. not (is_within 0 t)) e

-- so none of those that move is solid
pub moving_free : (m : Mesh) (shifts : Shifts) → SolidsAreStill m shifts → AllByRecursion (λ s. is_solid m s.v ≡ false) (moving shifts)
moving_free m [] still = tt
moving_free m (s ∷ rest) still = by_test (moves s) refl (moving_free m rest still.1)
  where
    free : moves s ≡ true → (b : Bool) → is_solid m s.v ≡ b → b ≡ false
    free e true solid = absurd (false≢true (sym (stays s (still.0 solid)) ∙ e))
    free e false solid = refl

    by_test : (b : Bool) → moves s ≡ b → AllByRecursion (λ x. is_solid m x.v ≡ false) (moving rest) → AllByRecursion (λ x. is_solid m x.v ≡ false) (cond b (s ∷ moving rest) (moving rest))
    by_test true e others = (free e (is_solid m s.v) refl, others)
    by_test false e others = others

-- ---- what is asked from here on

pub all_still_are : (m : Mesh) (asked : Shifts) → SolidsAreStill m (all_still asked)
all_still_are m [] = tt
all_still_are m (s ∷ rest) = (λ solid. refl, all_still_are m rest)

pub none_asked : (m : Mesh) (ids : List ℕ) → SolidsAreStill m (map still_at ids)
none_asked m [] = tt
none_asked m (v ∷ ids) = (λ solid. refl, none_asked m ids)

pub sums_still : (m : Mesh) (by : ℕ → Shift) (asked : Shifts) → SolidsAreStill m asked → SolidsAreStill m (all_summed m by asked)
sums_still m by [] still = tt
sums_still m by (s ∷ rest) still = (by_test (is_solid m s.v) refl, sums_still m by rest still.1)
  where
    by_test : (b : Bool) → is_solid m s.v ≡ b → is_solid m (summed_unless_solid m by s).v ≡ true → displacement_of (summed_unless_solid m by s).by ≡ origin
    by_test true e solid = ap (λ c. displacement_of (cond c s (with_shift s (summed (by s.v) s))).by) e ∙ still.0 e
    by_test false e solid = absurd (false≢true (sym e ∙ sym (ap (λ c. is_solid m (cond c s (with_shift s (summed (by s.v) s))).v) e) ∙ solid))

pub one_still_sum : (m : Mesh) (v : ℕ) (by : Shift) → is_solid m v ≡ false → (asked : Shifts) → SolidsAreStill m asked → SolidsAreStill m (one_summed v by asked)
one_still_sum m v by free [] still = tt
one_still_sum m v by free (s ∷ rest) still = (by_test (s.v == v) refl, one_still_sum m v by free rest still.1)
  where
    by_test : (b : Bool) → (s.v == v) ≡ b → is_solid m (cond b (with_shift s (summed by s)) s).v ≡ true → displacement_of (cond b (with_shift s (summed by s)) s).by ≡ origin
    by_test true e solid = absurd (false≢true (sym free ∙ ap (is_solid m) (sym (eqb-true s.v v e)) ∙ solid))
    by_test false e solid = still.0 solid

-- ---- a vertex that is made solid

pub ids_of_still_one : (v : ℕ) (asked : Shifts) → map (λ s. s.v) (one_still v asked) ≡ map (λ s. s.v) asked
ids_of_still_one v [] = refl
ids_of_still_one v (s ∷ rest) = ap (λ id. id ∷ map (λ x. x.v) (one_still v rest)) (by_test (s.v == v) refl) ∙ ap (λ ids. s.v ∷ ids) (ids_of_still_one v rest)
  where
    by_test : (b : Bool) → (s.v == v) ≡ b → (cond b (still_at v) s).v ≡ s.v
    by_test true e = sym (eqb-true s.v v e)
    by_test false e = refl

pub solid_still : (m : Mesh) (v : ℕ) (asked : Shifts) → SolidsAreStill m asked → SolidsAreStill (with_solid m v) (one_still v asked)
solid_still m v [] still = tt
solid_still m v (s ∷ rest) still = (by_test (s.v == v) refl, solid_still m v rest still.1)
  where
    by_test : (b : Bool) → (s.v == v) ≡ b → is_solid (with_solid m v) (cond b (still_at v) s).v ≡ true → displacement_of (cond b (still_at v) s).by ≡ origin
    by_test true e solid = refl
    by_test false e solid = ⊎_elim (λ same. absurd (false≢true (sym e ∙ eq-eqb s.v v same))) (λ old. still.0 old) (live_after_insert m.solid v tt s.v solid)

-- it is a vertex of the same pairs
pub clear-with_solid : (m : Mesh) (v : ℕ) → IsClearMesh m → IsClearMesh (with_solid m v)
clear-with_solid m v clear p is = clear p (record { ordered = is.ordered; edge = is.edge; face = is.face; not_first = is.not_first; not_second = is.not_second })

-- ---- open groups

pub groups_kept : (b : Bool) (groups : List Group) → AllByRecursion (λ g. IsAskedWell g.mesh g.asked) groups → AllByRecursion (λ g. IsAskedWell g.mesh g.asked) (fail_if b groups)
groups_kept b [] kept = tt
groups_kept b (g ∷ outer) kept = kept
