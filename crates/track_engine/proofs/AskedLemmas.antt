-- What is asked of each live vertex, by a list that names some.
use Rattle.std.proofs.Common.{◌≡◌, ℕ, ◌<◌, ◌≤◌, ◌==◌, Bool, true, false, cond, List, [], ◌∷◌, map, is_some, Option, Some, None, Result, Ok, Err, refl, ap, sym, ◌∙◌, subst, ⊎_elim, arith}
use Rattle.std.specs.Option.{option_map, unwrap_or}
use Rattle.std.specs.List.{AllByRecursion}
use Rattle.std.specs.Ordering.{nat_cmp}
use Rattle.std.specs.Cmp.{nat_cmp_total, unsigned_tied}
use Rattle.std.specs.FinMap as finite
use Rattle.std.specs.FinMap.{entries_sorted, get-entries, get-insert}
use Rattle.std.specs.FinMap.Entries as entries
use Rattle.std.proofs.lemmas.Bool.{false≢true, eqb-true, cases_lt}
use Rattle.std.proofs.lemmas.Bool.Decides.{nat_tests}
use Rattle.grid_base.specs.declared.TheConstants.{SHIFT_MAX}
use Rattle.grid_base.specs.declared.Point.{Point}
use Rattle.grid_base.specs.declared.Shift.{Shift}
use Rattle.grid_base.specs.declared.NoMemory.{NoMemory}
use Rattle.grid_base.specs.Triples.{IsWithin}
use Rattle.grid_base.specs.Points.{displacement_of, is_within, shift_by, no_shift}
use Rattle.grid_base.proofs.PointLaws.{shift_by-displacement_of, within_of, of_within}
use Rattle.mesh_base.specs.declared.ShiftOf.{ShiftOf}
use Rattle.mesh_base.specs.declared.UseWhy.TheVariants.{NoVertex, ShiftRange, Solid as SolidVertex}
use Rattle.mesh_base.specs.Mesh.{Mesh, IsSound, IsLiveVertex, is_solid}
use Rattle.mesh_base.specs.Changes.{with_solid}
use Rattle.mesh_base.specs.Placements.{origin}
use Rattle.mesh_base.specs.Shifts.{Shifts, NameLive, with_shift}
use Rattle.mesh_base.proofs.Finite.{live_inserted}
use Rattle.mesh_base.proofs.Listed.{each_found}
use Rattle.mesh_base.proofs.ListedPairs.{all_mapped, all_weaker}
use Rattle.mesh_base.proofs.Tests.{test_either_way}
use Rattle.pair_scan.proofs.Paths.{ids_sorted}
use Rattle.track_engine.specs.State.{still_at, asked_of, still_asked, asked_in, no_shifts}
use Rattle.track_engine.specs.Effects.{summed, one_summed, one_still, sum_at, sum_of_one}
use Rattle.track_engine.specs.Shifting.{AreBelow, IsPut, IsPutIn, AsksOfGiven}
use Rattle.track_engine.proofs.AskedLists.{each_is_found}
use Rattle.track_engine.proofs.ShiftLemmas.{summed_as}
use Rattle.track_engine.proofs.Still.{SolidsAreStill}
use Rattle.track_engine.proofs.VertexIds.{VertexIdsGoOn}

-- ---- of one vertex

-- what is asked of a vertex names it
named_at : (v : ℕ) (asked : Shifts) → (unwrap_or (asked_of v asked) (still_at v)).v ≡ v
named_at v [] = refl
named_at v (s ∷ rest) = by_test (named_at v rest) (s.v == v) refl
  where
    by_test : (unwrap_or (asked_of v rest) (still_at v)).v ≡ v → (b : Bool) → (s.v == v) ≡ b → (unwrap_or (cond b (Some s) (asked_of v rest)) (still_at v)).v ≡ v
    by_test others true e = eqb-true s.v v e
    by_test others false e = others

pub still_named : (m : Mesh) (asked : Shifts) (v : ℕ) → (still_asked m asked v).v ≡ v
still_named m asked v = by_test (is_solid m v)
  where
    by_test : (b : Bool) → (cond b (still_at v) (unwrap_or (asked_of v asked) (still_at v))).v ≡ v
    by_test true = refl
    by_test false = named_at v asked

pub asked_free : (m : Mesh) (asked : Shifts) (v : ℕ) → is_solid m v ≡ false → still_asked m asked v ≡ unwrap_or (asked_of v asked) (still_at v)
asked_free m asked v free = ap (λ b. cond b (still_at v) (unwrap_or (asked_of v asked) (still_at v))) free

-- ---- among what is asked of all

found_among : (m : Mesh) (asked : Shifts) (v : ℕ) (es : List (ℕ × Point)) → asked_of v (map (still_asked m asked) (map (λ e. e.0) es)) ≡ option_map (λ p. still_asked m asked v) (entries.find nat_cmp v es)
found_among m asked v [] = refl
found_among m asked v (e ∷ es) =
    ap (λ id. cond (id == v) (Some (still_asked m asked e.0)) (asked_of v rest)) (still_named m asked e.0)
    ∙ by_test (found_among m asked v es) (e.0 == v) refl
    ∙ sym (ap (λ b. option_map (λ p. still_asked m asked v) (cond b (Some e.1) (entries.find nat_cmp v es))) (unsigned_tied v e.0 ∙ test_either_way v e.0))
  where
    rest : Shifts
    rest = map (still_asked m asked) (map (λ e. e.0) es)

    by_test : asked_of v rest ≡ option_map (λ p. still_asked m asked v) (entries.find nat_cmp v es) → (b : Bool) → (e.0 == v) ≡ b → cond b (Some (still_asked m asked e.0)) (asked_of v rest) ≡ option_map (λ p. still_asked m asked v) (cond b (Some e.1) (entries.find nat_cmp v es))
    by_test others true same = ap (λ id. Some (still_asked m asked id)) (eqb-true e.0 v same)
    by_test others false apart = others

found_in : (m : Mesh) (asked : Shifts) (v : ℕ) → asked_of v (asked_in m asked) ≡ option_map (λ p. still_asked m asked v) (finite.get m.points v)
found_in m asked v = found_among m asked v (finite.entries m.points) ∙ ap (option_map (λ p. still_asked m asked v)) (sym (get-entries m.points v))

pub found_live : (m : Mesh) (asked : Shifts) (v : ℕ) → IsLiveVertex m v → asked_of v (asked_in m asked) ≡ Some (still_asked m asked v)
found_live m asked v live = found_in m asked v ∙ by_answer (finite.get m.points v) live
  where
    by_answer : (o : Option Point) → is_some o ≡ true → option_map (λ p. still_asked m asked v) o ≡ Some (still_asked m asked v)
    by_answer (Some p) e = refl
    by_answer None e = absurd (false≢true e)

pub found_none : (m : Mesh) (asked : Shifts) (v : ℕ) → is_some (finite.get m.points v) ≡ false → asked_of v (asked_in m asked) ≡ None
found_none m asked v dead = found_in m asked v ∙ by_answer (finite.get m.points v) dead
  where
    by_answer : (o : Option Point) → is_some o ≡ false → option_map (λ p. still_asked m asked v) o ≡ None
    by_answer (Some p) e = absurd (false≢true (sym e))
    by_answer None e = refl

-- ---- of each live vertex

pub live_keys : (m : Mesh) → AllByRecursion (IsLiveVertex m) (finite.keys m.points)
live_keys m =
    let es = finite.entries m.points in
    all_mapped (IsLiveVertex m) (λ e. e.0) es (all_weaker (λ e. entries.find nat_cmp e.0 es ≡ Some e.1) (λ e. IsLiveVertex m e.0) es (λ e h. ap is_some (get-entries m.points e.0 ∙ h)) (each_found es (entries_sorted m.points)))

map_same : (f g : ℕ → ShiftOf) (ids : List ℕ) → AllByRecursion (λ v. f v ≡ g v) ids → map f ids ≡ map g ids
map_same f g [] same = refl
map_same f g (v ∷ ids) same = ap (λ (s : ShiftOf). s ∷ map f ids) same.0 ∙ ap (λ l. g v ∷ l) (map_same f g ids same.1)

-- where the same is asked of each live vertex
live_same : (m : Mesh) (f g : ℕ → ShiftOf) → ((v : ℕ) → IsLiveVertex m v → f v ≡ g v) → map f (finite.keys m.points) ≡ map g (finite.keys m.points)
live_same m f g same = map_same f g (finite.keys m.points) (all_weaker (IsLiveVertex m) (λ v. f v ≡ g v) (finite.keys m.points) same (live_keys m))

map_map : (h : ShiftOf → ShiftOf) (f : ℕ → ShiftOf) (ids : List ℕ) → map h (map f ids) ≡ map (λ v. h (f v)) ids
map_map h f [] = refl
map_map h f (v ∷ ids) = ap (λ l. h (f v) ∷ l) (map_map h f ids)

-- nothing is asked where none is named
pub none_in : (m : Mesh) → asked_in m [] ≡ no_shifts m
none_in m = live_same m (still_asked m []) still_at (λ v live. by_test v (is_solid m v))
  where
    by_test : (v : ℕ) (b : Bool) → cond b (still_at v) (still_at v) ≡ still_at v
    by_test v true = refl
    by_test v false = refl

-- ---- after edits

module _ (m later : Mesh) (goes : VertexIdsGoOn m later) (sound : IsSound m) (asked : Shifts) (given : AsksOfGiven m asked) where
  -- a vertex that lived, and is not solid now, was not solid
  of_old : (v : ℕ) → IsLiveVertex later v → is_solid later v ≡ false → IsLiveVertex m v → (b : Bool) → is_solid m v ≡ b → cond b (still_at v) (unwrap_or (asked_of v asked) (still_at v)) ≡ unwrap_or (asked_of v asked) (still_at v)
  of_old v live free lived true solid = absurd (false≢true (sym free ∙ goes.solid v (sound.is_mesh.vertex_ids v lived).1 solid live))
  of_old v live free lived false e = refl

  -- nothing was asked of a new one
  of_new : (v : ℕ) → IsLiveVertex later v → is_some (finite.get m.points v) ≡ false → asked_of v asked ≡ None
  of_new v live dead = ⊎_elim
      (λ below. absurd (false≢true (sym dead ∙ goes.none_again v below live)))
      (λ above. given v above)
      (cases_lt v m.next_vertex)

  of_both : (v : ℕ) → IsLiveVertex later v → is_solid later v ≡ false → (b : Bool) → is_some (finite.get m.points v) ≡ b → unwrap_or (asked_of v (asked_in m asked)) (still_at v) ≡ unwrap_or (asked_of v asked) (still_at v)
  of_both v live free true lived = ap (λ o. unwrap_or o (still_at v)) (found_live m asked v lived) ∙ of_old v live free lived (is_solid m v) refl
  of_both v live free false dead = ap (λ o. unwrap_or o (still_at v)) (found_none m asked v dead ∙ sym (of_new v live dead))

  one_again : (v : ℕ) → IsLiveVertex later v → (b : Bool) → is_solid later v ≡ b → cond b (still_at v) (unwrap_or (asked_of v (asked_in m asked)) (still_at v)) ≡ cond b (still_at v) (unwrap_or (asked_of v asked) (still_at v))
  one_again v live true solid = refl
  one_again v live false free = of_both v live free (is_some (finite.get m.points v)) refl

  -- what was asked of the vertices is asked of those that are left
  pub asked_again : asked_in later (asked_in m asked) ≡ asked_in later asked
  asked_again = live_same later (still_asked later (asked_in m asked)) (still_asked later asked) (λ v live. one_again v live (is_solid later v) refl)

-- where the same was asked by another list
pub rest_again : (m later : Mesh) → VertexIdsGoOn m later → IsSound m → (was now : Shifts) → asked_in m now ≡ was → AsksOfGiven m now → asked_in later now ≡ asked_in later was
rest_again m later goes sound was now same given = sym (asked_again m later goes sound now given) ∙ ap (asked_in later) same

-- ---- a list that names each live vertex

-- it asks nothing of vertices that are to come
above_dead : (m : Mesh) → IsSound m → (v : ℕ) → m.next_vertex ≤ v → (b : Bool) → is_some (finite.get m.points v) ≡ b → b ≡ false
above_dead m sound v above true live = let below = (sound.is_mesh.vertex_ids v live).1 in absurd (omega (arith, above, below))
above_dead m sound v above false e = refl

pub given_whole : (m : Mesh) → IsSound m → (asked : Shifts) → AsksOfGiven m (asked_in m asked)
given_whole m sound asked v above = found_none m asked v (above_dead m sound v above (is_some (finite.get m.points v)) refl)

-- so does one whose ids are below
pub given_below : (m : Mesh) (asked : Shifts) → AreBelow m.next_vertex asked → AsksOfGiven m asked
given_below m [] below v above = refl
given_below m (s ∷ rest) below v above = ap (λ b. cond b (Some s) (asked_of v rest)) (apart s.v m.next_vertex v below.0 above) ∙ given_below m rest below.1 v above
  where
    apart : (a n b : ℕ) → a < n → n ≤ b → (a == b) ≡ false
    apart a n b low high = grind (arith, nat_tests)

-- the list of all asks of each live vertex what the list does
one_whole : (m : Mesh) (asked : Shifts) (v : ℕ) → IsLiveVertex m v → still_asked m (asked_in m asked) v ≡ still_asked m asked v
one_whole m asked v live = by_test (is_solid m v) refl
  where
    by_test : (b : Bool) → is_solid m v ≡ b → cond b (still_at v) (unwrap_or (asked_of v (asked_in m asked)) (still_at v)) ≡ cond b (still_at v) (unwrap_or (asked_of v asked) (still_at v))
    by_test true solid = refl
    by_test false free = ap (λ o. unwrap_or o (still_at v)) (found_live m asked v live) ∙ asked_free m asked v free

pub whole_again : (m : Mesh) (asked : Shifts) → asked_in m (asked_in m asked) ≡ asked_in m asked
whole_again m asked = live_same m (still_asked m (asked_in m asked)) (still_asked m asked) (one_whole m asked)

at_rest : (s : ShiftOf) → displacement_of s.by ≡ origin → still_at s.v ≡ s
at_rest s e =
    let none : no_shift ≡ s.by = sym (shift_by-displacement_of no_shift) ∙ ap shift_by (sym e) ∙ shift_by-displacement_of s.by in
    ap (λ (b : Shift). let t : ShiftOf = record { v = s.v; by = b } in t) none

all_itself : (f : ℕ → ShiftOf) (asked : Shifts) → AllByRecursion (λ s. f s.v ≡ s) asked → map f (map (λ s. s.v) asked) ≡ asked
all_itself f [] is = refl
all_itself f (s ∷ rest) is = ap (λ (t : ShiftOf). t ∷ map f (map (λ u. u.v) rest)) is.0 ∙ ap (λ l. s ∷ l) (all_itself f rest is.1)

each_itself : (m : Mesh) (asked those : Shifts) → SolidsAreStill m those → AllByRecursion (λ s. asked_of s.v asked ≡ Some s) those → AllByRecursion (λ s. still_asked m asked s.v ≡ s) those
each_itself m asked [] still found = tt
each_itself m asked (s ∷ those) still found = (by_test (is_solid m s.v) refl, each_itself m asked those still.1 found.1)
  where
    by_test : (b : Bool) → is_solid m s.v ≡ b → cond b (still_at s.v) (unwrap_or (asked_of s.v asked) (still_at s.v)) ≡ s
    by_test true solid = at_rest s (still.0 solid)
    by_test false free = ap (λ o. unwrap_or o (still_at s.v)) found.0

pub whole_is : (m : Mesh) (asked : Shifts) → NameLive m asked → SolidsAreStill m asked → asked_in m asked ≡ asked
whole_is m asked named still =
    ap (map (still_asked m asked)) (sym named) ∙ all_itself (still_asked m asked) asked (each_itself m asked asked still (each_is_found asked (ids_sorted m asked named)))

-- ---- a vertex that is made solid

pub solid_in : (m : Mesh) (v : ℕ) (asked : Shifts) → asked_in (with_solid m v) asked ≡ one_still v (asked_in m asked)
solid_in m v asked =
    map_same (still_asked (with_solid m v) asked) (λ u. cond ((still_asked m asked u).v == v) (still_at v) (still_asked m asked u)) (finite.keys m.points) (each (finite.keys m.points))
    ∙ sym (map_map (λ s. cond (s.v == v) (still_at v) s) (still_asked m asked) (finite.keys m.points))
  where
    other : (u : ℕ) → (u == v) ≡ false → is_solid (with_solid m v) u ≡ is_solid m u
    other u e = ap is_some (get-insert nat_cmp_total m.solid v tt u ∙ ap (λ t. cond t (Some tt) (finite.get m.solid u)) (unsigned_tied u v ∙ e))

    by_test : (u : ℕ) (b : Bool) → (u == v) ≡ b → still_asked (with_solid m v) asked u ≡ cond b (still_at v) (still_asked m asked u)
    by_test u true e =
        let same = eqb-true u v e in
        ap (λ t. cond t (still_at u) (unwrap_or (asked_of u asked) (still_at u))) (ap (is_solid (with_solid m v)) same ∙ live_inserted m.solid v tt) ∙ ap still_at same
    by_test u false e = ap (λ t. cond t (still_at u) (unwrap_or (asked_of u asked) (still_at u))) (other u e)

    each : (us : List ℕ) → AllByRecursion (λ u. still_asked (with_solid m v) asked u ≡ cond ((still_asked m asked u).v == v) (still_at v) (still_asked m asked u)) us
    each [] = tt
    each (u ∷ us) = (by_test u (u == v) refl ∙ ap (λ id. cond (id == v) (still_at v) (still_asked m asked u)) (sym (still_named m asked u)), each us)

-- ---- the shift of one vertex

-- put in a list
module _ (m : Mesh) (s : ShiftOf) (old new : Shifts) (put : IsPut s old new) where
  pub put_live : is_solid m s.v ≡ false → IsPutIn m s old new
  put_live free v live = by_test (s.v == v) refl
    where
      by_test : (b : Bool) → (s.v == v) ≡ b → still_asked m new v ≡ cond b s (still_asked m old v)
      by_test true e =
          let same : v ≡ s.v = sym (eqb-true s.v v e) in
          asked_free m new v (ap (is_solid m) same ∙ free)
          ∙ ap (λ o. unwrap_or o (still_at v)) (put v ∙ ap (λ b. cond b (Some s) (asked_of v old)) e)
      by_test false e = ap (λ o. cond (is_solid m v) (still_at v) (unwrap_or o (still_at v))) (put v ∙ ap (λ b. cond b (Some s) (asked_of v old)) e)

-- put in the list of all
pub put_whole : (m : Mesh) (s : ShiftOf) (old new : Shifts) → is_solid m s.v ≡ false → IsPut s (asked_in m old) new → IsPutIn m s old new
put_whole m s old new free put v live =
    put_live m s (asked_in m old) new put free v live ∙ ap (λ (t : ShiftOf). cond (s.v == v) s t) (one_whole m old v live)

-- so is the sum
module _ (m : Mesh) (v : ℕ) (by : Shift) (old : Shifts) (live : IsLiveVertex m v) where
  pub sum_solid : is_solid m v ≡ true → sum_of_one m v by (asked_in m old) ≡ Err (SolidVertex v)
  sum_solid solid = ap (λ o. sum_at o (is_solid m v) v by (asked_in m old)) (found_live m old v live) ∙ ap (λ b. sum_at (Some (still_asked m old v)) b v by (asked_in m old)) solid

  module _ (free : is_solid m v ≡ false) where
    abbrev was : ShiftOf
    was = unwrap_or (asked_of v old) (still_at v)

    one_at : sum_of_one m v by (asked_in m old) ≡ cond (is_within SHIFT_MAX (summed by was)) (Ok (one_summed v by (asked_in m old))) (Err (ShiftRange v))
    one_at =
        ap (λ o. sum_at o (is_solid m v) v by (asked_in m old)) (found_live m old v live)
        ∙ ap (λ b. sum_at (Some (still_asked m old v)) b v by (asked_in m old)) free
        ∙ ap (λ s. cond (is_within SHIFT_MAX (summed by s)) (Ok (one_summed v by (asked_in m old))) (Err (ShiftRange v))) (asked_free m old v free)

    pub sum_beyond : (IsWithin SHIFT_MAX (summed by was) → ⊥) → sum_of_one m v by (asked_in m old) ≡ Err (ShiftRange v)
    sum_beyond out = one_at ∙ by_test (is_within SHIFT_MAX (summed by was)) refl
      where
        by_test : (b : Bool) → is_within SHIFT_MAX (summed by was) ≡ b → cond b (Ok (one_summed v by (asked_in m old))) (Err (ShiftRange v)) ≡ Err (ShiftRange v)
        by_test true e = absurd (out (within_of SHIFT_MAX (summed by was) e))
        by_test false e = refl

    -- what is put is the sum
    module _ (r : Shift) (is : displacement_of r ≡ summed by was) (within : IsWithin SHIFT_MAX (summed by was)) (new : Shifts) (put : IsPutIn m (record { v = v; by = r }) old new) where
      here : with_shift (still_asked m old v) (summed by (still_asked m old v)) ≡ record { v = v; by = r }
      here =
          ap (λ (s : ShiftOf). with_shift s (summed by s)) (asked_free m old v free)
          ∙ sym (summed_as by r was is)
          ∙ ap (λ id. let t : ShiftOf = record { v = id; by = r } in t) (named_at v old)

      by_one : (u : ℕ) → (b : Bool) → (v == u) ≡ b → cond b (record { v = v; by = r }) (still_asked m old u) ≡ cond b (with_shift (still_asked m old u) (summed by (still_asked m old u))) (still_asked m old u)
      by_one u true e = sym here ∙ ap (λ id. with_shift (still_asked m old id) (summed by (still_asked m old id))) (eqb-true v u e)
      by_one u false e = refl

      each_sum : (u : ℕ) → IsLiveVertex m u → still_asked m new u ≡ cond ((still_asked m old u).v == v) (with_shift (still_asked m old u) (summed by (still_asked m old u))) (still_asked m old u)
      each_sum u lives =
          put u lives
          ∙ by_one u (v == u) refl
          ∙ ap (λ b. cond b (with_shift (still_asked m old u) (summed by (still_asked m old u))) (still_asked m old u)) (test_either_way v u ∙ ap (λ id. id == v) (sym (still_named m old u)))

      pub sum_is : sum_of_one m v by (asked_in m old) ≡ Ok (asked_in m new)
      sum_is =
          one_at
          ∙ ap (λ b. cond b (Ok (one_summed v by (asked_in m old))) (Err (ShiftRange v))) (of_within SHIFT_MAX (summed by was) within)
          ∙ ap Ok
          (map_map (λ s. cond (s.v == v) (with_shift s (summed by s)) s) (still_asked m old) (finite.keys m.points)
          ∙ sym (live_same m (still_asked m new) (λ u. cond ((still_asked m old u).v == v) (with_shift (still_asked m old u) (summed by (still_asked m old u))) (still_asked m old u)) each_sum))

pub sum_none : (m : Mesh) (v : ℕ) (by : Shift) (old : Shifts) → is_some (finite.get m.points v) ≡ false → sum_of_one m v by (asked_in m old) ≡ Err (NoVertex v)
sum_none m v by old dead = ap (λ o. sum_at o (is_solid m v) v by (asked_in m old)) (found_none m old v dead)

-- a live vertex is named among all
pub is_there : (m : Mesh) (asked : Shifts) (v : ℕ) → IsLiveVertex m v → asked_of v (asked_in m asked) ≡ None → ⊥
is_there m asked v live e = let some = found_live m asked v live in cc

-- so it is put among all
pub put_second : (m : Mesh) (s : ShiftOf) (old all new : Shifts) (b : Bool) → IsLiveVertex m s.v → is_solid m s.v ≡ false → all ≡ asked_in m old
    → (◌≡◌ {A = Result Bool NoMemory} (Ok b) (Ok true) → IsPut s all new) → (◌≡◌ {A = Result Bool NoMemory} (Ok b) (Ok false) → asked_of s.v all ≡ None) → IsPutIn m s old new
put_second m s old all new true live free is put none = let P : Shifts → Type 0 = λ l. IsPut s l new in put_whole m s old new free (subst P is (put refl))
put_second m s old all new false live free is put none = absurd (is_there m old s.v live (ap (asked_of s.v) (sym is) ∙ none refl))
