-- The fans of a vertex are apart, and in each as many steps lead from the vertex to another as back.
use Rattle.std.proofs.Common.{◌≡◌, ℕ, Bool, true, false, cond, not, ◌&&◌, ◌||◌, ◌==◌, List, [], ◌∷◌, map, length, Some, ⊎_elim, refl, sym, ap, subst, ◌∙◌, arith}
use Rattle.std.proofs.lemmas.Bool.{false≢true, eqb-true}
use Rattle.std.proofs.lemmas.Bool.Decides.{nat_tests}
use Rattle.std.specs.Option.{unwrap_or}
use Rattle.std.specs.List.{filter, list_any, AllByRecursion}
use Rattle.std.specs.Ordering.{nat_cmp}
use Rattle.std.specs.FinMap as finite
use Rattle.std.specs.FinMap.{entries_sorted, get-entries}
use Rattle.std.specs.FinMap.Entries.{find}
use Rattle.mesh_base.specs.declared.ids.Corners.{Corners}
use Rattle.mesh_base.specs.Mesh.{Mesh, HasCorners}
use Rattle.mesh_base.specs.Sides.{follows, has_corner, ids_where, faces_at, runs, IsClosed}
use Rattle.mesh_base.specs.Changes.{corner_list}
use Rattle.mesh_base.proofs.Listed.{each_found}
use Rattle.mesh_base.proofs.ListedPairs.{all_weaker}
use Rattle.mesh_base.proofs.Tests.{and_first, and_second, and_both, or_first, or_second, or_either}
use Rattle.edit_base.specs.Classes.{class_of}
use Rattle.edit_base.specs.Edges.{corners_at}
use Rattle.edit_pinch.specs.Pinch.{share_second, fans}
use Rattle.edit_acts.proofs.Flow.{flow}
use Rattle.edit_base.proofs.Chains.{Has, each_is_one, at_one, any_found, any_of, passed, near_is, test_at, goes_on}
use Rattle.edit_pinch.proofs.FansApart.{IsSymmetric, Differ, differ-ids, differ-class, AreApart, classes_apart, each_class}

-- ---- corners
pub listed_corner : (c : Corners) (u : ℕ) → has_corner c u ≡ true → Has (corner_list c) u
listed_corner c u h = ⊎_elim
    (λ two. ⊎_elim
    (λ one. or_first (c.first == u) _ one)
    (λ one. or_second (c.first == u) _ (or_first (c.second == u) _ one))
    (or_either (c.first == u) (c.second == u) two))
    (λ one. or_second (c.first == u) _ (or_second (c.second == u) _ (or_first (c.third == u) false one)))
    (or_either ((c.first == u) || (c.second == u)) (c.third == u) h)

pub corner_listed : (c : Corners) (u : ℕ) → Has (corner_list c) u → has_corner c u ≡ true
corner_listed c u h = ⊎_elim
    (λ one. or_first ((c.first == u) || (c.second == u)) _ (or_first (c.first == u) _ one))
    (λ two. ⊎_elim
    (λ one. or_first ((c.first == u) || (c.second == u)) _ (or_second (c.first == u) _ one))
    (λ last. ⊎_elim (λ one. or_second ((c.first == u) || (c.second == u)) _ one) (λ none. absurd (false≢true none)) (or_either (c.third == u) false last))
    (or_either (c.second == u) _ two))
    (or_either (c.first == u) _ h)

-- both ends of a step are corners
pub step_corners : (c : Corners) (u w : ℕ) → follows c u w ≡ true → (has_corner c u ≡ true) × (has_corner c w ≡ true)
step_corners c u w h = ⊎_elim
    (λ two. ⊎_elim
    (λ one. (or_first ((c.first == u) || (c.second == u)) _ (or_first (c.first == u) _ (and_first _ _ one)), or_first ((c.first == w) || (c.second == w)) _ (or_second (c.first == w) _ (and_second (c.first == u) _ one))))
    (λ one. (or_first ((c.first == u) || (c.second == u)) _ (or_second (c.first == u) _ (and_first _ _ one)), or_second ((c.first == w) || (c.second == w)) _ (and_second (c.second == u) _ one)))
    (or_either (c.first == u && c.second == w) _ two))
    (λ one. (or_second ((c.first == u) || (c.second == u)) _ (and_first _ _ one), or_first ((c.first == w) || (c.second == w)) _ (or_first (c.first == w) _ (and_second (c.third == u) _ one))))
    (or_either ((c.first == u && c.second == w) || (c.second == u && c.third == w)) _ h)

-- ---- faces
pub corners_there : (m : Mesh) (f : ℕ) (c : Corners) → HasCorners m f c → corners_at m f ≡ c
corners_there m f c h = ap (λ o. unwrap_or o (record { first = 0; second = 0; third = 0 })) h

pub each_entry : (m : Mesh) → AllByRecursion (λ (e : ℕ × Corners). HasCorners m e.0 e.1) (finite.entries m.faces)
each_entry m = all_weaker (λ (e : ℕ × Corners). find nat_cmp e.0 (finite.entries m.faces) ≡ Some e.1) (λ e. HasCorners m e.0 e.1) (finite.entries m.faces)
    (λ e h. get-entries m.faces e.0 ∙ h) (each_found (finite.entries m.faces) (entries_sorted m.faces))

-- an entry that passes is listed
each_listed : (test : Corners → Bool) (es : List (ℕ × Corners)) → AllByRecursion (λ (e : ℕ × Corners). test e.1 ≡ true → Has (ids_where test es) e.0) es
each_listed test [] = tt
each_listed test (e ∷ es) = by_test (each_listed test es) (test e.1) refl
  where
    here : (x : ℕ) → (x == x) ≡ true
    here x = grind (arith, nat_tests)

    by_test : AllByRecursion (λ (x : ℕ × Corners). test x.1 ≡ true → Has (ids_where test es) x.0) es → (b : Bool) → test e.1 ≡ b →
        (test e.1 ≡ true → Has (map (λ x. x.0) (cond b (e ∷ filter (λ x. test x.1) es) (filter (λ x. test x.1) es))) e.0) × AllByRecursion (λ (x : ℕ × Corners). test x.1 ≡ true → Has (map (λ y. y.0) (cond b (e ∷ filter (λ y. test y.1) es) (filter (λ y. test y.1) es))) x.0) es
    by_test rest true t = (λ _. or_first (e.0 == e.0) _ (here e.0), all_weaker (λ (x : ℕ × Corners). test x.1 ≡ true → Has (ids_where test es) x.0) (λ x. test x.1 ≡ true → Has (e.0 ∷ ids_where test es) x.0) es (λ x h yes. or_second (e.0 == x.0) _ (h yes)) rest)
    by_test rest false t = (λ yes. absurd (false≢true (sym t ∙ yes)), rest)

-- a listed face has corners that pass
pub listed_passes : (m : Mesh) (test : Corners → Bool) (f : ℕ) → Has (ids_where test (finite.entries m.faces)) f → HasCorners m f (corners_at m f) × (test (corners_at m f) ≡ true)
listed_passes m test f has = at_one (λ g. HasCorners m g (corners_at m g) × (test (corners_at m g) ≡ true)) (ids_where test (finite.entries m.faces)) f (all_pass (finite.entries m.faces) (each_entry m)) has
  where
    P : ℕ → Type 0
    P g = HasCorners m g (corners_at m g) × (test (corners_at m g) ≡ true)

    all_pass : (es : List (ℕ × Corners)) → AllByRecursion (λ (e : ℕ × Corners). HasCorners m e.0 e.1) es → AllByRecursion (λ g. HasCorners m g (corners_at m g) × (test (corners_at m g) ≡ true)) (ids_where test es)
    all_pass [] h = tt
    all_pass (e ∷ es) h = by_test (all_pass es h.1) (test e.1) refl
      where
        same : corners_at m e.0 ≡ e.1
        same = corners_there m e.0 e.1 h.0

        by_test : AllByRecursion (λ g. HasCorners m g (corners_at m g) × (test (corners_at m g) ≡ true)) (ids_where test es) → (b : Bool) → test e.1 ≡ b →
            AllByRecursion (λ g. HasCorners m g (corners_at m g) × (test (corners_at m g) ≡ true)) (map (λ x. x.0) (cond b (e ∷ filter (λ x. test x.1) es) (filter (λ x. test x.1) es)))
        by_test rest true t = ((subst (λ c. HasCorners m e.0 c) (sym same) h.0, subst (λ c. test c ≡ true) (sym same) t), rest)
        by_test rest false t = rest

-- ---- steps of some faces
pub flow_none : (at : ℕ → Corners) (u w : ℕ) (fs : List ℕ) → AllByRecursion (λ f. follows (at f) u w ≡ false) fs → flow (map at fs) u w ≡ 0
flow_none at u w [] h = refl
flow_none at u w (f ∷ fs) h = let rest = flow_none at u w fs h.1 in let one = ap {B = ℕ} (λ b. cond b 1 0) h.0 in omega (arith, rest, one)

-- where all entries with a step are among the faces, the faces have all the steps
flow_all : (at : ℕ → Corners) (first : Corners → Bool) (second : ℕ → Bool) (u w : ℕ) (es : List (ℕ × Corners)) → AllByRecursion (λ (e : ℕ × Corners). at e.0 ≡ e.1) es →
    AllByRecursion (λ (e : ℕ × Corners). follows e.1 u w ≡ true → (first e.1 ≡ true) × (second e.0 ≡ true)) es →
    flow (map at (filter second (ids_where first es))) u w ≡ length (ids_where (λ c. follows c u w) es)
flow_all at first second u w [] same h = refl
flow_all at first second u w (e ∷ es) same h = by_tests (flow_all at first second u w es same.1 h.1) (first e.1) (second e.0) (follows e.1 u w) refl refl refl
  where
    weight : (b : Bool) → follows e.1 u w ≡ b → ◌≡◌ {A = ℕ} (cond (follows (at e.0) u w) 1 0) (cond b 1 0)
    weight b t = ap (λ c. cond (follows c u w) 1 0) same.0 ∙ ap (λ b. cond b 1 0) t

    by_tests : flow (map at (filter second (ids_where first es))) u w ≡ length (ids_where (λ c. follows c u w) es) → (a b c : Bool) → first e.1 ≡ a → second e.0 ≡ b → follows e.1 u w ≡ c →
        flow (map at (filter second (map (λ x. x.0) (cond a (e ∷ filter (λ x. first x.1) es) (filter (λ x. first x.1) es))))) u w
        ≡ length (map (λ x. x.0) (cond c (e ∷ filter (λ x. follows x.1 u w) es) (filter (λ x. follows x.1 u w) es)))
    by_tests rest true b c p q r = by_second b c q r
      where
        by_second : (b c : Bool) → second e.0 ≡ b → follows e.1 u w ≡ c →
            flow (map at (cond (second e.0) (e.0 ∷ filter second (ids_where first es)) (filter second (ids_where first es)))) u w
            ≡ length (map (λ x. x.0) (cond c (e ∷ filter (λ x. follows x.1 u w) es) (filter (λ x. follows x.1 u w) es)))
        by_second true true q r = ap (λ b. flow (map at (cond b (e.0 ∷ filter second (ids_where first es)) (filter second (ids_where first es)))) u w) q ∙ (let one = weight true r in omega (arith, rest, one))
        by_second true false q r = ap (λ b. flow (map at (cond b (e.0 ∷ filter second (ids_where first es)) (filter second (ids_where first es)))) u w) q ∙ (let one = weight false r in omega (arith, rest, one))
        by_second false true q r = absurd (false≢true (sym q ∙ (h.0 r).1))
        by_second false false q r = ap (λ b. flow (map at (cond b (e.0 ∷ filter second (ids_where first es)) (filter second (ids_where first es)))) u w) q ∙ rest
    by_tests rest false b true p q r = absurd (false≢true (sym p ∙ (h.0 r).0))
    by_tests rest false b false p q r = rest

-- ---- the fans
pub share_both_ways : (m : Mesh) (v : ℕ) → IsSymmetric (share_second m v)
share_both_ways m v f g h =
    let found = any_found (λ u. not (u == v) && has_corner (corners_at m g) u) (corner_list (corners_at m f)) h in
    let u = found.0 in
    any_of (λ u. not (u == v) && has_corner (corners_at m f) u) (corner_list (corners_at m g)) u
    (listed_corner (corners_at m g) u (and_second (not (u == v)) _ found.2))
    (and_both (not (u == v)) _ (and_first (not (u == v)) _ found.2) (corner_listed (corners_at m f) u found.1))

pub faces_differ : (m : Mesh) (v : ℕ) → Differ (faces_at m v)
faces_differ m v = differ-ids (λ c. has_corner c v) (finite.entries m.faces) (entries_sorted m.faces)

pub fans_apart : (m : Mesh) (v : ℕ) → AreApart (fans m v)
fans_apart m v = classes_apart (share_second m v) (faces_at m v) (share_both_ways m v) (faces_differ m v)

-- what the faces of a fan are
pub record IsFan (m : Mesh) (v : ℕ) (fan : List ℕ) : Type 0 where
  pub differ : Differ fan
  pub there : (f : ℕ) → Has fan f → HasCorners m f (corners_at m f)
  pub balance : (x : ℕ) → flow (map (corners_at m) fan) v x ≡ flow (map (corners_at m) fan) x v

module _ (m : Mesh) (v : ℕ) (closed : IsClosed m) (from : ℕ) where
  abbrev all : List ℕ
  all = faces_at m v

  abbrev fan : List ℕ
  fan = class_of (share_second m v) all from

  abbrev inside : ℕ → Bool
  inside = test_at (share_second m v) all from (length all)

  fan_is : fan ≡ filter inside all
  fan_is = near_is (share_second m v) all from (length all)

  -- with one face that holds a vertex, all that hold it and v
  other_inside : (f : ℕ) (x : ℕ) (e : ℕ × Corners) → Has fan f → has_corner (corners_at m f) x ≡ true → (x == v) ≡ false → corners_at m e.0 ≡ e.1 → Has all e.0 → has_corner e.1 x ≡ true → inside e.0 ≡ true
  other_inside f x e f_in f_x apart same e_in e_x =
      let touch = any_of (λ u. not (u == v) && has_corner (corners_at m e.0) u) (corner_list (corners_at m f)) x (listed_corner (corners_at m f) x f_x)
      (and_both (not (x == v)) _ (ap not apart) (ap (λ c. has_corner c x) same ∙ e_x)) in
      (passed inside all e.0 (subst (λ l. Has l e.0) fan_is (goes_on (share_second m v) all from f e.0 f_in e_in touch))).1

  entries_same : AllByRecursion (λ (e : ℕ × Corners). corners_at m e.0 ≡ e.1) (finite.entries m.faces)
  entries_same = all_weaker (λ (e : ℕ × Corners). HasCorners m e.0 e.1) (λ e. corners_at m e.0 ≡ e.1) (finite.entries m.faces) (λ e h. corners_there m e.0 e.1 h) (each_entry m)

  abbrev IsKnown : ℕ × Corners → Type 0
  IsKnown e = (corners_at m e.0 ≡ e.1) × (has_corner e.1 v ≡ true → Has all e.0)

  entries_known : AllByRecursion IsKnown (finite.entries m.faces)
  entries_known = both (finite.entries m.faces) entries_same (each_listed (λ c. has_corner c v) (finite.entries m.faces))
    where
      both : (es : List (ℕ × Corners)) → AllByRecursion (λ (e : ℕ × Corners). corners_at m e.0 ≡ e.1) es → AllByRecursion (λ (e : ℕ × Corners). has_corner e.1 v ≡ true → Has all e.0) es → AllByRecursion IsKnown es
      both [] h k = tt
      both (e ∷ es) h k = ((h.0, k.0), both es h.1 k.1)

  -- all the steps between v and x are in the fan
  has_all : (f x u w : ℕ) → Has fan f → has_corner (corners_at m f) x ≡ true → (x == v) ≡ false → ((c : Corners) → follows c u w ≡ true → (has_corner c v ≡ true) × (has_corner c x ≡ true)) → flow (map (corners_at m) fan) u w ≡ runs m u w
  has_all f x u w f_in f_x apart ends =
      ap (λ l. flow (map (corners_at m) l) u w) fan_is
      ∙ flow_all (corners_at m) (λ c. has_corner c v) inside u w (finite.entries m.faces) entries_same
      (all_weaker IsKnown (λ e. follows e.1 u w ≡ true → (has_corner e.1 v ≡ true) × (inside e.0 ≡ true)) (finite.entries m.faces)
      (λ e known step. let two = ends e.1 step in (two.0, other_inside f x e f_in f_x apart known.0 (known.1 two.0) two.1)) entries_known)

  -- or none
  has_none : (x u w : ℕ) → list_any (λ f. has_corner (corners_at m f) x) fan ≡ false → ((c : Corners) → follows c u w ≡ true → has_corner c x ≡ true) → flow (map (corners_at m) fan) u w ≡ 0
  has_none x u w none ends = flow_none (corners_at m) u w fan
      (all_weaker (Has fan) (λ f. follows (corners_at m f) u w ≡ false) fan
      (λ f has. is_not (follows (corners_at m f) u w) (λ step. false≢true (sym none ∙ any_of (λ f. has_corner (corners_at m f) x) fan f has (ends (corners_at m f) step)))) (each_is_one fan))
    where
      is_not : (b : Bool) → (b ≡ true → ⊥) → b ≡ false
      is_not true never = absurd (never refl)
      is_not false never = refl

  fan_balance : (x : ℕ) → flow (map (corners_at m) fan) v x ≡ flow (map (corners_at m) fan) x v
  fan_balance x = by_same (x == v) refl
    where
      by_any : (x == v) ≡ false → (b : Bool) → list_any (λ f. has_corner (corners_at m f) x) fan ≡ b → flow (map (corners_at m) fan) v x ≡ flow (map (corners_at m) fan) x v
      by_any apart true e =
          let found = any_found (λ f. has_corner (corners_at m f) x) fan e in
          has_all found.0 x v x found.1 found.2 apart (λ c h. step_corners c v x h)
          ∙ closed v x
          ∙ sym (has_all found.0 x x v found.1 found.2 apart (λ c h. let two = step_corners c x v h in (two.1, two.0)))
      by_any apart false e =
          has_none x v x e (λ c h. (step_corners c v x h).1) ∙ sym (has_none x x v e (λ c h. (step_corners c x v h).0))

      by_same : (b : Bool) → (x == v) ≡ b → flow (map (corners_at m) fan) v x ≡ flow (map (corners_at m) fan) x v
      by_same true e = let is = eqb-true x v e in λ i. flow (map (corners_at m) fan) (sym is i) (is i)
      by_same false e = by_any e (list_any (λ f. has_corner (corners_at m f) x) fan) refl

  pub class_is_fan : IsFan m v fan
  class_is_fan = record {
    differ = differ-class (share_second m v) all from (faces_differ m v);
    there = λ f has. (listed_passes m (λ c. has_corner c v) f (passed inside all f (subst (λ l. Has l f) fan_is has)).0).0;
    balance = fan_balance;
  }

pub fans_are_fans : (m : Mesh) (v : ℕ) → IsClosed m → AllByRecursion (IsFan m v) (fans m v)
fans_are_fans m v closed = each_class (share_second m v) (faces_at m v) (share_both_ways m v) (IsFan m v) (λ x has. class_is_fan m v closed x)
