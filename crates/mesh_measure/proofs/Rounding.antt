-- When the faces at a vertex are one fan: a walk round it came to all of them.
use Rattle.std.proofs.Common.{◌≡◌, ℕ, ◌+◌, ◌<◌, Bool, true, false, cond, not, ◌||◌, ◌&&◌, ◌==◌, nat_lt, List, [], ◌∷◌, length, get_or, take, slice_index, ⊎_elim, refl, sym, ap, subst, ◌∙◌, arith}
use Rattle.std.proofs.lemmas.Bool.{false≢true, eqb-true, cases_lt}
use Rattle.std.proofs.lemmas.Bool.Decides.{nat_tests}
use Rattle.std.proofs.lemmas.List.{length-map}
use Rattle.std.specs.List.{filter}
use Rattle.std.specs.FinMap as finite
use Rattle.std.specs.FinMap.{entries_sorted}
use Rattle.std.specs.HashMap.{HashMap, IsEmpty}
use Rattle.mesh_base.specs.declared.ids.Corners.{Corners}
use Rattle.mesh_base.specs.Mesh.{Mesh, IsSound, IsLiveVertex, AreDifferent}
use Rattle.mesh_base.specs.Sides.{has_corner, follows, faces_at, faces_running, runs}
use Rattle.mesh_base.specs.Pairs.{edges, is_crowded}
use Rattle.mesh_base.specs.Changes.{corner_list}
use Rattle.mesh_base.proofs.Listed.{running_face}
use Rattle.mesh_base.proofs.ListedPairs.{all_always, all_weaker}
use Rattle.mesh_base.proofs.Tests.{and_first, and_second, and_both, or_either}
use Rattle.edit_base.specs.Classes.{is_one_of, Linked, class_of, classes}
use Rattle.edit_base.specs.Edges.{corners_at}
use Rattle.edit_base.proofs.Chains.{Has, each_is_one, any_of, contains_had, passed, linked_has, either_first, either_second, equal_itself}
use Rattle.edit_pinch.specs.Pinch.{share_second, fans}
use Rattle.edit_pinch.proofs.FansApart.{Differ, differ-ids, differ-filter, classes_same}
use Rattle.edit_pinch.proofs.FanBalance.{share_both_ways, faces_differ}
use Rattle.mesh_measure.specs.Shape.{has_crowded_edge, has_parted_vertex}
use Rattle.mesh_measure.specs.Round.{behind, before, link, AreLinks, LeadOn, TakesReached, IsPlain}
use Rattle.mesh_measure.proofs.Around.{listed_passes, face_listed, listed_corner, corner_live, live_listed}
use Rattle.mesh_measure.proofs.Halving.{no_one}
use Rattle.mesh_measure.proofs.Linking.{nothing, one_longer, old_or_last}

-- ---- corners
first_in : (c : Corners) → has_corner c c.first ≡ true
first_in c = either_first ((c.first == c.first) || (c.second == c.first)) (c.third == c.first) (either_first (c.first == c.first) (c.second == c.first) (equal_itself c.first))

second_in : (c : Corners) → has_corner c c.second ≡ true
second_in c = either_first ((c.first == c.second) || (c.second == c.second)) (c.third == c.second) (either_second (c.first == c.second) (c.second == c.second) (equal_itself c.second))

third_in : (c : Corners) → has_corner c c.third ≡ true
third_in c = either_second ((c.first == c.third) || (c.second == c.third)) (c.third == c.third) (equal_itself c.third)

pub behind_in : (c : Corners) (v : ℕ) → has_corner c (behind c v) ≡ true
behind_in c v = by_tests (c.first == v) (c.second == v)
  where
    by_tests : (a b : Bool) → has_corner c (cond a c.second (cond b c.third c.first)) ≡ true
    by_tests true b = second_in c
    by_tests false true = third_in c
    by_tests false false = first_in c

before_in : (c : Corners) (v : ℕ) → has_corner c (before c v) ≡ true
before_in c v = by_tests (c.first == v) (c.second == v)
  where
    by_tests : (a b : Bool) → has_corner c (cond a c.third (cond b c.first c.second)) ≡ true
    by_tests true b = third_in c
    by_tests false true = first_in c
    by_tests false false = second_in c

not_so : (b : Bool) → (b ≡ true → ⊥) → b ≡ false
not_so true h = absurd (h refl)
not_so false h = refl

-- two that are one number are not different
both_are : (x y v : ℕ) → (x ≡ y → ⊥) → (x == v) ≡ true → (y == v) ≡ false
both_are x y v differ e = not_so (y == v) (λ f. differ (eqb-true x v e ∙ sym (eqb-true y v f)))

before_apart : (c : Corners) (v : ℕ) → AreDifferent c → (before c v == v) ≡ false
before_apart c v different = by_tests (c.first == v) (c.second == v) refl refl
  where
    by_tests : (a b : Bool) → (c.first == v) ≡ a → (c.second == v) ≡ b → (cond a c.third (cond b c.first c.second) == v) ≡ false
    by_tests true b p q = both_are c.first c.third v (λ e. different.third_first (sym e)) p
    by_tests false true p q = p
    by_tests false false p q = q

follows_in : (c : Corners) (v u : ℕ) → follows c v u ≡ true → has_corner c v ≡ true
follows_in c v u e = any (c.first == v) (c.second == v) (c.third == v) (c.second == u) (c.third == u) (c.first == u) e
  where
    any : (a b d x y z : Bool) → (((a && x) || (b && y)) || (d && z)) ≡ true → ((a || b) || d) ≡ true
    any true b d x y z e = refl
    any false true d x y z e = refl
    any false false true x y z e = refl
    any false false false x y z e = e

follows_behind : (c : Corners) (v u : ℕ) → AreDifferent c → follows c v u ≡ true → behind c v ≡ u
follows_behind c v u different e = ⊎_elim
    (λ two. ⊎_elim
    (λ one. ap (λ b. cond b c.second rest) (and_first (c.first == v) _ one) ∙ eqb-true c.second u (and_second (c.first == v) _ one))
    (λ one.
    let at = and_first (c.second == v) _ one in
    ap (λ b. cond b c.second rest) (both_are c.second c.first v (λ same. different.first_second (sym same)) at)
    ∙ ap (λ b. cond b c.third c.first) at
    ∙ eqb-true c.third u (and_second (c.second == v) _ one))
    (or_either (c.first == v && c.second == u) _ two))
    (λ one.
    let at = and_first (c.third == v) _ one in
    ap (λ b. cond b c.second rest) (both_are c.third c.first v different.third_first at)
    ∙ ap (λ b. cond b c.third c.first) (both_are c.third c.second v (λ same. different.second_third (sym same)) at)
    ∙ eqb-true c.first u (and_second (c.third == v) _ one))
    (or_either ((c.first == v && c.second == u) || (c.second == v && c.third == u)) _ e)
  where
    rest : ℕ
    rest = cond (c.second == v) c.third c.first

-- ---- a list of which all are one number
few_same : (xs : List ℕ) → Differ xs → ((x y : ℕ) → Has xs x → Has xs y → x ≡ y) → length xs < 2
few_same [] differ h = omega arith
few_same (x ∷ []) differ h = omega arith
few_same (x ∷ y ∷ zs) differ h =
    let behind_it : Has (y ∷ zs) y = either_first (y == y) (is_one_of zs y) (equal_itself y) in
    let same : x ≡ y = h x y (either_first (x == x) (is_one_of (y ∷ zs) x) (equal_itself x)) (either_second (x == y) (is_one_of (y ∷ zs) y) behind_it) in
    absurd (differ.0 (subst (λ z. Has (y ∷ zs) z) (sym same) behind_it))

-- ---- the faces at a vertex
module _ (m : Mesh) (sound : IsSound m) (v : ℕ) where
  abbrev touch : ℕ → ℕ → Bool
  touch = share_second m v

  abbrev all : List ℕ
  all = faces_at m v

  different : (f : ℕ) → Has (faces_at m v) f → AreDifferent (corners_at m f)
  different f has = sound.is_mesh.different_corners f (corners_at m f) (listed_passes m (λ c. has_corner c v) f has).0

  abbrev AreApart : Type 0
  AreApart = (f g : ℕ) → Has (faces_at m v) f → Has (faces_at m v) g → behind (corners_at m f) v ≡ behind (corners_at m g) v → f ≡ g

  -- a face that runs from v to u is one at v, with u behind v
  runner : (u f : ℕ) → Has (faces_running m v u) f → Has (faces_at m v) f × (behind (corners_at m f) v ≡ u)
  runner u f has =
      let is = listed_passes m (λ c. follows c v u) f has in (
        face_listed m (λ c. has_corner c v) f (corners_at m f) is.0 (follows_in (corners_at m f) v u is.1),
        follows_behind (corners_at m f) v u (sound.is_mesh.different_corners f (corners_at m f) is.0) is.1,
      )

  single : AreApart → (u : ℕ) → runs m v u < 2
  single apart u = few_same (faces_running m v u) (differ-ids (λ c. follows c v u) (finite.entries m.faces) (entries_sorted m.faces))
      (λ f g at_f at_g. let a = runner u f at_f in let b = runner u g at_g in apart f g a.0 b.0 (a.1 ∙ sym b.1))

  -- a face touches the one that has its corner before v behind v
  touches : (f g : ℕ) → Has (faces_at m v) f → before (corners_at m f) v ≡ behind (corners_at m g) v → share_second m v f g ≡ true
  touches f g has is =
      let u = before (corners_at m f) v in
      any_of (λ w. not (w == v) && has_corner (corners_at m g) w) (corner_list (corners_at m f)) u
      (listed_corner (corners_at m f) u (before_in (corners_at m f) v))
      (and_both (not (u == v)) (has_corner (corners_at m g) u)
      (ap not (before_apart (corners_at m f) v (different f has)))
      (subst (λ w. has_corner (corners_at m g) w ≡ true) (sym is) (behind_in (corners_at m g) v)))

  -- ---- one fan
  module _ (f : ℕ) (f_in : Has (faces_at m v) f) (linked : (g : ℕ) → Has (faces_at m v) g → Linked (share_second m v) (faces_at m v) f g) where
    abbrev least : ℕ → Bool
    least x = slice_index (class_of touch all x) 0 == x

    is_head : (x : ℕ) → Has (filter (λ x. slice_index (class_of touch all x) 0 == x) all) x → x ≡ slice_index (class_of touch all f) 0
    is_head x has =
        let p = passed (λ x. slice_index (class_of touch all x) 0 == x) all x has in
        let same = classes_same touch all (share_both_ways m v) f x x f_in p.0 (linked_has touch all f x f_in (linked x p.0)) (linked_has touch all x x p.0 Linked.itself) in
        sym (ap (λ l. slice_index l 0) same ∙ eqb-true (slice_index (class_of touch all x) 0) x p.1)

    one_fan : length (fans m v) < 2
    one_fan =
        let heads = filter (λ x. slice_index (class_of touch all x) 0 == x) all in
        let few = few_same heads (differ-filter (λ x. slice_index (class_of touch all x) 0 == x) all (faces_differ m v)) (λ x y x_in y_in. is_head x x_in ∙ sym (is_head y y_in)) in
        let as_many = length-map heads (λ x. class_of touch all x) in
        omega (arith, few, as_many)

  -- ---- to what links lead
  module _ {S : Type 0} (links : HashMap ℕ ℕ S) (l : AreLinks m v (faces_at m v) links) (f : ℕ) (f_in : Has (faces_at m v) f) where
    led : (u : ℕ) → LeadOn (link links) (behind (corners_at m f) v) u → (g : ℕ) → Has (faces_at m v) g → behind (corners_at m g) v ≡ u → Linked (share_second m v) (faces_at m v) f g
    led _ LeadOn.here g g_in is = subst (Linked touch all f) (l.apart f g f_in g_in (sym is)) Linked.itself
    led _ (LeadOn.further {v = p} {w = u} r at) g g_in is =
        let h = l.only p u at in
        Linked.further (led p r h.0 h.1 h.2) (contains_had all g g_in) (touches h.0 g h.1 (h.3 ∙ sym is))

    pub round_plain : (left : HashMap ℕ ℕ S) → TakesReached (behind (corners_at m f) v) links left → IsEmpty left → IsPlain m v
    round_plain left taken empty = record {
      single = single l.apart;
      one_fan = one_fan f f_in (λ g g_in.
          let u = behind (corners_at m g) v in
          let w = before (corners_at m g) v in
          led u (⊎_elim (λ stays. absurd (nothing left empty u w stays)) (λ leads. leads) (taken u w (l.each g g_in))) g g_in refl);
    }

  -- a vertex without a face
  pub bare_plain : faces_at m v ≡ [] → IsPlain m v
  bare_plain bare = record {
    single = single (λ f g at_f. absurd (false≢true (subst (λ l. Has l f) bare at_f)));
    one_fan = let none : length (fans m v) ≡ 0 = ap (λ l. length (classes touch l)) bare in omega (arith, none);
  }

-- ---- the vertices of a mesh
pub plain_on : (m : Mesh) (xs : List ℕ) (i x : ℕ) → i < length xs → x ≡ get_or xs i x → ((u : ℕ) → Has (take i xs) u → IsPlain m u) → IsPlain m x → (u : ℕ) → Has (take (i + 1) xs) u → IsPlain m u
plain_on m xs i x low is before plain u has = ⊎_elim
    (λ was. before u was)
    (λ same. subst (IsPlain m) same plain)
    (old_or_last (take i xs) x u (subst (λ l. Has l u) (one_longer xs i x low is) has))

pub none_singular : (m : Mesh) → IsSound m → ((u : ℕ) → Has (finite.keys m.points) u → IsPlain m u) → (has_crowded_edge m || has_parted_vertex m) ≡ false
none_singular m sound plain = ap (λ b. b || has_parted_vertex m) uncrowded ∙ unparted
  where
    origin_live : (u w : ℕ) → 0 < runs m u w → IsLiveVertex m u
    origin_live u w some =
        let face = running_face m u w some in
        corner_live m (face.0).1 u (sound.is_mesh.live_corners (face.0).0 (face.0).1 face.2) (follows_in (face.0).1 u w face.1)

    few_run : (u w : ℕ) → runs m u w < 2
    few_run u w = ⊎_elim
        (λ some. (plain u (live_listed m u (origin_live u w some))).single w)
        (λ none. omega (arith, none))
        (cases_lt 0 (runs m u w))

    two_few : (a b : ℕ) → a < 2 → b < 2 → (nat_lt 1 a || nat_lt 1 b) ≡ false
    two_few a b h k = grind (arith, nat_tests)

    few : (n : ℕ) → n < 2 → nat_lt 1 n ≡ false
    few n h = grind (arith, nat_tests)

    uncrowded : has_crowded_edge m ≡ false
    uncrowded = no_one (λ (e : ℕ × ℕ). is_crowded m e.0 e.1) (edges m) (all_always (λ (e : ℕ × ℕ). is_crowded m e.0 e.1 ≡ false) (edges m) (λ e. two_few (runs m e.0 e.1) (runs m e.1 e.0) (few_run e.0 e.1) (few_run e.1 e.0)))

    unparted : has_parted_vertex m ≡ false
    unparted = no_one (λ v. nat_lt 1 (length (fans m v))) (finite.keys m.points)
        (all_weaker (Has (finite.keys m.points)) (λ v. nat_lt 1 (length (fans m v)) ≡ false) (finite.keys m.points) (λ v has. few (length (fans m v)) (plain v has).one_fan) (each_is_one (finite.keys m.points)))
