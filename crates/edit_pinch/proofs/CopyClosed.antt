-- A pinch leaves a closed mesh closed: in the faces of a fan a new vertex takes the place of the old one.
use Rattle.std.proofs.Common.{◌≡◌, ◌≢◌, ℕ, ◌+◌, ◌<◌, ◌≤◌, Bool, true, false, cond, not, ◌&&◌, ◌||◌, ◌==◌, List, [], ◌∷◌, map, drop, Some, ⊎_elim, is_some, refl, sym, ap, subst, ◌∙◌, arith}
use Rattle.std.proofs.lemmas.Bool.{eqb-true}
use Rattle.std.proofs.lemmas.Bool.Decides.{nat_tests}
use Rattle.std.specs.List.{AllByRecursion, fold, zip}
use Rattle.std.specs.Cmp.{nat_cmp_total, unsigned_tied}
use Rattle.std.specs.FinMap as finite
use Rattle.std.specs.FinMap.{get-insert}
use Rattle.grid_base.specs.declared.Point.{Point}
use Rattle.mesh_base.specs.declared.ids.Corners.{Corners}
use Rattle.mesh_base.specs.Mesh.{Mesh, IsMesh, HasCorners}
use Rattle.mesh_base.specs.Sides.{follows, has_corner, runs, IsClosed}
use Rattle.mesh_base.specs.Changes.{without_face, with_vertex, with_point}
use Rattle.mesh_base.proofs.Counts.{runs-with_face, runs-without_face}
use Rattle.mesh_base.proofs.ListedPairs.{all_weaker}
use Rattle.mesh_base.proofs.Tests.{or_either, untied}
use Rattle.edit_base.specs.Classes.{is_one_of}
use Rattle.edit_base.specs.Edges.{corners_at, renamed, with_renamed, with_all_renamed}
use Rattle.edit_pinch.specs.Pinch.{with_copy, pinch_mesh, fans}
use Rattle.edit_acts.proofs.Flow.{AreBelow, flow, not_live, below-with, below-without, still_there}
use Rattle.edit_base.proofs.Chains.{Has, each_is_one, either_first, either_second, equal_itself}
use Rattle.edit_pinch.proofs.FansApart.{Differ, AreApart}
use Rattle.edit_pinch.proofs.FanBalance.{flow_none, corners_there, step_corners, IsFan, fans_apart, fans_are_fans}

-- ---- corners with a new vertex in the old one's place
-- v again, for its copy
abbrev pub old_for : ℕ → ℕ → ℕ → ℕ
old_for v w a = cond (a == w) v a

-- no corner is w
pub record IsWithout (w : ℕ) (c : Corners) : Type 0 where
  pub first : c.first ≢ w
  pub second : c.second ≢ w
  pub third : c.third ≢ w

one_test : (v w x a : ℕ) → v ≢ w → x ≢ w → (cond (x == v) w x == a) ≡ (not (a == v) && (x == old_for v w a))
one_test v w x a v_w x_w = by_tests (x == v) (a == v) (a == w) refl refl refl
  where
    is : (p q : ℕ) → (p == q) ≡ true → p ≡ q
    is p q e = eqb-true p q e

    itself : (p : ℕ) → (p == p) ≡ true
    itself p = grind (arith, nat_tests)

    apart : (p q : ℕ) → p ≢ q → (p == q) ≡ false
    apart p q h = grind (arith, nat_tests)

    clash : (p q : ℕ) → (p == q) ≡ false → p ≡ q → ⊥
    clash p q e h = grind (arith, nat_tests)

    by_tests : (b c d : Bool) → (x == v) ≡ b → (a == v) ≡ c → (a == w) ≡ d → (cond b w x == a) ≡ (not c && (x == cond d v a))
    by_tests true true d p q r = let e = is a v q in apart w a (λ h. v_w (sym e ∙ sym h))
    by_tests true false true p q r = let e = is a w r in ap (λ z. w == z) e ∙ itself w ∙ sym p
    by_tests true false false p q r = let e = is x v p in apart w a (λ h. clash a w r (sym h)) ∙ sym (ap (λ z. z == a) e ∙ apart v a (λ h. clash a v q (sym h)))
    by_tests false true d p q r = let e = is a v q in ap (λ z. x == z) e ∙ p
    by_tests false false true p q r = let e = is a w r in ap (λ z. x == z) e ∙ apart x w x_w ∙ sym p
    by_tests false false false p q r = refl

joined_tests : (k l p q r p' q' r' : Bool) → (((k && p) && (l && q')) || ((k && q) && (l && r')) || ((k && r) && (l && p'))) ≡ ((k && l) && ((p && q') || (q && r') || (r && p')))
joined_tests true true p q r p' q' r' = refl
joined_tests true false true true true p' q' r' = refl
joined_tests true false true true false p' q' r' = refl
joined_tests true false true false true p' q' r' = refl
joined_tests true false true false false p' q' r' = refl
joined_tests true false false true true p' q' r' = refl
joined_tests true false false true false p' q' r' = refl
joined_tests true false false false true p' q' r' = refl
joined_tests true false false false false p' q' r' = refl
joined_tests false l p q r p' q' r' = refl

pub off_corner : (w : ℕ) (c : Corners) → IsWithout w c → has_corner c w ≡ true → ⊥
off_corner w c off h = ⊎_elim
    (λ two. ⊎_elim (λ one. off.first (eqb-true c.first w one)) (λ one. off.second (eqb-true c.second w one)) (or_either (c.first == w) (c.second == w) two))
    (λ one. off.third (eqb-true c.third w one)) (or_either ((c.first == w) || (c.second == w)) (c.third == w) h)

-- the steps of renamed corners
pub renamed_steps : (v w : ℕ) (c : Corners) (a b : ℕ) → v ≢ w → IsWithout w c → follows (renamed v w c) a b ≡ ((not (a == v) && not (b == v)) && follows c (old_for v w a) (old_for v w b))
renamed_steps v w c a b v_w off =
    (λ i. (one_test v w c.first a v_w off.first i && one_test v w c.second b v_w off.second i)
    || (one_test v w c.second a v_w off.second i && one_test v w c.third b v_w off.third i)
    || (one_test v w c.third a v_w off.third i && one_test v w c.first b v_w off.first i))
    ∙ joined_tests (not (a == v)) (not (b == v)) (c.first == old_for v w a) (c.second == old_for v w a) (c.third == old_for v w a) (c.first == old_for v w b) (c.second == old_for v w b) (c.third == old_for v w b)

-- the same of several faces
renamed_flow : (at : ℕ → Corners) (v w a b : ℕ) → v ≢ w → (fs : List ℕ) → AllByRecursion (λ f. IsWithout w (at f)) fs →
    flow (map (λ f. renamed v w (at f)) fs) a b ≡ cond (not (a == v) && not (b == v)) (flow (map at fs) (old_for v w a) (old_for v w b)) 0
renamed_flow at v w a b v_w [] off = nothing (not (a == v) && not (b == v))
  where
    nothing : (t : Bool) → ◌≡◌ {A = ℕ} 0 (cond t 0 0)
    nothing true = refl
    nothing false = refl
renamed_flow at v w a b v_w (f ∷ fs) off = by_test (not (a == v) && not (b == v)) (follows (renamed v w (at f)) a b) (renamed_steps v w (at f) a b v_w off.0) (renamed_flow at v w a b v_w fs off.1)
  where
    by_test : (t s : Bool) → s ≡ (t && follows (at f) (old_for v w a) (old_for v w b)) → flow (map (λ f. renamed v w (at f)) fs) a b ≡ cond t (flow (map at fs) (old_for v w a) (old_for v w b)) 0 →
        cond s 1 0 + flow (map (λ f. renamed v w (at f)) fs) a b ≡ cond t (cond (follows (at f) (old_for v w a) (old_for v w b)) 1 0 + flow (map at fs) (old_for v w a) (old_for v w b)) 0
    by_test true s e rest = λ i. cond (e i) 1 0 + rest i
    by_test false s e rest = λ i. cond (e i) 1 0 + rest i

-- what comes is balanced as what goes is
exchanged : (F : ℕ → ℕ → ℕ) (v w a b : ℕ) → ((x : ℕ) → F v x ≡ F x v) → ((x : ℕ) → (F w x ≡ 0) × (F x w ≡ 0)) →
    F a b + cond (not (b == v) && not (a == v)) (F (old_for v w b) (old_for v w a)) 0 ≡ F b a + cond (not (a == v) && not (b == v)) (F (old_for v w a) (old_for v w b)) 0
exchanged F v w a b balance none = by_tests (a == v) (b == v) (a == w) (b == w) refl refl refl refl
  where
    at_v : (x y : ℕ) → (x == v) ≡ true → F x y ≡ F y x
    at_v x y e = let is = eqb-true x v e in ap (λ z. F z y) is ∙ balance y ∙ ap (λ z. F y z) (sym is)

    at_w : (x y : ℕ) → (x == w) ≡ true → (F x y ≡ 0) × (F y x ≡ 0)
    at_w x y e = let is = eqb-true x w e in (ap (λ z. F z y) is ∙ (none y).0, ap (λ z. F y z) is ∙ (none y).1)

    same : (p q r s : ℕ) → p ≡ 0 → q ≡ 0 → r ≡ s → p + r ≡ q + s
    same p q r s e f g = omega arith

    turned : (p q : ℕ) → p + q ≡ q + p
    turned p q = omega arith

    by_tests : (av bv aw bw : Bool) → (a == v) ≡ av → (b == v) ≡ bv → (a == w) ≡ aw → (b == w) ≡ bw →
        F a b + cond (not bv && not av) (F (cond bw v b) (cond aw v a)) 0 ≡ F b a + cond (not av && not bv) (F (cond aw v a) (cond bw v b)) 0
    by_tests true true aw bw p q r s = ap (λ n. n + 0) (at_v a b p)
    by_tests true false aw bw p q r s = ap (λ n. n + 0) (at_v a b p)
    by_tests false true aw bw p q r s = ap (λ n. n + 0) (sym (at_v b a q))
    by_tests false false true bw p q r s = let h = at_w a b r in same _ _ _ _ h.0 h.1 (sym (balance (cond bw v b)))
    by_tests false false false true p q r s = let h = at_w b a s in same _ _ _ _ h.1 h.0 (balance a)
    by_tests false false false false p q r s = turned (F a b) (F b a)

-- ---- one face after another
-- another face stays
pub kept_by_one : (v w : ℕ) (m : Mesh) (f g : ℕ) (c : Corners) → AreBelow m → f ≢ g → HasCorners m g c → HasCorners (with_renamed v w m f) g c
kept_by_one v w m f g c below apart h =
    let old : HasCorners (without_face m f) g c = still_there m f g c apart h in
    let less : g < m.next_face = below g (ap is_some h) in
    get-insert nat_cmp_total (without_face m f).faces m.next_face (renamed v w (corners_at m f)) g
    ∙ ap (λ b. cond b (Some (renamed v w (corners_at m f))) (finite.get (without_face m f).faces g)) (unsigned_tied g m.next_face ∙ untied g m.next_face (not_same g m.next_face less))
    ∙ old
  where
    not_same : (p q : ℕ) → p < q → p ≢ q
    not_same p q h e = omega arith

pub below_by_one : (v w : ℕ) (m : Mesh) (f : ℕ) → AreBelow m → AreBelow (with_renamed v w m f)
below_by_one v w m f below = below-with (without_face m f) (renamed v w (corners_at m f)) (below-without m f below)

pub below_by_all : (v w : ℕ) (m : Mesh) (fs : List ℕ) → AreBelow m → AreBelow (with_all_renamed v w m fs)
below_by_all v w m [] below = below
below_by_all v w m (f ∷ fs) below = below_by_all v w (with_renamed v w m f) fs (below_by_one v w m f below)

pub kept_by_all : (v w : ℕ) (m : Mesh) (fs : List ℕ) (g : ℕ) (c : Corners) → AreBelow m → (Has fs g → ⊥) → HasCorners m g c → HasCorners (with_all_renamed v w m fs) g c
kept_by_all v w m [] g c below none h = h
kept_by_all v w m (f ∷ fs) g c below none h = kept_by_all v w (with_renamed v w m f) fs g c (below_by_one v w m f below)
    (λ has. none (either_second (f == g) (is_one_of fs g) has))
    (kept_by_one v w m f g c below (λ e. none (either_first (f == g) (is_one_of fs g) (subst (λ x. (f == x) ≡ true) e (equal_itself f)))) h)

-- the faces are there
abbrev pub AreThere : (ℕ → Corners) → Mesh → List ℕ → Type 0
AreThere at m fs = AllByRecursion (λ f. HasCorners m f (at f)) fs

-- of the first, the others stay
pub others_there : (at : ℕ → Corners) (v w : ℕ) (m : Mesh) (f : ℕ) (fs : List ℕ) → AreBelow m → (Has fs f → ⊥) → AreThere at m fs → AreThere at (with_renamed v w m f) fs
others_there at v w m f fs below none there = both fs (each_is_one fs) there
  where
    both : (gs : List ℕ) → AllByRecursion (Has fs) gs → AreThere at m gs → AreThere at (with_renamed v w m f) gs
    both [] h k = tt
    both (g ∷ gs) h k = (kept_by_one v w m f g (at g) below (λ e. none (subst (Has fs) (sym e) h.0)) k.0, both gs h.1 k.1)

-- how the counts change
one_counts : (at : ℕ → Corners) (v w : ℕ) (m : Mesh) (f a b : ℕ) → AreBelow m → HasCorners m f (at f) →
    runs (with_renamed v w m f) a b + cond (follows (at f) a b) 1 0 ≡ runs m a b + cond (follows (renamed v w (at f)) a b) 1 0
one_counts at v w m f a b below there =
    let made = runs-with_face (without_face m f) (renamed v w (corners_at m f)) a b (not_live (without_face m f) (below-without m f below)) in
    let gone = runs-without_face m f (at f) a b there in
    let same : ◌≡◌ {A = ℕ} (cond (follows (renamed v w (corners_at m f)) a b) 1 0) (cond (follows (renamed v w (at f)) a b) 1 0) = ap (λ c. cond (follows (renamed v w c) a b) 1 0) (corners_there m f (at f) there) in
    total _ _ _ _ _ _ made gone same
  where
    total : (new bare old f g g' : ℕ) → new ≡ bare + g → bare + f ≡ old → g ≡ g' → new + f ≡ old + g'
    total new bare old f g g' h k e = omega arith

all_counts : (at : ℕ → Corners) (v w : ℕ) (m : Mesh) (fs : List ℕ) (a b : ℕ) → AreBelow m → Differ fs → AreThere at m fs →
    runs (with_all_renamed v w m fs) a b + flow (map at fs) a b ≡ runs m a b + flow (map (λ f. renamed v w (at f)) fs) a b
all_counts at v w m [] a b below differ there = refl
all_counts at v w m (f ∷ fs) a b below differ there =
    let rest = all_counts at v w (with_renamed v w m f) fs a b (below_by_one v w m f below) differ.1 (others_there at v w m f fs below differ.0 there.1) in
    let one = one_counts at v w m f a b below there.0 in
    total _ _ _ _ _ _ _ rest one
  where
    total : (new mid old f g fs gs : ℕ) → new + fs ≡ mid + gs → mid + f ≡ old + g → new + (f + fs) ≡ old + (g + gs)
    total new mid old f g fs gs h k = omega arith

-- a balanced fan with a new vertex leaves a closed mesh closed
pub renamed_is_closed : (at : ℕ → Corners) (v w : ℕ) (m : Mesh) (fs : List ℕ) → AreBelow m → Differ fs → AreThere at m fs → v ≢ w → AllByRecursion (λ f. IsWithout w (at f)) fs →
    ((x : ℕ) → flow (map at fs) v x ≡ flow (map at fs) x v) → IsClosed m → IsClosed (with_all_renamed v w m fs)
renamed_is_closed at v w m fs below differ there v_w off balance closed a b =
    balanced _ _ _ _ _ _ _ _ _ _
    (all_counts at v w m fs a b below differ there) (all_counts at v w m fs b a below differ there)
    (renamed_flow at v w a b v_w fs off) (renamed_flow at v w b a v_w fs off)
    (closed a b)
    (exchanged (flow (map at fs)) v w a b balance none)
  where
    no : (b : Bool) → (b ≡ true → ⊥) → b ≡ false
    no true never = absurd (never refl)
    no false never = refl

    balanced : (n n' o o' f f' g g' h h' : ℕ) → n + f ≡ o + g → n' + f' ≡ o' + g' → g ≡ h → g' ≡ h' → o ≡ o' → f + h' ≡ f' + h → n ≡ n'
    balanced n n' o o' f f' g g' h h' p q r s t u = omega arith

    none : (x : ℕ) → (flow (map at fs) w x ≡ 0) × (flow (map at fs) x w ≡ 0)
    none x = (
      flow_none at w x fs (all_weaker (λ f. IsWithout w (at f)) (λ f. follows (at f) w x ≡ false) fs (λ f away. no (follows (at f) w x) (λ step. off_corner w (at f) away (step_corners (at f) w x step).0)) off),
      flow_none at x w fs (all_weaker (λ f. IsWithout w (at f)) (λ f. follows (at f) x w ≡ false) fs (λ f away. no (follows (at f) x w) (λ step. off_corner w (at f) away (step_corners (at f) x w step).1)) off),
    )

-- ---- one fan after another
pub next_vertex-renamed : (v w : ℕ) (m : Mesh) (fs : List ℕ) → (with_all_renamed v w m fs).next_vertex ≡ m.next_vertex
next_vertex-renamed v w m [] = refl
next_vertex-renamed v w m (f ∷ fs) = next_vertex-renamed v w (with_renamed v w m f) fs

pub limits-renamed : (v w : ℕ) (m : Mesh) (fs : List ℕ) → (with_all_renamed v w m fs).limits ≡ m.limits
limits-renamed v w m [] = refl
limits-renamed v w m (f ∷ fs) = limits-renamed v w (with_renamed v w m f) fs

pub limits-copied : (v : ℕ) (n : Mesh) (copies : List (List ℕ × Point)) → (fold (with_copy v) n copies).limits ≡ n.limits
limits-copied v n [] = refl
limits-copied v n (copy ∷ copies) = limits-copied v (with_copy v n copy) copies ∙ limits-renamed v n.next_vertex (with_vertex n copy.1) copy.0

pub points-renamed : (v w : ℕ) (m : Mesh) (fs : List ℕ) → (with_all_renamed v w m fs).points ≡ m.points
points-renamed v w m [] = refl
points-renamed v w m (f ∷ fs) = points-renamed v w (with_renamed v w m f) fs

pub without_new : (m : Mesh) (w f : ℕ) (c : Corners) → IsMesh m → m.next_vertex ≤ w → HasCorners m f c → IsWithout w c
without_new m w f c mesh new h =
    let live = mesh.live_corners f c h in
    let a = (mesh.vertex_ids c.first live.0).1 in
    let b = (mesh.vertex_ids c.second live.1).1 in
    let d = (mesh.vertex_ids c.third live.2).1 in
    record { first = λ e. omega (arith, a, new, e); second = λ e. omega (arith, b, new, e); third = λ e. omega (arith, d, new, e) }

-- what holds of each number of a list
pub of_each : (P : ℕ → Type 0) (fs : List ℕ) → ((f : ℕ) → Has fs f → P f) → AllByRecursion P fs
of_each P fs h = all_weaker (Has fs) P fs h (each_is_one fs)

-- a fan's faces are there
pub fan_there : (m : Mesh) (v : ℕ) (fan : List ℕ) → IsFan m v fan → AreThere (corners_at m) m fan
fan_there m v fan is = of_each (λ f. HasCorners m f (corners_at m f)) fan is.there

pub fan_without : (m : Mesh) (v w : ℕ) (fan : List ℕ) → IsMesh m → m.next_vertex ≤ w → IsFan m v fan → AllByRecursion (λ f. IsWithout w (corners_at m f)) fan
fan_without m v w fan mesh new is = of_each (λ f. IsWithout w (corners_at m f)) fan (λ f has. without_new m w f (corners_at m f) mesh new (is.there f has))

-- the faces of another fan stay
fan_stays : (at : ℕ → Corners) (v w : ℕ) (m : Mesh) (fan other : List ℕ) → AreBelow m → ((f : ℕ) → Has fan f → Has other f → ⊥) → AreThere at m other → AreThere at (with_all_renamed v w m fan) other
fan_stays at v w m fan other below apart there = both other (each_is_one other) there
  where
    both : (gs : List ℕ) → AllByRecursion (Has other) gs → AreThere at m gs → AreThere at (with_all_renamed v w m fan) gs
    both [] h k = tt
    both (g ∷ gs) h k = (kept_by_all v w m fan g (at g) below (λ has. apart g has h.0) k.0, both gs h.1 k.1)

pub fans_stay : (at : ℕ → Corners) (v w : ℕ) (m : Mesh) (fan : List ℕ) (others : List (List ℕ)) → AreBelow m → AllByRecursion (λ d. (f : ℕ) → Has fan f → Has d f → ⊥) others → AllByRecursion (AreThere at m) others → AllByRecursion (AreThere at (with_all_renamed v w m fan)) others
fans_stay at v w m fan [] below apart there = tt
fans_stay at v w m fan (d ∷ ds) below apart there = (fan_stays at v w m fan d below apart.0 there.0, fans_stay at v w m fan ds below apart.1 there.1)

module _ (m : Mesh) (v : ℕ) (mesh : IsMesh m) (v_below : v < m.next_vertex) where
  v_apart : (w : ℕ) → m.next_vertex ≤ w → v ≢ w
  v_apart w new e = omega (arith, v_below, new, e)

  pub copies_are_closed : (n : Mesh) (others : List (List ℕ)) (points : List Point) → m.next_vertex ≤ n.next_vertex → AreBelow n → AllByRecursion (IsFan m v) others → AreApart others → AllByRecursion (AreThere (corners_at m) n) others →
      IsClosed n → IsClosed (fold (with_copy v) n (zip others points))
  copies_are_closed n [] points new below fan apart there closed = closed
  copies_are_closed n (d ∷ ds) [] new below fan apart there closed = closed
  copies_are_closed n (d ∷ ds) (p ∷ ps) new below fan apart there closed =
      let w = n.next_vertex in
      let more : m.next_vertex ≤ n.next_vertex + 1 = omega (arith, new) in
      copies_are_closed (with_copy v n (d, p)) ds ps
      (subst (λ k. m.next_vertex ≤ k) (sym (next_vertex-renamed v w (with_vertex n p) d)) more)
      (below_by_all v w (with_vertex n p) d below)
      fan.1 apart.1
      (fans_stay (corners_at m) v w (with_vertex n p) d ds below apart.0 there.1)
      (renamed_is_closed (corners_at m) v w (with_vertex n p) d below fan.0.differ there.0 (v_apart w new) (fan_without m v w d mesh new fan.0) fan.0.balance closed)

-- ---- the fans but the first
pub all_later : {X : Type 0} (P : X → Type 0) (xs : List X) → AllByRecursion P xs → AllByRecursion P (drop 1 xs)
all_later P [] h = tt
all_later P (x ∷ xs) h = h.1

pub apart_later : (cs : List (List ℕ)) → AreApart cs → AreApart (drop 1 cs)
apart_later [] h = tt
apart_later (c ∷ cs) h = h.1

pub later_fans : (m : Mesh) (v : ℕ) → IsClosed m → AllByRecursion (IsFan m v) (drop 1 (fans m v))
later_fans m v closed = all_later (IsFan m v) (fans m v) (fans_are_fans m v closed)

pub later_apart : (m : Mesh) (v : ℕ) → AreApart (drop 1 (fans m v))
later_apart m v = apart_later (fans m v) (fans_apart m v)

pub later_there : (m : Mesh) (v : ℕ) → IsClosed m → AllByRecursion (AreThere (corners_at m) m) (drop 1 (fans m v))
later_there m v closed = all_weaker (IsFan m v) (AreThere (corners_at m) m) (drop 1 (fans m v)) (λ fan is. fan_there m v fan is) (later_fans m v closed)

-- a pinch leaves a closed mesh closed, whatever the points
pub pinch_is_closed : (m : Mesh) (v : ℕ) (at : Point) (points : List Point) → IsMesh m → v < m.next_vertex → IsClosed m → IsClosed (pinch_mesh m v at points)
pinch_is_closed m v at points mesh v_below closed =
    copies_are_closed m v mesh v_below (with_point m v at) (drop 1 (fans m v)) points (omega arith) (λ f live. (mesh.face_ids f live).1)
    (later_fans m v closed) (later_apart m v) (later_there m v closed) closed
