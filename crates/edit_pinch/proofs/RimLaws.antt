-- The vertices of a fan, as they are found face by face, are those of the definition, each once: sums over them are the same.
use Rattle.std.proofs.Common.{◌≡◌, ◌⊎◌, ℕ, ◌+◌, Bool, true, false, cond, T, not, ◌||◌, ◌&&◌, ◌==◌, nat_lt, List, [], ◌∷◌, ◌++◌, map, length, ⊎_elim, inl, inr, refl, sym, ap, subst, ◌∙◌, arith}
use Rattle.std.proofs.lemmas.Bool.{false≢true, eqb-true, not-true}
use Rattle.std.proofs.lemmas.Bool.Decides.{nat_tests}
use Rattle.std.proofs.lemmas.Int.{ints}
use Rattle.std.specs.Ordering.{nat_cmp}
use Rattle.std.specs.List.{filter, fold, list_any}
use Rattle.std.specs.FinMap as finite
use Rattle.std.specs.FinMap.{entries_sorted}
use Rattle.std.specs.FinMap.Entries.{is_sorted, below_all}
use Rattle.grid_base.specs.Triples.{Triple}
use Rattle.grid_base.proofs.MeetingLaws.{same_triple}
use Rattle.mesh_base.specs.declared.ids.Corners.{Corners}
use Rattle.mesh_base.specs.Mesh.{Mesh, IsSound, IsLiveVertex, HasCorners, AreLive}
use Rattle.mesh_base.specs.Sides.{has_corner}
use Rattle.mesh_base.specs.Changes.{corner_list}
use Rattle.mesh_base.specs.Placements.{origin}
use Rattle.mesh_base.proofs.WalkSteps.{both_of, less_true}
use Rattle.mesh_base.proofs.Listed.{at_live}
use Rattle.mesh_base.proofs.Tests.{or_first, or_second, or_either, and_first, and_second, and_both}
use Rattle.edit_base.specs.Classes.{is_one_of}
use Rattle.edit_base.specs.Edges.{corners_at}
use Rattle.edit_pinch.specs.Pinch.{rim}
use Rattle.edit_base.proofs.Chains.{Has, equal_itself, each_is_one, any_found, passed, passes}
use Rattle.edit_pinch.proofs.FanBalance.{listed_corner, corner_listed}
use Rattle.edit_pinch.proofs.FansApart.{Differ, differ-filter}
use Rattle.edit_pinch.specs.Rims.{with_other, with_corners, found_rim, with_way, ways}
use Rattle.edit_pinch.proofs.Growing.{had_first, had_second, had_either, not_false}

-- ---- lists of the same numbers, none twice
abbrev other_than : ℕ → ℕ → Bool
other_than u y = not (y == u)

all_others : (xs : List ℕ) (u : ℕ) → (Has xs u → ⊥) → filter (other_than u) xs ≡ xs
all_others [] u none = refl
all_others (x ∷ xs) u none = by_test (x == u) refl (all_others xs u (λ h. none (or_second (x == u) (is_one_of xs u) h)))
  where
    by_test : (b : Bool) → (x == u) ≡ b → filter (other_than u) xs ≡ xs → cond (not b) (x ∷ filter (other_than u) xs) (filter (other_than u) xs) ≡ x ∷ xs
    by_test true e rest = absurd (none (or_first (x == u) (is_one_of xs u) e))
    by_test false e rest = ap (λ l. x ∷ l) rest

module _ {A : Type 0} (step : A → ℕ → A) (swap : (a : A) (u w : ℕ) → step (step a u) w ≡ step (step a w) u) where
  -- any of them may come first
  first_taken : (xs : List ℕ) (a : A) (u : ℕ) → Has xs u → Differ xs → fold step a xs ≡ fold step (step a u) (filter (other_than u) xs)
  first_taken [] a u has differ = absurd (false≢true has)
  first_taken (x ∷ xs) a u has differ = by_test (x == u) refl (λ behind. first_taken xs (step a x) u behind differ.1)
    where
      by_test : (b : Bool) → (x == u) ≡ b → (Has xs u → fold step (step a x) xs ≡ fold step (step (step a x) u) (filter (other_than u) xs)) → fold step (step a x) xs ≡ fold step (step a u) (cond (not b) (x ∷ filter (other_than u) xs) (filter (other_than u) xs))
      by_test true e rest =
          let same : x ≡ u = eqb-true x u e in
          ap (λ y. fold step (step a y) xs) same
          ∙ ap (fold step (step a u)) (sym (all_others xs u (λ h. differ.0 (subst (Has xs) (sym same) h))))
      by_test false e rest =
          let behind : Has xs u = ⊎_elim (λ t. absurd (false≢true (sym e ∙ t))) (λ t. t) (or_either (x == u) (is_one_of xs u) has) in
          rest behind ∙ ap (λ b. fold step b (filter (other_than u) xs)) (swap a x u)

  pub same_fold : (ys xs : List ℕ) (a : A) → Differ ys → Differ xs → ((u : ℕ) → Has ys u → Has xs u) → ((u : ℕ) → Has xs u → Has ys u) → fold step a ys ≡ fold step a xs
  same_fold [] [] a dy dx to from = refl
  same_fold [] (x ∷ xs) a dy dx to from = absurd (false≢true (from x (or_first (x == x) (is_one_of xs x) (equal_itself x))))
  same_fold (y ∷ ys) xs a dy dx to from =
      same_fold ys (filter (other_than y) xs) (step a y) dy.1 (differ-filter (other_than y) xs dx)
      (λ u has. passes (other_than y) xs u (to u (or_second (y == u) (is_one_of ys u) has)) (not_false (u == y) (not_it u has)))
      (λ u has. let p = passed (other_than y) xs u has in ⊎_elim (λ e. absurd (it_is u e (not-true (u == y) p.1))) (λ h. h) (or_either (y == u) (is_one_of ys u) (from u p.0)))
      ∙ sym (first_taken xs a y (to y (or_first (y == y) (is_one_of ys y) (equal_itself y))) dx)
    where
      not_it : (u : ℕ) → Has ys u → (u == y) ≡ false
      not_it u has = by_test (u == y) refl
        where
          by_test : (b : Bool) → (u == y) ≡ b → b ≡ false
          by_test true e = absurd (dy.0 (subst (Has ys) (eqb-true u y e) has))
          by_test false e = refl

      it_is : (u : ℕ) → (y == u) ≡ true → (u == y) ≡ false → ⊥
      it_is u e f = false≢true (sym f ∙ subst (λ z. (z == y) ≡ true) (eqb-true y u e) (equal_itself y))

counted : (xs : List ℕ) (n : ℕ) → fold (λ k u. k + 1) n xs ≡ n + length xs
counted [] n = omega arith
counted (x ∷ xs) n = let rest = counted xs (n + 1) in omega (arith, rest)

pub same_length : (ys xs : List ℕ) → Differ ys → Differ xs → ((u : ℕ) → Has ys u → Has xs u) → ((u : ℕ) → Has xs u → Has ys u) → length ys ≡ length xs
same_length ys xs dy dx to from =
    let one = counted ys 0 in
    let two = counted xs 0 in
    let same = same_fold (λ k u. k + 1) (λ a u w. refl) ys xs 0 dy dx to from in
    omega (arith, one, two, same)

-- ---- the live vertices
not_among : {X : Type 0} (k : ℕ) (es : List (ℕ × X)) → T (below_all nat_cmp k es) → Has (map (λ e. e.0) es) k → ⊥
not_among k [] below has = false≢true has
not_among k (e ∷ es) below has =
    let parts = both_of _ _ below in
    ⊎_elim (λ here. untied k e.0 (less_true k e.0 parts.0) here) (λ behind. not_among k es parts.1 behind) (or_either (e.0 == k) (is_one_of (map (λ x. x.0) es) k) has)
  where
    untied : (a b : ℕ) → nat_lt a b ≡ true → (b == a) ≡ true → ⊥
    untied a b h e = grind (arith, nat_tests)

differ-keys : {X : Type 0} (es : List (ℕ × X)) → T (is_sorted nat_cmp es) → Differ (map (λ e. e.0) es)
differ-keys [] s = tt
differ-keys (e ∷ es) s = let parts = both_of (below_all nat_cmp e.0 es) _ s in (not_among e.0 es parts.0, differ-keys es parts.1)

-- ---- what is found
module _ (v : ℕ) where
  -- a vertex more
  other_differ : (found : List ℕ) (u : ℕ) → Differ found → Differ (with_other v found u)
  other_differ found u differ = by_test ((u == v) || is_one_of found u) refl
    where
      more : (xs : List ℕ) → Differ xs → (Has xs u → ⊥) → Differ (xs ++ u ∷ [])
      more [] d none = ((λ h. false≢true h), tt)
      more (x ∷ xs) d none = (
        (λ h. ⊎_elim d.0 (λ last. ⊎_elim (λ e. none (or_first (x == u) (is_one_of xs u) (turned x u e))) (λ e. false≢true e) (or_either (u == x) false last)) (had_either xs (u ∷ []) x h)),
        more xs d.1 (λ h. none (or_second (x == u) (is_one_of xs u) h)),
      )
        where
          turned : (a b : ℕ) → (b == a) ≡ true → (a == b) ≡ true
          turned a b e = subst (λ z. (a == z) ≡ true) (sym (eqb-true b a e)) (equal_itself a)

      by_test : (b : Bool) → ((u == v) || is_one_of found u) ≡ b → Differ (cond b found (found ++ u ∷ []))
      by_test true e = differ
      by_test false e = more found differ (λ h. false≢true (sym e ∙ or_second (u == v) (is_one_of found u) h))

  other_from : (found : List ℕ) (u w : ℕ) → Has (with_other v found u) w → Has found w ⊎ ((u ≡ w) × ((w == v) ≡ false))
  other_from found u w = by_test ((u == v) || is_one_of found u) refl
    where
      by_test : (b : Bool) → ((u == v) || is_one_of found u) ≡ b → Has (cond b found (found ++ u ∷ [])) w → Has found w ⊎ ((u ≡ w) × ((w == v) ≡ false))
      by_test true e has = inl has
      by_test false e has = ⊎_elim (λ old. inl old)
          (λ last. ⊎_elim
          (λ is. let same = eqb-true u w is in inr (same, subst (λ z. (z == v) ≡ false) same (neither (u == v) (is_one_of found u) e)))
          (λ none. absurd (false≢true none))
          (or_either (u == w) false last))
          (had_either found (u ∷ []) w has)
        where
          neither : (a b : Bool) → (a || b) ≡ false → a ≡ false
          neither true b e = absurd (false≢true (sym e))
          neither false b e = refl

  other_old : (found : List ℕ) (u w : ℕ) → Has found w → Has (with_other v found u) w
  other_old found u w has = by_test ((u == v) || is_one_of found u)
    where
      by_test : (b : Bool) → Has (cond b found (found ++ u ∷ [])) w
      by_test true = has
      by_test false = had_first found (u ∷ []) w has

  other_new : (found : List ℕ) (u : ℕ) → (u == v) ≡ false → Has (with_other v found u) u
  other_new found u off = by_test ((u == v) || is_one_of found u) refl
    where
      by_test : (b : Bool) → ((u == v) || is_one_of found u) ≡ b → Has (cond b found (found ++ u ∷ [])) u
      by_test true e = ⊎_elim (λ t. absurd (false≢true (sym off ∙ t))) (λ t. t) (or_either (u == v) (is_one_of found u) e)
      by_test false e = had_second found (u ∷ []) u (or_first (u == u) false (equal_itself u))

  -- several more
  others_differ : (us found : List ℕ) → Differ found → Differ (fold (with_other v) found us)
  others_differ [] found d = d
  others_differ (u ∷ us) found d = others_differ us (with_other v found u) (other_differ found u d)

  others_from : (us found : List ℕ) (w : ℕ) → Has (fold (with_other v) found us) w → Has found w ⊎ (Has us w × ((w == v) ≡ false))
  others_from [] found w has = inl has
  others_from (u ∷ us) found w has = ⊎_elim
      (λ old. ⊎_elim (λ older. inl older) (λ new. inr (or_first (u == w) (is_one_of us w) (subst (λ z. (u == z) ≡ true) new.0 (equal_itself u)), new.1)) (other_from found u w old))
      (λ new. inr (or_second (u == w) (is_one_of us w) new.0, new.1))
      (others_from us (with_other v found u) w has)

  others_old : (us found : List ℕ) (w : ℕ) → Has found w → Has (fold (with_other v) found us) w
  others_old [] found w has = has
  others_old (u ∷ us) found w has = others_old us (with_other v found u) w (other_old found u w has)

  others_new : (us found : List ℕ) (w : ℕ) → Has us w → (w == v) ≡ false → Has (fold (with_other v) found us) w
  others_new [] found w has off = absurd (false≢true has)
  others_new (u ∷ us) found w has off = ⊎_elim
      (λ here. let same = eqb-true u w here in others_old us (with_other v found u) w (subst (λ z. Has (with_other v found u) z) same (other_new found u (subst (λ z. (z == v) ≡ false) (sym same) off))))
      (λ behind. others_new us (with_other v found u) w behind off)
      (or_either (u == w) (is_one_of us w) has)

  -- the corners of several faces more
  module _ (m : Mesh) where
    abbrev at_one_of : List ℕ → ℕ → Bool
    at_one_of fan w = list_any (λ f. has_corner (corners_at m f) w) fan

    rim_differ : (fan found : List ℕ) → Differ found → Differ (fold (with_corners m v) found fan)
    rim_differ [] found d = d
    rim_differ (f ∷ fan) found d = rim_differ fan (with_corners m v found f) (others_differ (corner_list (corners_at m f)) found d)

    rim_from : (fan found : List ℕ) (w : ℕ) → Has (fold (with_corners m v) found fan) w → Has found w ⊎ ((at_one_of fan w ≡ true) × ((w == v) ≡ false))
    rim_from [] found w has = inl has
    rim_from (f ∷ fan) found w has = ⊎_elim
        (λ old. ⊎_elim (λ older. inl older)
        (λ new. inr (or_first (has_corner (corners_at m f) w) (at_one_of fan w) (corner_listed (corners_at m f) w new.0), new.1))
        (others_from (corner_list (corners_at m f)) found w old))
        (λ new. inr (or_second (has_corner (corners_at m f) w) (at_one_of fan w) new.0, new.1))
        (rim_from fan (with_corners m v found f) w has)

    rim_old : (fan found : List ℕ) (w : ℕ) → Has found w → Has (fold (with_corners m v) found fan) w
    rim_old [] found w has = has
    rim_old (f ∷ fan) found w has = rim_old fan (with_corners m v found f) w (others_old (corner_list (corners_at m f)) found w has)

    rim_new : (fan found : List ℕ) (w : ℕ) → at_one_of fan w ≡ true → (w == v) ≡ false → Has (fold (with_corners m v) found fan) w
    rim_new [] found w has off = absurd (false≢true has)
    rim_new (f ∷ fan) found w has off = ⊎_elim
        (λ here. rim_old fan (with_corners m v found f) w (others_new (corner_list (corners_at m f)) found w (listed_corner (corners_at m f) w here) off))
        (λ behind. rim_new fan (with_corners m v found f) w behind off)
        (or_either (has_corner (corners_at m f) w) (at_one_of fan w) has)

-- ---- they are those of the definition
module _ (m : Mesh) (v : ℕ) (fan : List ℕ) (sound : IsSound m) (live : (f : ℕ) → Has fan f → HasCorners m f (corners_at m f)) where
  corner_is_live : (c : Corners) (w : ℕ) → AreLive m c → has_corner c w ≡ true → IsLiveVertex m w
  corner_is_live c w l h = ⊎_elim
      (λ two. ⊎_elim (λ e. at c.first e l.0) (λ e. at c.second e l.1) (or_either (c.first == w) (c.second == w) two))
      (λ e. at c.third e l.2) (or_either ((c.first == w) || (c.second == w)) (c.third == w) h)
    where
      at : (x : ℕ) → (x == w) ≡ true → IsLiveVertex m x → IsLiveVertex m w
      at x e k = subst (IsLiveVertex m) (eqb-true x w e) k

  is_key : (w : ℕ) → at_one_of v m fan w ≡ true → Has (finite.keys m.points) w
  is_key w h =
      let found = any_found (λ f. has_corner (corners_at m f) w) fan h in
      at_live (Has (finite.keys m.points)) m.points w (each_is_one (finite.keys m.points))
      (corner_is_live (corners_at m found.0) w (sound.is_mesh.live_corners found.0 (corners_at m found.0) (live found.0 found.1)) found.2)

  abbrev in_rim : ℕ → Bool
  in_rim u = not (u == v) && list_any (λ f. has_corner (corners_at m f) u) fan

  to_rim : (w : ℕ) → Has (found_rim m v fan) w → Has (rim m v fan) w
  to_rim w has = ⊎_elim
      (λ none. absurd (false≢true none))
      (λ new. passes in_rim (finite.keys m.points) w (is_key w new.0) (and_both (not (w == v)) _ (not_false (w == v) new.1) new.0))
      (rim_from v m fan [] w has)

  from_rim : (w : ℕ) → Has (rim m v fan) w → Has (found_rim m v fan) w
  from_rim w has =
      let p = (passed in_rim (finite.keys m.points) w has).1 in
      rim_new v m fan [] w (and_second (not (w == v)) _ p) (not-true (w == v) (and_first (not (w == v)) _ p))

  rim_once : Differ (rim m v fan)
  rim_once = differ-filter in_rim (finite.keys m.points) (differ-keys (finite.entries m.points) (entries_sorted m.points))

  way_swap : (a : Triple) (u w : ℕ) → with_way m v (with_way m v a u) w ≡ with_way m v (with_way m v a w) u
  way_swap a u w = same_triple _ _
      (omega (arith, ints))
      (omega (arith, ints)) (omega (arith, ints))

  pub rim_ways : ways m v (found_rim m v fan) ≡ ways m v (rim m v fan)
  rim_ways = same_fold (with_way m v) way_swap (found_rim m v fan) (rim m v fan) origin (rim_differ v m fan [] tt) rim_once to_rim from_rim

  pub rim_length : length (found_rim m v fan) ≡ length (rim m v fan)
  rim_length = same_length (found_rim m v fan) (rim m v fan) (rim_differ v m fan [] tt) rim_once to_rim from_rim
