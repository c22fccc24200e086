-- The near ones of a list of edges, by their places, are all that are near.
use Rattle.std.proofs.Common.{◌≡◌, ⊎_elim, ℕ, zero, suc, ◌+◌, ◌-◌, ◌*◌, ◌<◌, ◌≤◌, Bool, true, false, cond, ◌&&◌, ◌||◌, not, List, [], ◌∷◌, ◌++◌, map, length, drop, nat_lt, Option, Some, None, IsTrue, ℤ, ◌+ℤ◌, unsigned_abs, lit≤, refl, sym, ap, ◌∙◌, subst, arith}
use Rattle.std.specs.Prelude.{slice_get, slice_index_or}
use Rattle.std.specs.List.{filter, flat_map, AllByRecursion}
use Rattle.std.specs.List.Sorted.{IsStrictlySortedBy}
use Rattle.std.specs.Ordering.{nat_cmp}
use Rattle.std.specs.declared.cmp.Ordering.TheVariants.{Less, Equal, Greater}
use Rattle.std.specs.Cmp.{nat_cmp_is}
use Rattle.std.specs.FinMap as finite
use Rattle.std.proofs.lemmas.Int.{ints}
use Rattle.std.proofs.lemmas.Bool.Decides.{nat_tests}
use Rattle.std.proofs.lemmas.Bool.{false≢true, cases_order, ne_eqb}
use Rattle.std.proofs.lemmas.List.{length-map}
use Rattle.std.proofs.lemmas.Map.Keys.{sorted_head, sorted_tail}
use Rattle.std.proofs.lemmas.Option.{slice_get_past}
use Rattle.grid_base.specs.declared.TheConstants.{BOX, HALF_MAX}
use Rattle.grid_base.specs.declared.Point.{Point}
use Rattle.grid_base.specs.Triples.{Triple, IsWithin, minus}
use Rattle.grid_base.specs.Points.{is_within}
use Rattle.cell_grid.specs.Filed.{has}
use Rattle.mesh_base.specs.Mesh.{Mesh}
use Rattle.mesh_base.specs.Placements.{rest_positions, position_or_origin}
use Rattle.mesh_base.proofs.ListedPairs.{all_weaker}
use Rattle.edit_base.specs.declared.Asked.{Asked}
use Rattle.edit_base.specs.Edges.{exact_mid}
use Rattle.pair_scan.specs.Scan.{one_or_none}
use Rattle.pair_paths.proofs.Numbered.{numbers, same_some}
use Rattle.pass_run.specs.declared.midpoint_cells.EdgeTurn.{EdgeTurn}
use Rattle.pass_run.specs.Candidates.{zip_of}
use Rattle.pass_run.specs.MidpointCells.{nowhere, share_an_end, is_apart, is_wanted, AreWithin}
use Rattle.pass_run.specs.Near.{is_near, may_be_due, near_zip, later_zip, later_zips, near_zips, AreMidpoints}

-- ---- a rising list of places, which has each that makes something, makes all
less_of : (k y : ℕ) → nat_cmp k y ≡ Less → k < y
less_of k y less = ⊎_elim
    (λ same. absurd (let is : Equal ≡ nat_cmp k y = nat_cmp_is k y Equal same in cc))
    (λ rest. ⊎_elim (λ lt. lt) (λ lt. absurd (let is : Greater ≡ nat_cmp k y = nat_cmp_is k y Greater lt in cc)) rest)
    (cases_order k y)

not_above : (j : ℕ) (xs : List ℕ) → AllByRecursion (λ y. j < y) xs → has j xs ≡ false
not_above j [] all = refl
not_above j (x ∷ xs) all = ap (λ b. b || has j xs) (ne_eqb j x (λ e. let lt : j < x = all.0 in omega (arith, lt, e))) ∙ not_above j xs all.1

module _ {Y : Type 0} (made : ℕ → List Y) where
  nothing_made : (xs : List ℕ) → AllByRecursion (λ k. made k ≡ []) xs → flat_map made xs ≡ []
  nothing_made [] none = refl
  nothing_made (x ∷ xs) none = ap (λ zs. zs ++ flat_map made xs) none.0 ∙ nothing_made xs none.1

  nothing_numbered : (j n : ℕ) → ((k : ℕ) → j ≤ k → k < j + n → made k ≡ []) → flat_map made (numbers j n) ≡ []
  nothing_numbered j zero none = refl
  nothing_numbered j (suc n) none = ap (λ zs. zs ++ flat_map made (numbers (j + 1) n)) (none j (omega arith) (omega arith)) ∙ nothing_numbered (j + 1) n (λ k le lt. none k (omega (arith, le)) (omega (arith, lt)))

  pub rising_all : (j n : ℕ) (xs : List ℕ) → IsStrictlySortedBy nat_cmp xs → AllByRecursion (λ x. j ≤ x) xs
      → ((k : ℕ) → j ≤ k → k < j + n → has k xs ≡ false → made k ≡ []) → ((k : ℕ) → j + n ≤ k → made k ≡ []) → flat_map made xs ≡ flat_map made (numbers j n)
  rising_all j n [] sorted above none past = sym (nothing_numbered j n (λ k le lt. none k le lt refl))
  rising_all j zero (x ∷ xs) sorted above none past = nothing_made (x ∷ xs) (all_weaker (λ k. j ≤ k) (λ k. made k ≡ []) (x ∷ xs) (λ k le. past k (omega (arith, le))) above)
  rising_all j (suc n) (x ∷ xs) sorted above none past = ⊎_elim
      (λ e. here e (rising_all (j + 1) n xs (sorted_tail nat_cmp x xs sorted) (all_weaker (λ y. x < y) (λ y. j + 1 ≤ y) xs (λ y lt. omega (arith, lt, e)) beyond)
      (λ k le lt off. none k (omega (arith, le)) (omega (arith, lt)) (ap (λ b. b || has k xs) (ne_eqb k x (λ same. omega (arith, le, same, e))) ∙ off))
      past_next))
      (λ rest. ⊎_elim
      (λ lt. later lt (rising_all (j + 1) n (x ∷ xs) sorted (all_weaker (λ y. x ≤ y) (λ y. j + 1 ≤ y) (x ∷ xs) (λ y le. omega (arith, le, lt)) (same_le, all_weaker (λ y. x < y) (λ y. x ≤ y) xs (λ y low. omega (arith, low)) beyond))
      (λ k le low off. none k (omega (arith, le)) (omega (arith, low)) off)
      past_next))
      (λ lt. absurd (let le : j ≤ x = above.0 in omega (arith, le, lt)))
      rest)
      (cases_order j x)
    where
      beyond : AllByRecursion (λ y. x < y) xs
      beyond = all_weaker (λ y. nat_cmp x y ≡ Less) (λ y. x < y) xs (less_of x) (sorted_head nat_cmp x xs sorted)

      past_next : (k : ℕ) → j + 1 + n ≤ k → made k ≡ []
      past_next k le = past k (omega (arith, le))

      here : j ≡ x → flat_map made xs ≡ flat_map made (numbers (j + 1) n) → flat_map made (x ∷ xs) ≡ flat_map made (numbers j (suc n))
      here e rest = ap (λ k. made k ++ flat_map made xs) (sym e) ∙ ap (λ zs. made j ++ zs) rest

      later : j < x → flat_map made (x ∷ xs) ≡ flat_map made (numbers (j + 1) n) → flat_map made (x ∷ xs) ≡ flat_map made (numbers j (suc n))
      later lt rest =
          rest
          ∙ sym (ap (λ zs. zs ++ flat_map made (numbers (j + 1) n)) (none j (omega arith) (omega arith) (not_above j (x ∷ xs) (lt, all_weaker (λ y. x < y) (λ y. j < y) xs (λ y low. omega (arith, low, lt)) beyond))))

      same_le : x ≤ x
      same_le = omega arith

-- ---- the places after one
module _ {X Y : Type 0} (made : Option X → List Y) (all : List X) (i : ℕ) where
  abbrev after_it : ℕ → List Y
  after_it k = cond (nat_lt i k) (made (slice_get all k)) []

  at_place : (j : ℕ) (x : X) (b : Bool) → nat_lt i j ≡ b → slice_get all j ≡ Some x → after_it j ≡ cond b (made (Some x)) []
  at_place j x b test at = ap (λ c. cond c (made (slice_get all j)) []) test ∙ ap (λ o. cond b (made o) []) at

  from_place : (xs : List X) (j d : ℕ) → d ≡ suc i - j → ((k : ℕ) → slice_get all (j + k) ≡ slice_get xs k) → flat_map after_it (numbers j (length xs)) ≡ flat_map (λ x. made (Some x)) (drop d xs)
  from_place [] j zero e h = refl
  from_place [] j (suc d) e h = refl
  from_place (x ∷ xs) j zero e h =
      ap (λ zs. zs ++ flat_map after_it (numbers (j + 1) (length xs))) (at_place j x true (let l : nat_lt i j ≡ true = grind (arith, nat_tests) in l) (ap (slice_get all) (at_start j) ∙ h 0))
      ∙ ap (λ zs. made (Some x) ++ zs) (from_place xs (j + 1) zero (omega arith) (λ k. ap (slice_get all) (one_more j k) ∙ h (suc k)))
    where
      at_start : (j : ℕ) → j ≡ j + 0
      at_start j = omega arith

      one_more : (j k : ℕ) → j + 1 + k ≡ j + suc k
      one_more j k = omega arith
  from_place (x ∷ xs) j (suc d) e h =
      ap (λ zs. zs ++ flat_map after_it (numbers (j + 1) (length xs))) (at_place j x false (let l : nat_lt i j ≡ false = grind (arith, nat_tests) in l) (ap (slice_get all) (at_start j) ∙ h 0))
      ∙ from_place xs (j + 1) d (omega arith) (λ k. ap (slice_get all) (one_more j k) ∙ h (suc k))
    where
      at_start : (j : ℕ) → j ≡ j + 0
      at_start j = omega arith

      one_more : (j k : ℕ) → j + 1 + k ≡ j + suc k
      one_more j k = omega arith

-- ---- midpoints
own_fits : (o : Option Point) → IsWithin BOX (position_or_origin o)
own_fits (Some p) = record { x_fits = p.in_box.x_fits; y_fits = p.in_box.y_fits; z_fits = p.in_box.z_fits }
own_fits None = record { x_fits = lit≤ tt; y_fits = lit≤ tt; z_fits = lit≤ tt }

sum_fits : (a b : ℤ) → unsigned_abs a ≤ BOX → unsigned_abs b ≤ BOX → unsigned_abs (a +ℤ b) ≤ HALF_MAX
sum_fits a b h i = omega (arith, ints)

pub mid_fits : (m : Mesh) (u v : ℕ) → IsWithin HALF_MAX (exact_mid m u v)
mid_fits m u v =
    let p = rest_positions m u in
    let q = rest_positions m v in
    let first = own_fits (finite.get m.points u) in
    let second = own_fits (finite.get m.points v) in
    record { x_fits = sum_fits p.x q.x first.x_fits second.x_fits; y_fits = sum_fits p.y q.y first.y_fits second.y_fits; z_fits = sum_fits p.z q.z first.z_fits second.z_fits }

-- of a list
pub middles_within : (m : Mesh) (edges : List (ℕ × ℕ)) (middles : List Triple) → AreMidpoints m edges middles → AreWithin middles
middles_within m edges middles is = subst AreWithin (sym is) (each edges)
  where
    each : (es : List (ℕ × ℕ)) → AreWithin (map (λ e. exact_mid m e.0 e.1) es)
    each [] k = record { x_fits = lit≤ tt; y_fits = lit≤ tt; z_fits = lit≤ tt }
    each (e ∷ es) zero = mid_fits m e.0 e.1
    each (e ∷ es) (suc k) = each es k

-- that at a place
pub middle_there : (m : Mesh) (edges : List (ℕ × ℕ)) (middles : List Triple) → AreMidpoints m edges middles → (k : ℕ) (f : ℕ × ℕ) → slice_get edges k ≡ Some f → slice_index_or middles k nowhere ≡ exact_mid m f.0 f.1
middle_there m edges middles is k f found = ap (λ l. slice_index_or l k nowhere) is ∙ there edges k f found
  where
    there : (es : List (ℕ × ℕ)) (k : ℕ) (f : ℕ × ℕ) → slice_get es k ≡ Some f → slice_index_or (map (λ e. exact_mid m e.0 e.1) es) k nowhere ≡ exact_mid m f.0 f.1
    there [] k f e = absurd cc
    there (x ∷ es) zero f e = ap (λ g. exact_mid m g.0 g.1) (same_some x f e)
    there (x ∷ es) (suc k) f e = there es k f e

-- ---- the near ones
-- what is found at the turn of an edge are the later edges that are near it
module _ (m : Mesh) (t : EdgeTurn) (middles : AreMidpoints m t.edges.now t.middles.now) (own : t.middle ≡ exact_mid m t.edge.0 t.edge.1) where
  abbrev edges : List (ℕ × ℕ)
  edges = t.edges.now

  abbrev zips : ℕ → List Asked
  zips k = one_or_none (later_zip m t.within edges t.place t.edge k)

  abbrev zip_if : Option (ℕ × ℕ) → List Asked
  zip_if o = one_or_none (near_zip m t.within t.edge o)

  zips_after : (k : ℕ) → zips k ≡ after_it zip_if edges t.place k
  zips_after k = by_test (nat_lt t.place k)
    where
      by_test : (b : Bool) → one_or_none (cond b (near_zip m t.within t.edge (slice_get edges k)) None) ≡ cond b (zip_if (slice_get edges k)) []
      by_test true = refl
      by_test false = refl

  all_after : (ks : List ℕ) → flat_map zips ks ≡ flat_map (after_it zip_if edges t.place) ks
  all_after [] = refl
  all_after (k ∷ ks) = ap (λ zs. zs ++ flat_map zips ks) (zips_after k) ∙ ap (λ zs. after_it zip_if edges t.place k ++ zs) (all_after ks)

  kept : (fs : List (ℕ × ℕ)) → flat_map (λ f. zip_if (Some f)) fs ≡ map (zip_of t.edge) (filter (may_be_due m t.within t.edge) fs)
  kept [] = refl
  kept (f ∷ fs) = ap (λ zs. zip_if (Some f) ++ zs) (kept fs) ∙ by_test (may_be_due m t.within t.edge f)
    where
      by_test : (b : Bool) → one_or_none (cond b (Some (zip_of t.edge f)) None) ++ map (zip_of t.edge) (filter (may_be_due m t.within t.edge) fs) ≡ map (zip_of t.edge) (cond b (f ∷ filter (may_be_due m t.within t.edge) fs) (filter (may_be_due m t.within t.edge) fs))
      by_test true = refl
      by_test false = refl

  -- what is not wanted makes nothing
  by_place : (k : ℕ) (o : Option (ℕ × ℕ)) → slice_get edges k ≡ o → (nat_lt t.place k && is_within (2 * t.within) (minus t.middle (slice_index_or t.middles.now k nowhere)) && is_apart t.edge o) ≡ false → cond (nat_lt t.place k) (zip_if o) [] ≡ []
  by_place k None there off = by_test (nat_lt t.place k)
    where
      by_test : (b : Bool) → cond b (zip_if None) [] ≡ []
      by_test true = refl
      by_test false = refl
  by_place k (Some f) there off = by_test (nat_lt t.place k) (is_near m t.within t.edge f) (share_an_end t.edge f)
      (sym (ap (λ q. nat_lt t.place k && is_within (2 * t.within) q && not (share_an_end t.edge f)) (λ i. minus (own i) (middle_there m edges t.middles.now middles k f there i))) ∙ off)
    where
      by_test : (b c d : Bool) → (b && c && not d) ≡ false → cond b (one_or_none (cond (c && not d) (Some (zip_of t.edge f)) None)) [] ≡ []
      by_test true true true e = refl
      by_test true true false e = absurd cc
      by_test true false d e = refl
      by_test false c d e = refl

  none_unless : (k : ℕ) → is_wanted t k ≡ false → zips k ≡ []
  none_unless k off = zips_after k ∙ by_place k (slice_get edges k) refl off

  past_end : (k : ℕ) → length edges ≤ k → zips k ≡ []
  past_end k le = zips_after k ∙ ap (λ o. cond (nat_lt t.place k) (zip_if o) []) (slice_get_past edges k le) ∙ by_test (nat_lt t.place k)
    where
      by_test : (b : Bool) → cond b (zip_if None) [] ≡ []
      by_test true = refl
      by_test false = refl

  from_zero : (k : ℕ) → 0 + k ≡ k
  from_zero k = omega arith

  all_from_zero : (xs : List ℕ) → AllByRecursion (λ x. 0 ≤ x) xs
  all_from_zero [] = tt
  all_from_zero (x ∷ xs) = ((omega arith), all_from_zero xs)

  pub near_places : (places : List ℕ) → IsStrictlySortedBy nat_cmp places → ((k : ℕ) → k < length t.middles.now → IsTrue (is_wanted t k) → IsTrue (has k places))
      → later_zips m t.within edges t.place t.edge places ≡ near_zips m t.within t.edge (drop (t.place + 1) edges)
  near_places places sorted found =
      rising_all zips 0 (length edges) places sorted (all_from_zero places)
      (λ k le low off. none_unless k (true_or_false (is_wanted t k) (λ wanted. false≢true (sym off ∙ found k (omega (arith, low, as_many)) wanted))))
      (λ k le. past_end k (omega (arith, le)))
      ∙ all_after (numbers 0 (length edges))
      ∙ from_place zip_if edges t.place edges 0 (t.place + 1) (next t.place) (λ k. ap (slice_get edges) (from_zero k))
      ∙ kept (drop (t.place + 1) edges)
    where
      as_many : length t.middles.now ≡ length edges
      as_many = ap length middles ∙ length-map edges (λ e. exact_mid m e.0 e.1)

      next : (i : ℕ) → i + 1 ≡ suc i - 0
      next i = omega arith

      true_or_false : (b : Bool) → (IsTrue b → ⊥) → b ≡ false
      true_or_false true h = absurd (h refl)
      true_or_false false h = refl

-- ---- points that stay
pub midpoints_stay : (m n : Mesh) (edges : List (ℕ × ℕ)) (middles : List Triple) → n.points ≡ m.points → AreMidpoints m edges middles → AreMidpoints n edges middles
midpoints_stay m n edges middles same is = subst (λ ps. AreMidpoints (record m { points = ps }) edges middles) (sym same) is
