-- The mesh that a written text gives is closed and clear where the mesh is that was written.
use Rattle.std.proofs.Common.{◌≡◌, ◌≢◌, ℕ, suc, ◌+◌, ◌<◌, ◌≤◌, ◌⊎◌, ⊎_elim, Bool, true, false, cond, ◌==◌, ◌&&◌, ◌||◌, T, List, [], ◌∷◌, length, map, Some, IsSome, is_some, inl, inr, refl, sym, ap, subst, ◌∙◌, arith}
use Rattle.std.specs.Prelude.{nat_le, slice_get}
use Rattle.std.specs.List.{filter, enumerate_from, AllByRecursion}
use Rattle.std.specs.Ordering.{nat_cmp}
use Rattle.std.specs.Cmp.{unsigned_tied, nat_cmp_total}
use Rattle.std.specs.FinMap as finite
use Rattle.std.specs.FinMap.{get-entries, get-from_entries, entries_sorted}
use Rattle.std.specs.FinMap.Entries.{find, is_sorted, below_all}
use Rattle.std.proofs.lemmas.Bool.{cases_Bool, cases_lt, eqb-true, eq-eqb, ne_eqb, le-leb, leb-true, leb-false, ltb-true, lt-leb, false≢true}
use Rattle.std.proofs.lemmas.List.{length-map}
use Rattle.std.proofs.lemmas.List.Sums.{length-filter}
use Rattle.grid_base.specs.declared.Point.{Point}
use Rattle.grid_base.specs.declared.Positions.{Positions}
use Rattle.grid_base.specs.Meeting.{MeetAt}
use Rattle.grid_base.specs.Points.{position_of, point_at}
use Rattle.grid_base.proofs.PointLaws.{point_at-position_of}
use Rattle.mesh_base.specs.declared.Corners.{Corners}
use Rattle.mesh_base.specs.Mesh.{Mesh, IsSound, IsLiveVertex, HasCorners, AreLive}
use Rattle.mesh_base.specs.Changes.{corners_of}
use Rattle.mesh_base.specs.declared.limits.Scale.{Scale}
use Rattle.mesh_base.specs.Given.{mesh_under}
use Rattle.mesh_base.specs.Sides.{follows, has_corner, runs, IsClosed, IsEdge}
use Rattle.mesh_base.specs.Pairs.{Pair, IsPair}
use Rattle.mesh_base.specs.Placements.{rest_positions, position_or_origin, positions, IsClearMesh}
use Rattle.mesh_base.proofs.Listed.{each_found, at_key}
use Rattle.mesh_base.proofs.WalkSteps.{both_of, less_true}
use Rattle.mesh_base.proofs.Ordered.{entries-of_sorted}
use Rattle.mesh_shape.proofs.Lists.{numbered, sorted_numbers}
use Rattle.mesh_shape.proofs.Faults.{runs_given}
use Rattle.obj_text.specs.Obj.{Lists}
use Rattle.obj_text.specs.Written.{rank, ranks, ranked_lists}
use Rattle.obj_text.specs.Laws.{renumbered, ListsGiveRenumbered, StaysClosed, StaysClear}
use Rattle.obj_text.proofs.Again.{written_is_read_lem}

-- ---- ranks in a list of entries

abbrev pub keys_up_to : {X : Type 0} → List (ℕ × X) → ℕ → ℕ
keys_up_to es v = length (filter (λ u. nat_le u v) (map (λ e. e.0) es))

module _ {X : Type 0} where
  found_first : (v : ℕ) (e : ℕ × X) (es : List (ℕ × X)) → v ≡ e.0 → find nat_cmp v (e ∷ es) ≡ Some e.1
  found_first v e es same = ap (λ b. cond b (Some e.1) (find nat_cmp v es)) (unsigned_tied v e.0 ∙ eq-eqb v e.0 same)

  found_behind : (v : ℕ) (e : ℕ × X) (es : List (ℕ × X)) → v ≢ e.0 → find nat_cmp v (e ∷ es) ≡ find nat_cmp v es
  found_behind v e es apart = ap (λ b. cond b (Some e.1) (find nat_cmp v es)) (unsigned_tied v e.0 ∙ ne_eqb v e.0 apart)

  pub live_behind : (v : ℕ) (e : ℕ × X) (es : List (ℕ × X)) → v ≢ e.0 → IsSome (find nat_cmp v (e ∷ es)) → IsSome (find nat_cmp v es)
  live_behind v e es apart live = ap is_some (sym (found_behind v e es apart)) ∙ live

  -- as ids rise, so do ranks
  pub rises : (es : List (ℕ × X)) (u v : ℕ) → u ≤ v → keys_up_to es u ≤ keys_up_to es v
  rises [] u v le = omega arith
  rises (e ∷ es) u v le =
      let rest = rises es u v le in
      elim (cases_Bool (nat_le e.0 u)) [
        | inl low ↦
            let up : nat_le e.0 v ≡ true = le-leb e.0 v (let lower = leb-true e.0 u low in omega arith) in
            rw (low, up) (omega arith)
        | inr high ↦ elim (cases_Bool (nat_le e.0 v)) [
          | inl up ↦ rw (high, up) (omega arith)
          | inr beyond ↦ rw (high, beyond) rest
        ]
      ]

  -- a live id has a greater rank than all below it
  pub rises_at : (es : List (ℕ × X)) (u v : ℕ) → u < v → IsSome (find nat_cmp v es) → keys_up_to es u < keys_up_to es v
  rises_at [] u v lt live = absurd (false≢true live)
  rises_at (e ∷ es) u v lt live = elim (cases_Bool (nat_le e.0 u)) [
    | inl low ↦
        let lower = leb-true e.0 u low in
        let up : nat_le e.0 v ≡ true = le-leb e.0 v (omega arith) in
        let apart : v ≢ e.0 = λ same. omega arith in
        let rest = rises_at es u v lt (live_behind v e es apart live) in
        rw (low, up) (omega arith)
    | inr high ↦ elim (cases_Bool (nat_le e.0 v)) [
      | inl up ↦ let rest = rises es u v (omega arith) in rw (high, up) (omega arith)
      | inr beyond ↦
          let more = leb-false e.0 v beyond in
          let apart : v ≢ e.0 = λ same. omega arith in
          rw (high, beyond) (rises_at es u v lt (live_behind v e es apart live))
    ]
  ]

  above_all : (k v : ℕ) (es : List (ℕ × X)) → T (below_all nat_cmp k es) → IsSome (find nat_cmp v es) → k < v
  above_all k v [] h live = absurd (false≢true live)
  above_all k v (e ∷ es) h live =
      let parts = both_of _ _ h in
      let less : k < e.0 = ltb-true _ _ (less_true k e.0 parts.0) in
      elim (cases_Bool (v == e.0)) [
        | inl same ↦ let is : v ≡ e.0 = eqb-true v e.0 same in omega arith
        | inr apart ↦ above_all k v es parts.1 (live_behind v e es (λ is. false≢true (sym apart ∙ eq-eqb v e.0 is)) live)
      ]

  pub none_up_to : (v : ℕ) (es : List (ℕ × X)) → T (below_all nat_cmp v es) → keys_up_to es v ≡ 0
  none_up_to v [] h = refl
  none_up_to v (e ∷ es) h =
      let parts = both_of _ _ h in
      let less : v < e.0 = ltb-true _ _ (less_true v e.0 parts.0) in
      let beyond : nat_le e.0 v ≡ false = lt-leb _ _ less in
      rw beyond (none_up_to v es parts.1)

  -- at its rank stands what a live id has
  at_rank : (es : List (ℕ × X)) (v : ℕ) → T (is_sorted nat_cmp es) → IsSome (find nat_cmp v es) → (i : ℕ) × (keys_up_to es v ≡ i + 1) × (slice_get (map (λ e. e.1) es) i ≡ find nat_cmp v es)
  at_rank [] v s live = absurd (false≢true live)
  at_rank (e ∷ es) v s live =
      let parts = both_of (below_all nat_cmp e.0 es) (is_sorted nat_cmp es) s in
      elim (cases_Bool (v == e.0)) [
        | inl same ↦
            let is : v ≡ e.0 = eqb-true v e.0 same in
            let up : nat_le e.0 v ≡ true = le-leb _ _ (omega arith) in
            let none : keys_up_to es v ≡ 0 = subst (λ k. keys_up_to es k ≡ 0) (sym is) (none_up_to e.0 es parts.0) in
            (0, rw up (omega arith), sym (found_first v e es is))
        | inr other ↦
            let apart : v ≢ e.0 = λ is. false≢true (sym other ∙ eq-eqb v e.0 is) in
            let behind = live_behind v e es apart live in
            let more : e.0 < v = above_all e.0 v es parts.0 behind in
            let up : nat_le e.0 v ≡ true = le-leb _ _ (omega arith) in
            let rest = at_rank es v parts.1 behind in
            (suc rest.0, rw up (omega (arith, rest.1)), rest.2 ∙ sym (found_behind v e es apart))
      ]

-- ---- the renumbered mesh

module _ (scale : Scale) (m : Mesh) (sound : IsSound m) where
  abbrev again : Mesh
  again = renumbered scale m

  abbrev ranked : Corners → Corners
  ranked c = corners_of (ranks m c)

  live_found : (v : ℕ) → IsLiveVertex m v → IsSome (find nat_cmp v (finite.entries m.points))
  live_found v live = ap is_some (sym (get-entries m.points v)) ∙ live

  -- a vertex stands where it stood
  point_again : (v : ℕ) → IsLiveVertex m v → rest_positions again (rank m v) ≡ rest_positions m v
  point_again v live =
      let es = finite.entries m.points in
      let found = at_rank es v (entries_sorted m.points) (live_found v live) in
      ap position_or_origin (get-from_entries nat_cmp_total (enumerate_from 1 (map (λ e. e.1) es)) (rank m v)
      ∙ numbered 1 found.0 (rank m v) (map (λ e. e.1) es) (omega (arith, found.1))
      ∙ found.2 ∙ sym (get-entries m.points v))

  same_test : (x u : ℕ) → IsLiveVertex m x → IsLiveVertex m u → (rank m x == rank m u) ≡ (x == u)
  same_test x u live-x live-u = elim (cases_lt x u) [
    | inl lt ↦ let less = rises_at (finite.entries m.points) x u lt (live_found u live-u) in ne_eqb _ _ (omega arith) ∙ sym (ne_eqb x u (omega arith))
    | inr ge ↦ elim (cases_lt u x) [
      | inl gt ↦ let more = rises_at (finite.entries m.points) u x gt (live_found x live-x) in ne_eqb _ _ (omega arith) ∙ sym (ne_eqb x u (omega arith))
      | inr le ↦ let same : x ≡ u = omega arith in eq-eqb _ _ (ap (rank m) same) ∙ sym (eq-eqb x u same)
    ]
  ]

  follows_again : (c : Corners) (u v : ℕ) → AreLive m c → IsLiveVertex m u → IsLiveVertex m v → follows (ranked c) (rank m u) (rank m v) ≡ follows c u v
  follows_again c u v live live-u live-v =
      rw (same_test c.first u live.0 live-u, same_test c.second v live.1 live-v, same_test c.second u live.1 live-u, same_test c.third v live.2 live-v, same_test c.third u live.2 live-u, same_test c.first v live.0 live-v) refl

  abbrev Found : ℕ × Corners → Type 0
  Found e = find nat_cmp e.0 (finite.entries m.faces) ≡ Some e.1

  faces_found : AllByRecursion Found (finite.entries m.faces)
  faces_found = each_found (finite.entries m.faces) (entries_sorted m.faces)

  corners_there : (e : ℕ × Corners) → Found e → HasCorners m e.0 e.1
  corners_there e h = get-entries m.faces e.0 ∙ h

  corners_live : (e : ℕ × Corners) → Found e → AreLive m e.1
  corners_live e h = sound.is_mesh.live_corners e.0 e.1 (corners_there e h)

  counts_alike : (u v : ℕ) → IsLiveVertex m u → IsLiveVertex m v → (es : List (ℕ × Corners)) → AllByRecursion Found es → length (filter (λ f. follows (corners_of f) (rank m u) (rank m v)) (map (λ e. ranks m e.1) es)) ≡ length (filter (λ e. follows e.1 u v) es)
  counts_alike u v live-u live-v [] h = refl
  counts_alike u v live-u live-v (e ∷ es) h =
      let same = follows_again e.1 u v (corners_live e h.0) live-u live-v in
      let rest = counts_alike u v live-u live-v es h.1 in
      elim (cases_Bool (follows e.1 u v)) [
        | inl yes' ↦ rw (same, yes') (ap suc rest)
        | inr no' ↦ rw (same, no') rest
      ]

  -- faces run as often between ranks as between the vertices
  runs_again : (u v : ℕ) → IsLiveVertex m u → IsLiveVertex m v → runs again (rank m u) (rank m v) ≡ runs m u v
  runs_again u v live-u live-v =
      let fs = finite.entries m.faces in
      let given = map (λ e. ranks m e.1) fs in
      runs_given scale (map (λ e. e.1) (finite.entries m.points)) given (rank m u) (rank m v)
      ∙ sym (length-filter (λ f. follows (corners_of f) (rank m u) (rank m v)) given)
      ∙ counts_alike u v live-u live-v fs faces_found
      ∙ sym (length-map (filter (λ e. follows e.1 u v) fs) (λ e. e.0))

  -- numbers between which a face runs are the ranks of two live vertices
  pub record AreRanks (a b : ℕ) : Type 0 where
    pub u : ℕ
    pub v : ℕ
    pub a-is : a ≡ rank m u
    pub b-is : b ≡ rank m v
    pub u-live : IsLiveVertex m u
    pub v-live : IsLiveVertex m v

  ranked_sides : (c : Corners) (a b : ℕ) → AreLive m c → follows (ranked c) a b ≡ true → AreRanks a b
  ranked_sides c a b live h = ⊎_elim
      (λ two. ⊎_elim (λ one. side c.first c.second live.0 live.1 one) (λ one. side c.second c.third live.1 live.2 one) (either _ _ two))
      (λ one. side c.third c.first live.2 live.0 one)
      (either _ _ h)
    where
      either : (x y : Bool) → (x || y) ≡ true → (x ≡ true) ⊎ (y ≡ true)
      either true y e = inl refl
      either false y e = inr e

      both : (x y : Bool) → (x && y) ≡ true → (x ≡ true) × (y ≡ true)
      both true y e = (refl, e)
      both false y e = absurd (false≢true e)

      side : (x y : ℕ) → IsLiveVertex m x → IsLiveVertex m y → ((rank m x == a) && (rank m y == b)) ≡ true → AreRanks a b
      side x y live-x live-y e = let two = both (rank m x == a) (rank m y == b) e in record { u = x; v = y; a-is = sym (eqb-true _ _ two.0); b-is = sym (eqb-true _ _ two.1); u-live = live-x; v-live = live-y }

  some_side : (a b : ℕ) (es : List (ℕ × Corners)) → AllByRecursion Found es → 0 < length (filter (λ f. follows (corners_of f) a b) (map (λ e. ranks m e.1) es)) → AreRanks a b
  some_side a b [] h some = absurd (omega arith)
  some_side a b (e ∷ es) h some = elim (cases_Bool (follows (ranked e.1) a b)) [
    | inl here ↦ ranked_sides e.1 a b (corners_live e h.0) here
    | inr other ↦ some_side a b es h.1 (rw other at some)
  ]

  run_ranks : (a b : ℕ) → 0 < runs again a b → AreRanks a b
  run_ranks a b some =
      let fs = finite.entries m.faces in
      let given = map (λ e. ranks m e.1) fs in
      let same = runs_given scale (map (λ e. e.1) (finite.entries m.points)) given a b ∙ sym (length-filter (λ f. follows (corners_of f) a b) given) in
      some_side a b fs faces_found (omega (arith, same))

  exchanged : (a b : ℕ) → AreRanks a b → AreRanks b a
  exchanged a b h = record { u = h.v; v = h.u; a-is = h.b-is; b-is = h.a-is; u-live = h.v-live; v-live = h.u-live }

  closed_at : IsClosed m → (a b : ℕ) → AreRanks a b → runs again a b ≡ runs again b a
  closed_at closed a b h =
      let here : runs again a b ≡ runs m h.u h.v = ap (λ x. runs again x b) h.a-is ∙ ap (λ y. runs again (rank m h.u) y) h.b-is ∙ runs_again h.u h.v h.u-live h.v-live in
      let there : runs again b a ≡ runs m h.v h.u = ap (λ x. runs again x a) h.b-is ∙ ap (λ y. runs again (rank m h.v) y) h.a-is ∙ runs_again h.v h.u h.v-live h.u-live in
      here ∙ closed h.u h.v ∙ sym there

  pub closed_again : IsClosed m → IsClosed again
  closed_again closed a b = elim (cases_lt 0 (runs again a b)) [
    | inl some ↦ closed_at closed a b (run_ranks a b some)
    | inr none ↦ elim (cases_lt 0 (runs again b a)) [
      | inl some ↦ closed_at closed a b (exchanged b a (run_ranks b a some))
      | inr none' ↦ omega arith
    ]
  ]

  -- ---- clearness

  -- a face of the renumbered mesh is a face by the ranks of its corners
  pub record IsRanked (c' : Corners) : Type 0 where
    pub face : ℕ
    pub corners : Corners
    pub there : HasCorners m face corners
    pub corners-are : c' ≡ ranked corners

  each_ranked : (n : ℕ) (es : List (ℕ × Corners)) → AllByRecursion Found es → AllByRecursion (λ e. IsRanked e.1) (enumerate_from n (map corners_of (map (λ e. ranks m e.1) es)))
  each_ranked n [] h = tt
  each_ranked n (e ∷ es) h = (record { face = e.0; corners = e.1; there = corners_there e h.0; corners-are = refl }, each_ranked (n + 1) es h.1)

  face_ranked : (f : ℕ) (c' : Corners) → HasCorners again f c' → IsRanked c'
  face_ranked f c' has =
      let given = map corners_of (map (λ e. ranks m e.1) (finite.entries m.faces)) in
      at_key (λ e. IsRanked e.1) again.faces f c' (subst (AllByRecursion (λ e. IsRanked e.1)) (sym (entries-of_sorted (enumerate_from 1 given) (sorted_numbers 1 given))) (each_ranked 1 (finite.entries m.faces) faces_found)) has

  has_again : (c : Corners) (u : ℕ) → has_corner c u ≡ true → has_corner (ranked c) (rank m u) ≡ true
  has_again c u h = elim (cases_Bool (c.first == u)) [
    | inl one ↦ rw (eq-eqb (rank m c.first) (rank m u) (ap (rank m) (eqb-true c.first u one))) refl
    | inr a ↦ elim (cases_Bool (c.second == u)) [
      | inl two ↦ let e = eq-eqb (rank m c.second) (rank m u) (ap (rank m) (eqb-true c.second u two)) in second (rank m c.first == rank m u) (rank m c.second == rank m u) (rank m c.third == rank m u) e
      | inr b ↦ let three : (c.third == u) ≡ true = rw (a, b) at h in let e = eq-eqb (rank m c.third) (rank m u) (ap (rank m) (eqb-true c.third u three)) in third (rank m c.first == rank m u) (rank m c.second == rank m u) (rank m c.third == rank m u) e
    ]
  ]
    where
      second : (x y z : Bool) → y ≡ true → (x || y || z) ≡ true
      second true y z e = refl
      second false true z e = refl
      second false false z e = absurd (false≢true e)

      third : (x y z : Bool) → z ≡ true → (x || y || z) ≡ true
      third true y z e = refl
      third false true z e = refl
      third false false z e = e

  no_corner : (c : Corners) (u : ℕ) → has_corner (ranked c) (rank m u) ≡ false → has_corner c u ≡ false
  no_corner c u h = elim (cases_Bool (has_corner c u)) [
    | inl has ↦ absurd (false≢true (sym h ∙ has_again c u has))
    | inr none ↦ none
  ]

  edge_ranks : (a b : ℕ) → IsEdge again a b → AreRanks a b
  edge_ranks a b edge = elim (cases_lt 0 (runs again a b)) [
    | inl some ↦ run_ranks a b some
    | inr none ↦ exchanged b a (run_ranks b a (omega arith))
  ]

  -- ids stand in the order of their ranks
  in_order : (u v : ℕ) → rank m u < rank m v → u < v
  in_order u v lt = elim (cases_lt u v) [
    | inl less ↦ less
    | inr ge ↦ let high = rises (finite.entries m.points) v u ge in absurd (omega arith)
  ]

  pub clear_again : IsClearMesh m → IsClearMesh again
  clear_again clear p is_pair meet =
      let ends = edge_ranks p.name.a p.name.b is_pair.edge in
      let face = face_ranked p.name.face p.corners is_pair.face in
      let c = face.corners in
      let live = sound.is_mesh.live_corners face.face c face.there in
      let old : Pair = record { name = record { a = ends.u; b = ends.v; face = face.face }; corners = c } in
      let run : runs again p.name.a p.name.b ≡ runs m ends.u ends.v = ap (λ x. runs again x p.name.b) ends.a-is ∙ ap (λ y. runs again (rank m ends.u) y) ends.b-is ∙ runs_again ends.u ends.v ends.u-live ends.v-live in
      let back : runs again p.name.b p.name.a ≡ runs m ends.v ends.u = ap (λ x. runs again x p.name.a) ends.b-is ∙ ap (λ y. runs again (rank m ends.v) y) ends.a-is ∙ runs_again ends.v ends.u ends.v-live ends.u-live in
      let was : IsPair m old = record {
        ordered = in_order ends.u ends.v (omega (arith, is_pair.ordered, ends.a-is, ends.b-is));
        edge = omega (arith, is_pair.edge, run, back);
        face = face.there;
        not_first = no_corner c ends.u (ap (λ k. has_corner k (rank m ends.u)) (sym face.corners-are) ∙ ap (has_corner p.corners) (sym ends.a-is) ∙ is_pair.not_first);
        not_second = no_corner c ends.v (ap (λ k. has_corner k (rank m ends.v)) (sym face.corners-are) ∙ ap (has_corner p.corners) (sym ends.b-is) ∙ is_pair.not_second);
      } in
      let at-a : rest_positions again p.name.a ≡ rest_positions m ends.u = ap (rest_positions again) ends.a-is ∙ point_again ends.u ends.u-live in
      let at-b : rest_positions again p.name.b ≡ rest_positions m ends.v = ap (rest_positions again) ends.b-is ∙ point_again ends.v ends.v-live in
      let at-c : rest_positions again p.corners.first ≡ rest_positions m c.first = ap (λ k. rest_positions again k.first) face.corners-are ∙ point_again c.first live.0 in
      let at-d : rest_positions again p.corners.second ≡ rest_positions m c.second = ap (λ k. rest_positions again k.second) face.corners-are ∙ point_again c.second live.1 in
      let at-e : rest_positions again p.corners.third ≡ rest_positions m c.third = ap (λ k. rest_positions again k.third) face.corners-are ∙ point_again c.third live.2 in
      let same : ◌≡◌ {A = Positions} (positions (rest_positions again) p) (positions (rest_positions m) old) = λ i. record { a = at-a i; b = at-b i; c = at-c i; d = at-d i; e = at-e i } in
      clear old was (subst MeetAt same meet)

-- ---- what reading gives

points_back : (ps : List Point) → map point_at (map position_of ps) ≡ ps
points_back [] = refl
points_back (p ∷ ps) = ap (λ (q : Point). q ∷ map point_at (map position_of ps)) (point_at-position_of p) ∙ ap (λ (qs : List Point). p ∷ qs) (points_back ps)

entries_back : (es : List (ℕ × Point)) → map point_at (map (λ e. position_of e.1) es) ≡ map (λ e. e.1) es
entries_back [] = refl
entries_back (e ∷ es) = ap (λ (q : Point). q ∷ map point_at (map (λ x. position_of x.1) es)) (point_at-position_of e.1) ∙ ap (λ (qs : List Point). e.1 ∷ qs) (entries_back es)

pub lists_give_renumbered_lem : ListsGiveRenumbered
lists_give_renumbered_lem scale m decimals points faces sound places read =
    let given : Lists = record { points = map position_of points; faces = faces } in
    let both : given ≡ ranked_lists m = (let again = written_is_read_lem m decimals sound places in cc) in
    let same-points : points ≡ map (λ e. e.1) (finite.entries m.points) = sym (points_back points) ∙ ap (λ (l : Lists). map point_at l.points) both ∙ entries_back (finite.entries m.points) in
    let same-faces : faces ≡ map (λ e. ranks m e.1) (finite.entries m.faces) = ap (λ (l : Lists). l.faces) both in
    ap (λ (ps : List Point). mesh_under scale ps faces) same-points ∙ ap (λ (fs : List (List ℕ)). mesh_under scale (map (λ e. e.1) (finite.entries m.points)) fs) same-faces

pub stays_closed_lem : StaysClosed
stays_closed_lem scale m sound closed = closed_again scale m sound closed

pub stays_clear_lem : StaysClear
stays_clear_lem scale m sound clear = clear_again scale m sound clear
