-- The acts of a collapse, as lists of the faces at the joined vertex.
use Rattle.std.proofs.Common.{◌≡◌, ◌≢◌, ⊎_elim, ℕ, zero, suc, ◌+◌, ◌<◌, ◌≤◌, Bool, true, false, cond, if◌then◌else◌, ◌&&◌, ◌||◌, ◌==◌, not, T, List, [], ◌∷◌, ◌++◌, map, length, slice_get, Option, Some, None, is_some, refl, sym, ap, subst, ◌∙◌, append_assoc, arith}
use Rattle.std.proofs.lemmas.Bool.{false≢true}
use Rattle.std.proofs.lemmas.Bool.Decides.{nat_tests}
use Rattle.std.proofs.lemmas.List.Elements.{filter-append}
use Rattle.std.specs.Option.{option_map, option_map_or, unwrap_or}
use Rattle.std.specs.List.{filter, AllByRecursion}
use Rattle.std.specs.Ordering.{nat_cmp, eq_by_cmp}
use Rattle.std.specs.Cmp.{nat_cmp_total, unsigned_tied}
use Rattle.std.specs.FinMap as finite
use Rattle.std.specs.FinMap.{entries-insert, entries_sorted, len-entries}
use Rattle.std.specs.FinMap.Entries.{is_sorted, below_all}
use Rattle.mesh_base.specs.declared.ids.Corners.{Corners}
use Rattle.mesh_base.specs.Mesh.{Mesh, IsSound, HasCorners, equal_up_to_rotation}
use Rattle.mesh_base.specs.Sides.{has_corner, faces_where}
use Rattle.mesh_base.specs.Changes.{with_face, without_face}
use Rattle.mesh_base.proofs.Counts.{entries-remove}
use Rattle.mesh_base.proofs.Finite.{got_after_remove}
use Rattle.mesh_base.proofs.Listed.{or_either}
use Rattle.mesh_base.proofs.ListedPairs.{all_weaker, all_mapped, all_filtered, all_always}
use Rattle.mesh_base.proofs.Tests.{or_first, or_second, test_either_way}
use Rattle.mesh_base.proofs.WalkSteps.{both_of}
use Rattle.edit_base.specs.Edges.{renamed, corners_from, without_faces, with_renamed, with_all_renamed}
use Rattle.edit_collapse.specs.Collapse.{without_shared, with_joined, are_opposite, least_opposite, with_opposites, with_one_cancelled, cancelled_times}
use Rattle.edit_acts.proofs.Flow.{AreBelow, below-with, below-without, still_there, below_next}
use Rattle.edit_acts.proofs.Changed.{next_face-without_faces}
use Rattle.edit_collapse.proofs.Joined.{each_there, holds_both, single_left, kept_with, all_two, all_above}
use Rattle.edit_collapse.proofs.JoinedFaces.{rotated}
use Rattle.edit_acts.proofs.FaceCorners.{same_corners}
use Rattle.edit_collapse.specs.Tried.{opposite_in, two_in, without_two, one_cancelled_in, cancelled_in, only_at, numbered, joined_at, left_at}
use Rattle.edit_collapse.proofs.Lists.{filter_same, filter_twice, sorted_filter, fewer_filtered, put_last, find_filtered, filter_map_same, cancelled_enough}

-- ---- corners
or_turned : (p q r : Bool) → (p || q || r) ≡ (q || r || p)
or_turned true true r = refl
or_turned true false true = refl
or_turned true false false = refl
or_turned false true r = refl
or_turned false false true = refl
or_turned false false false = refl

or_reversed : (p q r : Bool) → (p || q || r) ≡ (r || q || p)
or_reversed true true true = refl
or_reversed true true false = refl
or_reversed true false true = refl
or_reversed true false false = refl
or_reversed false true true = refl
or_reversed false true false = refl
or_reversed false false true = refl
or_reversed false false false = refl

-- two that are equal up to rotation have the same corners
pub same_held : (c d : Corners) (v : ℕ) → equal_up_to_rotation c d ≡ true → has_corner c v ≡ has_corner d v
same_held c d v h = ⊎_elim
    (λ e i. (e.0 i == v) || (e.1 i == v) || (e.2 i == v))
    (λ es. ⊎_elim
    (λ e. or_turned (c.first == v) (c.second == v) (c.third == v) ∙ (λ i. (e.0 i == v) || (e.1 i == v) || (e.2 i == v)))
    (λ e. sym (or_turned (c.third == v) (c.first == v) (c.second == v)) ∙ (λ i. (e.0 i == v) || (e.1 i == v) || (e.2 i == v)))
    es)
    (rotated c.first c.second c.third d.first d.second d.third h)

pub opposite_held : (c d : Corners) (v : ℕ) → are_opposite c d ≡ true → has_corner c v ≡ has_corner d v
opposite_held c d v h = or_reversed (c.first == v) (c.second == v) (c.third == v) ∙ same_held (corners_from c.third c.second c.first) d v h

-- where b was, a is
moved_here : (x a b : ℕ) → (x == b) ≡ true → ((if x == b then a else x) == a) ≡ true
moved_here x a b e = ap (λ t. (if t then a else x) == a) e ∙ same a
  where
    same : (k : ℕ) → (k == k) ≡ true
    same k = grind (arith, nat_tests)

pub renamed_has : (a b : ℕ) (c : Corners) → has_corner c b ≡ true → has_corner (renamed b a c) a ≡ true
renamed_has a b c h =
    let d = renamed b a c in
    ⊎_elim
    (λ two. or_first ((d.first == a) || (d.second == a)) (d.third == a) (⊎_elim
    (λ e. or_first (d.first == a) (d.second == a) (moved_here c.first a b e))
    (λ e. or_second (d.first == a) (d.second == a) (moved_here c.second a b e))
    (or_either (c.first == b) (c.second == b) two)))
    (λ e. or_second ((d.first == a) || (d.second == a)) (d.third == a) (moved_here c.third a b e))
    (or_either ((c.first == b) || (c.second == b)) (c.third == b) h)

-- ---- a face less
and_turned : (p q : Bool) → (p && q) ≡ (q && p)
and_turned true true = refl
and_turned true false = refl
and_turned false true = refl
and_turned false false = refl

-- the faces of a kind, with their corners
abbrev kind : (Corners → Bool) → Mesh → List (ℕ × Corners)
kind test n = filter (λ e. test e.1) (finite.entries n.faces)

kind_without : (test : Corners → Bool) (n : Mesh) (k : ℕ) → kind test (without_face n k) ≡ filter (λ e. not (e.0 == k)) (kind test n)
kind_without test n k =
    ap (filter (λ e. test e.1)) (entries-remove n.faces k)
    ∙ filter_twice (λ e. test e.1) (λ e. not (eq_by_cmp nat_cmp k e.0)) (finite.entries n.faces)
    ∙ filter_same (λ e. not (eq_by_cmp nat_cmp k e.0) && test e.1) (λ e. test e.1 && not (e.0 == k)) (finite.entries n.faces)
    (all_always (λ (e : ℕ × Corners). (not (eq_by_cmp nat_cmp k e.0) && test e.1) ≡ (test e.1 && not (e.0 == k))) (finite.entries n.faces)
    (λ e. ap (λ t. not t && test e.1) (unsigned_tied k e.0 ∙ test_either_way k e.0) ∙ and_turned (not (e.0 == k)) (test e.1)))
    ∙ sym (filter_twice (λ e. not (e.0 == k)) (λ e. test e.1) (finite.entries n.faces))

kept_all : (test : Corners → Bool) (n : Mesh) (k : ℕ) → ((c : Corners) → HasCorners n k c → test c ≡ false) → kind test (without_face n k) ≡ kind test n
kept_all test n k fails =
    kind_without test n k ∙ filter_twice (λ e. not (e.0 == k)) (λ e. test e.1) (finite.entries n.faces)
    ∙ filter_same (λ e. test e.1 && not (e.0 == k)) (λ e. test e.1) (finite.entries n.faces)
    (all_weaker (λ (e : ℕ × Corners). HasCorners n e.0 e.1) (λ (e : ℕ × Corners). (test e.1 && not (e.0 == k)) ≡ test e.1) (finite.entries n.faces)
    (λ e there. by_test e there (e.0 == k) refl (test e.1) refl) (each_there n))
  where
    here : (x : ℕ) → (x == k) ≡ true → x ≡ k
    here x e = grind (arith, nat_tests)

    by_test : (e : ℕ × Corners) → HasCorners n e.0 e.1 → (t : Bool) → (e.0 == k) ≡ t → (u : Bool) → test e.1 ≡ u → (u && not t) ≡ u
    by_test e there true is true u = absurd (false≢true (sym (fails e.1 (subst (λ j. HasCorners n j e.1) (here e.0 is) there)) ∙ u))
    by_test e there true is false u = refl
    by_test e there false is true u = refl
    by_test e there false is false u = refl

kept_all_without : (test : Corners → Bool) (n : Mesh) (fs : List ℕ) → AllByRecursion (λ f. (c : Corners) → HasCorners n f c → test c ≡ false) fs → kind test (without_faces n fs) ≡ kind test n
kept_all_without test n [] h = refl
kept_all_without test n (f ∷ fs) h =
    kept_all_without test (without_face n f) fs
    (all_weaker (λ g. (c : Corners) → HasCorners n g c → test c ≡ false) (λ g. (c : Corners) → HasCorners (without_face n f) g c → test c ≡ false) fs (λ g was c there. was c (got_after_remove n.faces f g c there).1) h.1)
    ∙ kept_all test n f h.0

-- ---- the third act
abbrev pub faces_kept_at : ℕ → Mesh → List (ℕ × Corners)
faces_kept_at a n = filter (λ e. has_corner e.1 a) (finite.entries n.faces)

pub each_at : (a : ℕ) (n : Mesh) → AllByRecursion (λ (e : ℕ × Corners). HasCorners n e.0 e.1 × (has_corner e.1 a ≡ true)) (faces_kept_at a n)
each_at a n = all_filtered (λ (e : ℕ × Corners). HasCorners n e.0 e.1 × (has_corner e.1 a ≡ true)) (λ e. has_corner e.1 a) (finite.entries n.faces)
    (all_weaker (λ (e : ℕ × Corners). HasCorners n e.0 e.1) (λ (e : ℕ × Corners). has_corner e.1 a ≡ true → HasCorners n e.0 e.1 × (has_corner e.1 a ≡ true)) (finite.entries n.faces) (λ e there held. (there, held)) (each_there n))

module _ (a : ℕ) (n : Mesh) where
  same_opposite : (c : Corners) → has_corner c a ≡ true → least_opposite n c ≡ opposite_in (faces_kept_at a n) c
  same_opposite c held =
      ap (λ o. option_map (λ (e : ℕ × Corners). e.0) o)
      (sym (find_filtered (λ e. are_opposite c e.1) (λ e. has_corner e.1 a) (finite.entries n.faces)
      (all_always (λ (e : ℕ × Corners). are_opposite c e.1 ≡ true → has_corner e.1 a ≡ true) (finite.entries n.faces) (λ e opposite. sym (opposite_held c e.1 a opposite) ∙ held))))

  pub same_two : slice_get (with_opposites n a) 0 ≡ two_in (faces_kept_at a n)
  same_two = ap (λ two. slice_get two 0) (filter_map_same (λ (e : ℕ × Corners). option_map {U = ℕ × ℕ} (λ opposite. (e.0, opposite)) (least_opposite n e.1)) (λ e. option_map {U = ℕ × ℕ} (λ opposite. (e.0, opposite)) (opposite_in (faces_kept_at a n) e.1)) (faces_kept_at a n)
      (all_weaker (λ (e : ℕ × Corners). HasCorners n e.0 e.1 × (has_corner e.1 a ≡ true)) (λ (e : ℕ × Corners). option_map {U = ℕ × ℕ} (λ opposite. (e.0, opposite)) (least_opposite n e.1) ≡ option_map {U = ℕ × ℕ} (λ opposite. (e.0, opposite)) (opposite_in (faces_kept_at a n) e.1)) (faces_kept_at a n)
      (λ e h. ap (λ o. option_map {U = ℕ × ℕ} (λ opposite. (e.0, opposite)) o) (same_opposite e.1 h.1)) (each_at a n)))

  one_cancelled : faces_kept_at a (with_one_cancelled a n) ≡ one_cancelled_in (faces_kept_at a n)
  one_cancelled = by_two (slice_get (with_opposites n a) 0) same_two
    where
      dropped : (f g : ℕ) → faces_kept_at a (without_faces n (f ∷ g ∷ [])) ≡ without_two f g (faces_kept_at a n)
      dropped f g =
          kind_without (λ c. has_corner c a) (without_face n f) g
          ∙ ap (filter (λ e. not (e.0 == g))) (kind_without (λ c. has_corner c a) n f)
          ∙ filter_twice (λ e. not (e.0 == g)) (λ e. not (e.0 == f)) (faces_kept_at a n)

      by_two : (o : Option (ℕ × ℕ)) → o ≡ two_in (faces_kept_at a n) → faces_kept_at a (option_map_or (λ two. without_faces n (two.0 ∷ two.1 ∷ [])) o n) ≡ one_cancelled_in (faces_kept_at a n)
      by_two (Some two) e = dropped two.0 two.1 ∙ ap (λ o. option_map_or (λ (t : ℕ × ℕ). without_two t.0 t.1 (faces_kept_at a n)) o (faces_kept_at a n)) e
      by_two None e = ap (λ o. option_map_or (λ (t : ℕ × ℕ). without_two t.0 t.1 (faces_kept_at a n)) o (faces_kept_at a n)) e

times_cancelled : (k a : ℕ) (n : Mesh) → faces_kept_at a (cancelled_times k a n) ≡ cancelled_in k (faces_kept_at a n)
times_cancelled zero a n = refl
times_cancelled (suc k) a n = times_cancelled k a (with_one_cancelled a n) ∙ ap (cancelled_in k) (one_cancelled a n)

pub cancelled_is_left : (m : Mesh) (a b : ℕ) → cancelled_in (length (joined_at m a b)) (joined_at m a b) ≡ left_at m a b
cancelled_is_left m a b =
    let two = with_joined (without_shared m a b) a b in
    cancelled_enough (length (joined_at m a b)) (finite.len two.faces) (joined_at m a b) (omega arith)
    (subst (λ k. length (joined_at m a b) ≤ k) (sym (len-entries two.faces)) (fewer_filtered (λ e. has_corner e.1 a) (finite.entries two.faces)))
    ∙ sym (times_cancelled (finite.len two.faces) a two)

-- ---- the first act
module _ (m : Mesh) (a b : ℕ) (sound : IsSound m) (apart : a ≢ b) where
  abbrev one : Mesh
  one = without_shared m a b

  abbrev shared : List ℕ
  shared = faces_where (λ c. has_corner c a && has_corner c b) m

  -- of the faces that go each holds both
  each_shared : AllByRecursion (λ f. (c : Corners) → HasCorners m f c → holds_both a b c ≡ true) shared
  each_shared =
      all_mapped (λ f. (c : Corners) → HasCorners m f c → holds_both a b c ≡ true) (λ e. e.0) (filter (λ e. holds_both a b e.1) (finite.entries m.faces))
      (all_filtered (λ (e : ℕ × Corners). (c : Corners) → HasCorners m e.0 c → holds_both a b c ≡ true) (λ e. holds_both a b e.1) (finite.entries m.faces)
      (all_weaker (λ (e : ℕ × Corners). HasCorners m e.0 e.1) (λ (e : ℕ × Corners). holds_both a b e.1 ≡ true → (c : Corners) → HasCorners m e.0 c → holds_both a b c ≡ true) (finite.entries m.faces)
      (λ e here held c there. subst (λ (d : Corners). holds_both a b d ≡ true) (same_corners m e.0 e.1 c here there) held) (each_there m)))

  pub one_stays : (f : ℕ) (c : Corners) → HasCorners m f c → holds_both a b c ≡ false → HasCorners one f c
  one_stays f c there single = stays m shared f c there
      (all_weaker (λ g. (d : Corners) → HasCorners m g d → holds_both a b d ≡ true) (λ g. f ≢ g) shared
      (λ g both same. false≢true (sym single ∙ both c (subst (λ k. HasCorners m k c) same there))) each_shared)
    where
      stays : (n : Mesh) (fs : List ℕ) (f : ℕ) (c : Corners) → HasCorners n f c → AllByRecursion (λ g. f ≢ g) fs → HasCorners (without_faces n fs) f c
      stays n [] f c there off = there
      stays n (g ∷ fs) f c there off = stays (without_face n g) fs f c (still_there n g f c (λ e. off.0 (sym e)) there) off.1

  -- the faces that are left at one end are those that do not hold the other
  pub left_first : kind (λ c. has_corner c a) one ≡ only_at m a b
  left_first =
      filter_same (λ e. has_corner e.1 a) (λ e. has_corner e.1 a && not (has_corner e.1 b)) (finite.entries one.faces)
      (all_weaker (λ (e : ℕ × Corners). HasCorners one e.0 e.1) (λ (e : ℕ × Corners). has_corner e.1 a ≡ (has_corner e.1 a && not (has_corner e.1 b))) (finite.entries one.faces)
      (λ e there. alone (has_corner e.1 a) (has_corner e.1 b) (single_left m a b sound apart e.0 e.1 there).1) (each_there one))
      ∙ kept_all_without (λ c. has_corner c a && not (has_corner c b)) m shared
      (all_weaker (λ f. (c : Corners) → HasCorners m f c → holds_both a b c ≡ true) (λ f. (c : Corners) → HasCorners m f c → (has_corner c a && not (has_corner c b)) ≡ false) shared
      (λ f both c there. neither (has_corner c a) (has_corner c b) (both c there)) each_shared)
    where
      alone : (p q : Bool) → (p && q) ≡ false → p ≡ (p && not q)
      alone true true e = absurd (false≢true (sym e))
      alone true false e = refl
      alone false q e = refl

      neither : (p q : Bool) → (p && q) ≡ true → (p && not q) ≡ false
      neither true true e = refl
      neither true false e = absurd (false≢true e)
      neither false q e = refl

  pub left_second : kind (λ c. has_corner c b) one ≡ only_at m b a
  left_second =
      filter_same (λ e. has_corner e.1 b) (λ e. has_corner e.1 b && not (has_corner e.1 a)) (finite.entries one.faces)
      (all_weaker (λ (e : ℕ × Corners). HasCorners one e.0 e.1) (λ (e : ℕ × Corners). has_corner e.1 b ≡ (has_corner e.1 b && not (has_corner e.1 a))) (finite.entries one.faces)
      (λ e there. alone (has_corner e.1 b) (has_corner e.1 a) (single_left m a b sound apart e.0 e.1 there).1) (each_there one))
      ∙ kept_all_without (λ c. has_corner c b && not (has_corner c a)) m shared
      (all_weaker (λ f. (c : Corners) → HasCorners m f c → holds_both a b c ≡ true) (λ f. (c : Corners) → HasCorners m f c → (has_corner c b && not (has_corner c a)) ≡ false) shared
      (λ f both c there. neither (has_corner c b) (has_corner c a) (both c there)) each_shared)
    where
      alone : (p q : Bool) → (q && p) ≡ false → p ≡ (p && not q)
      alone true true e = absurd (false≢true (sym e))
      alone true false e = refl
      alone false q e = refl

      neither : (p q : Bool) → (q && p) ≡ true → (p && not q) ≡ false
      neither true true e = refl
      neither true false e = absurd (false≢true e)
      neither false q e = refl

  pub one_below : AreBelow one
  one_below = below_all_without m shared (below_next m sound)
    where
      below_all_without : (n : Mesh) (fs : List ℕ) → AreBelow n → AreBelow (without_faces n fs)
      below_all_without n [] h = h
      below_all_without n (f ∷ fs) h = below_all_without (without_face n f) fs (below-without n f h)

-- ---- the second act
-- faces that hold b and not a wait to be renamed
abbrev pub Wait : ℕ → ℕ → Mesh → List (ℕ × Corners) → Type 0
Wait a b n es = AllByRecursion (λ (e : ℕ × Corners). HasCorners n e.0 e.1 × (has_corner e.1 b ≡ true) × (has_corner e.1 a ≡ false)) es

module _ (a b : ℕ) (n : Mesh) (e : ℕ × Corners) (es : List (ℕ × Corners)) (below : AreBelow n) (wait : Wait a b n (e ∷ es)) where
  abbrev bare : Mesh
  bare = without_face n e.0

  abbrev made : Corners
  made = renamed b a e.1

  pub renamed_once : with_renamed b a n e.0 ≡ with_face bare made
  renamed_once = ap (λ o. with_face bare (renamed b a (unwrap_or o (record { first = 0; second = 0; third = 0 })))) (wait.0).0

  pub made_below : AreBelow (with_face bare made)
  made_below = below-with bare made (below-without n e.0 below)

  next_apart : (f : ℕ) (c : Corners) → HasCorners n f c → f ≢ n.next_face
  next_apart f c there same = let h = below f (ap is_some there) in omega arith

  pub wait_on : T (below_all nat_cmp e.0 es) → Wait a b (with_face bare made) es
  wait_on rising = all_weaker (λ (x : ℕ × Corners). (x.0 ≢ e.0) × (HasCorners n x.0 x.1 × (has_corner x.1 b ≡ true) × (has_corner x.1 a ≡ false)))
      (λ (x : ℕ × Corners). HasCorners (with_face bare made) x.0 x.1 × (has_corner x.1 b ≡ true) × (has_corner x.1 a ≡ false)) es
      (λ x h. (kept_with bare made x.0 x.1 (next_apart x.0 x.1 (h.1).0) (still_there n e.0 x.0 x.1 (λ k. h.0 (sym k)) (h.1).0), (h.1).1, (h.1).2))
      (all_two (λ (x : ℕ × Corners). x.0 ≢ e.0) (λ (x : ℕ × Corners). HasCorners n x.0 x.1 × (has_corner x.1 b ≡ true) × (has_corner x.1 a ≡ false)) es (all_above e.0 es rising) wait.1)

  at_made : faces_kept_at a (with_face bare made) ≡ faces_kept_at a n ++ (n.next_face, made) ∷ []
  at_made =
      ap (filter (λ x. has_corner x.1 a)) (entries-insert nat_cmp_total bare.faces n.next_face made ∙ put_last n.next_face made (finite.entries bare.faces)
      (all_weaker (λ (x : ℕ × Corners). HasCorners bare x.0 x.1) (λ (x : ℕ × Corners). x.0 < n.next_face) (finite.entries bare.faces) (λ x there. below-without n e.0 below x.0 (ap is_some there)) (each_there bare)))
      ∙ filter-append (λ x. has_corner x.1 a) (finite.entries bare.faces) ((n.next_face, made) ∷ [])
      ∙ (λ i. kept_all (λ c. has_corner c a) n e.0 (λ c there. subst (λ (d : Corners). has_corner d a ≡ false) (same_corners n e.0 e.1 c (wait.0).0 there) (wait.0).2) i ++ cond (renamed_has a b e.1 (wait.0).1 i) ((n.next_face, made) ∷ []) [])

at_all_renamed : (a b : ℕ) (es : List (ℕ × Corners)) (n : Mesh) → AreBelow n → T (is_sorted nat_cmp es) → Wait a b n es →
    faces_kept_at a (with_all_renamed b a n (map (λ e. e.0) es)) ≡ faces_kept_at a n ++ numbered b a n.next_face es
at_all_renamed a b [] n below rising wait = sym (nothing (faces_kept_at a n))
  where
    nothing : (xs : List (ℕ × Corners)) → xs ++ [] ≡ xs
    nothing [] = refl
    nothing (x ∷ xs) = ap (λ ys. x ∷ ys) (nothing xs)
at_all_renamed a b (e ∷ es) n below rising wait =
    let parts = both_of (below_all nat_cmp e.0 es) (is_sorted nat_cmp es) rising in
    let next = with_face (without_face n e.0) (renamed b a e.1) in
    ap (λ k. faces_kept_at a (with_all_renamed b a k (map (λ x. x.0) es))) (renamed_once a b n e es below wait)
    ∙ at_all_renamed a b es next (made_below a b n e es below wait) parts.1 (wait_on a b n e es below wait parts.0)
    ∙ ap (λ xs. xs ++ numbered b a (n.next_face + 1) es) (at_made a b n e es below wait)
    ∙ append_assoc (faces_kept_at a n) ((n.next_face, renamed b a e.1) ∷ []) (numbered b a (n.next_face + 1) es)

module _ (m : Mesh) (a b : ℕ) (sound : IsSound m) (apart : a ≢ b) where
  pub joining : List (ℕ × Corners)
  joining = only_at m b a

  pub first_wait : Wait a b (without_shared m a b) (only_at m b a)
  first_wait = subst (Wait a b (without_shared m a b)) (left_second m a b sound apart)
      (all_filtered (λ (e : ℕ × Corners). HasCorners (without_shared m a b) e.0 e.1 × (has_corner e.1 b ≡ true) × (has_corner e.1 a ≡ false)) (λ e. has_corner e.1 b) (finite.entries (without_shared m a b).faces)
      (all_weaker (λ (e : ℕ × Corners). HasCorners (without_shared m a b) e.0 e.1) (λ (e : ℕ × Corners). has_corner e.1 b ≡ true → HasCorners (without_shared m a b) e.0 e.1 × (has_corner e.1 b ≡ true) × (has_corner e.1 a ≡ false)) (finite.entries (without_shared m a b).faces)
      (λ e there held. (there, held, not_first (has_corner e.1 a) (has_corner e.1 b) (single_left m a b sound apart e.0 e.1 there).1 held)) (each_there (without_shared m a b))))
    where
      not_first : (p q : Bool) → (p && q) ≡ false → q ≡ true → p ≡ false
      not_first true q e f = absurd (false≢true (sym e ∙ f))
      not_first false q e f = refl

  pub rising : T (is_sorted nat_cmp (only_at m b a))
  rising = sorted_filter (λ e. has_corner e.1 b && not (has_corner e.1 a)) (finite.entries m.faces) (entries_sorted m.faces)

  pub two_is : with_joined (without_shared m a b) a b ≡ with_all_renamed b a (without_shared m a b) (map (λ e. e.0) (only_at m b a))
  two_is = ap (λ es. with_all_renamed b a (without_shared m a b) (map (λ (e : ℕ × Corners). e.0) es)) (left_second m a b sound apart)

  pub joined_list : joined_at m a b ≡ only_at m a b ++ numbered b a m.next_face (only_at m b a)
  joined_list =
      ap (faces_kept_at a) two_is
      ∙ at_all_renamed a b (only_at m b a) (without_shared m a b) (one_below m a b sound apart) rising first_wait
      ∙ (λ i. left_first m a b sound apart i ++ numbered b a (next_face-without_faces m (faces_where (λ c. has_corner c a && has_corner c b) m) i) (only_at m b a))
