-- What is nearby is enough: an edge and a face of which one is out of reach do as required.
use Rattle.std.proofs.Common.{◌≡◌, ℕ, ◌<◌, Bool, true, false, cond, ◌&&◌, ◌||◌, ◌==◌, not, List, [], ◌∷◌, ◌++◌, map, Option, Some, None, ⊎_elim, inl, inr, refl, sym, ap, subst, ◌∙◌, arith}
use Rattle.std.specs.List.{filter, find, list_any, flat_map, AllByRecursion}
use Rattle.std.specs.Option.{option_map}
use Rattle.std.specs.FinMap as finite
use Rattle.std.proofs.lemmas.Bool.{false≢true, or_cases, eqb-true}
use Rattle.std.proofs.lemmas.Bool.Decides.{nat_tests}
use Rattle.grid_base.specs.declared.Extent.{Extent}
use Rattle.grid_base.specs.declared.Positions.{Positions}
use Rattle.grid_base.specs.Triples.{Triple}
use Rattle.grid_base.specs.Separation.{AreSeparated}
use Rattle.grid_base.specs.SeparationTests.{passes}
use Rattle.grid_base.proofs.Reflected.{of_passes}
use Rattle.grid_decided.specs.Decided.{meets_exactly, meets_exactly-is_exact}
use Rattle.mesh_base.specs.declared.ids.Corners.{Corners}
use Rattle.mesh_base.specs.Mesh.{Mesh, HasCorners}
use Rattle.mesh_base.specs.Sides.{has_corner, IsEdge}
use Rattle.mesh_base.specs.Pairs.{pairs_of}
use Rattle.mesh_base.specs.SideList.{are_neighbours}
use Rattle.mesh_base.specs.Near.{is_near, is_some_near}
use Rattle.mesh_base.specs.Placements.{Motion, rest_positions_doubled}
use Rattle.mesh_base.proofs.ListedPairs.{all_mapped, all_weaker, all_filtered}
use Rattle.edit_base.specs.declared.Move.{Move}
use Rattle.edit_base.specs.declared.Touch.{Touch}
use Rattle.edit_base.specs.Scaffold.{move_of, motion_by, joins_contacts, meets_contact_rule}
use Rattle.pair_paths.specs.declared.moving_parts.MovingFace.{MovingFace}
use Rattle.pair_paths.specs.Paths.{path_along}
use Rattle.pair_paths.specs.Moving.{moving_edge, moving_face, live_face, moving_faces}
use Rattle.pair_paths.specs.Bounds.{HoldsPath, HoldsFace}
use Rattle.pair_paths.specs.Pairing.{have_a_vertex_in_common, name_with, pair_with, starts, ends}
use Rattle.pair_paths.proofs.Faces.{found_entries}
use Rattle.edit_check.specs.Untouched.{IsClearWhereUntouched}
use Rattle.edit_check.specs.Touched.{is_touched}
use Rattle.edit_check.specs.Failing.{fails, first_failing_among, is_side_of_some}
use Rattle.edit_check.specs.Checking.{scaffold_by, first_of}
use Rattle.edit_check.specs.Reach.{HasFaceIn, ReachesTouched, is_face_in_reach, faces_in_reach}
use Rattle.edit_check.specs.Nearby.{as_list, faces_among}
use Rattle.edit_check.proofs.Far.{IsOneOf, face_separated, edge_separated, held_is_near}
use Rattle.edit_check.proofs.Still.{find-filter}
use Rattle.edit_check.proofs.Untouched.{start_stays, end_stays}
use Rattle.edit_check.proofs.Scans.{IsOldFace, old_face, corner_rests, step_corners, rests, old_side, among_all, among_touched}

-- ---- lists
-- the faces of the ids that are kept are the faces that are kept
made_kept : (m : Mesh) (w : Motion) (keep : ℕ → Bool) (es : List (ℕ × Corners)) → AllByRecursion (λ e. finite.get m.faces e.0 ≡ Some e.1) es
    → flat_map (λ f. as_list (live_face m w f)) (filter keep (map (λ e. e.0) es)) ≡ filter (λ f. keep f.face) (map (moving_face w) es)
made_kept m w keep [] h = refl
made_kept m w keep (e ∷ es) h = by_test (made_kept m w keep es h.1) (keep e.0)
  where
    by_test : flat_map (λ f. as_list (live_face m w f)) (filter keep (map (λ x. x.0) es)) ≡ filter (λ f. keep f.face) (map (moving_face w) es) → (b : Bool)
        → flat_map (λ f. as_list (live_face m w f)) (cond b (e.0 ∷ filter keep (map (λ x. x.0) es)) (filter keep (map (λ x. x.0) es)))
        ≡ cond b (moving_face w e ∷ filter (λ f. keep f.face) (map (moving_face w) es)) (filter (λ f. keep f.face) (map (moving_face w) es))
    by_test rest true =
        ap (λ o. as_list (option_map (λ c. moving_face w (e.0, c)) o) ++ flat_map (λ f. as_list (live_face m w f)) (filter keep (map (λ x. x.0) es))) h.0
        ∙ ap (λ fs. moving_face w e ∷ fs) rest
    by_test rest false = rest

pub faces_of_reach : (m : Mesh) (moves : List Move) (reach : Option Extent) → faces_among m moves (faces_in_reach m reach) ≡ filter (λ f. is_face_in_reach m reach f.face) (moving_faces m (motion_by m moves))
faces_of_reach m moves reach = made_kept m (motion_by m moves) (λ f. is_face_in_reach m reach f) (finite.entries m.faces) (found_entries m.faces)

-- what passes the one test passes the other
filter_twice : {X : Type 0} (first second : X → Bool) (xs : List X) → AllByRecursion (λ x. second x ≡ true → first x ≡ true) xs → filter second (filter first xs) ≡ filter second xs
filter_twice first second [] h = refl
filter_twice {X} first second (x ∷ xs) h = by_tests (filter_twice first second xs h.1) (first x) (second x) refl refl
  where
    by_tests : filter second (filter first xs) ≡ filter second xs → (p q : Bool) → first x ≡ p → second x ≡ q
        → filter second (cond p (x ∷ filter first xs) (filter first xs)) ≡ cond q (x ∷ filter second xs) (filter second xs)
    by_tests rest true q e g = ap (λ b. cond b (x ∷ filter second (filter first xs)) (filter second (filter first xs))) g ∙ ap (λ ys. cond q (x ∷ ys) ys) rest
    by_tests rest false true e g = absurd (false≢true (sym e ∙ h.0 g))
    by_tests rest false false e g = rest

some_kept : {X : Type 0} (P : X → Type 0) (keep test : X → Bool) (xs : List X) → AllByRecursion P xs → list_any test (filter keep xs) ≡ true → (x : X) × ((keep x ≡ true) × ((test x ≡ true) × P x))
some_kept P keep test [] h e = absurd (false≢true e)
some_kept {X} P keep test (x ∷ xs) h e = by_test (some_kept P keep test xs h.1) (keep x) refl e
  where
    by_test : (list_any test (filter keep xs) ≡ true → (y : X) × ((keep y ≡ true) × ((test y ≡ true) × P y))) → (b : Bool) → keep x ≡ b
        → list_any test (cond b (x ∷ filter keep xs) (filter keep xs)) ≡ true → (y : X) × ((keep y ≡ true) × ((test y ≡ true) × P y))
    by_test rest true k e = ⊎_elim (λ t. (x, (k, (t, h.0)))) rest (or_cases (test x) (list_any test (filter keep xs)) e)
    by_test rest false k e = rest e

pub none_found : {X : Type 0} (test : X → Bool) (xs : List X) → AllByRecursion (λ x. test x ≡ false) xs → find test xs ≡ None
none_found test [] h = refl
none_found test (x ∷ xs) h = ap (λ b. cond b (Some x) (find test xs)) h.0 ∙ none_found test xs h.1

any_weaker : {X : Type 0} (p q : X → Bool) (xs : List X) → ((x : X) → p x ≡ true → q x ≡ true) → list_any q xs ≡ false → list_any p xs ≡ false
any_weaker p q [] w h = refl
any_weaker p q (x ∷ xs) w h = by_tests (any_weaker p q xs w) (p x) (q x) refl refl h
  where
    by_tests : (list_any q xs ≡ false → list_any p xs ≡ false) → (a b : Bool) → p x ≡ a → q x ≡ b → (b || list_any q xs) ≡ false → (a || list_any p xs) ≡ false
    by_tests rest a true e g h = absurd (false≢true (sym h))
    by_tests rest true false e g h = absurd (false≢true (sym g ∙ w x e))
    by_tests rest false false e g h = rest h

-- ---- tests
no_fail : (share joins rule pass : Bool) → joins ≡ false → pass ≡ true → (not share && not (cond joins rule pass)) ≡ false
no_fail true joins rule pass j p = refl
no_fail false true rule pass j p = absurd (false≢true (sym j))
no_fail false false rule true j p = refl
no_fail false false rule false j p = absurd (false≢true p)

no_and : (t u : Bool) → u ≡ false → (t && u) ≡ false
no_and true u e = e
no_and false u e = refl

false_and : (t u : Bool) → t ≡ false → (t && u) ≡ false
false_and true u e = absurd (false≢true (sym e))
false_and false u e = refl

pub first_and : (t u : Bool) → (t && u) ≡ true → t ≡ true
first_and true u e = refl
first_and false u e = e

pub second_and : (t u : Bool) → (t && u) ≡ true → u ≡ true
second_and true u e = e
second_and false u e = absurd (false≢true e)

sides_of_two : (c : Corners) (a b : ℕ) → a < b → has_corner c a ≡ true → has_corner c b ≡ true → are_neighbours c a b ≡ true
sides_of_two c a b less ca cb = grind (arith, nat_tests)

-- one of the three corners
corner_at : (at : ℕ → Triple) (c : Corners) (v : ℕ) → has_corner c v ≡ true → IsOneOf (at v) (at c.first) (at c.second) (at c.third)
corner_at at c v h = ⊎_elim
    (λ two. ⊎_elim (λ e. inl (ap at (eqb-true c.first v e))) (λ e. inr (inl (ap at (eqb-true c.second v e)))) (or_cases (c.first == v) (c.second == v) two))
    (λ e. inr (inr (ap at (eqb-true c.third v e))))
    (or_cases ((c.first == v) || (c.second == v)) (c.third == v) h)

-- a corner's path is in the box of the face
pub corner_held : (w : Motion) (f : ℕ × Corners) (v : ℕ) (box : Extent) → HoldsFace (moving_face w f) box → has_corner f.1 v ≡ true → HoldsPath (path_along w v) box
corner_held w f v box h corner = ⊎_elim
    (λ two. ⊎_elim (λ e. at f.1.first e h.c) (λ e. at f.1.second e h.d) (or_cases (f.1.first == v) (f.1.second == v) two))
    (λ e. at f.1.third e h.e)
    (or_cases ((f.1.first == v) || (f.1.second == v)) (f.1.third == v) corner)
  where
    at : (u : ℕ) → (u == v) ≡ true → HoldsPath (path_along w u) box → HoldsPath (path_along w v) box
    at u e k = subst (λ x. HoldsPath (path_along w x) box) (eqb-true u v e) k

passes_apart : (depth : ℕ) (s t : Positions) → AreSeparated depth s t → passes meets_exactly depth s t ≡ true
passes_apart depth s t h = of_passes meets_exactly meets_exactly-is_exact depth s t (inl h)

-- ---- pairs of which one is far
module _ (m : Mesh) (moves : List Move) (touch : Touch) (together : List ℕ) (depth fresh_from : ℕ) where
  abbrev pub w : Motion
  w = motion_by m moves

  abbrev rest : ℕ → Triple
  rest v = rest_positions_doubled m v

  -- a face that is not touched, far from a box that has the edge's way
  far_face : (a b : ℕ) (f : ℕ × Corners) (box : Extent) → IsOldFace moves together fresh_from (moving_face w f) → HoldsPath (path_along w a) box → HoldsPath (path_along w b) box → is_near m box f.1 ≡ false
      → fails touch together depth (moving_edge w a b) (moving_face w f) ≡ false
  far_face a b f box old ha hb far =
      let e = moving_edge w a b in
      let g = moving_face w f in
      let c = f.1 in
      let apart = face_separated box (rest c.first) (rest c.second) (rest c.third) depth (w.start a) (w.start b) (w.end a) (w.end b) ha.start hb.start ha.end hb.end far in
      let started : AreSeparated depth (starts e g) (record { a = w.end a; b = w.end b; c = rest c.first; d = rest c.second; e = rest c.third }) =
      subst (λ s. AreSeparated depth s (record { a = w.end a; b = w.end b; c = rest c.first; d = rest c.second; e = rest c.third })) (sym stay_start) apart in
      let both : AreSeparated depth (starts e g) (ends e g) = subst (λ t. AreSeparated depth (starts e g) t) (sym stay_end) started in
      no_fail (have_a_vertex_in_common e g) (joins_contacts together (pair_with e g)) (meets_contact_rule meets_exactly touch depth (starts e g) (ends e g)) (passes meets_exactly depth (starts e g) (ends e g))
      (no_and (list_any (λ v. (a == v) || (b == v)) together) (list_any (λ v. has_corner c v) together) old.apart)
      (passes_apart depth (starts e g) (ends e g) both)
    where
      stay_start : starts (moving_edge w a b) (moving_face w f) ≡ record { a = w.start a; b = w.start b; c = rest f.1.first; d = rest f.1.second; e = rest f.1.third }
      stay_start = λ i. record {
        a = w.start a;
        b = w.start b;
        c = start_stays m moves f.1.first old.first i;
        d = start_stays m moves f.1.second old.second i;
        e = start_stays m moves f.1.third old.third i;
      }

      stay_end : ends (moving_edge w a b) (moving_face w f) ≡ record { a = w.end a; b = w.end b; c = rest f.1.first; d = rest f.1.second; e = rest f.1.third }
      stay_end = λ i. record {
        a = w.end a;
        b = w.end b;
        c = end_stays m moves f.1.first old.first i;
        d = end_stays m moves f.1.second old.second i;
        e = end_stays m moves f.1.third old.third i;
      }

  -- an edge of a face that is not touched, far from a box that has the other face's way
  far_edge : (a b : ℕ) (f g : ℕ × Corners) (box : Extent) → IsOldFace moves together fresh_from (moving_face w g) → has_corner g.1 a ≡ true → has_corner g.1 b ≡ true → HoldsFace (moving_face w f) box → is_near m box g.1 ≡ false
      → fails touch together depth (moving_edge w a b) (moving_face w f) ≡ false
  far_edge a b f g box old ca cb held far =
      let e = moving_edge w a b in
      let h = moving_face w f in
      let c = f.1 in
      let apart = edge_separated box (rest g.1.first) (rest g.1.second) (rest g.1.third) depth (rest a) (rest b) (w.start c.first) (w.start c.second) (w.start c.third) (w.end c.first) (w.end c.second) (w.end c.third)
      held.c.start held.d.start held.e.start held.c.end held.d.end held.e.end (corner_at rest g.1 a ca) (corner_at rest g.1 b cb) far in
      let started : AreSeparated depth (starts e h) (record { a = rest a; b = rest b; c = w.end c.first; d = w.end c.second; e = w.end c.third }) =
      subst (λ s. AreSeparated depth s (record { a = rest a; b = rest b; c = w.end c.first; d = w.end c.second; e = w.end c.third })) (sym stay_start) apart in
      let both : AreSeparated depth (starts e h) (ends e h) = subst (λ t. AreSeparated depth (starts e h) t) (sym stay_end) started in
      no_fail (have_a_vertex_in_common e h) (joins_contacts together (pair_with e h)) (meets_contact_rule meets_exactly touch depth (starts e h) (ends e h)) (passes meets_exactly depth (starts e h) (ends e h))
      (false_and (list_any (λ v. (a == v) || (b == v)) together) (list_any (λ v. has_corner c v) together) (any_weaker (λ v. (a == v) || (b == v)) (λ v. has_corner g.1 v) together is_corner old.apart))
      (passes_apart depth (starts e h) (ends e h) both)
    where
      is_corner : (v : ℕ) → ((a == v) || (b == v)) ≡ true → has_corner g.1 v ≡ true
      is_corner v h = ⊎_elim (λ e. subst (λ u. has_corner g.1 u ≡ true) (eqb-true a v e) ca) (λ e. subst (λ u. has_corner g.1 u ≡ true) (eqb-true b v e) cb) (or_cases (a == v) (b == v) h)

      rests_a : move_of moves a ≡ None
      rests_a = corner_rests moves together fresh_from (moving_face w g) a old ca

      rests_b : move_of moves b ≡ None
      rests_b = corner_rests moves together fresh_from (moving_face w g) b old cb

      stay_start : starts (moving_edge w a b) (moving_face w f) ≡ record { a = rest a; b = rest b; c = w.start f.1.first; d = w.start f.1.second; e = w.start f.1.third }
      stay_start = λ i. record {
        a = start_stays m moves a rests_a i;
        b = start_stays m moves b rests_b i;
        c = w.start f.1.first;
        d = w.start f.1.second;
        e = w.start f.1.third;
      }

      stay_end : ends (moving_edge w a b) (moving_face w f) ≡ record { a = rest a; b = rest b; c = w.end f.1.first; d = w.end f.1.second; e = w.end f.1.third }
      stay_end = λ i. record {
        a = end_stays m moves a rests_a i;
        b = end_stays m moves b rests_b i;
        c = w.end f.1.first;
        d = w.end f.1.second;
        e = w.end f.1.third;
      }

  -- ---- with a box that has each touched face
  module _ (reach : Option Extent) (reached : ReachesTouched m moves together fresh_from reach) where
    abbrev pub in_reach : MovingFace → Bool
    in_reach f = is_face_in_reach m reach f.face

    abbrev pub new : MovingFace → Bool
    new f = is_touched moves together fresh_from f

    abbrev pub all : List MovingFace
    all = moving_faces m w

    abbrev pub IsFace : MovingFace → Type 0
    IsFace f = HasCorners m f.face f.corners × (moving_face w (f.face, f.corners) ≡ f)

    pub all_faces : AllByRecursion IsFace all
    all_faces = all_mapped IsFace (moving_face w) (finite.entries m.faces) (all_weaker (λ e. HasCorners m e.0 e.1) (λ e. IsFace (moving_face w e)) (finite.entries m.faces) (λ e there. (there, refl)) (found_entries m.faces))

    at_box : (f : ℕ) (c : Corners) (box : Extent) → reach ≡ Some box → HasCorners m f c → is_face_in_reach m reach f ≡ is_near m box c
    at_box f c box is there = ap (λ o. is_face_in_reach m o f) is ∙ ap (is_some_near m box) there

    pub has_of : (f : MovingFace) → IsFace f → new f ≡ true → HasFaceIn m moves (f.face, f.corners) reach
    has_of f is t = reached f.face f.corners is.0 (ap new is.1 ∙ t)

    touched_in_reach : (f : MovingFace) → IsFace f → new f ≡ true → in_reach f ≡ true
    touched_in_reach f is t =
        let h = has_of f is t in
        at_box f.face f.corners h.0 h.1.0 is.0 ∙ held_is_near h.0 (rest f.corners.first) (rest f.corners.second) (rest f.corners.third) h.1.1.standing.c.start

    -- the touched faces are among those in reach
    pub touched_nearby : filter new (filter in_reach all) ≡ filter new all
    touched_nearby = filter_twice in_reach new all (all_weaker IsFace (λ f. new f ≡ true → in_reach f ≡ true) all touched_in_reach all_faces)

    untouched_beyond : (f : MovingFace) → IsFace f → in_reach f ≡ false → new f ≡ false
    untouched_beyond f is out = by_test (new f) refl
      where
        by_test : (b : Bool) → new f ≡ b → b ≡ false
        by_test true t = sym (touched_in_reach f is t) ∙ out
        by_test false t = refl

    module _ (a b : ℕ) where
      -- an edge that is a side of a touched face: those in reach will do
      module _ (side : is_side_of_some a b (filter new (filter in_reach all)) ≡ true) where
        found : (f : MovingFace) × ((new f ≡ true) × (((has_corner f.corners a && has_corner f.corners b) ≡ true) × IsFace f))
        found = some_kept IsFace new (λ f. has_corner f.corners a && has_corner f.corners b) all all_faces (sym (ap (is_side_of_some a b) touched_nearby) ∙ side)

        does_beyond : (f : MovingFace) → IsFace f → in_reach f ≡ false → fails touch together depth (moving_edge w a b) f ≡ false
        does_beyond f is out =
            let t = found.0 in
            let h = has_of t found.1.1.1 found.1.0 in
            let ca = first_and (has_corner t.corners a) (has_corner t.corners b) found.1.1.0 in
            let cb = second_and (has_corner t.corners a) (has_corner t.corners b) found.1.1.0 in
            let far = sym (at_box f.face f.corners h.0 h.1.0 is.0) ∙ out in
            let old = old_face moves together fresh_from f (untouched_beyond f is out) in
            subst (λ g. fails touch together depth (moving_edge w a b) g ≡ false) is.1
            (far_face a b (f.face, f.corners) h.0 (subst (IsOldFace moves together fresh_from) (sym is.1) old)
            (corner_held w (t.face, t.corners) a h.0 h.1.1.way ca) (corner_held w (t.face, t.corners) b h.0 h.1.1.way cb) far)

        pub among_nearby : first_failing_among touch together depth (moving_edge w a b) (filter in_reach all) ≡ first_of (scaffold_by m moves touch together) depth (pairs_of m (a, b))
        among_nearby =
            ap (option_map (name_with (moving_edge w a b)))
            (find-filter in_reach (λ f. fails touch together depth (moving_edge w a b) f) all (all_weaker IsFace (λ f. in_reach f ≡ false → fails touch together depth (moving_edge w a b) f ≡ false) all does_beyond all_faces))
            ∙ among_all m moves touch together depth a b

      module _ (clear : IsClearWhereUntouched m moves fresh_from) (ordered : a < b) (is_edge : IsEdge m a b) where
        -- an edge that is not: the touched ones will do
        pub among_touched_nearby : is_side_of_some a b (filter new (filter in_reach all)) ≡ false
            → first_failing_among touch together depth (moving_edge w a b) (filter new (filter in_reach all)) ≡ first_of (scaffold_by m moves touch together) depth (pairs_of m (a, b))
        among_touched_nearby alone =
            ap (first_failing_among touch together depth (moving_edge w a b)) touched_nearby
            ∙ among_touched m moves touch together depth a b fresh_from clear ordered is_edge (sym (ap (is_side_of_some a b) touched_nearby) ∙ alone)

        -- an edge that is no side of a face in reach: each pair of it does as required
        module _ (no_neighbours : (f : ℕ) (c : Corners) → HasCorners m f c → is_face_in_reach m reach f ≡ true → are_neighbours c a b ≡ false) where
          alone : is_side_of_some a b (filter new all) ≡ false
          alone = by_test (is_side_of_some a b (filter new all)) refl
            where
              by_test : (t : Bool) → is_side_of_some a b (filter new all) ≡ t → t ≡ false
              by_test false e = refl
              by_test true e =
                  let f = some_kept IsFace new (λ f. has_corner f.corners a && has_corner f.corners b) all all_faces e in
                  let ca = first_and (has_corner f.0.corners a) (has_corner f.0.corners b) f.1.1.0 in
                  let cb = second_and (has_corner f.0.corners a) (has_corner f.0.corners b) f.1.1.0 in
                  sym (sides_of_two f.0.corners a b ordered ca cb) ∙ no_neighbours f.0.face f.0.corners f.1.1.1.0 (touched_in_reach f.0 f.1.1.1 f.1.0)

          -- the face of which it is a side
          record IsBeside : Type 0 where
            pub face : ℕ × Corners
            pub there : HasCorners m face.0 face.1
            pub first : has_corner face.1 a ≡ true
            pub second : has_corner face.1 b ≡ true
            pub neighbours : are_neighbours face.1 a b ≡ true

          beside : IsBeside
          beside =
              let side = (old_side m moves together fresh_from a b alone is_edge).old in
              ⊎_elim
              (λ e. let two = step_corners side.corners a b e in record { face = (side.face, side.corners); there = side.is_face; first = two.0; second = two.1; neighbours = sides_of_two side.corners a b ordered two.0 two.1 })
              (λ e. let two = step_corners side.corners b a e in record { face = (side.face, side.corners); there = side.is_face; first = two.1; second = two.0; neighbours = sides_of_two side.corners a b ordered two.1 two.0 })
              side.side

          out_of_reach : is_face_in_reach m reach beside.face.0 ≡ false
          out_of_reach = by_test (is_face_in_reach m reach beside.face.0) refl
            where
              by_test : (t : Bool) → is_face_in_reach m reach beside.face.0 ≡ t → t ≡ false
              by_test false e = refl
              by_test true e = sym beside.neighbours ∙ no_neighbours beside.face.0 beside.face.1 beside.there e

          does_touched : (f : MovingFace) → IsFace f → new f ≡ true → fails touch together depth (moving_edge w a b) f ≡ false
          does_touched f is t =
              let h = has_of f is t in
              let g = beside in
              subst (λ k. fails touch together depth (moving_edge w a b) k ≡ false) is.1
              (far_edge a b (f.face, f.corners) g.face h.0 (rests m moves together fresh_from a b alone g.face.0 g.face.1 g.there g.first g.second) g.first g.second h.1.1.way
              (sym (at_box g.face.0 g.face.1 h.0 h.1.0 g.there) ∙ out_of_reach))

          pub none_beyond : first_of (scaffold_by m moves touch together) depth (pairs_of m (a, b)) ≡ None
          none_beyond =
              sym (among_touched m moves touch together depth a b fresh_from clear ordered is_edge alone)
              ∙ ap (option_map (name_with (moving_edge w a b)))
              (none_found (λ f. fails touch together depth (moving_edge w a b) f) (filter new all) (all_filtered (λ f. fails touch together depth (moving_edge w a b) f ≡ false) new all (all_weaker IsFace (λ f. new f ≡ true → fails touch together depth (moving_edge w a b) f ≡ false) all does_touched all_faces)))
