-- What is near the touched faces is enough: an edge and a face of which one is out of reach need no entry, nor do those that nothing touches.
use Rattle.std.proofs.Common.{◌≡◌, ℕ, ◌<◌, Bool, true, false, cond, ◌&&◌, List, [], ◌∷◌, Option, Some, None, ⊎_elim, inl, inr, refl, sym, ap, subst, ◌∙◌}
use Rattle.std.specs.List.{Any, filter, list_any, AllByRecursion}
use Rattle.std.specs.FinMap as finite
use Rattle.std.proofs.lemmas.Bool.{false≢true, or_cases, or_left, or_right}
use Rattle.std.proofs.lemmas.List.Elements.{All-from_recursion}
use Rattle.grid_base.specs.declared.Extent.{Extent}
use Rattle.grid_base.specs.declared.Positions.{Positions}
use Rattle.grid_base.specs.Triples.{Triple}
use Rattle.grid_base.specs.Separation.{KeepsApart, axes}
use Rattle.grid_base.proofs.Reflected.{together_of}
use Rattle.mesh_base.specs.declared.ids.Corners.{Corners}
use Rattle.mesh_base.specs.Mesh.{Mesh, HasCorners}
use Rattle.mesh_base.specs.Near.{is_near, is_some_near}
use Rattle.mesh_base.specs.Pairs.{Pair, five_ids}
use Rattle.mesh_base.specs.Placements.{Motion, rest_positions_doubled, positions}
use Rattle.mesh_base.specs.SideList.{are_neighbours}
use Rattle.mesh_base.specs.Sides.{has_corner, IsEdge}
use Rattle.mesh_base.proofs.ListedPairs.{all_mapped, all_weaker}
use Rattle.edit_base.specs.declared.Move.{Move}
use Rattle.edit_base.specs.Scaffold.{move_of, motion_by}
use Rattle.pair_paths.specs.declared.MovingFace.{MovingFace}
use Rattle.pair_paths.specs.Bounds.{HoldsPath, HoldsFace}
use Rattle.pair_paths.specs.Moving.{moving_edge, moving_face, moving_faces}
use Rattle.pair_paths.specs.Pairing.{starts, ends}
use Rattle.pair_paths.specs.Paths.{path_along}
use Rattle.pair_paths.proofs.Faces.{found_entries}
use Rattle.edit_check.specs.Failing.{is_side_of_some}
use Rattle.edit_check.specs.Reach.{HasFaceIn, ReachesTouched, is_face_in_reach}
use Rattle.edit_check.specs.Touched.{is_touched}
use Rattle.edit_check.specs.Untouched.{IsUntouched, IsClearWhereUntouched}
use Rattle.edit_check.proofs.Beyond.{corner_held, first_and, second_and}
use Rattle.edit_check.proofs.Far.{held_is_near}
use Rattle.edit_check.proofs.Scans.{IsOldFace, IsOldSide, old_face, corner_rests, step_corners, rests, old_side}
use Rattle.edit_check.proofs.Still.{still_moves_together}
use Rattle.edit_check.proofs.Untouched.{start_stays, end_stays}
use Rattle.motion_proof.specs.Needs.{NeedsNone, needing_one}
use Rattle.motion_proof.proofs.NeedsApart.{none_if, none_where_shared}
use Rattle.edit_proof.proofs.Beside.{corner_at, face_beside, edge_beside, both_corners}

-- some one that passes is kept
some_kept : {X : Type 0} (P : X → Type 0) (keep test : X → Bool) (xs : List X) → AllByRecursion P xs → list_any test (filter keep xs) ≡ true → (x : X) × ((keep x ≡ true) × ((test x ≡ true) × P x))
some_kept P keep test [] h e = absurd (false≢true e)
some_kept {X} P keep test (x ∷ xs) h e = by_test (some_kept P keep test xs h.1) (keep x) refl e
  where
    by_test : (list_any test (filter keep xs) ≡ true → (y : X) × ((keep y ≡ true) × ((test y ≡ true) × P y))) → (b : Bool) → keep x ≡ b
        → list_any test (cond b (x ∷ filter keep xs) (filter keep xs)) ≡ true → (y : X) × ((keep y ≡ true) × ((test y ≡ true) × P y))
    by_test rest true k e = ⊎_elim (λ t. (x, (k, (t, h.0)))) rest (or_cases (test x) (list_any test (filter keep xs)) e)
    by_test rest false k e = rest e

module _ (m : Mesh) (moves : List Move) (fresh_from : ℕ) where
  abbrev pub w : Motion
  w = motion_by m moves

  abbrev rest : ℕ → Triple
  rest v = rest_positions_doubled m v

  -- the edge of the two vertices and the face give no name
  abbrev pub GiveNone : ℕ → ℕ → MovingFace → Type 0
  GiveNone a b f = needing_one (moving_edge w a b) (Some f) ≡ []

  -- a face that is not touched, beside a box that has the edge's way
  far_face : (a b : ℕ) (f : ℕ × Corners) (box : Extent) → IsOldFace moves [] fresh_from (moving_face w f) → HoldsPath (path_along w a) box → HoldsPath (path_along w b) box → is_near m box f.1 ≡ false
      → GiveNone a b (moving_face w f)
  far_face a b f box old ha hb far =
      let e = moving_edge w a b in
      let g = moving_face w f in
      let c = f.1 in
      let apart = face_beside box (rest c.first) (rest c.second) (rest c.third) (w.start a) (w.start b) (w.end a) (w.end b) ha.start hb.start ha.end hb.end far in
      let started : Any (KeepsApart (starts e g) (record { a = w.end a; b = w.end b; c = rest c.first; d = rest c.second; e = rest c.third })) axes =
      subst (λ s. Any (KeepsApart s (record { a = w.end a; b = w.end b; c = rest c.first; d = rest c.second; e = rest c.third })) axes) (sym stay_start) apart in
      let both : Any (KeepsApart (starts e g) (ends e g)) axes = subst (λ t. Any (KeepsApart (starts e g) t) axes) (sym stay_end) started in
      none_if e g (inr both)
    where
      stay_start : starts (moving_edge w a b) (moving_face w f) ≡ record { a = w.start a; b = w.start b; c = rest f.1.first; d = rest f.1.second; e = rest f.1.third }
      stay_start = λ i. record {
        a = w.start a;
        b = w.start b;
        c = start_stays m moves f.1.first old.first i;
        d = start_stays m moves f.1.second old.second i;
        e = start_stays m moves f.1.third old.third i;
      }

      stay_end : ends (moving_edge w a b) (moving_face w f) ≡ record { a = w.end a; b = w.end b; c = rest f.1.first; d = rest f.1.second; e = rest f.1.third }
      stay_end = λ i. record {
        a = w.end a;
        b = w.end b;
        c = end_stays m moves f.1.first old.first i;
        d = end_stays m moves f.1.second old.second i;
        e = end_stays m moves f.1.third old.third i;
      }

  -- an edge of a face that is not touched, beside a box that has the other face's way
  far_edge : (a b : ℕ) (f g : ℕ × Corners) (box : Extent) → IsOldFace moves [] fresh_from (moving_face w g) → has_corner g.1 a ≡ true → has_corner g.1 b ≡ true → HoldsFace (moving_face w f) box → is_near m box g.1 ≡ false
      → GiveNone a b (moving_face w f)
  far_edge a b f g box old ca cb held far =
      let e = moving_edge w a b in
      let h = moving_face w f in
      let c = f.1 in
      let apart = edge_beside box (rest g.1.first) (rest g.1.second) (rest g.1.third) (rest a) (rest b) (w.start c.first) (w.start c.second) (w.start c.third) (w.end c.first) (w.end c.second) (w.end c.third)
      held.c.start held.d.start held.e.start held.c.end held.d.end held.e.end (corner_at rest g.1 a ca) (corner_at rest g.1 b cb) far in
      let started : Any (KeepsApart (starts e h) (record { a = rest a; b = rest b; c = w.end c.first; d = w.end c.second; e = w.end c.third })) axes =
      subst (λ s. Any (KeepsApart s (record { a = rest a; b = rest b; c = w.end c.first; d = w.end c.second; e = w.end c.third })) axes) (sym stay_start) apart in
      let both : Any (KeepsApart (starts e h) (ends e h)) axes = subst (λ t. Any (KeepsApart (starts e h) t) axes) (sym stay_end) started in
      none_if e h (inr both)
    where
      rests_a : move_of moves a ≡ None
      rests_a = corner_rests moves [] fresh_from (moving_face w g) a old ca

      rests_b : move_of moves b ≡ None
      rests_b = corner_rests moves [] fresh_from (moving_face w g) b old cb

      stay_start : starts (moving_edge w a b) (moving_face w f) ≡ record { a = rest a; b = rest b; c = w.start f.1.first; d = w.start f.1.second; e = w.start f.1.third }
      stay_start = λ i. record {
        a = start_stays m moves a rests_a i;
        b = start_stays m moves b rests_b i;
        c = w.start f.1.first;
        d = w.start f.1.second;
        e = w.start f.1.third;
      }

      stay_end : ends (moving_edge w a b) (moving_face w f) ≡ record { a = rest a; b = rest b; c = w.end f.1.first; d = w.end f.1.second; e = w.end f.1.third }
      stay_end = λ i. record {
        a = end_stays m moves a rests_a i;
        b = end_stays m moves b rests_b i;
        c = w.end f.1.first;
        d = w.end f.1.second;
        e = w.end f.1.third;
      }

  -- ---- where nothing is touched
  module _ (clear : IsClearWhereUntouched m moves fresh_from) (a b : ℕ) (ordered : a < b) (edge : IsEdge m a b) where
    abbrev pair : ℕ × Corners → Pair
    pair f = record { name = record { a = a; b = b; face = f.0 }; corners = f.1 }

    -- an edge and a face that nothing touches, and that are a pair
    resting : (f : ℕ × Corners) → IsOldSide m moves fresh_from a b → HasCorners m f.0 f.1 → IsOldFace moves [] fresh_from (moving_face w f) → has_corner f.1 a ≡ false → has_corner f.1 b ≡ false
        → GiveNone a b (moving_face w f)
    resting f side there face not_a not_b =
        let e = moving_edge w a b in
        let g = moving_face w f in
        let started : NeedsNone (starts e g) here = subst (λ s. NeedsNone s here) (sym starts_rest) (inl (together_of here here (still_moves_together here), clear (pair f) untouched)) in
        none_if e g (subst (λ t. NeedsNone (starts e g) t) (sym ends_rest) started)
      where
        here : Positions
        here = positions (rest_positions_doubled m) (pair f)

        untouched : IsUntouched m moves fresh_from (pair f)
        untouched = record {
          is_pair = record { ordered = ordered; edge = edge; face = there; not_first = not_a; not_second = not_b };
          old_edge = side.old;
          old_face = face.old;
          still = All-from_recursion (λ v. move_of moves v ≡ None) (five_ids (pair f)) (side.first, (side.second, (face.first, (face.second, (face.third, tt)))));
        }

        starts_rest : starts (moving_edge w a b) (moving_face w f) ≡ positions (rest_positions_doubled m) (pair f)
        starts_rest = λ i. record {
          a = start_stays m moves a side.first i;
          b = start_stays m moves b side.second i;
          c = start_stays m moves f.1.first face.first i;
          d = start_stays m moves f.1.second face.second i;
          e = start_stays m moves f.1.third face.third i;
        }

        ends_rest : ends (moving_edge w a b) (moving_face w f) ≡ positions (rest_positions_doubled m) (pair f)
        ends_rest = λ i. record {
          a = end_stays m moves a side.first i;
          b = end_stays m moves b side.second i;
          c = end_stays m moves f.1.first face.first i;
          d = end_stays m moves f.1.second face.second i;
          e = end_stays m moves f.1.third face.third i;
        }

    -- the same, where they may have a vertex in common
    untouched_none : (f : ℕ × Corners) → IsOldSide m moves fresh_from a b → HasCorners m f.0 f.1 → IsOldFace moves [] fresh_from (moving_face w f) → GiveNone a b (moving_face w f)
    untouched_none f side there face = by_tests (has_corner f.1 a) (has_corner f.1 b) refl refl
      where
        by_tests : (x y : Bool) → has_corner f.1 a ≡ x → has_corner f.1 b ≡ y → GiveNone a b (moving_face w f)
        by_tests true y p q = none_where_shared (moving_edge w a b) (moving_face w f) (or_left (has_corner f.1 a) (has_corner f.1 b) p)
        by_tests false true p q = none_where_shared (moving_edge w a b) (moving_face w f) (or_right (has_corner f.1 a) (has_corner f.1 b) q)
        by_tests false false p q = resting f side there face p q

    -- ---- with a box that has each touched face
    module _ (reach : Option Extent) (reached : ReachesTouched m moves [] fresh_from reach) where
      abbrev pub in_reach : MovingFace → Bool
      in_reach f = is_face_in_reach m reach f.face

      abbrev new : MovingFace → Bool
      new f = is_touched moves [] fresh_from f

      abbrev pub all : List MovingFace
      all = moving_faces m w

      abbrev pub IsFace : MovingFace → Type 0
      IsFace f = HasCorners m f.face f.corners × (moving_face w (f.face, f.corners) ≡ f)

      pub all_faces : AllByRecursion IsFace all
      all_faces = all_mapped IsFace (moving_face w) (finite.entries m.faces) (all_weaker (λ e. HasCorners m e.0 e.1) (λ e. IsFace (moving_face w e)) (finite.entries m.faces) (λ e there. (there, refl)) (found_entries m.faces))

      has_of : (f : MovingFace) → IsFace f → new f ≡ true → HasFaceIn m moves (f.face, f.corners) reach
      has_of f is t = reached f.face f.corners is.0 (ap new is.1 ∙ t)

      at_box : (f : ℕ) (c : Corners) (box : Extent) → reach ≡ Some box → HasCorners m f c → is_face_in_reach m reach f ≡ is_near m box c
      at_box f c box is there = ap (λ o. is_face_in_reach m o f) is ∙ ap (is_some_near m box) there

      touched_in_reach : (f : MovingFace) → IsFace f → new f ≡ true → in_reach f ≡ true
      touched_in_reach f is t =
          let h = has_of f is t in
          at_box f.face f.corners h.0 h.1.0 is.0 ∙ held_is_near h.0 (rest f.corners.first) (rest f.corners.second) (rest f.corners.third) h.1.1.standing.c.start

      untouched_beyond : (f : MovingFace) → IsFace f → in_reach f ≡ false → new f ≡ false
      untouched_beyond f is out = by_test (new f) refl
        where
          by_test : (b : Bool) → new f ≡ b → b ≡ false
          by_test true t = sym (touched_in_reach f is t) ∙ out
          by_test false t = refl

      -- the edge is a side of a touched face
      abbrev is_side : Bool
      is_side = is_side_of_some a b (filter new all)

      -- then it and a face out of reach need none
      beyond_side : is_side ≡ true → (f : MovingFace) → IsFace f → in_reach f ≡ false → GiveNone a b f
      beyond_side side f is out =
          let found = some_kept IsFace new (λ f. has_corner f.corners a && has_corner f.corners b) all all_faces side in
          let t = found.0 in
          let h = has_of t found.1.1.1 found.1.0 in
          let ca = first_and (has_corner t.corners a) (has_corner t.corners b) found.1.1.0 in
          let cb = second_and (has_corner t.corners a) (has_corner t.corners b) found.1.1.0 in
          let far = sym (at_box f.face f.corners h.0 h.1.0 is.0) ∙ out in
          let old = old_face moves [] fresh_from f (untouched_beyond f is out) in
          subst (GiveNone a b) is.1
          (far_face a b (f.face, f.corners) h.0 (subst (IsOldFace moves [] fresh_from) (sym is.1) old)
          (corner_held w (t.face, t.corners) a h.0 h.1.1.way ca) (corner_held w (t.face, t.corners) b h.0 h.1.1.way cb) far)

      -- where it is no such side, it and a face that is not touched need none
      off_side : is_side ≡ false → (f : MovingFace) → IsFace f → new f ≡ false → GiveNone a b f
      off_side alone f is t = subst (GiveNone a b) is.1
          (untouched_none (f.face, f.corners) (old_side m moves [] fresh_from a b alone edge) is.0 (subst (IsOldFace moves [] fresh_from) (sym is.1) (old_face moves [] fresh_from f t)))

      -- a face out of reach needs none with the edge
      pub none_beyond : (f : MovingFace) → IsFace f → in_reach f ≡ false → GiveNone a b f
      none_beyond f is out = by_test is_side refl
        where
          by_test : (t : Bool) → is_side ≡ t → GiveNone a b f
          by_test true side = beyond_side side f is out
          by_test false alone = off_side alone f is (untouched_beyond f is out)

      -- an edge that is no side of a face in reach: it needs none with any
      module _ (no_neighbours : (f : ℕ) (c : Corners) → HasCorners m f c → is_face_in_reach m reach f ≡ true → are_neighbours c a b ≡ false) where
        alone : is_side ≡ false
        alone = by_test is_side refl
          where
            by_test : (t : Bool) → is_side ≡ t → t ≡ false
            by_test false e = refl
            by_test true e =
                let f = some_kept IsFace new (λ f. has_corner f.corners a && has_corner f.corners b) all all_faces e in
                let ca = first_and (has_corner f.0.corners a) (has_corner f.0.corners b) f.1.1.0 in
                let cb = second_and (has_corner f.0.corners a) (has_corner f.0.corners b) f.1.1.0 in
                sym (both_corners f.0.corners a b ordered ca cb) ∙ no_neighbours f.0.face f.0.corners f.1.1.1.0 (touched_in_reach f.0 f.1.1.1 f.1.0)

        -- the face of which it is a side
        record IsBesideEdge : Type 0 where
          pub face : ℕ × Corners
          pub there : HasCorners m face.0 face.1
          pub first : has_corner face.1 a ≡ true
          pub second : has_corner face.1 b ≡ true
          pub neighbours : are_neighbours face.1 a b ≡ true

        beside : IsBesideEdge
        beside =
            let side = (old_side m moves [] fresh_from a b alone edge).old in
            ⊎_elim
            (λ e. let two = step_corners side.corners a b e in record { face = (side.face, side.corners); there = side.is_face; first = two.0; second = two.1; neighbours = both_corners side.corners a b ordered two.0 two.1 })
            (λ e. let two = step_corners side.corners b a e in record { face = (side.face, side.corners); there = side.is_face; first = two.1; second = two.0; neighbours = both_corners side.corners a b ordered two.1 two.0 })
            side.side

        out_of_reach : is_face_in_reach m reach beside.face.0 ≡ false
        out_of_reach = by_test (is_face_in_reach m reach beside.face.0) refl
          where
            by_test : (t : Bool) → is_face_in_reach m reach beside.face.0 ≡ t → t ≡ false
            by_test false e = refl
            by_test true e = sym beside.neighbours ∙ no_neighbours beside.face.0 beside.face.1 beside.there e

        with_touched : (f : MovingFace) → IsFace f → new f ≡ true → GiveNone a b f
        with_touched f is t =
            let h = has_of f is t in
            let g = beside in
            subst (GiveNone a b) is.1
            (far_edge a b (f.face, f.corners) g.face h.0 (rests m moves [] fresh_from a b alone g.face.0 g.face.1 g.there g.first g.second) g.first g.second h.1.1.way
            (sym (at_box g.face.0 g.face.1 h.0 h.1.0 g.there) ∙ out_of_reach))

        pub none_at_all : (f : MovingFace) → IsFace f → GiveNone a b f
        none_at_all f is = by_test (new f) refl
          where
            by_test : (t : Bool) → new f ≡ t → GiveNone a b f
            by_test true t = with_touched f is t
            by_test false t = off_side alone f is t
