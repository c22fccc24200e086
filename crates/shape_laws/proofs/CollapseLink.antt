-- A collapse of an edge whose ends have no neighbours in common but the two opposite vertices: what its faces are.
use Rattle.std.proofs.Common.{◌≡◌, ◌≢◌, ◌⊎◌, ℕ, Bool, true, false, inl, inr, ⊎_elim, refl, sym, ap, subst, ◌∙◌, arith}
use Rattle.mesh_base.specs.declared.ids.Corners.{Corners}
use Rattle.mesh_base.specs.Mesh.{Mesh, IsSound}
use Rattle.mesh_base.specs.Sides.{has_corner, follows, IsClosed}
use Rattle.mesh_base.specs.Pairs.{is_crowded}
use Rattle.mesh_base.proofs.Listed.{and_first, and_second, running_face}
use Rattle.edit_base.specs.Edges.{Edge, corners_from, renamed}
use Rattle.edit_base.specs.Beside.{IsBeside}
use Rattle.edit_acts.proofs.FaceCorners.{runs_there, steps_of, step_one, step_two, step_three}
use Rattle.edit_collapse.specs.Collapse.{joined_faces, are_opposite}
use Rattle.edit_collapse.proofs.Carried.{moved, moved_either, moved_stays, moved_goes}
use Rattle.edit_collapse.proofs.Joined.{holds_both, not_two}
use Rattle.shape_laws.proofs.Chained.{Holds, IsFaced}
use Rattle.shape_laws.proofs.Listed.{HasSide, AreSided}
use Rattle.shape_laws.proofs.Faces.{bare, left, right, left_alike, right_alike, left_held, right_held, left_right_or_stays, none_stays, AreAlike, corner_is, corner_two, corner_three, of_steps, step_corners, corner_one}
use Rattle.shape_laws.proofs.CollapseFaces.{Turn, turn_at, was_corner, opposite_step, Was, was_in_two, three_has, two}

-- some face has these three corners one after another
abbrev pub IsFace : Mesh → ℕ → ℕ → ℕ → Type 0
IsFace m x y z = (c : Corners) × Holds m c × AreAlike c (corners_from x y z)

-- the three are corners
abbrev pub HasThree : Corners → ℕ → ℕ → ℕ → Type 0
HasThree k x y z = (has_corner k x ≡ true) × (has_corner k y ≡ true) × (has_corner k z ≡ true)

-- The edge is not crowded and has two opposite vertices; no other vertex is a neighbour of both ends; not at both ends is there a face
-- with the two opposite vertices; and no two faces at an end are opposite to each other.
pub record IsPlain (m : Mesh) (s : Edge) : Type 0 where
  pub uncrowded : is_crowded m s.a s.b ≡ false
  pub c_d : s.c ≢ s.d
  pub one_cap : (k l : Corners) → Holds m k → Holds m l → HasThree k s.a s.c s.d → HasThree l s.b s.c s.d → ⊥
  pub link : (x : ℕ) → AreSided m s.a x → AreSided m s.b x → (s.c ≡ x) ⊎ (s.d ≡ x)
  pub at_a : (x y : ℕ) → IsFace m s.a x y → IsFace m s.a y x → ⊥
  pub at_b : (x y : ℕ) → IsFace m s.b x y → IsFace m s.b y x → ⊥

module _ (m : Mesh) (s : Edge) (sound : IsSound m) (closed : IsClosed m) (beside : IsBeside m s) (plain : IsPlain m s) where
  abbrev pub a : ℕ
  a = s.a

  abbrev pub b : ℕ
  b = s.b

  abbrev pub to : ℕ → ℕ
  to v = moved s.b s.a v

  -- ---- the two faces that hold both ends
  left_face : (v : ℕ) → has_corner (left m s beside) v ≡ true → IsFaced m v
  left_face v h = (beside.left_corners, left_held m s beside, (left_alike m s beside).corners v ∙ h)

  -- a face with both ends is one of the two
  pub both_is : (c : Corners) → Holds m c → holds_both s.a s.b c ≡ true → AreAlike c (left m s beside) ⊎ AreAlike c (right m s beside)
  both_is c h both = ⊎_elim
      (λ e. inl e)
      (λ rest. ⊎_elim (λ e. inr e) (λ stays. absurd (not_both stays)) rest)
      (left_right_or_stays m s beside c h)
    where
      turn : Turn c s.a
      turn = turn_at c s.a (sound.is_mesh.different_corners h.0 c h.1) (and_first (has_corner c s.a) (has_corner c s.b) both)

      alike : AreAlike c (corners_from s.a turn.x turn.y)
      alike = turn.alike (λ v. v)

      not_both : Holds (bare m s beside) c → ⊥
      not_both stays =
          let never = none_stays m s beside plain.uncrowded c stays in
          ⊎_elim
          (λ same. beside.a_b same)
          (λ rest. ⊎_elim
          (λ e. never.0 (subst (λ z. follows c s.a z ≡ true) e (alike.steps s.a turn.x ∙ step_one s.a turn.x turn.y)))
          (λ e. never.1 (subst (λ z. follows c z s.a ≡ true) e (alike.steps turn.y s.a ∙ step_three s.a turn.x turn.y)))
          rest)
          (corner_is s.a turn.x turn.y s.b (sym (alike.corners s.b) ∙ and_second (has_corner c s.a) (has_corner c s.b) both))

  -- ---- sides back along the two faces, of faces that stay
  -- a step that neither of the two has
  abbrev NoStep : ℕ → ℕ → Type 0
  NoStep u v = (follows (left m s beside) u v ≡ true → ⊥) × (follows (right m s beside) u v ≡ true → ⊥)

  -- some face with one end at most has the step
  abbrev pub SingleSide : ℕ → ℕ → Type 0
  SingleSide u v = (c : Corners) × Holds m c × (holds_both s.a s.b c ≡ false) × (follows c u v ≡ true)

  single_side : (u v : ℕ) → NoStep u v → HasSide m u v → SingleSide u v
  single_side u v off side = by_test (holds_both s.a s.b side.0) refl
    where
      by_test : (t : Bool) → holds_both s.a s.b side.0 ≡ t → SingleSide u v
      by_test true e = absurd (⊎_elim (λ k. off.0 (sym (k.steps u v) ∙ side.2)) (λ k. off.1 (sym (k.steps u v) ∙ side.2)) (both_is side.0 side.1 e))
      by_test false e = (side.0, side.1, e, side.2)

  -- the mesh is closed
  side_back : (u v : ℕ) → HasSide m u v → HasSide m v u
  side_back u v side =
      let some = runs_there m (side.1).0 side.0 u v (side.1).1 side.2 in
      let same = closed u v in
      let face = running_face m v u (omega (arith, some, same)) in
      ((face.0).1, ((face.0).0, face.2), face.1)

  pub left_side : (u v : ℕ) → follows (left m s beside) u v ≡ true → HasSide m u v
  left_side u v h = (beside.left_corners, left_held m s beside, (left_alike m s beside).steps u v ∙ h)

  pub right_side : (u v : ℕ) → follows (right m s beside) u v ≡ true → HasSide m u v
  right_side u v h = (beside.right_corners, right_held m s beside, (right_alike m s beside).steps u v ∙ h)

  no_step_of : (x y z u v : ℕ) → ((x ≡ u) × (y ≡ v) → ⊥) → ((y ≡ u) × (z ≡ v) → ⊥) → ((z ≡ u) × (x ≡ v) → ⊥) → follows (corners_from x y z) u v ≡ true → ⊥
  no_step_of x y z u v p q r h = ⊎_elim p (λ rest. ⊎_elim q r rest) (steps_of x y z u v h)

  pub a_c_single : SingleSide s.a s.c
  a_c_single = single_side s.a s.c (
    no_step_of s.a s.b s.c s.a s.c (λ e. beside.b_c e.1) (λ e. beside.a_b (sym e.0)) (λ e. beside.c_a e.0),
    no_step_of s.b s.a s.d s.a s.c (λ e. beside.a_b (sym e.0)) (λ e. plain.c_d (sym e.1)) (λ e. beside.a_d (sym e.0)),
  ) (side_back s.c s.a (left_side s.c s.a (step_three s.a s.b s.c)))

  pub d_a_single : SingleSide s.d s.a
  d_a_single = single_side s.d s.a (
    no_step_of s.a s.b s.c s.d s.a (λ e. beside.a_d e.0) (λ e. beside.d_b (sym e.0)) (λ e. plain.c_d e.0),
    no_step_of s.b s.a s.d s.d s.a (λ e. beside.d_b (sym e.0)) (λ e. beside.a_d e.0) (λ e. beside.a_b (sym e.1)),
  ) (side_back s.a s.d (right_side s.a s.d (step_two s.b s.a s.d)))

  -- ---- no faces cancel
  pub no_self : (c : Corners) (u v : ℕ) → Holds m c → follows c u v ≡ true → u ≢ v
  no_self c u v h step =
      let different = sound.is_mesh.different_corners h.0 c h.1 in
      of_steps (λ p q. p ≢ q) c.first c.second c.third u v different.first_second different.second_third different.third_first step

  -- a face behind the joining, from the joined vertex on: it was at one of the ends
  record FromEnd (c : Corners) : Type 0 where
    pub p : ℕ
    pub x : ℕ
    pub y : ℕ
    pub is_end : (p ≡ s.a) ⊎ (p ≡ s.b)
    pub was : IsFace m p x y
    pub x_y : x ≢ y
    pub a_x : s.a ≢ x
    pub y_a : y ≢ s.a
    pub now : AreAlike c (corners_from s.a x y)

  from_end : (c : Corners) → Holds (two m s.a s.b sound closed beside.a_b) c → has_corner c s.a ≡ true → FromEnd c
  from_end c h has_a =
      let old = was_in_two m s.a s.b sound closed beside.a_b c h in
      let end = was_corner s.a s.b old.from s.a (subst (λ k. has_corner k s.a ≡ true) old.is has_a) in
      of_end old end.0 end.1 (ends end.0 end.2)
    where
      ends : (p : ℕ) → to p ≡ s.a → (p ≡ s.a) ⊎ (p ≡ s.b)
      ends p e = ⊎_elim (λ k. inr k.0) (λ k. inl (sym k.1 ∙ e)) (moved_either s.b s.a p)

      of_end : (old : Was m s.a s.b c) (p : ℕ) → has_corner old.from p ≡ true → (p ≡ s.a) ⊎ (p ≡ s.b) → FromEnd c
      of_end old p at is_end = record {
        p = p;
        x = turn.x;
        y = turn.y;
        is_end = is_end;
        was = (old.from, old.there, turn.alike (λ v. v));
        x_y = turn.x_y;
        a_x = λ e. not_first turn.x x_at turn.p_x (sym e);
        y_a = not_first turn.y y_at (λ e. turn.y_p (sym e));
        now = subst (λ k. AreAlike k (corners_from s.a turn.x turn.y)) (sym old.is) (moved_alike (to p) (to turn.x) (to turn.y) (at_end is_end) (stays turn.x x_not) (stays turn.y y_not) (turn.alike to));
      }
        where
          turn : Turn old.from p
          turn = turn_at old.from p (sound.is_mesh.different_corners (old.there).0 old.from (old.there).1) at

          x_at : has_corner old.from turn.x ≡ true
          x_at = (turn.alike (λ v. v)).corners turn.x ∙ corner_two p turn.x turn.y

          y_at : has_corner old.from turn.y ≡ true
          y_at = (turn.alike (λ v. v)).corners turn.y ∙ corner_three p turn.x turn.y

          -- another corner is not b
          other : (z : ℕ) → has_corner old.from z ≡ true → p ≢ z → z ≢ s.b
          other z at_z apart e = ⊎_elim
              (λ is. not_two s.a s.b old.from old.single (subst (λ k. has_corner old.from k ≡ true) is at) (subst (λ k. has_corner old.from k ≡ true) e at_z))
              (λ is. apart (is ∙ sym e))
              is_end

          -- nor a
          not_first : (z : ℕ) → has_corner old.from z ≡ true → p ≢ z → z ≢ s.a
          not_first z at_z apart e = ⊎_elim
              (λ is. apart (is ∙ sym e))
              (λ is. not_two s.a s.b old.from old.single (subst (λ k. has_corner old.from k ≡ true) e at_z) (subst (λ k. has_corner old.from k ≡ true) is at))
              is_end

          x_not : turn.x ≢ s.b
          x_not = other turn.x x_at turn.p_x

          y_not : turn.y ≢ s.b
          y_not = other turn.y y_at (λ e. turn.y_p (sym e))

          stays : (z : ℕ) → z ≢ s.b → to z ≡ z
          stays z apart = moved_stays s.b s.a z apart

          at_end : (p ≡ s.a) ⊎ (p ≡ s.b) → to p ≡ s.a
          at_end is = ⊎_elim (λ e. ap to e ∙ moved_stays s.b s.a s.a beside.a_b) (λ e. moved_goes s.b s.a p e) is

          moved_alike : (u v w : ℕ) → u ≡ s.a → v ≡ turn.x → w ≡ turn.y → AreAlike (renamed s.b s.a old.from) (corners_from u v w) → AreAlike (renamed s.b s.a old.from) (corners_from s.a turn.x turn.y)
          moved_alike u v w e f g k = subst (λ z. AreAlike (renamed s.b s.a old.from) (corners_from s.a turn.x z)) g (subst (λ z. AreAlike (renamed s.b s.a old.from) (corners_from s.a z w)) f (subst (λ z. AreAlike (renamed s.b s.a old.from) (corners_from z v w)) e k))

  sided_first : (p x y : ℕ) → IsFace m p x y → AreSided m p x
  sided_first p x y f = inl (f.0, f.1, (f.2).steps p x ∙ step_one p x y)

  sided_third : (p x y : ℕ) → IsFace m p x y → AreSided m p y
  sided_third p x y f = inr (f.0, f.1, (f.2).steps y p ∙ step_three p x y)

  face_has : (p x y : ℕ) (f : IsFace m p x y) → HasThree f.0 p x y
  face_has p x y f = ((f.2).corners p ∙ corner_one p x y, (f.2).corners x ∙ corner_two p x y, (f.2).corners y ∙ corner_three p x y)

  -- two faces at the two ends
  across : (x y : ℕ) → x ≢ y → IsFace m s.a x y → IsFace m s.b y x → ⊥
  across x y apart f g =
      let at_x = plain.link x (sided_first s.a x y f) (sided_third s.b y x g) in
      let at_y = plain.link y (sided_third s.a x y f) (sided_first s.b y x g) in
      let one = face_has s.a x y f in
      let two = face_has s.b y x g in
      ⊎_elim
      (λ e. ⊎_elim
      (λ e'. apart (sym e ∙ e'))
      (λ e'. plain.one_cap f.0 g.0 f.1 g.1 (one.0, at f.0 e one.1, at f.0 e' one.2) (two.0, at g.0 e two.2, at g.0 e' two.1)) at_y)
      (λ e. ⊎_elim
      (λ e'. plain.one_cap f.0 g.0 f.1 g.1 (one.0, at f.0 e' one.2, at f.0 e one.1) (two.0, at g.0 e' two.1, at g.0 e two.2))
      (λ e'. apart (sym e ∙ e')) at_y)
      at_x
    where
      at : (k : Corners) {u v : ℕ} → u ≡ v → has_corner k v ≡ true → has_corner k u ≡ true
      at k e h = subst (λ z. has_corner k z ≡ true) (sym e) h

  never_faces : (p q x y : ℕ) → x ≢ y → (p ≡ s.a) ⊎ (p ≡ s.b) → (q ≡ s.a) ⊎ (q ≡ s.b) → IsFace m p x y → IsFace m q y x → ⊥
  never_faces p q x y apart is_p is_q f g = ⊎_elim
      (λ e. ⊎_elim
      (λ e'. plain.at_a x y (at e f) (back e' g))
      (λ e'. across x y apart (at e f) (back e' g)) is_q)
      (λ e. ⊎_elim
      (λ e'. across y x (λ k. apart (sym k)) (back e' g) (at e f))
      (λ e'. plain.at_b x y (at e f) (back e' g)) is_q)
      is_p
    where
      at : {z : ℕ} → p ≡ z → IsFace m p x y → IsFace m z x y
      at e k = subst (λ z. IsFace m z x y) e k

      back : {z : ℕ} → q ≡ z → IsFace m q y x → IsFace m z y x
      back e k = subst (λ z. IsFace m z y x) e k

  pub never : (c d : Corners) → Holds (two m s.a s.b sound closed beside.a_b) c → Holds (two m s.a s.b sound closed beside.a_b) d → has_corner c s.a ≡ true → are_opposite c d ≡ true → ⊥
  never c d h k has_a opposite =
      let f = from_end c h has_a in
      let to_a : follows d f.x s.a ≡ true = opposite_step c d s.a f.x opposite ((f.now).steps s.a f.x ∙ step_one s.a f.x f.y) in
      let from_a : follows d s.a f.y ≡ true = opposite_step c d f.y s.a opposite ((f.now).steps f.y s.a ∙ step_three s.a f.x f.y) in
      of_second f (from_end d k (step_corners d s.a f.y from_a).0) to_a from_a
    where
      of_second : (f : FromEnd c) (g : FromEnd d) → follows d f.x s.a ≡ true → follows d s.a f.y ≡ true → ⊥
      of_second f g to_a from_a =
          let y_is : g.x ≡ f.y = ⊎_elim
          (λ e. e.1)
          (λ rest. ⊎_elim (λ e. absurd (g.a_x (sym e.0))) (λ e. absurd (g.y_a e.0)) rest)
          (steps_of s.a g.x g.y s.a f.y (sym ((g.now).steps s.a f.y) ∙ from_a)) in
          let x_is : g.y ≡ f.x = ⊎_elim
          (λ e. absurd (g.a_x (sym e.1)))
          (λ rest. ⊎_elim (λ e. absurd (g.y_a e.1)) (λ e. e.0) rest)
          (steps_of s.a g.x g.y f.x s.a (sym ((g.now).steps f.x s.a) ∙ to_a)) in
          never_faces f.p g.p f.x f.y f.x_y f.is_end g.is_end f.was (subst (λ z. IsFace m g.p z f.x) y_is (subst (λ z. IsFace m g.p g.x z) x_is g.was))

  pub now_has : (c : Corners) → Holds m c → holds_both s.a s.b c ≡ false → Holds (joined_faces m s.a s.b) (renamed s.b s.a c)
  now_has c h single = three_has m s.a s.b sound closed beside.a_b never c h single
