-- What a collapse leaves is clear, where at the end of the motion no old pair meets but those that hold both ends of the edge.
use Rattle.std.proofs.Common.{◌≡◌, ◌≢◌, ◌⊎◌, ⊎_elim, inl, inr, ℕ, ◌<◌, Bool, true, false, ◌&&◌, ◌||◌, ◌==◌, nat_lt, [], ◌∷◌, refl, sym, ap, subst, ◌∙◌, arith}
use Rattle.std.proofs.lemmas.Bool.{false≢true, eqb-true}
use Rattle.std.proofs.lemmas.Bool.Decides.{nat_tests}
use Rattle.std.specs.List.{list_any}
use Rattle.grid_base.specs.declared.Point.{Point}
use Rattle.grid_base.specs.Triples.{Triple, times}
use Rattle.grid_base.specs.Points.{position_of}
use Rattle.grid_base.specs.Meeting.{Meets, MeetAt}
use Rattle.grid_base.proofs.MeetingLaws.{Meets-multiple}
use Rattle.mesh_base.specs.declared.ids.Corners.{Corners}
use Rattle.mesh_base.specs.Mesh.{Mesh, IsSound, IsLiveVertex, HasCorners}
use Rattle.mesh_base.specs.Sides.{follows, has_corner, runs, IsEdge, IsClosed}
use Rattle.mesh_base.specs.Pairs.{Pair, IsPair}
use Rattle.mesh_base.specs.Placements.{rest_positions, rest_positions_doubled, position_or_origin, positions, IsClearMesh}
use Rattle.mesh_base.proofs.Listed.{running_face, or_either}
use Rattle.edit_base.specs.Scaffold.{joins_contacts}
use Rattle.edit_base.specs.Edges.{renamed}
use Rattle.edit_collapse.specs.Collapse.{joined_faces, collapse_mesh}
use Rattle.edit_acts.proofs.Exchanged.{Meets-exchanged}
use Rattle.edit_acts.proofs.FaceCorners.{step_one, step_two, step_three, steps_of, either_way, edge_of_step, edge_turned}
use Rattle.edit_collapse.proofs.Carried.{moved, tested, moved_either, moved_stays, moved_goes, which_corner}
use Rattle.edit_collapse.proofs.Joined.{Stage, first_held, second_held, third_held}
use Rattle.edit_collapse.proofs.JoinedFaces.{is_renamed, joined}
use Rattle.edit_collapse.proofs.CollapseMesh.{there_before, placed_at_a, stays_placed}

-- ---- renamed corners
-- where a corner goes is a corner
held_moved : (a b : ℕ) (k : Corners) (v : ℕ) → has_corner k v ≡ true → has_corner (renamed b a k) (moved b a v) ≡ true
held_moved a b k v held = ⊎_elim
    (λ e. first_held (renamed b a k) (moved b a v) (ap (moved b a) e))
    (λ es. ⊎_elim (λ e. second_held (renamed b a k) (moved b a v) (ap (moved b a) e)) (λ e. third_held (renamed b a k) (moved b a v) (ap (moved b a) e)) es)
    (which_corner k v held)

not_held : (a b : ℕ) (k : Corners) (v : ℕ) → has_corner (renamed b a k) (moved b a v) ≡ false → has_corner k v ≡ false
not_held a b k v lacks = by_test (has_corner k v) refl
  where
    by_test : (t : Bool) → has_corner k v ≡ t → has_corner k v ≡ false
    by_test true e = absurd (false≢true (sym lacks ∙ held_moved a b k v e))
    by_test false e = e

both_held : (c : Corners) (u v : ℕ) → follows c u v ≡ true → (has_corner c u ≡ true) × (has_corner c v ≡ true)
both_held c u v h = (grind (arith, nat_tests), grind (arith, nat_tests))

-- the ends of a step, before the renaming
record Before (a b : ℕ) (k : Corners) (x y : ℕ) : Type 0 where
  pub from : ℕ
  pub to : ℕ
  pub step : follows k from to ≡ true
  pub goes_from : moved b a from ≡ x
  pub goes_to : moved b a to ≡ y

before_of : (a b : ℕ) (k : Corners) (x y : ℕ) → follows (renamed b a k) x y ≡ true → Before a b k x y
before_of a b k x y step = ⊎_elim
    (λ e. record { from = k.first; to = k.second; step = step_one k.first k.second k.third; goes_from = e.0; goes_to = e.1 })
    (λ es. ⊎_elim
    (λ e. record { from = k.second; to = k.third; step = step_two k.first k.second k.third; goes_from = e.0; goes_to = e.1 })
    (λ e. record { from = k.third; to = k.first; step = step_three k.first k.second k.third; goes_from = e.0; goes_to = e.1 })
    es)
    (steps_of (moved b a k.first) (moved b a k.second) (moved b a k.third) x y step)

module _ (m : Mesh) (a b : ℕ) (at : Point) (sound : IsSound m) (closed : IsClosed m) (apart : a ≢ b) (a_live : IsLiveVertex m a) where
  abbrev three : Mesh
  three = joined_faces m a b

  abbrev result : Mesh
  result = collapse_mesh m a b at

  abbrev stage : Stage m a b three []
  stage = joined m a b sound apart closed

  -- an edge of the result comes from one of the old mesh
  record OldEdge (x y : ℕ) : Type 0 where
    pub from : ℕ
    pub to : ℕ
    pub edge : IsEdge m from to
    pub goes_from : moved b a from ≡ x
    pub goes_to : moved b a to ≡ y
    pub face : ℕ
    pub corners : Corners
    pub there : HasCorners three face corners
    pub holds_x : has_corner corners x ≡ true
    pub holds_y : has_corner corners y ≡ true

  old_step : (x y : ℕ) → 0 < runs result x y → OldEdge x y
  old_step x y some =
      let found = running_face result x y some in
      let there = there_before m a b at sound closed apart (found.0).0 (found.0).1 found.2 in
      let old = stage.came (found.0).0 (found.0).1 there in
      let before = before_of a b old.from x y (subst (λ c. follows c x y ≡ true) (is_renamed m a b sound apart three stage (found.0).0 (found.0).1 there) found.1) in
      let both = both_held (found.0).1 x y found.1 in
      record {
        from = before.from;
        to = before.to;
        edge = edge_of_step m old.face old.from before.from before.to old.there before.step;
        goes_from = before.goes_from;
        goes_to = before.goes_to;
        face = (found.0).0;
        corners = (found.0).1;
        there = there;
        holds_x = both.0;
        holds_y = both.1;
      }

  old_edge : (x y : ℕ) → IsEdge result x y → OldEdge x y
  old_edge x y edge = ⊎_elim (λ some. old_step x y some)
      (λ some. let e = old_step y x some in record {
        from = e.to;
        to = e.from;
        edge = edge_turned m e.from e.to e.edge;
        goes_from = e.goes_to;
        goes_to = e.goes_from;
        face = e.face;
        corners = e.corners;
        there = e.there;
        holds_x = e.holds_y;
        holds_y = e.holds_x;
      })
      (either_way (runs result x y) (runs result y x) edge)

  -- where the vertices end, in half units: both ends of the edge at the point, and each other one where it was
  module _ (end : ℕ → Triple) (joined_end : (v : ℕ) → (v ≡ a) ⊎ (v ≡ b) → end v ≡ times 2 (position_of at)) (other_end : (v : ℕ) → v ≢ a → v ≢ b → end v ≡ rest_positions_doubled m v)
      (apart_at_end : (p : Pair) → IsPair m p → joins_contacts (a ∷ b ∷ []) p ≡ false → ¬ (MeetAt (positions end p))) where
    -- a vertex ends where the result has the one that it becomes
    ends_there : (f : ℕ) (c : Corners) (v : ℕ) → HasCorners three f c → has_corner c (moved b a v) ≡ true → end v ≡ times 2 (rest_positions result (moved b a v))
    ends_there f c v there held = ⊎_elim
        (λ e. joined_end v (inr e.0) ∙ sym (ap (λ o. times 2 (position_or_origin o)) (placed_at_a m a b at sound closed apart a_live f c (moved b a v) there held e.1)))
        (λ e. ⊎_elim
        (λ is. joined_end v (inl is.1) ∙ sym (ap (λ o. times 2 (position_or_origin o)) (placed_at_a m a b at sound closed apart a_live f c (moved b a v) there held (e.1 ∙ is.1))))
        (λ not. other_end v not.1 e.0
        ∙ ap (λ w. rest_positions_doubled m w) (sym e.1)
        ∙ sym (ap (λ o. times 2 (position_or_origin o)) (stays_placed m a b at sound closed apart a_live f c (moved b a v) there held (λ h. not.1 (sym e.1 ∙ h)))))
        (tested v a))
        (moved_either b a v)

    -- a pair that comes from a pair of the result does not hold both ends of the edge
    goes_to_a : (v : ℕ) → (v ≡ a) ⊎ (v ≡ b) → moved b a v ≡ a
    goes_to_a v (inl e) = moved_stays b a v (λ h. apart (sym e ∙ h)) ∙ e
    goes_to_a v (inr e) = moved_goes b a v e

    not_two_held : (x y f : ℕ) (k : Corners) → has_corner (renamed b a k) (moved b a x) ≡ false → has_corner (renamed b a k) (moved b a y) ≡ false →
        joins_contacts (a ∷ b ∷ []) (record { name = record { a = x; b = y; face = f }; corners = k }) ≡ false
    not_two_held x y f k not_x not_y = and_never _ _ (λ t. ⊎_elim
        (λ e. none (⊎_elim (λ g. off x not_x (inl (eqb-true x a g))) (λ g. off y not_y (inl (eqb-true y a g))) (or_either (x == a) (y == a) e)))
        (λ es. none (⊎_elim (λ g. off x not_x (inr (eqb-true x b g))) (λ g. off y not_y (inr (eqb-true y b g))) (or_either (x == b) (y == b) (or_nothing _ es))))
        (or_either ((x == a) || (y == a)) _ t))
      where
        and_never : (p q : Bool) → (p ≡ true → q ≡ false) → (p && q) ≡ false
        and_never true q h = h refl
        and_never false q h = refl

        or_nothing : (p : Bool) → (p || false) ≡ true → p ≡ true
        or_nothing true e = refl
        or_nothing false e = e

        off : (v : ℕ) → has_corner (renamed b a k) (moved b a v) ≡ false → (v ≡ a) ⊎ (v ≡ b) → has_corner (renamed b a k) a ≡ false
        off v lacks is = subst (λ w. has_corner (renamed b a k) w ≡ false) (goes_to_a v is) lacks

        neither : (p q : Bool) → p ≡ false → q ≡ false → (p || (q || false)) ≡ false
        neither false false e g = refl
        neither true q e g = absurd (false≢true (sym e))
        neither false true e g = absurd (false≢true (sym g))

        none : has_corner (renamed b a k) a ≡ false → list_any (λ v. has_corner k v) (a ∷ b ∷ []) ≡ false
        none lacks = neither (has_corner k a) (has_corner k b)
            (not_held a b k a (subst (λ w. has_corner (renamed b a k) w ≡ false) (sym (goes_to_a a (inl refl))) lacks))
            (not_held a b k b (subst (λ w. has_corner (renamed b a k) w ≡ false) (sym (goes_to_a b (inr refl))) lacks))

    -- an old edge and an old face that become a pair
    never : (x y f : ℕ) (k : Corners) → x < y → IsEdge m x y → HasCorners m f k → has_corner (renamed b a k) (moved b a x) ≡ false → has_corner (renamed b a k) (moved b a y) ≡ false →
        Meets (end x) (end y) (end k.first) (end k.second) (end k.third) → ⊥
    never x y f k ordered edge there not_x not_y meets =
        apart_at_end (record { name = record { a = x; b = y; face = f }; corners = k })
        (record { ordered = ordered; edge = edge; face = there; not_first = not_held a b k x not_x; not_second = not_held a b k y not_y })
        (not_two_held x y f k not_x not_y) meets

    either_order : (x y : ℕ) → x ≢ y → (x < y) ⊎ (y < x)
    either_order x y h = by_test (nat_lt x y) refl
      where
        less : (x y : ℕ) → nat_lt x y ≡ true → x < y
        less x y e = grind (arith, nat_tests)

        more : (x y : ℕ) → x ≢ y → nat_lt x y ≡ false → y < x
        more x y h e = grind (arith, nat_tests)

        by_test : (t : Bool) → nat_lt x y ≡ t → (x < y) ⊎ (y < x)
        by_test true e = inl (less x y e)
        by_test false e = inr (more x y h e)

    pub collapse_is_clear : IsClearMesh result
    collapse_is_clear p is_pair meet =
        let e = old_edge p.name.a p.name.b is_pair.edge in
        let there = there_before m a b at sound closed apart p.name.face p.corners is_pair.face in
        let old = stage.came p.name.face p.corners there in
        let k = old.from in
        let same : p.corners ≡ renamed b a k = is_renamed m a b sound apart three stage p.name.face p.corners there in
        let not_x : has_corner (renamed b a k) (moved b a e.from) ≡ false = subst (λ c. has_corner c (moved b a e.from) ≡ false) same (subst (λ v. has_corner p.corners v ≡ false) (sym e.goes_from) is_pair.not_first) in
        let not_y : has_corner (renamed b a k) (moved b a e.to) ≡ false = subst (λ c. has_corner c (moved b a e.to) ≡ false) same (subst (λ v. has_corner p.corners v ≡ false) (sym e.goes_to) is_pair.not_second) in
        let at_x : end e.from ≡ times 2 (rest_positions result p.name.a) = ends_there e.face e.corners e.from e.there (subst (λ v. has_corner e.corners v ≡ true) (sym e.goes_from) e.holds_x) ∙ ap (λ v. times 2 (rest_positions result v)) e.goes_from in
        let at_y : end e.to ≡ times 2 (rest_positions result p.name.b) = ends_there e.face e.corners e.to e.there (subst (λ v. has_corner e.corners v ≡ true) (sym e.goes_to) e.holds_y) ∙ ap (λ v. times 2 (rest_positions result v)) e.goes_to in
        let here : HasCorners three p.name.face (renamed b a k) = subst (HasCorners three p.name.face) same there in
        let at_first = ends_there p.name.face (renamed b a k) k.first here (first_held (renamed b a k) (moved b a k.first) refl) ∙ ap (λ (c : Corners). times 2 (rest_positions result c.first)) (sym same) in
        let at_second = ends_there p.name.face (renamed b a k) k.second here (second_held (renamed b a k) (moved b a k.second) refl) ∙ ap (λ (c : Corners). times 2 (rest_positions result c.second)) (sym same) in
        let at_third = ends_there p.name.face (renamed b a k) k.third here (third_held (renamed b a k) (moved b a k.third) refl) ∙ ap (λ (c : Corners). times 2 (rest_positions result c.third)) (sym same) in
        let twice = Meets-multiple 2 (positions (rest_positions result) p) meet in
        let met : Meets (end e.from) (end e.to) (end k.first) (end k.second) (end k.third) =
        subst MeetAt (sym (λ i. record { a = at_x i; b = at_y i; c = at_first i; d = at_second i; e = at_third i })) twice in
        let two : e.from ≢ e.to = λ h. less_apart p.name.a p.name.b is_pair.ordered (sym e.goes_from ∙ ap (moved b a) h ∙ e.goes_to) in
        ⊎_elim
        (λ less. never e.from e.to old.face k less e.edge old.there not_x not_y met)
        (λ more. never e.to e.from old.face k more (edge_turned m e.from e.to e.edge) old.there not_y not_x (Meets-exchanged _ _ _ _ _ met))
        (either_order e.from e.to two)
      where
        less_apart : (x y : ℕ) → x < y → x ≢ y
        less_apart x y h same = omega arith
