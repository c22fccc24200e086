-- Where no touched face fails with one of the faces, no edge of the faces has a pair that is not as required.
use Rattle.std.proofs.Common.{◌≡◌, ℕ, ◌<◌, Bool, true, false, cond, not, ◌&&◌, ◌||◌, ◌==◌, nat_lt, int_le, List, [], ◌∷◌, Option, None, ◌⊎◌, ⊎_elim, inl, inr, refl, sym, ap, subst, ◌∙◌, arith}
use Rattle.std.proofs.lemmas.Bool.{false≢true, or_cases, eqb-true}
use Rattle.std.proofs.lemmas.Bool.Decides.{nat_tests}
use Rattle.std.specs.List.{fold, flat_map, list_any, AllByRecursion}
use Rattle.std.specs.Option.{option_map}
use Rattle.grid_base.specs.declared.Extent.{Extent}
use Rattle.grid_base.specs.Extents.{overlaps}
use Rattle.mesh_base.specs.declared.ids.Corners.{Corners}
use Rattle.mesh_base.specs.declared.ids.PairName.{PairName}
use Rattle.mesh_base.specs.Placements.{Motion}
use Rattle.mesh_base.specs.Sides.{follows, has_corner}
use Rattle.mesh_base.proofs.ListedPairs.{all_weaker, all_flat_mapped}
use Rattle.pair_paths.specs.declared.moving_parts.MovingEdge.{MovingEdge}
use Rattle.pair_paths.specs.declared.moving_parts.MovingFace.{MovingFace}
use Rattle.pair_paths.specs.Bounds.{HoldsEdge, HoldsFace}
use Rattle.pair_paths.specs.Moving.{moving_edge, moving_face}
use Rattle.pair_paths.specs.Pairing.{have_a_vertex_in_common, name_with}
use Rattle.edit_check.specs.declared.boxed.BoxedFace.{BoxedFace}
use Rattle.edit_check.specs.declared.terms.Terms.{Terms}
use Rattle.edit_check.specs.Boxed.{first_failing_boxed, is_side_of_boxed}
use Rattle.edit_check.specs.FacePairs.{upward, runs_down_beside, is_asked_elsewhere, side_fails, sides_fail, faces_fail, fails_with_some, some_touched_fail}
use Rattle.edit_check.specs.Failing.{fails}
use Rattle.edit_check.specs.Neighbourhood.{EdgeGoes, FaceGoes}
use Rattle.edit_check.specs.Searching.{first_near, with_edge, with_faces, edges_of}
use Rattle.edit_check.specs.Sides.{first_side, second_side, third_side, turned, is_run_by_some}
use Rattle.edit_check.proofs.Beyond.{none_found, first_and, second_and}
use Rattle.edit_check.proofs.Boxes.{does_apart}
use Rattle.edit_check.proofs.Edges.{each_of, side_goes, side_runs, turned_goes}
use Rattle.edit_check.proofs.Scans.{neither, step_corners}
use Rattle.edit_check.proofs.Settling.{none_there}

-- ---- lists
pub none_of : {X : Type 0} (test : X → Bool) (xs : List X) → list_any test xs ≡ false → AllByRecursion (λ x. test x ≡ false) xs
none_of test [] h = tt
none_of test (x ∷ xs) h = let two = neither (test x) (list_any test xs) h in (two.0, none_of test xs two.1)

pub picked : {X : Type 0} (P : X → Type 0) (test : X → Bool) (xs : List X) → AllByRecursion P xs → list_any test xs ≡ true → (x : X) × ((test x ≡ true) × P x)
picked P test [] h e = absurd (false≢true e)
picked P test (x ∷ xs) h e = ⊎_elim (λ t. (x, (t, h.0))) (λ t. picked P test xs h.1 t) (or_cases (test x) (list_any test xs) e)

pub all_both : {X : Type 0} (P Q R : X → Type 0) (xs : List X) → ((x : X) → P x → Q x → R x) → AllByRecursion P xs → AllByRecursion Q xs → AllByRecursion R xs
all_both P Q R [] make h k = tt
all_both P Q R (x ∷ xs) make h k = (make x h.0 k.0, all_both P Q R xs make h.1 k.1)

transposed : {X Y : Type 0} (R : X → Y → Type 0) (xs : List X) (ys : List Y) → AllByRecursion (λ x. AllByRecursion (R x) ys) xs → AllByRecursion (λ y. AllByRecursion (λ x. R x y) xs) ys
transposed R xs [] h = tt
transposed R xs (y ∷ ys) h = (
  all_weaker (λ x. AllByRecursion (R x) (y ∷ ys)) (λ x. R x y) xs (λ x k. k.0) h,
  transposed R xs ys (all_weaker (λ x. AllByRecursion (R x) (y ∷ ys)) (λ x. AllByRecursion (R x) ys) xs (λ x k. k.1) h),
)

-- ---- tests
pub no_and : (a b : Bool) → b ≡ false → (a && b) ≡ false
no_and true b h = h
no_and false b h = refl

pub or_true : (a b : Bool) → a ≡ true → (a || b) ≡ true
or_true true b h = refl
or_true false b h = absurd (false≢true h)

pub and_true : (a b : Bool) → b ≡ true → (a && b) ≡ a
and_true true b h = h
and_true false b h = refl

no_two : (a b : Bool) → a ≡ false → b ≡ false → (a || b) ≡ false
no_two true b h i = absurd (false≢true (sym h))
no_two false b h i = i

no_three : (a b c : Bool) → a ≡ false → b ≡ false → c ≡ false → (a || b || c) ≡ false
no_three a b c h i j = no_two (a || b) c (no_two a b h i) j

and_turned : (a b : Bool) → (a && b) ≡ (b && a)
and_turned true true = refl
and_turned true false = refl
and_turned false true = refl
and_turned false false = refl

or_turned : (a b : Bool) → (a || b) ≡ true → (b || a) ≡ true
or_turned true true h = refl
or_turned true false h = refl
or_turned false true h = refl
or_turned false false h = h

pub asked_does : (asked fail : Bool) → asked ≡ true → (not asked && fail) ≡ false
asked_does true fail h = refl
asked_does false fail h = absurd (false≢true h)

pub not_asked : (asked fail : Bool) → asked ≡ false → (not asked && fail) ≡ fail
not_asked true fail h = absurd (false≢true (sym h))
not_asked false fail h = refl

-- ---- boxes that are apart, and shared vertices
pub apart_does : (t : Terms) (faces touched : List BoxedFace) (own : Bool) (side : MovingEdge) (f : MovingFace) (box other : Extent) → HoldsEdge (upward side) box → HoldsFace f other → overlaps other box ≡ false
    → side_fails t faces touched own side f ≡ false
apart_does t faces touched own side f box other E F off =
    no_and (not (is_asked_elsewhere faces touched own side)) (fails t.touch t.together.now t.depth (upward side) f) (does_apart t.depth (upward side) f box other E F off t.touch t.together.now)

pub holds_up : (e : MovingEdge) (box : Extent) → HoldsEdge e box → HoldsEdge (upward e) box
holds_up e box h = by_test (nat_lt e.b e.a)
  where
    by_test : (down : Bool) → HoldsEdge (cond down (turned e) e) box
    by_test true = record { first = h.second; second = h.first }
    by_test false = h

apart_do : (t : Terms) (faces touched : List BoxedFace) (own : Bool) (f g : MovingFace) (box other : Extent) → HoldsFace f box → HoldsFace g other → overlaps other box ≡ false → sides_fail t faces touched own f g ≡ false
apart_do t faces touched own f g box other F G off = no_three (side_fails t faces touched own (first_side f) g) (side_fails t faces touched own (second_side f) g) (side_fails t faces touched own (third_side f) g)
    (does (first_side f) (record { first = F.c; second = F.d }))
    (does (second_side f) (record { first = F.d; second = F.e }))
    (does (third_side f) (record { first = F.e; second = F.c }))
  where
    does : (e : MovingEdge) → HoldsEdge e box → side_fails t faces touched own e g ≡ false
    does e E = apart_does t faces touched own e g box other (holds_up e box E) G off

overlaps_turned : (e f : Extent) → overlaps e f ≡ overlaps f e
overlaps_turned e f =
    let x = and_turned (int_le e.low.x f.high.x) (int_le f.low.x e.high.x) in
    let y = and_turned (int_le e.low.y f.high.y) (int_le f.low.y e.high.y) in
    let z = and_turned (int_le e.low.z f.high.z) (int_le f.low.z e.high.z) in
    λ i. x i && y i && z i

pub apart_faces_do : (t : Terms) (faces touched : List BoxedFace) (f g : MovingFace) (box other : Extent) → HoldsFace f box → HoldsFace g other → overlaps other box ≡ false → faces_fail t faces touched f g ≡ false
apart_faces_do t faces touched f g box other F G off =
    no_two (sides_fail t faces touched true f g) (sides_fail t faces touched false g f)
    (apart_do t faces touched true f g box other F G off) (apart_do t faces touched false g f other box G F (overlaps_turned box other ∙ off))

-- a side that shares a vertex with a face does not fail with it
pub shared_does : (t : Terms) (faces touched : List BoxedFace) (own : Bool) (e : MovingEdge) (f : MovingFace) → have_a_vertex_in_common e f ≡ true → side_fails t faces touched own e f ≡ false
shared_does t faces touched own e f h = no_and (not (is_asked_elsewhere faces touched own e)) (fails t.touch t.together.now t.depth (upward e) f) (by_test (nat_lt e.b e.a))
  where
    no : (share rest : Bool) → share ≡ true → (not share && rest) ≡ false
    no true rest i = refl
    no false rest i = absurd (false≢true i)

    by_test : (down : Bool) → fails t.touch t.together.now t.depth (cond down (turned e) e) f ≡ false
    by_test true = no (have_a_vertex_in_common (turned e) f) _ (or_turned (has_corner f.corners e.a) (has_corner f.corners e.b) h)
    by_test false = no (have_a_vertex_in_common e f) _ h

-- ---- sides that run up, and down
below : (a b : ℕ) → a < b → nat_lt a b ≡ true
below a b h = grind (arith, nat_tests)

not_below : (a b : ℕ) → a < b → nat_lt b a ≡ false
not_below a b h = grind (arith, nat_tests)

is_upward : (e : MovingEdge) → e.a < e.b → upward e ≡ e
is_upward e less = ap (λ t. cond t (turned e) e) (not_below e.a e.b less)

is_turned : (e : MovingEdge) → e.b < e.a → upward e ≡ turned e
is_turned e less = ap (λ t. cond t (turned e) e) (below e.b e.a less)

runs_not_down : (faces : List BoxedFace) (e : MovingEdge) → e.a < e.b → runs_down_beside faces e ≡ false
runs_not_down faces e less = ap (λ t. t && is_run_by_some e.b e.a faces) (not_below e.a e.b less)

side_turned : (a b : ℕ) (faces : List BoxedFace) → is_side_of_boxed b a faces ≡ is_side_of_boxed a b faces
side_turned a b [] = refl
side_turned a b (f ∷ faces) =
    let here = and_turned (has_corner f.face.corners b) (has_corner f.face.corners a) in
    let rest = side_turned a b faces in
    λ i. here i || rest i

-- ---- an edge along a side of a face of which no side fails, where the edge is not asked for elsewhere
module _ (w : Motion) (t : Terms) (faces touched : List BoxedFace) (own : Bool) (g : MovingFace) (a b : ℕ) (less : a < b) (free : is_asked_elsewhere faces touched own (moving_edge w a b) ≡ false) where
  abbrev Goal : Type 0
  Goal = fails t.touch t.together.now t.depth (moving_edge w a b) g ≡ false

  abbrev Does : ℕ → ℕ → Type 0
  Does u v = side_fails t faces touched own (moving_edge w u v) g ≡ false

  abbrev AllDo : Corners → ℕ → Type 0
  AllDo c id = sides_fail t faces touched own (moving_face w (id, c)) g ≡ false

  up : (u v : ℕ) → (u == a) ≡ true → (v == b) ≡ true → Does u v → Goal
  up u v i j h =
      let k : Does a b = subst (λ x. Does a x) (eqb-true v b j) (subst (λ x. Does x v) (eqb-true u a i) h) in
      subst (λ e. fails t.touch t.together.now t.depth e g ≡ false) (is_upward (moving_edge w a b) less)
      (sym (not_asked (is_asked_elsewhere faces touched own (moving_edge w a b)) (fails t.touch t.together.now t.depth (upward (moving_edge w a b)) g) free) ∙ k)

  all_three : (c : Corners) (id : ℕ) → AllDo c id → (Does c.first c.second × Does c.second c.third) × Does c.third c.first
  all_three c id fine =
      let one = side_fails t faces touched own (moving_edge w c.first c.second) g in
      let two = side_fails t faces touched own (moving_edge w c.second c.third) g in
      let last = neither (one || two) (side_fails t faces touched own (moving_edge w c.third c.first) g) fine in
      (neither one two last.0, last.1)

  runs_up : (c : Corners) (id : ℕ) → follows c a b ≡ true → AllDo c id → Goal
  runs_up c id runs fine =
      let all = all_three c id fine in
      ⊎_elim
      (λ two. ⊎_elim (λ e. at c.first c.second e all.0.0) (λ e. at c.second c.third e all.0.1) (or_cases (c.first == a && c.second == b) (c.second == a && c.third == b) two))
      (λ e. at c.third c.first e all.1)
      (or_cases ((c.first == a && c.second == b) || (c.second == a && c.third == b)) (c.third == a && c.first == b) runs)
    where
      at : (u v : ℕ) → (u == a && v == b) ≡ true → Does u v → Goal
      at u v e h = up u v (first_and (u == a) (v == b) e) (second_and (u == a) (v == b) e) h

  module _ (down_free : is_asked_elsewhere faces touched own (moving_edge w b a) ≡ false) where
    down : (u v : ℕ) → (u == b) ≡ true → (v == a) ≡ true → Does u v → Goal
    down u v i j h =
        let k : Does b a = subst (λ x. Does b x) (eqb-true v a j) (subst (λ x. Does x v) (eqb-true u b i) h) in
        subst (λ e. fails t.touch t.together.now t.depth e g ≡ false) (is_turned (moving_edge w b a) less)
        (sym (not_asked (is_asked_elsewhere faces touched own (moving_edge w b a)) (fails t.touch t.together.now t.depth (upward (moving_edge w b a)) g) down_free) ∙ k)

    same : (u : ℕ) → (u == a) ≡ true → (u == b) ≡ true → Goal
    same u i j =
        let one : u ≡ a = eqb-true u a i in
        let two : u ≡ b = eqb-true u b j in
        absurd (omega (arith, one, two, less))

    abbrev IsOne : Corners → ℕ → Type 0
    IsOne c v = ((c.first == v) ≡ true) ⊎ (((c.second == v) ≡ true) ⊎ ((c.third == v) ≡ true))

    one_of : (c : Corners) (v : ℕ) → has_corner c v ≡ true → IsOne c v
    one_of c v h = ⊎_elim
        (λ two. ⊎_elim (λ e. inl e) (λ e. inr (inl e)) (or_cases (c.first == v) (c.second == v) two))
        (λ e. inr (inr e))
        (or_cases ((c.first == v) || (c.second == v)) (c.third == v) h)

    has_both : (c : Corners) (id : ℕ) → has_corner c a ≡ true → has_corner c b ≡ true → AllDo c id → Goal
    has_both c id ca cb fine = at (one_of c a ca) (one_of c b cb)
      where
        all : (Does c.first c.second × Does c.second c.third) × Does c.third c.first
        all = all_three c id fine

        at : IsOne c a → IsOne c b → Goal
        at (inl i) (inl j) = same c.first i j
        at (inl i) (inr (inl j)) = up c.first c.second i j all.0.0
        at (inl i) (inr (inr j)) = down c.third c.first j i all.1
        at (inr (inl i)) (inl j) = down c.first c.second j i all.0.0
        at (inr (inl i)) (inr (inl j)) = same c.second i j
        at (inr (inl i)) (inr (inr j)) = up c.second c.third i j all.0.1
        at (inr (inr i)) (inl j) = up c.third c.first i j all.1
        at (inr (inr i)) (inr (inl j)) = down c.second c.third j i all.0.1
        at (inr (inr i)) (inr (inr j)) = same c.third i j

  -- it is asked for at the face that runs it up, if one of the list does, and else at any that has it as a side
  any_side : (list : List BoxedFace) → AllByRecursion (λ f. FaceGoes w f.face × (sides_fail t faces touched own f.face g ≡ false)) list
      → (is_run_by_some a b list ≡ false → is_asked_elsewhere faces touched own (moving_edge w b a) ≡ false)
      → (f : BoxedFace) → FaceGoes w f.face → sides_fail t faces touched own f.face g ≡ false → has_corner f.face.corners a ≡ true → has_corner f.face.corners b ≡ true → Goal
  any_side list all down_free f goes fine ca cb = by_test (is_run_by_some a b list) refl
    where
      by_test : (run : Bool) → is_run_by_some a b list ≡ run → Goal
      by_test true is =
          let k = picked (λ f. FaceGoes w f.face × (sides_fail t faces touched own f.face g ≡ false)) (λ f. follows f.face.corners a b) list all is in
          runs_up k.0.face.corners k.0.face.face k.1.0 (subst (λ x. sides_fail t faces touched own x g ≡ false) k.1.1.0 k.1.1.1)
      by_test false is = has_both (down_free is) f.face.corners f.face.face ca cb (subst (λ x. sides_fail t faces touched own x g ≡ false) goes fine)

-- ---- faces of which none fail
module _ (w : Motion) (t : Terms) (faces touched : List BoxedFace) (none : some_touched_fail t faces touched touched ≡ false)
    (go : AllByRecursion (λ f. FaceGoes w f.face) faces) (touched_go : AllByRecursion (λ f. FaceGoes w f.face) touched) where
  abbrev Do : BoxedFace → BoxedFace → Type 0
  Do f g = faces_fail t faces touched f.face g.face ≡ false

  own_does : (f g : BoxedFace) → Do f g → sides_fail t faces touched true f.face g.face ≡ false
  own_does f g h = (neither (sides_fail t faces touched true f.face g.face) (sides_fail t faces touched false g.face f.face) h).0

  other_does : (f g : BoxedFace) → Do f g → sides_fail t faces touched false g.face f.face ≡ false
  other_does f g h = (neither (sides_fail t faces touched true f.face g.face) (sides_fail t faces touched false g.face f.face) h).1

  abbrev DoesAll : BoxedFace → Type 0
  DoesAll f = AllByRecursion (Do f) faces

  abbrev IsDone : BoxedFace → Type 0
  IsDone g = AllByRecursion (λ f. Do f g) touched

  all_do : AllByRecursion DoesAll touched
  all_do = all_weaker (λ f. fails_with_some t faces touched f.face faces ≡ false) DoesAll touched (λ f h. none_of (λ g. faces_fail t faces touched f.face g.face) faces h)
      (none_of (λ f. fails_with_some t faces touched f.face faces) touched none)

  all_done : AllByRecursion IsDone faces
  all_done = transposed Do touched faces all_do

  abbrev first : MovingEdge → Option PairName
  first e = first_near t faces touched e

  none_named : (e : MovingEdge) (gs : List BoxedFace) → AllByRecursion (λ g. fails t.touch t.together.now t.depth e g.face ≡ false) gs → first_failing_boxed t.touch t.together.now t.depth e gs ≡ None
  none_named e gs h = ap (option_map (λ f. name_with e f.face)) (none_found (λ f. fails t.touch t.together.now t.depth e f.face) gs h)

  -- an edge that is a side of a face has none
  module _ (f : BoxedFace) (e : MovingEdge) (done : IsDone f) (goes : FaceGoes w f.face) (ca : has_corner f.face.corners e.a ≡ true) (cb : has_corner f.face.corners e.b ≡ true) (along : EdgeGoes w e) (less : e.a < e.b) where
    abbrev IsMet : BoxedFace → Type 0
    IsMet g = fails t.touch t.together.now t.depth e g.face ≡ false

    as_it_goes : (g : BoxedFace) → fails t.touch t.together.now t.depth (moving_edge w e.a e.b) g.face ≡ false → IsMet g
    as_it_goes g h = subst (λ k. fails t.touch t.together.now t.depth k g.face ≡ false) (sym along) h

    -- at a touched face that has it too
    own_side : (k : BoxedFace) → FaceGoes w k.face → has_corner k.face.corners e.a ≡ true → has_corner k.face.corners e.b ≡ true → (g : BoxedFace) → IsDone g → Do k g → IsMet g
    own_side k along_k ka kb g does fine =
        let all = all_both (λ f. FaceGoes w f.face) (λ f. Do f g) (λ f. FaceGoes w f.face × (sides_fail t faces touched true f.face g.face ≡ false)) touched (λ f go fine. (go, own_does f g fine)) touched_go does in
        as_it_goes g (any_side w t faces touched true g.face e.a e.b less (runs_not_down touched (moving_edge w e.a e.b) less) touched all (λ off. no_and (nat_lt e.a e.b) (is_run_by_some e.a e.b touched) off)
        k along_k (own_does k g fine) ka kb)

    -- where no touched face has it
    other_side : is_side_of_boxed e.a e.b touched ≡ false → (k : BoxedFace) → DoesAll k → Do k f → IsMet k
    other_side off k does fine =
        let all = all_both (λ h. FaceGoes w h.face) (Do k) (λ h. FaceGoes w h.face × (sides_fail t faces touched false h.face k.face ≡ false)) faces (λ h go fine. (go, other_does k h fine)) go does in
        as_it_goes k (any_side w t faces touched false k.face e.a e.b less
        (no_two (is_side_of_boxed e.a e.b touched) (runs_down_beside faces (moving_edge w e.a e.b)) off (runs_not_down faces (moving_edge w e.a e.b) less))
        faces all
        (λ not_run. no_two (is_side_of_boxed e.b e.a touched) (runs_down_beside faces (moving_edge w e.b e.a)) (side_turned e.a e.b touched ∙ off) (no_and (nat_lt e.a e.b) (is_run_by_some e.a e.b faces) not_run))
        f goes (other_does k f fine) ca cb)

    abbrev IsTouched : BoxedFace → Type 0
    IsTouched k = FaceGoes w k.face × DoesAll k

    has_none : first e ≡ None
    has_none = by_test (is_side_of_boxed e.a e.b touched) refl
      where
        own : is_side_of_boxed e.a e.b touched ≡ true → AllByRecursion IsMet faces
        own is =
            let k = picked IsTouched (λ g. has_corner g.face.corners e.a && has_corner g.face.corners e.b) touched
            (all_both (λ f. FaceGoes w f.face) DoesAll IsTouched touched (λ f go does. (go, does)) touched_go all_do) is in
            let ka = first_and (has_corner k.0.face.corners e.a) (has_corner k.0.face.corners e.b) k.1.0 in
            let kb = second_and (has_corner k.0.face.corners e.a) (has_corner k.0.face.corners e.b) k.1.0 in
            all_both IsDone (Do k.0) IsMet faces (own_side k.0 k.1.1.0 ka kb) all_done k.1.1.1

        by_test : (has : Bool) → is_side_of_boxed e.a e.b touched ≡ has → first_failing_boxed t.touch t.together.now t.depth e (cond has faces touched) ≡ None
        by_test true is = none_named e faces (own is)
        by_test false off = none_named e touched (all_both DoesAll (λ k. Do k f) IsMet touched (other_side off) all_do done)

  abbrev HasNone : MovingEdge → Type 0
  HasNone e = first e ≡ None

  none_round : (f : BoxedFace) → FaceGoes w f.face → IsDone f → AllByRecursion HasNone (edges_of faces f.face)
  none_round f goes done = each_of HasNone faces f.face (λ side which.
      let along = side_goes w f.face side goes which in
      let two = step_corners f.face.corners side.a side.b (side_runs f.face side which) in (
        λ up. has_none f side done goes two.0 two.1 along up,
        λ down. has_none f (turned side) done goes two.1 two.0 (turned_goes w side along) down,
      ))

  none_looked : AllByRecursion HasNone (flat_map (λ f. edges_of faces f.face) faces)
  none_looked = all_flat_mapped HasNone (λ f. edges_of faces f.face) faces
      (all_both (λ f. FaceGoes w f.face) IsDone (λ f. AllByRecursion HasNone (edges_of faces f.face)) faces none_round go all_done)

  stays_none : (es : List MovingEdge) → AllByRecursion HasNone es → fold (with_edge first) None es ≡ None
  stays_none [] h = refl
  stays_none (e ∷ es) h = ap (λ o. fold (with_edge first) o es) (none_there first None e h.0) ∙ stays_none es h.1

  -- nothing is found
  pub none_with_faces : with_faces t faces touched None faces ≡ None
  none_with_faces = stays_none (flat_map (λ f. edges_of faces f.face) faces) none_looked
