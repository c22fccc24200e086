-- What trees of slabs have, and what is found in them.
use Rattle.std.proofs.Common.{◌≡◌, ◌∙◌, ⊎_elim, inl, inr, ◌⊎◌, ℕ, ◌+◌, ◌<◌, true, false, nat_eq, List, [], ◌∷◌, ◌++◌, length, get_or, Option, Some, None, Box, Global, refl, sym, ap, subst, arith}
use Rattle.std.specs.Prelude.{Result, IfOk, Ok, Err, slice_get}
use Rattle.std.proofs.lemmas.Option.{slice_get_read}
use Rattle.std.proofs.lemmas.Bool.{cases_lt, or_cases, or_left, or_right, eqb-true, eq-eqb, false≢true}
use Rattle.std.proofs.lemmas.List.Folds.{list_any-append}
use Rattle.cell_grid.specs.Filed.{has}
use Rattle.grid_base.specs.Extents.{IsIn}
use Rattle.grid_base.specs.Triples.{Triple}
use Rattle.box_tree.specs.Labels.{has_label}
use Rattle.box_tree.specs.declared.LabelledBox.{LabelledBox}
use Rattle.pair_paths.specs.declared.Frame.{Frame}
use Rattle.pair_paths.specs.declared.MovingEdge.{MovingEdge}
use Rattle.pair_paths.specs.declared.MovingFace.{MovingFace}
use Rattle.pair_paths.specs.Bounds.{AreBoxesOf}
use Rattle.pair_paths.specs.FaceBoxes.{IsFaceBoxIn}
use Rattle.pair_paths.proofs.Numbered.{same_some}
use Rattle.pair_candidates.specs.declared.across.Across.{Across}
use Rattle.pair_candidates.specs.declared.slabs.Slabs.{Slabs}
use Rattle.pair_candidates.specs.declared.slab_tree.SlabTree.{SlabTree}
use Rattle.pair_candidates.specs.declared.slab_tree.SlabTree.TheVariants.{Face, Halves'}
use Rattle.pair_candidates.specs.Slabs.{FaceGoesWith, IsAlong, HasPosition, HasFace, HasFaceAt, HasPlace, IsSound, HasPlaceIf, IsSoundIf, IsTreeOf, IsLeftOut, AreFoundIn}

-- ---- slabs that have what others have
pub has_more : (across : Across) (s t : Slabs) (f : MovingFace) → ((p : Triple) → IsIn s.at p → IsIn t.at p)
    → ((n p : Triple) → IsAlong n s.first p → IsAlong n t.first p) → ((n p : Triple) → IsAlong n s.second p → IsAlong n t.second p)
    → ((n : ℕ) → has_label t.labels n ≡ true → has_label s.labels n ≡ true) → HasFace across s f → HasFace across t f
has_more across s t f at first second labels h = record {
  c = more f.c.start h.c;
  d = more f.d.start h.d;
  e = more f.e.start h.e;
  labels = λ n k. h.labels n (labels n k);
}
  where
    more : (p : Triple) → HasPosition across s p → HasPosition across t p
    more p i = record { at = at p i.at; first = first across.first p i.first; second = second across.second p i.second }

-- ---- the slabs of a tree
module _ (across : Across) (faces : List MovingFace) (t : SlabTree) (i : ℕ) (sound : IsSound across faces t) (place : HasPlace t i) where
  pub face_slabs : (s : Slabs) (j : ℕ) → t ≡ Face s j → HasFaceAt across faces s i
  face_slabs s j is = subst (HasFaceAt across faces s) (subst (λ x. HasPlace x i) is place) (subst (IsSound across faces) is sound)

  pub halves_slabs : (s : Slabs) (p q : Box (Unit {0}) Global) (a b : SlabTree) → t ≡ Halves' s p a q b → HasFaceAt across faces s i
  halves_slabs s p q a b is = (subst (IsSound across faces) is sound).0 i (subst (λ x. HasPlace x i) is place)

-- ---- two trees as one
-- the slabs of both have the faces of both, and both are sound
abbrev pub AreSoundUnder : Across → List MovingFace → Slabs → SlabTree → SlabTree → Type 0
AreSoundUnder across faces both a b =
    ((i : ℕ) → HasPlace a i ⊎ HasPlace b i → HasFaceAt across faces both i) × (IsSound across faces a × IsSound across faces b)

-- so it is of trees that are these
pub joined_sound : (across : Across) (faces : List MovingFace) (a b a' b' : SlabTree) → a' ≡ a → b' ≡ b → (one other both : Slabs)
    → ((i : ℕ) → IsSound across faces a → HasPlace a i → HasFaceAt across faces one i) → ((i : ℕ) → IsSound across faces b → HasPlace b i → HasFaceAt across faces other i)
    → ((f : MovingFace) → HasFace across one f → HasFace across both f) → ((f : MovingFace) → HasFace across other f → HasFace across both f)
    → IsSound across faces a → IsSound across faces b → AreSoundUnder across faces both a' b'
joined_sound across faces a b a' b' e d one other both of_a of_b first second sa sb =
    subst (λ x. AreSoundUnder across faces both x b') (sym e) (subst (λ y. AreSoundUnder across faces both a y) (sym d)
    (λ i has. ⊎_elim (λ h f at. first f (of_a i sa h f at)) (λ h f at. second f (of_b i sb h f at)) has, (sa, sb)))

-- ---- trees of places
pub of_no_place : (across : Across) (faces : List MovingFace) (places : List ℕ) → places ≡ [] → IsTreeOf across faces places None
of_no_place across faces places none = record { sound = tt; each = λ i f at there. absurd (false≢true (subst (λ ps. has i ps ≡ true) none there)) }

-- the only place
only : (i j : ℕ) → has j (i ∷ []) ≡ true → j ≡ i
only i j there = ⊎_elim (λ same. eqb-true j i same) (λ none. absurd (false≢true none)) (or_cases (nat_eq j i) false there)

pub of_one : (across : Across) (faces : List MovingFace) (s : Slabs) (i : ℕ) (f : MovingFace) → slice_get faces i ≡ Some f → HasFace across s f → IsTreeOf across faces (i ∷ []) (Some (Face s i))
of_one across faces s i f at held = record {
  sound = λ g there. subst (HasFace across s) (same_some f g (sym at ∙ there)) held;
  each = λ j g there is. sym (only i j is);
}

pub of_no_face : (across : Across) (faces : List MovingFace) (i : ℕ) → slice_get faces i ≡ None → IsTreeOf across faces (i ∷ []) None
of_no_face across faces i none = record { sound = tt; each = λ j g there is. absurd (clash (sym (ap (slice_get faces) (only i j is) ∙ none) ∙ there)) }
  where
    clash : {X : Type 0} {x : X} → None ≡ Some x → ⊥
    clash e = cc

pub of_no_box : (across : Across) (frame : Frame) (faces : List MovingFace) (boxes : List LabelledBox) (i : ℕ) → AreBoxesOf (IsFaceBoxIn frame) faces boxes → slice_get boxes i ≡ None → IsTreeOf across faces (i ∷ []) None
of_no_box across frame faces boxes i boxed none = of_no_face across faces i (by_face (slice_get faces i) refl)
  where
    clash : {X : Type 0} {x : X} → None ≡ Some x → ⊥
    clash e = cc

    by_face : (o : Option MovingFace) → slice_get faces i ≡ o → o ≡ None
    by_face None is = refl
    by_face (Some f) is = absurd (clash (sym none ∙ (boxed.boxed i f is).1.0))

-- the box at a place is the face's
pub its_box : (frame : Frame) (faces : List MovingFace) (boxes : List LabelledBox) (i : ℕ) (f : MovingFace) (at : LabelledBox) → AreBoxesOf (IsFaceBoxIn frame) faces boxes → slice_get faces i ≡ Some f → slice_get boxes i ≡ Some at → IsFaceBoxIn frame f at
its_box frame faces boxes i f at boxed face box =
    let its = boxed.boxed i f face in subst (IsFaceBoxIn frame f) (same_some its.0 at (sym its.1.0 ∙ box)) its.1.1

-- one place of a list of one
pub one_place : (places : List ℕ) (d : ℕ) → length places ≡ 1 → places ≡ get_or places 0 d ∷ []
one_place [] d e = absurd (omega arith)
one_place (i ∷ []) d e = refl
one_place (i ∷ j ∷ js) d e = absurd (omega arith)

pub of_both : (across : Across) (faces : List MovingFace) (front back places : List ℕ) (a b t : Option SlabTree) → places ≡ front ++ back → IsTreeOf across faces front a → IsTreeOf across faces back b
    → (IsSoundIf across faces a → IsSoundIf across faces b → IsSoundIf across faces t) → ((i : ℕ) → HasPlaceIf a i ⊎ HasPlaceIf b i → HasPlaceIf t i) → IsTreeOf across faces places t
of_both across faces front back places a b t is of_a of_b sound place = record {
  sound = sound of_a.sound of_b.sound;
  each = λ i f at there. place i (⊎_elim (λ h. inl (of_a.each i f at h)) (λ h. inr (of_b.each i f at h))
      (or_cases (has i front) (has i back) (sym (list_any-append (nat_eq i) front back) ∙ ap (has i) (sym is) ∙ there)));
}

-- ---- what is found
module _ (e : MovingEdge) (across : Across) (faces : List MovingFace) where
  -- slabs that leave out what they have leave out all that the tree has
  pub left_out_below : (t : SlabTree) (s : Slabs) (near : List ℕ) → ((i : ℕ) → HasPlace t i → HasFaceAt across faces s i) → ((f : MovingFace) → HasFace across s f → IsLeftOut e f) → AreFoundIn faces e t near
  left_out_below t s near held left i f at place = inr (left f (held i place f at))

  pub found_one : (s : Slabs) (j : ℕ) (near : List ℕ) → has j near ≡ true → AreFoundIn faces e (Face s j) near
  found_one s j near there i f at place = inl (subst (λ k. has k near ≡ true) place there)

  pub found_both : (s : Slabs) (p q : Box (Unit {0}) Global) (a b : SlabTree) (near more : List ℕ) → AreFoundIn faces e a near → ((i : ℕ) → has i near ≡ true → has i more ≡ true) → AreFoundIn faces e b more → AreFoundIn faces e (Halves' s p a q b) more
  found_both s p q a b near more first kept second i f at place = ⊎_elim
      (λ h. ⊎_elim (λ there. inl (kept i there)) (λ left. inr left) (first i f at h))
      (λ h. second i f at h)
      place

-- ---- faces that go with the frame
-- the first i of them do
abbrev pub GoTo : Frame → List MovingFace → ℕ → Type 0
GoTo frame faces i = (k : ℕ) (f : MovingFace) → k < i → slice_get faces k ≡ Some f → FaceGoesWith frame f

pub one_goes : (frame : Frame) (faces : List MovingFace) (i : ℕ) (d : MovingFace) → i < length faces → d ≡ get_or faces i d → FaceGoesWith frame d → GoTo frame faces i → GoTo frame faces (i + 1)
one_goes frame faces i d inside item goes before k f lt at = ⊎_elim
    (λ below. before k f below at)
    (λ past.
    let same : k ≡ i = omega arith in
    let here : slice_get faces i ≡ Some d = slice_get_read faces (length faces) i d refl inside item in
    subst (FaceGoesWith frame) (same_some d f (sym here ∙ ap (slice_get faces) (sym same) ∙ at)) goes)
    (cases_lt k i)

-- a place that is put at the end is there, and so are those before
pub put_last : (xs ys : List ℕ) (j : ℕ) → ys ≡ xs ++ j ∷ [] → has j ys ≡ true
put_last xs ys j is = ap (has j) is ∙ list_any-append (nat_eq j) xs (j ∷ []) ∙ or_right (has j xs) _ (or_left (nat_eq j j) false (eq-eqb j j refl))

pub put_before : (xs ys : List ℕ) (j i : ℕ) → ys ≡ xs ++ j ∷ [] → has i xs ≡ true → has i ys ≡ true
put_before xs ys j i is there = ap (has i) is ∙ list_any-append (nat_eq i) xs (j ∷ []) ∙ or_left (has i xs) _ there

-- what follows from two facts of an answer that is Ok
pub both_ok : {A E : Type 0} (r : Result A E) {P Q R : A → Type 0} → ((x : A) → P x → Q x → R x) → IfOk r P → IfOk r Q → IfOk r R
both_ok (Ok x) f h i = f x h i
both_ok (Err e) f h i = h
