-- Faces at a vertex whose rims are linked are one fan.
use Rattle.std.proofs.Common.{◌≡◌, ◌≢◌, ◌⊎◌, inl, inr, ⊎_elim, ℕ, zero, suc, ◌<◌, ◌≤◌, Bool, true, false, not, ◌==◌, ◌||◌, ◌&&◌, IsTrue, List, [], ◌∷◌, ◌++◌, length, get_or, set, Some, Result, Ok, Err, IfOk, refl, sym, ap, subst, ◌∙◌, arith}
use Rattle.std.specs.Prelude.{slice_get}
use Rattle.std.specs.List.{list_any}
use Rattle.std.proofs.lemmas.Bool.{false≢true, or_cases, or_left, or_right, eqb-true, ne_eqb, and_from, cases_lt, cases_order}
use Rattle.std.proofs.lemmas.List.{get_or-set_other, get_or_append_left, get_or_past, length-append}
use Rattle.std.proofs.Math.Seq.{get_or-append_seam}
use Rattle.std.proofs.lemmas.Option.{slice_get-get_or}
use Rattle.grid_base.specs.declared.NoMemory.{NoMemory}
use Rattle.mesh_base.specs.declared.ids.Corners.{Corners}
use Rattle.mesh_base.specs.Mesh.{Mesh}
use Rattle.mesh_base.specs.Sides.{has_corner, faces_at}
use Rattle.mesh_base.specs.Changes.{corner_list}
use Rattle.edit_base.specs.Edges.{corners_at}
use Rattle.edit_base.specs.Classes.{is_one_of, Linked, class_of}
use Rattle.edit_base.proofs.Chains.{Has, goes_on, linked_has, either_first, equal_itself}
use Rattle.edit_pinch.specs.Pinch.{share_second, fans}
use Rattle.edit_pinch.proofs.OneFan.{one_fan}
use Rattle.edit_pinch.proofs.Growing.{place_of}
use Rattle.pass_run.specs.VertexRims.{IsRim, AreRims, rims_meet, IsLinked, AreLinked, AreAllLinked}

-- a vertex that both have is shared
shares : (v u : ℕ) (c d : Corners) → u ≢ v → has_corner c u ≡ true → has_corner d u ≡ true → list_any (λ w. not (w == v) && has_corner d w) (corner_list c) ≡ true
shares v u c d other first second = ⊎_elim
    (λ h. ⊎_elim
    (λ i. or_left _ _ (here c.first (eqb-true c.first u i)))
    (λ i. or_right _ _ (or_left _ _ (here c.second (eqb-true c.second u i))))
    (or_cases (c.first == u) (c.second == u) h))
    (λ i. or_right _ _ (or_right _ _ (or_left _ _ (here c.third (eqb-true c.third u i)))))
    (or_cases (c.first == u || c.second == u) (c.third == u) first)
  where
    passes_test : (not (u == v) && has_corner d u) ≡ true
    passes_test = and_from (not (u == v)) (has_corner d u) (ap not (ne_eqb u v other)) second

    here : (w : ℕ) → w ≡ u → (not (w == v) && has_corner d w) ≡ true
    here w e = subst (λ z. (not (z == v) && has_corner d z) ≡ true) (sym e) passes_test

module _ (v : ℕ) (c d : Corners) (r s : ℕ × ℕ) (first : IsRim c v r) (second : IsRim d v s) where
  moved : (u w : ℕ) → (u == w) ≡ true → has_corner d w ≡ true → has_corner d u ≡ true
  moved u w e h = subst (λ z. has_corner d z ≡ true) (sym (eqb-true u w e)) h

  meet_shares : rims_meet r s ≡ true → list_any (λ w. not (w == v) && has_corner d w) (corner_list c) ≡ true
  meet_shares h = ⊎_elim
      (λ h. ⊎_elim
      (λ h. ⊎_elim
      (λ e. shares v r.0 c d first.first first.first_there (moved r.0 s.0 e second.first_there))
      (λ e. shares v r.0 c d first.first first.first_there (moved r.0 s.1 e second.second_there))
      (or_cases (r.0 == s.0) (r.0 == s.1) h))
      (λ e. shares v r.1 c d first.second first.second_there (moved r.1 s.0 e second.first_there))
      (or_cases (r.0 == s.0 || r.0 == s.1) (r.1 == s.0) h))
      (λ e. shares v r.1 c d first.second first.second_there (moved r.1 s.1 e second.second_there))
      (or_cases (r.0 == s.0 || r.0 == s.1 || r.1 == s.0) (r.1 == s.1) h)

-- a face at a place
has_place : (xs : List ℕ) (k : ℕ) → k < length xs → Has xs (get_or xs k 0)
has_place [] k below = absurd (omega arith)
has_place (x ∷ xs) zero below = either_first (x == x) (is_one_of xs x) (equal_itself x)
has_place (x ∷ xs) (suc k) below = or_right (x == get_or xs k 0) (is_one_of xs (get_or xs k 0)) (has_place xs k (omega arith))

inside : {X : Type 0} (xs : List X) (k : ℕ) (x : X) → slice_get xs k ≡ Some x → k < length xs
inside [] k x e = absurd cc
inside (y ∷ ys) zero x e = omega arith
inside (y ∷ ys) (suc k) x e = let h = inside ys k x e in omega (arith, h)

module _ (m : Mesh) (v : ℕ) (faces : List ℕ) (rims : List (ℕ × ℕ)) (are : AreRims m v faces rims) (some : 0 < length faces) where
  abbrev touch : ℕ → ℕ → Bool
  touch = share_second m v

  abbrev fan : List ℕ
  fan = class_of touch faces (get_or faces 0 0)

  in_fan : (k : ℕ) → IsLinked rims k → Has fan (get_or faces k 0)
  in_fan _ IsLinked.first = linked_has touch faces (get_or faces 0 0) (get_or faces 0 0) (has_place faces 0 some) Linked.itself
  in_fan _ (IsLinked.further {j = j} {k = k} l both) =
      let r = both.0 in
      let s = both.1.0 in
      let there = both.1.1.1.0 in
      goes_on touch faces (get_or faces 0 0) (get_or faces j 0) (get_or faces k 0) (in_fan j l)
      (has_place faces k (let low = inside rims k s there in omega (arith, low, are.long)))
      (meet_shares v (corners_at m (get_or faces j 0)) (corners_at m (get_or faces k 0)) r s (are.rim j r both.1.1.0) (are.rim k s there) both.1.1.1.1)

  pub rims_one_fan : faces ≡ faces_at m v → ((k : ℕ) → k < length rims → IsLinked rims k) → length (fans m v) ≡ 1
  rims_one_fan is linked =
      one_fan m v faces (get_or faces 0 0) fan is (sym (slice_get-get_or faces 0 0 some)) (λ g. refl)
      (λ g has. let at = place_of faces g has in let low = at.1 in subst (Has fan) at.2 (in_fan at.0 (linked at.0 (omega (arith, low, are.long)))))

-- told of an answer
pub fan_told : (m : Mesh) (v : ℕ) (faces : List ℕ) (rims : List (ℕ × ℕ)) (r : Result Bool NoMemory) → faces ≡ faces_at m v → AreRims m v faces rims → IfOk r (λ all. IsTrue all → AreAllLinked rims) → IfOk r (λ one. IsTrue one → length (fans m v) ≡ 1)
fan_told m v faces rims (Ok all) is are h = λ told. let found = h told in let some = found.some in rims_one_fan m v faces rims are (omega (arith, some, are.long)) is found.each
fan_told m v faces rims (Err e) is are h = tt

-- ---- lists that grow
same_rim : (x y : ℕ × ℕ) → Some x ≡ Some y → x ≡ y
same_rim x y e = cc

-- a rim more
pub rim_pushed : (P : ℕ → ℕ × ℕ → Type 0) (xs : List (ℕ × ℕ)) (x : ℕ × ℕ) (last : ℕ) → length xs ≡ last → P last x → ((k : ℕ) (r : ℕ × ℕ) → slice_get xs k ≡ Some r → P k r)
    → (k : ℕ) (r : ℕ × ℕ) → slice_get (xs ++ x ∷ []) k ≡ Some r → P k r
rim_pushed P [] x last long new old zero r e = subst (P 0) (same_rim x r e) (subst (λ n. P n x) (sym long) new)
rim_pushed P [] x last long new old (suc k) r e = absurd cc
rim_pushed P (y ∷ ys) x last long new old zero r e = old 0 r e
rim_pushed P (y ∷ ys) x last long new old (suc k) r e =
    rim_pushed (λ j s. P (suc j) s) ys x (length ys) refl (subst (λ n. P n x) (sym long) new) (λ j s there. old (suc j) s there) k r e

-- a mark more
pub mark_pushed : (marks : List Bool) (mark : Bool) → (mark ≡ true → length marks ≡ 0) → ((k : ℕ) → get_or marks k false ≡ true → k ≡ 0) → (k : ℕ) → get_or (marks ++ mark ∷ []) k false ≡ true → k ≡ 0
mark_pushed marks mark new old k h = ⊎_elim
    (λ low. old k (sym (get_or_append_left marks (mark ∷ []) false k low) ∙ h))
    (λ high. at_end (length marks) refl high)
    (cases_lt k (length marks))
  where
    at_end : (n : ℕ) → n ≡ length marks → n ≤ k → k ≡ 0
    at_end n is le = ⊎_elim
        (λ beyond. absurd (false≢true (sym (get_or_past (marks ++ mark ∷ []) k false (let long = length-append marks (mark ∷ []) in omega (arith, long, beyond, is))) ∙ h)))
        (λ here. let same : k ≡ length marks = omega (arith, here, le, is) in
        same ∙ new (sym (get_or-append_seam marks mark [] false) ∙ ap (λ j. get_or (marks ++ mark ∷ []) j false) (sym same) ∙ h))
        (cases_lt n k)

-- a rim that is marked
pub mark_set : (rims : List (ℕ × ℕ)) (marks : List Bool) (k : ℕ) → k < length marks → AreLinked rims marks → IsLinked rims k → AreLinked rims (set marks k true)
mark_set rims marks k low linked here j h = ⊎_elim
    (λ e. subst (IsLinked rims) (sym e) here)
    (λ apart. linked j (sym (get_or-set_other marks k j true false apart) ∙ h))
    (same_or_not j k)
  where
    same_or_not : (x y : ℕ) → (x ≡ y) ⊎ (x ≢ y)
    same_or_not x y = ⊎_elim (λ e. inl e) (λ r. inr (⊎_elim (λ lt e. omega (arith, lt, e)) (λ lt e. omega (arith, lt, e)) r)) (cases_order x y)
