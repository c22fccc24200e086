-- What a call does to the marks that were made.
use Rattle.std.proofs.Common.{◌≡◌, ◌⊎◌, ℕ, zero, suc, ◌<◌, List, [], ◌∷◌, ◌++◌, Some, map, take, length, slice_get, slice_index_or, refl, sym, ap, subst, ◌∙◌, inl, inr, ⊎_elim, arith}
use Rattle.std.specs.Option.{unwrap_or}
use Rattle.std.proofs.lemmas.List.{length-take, length-append}
use Rattle.std.proofs.lemmas.Option.{slice_get_within}
use Rattle.mesh_base.specs.declared.marks.Mark.{Mark}
use Rattle.mesh_base.specs.Mesh.{Mesh}
use Rattle.mesh_base.specs.Kept.{BeginsWith, MarkHolds, StandsFor}
use Rattle.mesh_base.proofs.MarksHold.{slice_get-take, fits, holds_along}
use Rattle.mesh_base.specs.Given.{empty_mesh}
use Rattle.mesh_play.specs.Play.{PlayState, mesh_at_mark, meshes_at_marks, AreMarks}

same_there : (new old : List Mesh) (i : ℕ) → BeginsWith new old → i < length old → slice_get new i ≡ slice_get old i
same_there new old i h less = sym (slice_get-take (length old) i new less) ∙ ap (λ kept. slice_get kept i) h

pub same_played : (m n : Mesh) (k l : List Mesh) → m ≡ n → k ≡ l → ◌≡◌ {A = PlayState} (record { mesh = m; marked = k }) (record { mesh = n; marked = l })
same_played m n k l e e' = λ i. record { mesh = e i; marked = e' i }

same_stood : (new old : List Mesh) (k : Mark) → slice_get new k.place ≡ slice_get old k.place → mesh_at_mark new k ≡ mesh_at_mark old k
same_stood new old k e = ap (λ o. unwrap_or o empty_mesh) e

map_same : {A B : Type 0} (f g : A → B) (xs : List A) → ((i : ℕ) (x : A) → slice_get xs i ≡ Some x → f x ≡ g x) → map f xs ≡ map g xs
map_same f g [] h = refl
map_same f g (x ∷ xs) h = ap (λ y. y ∷ map f xs) (h 0 x refl) ∙ ap (λ ys. g x ∷ ys) (map_same f g xs (λ i y e. h (suc i) y e))

map_push : {A B : Type 0} (f : A → B) (xs : List A) (x : A) → map f (xs ++ x ∷ []) ≡ map f xs ++ f x ∷ []
map_push f [] x = refl
map_push f (y ∷ xs) x = ap (λ ys. f y ∷ ys) (map_push f xs x)

map_take : {A B : Type 0} (f : A → B) (n : ℕ) (xs : List A) → map f (take n xs) ≡ take n (map f xs)
map_take f zero xs = refl
map_take f (suc n) [] = refl
map_take f (suc n) (x ∷ xs) = ap (λ ys. f x ∷ ys) (map_take f n xs)

map_at : {A B : Type 0} (f : A → B) (xs : List A) (i : ℕ) (x : A) (d : B) → slice_get xs i ≡ Some x → slice_index_or (map f xs) i d ≡ f x
map_at f [] i x d h = cc
map_at f (y ∷ xs) zero x d h = let same : y ≡ x = cc in ap f same
map_at f (y ∷ xs) (suc i) x d h = map_at f xs i x d h

of_front : {A : Type 0} (n : ℕ) (xs : List A) (i : ℕ) (x : A) → slice_get (take n xs) i ≡ Some x → (i < n) × (slice_get xs i ≡ Some x)
of_front n xs i x h =
    let inside : i < length (take n xs) = slice_get_within (take n xs) i x h in
    let low : i < n = omega (arith, length-take n xs) in
    (low, sym (slice_get-take n i xs low) ∙ h)

pushed_cases : {A : Type 0} (xs : List A) (x y : A) (i : ℕ) → slice_get (xs ++ x ∷ []) i ≡ Some y → (slice_get xs i ≡ Some y) ⊎ ((i ≡ length xs) × (x ≡ y))
pushed_cases [] x y zero h = inr (refl, cc)
pushed_cases [] x y (suc i) h = cc
pushed_cases (z ∷ xs) x y zero h = inl h
pushed_cases (z ∷ xs) x y (suc i) h = ⊎_elim (λ old. inl old) (λ new. inr (ap suc new.0, new.1)) (pushed_cases xs x y i h)

-- a call that leaves what was kept leaves the meshes of the marks
pub marked_along : (beyond : ℕ) (new old : List Mesh) (marks : List Mark) → AreMarks beyond old marks → BeginsWith new old → meshes_at_marks new marks ≡ meshes_at_marks old marks
marked_along beyond new old marks are h = map_same (mesh_at_mark new) (mesh_at_mark old) marks (λ i m e. same_stood new old m (same_there new old m.place h (are.hold i m e).kept_there))

-- a mark was made
pub marked_made : (beyond : ℕ) (new old : List Mesh) (marks : List Mark) (mark : Mark) (m : Mesh) → AreMarks beyond old marks → BeginsWith new old → StandsFor new mark m → meshes_at_marks new (marks ++ mark ∷ []) ≡ meshes_at_marks old marks ++ m ∷ []
marked_made beyond new old marks mark m are h stands =
    map_push (mesh_at_mark new) marks mark
    ∙ ap (λ ms. ms ++ mesh_at_mark new mark ∷ []) (marked_along beyond new old marks are h)
    ∙ ap (λ o. meshes_at_marks old marks ++ unwrap_or o empty_mesh ∷ []) stands

pub marks_made : (beyond : ℕ) (new old : List Mesh) (marks : List Mark) (mark : Mark) → AreMarks beyond old marks → BeginsWith new old → MarkHolds beyond new mark → mark.under ≡ length old → AreMarks beyond new (marks ++ mark ∷ [])
marks_made beyond new old marks mark are h holds under = record {
  hold = λ i k e. ⊎_elim (λ was. holds_along beyond new old k h (are.hold i k was)) (λ is. subst (MarkHolds beyond new) is.1 holds) (pushed_cases marks mark k i e);
  nested = λ i j k l less e e'. ⊎_elim
      (λ was. ⊎_elim (λ was'. are.nested i j k l less was was') (λ is'. let there = (are.hold i k was).kept_there in let same : mark.under ≡ l.under = ap (λ (x : Mark). x.under) is'.1 in omega (arith, there, same, under)) (pushed_cases marks mark l j e'))
      (λ is. absurd (let inside = slice_get_within (marks ++ mark ∷ []) j l e' in omega (arith, inside, length-append marks (mark ∷ []), is.0)))
      (pushed_cases marks mark k i e);
}

-- a return to the mark at a place
place_below : (beyond : ℕ) (old : List Mesh) (marks : List Mark) (nth : ℕ) (mark : Mark) → AreMarks beyond old marks → slice_get marks nth ≡ Some mark → (i : ℕ) (k : Mark) → slice_get (take nth marks) i ≡ Some k → (k.place < mark.under) × (k.place < length old)
place_below beyond old marks nth mark are is i k e =
    let front = of_front nth marks i k e in (are.nested i nth k mark front.0 front.1 is, (are.hold i k front.1).kept_there)

inside_front : (old : List Mesh) (place under : ℕ) → place < under → place < length old → place < length (take under old)
inside_front old place under h h' = omega (arith, length-take under old)

pub marked_back : (beyond : ℕ) (new old : List Mesh) (marks : List Mark) (nth : ℕ) (mark : Mark) → AreMarks beyond old marks → slice_get marks nth ≡ Some mark → BeginsWith new (take mark.under old) → meshes_at_marks new (take nth marks) ≡ take nth (meshes_at_marks old marks)
marked_back beyond new old marks nth mark are is h =
    map_same (mesh_at_mark new) (mesh_at_mark old) (take nth marks) (λ i k e.
    let low = place_below beyond old marks nth mark are is i k e in
    same_stood new old k (same_there new (take mark.under old) k.place h (inside_front old k.place mark.under low.0 low.1) ∙ slice_get-take mark.under k.place old low.0))
    ∙ map_take (mesh_at_mark old) nth marks

pub marks_back : (beyond : ℕ) (new old : List Mesh) (marks : List Mark) (nth : ℕ) (mark : Mark) → AreMarks beyond old marks → slice_get marks nth ≡ Some mark → BeginsWith new (take mark.under old) → AreMarks beyond new (take nth marks)
marks_back beyond new old marks nth mark are is h = record {
  hold = λ i k e.
      let low = place_below beyond old marks nth mark are is i k e in
      let there : k.place < length new = let some = inside_front old k.place mark.under low.0 low.1 in let all = fits new (take mark.under old) h in omega (arith, some, all) in
      record { kept_there = there; under_near = (are.hold i k (of_front nth marks i k e).1).under_near };
  nested = λ i j k l less e e'. are.nested i j k l less (of_front nth marks i k e).1 (of_front nth marks j l e').1;
}

-- the mesh gone back to is the one of the mark
pub mesh_back : (old : List Mesh) (marks : List Mark) (nth : ℕ) (mark : Mark) (m n : Mesh) → slice_get marks nth ≡ Some mark → StandsFor old mark m → m ≡ slice_index_or (meshes_at_marks old marks) nth n
mesh_back old marks nth mark m n is stands = sym (map_at (mesh_at_mark old) marks nth mark n is ∙ ap (λ o. unwrap_or o empty_mesh) stands)

-- a call that leaves what was kept leaves the marks
pub marks_along : (beyond : ℕ) (new old : List Mesh) (marks : List Mark) → AreMarks beyond old marks → BeginsWith new old → AreMarks beyond new marks
marks_along beyond new old marks are h = record {
  hold = λ i m e. holds_along beyond new old m h (are.hold i m e);
  nested = are.nested;
}
