-- Lists of faults, and their lines.
use Rattle.std.proofs.Common.{◌≡◌, ℕ, zero, suc, ◌+◌, ◌<◌, ◌≤◌, ◌==◌, true, false, List, [], ◌∷◌, ◌++◌, length, map, take, drop, get_or, slice_get, add-one, append_assoc, refl, sym, ap, subst, ◌∙◌, arith}
use Rattle.std.specs.List.{flat_map}
use Rattle.std.proofs.Math.Seq.{drop-cons}
use Rattle.std.proofs.lemmas.Bool.{eqb-true}
use Rattle.std.proofs.lemmas.Bool.Decides.{nat_tests}
use Rattle.std.proofs.lemmas.List.{append-nil, drop_all, length-map, take-map, nil_from_length}
use Rattle.grid_base.specs.Points.{position_of}
use Rattle.mesh_base.specs.declared.MeshLists.{MeshLists}
use Rattle.mesh_base.specs.declared.ShapeFault.{ShapeFault}
use Rattle.mesh_base.specs.declared.limits.Scale.{Scale}
use Rattle.mesh_base.specs.Given.{mesh_under}
use Rattle.mesh_shape.specs.ShapeFaults.{shape_faults}
use Rattle.mesh_faults.specs.MeetingPairs.{meeting_pairs}
use Rattle.obj_text.specs.Views.{lists_view}
use Rattle.track_input.specs.Job.{mesh_of_lists}
use Rattle.track_input.proofs.ReadLemmas.{same_mesh}
use Rattle.track_check.specs.declared.fault.Fault.{Fault}
use Rattle.track_check.specs.Check.{shape_as_fault, pair_as_fault, faults_by, faults_in, fault_line}

-- ---- one line more
module _ (faults : List Fault) where
  pub line_more : (i : ℕ) (x : Fault) (old new whole : List ℕ) → i < length faults → x ≡ get_or faults i x → new ≡ old ++ fault_line x → old ++ flat_map fault_line (drop i faults) ≡ whole → new ++ flat_map fault_line (drop (i + 1) faults) ≡ whole
  line_more i x old new whole h is put so_far =
      ap (λ l. l ++ flat_map fault_line (drop (i + 1) faults)) put
      ∙ append_assoc old (fault_line x) (flat_map fault_line (drop (i + 1) faults))
      ∙ ap (λ k. old ++ flat_map fault_line (x ∷ drop k faults)) (add-one i)
      ∙ ap (λ y. old ++ flat_map fault_line (y ∷ drop (suc i) faults)) is
      ∙ ap (λ l. old ++ flat_map fault_line l) (sym (drop-cons faults i x h))
      ∙ so_far

  pub lines_end : (i : ℕ) (text whole : List ℕ) → length faults ≤ i → text ++ flat_map fault_line (drop i faults) ≡ whole → text ≡ whole
  lines_end i text whole h so_far = sym (append-nil text) ∙ ap (λ l. text ++ flat_map fault_line l) (sym (drop_all i faults h)) ∙ so_far

-- ---- what is wrong with lists that were read
same_faults : (scale : Scale) (lists : MeshLists) → faults_in scale (lists_view lists) ≡ faults_by (shape_faults scale (length lists.points) lists.faces) (mesh_under scale lists.points lists.faces)
same_faults scale lists =
    ap (λ n. faults_by (shape_faults scale n lists.faces) (mesh_of_lists scale (lists_view lists))) (length-map lists.points position_of)
    ∙ ap (faults_by (shape_faults scale (length lists.points) lists.faces)) (same_mesh scale lists)

-- the faults of shape, where there is one
pub with_shape : (scale : Scale) (lists : MeshLists) (most : ℕ) (found told : List ShapeFault) → found ≡ take most (shape_faults scale (length lists.points) lists.faces) → 0 < length found → told ≡ found → map shape_as_fault told ≡ take most (faults_in scale (lists_view lists))
with_shape scale lists most found told is any same =
    let all : List ShapeFault = shape_faults scale (length lists.points) lists.faces in
    ap (map shape_as_fault) (same ∙ is)
    ∙ sym (take-map shape_as_fault most all)
    ∙ ap (take most) (by_found all (some_of most all (subst (λ l. 0 < length l) is any)) ∙ sym (same_faults scale lists))
  where
    some_of : (n : ℕ) (l : List ShapeFault) → 0 < length (take n l) → 0 < length l
    some_of zero l h = absurd (omega arith)
    some_of (suc n) [] h = absurd (omega arith)
    some_of (suc n) (f ∷ fs) h = omega arith

    by_found : (l : List ShapeFault) → 0 < length l → map shape_as_fault l ≡ faults_by l (mesh_under scale lists.points lists.faces)
    by_found [] h = absurd (omega arith)
    by_found (f ∷ fs) h = refl

-- where none is among the first, there is none
pub none_taken : (n : ℕ) (found all : List ShapeFault) → 0 < n → found ≡ take n all → found ≡ [] → all ≡ []
none_taken n found all some is none = none_of n all some (sym is ∙ none)
  where
    none_of : (n : ℕ) (l : List ShapeFault) → 0 < n → take n l ≡ [] → l ≡ []
    none_of zero l h e = absurd (omega arith)
    none_of (suc n) [] h e = refl
    none_of (suc n) (f ∷ fs) h e = let count = ap length e in absurd (omega (arith, count))

-- the pairs, where there is none
pub with_pairs : (scale : Scale) (lists : MeshLists) (most : ℕ) (found : List ShapeFault) → 0 < most → found ≡ take most (shape_faults scale (length lists.points) lists.faces) → found ≡ [] → map pair_as_fault (take most (meeting_pairs (mesh_under scale lists.points lists.faces))) ≡ take most (faults_in scale (lists_view lists))
with_pairs scale lists most found some is none =
    sym (take-map pair_as_fault most (meeting_pairs (mesh_under scale lists.points lists.faces)))
    ∙ ap (take most) (ap (λ l. faults_by l (mesh_under scale lists.points lists.faces)) (sym (none_taken most found (shape_faults scale (length lists.points) lists.faces) some is none)) ∙ sym (same_faults scale lists))

-- ---- by the length that is kept
pub none_if : {A : Type 0} (xs : List A) (count : ℕ) → count ≡ length xs → (count == 0) ≡ true → xs ≡ []
none_if xs count is h = nil_from_length xs (sym is ∙ eqb-true count 0 h)

pub some_if : {A : Type 0} (xs : List A) (count : ℕ) → count ≡ length xs → (count == 0) ≡ false → 0 < length xs
some_if xs count is h = let some = above_none count h in omega (arith, some, is)
  where
    above_none : (n : ℕ) → (n == 0) ≡ false → 0 < n
    above_none n e = grind (arith, nat_tests)

-- ---- the first of those that are told is the first of all
pub first_taken : {A : Type 0} (n : ℕ) (xs : List A) → slice_get (take (suc n) xs) 0 ≡ slice_get xs 0
first_taken n [] = refl
first_taken n (x ∷ xs) = refl
