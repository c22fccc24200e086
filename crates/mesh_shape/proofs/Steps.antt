-- Lists of faults that are made face by face, as far as their first so many go.
use Rattle.std.proofs.Common.{◌≡◌, ℕ, suc, ◌<◌, ◌≤◌, ◌+◌, List, [], ◌∷◌, ◌++◌, length, take, drop, get_or, add-one, append_assoc, sym, ap, ◌∙◌}
use Rattle.std.proofs.Math.Seq.{drop-cons}
use Rattle.std.proofs.lemmas.List.{append-nil, drop_all}
use Rattle.mesh_base.specs.Given.{Faces}
use Rattle.mesh_shape.proofs.Prefixes.{same_before}

module _ {B : Type 0} (most : ℕ) (piece : ℕ → List ℕ → List B) (rest : ℕ → Faces → List B) (unrolled : (k : ℕ) (f : List ℕ) (fs : Faces) → rest k (f ∷ fs) ≡ piece k f ++ rest (k + 1) fs) (none : (k : ℕ) → rest k [] ≡ []) where
  -- those of a face and of the faces behind it
  pub next_piece : (faces : Faces) (i : ℕ) (d : List ℕ) → i < length faces → rest (i + 1) (drop i faces) ≡ piece (i + 1) (get_or faces i d) ++ rest (i + 1 + 1) (drop (i + 1) faces)
  next_piece faces i d h =
      ap (rest (i + 1)) (drop-cons faces i d h)
      ∙ unrolled (i + 1) (get_or faces i d) (drop (suc i) faces)
      ∙ ap (λ n. piece (i + 1) (get_or faces i d) ++ rest (i + 1 + 1) (drop n faces)) (sym (add-one i))

  -- one face more is put at the end
  pub piece_more : (faces : Faces) (i number : ℕ) (d : List ℕ) (old new whole : List B) → i < length faces → number ≡ i + 1 → take most (old ++ rest (i + 1) (drop i faces)) ≡ whole → take most new ≡ take most (old ++ piece number (get_or faces i d))
      → take most (new ++ rest (i + 1 + 1) (drop (i + 1) faces)) ≡ whole
  piece_more faces i number d old new whole h is so_far put =
      same_before most new (old ++ piece number (get_or faces i d)) (rest (i + 1 + 1) (drop (i + 1) faces)) put
      ∙ ap (λ n. take most ((old ++ piece n (get_or faces i d)) ++ rest (i + 1 + 1) (drop (i + 1) faces))) is
      ∙ ap (take most) (append_assoc old (piece (i + 1) (get_or faces i d)) (rest (i + 1 + 1) (drop (i + 1) faces)) ∙ ap (λ l. old ++ l) (sym (next_piece faces i d h)))
      ∙ so_far

  -- no face is left
  pub pieces_end : (faces : Faces) (i : ℕ) (list whole : List B) → length faces ≤ i → take most (list ++ rest (i + 1) (drop i faces)) ≡ whole → take most list ≡ whole
  pieces_end faces i list whole h so_far =
      ap (take most) (sym (append-nil list) ∙ ap (λ l. list ++ l) (sym (ap (rest (i + 1)) (drop_all i faces h) ∙ none (i + 1)))) ∙ so_far
