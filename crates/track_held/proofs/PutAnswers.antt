-- Rows are put into a buffer one after another, and edits are read from rows.
use Rattle.std.proofs.Common.{◌≡◌, ℕ, zero, suc, ◌+◌, ◌<◌, ◌≤◌, List, [], ◌∷◌, ◌++◌, take, drop, get_or, length, map, Option, Some, None, refl, sym, ap, ◌∙◌, arith, add-one}
use Rattle.std.specs.Prelude.{slice_set}
use Rattle.std.proofs.lemmas.List.{drop_more, drop_all}
use Rattle.edit_base.specs.declared.Asked.{Asked}
use Rattle.track_held.specs.declared.given_edits.GivenEdit.{GivenEdit}
use Rattle.track_held.specs.Editing.{edit_asked, asked_then, edits_add}

module _ {X Y : Type 0} (f : X → Y) where
  put_here : (xs : List X) (ys : List Y) (i : ℕ) (x : X) → i < length xs → i < length ys → x ≡ get_or xs i x → slice_set (map f (take i xs) ++ drop i ys) i (f x) ≡ map f (take (suc i) xs) ++ drop (suc i) ys
  put_here [] ys i x h k at = absurd (omega arith)
  put_here (z ∷ xs) [] i x h k at = absurd (omega arith)
  put_here (z ∷ xs) (y ∷ ys) zero x h k at = ap (λ w. f w ∷ ys) at
  put_here (z ∷ xs) (y ∷ ys) (suc i) x h k at = ap (λ l. f z ∷ l) (put_here xs ys i x (omega arith) (omega arith) at)

  -- one more is put
  pub put_more : (xs : List X) (ys now after : List Y) (i : ℕ) (x : X) → i < length xs → length xs ≤ length ys → x ≡ get_or xs i x → now ≡ map f (take i xs) ++ drop i ys → after ≡ slice_set now i (f x) → after ≡ map f (take (i + 1) xs) ++ drop (i + 1) ys
  put_more xs ys now after i x h room at e set =
      set ∙ ap (λ l. slice_set l i (f x)) e ∙ put_here xs ys i x h (omega arith) at ∙ ap (λ n. map f (take n xs) ++ drop n ys) (sym (add-one i))

  pub put_length : (xs : List X) (ys : List Y) (i : ℕ) → i ≤ length xs → length xs ≤ length ys → length (map f (take i xs) ++ drop i ys) ≡ length ys
  put_length xs ys zero h room = refl
  put_length [] ys (suc i) h room = absurd (omega arith)
  put_length (x ∷ xs) [] (suc i) h room = absurd (omega arith)
  put_length (x ∷ xs) (y ∷ ys) (suc i) h room = ap suc (put_length xs ys i (omega arith) (omega arith))

  -- there is a place for the next
  pub put_room : (xs : List X) (ys now : List Y) (i : ℕ) → i < length xs → length xs ≤ length ys → now ≡ map f (take i xs) ++ drop i ys → i < length now
  put_room xs ys now i h room e = let same : length now ≡ length ys = ap length e ∙ put_length xs ys i (omega arith) room in omega (arith, same)

  -- all are put
  pub put_all : (xs : List X) (ys now : List Y) (i : ℕ) → i ≤ length xs → length xs ≤ i → now ≡ map f (take i xs) ++ drop i ys → now ≡ map f xs ++ drop (length xs) ys
  put_all xs ys now i low high e =
      let same : i ≡ length xs = omega arith in
      e ∙ ap (λ n. map f (take n xs) ++ drop n ys) same ∙ ap (λ l. map f l ++ drop (length xs) ys) (take_whole xs)
    where
      take_whole : (l : List X) → take (length l) l ≡ l
      take_whole [] = refl
      take_whole (x ∷ l) = ap (λ (t : List X). x ∷ t) (take_whole l)

-- ---- rows, one after another
module _ (rows : List GivenEdit) (i : ℕ) (done : List Asked) (all : Option (List Asked)) (so_far : edits_add done (drop i rows) ≡ all) where
  next_row : (row : GivenEdit) → i < length rows → row ≡ get_or rows i row → edits_add done (row ∷ drop (i + 1) rows) ≡ all
  next_row row h at = ap (λ r. edits_add done (r ∷ drop (i + 1) rows)) at ∙ sym (ap (edits_add done) (drop_more rows i row h)) ∙ so_far

  pub row_more : (row : GivenEdit) (what : Asked) (now : List Asked) → i < length rows → row ≡ get_or rows i row → Some what ≡ edit_asked row → now ≡ done ++ what ∷ [] → edits_add now (drop (i + 1) rows) ≡ all
  row_more row what now h at is more =
      ap (λ l. edits_add l (drop (i + 1) rows)) more ∙ ap (λ o. asked_then o done (λ l. edits_add l (drop (i + 1) rows))) is ∙ next_row row h at

  pub row_none : (row : GivenEdit) → i < length rows → row ≡ get_or rows i row → None ≡ edit_asked row → None ≡ all
  row_none row h at is = ap (λ o. asked_then o done (λ l. edits_add l (drop (i + 1) rows))) is ∙ next_row row h at

  pub rows_all : length rows ≤ i → Some done ≡ all
  rows_all end = sym (ap (edits_add done) (drop_all i rows end)) ∙ so_far
