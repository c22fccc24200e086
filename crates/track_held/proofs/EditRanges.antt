-- What rows ask is in the ranges of the log.
use Rattle.std.proofs.Common.{◌≡◌, ℕ, ◌+◌, ◌≤◌, ◌==◌, ◌&&◌, Bool, true, false, cond, nat_lt, List, [], ◌∷◌, ◌++◌, length, length-append, Option, Some, None, refl, ap, subst, arith}
use Rattle.std.specs.List.{AllByRecursion}
use Rattle.std.proofs.lemmas.Bool.Decides.{nat_tests}
use Rattle.grid_base.specs.declared.TheConstants.{ID_MAX}
use Rattle.edit_base.specs.declared.Asked.{Asked}
use Rattle.edit_base.specs.declared.Asked.TheVariants as asked
use Rattle.log_read.specs.Laws.{IsFrom, IsEdgeInRange, IsAskedInRange}
use Rattle.track_held.specs.declared.given_edits.GivenEdit.{GivenEdit}
use Rattle.track_held.specs.Editing.{is_id, ends, edge_edit, zip_edit, edit_asked, asked_then, edits_add, RowsAskInRange, RowsAskEach}

id_fits : (v : ℕ) → is_id v ≡ true → IsFrom 1 ID_MAX v
id_fits v e = (grind (arith, nat_tests), grind (arith, nat_tests))

above_is : (a b : ℕ) → nat_lt a b ≡ true → a + 1 ≤ b
above_is a b e = grind (arith, nat_tests)

-- two ends that are found are in range
abbrev AreEnds : Option (ℕ × ℕ) → Type 0
AreEnds None = Unit {0}
AreEnds (Some e) = IsEdgeInRange e.0 e.1

edge_fits : (a b : ℕ) → AreEnds (ends a b)
edge_fits a b = by_ids (is_id a) (is_id b) refl refl
  where
    by_order : (u v : Bool) → nat_lt a b ≡ u → nat_lt b a ≡ v → IsFrom 1 ID_MAX a → IsFrom 1 ID_MAX b → AreEnds (cond u (Some (a, b)) (cond v (Some (b, a)) None))
    by_order true v less more fa fb = (fa, (above_is a b less, fb.1))
    by_order false true less more fa fb = (fb, (above_is b a more, fa.1))
    by_order false false less more fa fb = tt

    by_ids : (x y : Bool) → is_id a ≡ x → is_id b ≡ y → AreEnds (cond (x && y) (cond (nat_lt a b) (Some (a, b)) (cond (nat_lt b a) (Some (b, a)) None)) None)
    by_ids true true ia ib = by_order (nat_lt a b) (nat_lt b a) refl refl (id_fits a ia) (id_fits b ib)
    by_ids true false ia ib = tt
    by_ids false y ia ib = tt

abbrev IsFit : Option Asked → Type 0
IsFit None = Unit {0}
IsFit (Some what) = IsAskedInRange what

either_fits : (b : Bool) (x y : Option Asked) → IsFit x → IsFit y → IsFit (cond b x y)
either_fits true x y h k = h
either_fits false x y h k = k

split_fits : (e : Option (ℕ × ℕ)) → AreEnds e → IsFit (edge_edit asked.Split e)
split_fits None h = tt
split_fits (Some e) h = h

flip_fits : (e : Option (ℕ × ℕ)) → AreEnds e → IsFit (edge_edit asked.Flip e)
flip_fits None h = tt
flip_fits (Some e) h = h

collapse_fits : (e : Option (ℕ × ℕ)) → AreEnds e → IsFit (edge_edit asked.Collapse e)
collapse_fits None h = tt
collapse_fits (Some e) h = h

zip_fits : (e f : Option (ℕ × ℕ)) → AreEnds e → AreEnds f → IsFit (zip_edit e f)
zip_fits None f h k = tt
zip_fits (Some e) None h k = tt
zip_fits (Some e) (Some f) h k = (h, k)

pinch_fits : (v : ℕ) (b : Bool) → is_id v ≡ b → IsFit (cond b (Some (asked.Pinch v)) None)
pinch_fits v true e = id_fits v e
pinch_fits v false e = tt

row_fits : (row : GivenEdit) → IsFit (edit_asked row)
row_fits row =
    let first = edge_fits row.a row.b in
    either_fits (row.kind == 2) _ _ (split_fits (ends row.a row.b) first)
    (either_fits (row.kind == 3) _ _ (flip_fits (ends row.a row.b) first)
    (either_fits (row.kind == 4) _ _ (collapse_fits (ends row.a row.b) first)
    (either_fits (row.kind == 5) _ _ (zip_fits (ends row.a row.b) (ends row.c row.d) first (edge_fits row.c row.d))
    (either_fits (row.kind == 6) _ _ (pinch_fits row.a (is_id row.a) refl) tt))))

one_more : (xs : List Asked) (x : Asked) → AllByRecursion IsAskedInRange xs → IsAskedInRange x → AllByRecursion IsAskedInRange (xs ++ x ∷ [])
one_more [] x h k = (k, tt)
one_more (y ∷ xs) x h k = (h.0, one_more xs x h.1 k)

all_fit : (rows : List GivenEdit) (done all : List Asked) → AllByRecursion IsAskedInRange done → edits_add done rows ≡ Some all → AllByRecursion IsAskedInRange all
all_fit [] done all h e = let same : done ≡ all = cc in subst (AllByRecursion IsAskedInRange) same h
all_fit (row ∷ rows) done all h e = by_row (edit_asked row) (row_fits row) e (λ what k f. all_fit rows (done ++ what ∷ []) all (one_more done what h k) f)
  where
    by_row : (o : Option Asked) → IsFit o → asked_then o done (λ more. edits_add more rows) ≡ Some all → ((what : Asked) → IsAskedInRange what → edits_add (done ++ what ∷ []) rows ≡ Some all → AllByRecursion IsAskedInRange all) → AllByRecursion IsAskedInRange all
    by_row None k f on = absurd cc
    by_row (Some what) k f on = on what k f

pub rows_in_range : RowsAskInRange
rows_in_range rows all e = all_fit rows [] all tt e

all_each : (rows : List GivenEdit) (done all : List Asked) → edits_add done rows ≡ Some all → length all ≡ length done + length rows
all_each [] done all e = let same : done ≡ all = cc in let size : length done ≡ length all = ap length same in omega (arith, size)
all_each (row ∷ rows) done all e = by_row (edit_asked row) e (λ what f. all_each rows (done ++ what ∷ []) all f)
  where
    by_row : (o : Option Asked) → asked_then o done (λ more. edits_add more rows) ≡ Some all → ((what : Asked) → edits_add (done ++ what ∷ []) rows ≡ Some all → length all ≡ length (done ++ what ∷ []) + length rows) → length all ≡ length done + length (row ∷ rows)
    by_row None f on = absurd cc
    by_row (Some what) f on =
        let later = on what f in
        let size = length-append done (what ∷ []) in
        omega (arith, later, size)

pub rows_each : RowsAskEach
rows_each rows all e = let each = all_each rows [] all e in omega (arith, each)
