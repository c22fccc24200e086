-- Lists that are joined of pieces of one length, a piece for each number.
use Rattle.std.proofs.Common.{◌≡◌, ℕ, zero, suc, ◌+◌, ◌*◌, ◌<◌, ◌≤◌, List, [], ◌∷◌, ◌++◌, Some, length, slice_get, ap, ◌∙◌, ⊎_elim, arith}
use Rattle.std.specs.List.{flat_map, range_with_len}
use Rattle.std.proofs.lemmas.List.{length-append}
use Rattle.std.proofs.lemmas.Bool.{cases_lt}

-- each piece has so many items
pub record HaveLength {X : Type 0} (w : ℕ) (piece : ℕ → List X) : Type 0 where
  pub each : (c : ℕ) → length (piece c) ≡ w

-- ---- lists that are joined
got_first : {X : Type 0} (xs ys : List X) (i : ℕ) (x : X) → i < length xs → slice_get (xs ++ ys) i ≡ Some x → slice_get xs i ≡ Some x
got_first [] ys i x h e = absurd (omega arith)
got_first (y ∷ xs) ys zero x h e = e
got_first (y ∷ xs) ys (suc i) x h e = got_first xs ys i x (omega arith) e

got_second : {X : Type 0} (xs ys : List X) (i : ℕ) (x : X) → length xs ≤ i → slice_get (xs ++ ys) i ≡ Some x → (j : ℕ) × (i ≡ length xs + j) × (slice_get ys j ≡ Some x)
got_second [] ys i x h e = (i, omega arith, e)
got_second (y ∷ xs) ys zero x h e = absurd (omega arith)
got_second (y ∷ xs) ys (suc i) x h e = let at = got_second xs ys i x (omega arith) e in (at.0, omega (arith, at.1), at.2)

in_first : {X : Type 0} (xs ys : List X) (i : ℕ) (x : X) → slice_get xs i ≡ Some x → slice_get (xs ++ ys) i ≡ Some x
in_first [] ys i x e = cc
in_first (y ∷ xs) ys zero x e = e
in_first (y ∷ xs) ys (suc i) x e = in_first xs ys i x e

in_second : {X : Type 0} (xs ys : List X) (i j : ℕ) (x : X) → i ≡ length xs + j → slice_get ys j ≡ Some x → slice_get (xs ++ ys) i ≡ Some x
in_second [] ys i j x e h = ap (slice_get ys) (let same : i ≡ j = omega arith in same) ∙ h
in_second (y ∷ xs) ys zero j x e h = absurd (omega arith)
in_second (y ∷ xs) ys (suc i) j x e h = in_second xs ys i j x (omega arith) h

-- ---- pieces
pub length-pieces : {X : Type 0} (w : ℕ) (piece : ℕ → List X) → HaveLength w piece → (start count : ℕ) → length (flat_map piece (range_with_len start count)) ≡ w * count
length-pieces w piece all start zero = omega arith
length-pieces w piece all start (suc count) =
    let one = all.each start in
    let rest = length-pieces w piece all (start + 1) count in
    omega (arith, length-append (piece start) (flat_map piece (range_with_len (start + 1) count)), one, rest)

-- an item stands in one of the pieces
pub record IsInPiece {X : Type 0} (w : ℕ) (piece : ℕ → List X) (start count i : ℕ) (x : X) : Type 0 where
  pub number : ℕ
  pub place : ℕ
  pub from : start ≤ number
  pub to : number < start + count
  pub within : place < w
  pub index : i + w * start ≡ w * number + place
  pub item : slice_get (piece number) place ≡ Some x

pub in_piece : {X : Type 0} (w : ℕ) (piece : ℕ → List X) → HaveLength w piece → (start count i : ℕ) (x : X) → slice_get (flat_map piece (range_with_len start count)) i ≡ Some x → IsInPiece w piece start count i x
in_piece w piece all start zero i x e = cc
in_piece w piece all start (suc count) i x e =
    ⊎_elim (λ less. record {
      number = start;
      place = i;
      from = omega arith;
      to = omega arith;
      within = omega (arith, all.each start);
      index = omega arith;
      item = got_first (piece start) _ i x less e;
    })
    (λ more. later (λ j h. in_piece w piece all (start + 1) count j x h) (got_second (piece start) _ i x more e))
    (cases_lt i (length (piece start)))
  where
    later : ((j : ℕ) → slice_get (flat_map piece (range_with_len (start + 1) count)) j ≡ Some x → IsInPiece w piece (start + 1) count j x) → (j : ℕ) × (i ≡ length (piece start) + j) × (slice_get (flat_map piece (range_with_len (start + 1) count)) j ≡ Some x) → IsInPiece w piece start (suc count) i x
    later found at =
        let rest = found at.0 at.2 in
        let one = all.each start in
        record {
          number = rest.number;
          place = rest.place;
          from = omega (arith, rest.from);
          to = omega (arith, rest.to);
          within = rest.within;
          index = omega (arith, rest.index, at.1, one);
          item = rest.item;
        }

-- and each item of a piece stands in the list
pub of_piece : {X : Type 0} (w : ℕ) (piece : ℕ → List X) → HaveLength w piece → (start count c place : ℕ) (x : X) → c < count → slice_get (piece (start + c)) place ≡ Some x → slice_get (flat_map piece (range_with_len start count)) (w * c + place) ≡ Some x
of_piece w piece all start zero c place x h e = absurd (omega arith)
of_piece w piece all start (suc count) zero place x h e =
    in_first (piece start) _ (w * 0 + place) x (ap (slice_get (piece start)) (let same : w * 0 + place ≡ place = omega arith in same) ∙ ap (λ s. slice_get (piece s) place) (let same : start ≡ start + 0 = omega arith in same) ∙ e)
of_piece w piece all start (suc count) (suc c) place x h e =
    let one = all.each start in
    in_second (piece start) _ (w * suc c + place) (w * c + place) x (omega (arith, one))
    (of_piece w piece all (start + 1) count c place x (omega arith) (ap (λ s. slice_get (piece s) place) (let same : (start + 1) + c ≡ start + suc c = omega arith in same) ∙ e))
