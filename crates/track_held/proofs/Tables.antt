-- What a table without a fault has: as many bands as cells, each of which is a band.
use Rattle.std.proofs.Common.{◌≡◌, ℕ, zero, suc, ◌+◌, ◌*◌, ◌/◌, ◌<◌, ◌≤◌, ℤ, pos, ◌+ℤ◌, ◌-ℤ◌, ◌≤ℤ◌, ◌<ℤ◌, ◌-◌, Bool, true, false, cond, List, [], ◌∷◌, length, Option, Some, None, refl, sym, ap, ◌∙◌, subst, arith}
use Rattle.std.specs.List.{slice_get, position, position_from}
use Rattle.std.specs.Option.{option_map}
use Rattle.std.proofs.Math.Nat.{mul-le-mul_left}
use Rattle.std.proofs.lemmas.Iterator.Adapters.{position_from-zero}
use Rattle.std.proofs.lemmas.Bool.Decides.{nat_tests}
use Rattle.std.proofs.lemmas.Int.{ints}
use Rattle.std.specs.Int.RustNames.{unsigned_abs}
use Rattle.grid_base.specs.declared.Point.{Point}
use Rattle.mesh_sizing.specs.declared.sizing.Band.{Band}
use Rattle.mesh_sizing.specs.Sizes.{IsBand}
use Rattle.track_held.specs.declared.band_table.Cells.{Cells}
use Rattle.track_held.specs.declared.band_table.GivenBand.{GivenBand}
use Rattle.track_held.specs.declared.band_table.TableFault.{TableFault}
use Rattle.track_held.specs.declared.band_table.TableFault.TheVariants.{NoBand}
use Rattle.track_held.specs.Tables.{band_in, is_no_band, cell_count, is_miscounted, table_fault, cell_along, place_of, by_cells, LiesAlong, CellsHaveTheirBands, EndsAreNearest}

-- a row of cells among rows: the place in it, and that of the row
in_rows : (n i b m : ℕ) → i < n → b < m → i + n * b < n * m
in_rows n i b m h k = omega (arith, mul-le-mul_left n k)

-- the same in rows and layers
pub in_layers : (nx ny nz i j k : ℕ) → i < nx → j < ny → k < nz → i + nx * (j + ny * k) < nx * (ny * nz)
in_layers nx ny nz i j k hi hj hk = in_rows nx i (j + ny * k) (ny * nz) hi (in_rows ny j k nz hj hk)

-- a test that is false where a first true one is looked for in vain
passed_over : (b : Bool) (i : ℕ) (rest : Option ℕ) → cond b (Some i) rest ≡ None → (b ≡ false) × (rest ≡ None)
passed_over true i rest h = (cc, cc)
passed_over false i rest h = (refl, h)

-- where none passes, each fails
each_fails : {X : Type 0} (test : X → Bool) (i : ℕ) (xs : List X) → position_from test i xs ≡ None → (k : ℕ) (x : X) → slice_get xs k ≡ Some x → test x ≡ false
each_fails test i [] none k x h = cc
each_fails test i (y ∷ xs) none zero x h = let s = passed_over (test y) i _ none in let e : test y ≡ false = s.0 in cc
each_fails test i (y ∷ xs) none (suc k) x h = each_fails test (i + 1) xs (passed_over (test y) i _ none).1 k x h

-- a row that is not none is a band
is_band : (row : GivenBand) → is_no_band row ≡ false → IsBand (band_in row)
is_band row h = record { apart = grind (arith, nat_tests); most = grind (arith, nat_tests) }

-- a band that is at a place is that of the row there
of_row : (found : Option GivenBand) (band : Band) → ((row : GivenBand) → found ≡ Some row → IsBand (band_in row)) → option_map band_in found ≡ Some band → IsBand band
of_row None band each h = cc
of_row (Some row) band each h = let same : band_in row ≡ band = cc in subst IsBand same (each row refl)

-- two tests that are false, and no fault that is left
no_fault : (b c : Bool) (f g : TableFault) (place : Option ℕ) → cond b (Some f) (cond c (Some g) (option_map (λ at. NoBand at) place)) ≡ None → (c ≡ false) × (place ≡ None)
no_fault true c f g place h = (cc, cc)
no_fault false true f g place h = (cc, cc)
no_fault false false f g (Some at) h = (cc, cc)
no_fault false false f g None h = (refl, refl)

-- as many bands as cells
counted : (cells : Cells) (count : ℕ) → is_miscounted cells count ≡ false → cell_count cells ≡ count
counted cells count h = grind (arith, nat_tests)

module _ (cells : Cells) (rows : List GivenBand) (faultless : table_fault cells rows ≡ None) where
  parts : (is_miscounted cells (length rows) ≡ false) × (position is_no_band rows ≡ None)
  parts = no_fault _ _ _ _ (position is_no_band rows) faultless

  pub as_many : cell_count cells ≡ length rows
  as_many = counted cells (length rows) parts.0

  none_is_none : position_from is_no_band 0 rows ≡ None
  none_is_none = sym (position_from-zero is_no_band rows) ∙ parts.1

  pub gives_band : (p : Point) (band : Band) → by_cells cells rows p band → IsBand band
  gives_band p band h = of_row (slice_get rows (place_of cells p)) band (λ row at. is_band row (each_fails is_no_band 0 rows none_is_none (place_of cells p) row at)) h

-- a quotient by the multiples on both sides
quotient : (n i side : ℕ) → i * side ≤ n → n < (i + 1) * side → n / side ≡ i
quotient n i side low high =
    let less : n / side < i → ⊥ = λ h. omega (arith, mul-le-mul_left side h) in
    let more : i < n / side → ⊥ = λ h. omega (arith, mul-le-mul_left side h) in
    omega (arith, less, more)

-- a coordinate in a cell along its axis
in_cell : (from : ℤ) (side many place : ℕ) (at : ℤ) → place < many → LiesAlong from side place at → cell_along from side many at ≡ place
in_cell from side many place at few lies =
    let past = unsigned_abs (at -ℤ from) in
    let low : place * side ≤ past = omega (arith, ints, lies.low) in
    let high : past < (place + 1) * side = omega (arith, ints, lies.low, lies.high) in
    let is : past / side ≡ place = quotient past place side low high in
    grind (arith, ints, nat_tests)

pub in_cells : CellsHaveTheirBands
in_cells cells rows i j k row p hi hj hk at x y z =
    rw (in_cell cells.x cells.side cells.nx i p.x hi x, in_cell cells.y cells.side cells.ny j p.y hj y, in_cell cells.z cells.side cells.nz k p.z hk z) (ap (option_map band_in) at)

before_all : (from : ℤ) (side many : ℕ) (at : ℤ) → at <ℤ from → cell_along from side many at ≡ 0
before_all from side many at less = grind (arith, ints, nat_tests)

behind_all : (from : ℤ) (side many : ℕ) (at : ℤ) → 0 < side → 0 < many → (from +ℤ pos (many * side)) ≤ℤ at → cell_along from side many at ≡ many - 1
behind_all from side many at some few more =
    let past = unsigned_abs (at -ℤ from) in
    let far : many * side ≤ past = omega (arith, ints) in
    let less : past / side < many → ⊥ = λ h. omega (arith, mul-le-mul_left side h) in
    let over : many ≤ past / side = omega (arith, less) in
    grind (arith, ints, nat_tests)

pub at_ends : EndsAreNearest
at_ends from side many at some few = (before_all from side many at, behind_all from side many at some few)
