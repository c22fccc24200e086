-- Midpoints in buckets by the cells where they are, and which of them are looked for.
use Rattle.std.specs.Prelude.{◌≡◌, ℕ, zero, suc, pos, ◌+◌, ◌*◌, ◌/◌, ◌%◌, ◌^◌, ◌<◌, ◌≤◌, ◌&&◌, ◌||◌, ◌==◌, not, Bool, false, IsTrue, List, length, Option, Some, None, slice_get, slice_index_or, nat_eq, nat_lt, if◌then◌else◌}
use Rattle.grid_base.specs.Triples.{Triple, IsWithin, minus}
use Rattle.grid_base.specs.Points.{is_within}
use Rattle.grid_base.specs.Extents.{IsIn}
use Rattle.grid_base.specs.declared.Extent.{Extent}
use Rattle.grid_base.specs.declared.TheConstants.{HALF_MAX}
use Rattle.cell_grid.specs.Cells.{place_along}
use Rattle.cell_grid.specs.Filed.{has}
use Rattle.pass_run.specs.declared.midpoint_cells.Cell.{Cell}
use Rattle.pass_run.specs.declared.midpoint_cells.MidpointCells.{MidpointCells}
use Rattle.pass_run.specs.declared.midpoint_cells.EdgeTurn.{EdgeTurn}

-- the origin
abbrev pub nowhere : Triple
nowhere = record { x = pos 0; y = pos 0; z = pos 0 }

-- the cell of a point, where cells have this length along each axis
abbrev pub cell_of : ℕ → Triple → Cell
cell_of size p =
    record { x = place_along size p.x; y = place_along size p.y; z = place_along size p.z }

-- The bucket of a cell, of so many: a number that the cell's three places make, without its upper
-- digits, spread over the buckets. Cells side by side have buckets far apart.
abbrev pub bucket_of : ℕ → Cell → ℕ
bucket_of buckets c =
    (c.x * 663608941 + c.y * 561705629 + c.z * 816622479) % 2 ^ 32 * buckets / 2 ^ 32

-- the cell of the midpoint at a place of a list
abbrev pub cell_at : ℕ → List Triple → ℕ → Cell
cell_at size middles k = cell_of size (slice_index_or middles k nowhere)

-- the last place below j that is of bucket h, plus one; 0 where there is none
abbrev pub last_below : (ℕ → ℕ) → ℕ → ℕ → ℕ
last_below bucket h zero = zero
last_below bucket h (suc j) = if nat_eq (bucket j) h then suc j else last_below bucket h j

-- Chains of places, one for each bucket: the last place of each bucket, and before each place the
-- one before it in its bucket, each plus one; 0 where there is none.
pub record AreChains (bucket : ℕ → ℕ) (buckets count : ℕ) (last before : List ℕ) : Type 0 where
  pub last_of : (h : ℕ) → h < buckets → slice_index_or last h 0 ≡ last_below bucket h count
  pub before_of : (k : ℕ) → k < count → slice_index_or before k 0 ≡ last_below bucket (bucket k) k

-- the midpoints of a list, in chains by their cells
pub record AreCells (middles : List Triple) (cells : MidpointCells) : Type 0 where
  pub size : 0 < cells.size
  pub buckets : 0 < cells.buckets
  pub chains : AreChains (λ k. bucket_of cells.buckets (cell_at cells.size middles k)) cells.buckets
      (length middles) cells.last.items cells.before.items

-- each is at most so far from the origin along each axis
abbrev pub AreWithin : List Triple → Type 0
AreWithin middles = (k : ℕ) → IsWithin HALF_MAX (slice_index_or middles k nowhere)

-- whether an end of the one edge is an end of the other
abbrev pub share_an_end : ℕ × ℕ → ℕ × ℕ → Bool
share_an_end e f = f.0 == e.0 || f.0 == e.1 || f.1 == e.0 || f.1 == e.1

-- whether there is an edge that shares no end with this one
abbrev pub is_apart : ℕ × ℕ → Option (ℕ × ℕ) → Bool
is_apart e None = false
is_apart e (Some f) = not (share_an_end e f)

-- whether the edge at a place is later, its midpoint is near, and it shares no end
abbrev pub is_wanted : EdgeTurn → ℕ → Bool
is_wanted t k =
    nat_lt t.place k
    && is_within (2 * t.within) (minus t.middle (slice_index_or t.middles.now k nowhere))
    && is_apart t.edge (slice_get t.edges.now k)

-- what a list has, another has
abbrev pub KeepsPlaces : List ℕ → List ℕ → Type 0
KeepsPlaces old new = (k : ℕ) → IsTrue (has k old) → IsTrue (has k new)

-- the list has each place that is wanted and whose midpoint's cell is of these
abbrev pub HasWanted : EdgeTurn → ℕ → (Cell → Type 0) → List ℕ → Type 0
HasWanted t size Of found =
    (k : ℕ) → k < length t.middles.now → IsTrue (is_wanted t k) →
    Of (cell_at size t.middles.now k) → IsTrue (has k found)

-- the cell is in a row along z
pub record IsInRow (x y low high : ℕ) (c : Cell) : Type 0 where
  pub x_is : c.x ≡ x
  pub y_is : c.y ≡ y
  pub z_low : low ≤ c.z
  pub z_high : c.z < high

-- the cell is in a layer across x
pub record IsInLayer (x low high bottom top : ℕ) (c : Cell) : Type 0 where
  pub x_is : c.x ≡ x
  pub y_low : low ≤ c.y
  pub y_high : c.y < high
  pub z_low : bottom ≤ c.z
  pub z_high : c.z < top

-- the cell is in a block
pub record IsInBlock (left right : ℕ) (low high : Cell) (c : Cell) : Type 0 where
  pub x_low : left ≤ c.x
  pub x_high : c.x < right
  pub y_low : low.y ≤ c.y
  pub y_high : c.y < high.y + 1
  pub z_low : low.z ≤ c.z
  pub z_high : c.z < high.z + 1

-- the box has each midpoint that is no further off than the length along each axis
abbrev pub HasEachNear : Triple → ℕ → Extent → Type 0
HasEachNear p within box =
    (q : Triple) → IsWithin HALF_MAX q → IsTrue (is_within (2 * within) (minus p q)) → IsIn box q
