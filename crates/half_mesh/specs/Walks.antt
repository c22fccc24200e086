-- How the half-edges that leave a vertex are linked through the slab.
use Rattle.std.specs.Prelude.{◌≡◌, ◌≢◌, ◌==◌, cond, nat_lt, ℕ, zero, suc, ◌<◌, ◌≤◌, ◌⊎◌, ◌+◌}
use Rattle.std.specs.Prelude.{◌-◌, ◌^◌, List, [], ◌∷◌, map, length, Option, Some, None}
use Rattle.std.specs.Option.{option_map}
use Rattle.std.specs.Ordering.{nat_cmp}
use Rattle.std.specs.FinMap as finite
use Rattle.slab.specs.Slab.{Slab, get, slab_len}
use Rattle.half_mesh.specs.declared.halves.Half.{Half}
use Rattle.half_mesh.specs.declared.row.Row.{Row}
use Rattle.half_mesh.specs.Fans.{Spoke, Fan, Side, Woven}
use Rattle.half_mesh.specs.Mapped.{map_values}
use Rattle.id_table.specs.Stock.{Stock}
use Rattle.half_mesh.specs.Ground.{Ground}

-- a half-edge, with its key
abbrev pub KeyedHalf : Type 0
KeyedHalf = ℕ × Half

-- so many half-edges from a key on, each linked to the next
abbrev pub walk : Slab Half → ℕ → ℕ → List KeyedHalf
walk s zero key = []
walk s (suc n) key = elim (get s key) [ None ↦ [] | Some h ↦ (key, h) ∷ walk s n h.after ]

-- a half-edge as its vertex keeps it: its face, and where it runs to
abbrev pub spoke_of : KeyedHalf → Spoke
spoke_of e = record { face = e.1.face; to = e.1.to }

-- what the row of a vertex stands for
abbrev pub fan_of : Slab Half → Row → Fan
fan_of s row = record { vertex = row.vertex; spokes = map spoke_of (walk s row.count row.first) }

-- a half-edge without its link to the next of its vertex
abbrev pub side_of : Half → Side
side_of h = record { origin = h.origin; to = h.to; face = h.face; next = h.next }

-- what the rows of vertices and the table of half-edges stand for
abbrev pub woven_of : finite.FinMap nat_cmp Row → Slab Half → Woven
woven_of rows s = record {
  fans = map_values (fan_of s) rows;
  sides = map (option_map side_of) s.slots;
  room = s.capacity - slab_len s;
}

-- the same with the buried rows, and the rows that find room
abbrev pub ground_of : Stock Row → Slab Half → Ground
ground_of rows s = record {
  woven = woven_of rows.live s;
  buried = map_values (λ row. row.vertex) rows.buried;
  seats = rows.room;
}

-- the spokes without the first in the face
abbrev pub cut : ℕ → List Spoke → List Spoke
cut f [] = []
cut f (s ∷ rest) = cond (s.face == f) rest (s ∷ cut f rest)

-- from the key on, these half-edges are linked one to the next; they leave v, and
-- their faces fall from below a bound
abbrev pub IsChain : Slab Half → ℕ → ℕ → ℕ → List KeyedHalf → Type 0
IsChain s v bound key [] = Unit {0}
IsChain s v bound key (e ∷ rest) =
    (e.0 ≡ key) × (get s e.0 ≡ Some e.1) × (e.1.origin ≡ v) × (e.1.face < bound)
    × IsChain s v e.1.face e.1.after rest

-- the row of v counts half-edges that are linked
pub record IsFanned (s : Slab Half) (v : ℕ) (row : Row) : Type 0 where
  pub halves : List KeyedHalf
  pub chain : IsChain s v (2 ^ 32) row.first halves
  pub count : length halves ≡ row.count

-- so is the row of each vertex
abbrev pub AreFanned : finite.FinMap nat_cmp Row → Slab Half → Type 0
AreFanned rows s = (v : ℕ) (row : Row) → finite.get rows v ≡ Some row → IsFanned s v row

-- the half-edge before the first of the face, after e
abbrev pub key_before : ℕ → KeyedHalf → List KeyedHalf → Option KeyedHalf
key_before f e [] = None
key_before f e (x ∷ rest) = cond (x.1.face == f) (Some e) (key_before f x rest)

-- the slab with the link of p past the half-edge after it, which is gone
pub record IsLinkedPast (s t : Slab Half) (p : KeyedHalf) (gone : Half) : Type 0 where
  pub there : get s p.1.after ≡ Some gone
  pub linked : get t p.0 ≡ Some (record p.1 { after = gone.after })
  pub others : (k : ℕ) → k ≢ p.0 → k ≢ p.1.after → get t k ≡ get s k

-- the half-edge at the key has another after it among those that leave its vertex
pub record Resets (s t : Slab Half) (key after : ℕ) : Type 0 where
  pub changed : (h : Half) → get s key ≡ Some h → get t key ≡ Some (record h { after = after })
  pub others : (k : ℕ) → k ≢ key → get t k ≡ get s k

-- the last of them, from e on, whose face is newer
abbrev pub last_newer : ℕ → KeyedHalf → List KeyedHalf → KeyedHalf
last_newer f e [] = e
last_newer f e (x ∷ rest) = cond (nat_lt f x.1.face) (last_newer f x rest) e

-- the half-edge h at the key is put among so many that are linked from a key on: alone,
-- first, or after the last newer one
pub record IsPutAfter (s t : Slab Half) (p : KeyedHalf) (k : ℕ) (g : Half) : Type 0 where
  pub held : get s k ≡ Some g
  pub linked : get t p.0 ≡ Some (record p.1 { after = k })
  pub placed : get t k ≡ Some (record g { after = p.1.after })
  pub others : (l : ℕ) → l ≢ p.0 → l ≢ k → get t l ≡ get s l

-- a half-edge is linked in at a vertex, by falling face: as the only one, as the first, or after
-- the last newer one
abbrev pub put_in : Slab Half → Slab Half → ℕ → ℕ → ℕ → Half → ℕ × ℕ → Option Half → Type 0
put_in s t first count key h to None = (to ≡ (key, 1)) × ((k : ℕ) → get t k ≡ get s k)
put_in s t first count key h to (Some newest) =
    ((count ≡ 0) × (to ≡ (key, 1)) × ((k : ℕ) → get t k ≡ get s k))
    ⊎ ((0 < count) × (newest.face < h.face) × (to ≡ (key, count + 1)) × Resets s t key first)
    ⊎ ((0 < count) × (h.face ≤ newest.face) × (to ≡ (first, count + 1))
    × ((last_newer h.face (first, newest) (walk s (count - 1) newest.after)).0 ≢ key →
    get s (last_newer h.face (first, newest) (walk s (count - 1) newest.after)).0
    ≡ Some (last_newer h.face (first, newest) (walk s (count - 1) newest.after)).1 →
    IsPutAfter s t (last_newer h.face (first, newest) (walk s (count - 1) newest.after)) key h))

-- it is linked in, and no half-edge has other parts than before, nor is there more or less room
pub record IsLinkedIn (s t : Slab Half) (first count key : ℕ) (h : Half) (to : ℕ × ℕ) : Type 0 where
  pub put : put_in s t first count key h to (get s first)
  pub sides : (k : ℕ) → option_map side_of (get t k) ≡ option_map side_of (get s k)
  pub room : t.capacity - slab_len t ≡ s.capacity - slab_len s

-- the half-edge at the key has another after it in its face
pub record Joins (s t : Slab Half) (key next : ℕ) : Type 0 where
  pub joined : (h : Half) → get s key ≡ Some h → get t key ≡ Some (record h { next = next })
  pub others : (k : ℕ) → k ≢ key → get t k ≡ get s k
