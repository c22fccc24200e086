-- A list of ids that rise, each with what is held of it, or nothing.
use Rattle.std.specs.Prelude.{◌≡◌, ℕ, zero, suc, ◌+◌, ◌<◌, ◌≤◌, List, [], ◌∷◌, slice_get, length, ◌==◌}
use Rattle.std.specs.Prelude.{cond, Bool, false, ◌||◌, is_some, map, Option, Some, None, Result, Ok, Err}
use Rattle.std.specs.Ordering.{nat_cmp}
use Rattle.std.specs.FinMap as finite
use Rattle.std.specs.FinMap.Entries.{find}
use Rattle.id_table.specs.declared.rows.Item.{Item}

module _ {T : Type 0} where
  -- what is held, by id
  abbrev pub held_of : List (Item T) → List (ℕ × T)
  held_of [] = []
  held_of (e ∷ es) = elim e.held [ None ↦ held_of es | Some x ↦ (e.id, x) ∷ held_of es ]

  -- the item with what is held and what is buried exchanged
  abbrev pub swapped : Item T → Item T
  swapped e = record { id = e.id; held = e.buried; buried = e.held }

  -- what is buried, by id
  abbrev pub buried_of : List (Item T) → List (ℕ × T)
  buried_of es = held_of (map swapped es)

  -- whether something is held of the item
  abbrev pub is_held : Item T → Bool
  is_held e = is_some e.held

  -- whether something is left of the item
  abbrev pub is_left : Item T → Bool
  is_left e = is_some e.held || is_some e.buried

  -- the ids rise, from a number on
  abbrev pub RiseFrom : ℕ → List (Item T) → Type 0
  RiseFrom low [] = Unit {0}
  RiseFrom low (e ∷ es) = (low ≤ e.id) × RiseFrom (e.id + 1) es

  -- so many of the ids are below the number, and they stand first
  abbrev pub IsLower : ℕ → ℕ → List (Item T) → Type 0
  IsLower id zero [] = Unit {0}
  IsLower id zero (e ∷ es) = id ≤ e.id
  IsLower id (suc n) [] = ⊥
  IsLower id (suc n) (e ∷ es) = (e.id < id) × IsLower id n es

  -- the ids before the place are below the number
  abbrev pub AreBelow : ℕ → ℕ → List (Item T) → Type 0
  AreBelow id n items = (k : ℕ) (e : Item T) → slice_get items k ≡ Some e → k < n → e.id < id

  -- those from the place on are not
  abbrev pub AreOver : ℕ → ℕ → List (Item T) → Type 0
  AreOver id n items = (k : ℕ) (e : Item T) → slice_get items k ≡ Some e → n ≤ k → id ≤ e.id

  -- the number belongs between the two places
  pub record IsAround (id : ℕ) (items : List (Item T)) (places : ℕ × ℕ) : Type 0 where
    pub order : places.0 ≤ places.1
    pub inside : places.1 ≤ length items
    pub below : AreBelow id places.0 items
    pub over : AreOver id places.1 items

  -- whether the item has the id
  abbrev pub find_id : ℕ → Option (Item T) → Bool
  find_id id None = false
  find_id id (Some e) = e.id == id

  -- where an id stands, or else where it belongs
  abbrev pub IsFound : List (Item T) → ℕ → Result ℕ ℕ → Type 0
  IsFound items id (Ok n) = (e : Item T) × (slice_get items n ≡ Some e) × (e.id ≡ id)
  IsFound items id (Err n) = IsLower id n items × (find_id id (slice_get items n) ≡ false)

  -- the new list holds one thing more
  pub record Holds (old new : List (Item T)) (id : ℕ) (x : T) : Type 0 where
    pub rise : RiseFrom 0 new
    pub found : (q : ℕ) → find nat_cmp q (held_of new) ≡ cond (q == id) (Some x) (find nat_cmp q (held_of old))
    pub buried : finite.from_entries {R = nat_cmp} (buried_of new) ≡ finite.from_entries (buried_of old)

  pub record AreCounted (items : List (Item T)) (live : ℕ) : Type 0 where
    pub rise : RiseFrom 0 items
    pub count : live ≡ finite.len (finite.from_entries {R = nat_cmp} (held_of items))
