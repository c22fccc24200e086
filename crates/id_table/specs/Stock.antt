-- What is kept by id: of the live ids, and of the buried ones.
use Rattle.std.specs.Prelude.{◌≡◌, ℕ, refl, None, Some, IsSome}
use Rattle.std.specs.Ordering.{nat_cmp}
use Rattle.std.specs.FinMap as map
use Rattle.std.specs.Coded.{Coded, code_by, coded×, coded_ℕ}

-- two finite maps, and how many insertions more find memory
pub record Stock (T : Type 0) : Type 0 where
  pub live : map.FinMap nat_cmp T
  pub buried : map.FinMap nat_cmp T
  pub room : ℕ

-- tables by codes, so that two with one code are equal
abbrev pub stock_code : {T : Type 0} → Coded T → Coded (Stock T)
stock_code {T} item =
    code_by (map.FinMap nat_cmp T × (map.FinMap nat_cmp T × ℕ))
    (coded× (map.code coded_ℕ item) (coded× (map.code coded_ℕ item) coded_ℕ))
    (λ s. (s.live, (s.buried, s.room)))
    (λ p. record { live = p.0; buried = p.1.0; room = p.1.1 })
    (λ _. refl)

-- ---- changes of it

module _ {T : Type 0} where
  -- no id is both live and buried
  abbrev pub AreApart : Stock T → Type 0
  AreApart s = (id : ℕ) → IsSome (map.get s.buried id) → map.get s.live id ≡ None

  -- a live id holds something from here on
  abbrev pub Inserts : Stock T → Stock T → ℕ → T → Type 0
  Inserts old new id x = new ≡ record old { live = map.insert old.live id x; room = new.room }

  -- an id is no longer live
  abbrev pub Removes : Stock T → Stock T → ℕ → Type 0
  Removes old new id = new ≡ record old { live = map.remove old.live id; room = new.room }

  -- what is held of a live id is buried
  abbrev pub Buries : Stock T → Stock T → ℕ → Type 0
  Buries old new id = (x : T) → map.get old.live id ≡ Some x →
      new ≡ record old { live = map.remove old.live id; buried = map.insert old.buried id x }

  -- a buried id is live again, and holds this
  abbrev pub Raises : Stock T → Stock T → ℕ → T → Type 0
  Raises old new id x =
      new ≡ record old { live = map.insert old.live id x; buried = map.remove old.buried id }

  -- nothing is buried of an id
  abbrev pub Discards : Stock T → Stock T → ℕ → Type 0
  Discards old new id = new ≡ record old { buried = map.remove old.buried id; room = new.room }
