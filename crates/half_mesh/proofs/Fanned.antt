-- Rows whose half-edges are linked, after changes of the slab.
use Rattle.std.proofs.Common.{◌≡◌, ◌≢◌, ⊎_elim, ℕ, ◌+◌, ◌<◌, ◌^◌, true, List, [], ◌∷◌, Option, Some, None, IsSome, is_some, map, refl, sym, ap, subst, ◌∙◌, arith}
use Rattle.std.specs.Ordering.{nat_cmp}
use Rattle.std.specs.FinMap as finite
use Rattle.slab.specs.Slab.{Slab, get, Updates}
use Rattle.mesh_base.proofs.Finite.{got_after_remove}
use Rattle.half_mesh.specs.declared.halves.Half.{Half}
use Rattle.half_mesh.specs.declared.row.Row.{Row}
use Rattle.half_mesh.specs.Fans.{Fan, Woven, spokes_at, IsNewest}
use Rattle.std.specs.Option.{option_map}
use Rattle.half_mesh.specs.Mapped.{map_values}
use Rattle.half_mesh.specs.Walks.{KeyedHalf, walk, spoke_of, fan_of, woven_of, IsChain, IsFanned, AreFanned}
use Rattle.half_mesh.proofs.Mapped.{got_after, get-map_values, map_values-insert}
use Rattle.half_mesh.proofs.Chains.{walk-chain, chain_stays}

pub walk-fanned : (s : Slab Half) (v : ℕ) (row : Row) (f : IsFanned s v row) → walk s row.count row.first ≡ f.halves
walk-fanned s v row f = ap (λ n. walk s n row.first) (sym f.count) ∙ walk-chain s v (2 ^ 32) row.first f.halves f.chain

pub fan-fanned : (s : Slab Half) (v : ℕ) (row : Row) (f : IsFanned s v row) → fan_of s row ≡ record { vertex = row.vertex; spokes = map spoke_of f.halves }
fan-fanned s v row f = ap (λ es. record { vertex = row.vertex; spokes = map spoke_of es }) (walk-fanned s v row f)

-- the half-edges that leave a vertex stay
abbrev pub Stay : Slab Half → Slab Half → ℕ → Type 0
Stay s t v = (k : ℕ) (h : Half) → get s k ≡ Some h → h.origin ≡ v → get t k ≡ Some h

abbrev pub fanned_stays : (s t : Slab Half) (v : ℕ) (row : Row) → Stay s t v → IsFanned s v row → IsFanned t v row
fanned_stays s t v row stays f = record {
  halves = f.halves;
  chain = chain_stays s t v (2 ^ 32) row.first f.halves (λ k h there of_v falls. stays k h there of_v) f.chain;
  count = f.count;
}

pub fan_stays : (s t : Slab Half) (v : ℕ) (row : Row) → Stay s t v → IsFanned s v row → fan_of t row ≡ fan_of s row
fan_stays s t v row stays f = fan-fanned t v row (fanned_stays s t v row stays f) ∙ sym (fan-fanned s v row f)

-- another row for one vertex
pub fanned-insert : (rows : finite.FinMap nat_cmp Row) (s t : Slab Half) (v : ℕ) (row : Row) → AreFanned rows s → IsFanned t v row → ((q : ℕ) → q ≢ v → Stay s t q) → AreFanned (finite.insert rows v row) t
fanned-insert rows s t v row all here stays q z there =
    ⊎_elim
    (λ e. subst (λ x. IsFanned t q x) e.1 (subst (λ j. IsFanned t j row) (sym e.0) here))
    (λ old. fanned_stays s t q z (stays q old.0) (all q z old.1))
    (got_after rows v row q z there)

pub fanned-remove : (rows : finite.FinMap nat_cmp Row) (s : Slab Half) (v : ℕ) → AreFanned rows s → AreFanned (finite.remove rows v) s
fanned-remove rows s v all q z there = all q z (got_after_remove rows v q z there).1

-- a vertex that no half-edge leaves
pub fanned-none : (s : Slab Half) (v : ℕ) (row : Row) → row.count ≡ 0 → IsFanned s v row
fanned-none s v row none = record { halves = []; chain = tt; count = sym none }

-- the bound of a chain is that of its first
pub chain-newest : (s : Slab Half) (v b f key : ℕ) (es : List KeyedHalf) → IsNewest f (map spoke_of es) → IsChain s v b key es → IsChain s v f key es
chain-newest s v b f key [] newest c = tt
chain-newest s v b f key (e ∷ rest) newest c = (c.0, c.1, c.2, newest, c.4)

-- what was vacant is no other key
pub stay_where_vacant : (s t : Slab Half) (key : ℕ) (slot : Option Half) → get s key ≡ None → Updates s t key slot → (k : ℕ) (h : Half) → get s k ≡ Some h → get t k ≡ Some h
stay_where_vacant s t key slot vacant up k h there = up.others k (λ same. let at = ap (get s) same in cc) ∙ there

-- one half-edge more, the first
abbrev pub fanned-attach : (s t : Slab Half) (v key : ℕ) (row : Row) (h : Half) (f : IsFanned s v row) → get s key ≡ None → Updates s t key (Some h) → h.origin ≡ v → h.face < 2 ^ 32 → h.after ≡ row.first
    → IsNewest h.face (map spoke_of f.halves) → (new : Row) → new.first ≡ key → new.count ≡ row.count + 1 → IsFanned t v new
fanned-attach s t v key row h f vacant up of_v small after newest new first count = record {
  halves = (key, h) ∷ f.halves;
  chain = (
    sym first,
    up.changed,
    of_v,
    small,
    subst (λ k. IsChain t v h.face k f.halves) (sym after) (chain_stays s t v h.face row.first f.halves (λ k g there g_of_v falls. stay_where_vacant s t key (Some h) vacant up k g there) (chain-newest s v (2 ^ 32) h.face row.first f.halves newest f.chain)),
  );
  count = let old = f.count in omega arith;
}

-- what a vertex with a row has among the fans
pub fan-at : (rows : finite.FinMap nat_cmp Row) (s : Slab Half) (w : Woven) (v : ℕ) (row : Row) (fan : Fan) → woven_of rows s ≡ w → Some row ≡ finite.get rows v → finite.get w.fans v ≡ Some fan → fan_of s row ≡ fan
fan-at rows s w v row fan view there is =
    let e = ap (option_map (fan_of s)) there ∙ sym (get-map_values (fan_of s) rows v) ∙ ap (λ x. finite.get x.fans v) view ∙ is in cc

pub no_fan : (rows : finite.FinMap nat_cmp Row) (s : Slab Half) (w : Woven) (v : ℕ) → woven_of rows s ≡ w → None ≡ finite.get rows v → finite.get w.fans v ≡ None
no_fan rows s w v view none = sym (ap (option_map (fan_of s)) none ∙ sym (get-map_values (fan_of s) rows v) ∙ ap (λ x. finite.get x.fans v) view)

-- other rows and another slab, as fans: the fan of one vertex is another, and the half-edges of the others stay
pub woven-insert : (rows : finite.FinMap nat_cmp Row) (s t : Slab Half) (v : ℕ) (row : Row) (fan : Fan) → AreFanned rows s → fan_of t row ≡ fan → ((q : ℕ) → q ≢ v → Stay s t q)
    → map_values (fan_of t) (finite.insert rows v row) ≡ finite.insert (map_values (fan_of s) rows) v fan
woven-insert rows s t v row fan all here stays = map_values-insert (fan_of s) (fan_of t) rows v row fan here (λ q z apart there. fan_stays s t q z (stays q apart) (all q z there))

-- the spokes of a vertex with a row
pub spokes_at-row : (rows : finite.FinMap nat_cmp Row) (s : Slab Half) (w : Woven) (v : ℕ) (row : Row) (f : IsFanned s v row) → woven_of rows s ≡ w → Some row ≡ finite.get rows v → spokes_at w.fans v ≡ map spoke_of f.halves
spokes_at-row rows s w v row f view there =
    let found : finite.get w.fans v ≡ Some (fan_of s row) = sym (ap (λ x. finite.get x.fans v) view) ∙ get-map_values (fan_of s) rows v ∙ ap (option_map (fan_of s)) (sym there) in
    ap (λ o. elim o [ None ↦ [] | Some fan ↦ fan.spokes ]) found ∙ ap (λ (x : Fan). x.spokes) (fan-fanned s v row f)

-- the spokes of a vertex are those that a walk from its row finds
pub spokes_at-walk : (rows : finite.FinMap nat_cmp Row) (s : Slab Half) (w : Woven) (v : ℕ) (row : Row) → woven_of rows s ≡ w → Some row ≡ finite.get rows v → spokes_at w.fans v ≡ map spoke_of (walk s row.count row.first)
spokes_at-walk rows s w v row view there =
    let found : finite.get w.fans v ≡ Some (fan_of s row) = sym (ap (λ x. finite.get x.fans v) view) ∙ get-map_values (fan_of s) rows v ∙ ap (option_map (fan_of s)) (sym there) in
    ap (λ o. elim o [ None ↦ [] | Some fan ↦ fan.spokes ]) found

pub spokes_at-none : (rows : finite.FinMap nat_cmp Row) (s : Slab Half) (w : Woven) (v : ℕ) → woven_of rows s ≡ w → None ≡ finite.get rows v → spokes_at w.fans v ≡ []
spokes_at-none rows s w v view none = ap (λ o. elim o [ None ↦ [] | Some fan ↦ fan.spokes ]) (no_fan rows s w v view none)

-- a vertex among the fans has a row
pub row_there : (rows : finite.FinMap nat_cmp Row) (s : Slab Half) (w : Woven) (v : ℕ) → woven_of rows s ≡ w → IsSome (finite.get w.fans v) → IsSome (finite.get rows v)
row_there rows s w v view live = seen (finite.get rows v) (ap is_some (sym (get-map_values (fan_of s) rows v) ∙ ap (λ x. finite.get x.fans v) view) ∙ live)
  where
    seen : (o : Option Row) → is_some (option_map (fan_of s) o) ≡ true → is_some o ≡ true
    seen None e = cc
    seen (Some row) e = refl

pub no_row : (rows : finite.FinMap nat_cmp Row) (s : Slab Half) (w : Woven) (v : ℕ) → woven_of rows s ≡ w → finite.get w.fans v ≡ None → finite.get rows v ≡ None
no_row rows s w v view none = seen (finite.get rows v) (sym (get-map_values (fan_of s) rows v) ∙ ap (λ x. finite.get x.fans v) view ∙ none)
  where
    seen : (o : Option Row) → option_map (fan_of s) o ≡ None → o ≡ None
    seen None e = refl
    seen (Some row) e = cc
