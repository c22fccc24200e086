-- Chains stay where a half-edge gets another after it in its face.
use Rattle.std.proofs.Common.{◌≡◌, ⊎_elim, ℕ, ◌^◌, List, [], ◌∷◌, map, length, refl, sym, ap, ◌∙◌, arith}
use Rattle.std.specs.Ordering.{nat_cmp}
use Rattle.std.specs.FinMap as finite
use Rattle.std.proofs.lemmas.Bool.{cases_eq}
use Rattle.slab.specs.Slab.{Slab, get}
use Rattle.half_mesh.specs.declared.halves.Half.{Half}
use Rattle.half_mesh.specs.declared.row.Row.{Row}
use Rattle.half_mesh.specs.Mapped.{map_values}
use Rattle.half_mesh.specs.Walks.{KeyedHalf, spoke_of, fan_of, IsChain, IsFanned, AreFanned, Joins}
use Rattle.half_mesh.proofs.Mapped.{map_values-alike}
use Rattle.half_mesh.proofs.Fanned.{fan-fanned}

pub record IsRejoined (t : Slab Half) (v b key : ℕ) (old : List KeyedHalf) : Type 0 where
  pub halves : List KeyedHalf
  pub chain : IsChain t v b key halves
  pub count : length halves ≡ length old
  pub spokes : map spoke_of halves ≡ map spoke_of old

pub chain-joined : (s t : Slab Half) (k n v b key : ℕ) (es : List KeyedHalf) → Joins s t k n → IsChain s v b key es → IsRejoined t v b key es
chain-joined s t k n v b key [] j c = record { halves = []; chain = tt; count = refl; spokes = refl }
chain-joined s t k n v b key (e ∷ rest) j c =
    let later = chain-joined s t k n v e.1.face e.1.after rest j c.4 in
    ⊎_elim
    (λ same. record {
      halves = (e.0, record e.1 { next = n }) ∷ later.halves;
      chain = (c.0, ap (get t) same ∙ j.joined e.1 (ap (get s) (sym same) ∙ c.1), c.2, c.3, later.chain);
      count = let a = later.count in omega arith;
      spokes = ap (λ ss. spoke_of e ∷ ss) later.spokes;
    })
    (λ apart. record {
      halves = e ∷ later.halves;
      chain = (c.0, j.others e.0 apart ∙ c.1, c.2, c.3, later.chain);
      count = let a = later.count in omega arith;
      spokes = ap (λ ss. spoke_of e ∷ ss) later.spokes;
    })
    (cases_eq e.0 k)

pub rejoined : (s t : Slab Half) (k n v : ℕ) (row : Row) → Joins s t k n → (f : IsFanned s v row) → IsRejoined t v (2 ^ 32) row.first f.halves
rejoined s t k n v row j f = chain-joined s t k n v (2 ^ 32) row.first f.halves j f.chain

abbrev pub fanned-joined : (s t : Slab Half) (k n v : ℕ) (row : Row) → Joins s t k n → IsFanned s v row → IsFanned t v row
fanned-joined s t k n v row j f =
    let r = rejoined s t k n v row j f in
    record { halves = r.halves; chain = r.chain; count = r.count ∙ f.count }

pub fans-joined : (rows : finite.FinMap nat_cmp Row) (s t : Slab Half) (k n : ℕ) → Joins s t k n → AreFanned rows s → map_values (fan_of t) rows ≡ map_values (fan_of s) rows
fans-joined rows s t k n j all = map_values-alike (fan_of s) (fan_of t) rows (λ q z there.
    let f = all q z there in
    fan-fanned t q z (fanned-joined s t k n q z j f)
    ∙ ap (λ ss. record { vertex = z.vertex; spokes = ss }) (rejoined s t k n q z j f).spokes
    ∙ sym (fan-fanned s q z f))
