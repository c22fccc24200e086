-- A vertex whose half-edge in one face is taken out.
use Rattle.std.proofs.Common.{◌≡◌, ◌≢◌, ℕ, ◌-◌, ◌<◌, ◌==◌, ◌^◌, true, false, cond, List, [], ◌∷◌, Some, None, map, length, sym, ap, subst, ◌∙◌, arith}
use Rattle.slab.specs.Slab.{Slab, get}
use Rattle.half_mesh.specs.declared.halves.Half.{Half}
use Rattle.half_mesh.specs.declared.row.Row.{Row}
use Rattle.half_mesh.specs.Fans.{without, without_spoke}
use Rattle.half_mesh.specs.Walks.{KeyedHalf, walk, key_before, cut, spoke_of, fan_of, IsChain, IsFanned, IsLinkedPast, Resets}
use Rattle.half_mesh.proofs.Chains.{IsBefore, walk-chain, walk-none, chain_stays, chain-higher, keys_differ, before-chain, chain-cut, cut-chain, cut-absent}
use Rattle.half_mesh.proofs.Fanned.{Stay, fan-fanned, walk-fanned}

-- the half-edges of a vertex, of which one is first
pub record IsHeaded (s : Slab Half) (v : ℕ) (row : Row) (first : Half) (es : List KeyedHalf) : Type 0 where
  pub rest : List KeyedHalf
  pub are : es ≡ (row.first, first) ∷ rest
  pub chain : IsChain s v (2 ^ 32) row.first ((row.first, first) ∷ rest)
  pub count : length rest ≡ row.count - 1
  pub some : 0 < row.count

by_halves : (s : Slab Half) (v : ℕ) (row : Row) (first : Half) (es : List KeyedHalf) → IsChain s v (2 ^ 32) row.first es → length es ≡ row.count → 0 < row.count → get s row.first ≡ Some first → IsHeaded s v row first es
by_halves s v row first [] c count more at = absurd (omega arith)
by_halves s v row first (e ∷ rest) c count more at =
    let key : e.0 ≡ row.first = c.0 in
    let half : e.1 ≡ first = cc (c.1, ap (get s) c.0, at) in
    let both : e ≡ (row.first, first) = λ i. (key i, half i) in
    record {
      rest = rest;
      are = ap (λ x. x ∷ rest) both;
      chain = subst (λ x. IsChain s v (2 ^ 32) row.first (x ∷ rest)) both c;
      count = omega arith;
      some = more;
    }

pub headed : (s : Slab Half) (v : ℕ) (row : Row) (first : Half) (f : IsFanned s v row) → 0 < row.count → get s row.first ≡ Some first → IsHeaded s v row first f.halves
headed s v row first f more at = by_halves s v row first f.halves f.chain f.count more at

-- the row of v in another slab has lost its half-edge in the face, and the other vertices have theirs
pub record IsDetached (s t : Slab Half) (v f : ℕ) (row new : Row) : Type 0 where
  pub fanned : IsFanned t v new
  pub fan : fan_of t new ≡ without_spoke (fan_of s row) f
  pub others : (q : ℕ) → q ≢ v → Stay s t q

-- a key of a half-edge that leaves v is none of one that leaves another
pub key_of_other : (s : Slab Half) (k l v q : ℕ) (h g : Half) → get s k ≡ Some h → h.origin ≡ q → get s l ≡ Some g → g.origin ≡ v → q ≢ v → k ≢ l
key_of_other s k l v q h g at of_q at_l of_v apart same =
    let both : h ≡ g = cc in
    apart (sym of_q ∙ ap (λ x. x.origin) both ∙ of_v)

pub detached-first : (s t : Slab Half) (v f : ℕ) (row : Row) (first : Half) (was : IsFanned s v row) → 0 < row.count → get s row.first ≡ Some first → (first.face == f) ≡ true → ((k : ℕ) → k ≢ row.first → get t k ≡ get s k)
    → IsDetached s t v f row (record row { first = first.after; count = row.count - 1 })
detached-first s t v f row first was more at is up =
    let head = headed s v row first was more at in
    let stays : (k : ℕ) (h : Half) → get s k ≡ Some h → h.origin ≡ v → h.face < first.face → get t k ≡ Some h = λ k h there of_v falls.
    up k (keys_differ s k row.first h first there at falls) ∙ there in
    let small : first.face < 2 ^ 32 = head.chain.3 in
    let new : Row = record row { first = first.after; count = row.count - 1 } in
    let fanned : IsFanned t v new = record {
      halves = head.rest;
      chain = chain-higher t v first.face (2 ^ 32) first.after head.rest small (chain_stays s t v first.face first.after head.rest stays head.chain.4);
      count = head.count;
    } in
    record {
      fanned = fanned;
      fan = fan-fanned t v new fanned
          ∙ sym (ap (λ x. without_spoke x f) (fan-fanned s v row was)
          ∙ ap (λ ss. record { vertex = row.vertex; spokes = ss }) (sym (cut-chain s v (2 ^ 32) f row.first was.halves was.chain))
          ∙ ap (λ es. record { vertex = row.vertex; spokes = cut f (map spoke_of es) }) head.are
          ∙ ap (λ b. record { vertex = row.vertex; spokes = cond b (map spoke_of head.rest) (spoke_of (row.first, first) ∷ cut f (map spoke_of head.rest)) }) is);
      others = λ q apart k h there of_q. up k (key_of_other s k row.first v q h first there of_q at head.chain.2 apart) ∙ there;
    }

pub detached-later : (s t : Slab Half) (v f : ℕ) (row : Row) (first : Half) (p : KeyedHalf) (gone : Half) (was : IsFanned s v row) → 0 < row.count → get s row.first ≡ Some first → (first.face == f) ≡ false
    → key_before f (row.first, first) (walk s (row.count - 1) first.after) ≡ Some p → IsLinkedPast s t p gone → IsDetached s t v f row (record row { count = row.count - 1 })
detached-later s t v f row first p gone was more at apart found past =
    let head = headed s v row first was more at in
    let rest_is : walk s (row.count - 1) first.after ≡ head.rest = ap (λ n. walk s n first.after) (sym head.count) ∙ walk-chain s v first.face first.after head.rest head.chain.4 in
    let before : key_before f (row.first, first) head.rest ≡ Some p = ap (key_before f (row.first, first)) (sym rest_is) ∙ found in
    let around = before-chain s v (2 ^ 32) f (row.first, first) head.rest p head.chain before in
    let cut_there = chain-cut s t v (2 ^ 32) f (row.first, first) head.rest p gone head.chain apart before past in
    let gone_is : gone ≡ around.gone = cc (past.there, around.gone_there) in
    let gone_of_v : gone.origin ≡ v = ap (λ h. h.origin) gone_is ∙ around.gone_of_v in
    let new : Row = record row { count = row.count - 1 } in
    let fanned : IsFanned t v new = record {
      halves = cut_there.halves;
      chain = cut_there.chain;
      count = let a = cut_there.count in let b = head.count in omega arith;
    } in
    record {
      fanned = fanned;
      fan = fan-fanned t v new fanned
          ∙ ap (λ ss. record { vertex = row.vertex; spokes = ss }) cut_there.spokes
          ∙ sym (ap (λ x. without_spoke x f) (fan-fanned s v row was) ∙ ap (λ ss. record { vertex = row.vertex; spokes = ss }) (sym (cut-chain s v (2 ^ 32) f row.first was.halves was.chain)) ∙ ap (λ es. record { vertex = row.vertex; spokes = cut f (map spoke_of es) }) head.are);
      others = λ q other k h there of_q.
          past.others k
          (key_of_other s k p.0 v q h p.1 there of_q around.there around.of_v other)
          (key_of_other s k p.1.after v q h gone there of_q past.there gone_of_v other)
          ∙ there;
    }

-- a vertex with no half-edge in the face
pub kept-absent : (s : Slab Half) (v f : ℕ) (row : Row) (first : Half) (was : IsFanned s v row) → 0 < row.count → get s row.first ≡ Some first → (first.face == f) ≡ false
    → key_before f (row.first, first) (walk s (row.count - 1) first.after) ≡ None → without_spoke (fan_of s row) f ≡ fan_of s row
kept-absent s v f row first was more at apart none =
    let head = headed s v row first was more at in
    let rest_is : walk s (row.count - 1) first.after ≡ head.rest = ap (λ n. walk s n first.after) (sym head.count) ∙ walk-chain s v first.face first.after head.rest head.chain.4 in
    let nothing : key_before f (row.first, first) head.rest ≡ None = ap (key_before f (row.first, first)) (sym rest_is) ∙ none in
    let halves = walk-fanned s v row was ∙ head.are in
    ap (λ es. record { vertex = row.vertex; spokes = without f (map spoke_of es) }) halves
    ∙ ap (λ ss. record { vertex = row.vertex; spokes = ss }) (sym (cut-chain s v (2 ^ 32) f row.first ((row.first, first) ∷ head.rest) head.chain))
    ∙ ap (λ ss. record { vertex = row.vertex; spokes = ss }) (cut-absent f (row.first, first) head.rest apart nothing)
    ∙ sym (ap (λ es. record { vertex = row.vertex; spokes = map spoke_of es }) halves)

-- a vertex with no half-edge at all
pub kept-none : (s : Slab Half) (f : ℕ) (row : Row) → row.count ≡ 0 → without_spoke (fan_of s row) f ≡ fan_of s row
kept-none s f row none =
    let halves : walk s row.count row.first ≡ [] = ap (λ n. walk s n row.first) none in
    ap (λ es. record { vertex = row.vertex; spokes = without f (map spoke_of es) }) halves ∙ sym (ap (λ es. record { vertex = row.vertex; spokes = map spoke_of es }) halves)

pub kept-nothing : (s : Slab Half) (f : ℕ) (row : Row) → get s row.first ≡ None → without_spoke (fan_of s row) f ≡ fan_of s row
kept-nothing s f row none =
    let halves : walk s row.count row.first ≡ [] = walk-none s row.count row.first none in
    ap (λ es. record { vertex = row.vertex; spokes = without f (map spoke_of es) }) halves ∙ sym (ap (λ es. record { vertex = row.vertex; spokes = map spoke_of es }) halves)

-- what was found stands in the slab, and before another
pub found_before : (s : Slab Half) (v f : ℕ) (row : Row) (first : Half) (p : KeyedHalf) (was : IsFanned s v row) → 0 < row.count → get s row.first ≡ Some first
    → key_before f (row.first, first) (walk s (row.count - 1) first.after) ≡ Some p → IsBefore s v (2 ^ 32) f p
found_before s v f row first p was more at found =
    let head = headed s v row first was more at in
    let rest_is : walk s (row.count - 1) first.after ≡ head.rest = ap (λ n. walk s n first.after) (sym head.count) ∙ walk-chain s v first.face first.after head.rest head.chain.4 in
    before-chain s v (2 ^ 32) f (row.first, first) head.rest p head.chain (ap (key_before f (row.first, first)) (sym rest_is) ∙ found)

-- a half-edge that follows another is passed over, and stays at its key
pub past-set : (s t : Slab Half) (p : KeyedHalf) (gone : Half) → get s p.0 ≡ Some p.1 → get s p.1.after ≡ Some gone → Resets s t p.0 gone.after → IsLinkedPast s t p gone
past-set s t p gone at there r = record { there = there; linked = r.changed p.1 at; others = λ k a b. r.others k a }
