-- A vertex among whose half-edges one is put back.
use Rattle.std.proofs.Common.{◌≡◌, ◌≢◌, ⊎_elim, ℕ, ◌+◌, ◌-◌, ◌<◌, ◌≤◌, ◌^◌, Bool, true, false, cond, nat_lt, List, [], ◌∷◌, Option, Some, None, map, length, refl, sym, ap, subst, ◌∙◌, arith}
use Rattle.std.proofs.lemmas.Bool.Decides.{nat_tests}
use Rattle.slab.specs.Slab.{Slab, get}
use Rattle.half_mesh.specs.declared.halves.Half.{Half}
use Rattle.half_mesh.specs.declared.row.Row.{Row}
use Rattle.half_mesh.specs.Fans.{Spoke, put_spoke, IsOutside}
use Rattle.half_mesh.specs.Walks.{KeyedHalf, walk, spoke_of, fan_of, IsChain, IsFanned, Resets, last_newer, IsPutAfter, put_in, IsLinkedIn}
use Rattle.half_mesh.proofs.Chains.{walk-chain, chain_stays, keys_differ}
use Rattle.half_mesh.proofs.ChainPut.{AreOut, chain-put}
use Rattle.half_mesh.proofs.Fanned.{Stay, fan-fanned, walk-fanned}
use Rattle.half_mesh.proofs.Detached.{headed, key_of_other}

-- the row of v in another slab has one spoke more at its place, and the other vertices have theirs
pub record IsRelinked (s t : Slab Half) (v : ℕ) (row new : Row) (sp : Spoke) : Type 0 where
  pub fanned : IsFanned t v new
  pub fan : fan_of t new ≡ record { vertex = row.vertex; spokes = put_spoke sp (fan_of s row).spokes }
  pub others : (q : ℕ) → q ≢ v → Stay s t q

abbrev pub moved_row : Row → ℕ × ℕ → Row
moved_row row to = record { vertex = row.vertex; first = to.0; count = to.1 }

out_of : (f : ℕ) (es : List KeyedHalf) → IsOutside f (map spoke_of es) → AreOut f es
out_of f [] h = tt
out_of f (e ∷ es) h = (h.0, out_of f es h.1)

last_there : (s : Slab Half) (v b f : ℕ) (e : KeyedHalf) (rest : List KeyedHalf) → IsChain s v b e.0 (e ∷ rest) → f < e.1.face
    → (get s (last_newer f e rest).0 ≡ Some (last_newer f e rest).1) × ((last_newer f e rest).1.origin ≡ v) × (f < (last_newer f e rest).1.face)
last_there s v b f e [] c newer = (c.1, c.2, newer)
last_there s v b f e (x ∷ rest) c newer =
    by_test (λ less. last_there s v e.1.face f x rest (refl, c.4.1, c.4.2, c.4.3, c.4.4) less) (nat_lt f x.1.face) refl
  where
    by_test : (f < x.1.face → (get s (last_newer f x rest).0 ≡ Some (last_newer f x rest).1) × ((last_newer f x rest).1.origin ≡ v) × (f < (last_newer f x rest).1.face)) → (u : Bool) → nat_lt f x.1.face ≡ u
        → (get s (cond u (last_newer f x rest) e).0 ≡ Some (cond u (last_newer f x rest) e).1) × ((cond u (last_newer f x rest) e).1.origin ≡ v) × (f < (cond u (last_newer f x rest) e).1.face)
    by_test later true u = let less : f < x.1.face = grind (arith, nat_tests) in later less
    by_test later false u = (c.1, c.2, newer)

module _ (s t : Slab Half) (v : ℕ) (row : Row) (key : ℕ) (h : Half) (f : IsFanned s v row) (held : get s key ≡ Some h) (of_v : h.origin ≡ v) (small : h.face < 2 ^ 32) where
  abbrev sp : Spoke
  sp = record { face = h.face; to = h.to }

  alone : f.halves ≡ [] → ((k : ℕ) → get t k ≡ get s k) → IsRelinked s t v row (moved_row row (key, 1)) sp
  alone none same =
      let fanned : IsFanned t v (moved_row row (key, 1)) = record { halves = (key, h) ∷ []; chain = (refl, same key ∙ held, of_v, small, tt); count = refl } in
      record {
        fanned = fanned;
        fan = fan-fanned t v (moved_row row (key, 1)) fanned ∙ ap (λ es. record { vertex = row.vertex; spokes = put_spoke sp (map spoke_of es) }) (sym (walk-fanned s v row f ∙ none));
        others = λ q apart k g there of_q. same k ∙ there;
      }

  no_halves : (es : List KeyedHalf) → IsChain s v (2 ^ 32) row.first es → get s row.first ≡ None → es ≡ []
  no_halves [] c none = refl
  no_halves (e ∷ es) c none = absurd (let at = c.1 in let same = ap (get s) c.0 in cc)

  count_none : (es : List KeyedHalf) → length es ≡ 0 → es ≡ []
  count_none [] e = refl
  count_none (x ∷ es) e = absurd (omega arith)

  at_first : (newest : Half) → get s row.first ≡ Some newest → 0 < row.count → newest.face < h.face → Resets s t key row.first → IsRelinked s t v row (moved_row row (key, row.count + 1)) sp
  at_first newest at some less r =
      let head = headed s v row newest f some at in
      let c = head.chain in
      let placed : Half = record h { after = row.first } in
      let stays : (k : ℕ) (g : Half) → get s k ≡ Some g → g.origin ≡ v → g.face < h.face → get t k ≡ Some g = λ k g there g_of_v falls. r.others k (keys_differ s k key g h there held falls) ∙ there in
      let fanned : IsFanned t v (moved_row row (key, row.count + 1)) = record {
        halves = (key, placed) ∷ (row.first, newest) ∷ head.rest;
        chain = (refl, r.changed h held, of_v, small, chain_stays s t v h.face row.first ((row.first, newest) ∷ head.rest) stays (c.0, c.1, c.2, less, c.4));
        count = let n = head.count in omega (arith, n, some);
      } in
      let not_less : nat_lt h.face newest.face ≡ false = grind (arith, nat_tests) in
      record {
        fanned = fanned;
        fan = fan-fanned t v (moved_row row (key, row.count + 1)) fanned
            ∙ sym (ap (λ es. record { vertex = row.vertex; spokes = put_spoke sp (map spoke_of es) }) (walk-fanned s v row f ∙ head.are)
            ∙ ap (λ b. record { vertex = row.vertex; spokes = cond b (spoke_of (row.first, newest) ∷ put_spoke sp (map spoke_of head.rest)) (sp ∷ spoke_of (row.first, newest) ∷ map spoke_of head.rest) }) not_less);
        others = λ q apart k g there of_q. r.others k (key_of_other s k key v q g h there of_q held of_v apart) ∙ there;
      }

  later_on : (newest : Half) → get s row.first ≡ Some newest → 0 < row.count → h.face ≤ newest.face → IsOutside h.face (map spoke_of f.halves)
      → ((last_newer h.face (row.first, newest) (walk s (row.count - 1) newest.after)).0 ≢ key → get s (last_newer h.face (row.first, newest) (walk s (row.count - 1) newest.after)).0 ≡ Some (last_newer h.face (row.first, newest) (walk s (row.count - 1) newest.after)).1 → IsPutAfter s t (last_newer h.face (row.first, newest) (walk s (row.count - 1) newest.after)) key h)
      → IsRelinked s t v row (moved_row row (row.first, row.count + 1)) sp
  later_on newest at some more outside puts =
      let head = headed s v row newest f some at in
      let c = head.chain in
      let rest_is : walk s (row.count - 1) newest.after ≡ head.rest = ap (λ n. walk s n newest.after) (sym head.count) ∙ walk-chain s v newest.face newest.after head.rest c.4 in
      let out : AreOut h.face ((row.first, newest) ∷ head.rest) = subst (AreOut h.face) head.are (out_of h.face f.halves outside) in
      let apart = out.0 in
      let newer : h.face < newest.face = omega (arith, more, apart) in
      let p = last_newer h.face (row.first, newest) head.rest in
      let last = last_there s v (2 ^ 32) h.face (row.first, newest) head.rest c newer in
      let other : p.0 ≢ key = λ same. keys_differ s key p.0 h p.1 held last.0 last.2 (sym same) in
      let put : IsPutAfter s t p key h = subst (λ es. (last_newer h.face (row.first, newest) es).0 ≢ key → get s (last_newer h.face (row.first, newest) es).0 ≡ Some (last_newer h.face (row.first, newest) es).1 → IsPutAfter s t (last_newer h.face (row.first, newest) es) key h) rest_is puts other last.0 in
      let done = chain-put s t v (2 ^ 32) h.face (row.first, newest) head.rest key h c newer out.1 of_v refl put in
      let fanned : IsFanned t v (moved_row row (row.first, row.count + 1)) = record {
        halves = done.halves;
        chain = done.chain;
        count = let a = done.count in let n = head.count in omega (arith, a, n, some);
      } in
      record {
        fanned = fanned;
        fan = fan-fanned t v (moved_row row (row.first, row.count + 1)) fanned
            ∙ ap (λ ss. record { vertex = row.vertex; spokes = ss }) done.spokes
            ∙ sym (ap (λ es. record { vertex = row.vertex; spokes = put_spoke sp (map spoke_of es) }) (walk-fanned s v row f ∙ head.are));
        others = λ q differs k g there of_q. put.others k (key_of_other s k p.0 v q g p.1 there of_q last.0 last.1 differs) (key_of_other s k key v q g h there of_q held of_v differs) ∙ there;
      }

  pub relinked : (to : ℕ × ℕ) → IsOutside h.face (map spoke_of f.halves) → IsLinkedIn s t row.first row.count key h to → IsRelinked s t v row (moved_row row to) sp
  relinked to outside linked = by_first (get s row.first) refl linked.put
    where
      by_first : (o : Option Half) → get s row.first ≡ o → put_in s t row.first row.count key h to o → IsRelinked s t v row (moved_row row to) sp
      by_first None e put = subst (λ w. IsRelinked s t v row (moved_row row w) sp) (sym put.0) (alone (no_halves f.halves f.chain e) put.1)
      by_first (Some newest) e put =
          ⊎_elim
          (λ a. subst (λ w. IsRelinked s t v row (moved_row row w) sp) (sym a.1) (alone (count_none f.halves (f.count ∙ a.0)) a.2))
          (λ b. ⊎_elim
          (λ a. subst (λ w. IsRelinked s t v row (moved_row row w) sp) (sym a.2) (at_first newest e a.0 a.1 a.3))
          (λ a. subst (λ w. IsRelinked s t v row (moved_row row w) sp) (sym a.2) (later_on newest e a.0 a.1 outside a.3))
          b)
          put
