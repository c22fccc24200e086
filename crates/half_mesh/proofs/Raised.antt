-- How fans and faces stay tied as a face is raised: its spokes go back to their places.
use Rattle.std.proofs.Common.{◌≡◌, ⊎_elim, ℕ, ◌<◌, ◌^◌, IsSome, ◌==◌, Bool, true, false, cond, T, List, [], ◌∷◌, ◌++◌, Some, None, nat_lt, refl, sym, ap, subst, ◌∙◌, arith, append-nil}
use Rattle.std.proofs.lemmas.Bool.{cases_eq}
use Rattle.std.proofs.lemmas.Bool.Decides.{nat_tests}
use Rattle.std.specs.Ordering.{nat_cmp, is_lt}
use Rattle.std.specs.declared.cmp.Ordering.TheVariants.{Less, Equal, Greater}
use Rattle.std.specs.Cmp.{nat_cmp_total, unsigned_tied}
use Rattle.std.specs.Option.{option_map}
use Rattle.std.specs.FinMap as finite
use Rattle.std.specs.FinMap.{FinMap, entries-insert, entries_sorted, get-entries}
use Rattle.std.specs.FinMap.Entries.{find, put, is_sorted, below_all, by_order}
use Rattle.mesh_base.specs.declared.ids.Corners.{Corners}
use Rattle.mesh_base.specs.Mesh.{AreDifferent}
use Rattle.mesh_base.specs.Sides.{has_corner}
use Rattle.mesh_base.proofs.WalkSteps.{both_of, less_true}
use Rattle.half_mesh.specs.Fans.{Spoke, Woven, side_at, spokes_at, put_spoke, IsOutside, CanRelink}
use Rattle.half_mesh.proofs.TiedLaws.{spokes_at-got}
use Rattle.half_mesh.specs.Tied.{Keys, IsRing, HasRaised, AreTied, corners_at, faces_in, next_corner, spoke_in, falling_spokes}
use Rattle.half_mesh.proofs.Mapped.{map_values-insert, get-map_values, got_after}
use Rattle.half_mesh.proofs.Falling.{AllEntries}
use Rattle.half_mesh.proofs.FaceChanges.{corners-ring, ring-stays, corners-stay, own_ring}
use Rattle.half_mesh.proofs.Rings.{got_some, HasSpokes, spoke_in-first, spoke_in-second, spoke_in-third, spoke_in-none}

-- one spoke, or none, at its place
abbrev pub put_all : List Spoke → List Spoke → List Spoke
put_all [] old = old
put_all (s ∷ ss) old = put_spoke s old

-- all faces are newer, or older
abbrev AreOver : ℕ → List Spoke → Type 0
AreOver f [] = Unit {0}
AreOver f (s ∷ rest) = (f < s.face) × AreOver f rest

abbrev AreUnder : ℕ → List Spoke → Type 0
AreUnder f [] = Unit {0}
AreUnder f (s ∷ rest) = (s.face < f) × AreUnder f rest

put-over : (s : Spoke) (old : List Spoke) → AreOver s.face old → put_spoke s old ≡ old ++ s ∷ []
put-over s [] h = refl
put-over s (x ∷ xs) h =
    let over : s.face < x.face = h.0 in
    let less : nat_lt s.face x.face ≡ true = grind (arith, nat_tests) in
    ap (λ b. cond b (x ∷ put_spoke s xs) (s ∷ x ∷ xs)) less ∙ ap (λ ys. x ∷ ys) (put-over s xs h.1)

put-here : (s : Spoke) (older : List Spoke) → AreUnder s.face older → put_spoke s older ≡ s ∷ older
put-here s [] h = refl
put-here s (y ∷ ys) h =
    let under : y.face < s.face = h.0 in
    let not_less : nat_lt s.face y.face ≡ false = grind (arith, nat_tests) in
    ap (λ b. cond b (y ∷ put_spoke s ys) (s ∷ y ∷ ys)) not_less

put-before : (s : Spoke) (old older : List Spoke) → AreUnder s.face older → put_spoke s (old ++ older) ≡ put_spoke s old ++ older
put-before s [] older h = put-here s older h
put-before s (x ∷ xs) older h = elim (nat_lt s.face x.face) as (λ b. cond b (x ∷ put_spoke s (xs ++ older)) (s ∷ x ∷ (xs ++ older)) ≡ cond b (x ∷ put_spoke s xs) (s ∷ x ∷ xs) ++ older) [
  | true ↦ ap (λ ys. x ∷ ys) (put-before s xs older h)
  | false ↦ refl
]

over-append : (f : ℕ) (xs ys : List Spoke) → AreOver f xs → AreOver f ys → AreOver f (xs ++ ys)
over-append f [] ys h k = k
over-append f (x ∷ xs) ys h k = (h.0, over-append f xs ys h.1 k)

falling_spokes-over : (v f : ℕ) (es : List (ℕ × Corners)) → AllEntries (λ q x. f < q) es → AreOver f (falling_spokes v es)
falling_spokes-over v f [] h = tt
falling_spokes-over v f (e ∷ es) h = over-append f (falling_spokes v es) (spoke_in v e) (falling_spokes-over v f es h.1)
    (elim (has_corner e.1 v) as (λ b. AreOver f (cond b (record { face = e.0; to = next_corner e.1 v } ∷ []) [])) [ true ↦ (h.0, tt) | false ↦ tt ])

above_all : (f a : ℕ) (es : List (ℕ × Corners)) → f < a → T (below_all nat_cmp a es) → AllEntries (λ q x. f < q) es
above_all f a [] h below = tt
above_all f a (e ∷ es) h below =
    let parts = both_of (is_lt (nat_cmp a e.0)) (below_all nat_cmp a es) below in
    let over : nat_lt a e.0 ≡ true = less_true a e.0 parts.0 in
    let more : f < e.0 = grind (arith, nat_tests) in
    (more, above_all f a es h parts.1)

falling_spokes-put : (v f : ℕ) (c : Corners) (es : List (ℕ × Corners)) → T (is_sorted nat_cmp es) → find nat_cmp f es ≡ None → falling_spokes v (put nat_cmp f c es) ≡ put_all (spoke_in v (f, c)) (falling_spokes v es)
falling_spokes-put v f c [] sorted none = elim (has_corner c v) as (λ b. cond b (record { face = f; to = next_corner c v } ∷ []) [] ≡ put_all (cond b (record { face = f; to = next_corner c v } ∷ []) []) []) [ true ↦ refl | false ↦ refl ]
falling_spokes-put v f c (e ∷ es) sorted none =
    let parts = both_of (below_all nat_cmp e.0 es) (is_sorted nat_cmp es) sorted in
    by_less parts.0 (falling_spokes-put v f c es parts.1) (nat_lt f e.0) refl
  where
    sp : Spoke
    sp = record { face = f; to = next_corner c v }

    by_equal : (find nat_cmp f es ≡ None → falling_spokes v (put nat_cmp f c es) ≡ put_all (spoke_in v (f, c)) (falling_spokes v es)) → nat_lt f e.0 ≡ false → (b : Bool) → (f == e.0) ≡ b
        → falling_spokes v (by_order (cond b Equal Greater) ((f, c) ∷ e ∷ es) ((e.0, c) ∷ es) (e ∷ put nat_cmp f c es)) ≡ put_all (spoke_in v (f, c)) (falling_spokes v (e ∷ es))
    by_equal later not_less true t =
        absurd (let found = sym (ap (λ b. cond b (Some e.1) (find nat_cmp f es)) (unsigned_tied f e.0 ∙ t)) ∙ none in cc)
    by_equal later not_less false t =
        let rest : find nat_cmp f es ≡ None = sym (ap (λ b. cond b (Some e.1) (find nat_cmp f es)) (unsigned_tied f e.0 ∙ t)) ∙ none in
        let low : e.0 < f = grind (arith, nat_tests) in
        ap (λ ss. ss ++ spoke_in v e) (later rest)
        ∙ elim (has_corner c v) as (λ b. put_all (cond b (record { face = f; to = next_corner c v } ∷ []) []) (falling_spokes v es) ++ spoke_in v e ≡ put_all (cond b (record { face = f; to = next_corner c v } ∷ []) []) (falling_spokes v es ++ spoke_in v e)) [
          | true ↦ sym (put-before (record { face = f; to = next_corner c v }) (falling_spokes v es) (spoke_in v e) (elim (has_corner e.1 v) as (λ b. AreUnder f (cond b (record { face = e.0; to = next_corner e.1 v } ∷ []) [])) [ true ↦ (low, tt) | false ↦ tt ]))
          | false ↦ refl
        ]

    by_less : T (below_all nat_cmp e.0 es) → (find nat_cmp f es ≡ None → falling_spokes v (put nat_cmp f c es) ≡ put_all (spoke_in v (f, c)) (falling_spokes v es)) → (b : Bool) → nat_lt f e.0 ≡ b
        → falling_spokes v (put nat_cmp f c (e ∷ es)) ≡ put_all (spoke_in v (f, c)) (falling_spokes v (e ∷ es))
    by_less below later true t =
        let less : f < e.0 = grind (arith, nat_tests) in
        let over = falling_spokes-over v f (e ∷ es) (less, above_all f e.0 es less below) in
        ap (λ b. falling_spokes v (by_order (cond b Less (cond (f == e.0) Equal Greater)) ((f, c) ∷ e ∷ es) ((e.0, c) ∷ es) (e ∷ put nat_cmp f c es))) t
        ∙ elim (has_corner c v) as (λ b. falling_spokes v (e ∷ es) ++ cond b (record { face = f; to = next_corner c v } ∷ []) [] ≡ put_all (cond b (record { face = f; to = next_corner c v } ∷ []) []) (falling_spokes v (e ∷ es))) [
          | true ↦ sym (put-over (record { face = f; to = next_corner c v }) (falling_spokes v (e ∷ es)) over)
          | false ↦ append-nil (falling_spokes v (e ∷ es))
        ]
    by_less below later false t =
        ap (λ b. falling_spokes v (by_order (cond b Less (cond (f == e.0) Equal Greater)) ((f, c) ∷ e ∷ es) ((e.0, c) ∷ es) (e ∷ put nat_cmp f c es))) t
        ∙ by_equal later t (f == e.0) refl

-- the spokes of a vertex in the faces with one face more
pub falling_spokes-insert : (v f : ℕ) (c : Corners) (m : FinMap nat_cmp Corners) → finite.get m f ≡ None → falling_spokes v (finite.entries (finite.insert m f c)) ≡ put_all (spoke_in v (f, c)) (falling_spokes v (finite.entries m))
falling_spokes-insert v f c m none = ap (falling_spokes v) (entries-insert nat_cmp_total m f c) ∙ falling_spokes-put v f c (finite.entries m) (entries_sorted m) (sym (get-entries m f) ∙ none)

pub faces-raised : (w x : Woven) (keys : Keys) (f : ℕ) (c : Corners) (key : ℕ) → AreTied w keys → HasRaised w x f c → IsRing w.sides f c key → faces_in x.sides (finite.insert keys f key) ≡ finite.insert (faces_in w.sides keys) f c
faces-raised w x keys f c key t h ring =
    map_values-insert (corners_at w.sides) (corners_at x.sides) keys f key c (corners-ring x.sides f c key (ring-stays w.sides x.sides f c key (λ l side at of_f. h.sides l ∙ at) ring))
    (λ q k apart there. corners-stay w.sides x.sides q k (λ l side at of_q. h.sides l ∙ at) (t.rings q k there))

pub tied-raised : (w x : Woven) (keys : Keys) (f : ℕ) (c : Corners) (key : ℕ) → AreTied w keys → HasRaised w x f c → IsRing w.sides f c key → AreDifferent c → finite.get keys f ≡ None → AreTied x (finite.insert keys f key)
tied-raised w x keys f c key t h ring different none = record {
  rings = λ g k there. ⊎_elim
      (λ e.
      let stays = ring-stays w.sides x.sides f c key (λ l side at of_f. h.sides l ∙ at) ring in
      let made : IsRing x.sides f (corners_at x.sides key) key = subst (λ d. IsRing x.sides f d key) (sym (corners-ring x.sides f c key stays)) stays in
      subst (λ j. IsRing x.sides g (corners_at x.sides j) j) e.1 (subst (λ o. IsRing x.sides o (corners_at x.sides key) key) (sym e.0) made))
      (λ old. own_ring w.sides x.sides g k (λ l side at of_g. h.sides l ∙ at) (t.rings g k old.1))
      (got_after keys f key g k there);
  spokes = λ v.
      all v
      ∙ ap (put_all (spoke_in v (f, c))) (t.spokes v)
      ∙ sym (ap (λ m. falling_spokes v (finite.entries m)) (faces-raised w x keys f c key t h ring) ∙ falling_spokes-insert v f c (faces_in w.sides keys) (get-map_values (corners_at w.sides) keys f ∙ ap (option_map (corners_at w.sides)) none));
}
  where
    all : (v : ℕ) → spokes_at x.fans v ≡ put_all (spoke_in v (f, c)) (spokes_at w.fans v)
    all v = ⊎_elim
        (λ is. ap (spokes_at x.fans) is ∙ h.first ∙ ap (λ q. put_spoke (record { face = f; to = c.second }) (spokes_at w.fans q)) (sym is) ∙ sym (ap (λ ss. put_all ss (spokes_at w.fans v)) (spoke_in-first v f c is)))
        (λ p. ⊎_elim
        (λ is. ap (spokes_at x.fans) is ∙ h.second ∙ ap (λ q. put_spoke (record { face = f; to = c.third }) (spokes_at w.fans q)) (sym is) ∙ sym (ap (λ ss. put_all ss (spokes_at w.fans v)) (spoke_in-second v f c different is)))
        (λ q. ⊎_elim
        (λ is. ap (spokes_at x.fans) is ∙ h.third ∙ ap (λ o. put_spoke (record { face = f; to = c.first }) (spokes_at w.fans o)) (sym is) ∙ sym (ap (λ ss. put_all ss (spokes_at w.fans v)) (spoke_in-third v f c different is)))
        (λ r. h.others v p q r ∙ sym (ap (λ ss. put_all ss (spokes_at w.fans v)) (spoke_in-none v f c p q r)))
        (cases_eq v c.third))
        (cases_eq v c.second))
        (cases_eq v c.first)

-- ---- three half-edges are put back
pub can-relink : (w : Woven) (v key f to next : ℕ) → side_at w.sides key ≡ Some (record { origin = v; to = to; face = f; next = next }) → IsSome (finite.get w.fans v) → f < 2 ^ 32 → IsOutside f (spokes_at w.fans v) → CanRelink w v key
can-relink w v key f to next there live small outside =
    let at = got_some (finite.get w.fans v) live in
    record {
      fan = at.0;
      at = at.1;
      side = record { origin = v; to = to; face = f; next = next };
      there = there;
      of_v = refl;
      small = small;
      outside = subst (IsOutside f) (spokes_at-got w.fans v at.0 at.1) outside;
    }

pub raised-made : (w0 w1 w2 w3 : Woven) (f : ℕ) (c : Corners) → AreDifferent c
    → HasSpokes w0.fans w1.fans c.first (put_spoke (record { face = f; to = c.second }) (spokes_at w0.fans c.first))
    → HasSpokes w1.fans w2.fans c.second (put_spoke (record { face = f; to = c.third }) (spokes_at w1.fans c.second))
    → HasSpokes w2.fans w3.fans c.third (put_spoke (record { face = f; to = c.first }) (spokes_at w2.fans c.third))
    → ((k : ℕ) → side_at w1.sides k ≡ side_at w0.sides k) → ((k : ℕ) → side_at w2.sides k ≡ side_at w1.sides k) → ((k : ℕ) → side_at w3.sides k ≡ side_at w2.sides k)
    → HasRaised w0 w3 f c
raised-made w0 w1 w2 w3 f c d a b e s1 s2 s3 = record {
  sides = λ k. s3 k ∙ s2 k ∙ s1 k;
  first = e.others c.first (λ same. d.third_first (sym same)) ∙ b.others c.first d.first_second ∙ a.here;
  second = e.others c.second d.second_third ∙ b.here ∙ ap (put_spoke (record { face = f; to = c.third })) (a.others c.second (λ same. d.first_second (sym same)));
  third = e.here ∙ ap (put_spoke (record { face = f; to = c.first })) (b.others c.third (λ same. d.second_third (sym same)) ∙ a.others c.third d.third_first);
  others = λ v p q r. e.others v r ∙ b.others v q ∙ a.others v p;
  vertices = e.vertices ∙ b.vertices ∙ a.vertices;
}
