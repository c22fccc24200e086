-- Boxes that are apart keep an edge and a face apart.
use Rattle.std.proofs.Common.{◌≡◌, ⊎_elim, inl, inr, ℕ, ◌∙◌, sym, refl, Bool, true, false, ◌&&◌, ℤ, pos, ◌+ℤ◌, ◌-ℤ◌, ◌*ℤ◌, ◌≤ℤ◌, ◌<ℤ◌, neg_ℤ, arith, int_le, T, lit<, [], ◌∷◌}
use Rattle.std.proofs.lemmas.Int.{ints, by_lt_z}
use Rattle.std.proofs.lemmas.Bool.{and_cases, false≢true}
use Rattle.std.specs.List.{Any}
use Rattle.grid_base.specs.declared.Extent.{Extent}
use Rattle.grid_base.specs.declared.Positions.{Positions}
use Rattle.grid_base.specs.Extents.{IsIn, overlaps, meet_along}
use Rattle.grid_base.specs.Meeting.{MeetAt}
use Rattle.grid_base.specs.Separation.{IsBelow, IsAbove, KeepsApart, AreSeparated, Passes, axes, directions}
use Rattle.grid_base.specs.Triples.{Triple, minus, dot, opposite}
use Rattle.pair_paths.specs.declared.moving_parts.MovingEdge.{MovingEdge}
use Rattle.pair_paths.specs.declared.moving_parts.MovingFace.{MovingFace}
use Rattle.pair_paths.specs.Bounds.{HoldsEdge, HoldsFace, HoldPositions}
use Rattle.pair_paths.specs.Frames.{seen_from}
use Rattle.pair_paths.specs.Pairing.{starts, ends}
use Rattle.grid_base.proofs.Polynomials.{sub, same_polynomial}
use Rattle.grid_base.proofs.TermTriples.{var3, minus_t, dot_t, components}
use Rattle.grid_base.proofs.SeparationLaws.{AreSeparated-at_once, AreSeparated-never_meet, NeverMeet-at_start}

true_of : (b : Bool) → T b → b ≡ true
true_of true t = refl
true_of false t = absurd t

-- the test failed
above_from : (a b : ℤ) → int_le a b ≡ false → b <ℤ a
above_from a b h = by_lt_z b a (λ lt. lt) (λ le. absurd (false≢true (sym h ∙ true_of (int_le a b) le.le)))

-- p ≤ high < low ≤ q
between : (p high low q : ℤ) → p ≤ℤ high → high <ℤ low → low ≤ℤ q → p <ℤ q
between p high low q h i j = omega (arith, ints)

neg_less : (a b : ℤ) → b <ℤ a → neg_ℤ a <ℤ neg_ℤ b
neg_less a b h = omega (arith, ints)

-- ---- along a direction n that reads one coordinate
module _ (n : Triple) (at : Triple → ℤ) (low high : Extent → ℤ) (along : (p : Triple) → dot n p ≡ at p) (against : (p : Triple) → dot (opposite n) p ≡ neg_ℤ (at p))
    (from : (box : Extent) (p : Triple) → IsIn box p → low box ≤ℤ at p) (to : (box : Extent) (p : Triple) → IsIn box p → at p ≤ℤ high box) where
  less : (box other : Extent) (p q : Triple) → IsIn box p → IsIn other q → high box <ℤ low other → dot n p <ℤ dot n q
  less box other p q h i gap = rw (along p, along q) (between (at p) (high box) (low other) (at q) (to box p h) gap (from other q i))

  more : (box other : Extent) (p q : Triple) → IsIn box p → IsIn other q → high other <ℤ low box → dot (opposite n) p <ℤ dot (opposite n) q
  more box other p q h i gap = rw (against p, against q) (neg_less (at p) (at q) (between (at q) (high other) (low box) (at p) (to other q i) gap (from box p h)))

  below : (edge face : Extent) (f : Positions) → HoldPositions edge face f → high edge <ℤ low face → IsBelow n f
  below edge face f h gap = record {
    ac = less edge face f.a f.c h.a h.c gap;
    ad = less edge face f.a f.d h.a h.d gap;
    ae = less edge face f.a f.e h.a h.e gap;
    bc = less edge face f.b f.c h.b h.c gap;
    bd = less edge face f.b f.d h.b h.d gap;
    be = less edge face f.b f.e h.b h.e gap;
  }

  above : (edge face : Extent) (f : Positions) → HoldPositions edge face f → high face <ℤ low edge → IsAbove n f
  above edge face f h gap = record {
    ac = more edge face f.a f.c h.a h.c gap;
    ad = more edge face f.a f.d h.a h.d gap;
    ae = more edge face f.a f.e h.a h.e gap;
    bc = more edge face f.b f.c h.b h.c gap;
    bd = more edge face f.b f.d h.b h.d gap;
    be = more edge face f.b f.e h.b h.e gap;
  }

  keeps_apart : (edge face : Extent) (s t : Positions) → HoldPositions edge face s → HoldPositions edge face t → meet_along (low face) (high face) (low edge) (high edge) ≡ false → KeepsApart s t n
  keeps_apart edge face s t h i off = ⊎_elim
      (λ after. let gap = above_from (low face) (high edge) after in inl (below edge face s h gap, below edge face t i gap))
      (λ before. let gap = above_from (low edge) (high face) before in inr (above edge face s h gap, above edge face t i gap))
      (and_cases (int_le (low face) (high edge)) (int_le (low edge) (high face)) off)

-- ---- the axes
abbrev along_x : Triple
along_x = record { x = pos 1; y = pos 0; z = pos 0 }

abbrev along_y : Triple
along_y = record { x = pos 0; y = pos 1; z = pos 0 }

abbrev along_z : Triple
along_z = record { x = pos 0; y = pos 0; z = pos 1 }

read_x : (x y z : ℤ) → pos 1 *ℤ x +ℤ pos 0 *ℤ y +ℤ pos 0 *ℤ z ≡ x
read_x x y z = omega (arith, ints)

read_y : (x y z : ℤ) → pos 0 *ℤ x +ℤ pos 1 *ℤ y +ℤ pos 0 *ℤ z ≡ y
read_y x y z = omega (arith, ints)

read_z : (x y z : ℤ) → pos 0 *ℤ x +ℤ pos 0 *ℤ y +ℤ pos 1 *ℤ z ≡ z
read_z x y z = omega (arith, ints)

minus_x : (x y z : ℤ) → neg_ℤ (pos 1) *ℤ x +ℤ neg_ℤ (pos 0) *ℤ y +ℤ neg_ℤ (pos 0) *ℤ z ≡ neg_ℤ x
minus_x x y z = omega (arith, ints)

minus_y : (x y z : ℤ) → neg_ℤ (pos 0) *ℤ x +ℤ neg_ℤ (pos 1) *ℤ y +ℤ neg_ℤ (pos 0) *ℤ z ≡ neg_ℤ y
minus_y x y z = omega (arith, ints)

minus_z : (x y z : ℤ) → neg_ℤ (pos 0) *ℤ x +ℤ neg_ℤ (pos 0) *ℤ y +ℤ neg_ℤ (pos 1) *ℤ z ≡ neg_ℤ z
minus_z x y z = omega (arith, ints)

-- An axis keeps apart what boxes with no common point hold; u stands where t does, but for what keeps no direction from keeping apart.
some_axis_like : {Q : Type 0} (edge face : Extent) (s u t : Positions) → ((n : Triple) → KeepsApart s u n → KeepsApart s t n) → HoldPositions edge face s → HoldPositions edge face u → overlaps face edge ≡ false
    → (KeepsApart s t along_x → Q) → (KeepsApart s t along_y → Q) → (KeepsApart s t along_z → Q) → Q
some_axis_like edge face s u t like h i off if_x if_y if_z =
    let x = meet_along face.low.x face.high.x edge.low.x edge.high.x in
    let y = meet_along face.low.y face.high.y edge.low.y edge.high.y in
    let z = meet_along face.low.z face.high.z edge.low.z edge.high.z in
    ⊎_elim
    (λ xy. ⊎_elim
    (λ off_x. if_x (like along_x (keeps_apart along_x (λ p. p.x) (λ b. b.low.x) (λ b. b.high.x) (λ p. read_x p.x p.y p.z) (λ p. minus_x p.x p.y p.z) (λ b p k. k.x_low) (λ b p k. k.x_high) edge face s u h i off_x)))
    (λ off_y. if_y (like along_y (keeps_apart along_y (λ p. p.y) (λ b. b.low.y) (λ b. b.high.y) (λ p. read_y p.x p.y p.z) (λ p. minus_y p.x p.y p.z) (λ b p k. k.y_low) (λ b p k. k.y_high) edge face s u h i off_y)))
    (and_cases x y xy))
    (λ off_z. if_z (like along_z (keeps_apart along_z (λ p. p.z) (λ b. b.low.z) (λ b. b.high.z) (λ p. read_z p.x p.y p.z) (λ p. minus_z p.x p.y p.z) (λ b p k. k.z_low) (λ b p k. k.z_high) edge face s u h i off_z)))
    (and_cases (x && y) z off)

-- the directions begin with the axes
some_direction_like : (edge face : Extent) (s u t : Positions) → ((n : Triple) → KeepsApart s u n → KeepsApart s t n) → HoldPositions edge face s → HoldPositions edge face u → overlaps face edge ≡ false → Any (KeepsApart s t) (directions s t)
some_direction_like edge face s u t like h i off = some_axis_like edge face s u t like h i off
    (λ k. (0, along_x, lit< tt, refl, k)) (λ k. (1, along_y, lit< tt, refl, k)) (λ k. (2, along_z, lit< tt, refl, k))

some_direction : (edge face : Extent) (s t : Positions) → HoldPositions edge face s → HoldPositions edge face t → overlaps face edge ≡ false → Any (KeepsApart s t) (directions s t)
some_direction edge face s t h i off = some_direction_like edge face s t t (λ n k. k) h i off

-- Boxes with no common point keep what they hold at the start and at the end separated, to any depth.
pub separated : (depth : ℕ) (edge face : Extent) (s t : Positions) → HoldPositions edge face s → HoldPositions edge face t → overlaps face edge ≡ false → AreSeparated depth s t
separated depth edge face s t h i off = AreSeparated-at_once depth s t (some_direction edge face s t h i off)

-- Boxes with no common point keep what they hold from meeting.
pub never_meet : (edge face : Extent) (f : Positions) → HoldPositions edge face f → overlaps face edge ≡ false → ¬ (MeetAt f)
never_meet edge face f h off = NeverMeet-at_start f f (AreSeparated-never_meet 0 f f (separated 0 edge face f f h h off))

-- So they pass the written test.
pub passes_apart : (depth : ℕ) (edge face : Extent) (s t : Positions) → HoldPositions edge face s → HoldPositions edge face t → overlaps face edge ≡ false → Passes depth s t
passes_apart depth edge face s t h i off = inl (separated depth edge face s t h i off)

-- ---- an edge and a face in boxes of their paths
pub starts_held : (e : MovingEdge) (f : MovingFace) (edge face : Extent) → HoldsEdge e edge → HoldsFace f face → HoldPositions edge face (starts e f)
starts_held e f edge face E F = record { a = E.first.start; b = E.second.start; c = F.c.start; d = F.d.start; e = F.e.start }

pub ends_held : (e : MovingEdge) (f : MovingFace) (edge face : Extent) → HoldsEdge e edge → HoldsFace f face → HoldPositions edge face (ends e f)
ends_held e f edge face E F = record { a = E.first.end; b = E.second.end; c = F.c.end; d = F.d.end; e = F.e.end }

-- ---- as a position sees them at the end
-- a translation changes no order along a direction
seen_along : (n p o : Triple) → dot n (minus p o) ≡ dot n p -ℤ dot n o
seen_along n p o =
    let n' = var3 0 in let p' = var3 3 in let o' = var3 6 in
    same_polynomial (components (n ∷ p ∷ o ∷ [])) (dot_t n' (minus_t p' o')) (sub (dot_t n' p') (dot_t n' o')) refl

unseen : (n p q o : Triple) → dot n (minus p o) <ℤ dot n (minus q o) → dot n p <ℤ dot n q
unseen n p q o h = back (dot n p) (dot n q) (dot n o) (rw (sym (seen_along n p o), sym (seen_along n q o)) h)
  where
    back : (a b c : ℤ) → (a -ℤ c) <ℤ (b -ℤ c) → a <ℤ b
    back a b c h = omega (arith, ints)

below_unseen : (n o : Triple) (f : Positions) → IsBelow n (seen_from o f) → IsBelow n f
below_unseen n o f h = record {
  ac = unseen n f.a f.c o h.ac;
  ad = unseen n f.a f.d o h.ad;
  ae = unseen n f.a f.e o h.ae;
  bc = unseen n f.b f.c o h.bc;
  bd = unseen n f.b f.d o h.bd;
  be = unseen n f.b f.e o h.be;
}

keeps_apart_unseen : (o : Triple) (s t : Positions) (n : Triple) → KeepsApart s (seen_from o t) n → KeepsApart s t n
keeps_apart_unseen o s t n h = ⊎_elim (λ k. inl (k.0, below_unseen n o t k.1)) (λ k. inr (k.0, below_unseen (opposite n) o t k.1)) h

-- Boxes with no common point, one position seeing what they hold at the end, keep it separated to any depth; so it passes.
pub passes_apart_seen : (depth : ℕ) (edge face : Extent) (o : Triple) (s t : Positions) → HoldPositions edge face s → HoldPositions edge face (seen_from o t) → overlaps face edge ≡ false → Passes depth s t
passes_apart_seen depth edge face o s t h i off = inl (AreSeparated-at_once depth s t (some_direction_like edge face s (seen_from o t) t (keeps_apart_unseen o s t) h i off))

-- And so does one of the axes, as they stand.
pub some_axis_seen : (edge face : Extent) (o : Triple) (s t : Positions) → HoldPositions edge face s → HoldPositions edge face (seen_from o t) → overlaps face edge ≡ false → Any (KeepsApart s t) axes
some_axis_seen edge face o s t h i off = some_axis_like edge face s (seen_from o t) t (keeps_apart_unseen o s t) h i off
    (λ k. (0, along_x, lit< tt, refl, k)) (λ k. (1, along_y, lit< tt, refl, k)) (λ k. (2, along_z, lit< tt, refl, k))
