-- A direction along which an edge lies beyond a face parts it from the face.
use Rattle.std.proofs.Common.{◌≡◌, ◌∙◌, inl, inr, suc, false, ℤ, pos, negsuc, ◌+ℤ◌, ◌-ℤ◌, ◌*ℤ◌, ◌<ℤ◌, ◌≤ℤ◌, ◌≤◌, unsigned_abs, SFits, to_z, of_z, [], ◌∷◌, refl, sym, ap, subst, arith}
use Rattle.std.specs.Int.{w128}
use Rattle.std.proofs.lemmas.Int.{ints, to_z-of_z}
use Rattle.grid_base.specs.declared.TheConstants.{EXTENT_MAX}
use Rattle.grid_base.specs.declared.narrow.TheConstants.{SPAN_MAX, TOTAL_MAX}
use Rattle.grid_base.specs.declared.Extent.{Extent}
use Rattle.grid_base.specs.declared.Positions.{Positions}
use Rattle.grid_base.specs.Extents.{IsIn, overlaps}
use Rattle.grid_base.specs.Meeting.{MeetAt}
use Rattle.grid_base.specs.Triples.{Triple, dot, opposite}
use Rattle.grid_base.proofs.MeetingLaws.{Meets-not_below}
use Rattle.grid_base.proofs.Order.{times-mono}
use Rattle.grid_base.proofs.Polynomials.{var, num, sub, mul, same_polynomial}
use Rattle.motion_test.proofs.OtherWay.{above_of}
use Rattle.pair_paths.proofs.Apart.{never_meet}
use Rattle.pair_candidates.specs.declared.range.Range.{Range}
use Rattle.pair_candidates.specs.Slabs.{IsAlong, AreBeyond, IsPartedFrom}

-- ---- products with a number that is not negative, and with one that is
pub times_up : (n a b : ℤ) → pos 0 ≤ℤ n → a ≤ℤ b → (n *ℤ a) ≤ℤ (n *ℤ b)
times_up (pos k) a b h i = times-mono k a b i
times_up (negsuc k) a b h i = absurd (omega (arith, ints))

pub times_down : (n a b : ℤ) → n <ℤ pos 0 → a ≤ℤ b → (n *ℤ b) ≤ℤ (n *ℤ a)
times_down (pos k) a b h i = absurd (omega (arith, ints))
times_down (negsuc k) a b h i = turned (pos (suc k) *ℤ a) (pos (suc k) *ℤ b) _ _ (other a) (other b) (times-mono (suc k) a b i)
  where
    negative : negsuc k ≡ pos 0 -ℤ pos (suc k)
    negative = omega (arith, ints)

    other : (z : ℤ) → negsuc k *ℤ z ≡ pos 0 -ℤ pos (suc k) *ℤ z
    other z = ap (λ m. m *ℤ z) negative ∙ same_polynomial (pos (suc k) ∷ z ∷ []) (mul (sub (num (pos 0)) (var 0)) (var 1)) (sub (num (pos 0)) (mul (var 0) (var 1))) refl

    turned : (x y x' y' : ℤ) → x' ≡ pos 0 -ℤ x → y' ≡ pos 0 -ℤ y → x ≤ℤ y → y' ≤ℤ x'
    turned x y x' y' p q r = omega (arith, ints)

pub three_up : (a b c d e f : ℤ) → a ≤ℤ d → b ≤ℤ e → c ≤ℤ f → (a +ℤ b +ℤ c) ≤ℤ (d +ℤ e +ℤ f)
three_up a b c d e f p q r = omega (arith, ints)

-- ---- what 128 bits hold
pub extent_fits : (z : ℤ) → unsigned_abs z ≤ EXTENT_MAX → SFits w128 z
extent_fits z h = omega (arith, ints)

pub total_fits : (z : ℤ) → unsigned_abs z ≤ TOTAL_MAX → SFits w128 z
total_fits z h = omega (arith, ints)

pub low_in : (z p : ℤ) → unsigned_abs z ≤ EXTENT_MAX → z ≤ℤ p → to_z w128 (of_z w128 z) ≤ℤ p
low_in z p fits h = subst (λ v. v ≤ℤ p) (sym (to_z-of_z w128 z (extent_fits z fits))) h

pub high_in : (z p : ℤ) → unsigned_abs z ≤ EXTENT_MAX → p ≤ℤ z → p ≤ℤ to_z w128 (of_z w128 z)
high_in z p fits h = subst (λ v. p ≤ℤ v) (sym (to_z-of_z w128 z (extent_fits z fits))) h

pub total_low : (z q : ℤ) → unsigned_abs z ≤ TOTAL_MAX → z ≤ℤ q → to_z w128 (of_z w128 z) ≤ℤ q
total_low z q fits h = subst (λ v. v ≤ℤ q) (sym (to_z-of_z w128 z (total_fits z fits))) h

pub total_high : (z q : ℤ) → unsigned_abs z ≤ TOTAL_MAX → q ≤ℤ z → q ≤ℤ to_z w128 (of_z w128 z)
total_high z q fits h = subst (λ v. q ≤ℤ v) (sym (to_z-of_z w128 z (total_fits z fits))) h

pub at_most : (a b c : ℤ) → a ≤ℤ b → b ≤ℤ c → a ≤ℤ c
at_most a b c p q = omega (arith, ints)

span_fits : (z : ℤ) → unsigned_abs z ≤ SPAN_MAX → SFits w128 z
span_fits z h = omega (arith, ints)

pub term_low : (n r p : ℤ) → unsigned_abs n ≤ SPAN_MAX → unsigned_abs r ≤ EXTENT_MAX → (to_z w128 (of_z w128 n) *ℤ r) ≤ℤ (to_z w128 (of_z w128 n) *ℤ p) → (n *ℤ to_z w128 (of_z w128 r)) ≤ℤ (n *ℤ p)
term_low n r p fits within h =
    subst (λ v. (n *ℤ v) ≤ℤ (n *ℤ p)) (sym (to_z-of_z w128 r (extent_fits r within))) (subst (λ m. (m *ℤ r) ≤ℤ (m *ℤ p)) (to_z-of_z w128 n (span_fits n fits)) h)

pub term_high : (n r p : ℤ) → unsigned_abs n ≤ SPAN_MAX → unsigned_abs r ≤ EXTENT_MAX → (to_z w128 (of_z w128 n) *ℤ p) ≤ℤ (to_z w128 (of_z w128 n) *ℤ r) → (n *ℤ p) ≤ℤ (n *ℤ to_z w128 (of_z w128 r))
term_high n r p fits within h =
    subst (λ v. (n *ℤ p) ≤ℤ (n *ℤ v)) (sym (to_z-of_z w128 r (extent_fits r within))) (subst (λ m. (m *ℤ p) ≤ℤ (m *ℤ r)) (to_z-of_z w128 n (span_fits n fits)) h)

-- ---- beyond a range
below : (a l c : ℤ) → a <ℤ l → l ≤ℤ c → a <ℤ c
below a l c p q = omega (arith, ints)

above : (a h c : ℤ) → h <ℤ a → c ≤ℤ h → c <ℤ a
above a h c p q = omega (arith, ints)

pub beyond_parts : (n : Triple) (r : Range) (f : Positions) → AreBeyond n r f.a f.b → IsAlong n r f.c → IsAlong n r f.d → IsAlong n r f.e → ¬ (MeetAt f)
beyond_parts n r f (inl h) c d e w = Meets-not_below n f (record {
  ac = below (dot n f.a) r.low (dot n f.c) h.0 c.low;
  ad = below (dot n f.a) r.low (dot n f.d) h.0 d.low;
  ae = below (dot n f.a) r.low (dot n f.e) h.0 e.low;
  bc = below (dot n f.b) r.low (dot n f.c) h.1 c.low;
  bd = below (dot n f.b) r.low (dot n f.d) h.1 d.low;
  be = below (dot n f.b) r.low (dot n f.e) h.1 e.low;
}) w
beyond_parts n r f (inr h) c d e w = Meets-not_below (opposite n) f (record {
  ac = above_of n f.a f.c (above (dot n f.a) r.high (dot n f.c) h.0 c.high);
  ad = above_of n f.a f.d (above (dot n f.a) r.high (dot n f.d) h.0 d.high);
  ae = above_of n f.a f.e (above (dot n f.a) r.high (dot n f.e) h.0 e.high);
  bc = above_of n f.b f.c (above (dot n f.b) r.high (dot n f.c) h.1 c.high);
  bd = above_of n f.b f.d (above (dot n f.b) r.high (dot n f.d) h.1 d.high);
  be = above_of n f.b f.e (above (dot n f.b) r.high (dot n f.e) h.1 e.high);
}) w

-- from a box that reaches so far
pub beside_parts : (n : Triple) (r : Range) (box : Extent) (a b : Triple) → AreBeyond n r a b → ((p : Triple) → IsIn box p → IsAlong n r p) → IsPartedFrom (IsIn box) a b
beside_parts n r box a b beyond reach c d e C D E = beyond_parts n r (record { a = a; b = b; c = c; d = d; e = e }) beyond (reach c C) (reach d D) (reach e E)

-- ---- boxes that are apart
pub boxes_part : (edge box : Extent) (a b : Triple) → IsIn edge a → IsIn edge b → overlaps box edge ≡ false → IsPartedFrom (IsIn box) a b
boxes_part edge box a b A B off c d e C D E = never_meet edge box (record { a = a; b = b; c = c; d = d; e = e }) (record { a = A; b = B; c = C; d = D; e = E }) off
