-- An edge and a face whose boxes are apart, the edge's wider by the skin, are not near.
use Rattle.std.proofs.Common.{◌≡◌, ℕ, ◌∙◌, sym, subst, refl, Bool, true, false, ◌&&◌, ℤ, pos, ◌+ℤ◌, ◌-ℤ◌, ◌≤ℤ◌, arith, int_le, T}
use Rattle.std.proofs.lemmas.Int.{ints, int_max_is, int_min_is}
use Rattle.std.proofs.lemmas.Bool.{and_parts, false≢true}
use Rattle.std.specs.Int.{int_min, int_max}
use Rattle.grid_base.specs.declared.Extent.{Extent}
use Rattle.grid_base.specs.Extents.{overlaps, meet_along}
use Rattle.pair_paths.specs.declared.Frame.{Frame}
use Rattle.pair_paths.specs.declared.MovingEdge.{MovingEdge}
use Rattle.pair_paths.specs.declared.MovingFace.{MovingFace}
use Rattle.pair_paths.specs.Frames.{HoldsFaceIn}
use Rattle.pair_paths.specs.Pairing.{starts}
use Rattle.neighbour_list.specs.Near.{near_along, is_near}
use Rattle.neighbour_list.specs.Widened.{IsWidened}

true_of : (b : Bool) → T b → b ≡ true
true_of true t = refl
true_of false t = absurd t

both : (a b : Bool) → a ≡ true → b ≡ true → (a && b) ≡ true
both true b h i = i
both false b h i = absurd (false≢true h)

at_most : (a b : ℤ) → int_le a b ≡ true → a ≤ℤ b
at_most a b h = record { le = subst T (sym h) tt }

test_of : (a b : ℤ) → a ≤ℤ b → int_le a b ≡ true
test_of a b h = true_of (int_le a b) h.le

below_least : (n c d e : ℤ) → n ≤ℤ c → n ≤ℤ d → n ≤ℤ e → n ≤ℤ int_min c (int_min d e)
below_least n c d e h i j = let p = int_min_is c (int_min d e) in let q = int_min_is d e in omega (arith, ints)

above_most : (n c d e : ℤ) → c ≤ℤ n → d ≤ℤ n → e ≤ℤ n → int_max c (int_max d e) ≤ℤ n
above_most n c d e h i j = let p = int_max_is c (int_max d e) in let q = int_max_is d e in omega (arith, ints)

trans_z : (a b c : ℤ) → a ≤ℤ b → b ≤ℤ c → a ≤ℤ c
trans_z a b c h i = omega (arith, ints)

less_skin : (skin : ℕ) (a b : ℤ) → a ≤ℤ (b +ℤ pos skin) → (a -ℤ pos skin) ≤ℤ b
less_skin skin a b h = omega (arith, ints)

-- along an axis
meet_widened : (skin : ℕ) (a b c d e low high at_low at_high : ℤ) → low ≤ℤ c → low ≤ℤ d → low ≤ℤ e → c ≤ℤ high → d ≤ℤ high → e ≤ℤ high
    → at_low ≡ int_min a b -ℤ pos skin → at_high ≡ int_max a b +ℤ pos skin → near_along skin a b c d e ≡ true → meet_along low high at_low at_high ≡ true
meet_widened skin a b c d e low high at_low at_high hc hd he ic id ie lows highs near =
    let least = int_min c (int_min d e) in
    let most = int_max c (int_max d e) in
    let p = and_parts (int_le least (int_max a b +ℤ pos skin)) (int_le (int_min a b) (most +ℤ pos skin)) near in
    let first : low ≤ℤ (int_max a b +ℤ pos skin) = trans_z low least _ (below_least low c d e hc hd he) (at_most _ _ p.0) in
    let second : (int_min a b -ℤ pos skin) ≤ℤ high = trans_z _ most high (less_skin skin (int_min a b) most (at_most _ _ p.1)) (above_most high c d e ic id ie) in
    both (int_le low at_high) (int_le at_low high)
    (test_of low at_high (subst (λ n. low ≤ℤ n) (sym highs) first))
    (test_of at_low high (subst (λ n. n ≤ℤ high) (sym lows) second))

near_meets : (skin : ℕ) (frame : Frame) (e : MovingEdge) (f : MovingFace) (its at : Extent) → HoldsFaceIn frame f its → IsWidened skin e.first.start e.second.start at → is_near skin (starts e f) ≡ true → overlaps its at ≡ true
near_meets skin frame e f its at held wide near =
    let a = e.first.start in
    let b = e.second.start in
    let c = f.c.start in
    let d = f.d.start in
    let k = f.e.start in
    let x = near_along skin a.x b.x c.x d.x k.x in
    let y = near_along skin a.y b.y c.y d.y k.y in
    let z = near_along skin a.z b.z c.z d.z k.z in
    let p = and_parts (x && y) z near in
    let q = and_parts x y p.0 in
    let inc = held.c.start in
    let ind = held.d.start in
    let ine = held.e.start in
    both _ _
    (both _ _
    (meet_widened skin a.x b.x c.x d.x k.x its.low.x its.high.x at.low.x at.high.x inc.x_low ind.x_low ine.x_low inc.x_high ind.x_high ine.x_high wide.x_low wide.x_high q.0)
    (meet_widened skin a.y b.y c.y d.y k.y its.low.y its.high.y at.low.y at.high.y inc.y_low ind.y_low ine.y_low inc.y_high ind.y_high ine.y_high wide.y_low wide.y_high q.1))
    (meet_widened skin a.z b.z c.z d.z k.z its.low.z its.high.z at.low.z at.high.z inc.z_low ind.z_low ine.z_low inc.z_high ind.z_high ine.z_high wide.z_low wide.z_high p.1)

pub apart_is_far : (skin : ℕ) (frame : Frame) (e : MovingEdge) (f : MovingFace) (its at : Extent) → HoldsFaceIn frame f its → IsWidened skin e.first.start e.second.start at → overlaps its at ≡ false → is_near skin (starts e f) ≡ false
apart_is_far skin frame e f its at held wide off = by_test (is_near skin (starts e f)) refl
  where
    by_test : (b : Bool) → is_near skin (starts e f) ≡ b → b ≡ false
    by_test true h = sym (near_meets skin frame e f its at held wide h) ∙ off
    by_test false h = refl
