use Rattle.std.proofs.Common.{◌≡◌, ℕ, ℤ, pos, ◌+ℤ◌, ◌&&◌, int_le, ap, ◌∙◌}
use Rattle.std.specs.Int.{int_min, int_max}
use Rattle.neighbour_list.proofs.Words.{half_word}
use Rattle.neighbour_list.proofs.near.near_along.Goals as goal

two : (f : ℤ → ℤ → ℤ) (a a' b b' : ℤ) → a ≡ a' → b ≡ b' → f a b ≡ f a' b'
two f a a' b b' p q = λ i. f (p i) (q i)

reach_same : (skin : ℕ) (l l' h h' : ℤ) → l ≡ l' → h ≡ h' → int_le l (h +ℤ pos skin) ≡ int_le l' (h' +ℤ pos skin)
reach_same skin l l' h h' p q = λ i. int_le (p i) (q i +ℤ pos skin)

pub returns-then-not-is_reached : goal.returns-then-not-is_reached
returns-then-not-is_reached c =
    let r = c.requires in
    let wa = half_word c.args.a r.a_fits in
    let wb = half_word c.args.b r.b_fits in
    let wc = half_word c.args.c r.c_fits in
    let less = half_word c.lesser-less.result c.lesser-less.ensures.within ∙ c.lesser-less.ensures.value ∙ two int_min _ _ _ _ (half_word c.args.d r.d_fits) (half_word c.args.e r.e_fits) in
    let least = half_word c.lesser-least.result c.lesser-least.ensures.within ∙ c.lesser-least.ensures.value ∙ two int_min _ _ _ _ wc less in
    let last = half_word c.greater-last.result c.greater-last.ensures.within ∙ c.greater-last.ensures.value ∙ two int_max _ _ _ _ wa wb in
    let first = c.if-not-is_reached.ensures ∙ reach_same c.args.skin _ _ _ _ least last in
    ap (λ b. b && int_le (int_min c.args.a c.args.b) (int_max c.args.c (int_max c.args.d c.args.e) +ℤ pos c.args.skin)) first

pub returns : goal.returns
returns c =
    let r = c.requires in
    let wa = half_word c.args.a r.a_fits in
    let wb = half_word c.args.b r.b_fits in
    let wc = half_word c.args.c r.c_fits in
    let wd = half_word c.args.d r.d_fits in
    let we = half_word c.args.e r.e_fits in
    let less = half_word c.lesser-less.result c.lesser-less.ensures.within ∙ c.lesser-less.ensures.value ∙ two int_min _ _ _ _ wd we in
    let least = half_word c.lesser-least.result c.lesser-least.ensures.within ∙ c.lesser-least.ensures.value ∙ two int_min _ _ _ _ wc less in
    let last = half_word c.greater-last.result c.greater-last.ensures.within ∙ c.greater-last.ensures.value ∙ two int_max _ _ _ _ wa wb in
    let more = half_word c.greater-more.result c.greater-more.ensures.within ∙ c.greater-more.ensures.value ∙ two int_max _ _ _ _ wd we in
    let most = half_word c.greater-most.result c.greater-most.ensures.within ∙ c.greater-most.ensures.value ∙ two int_max _ _ _ _ wc more in
    let begin = half_word c.lesser-first.result c.lesser-first.ensures.within ∙ c.lesser-first.ensures.value ∙ two int_min _ _ _ _ wa wb in
    let first = c.if-not-is_reached.ensures ∙ reach_same c.args.skin _ _ _ _ least last in
    let second = c.is_reached-2.ensures ∙ reach_same c.args.skin _ _ _ _ begin most in
    second ∙ ap (λ b. b && int_le (int_min c.args.a c.args.b) (int_max c.args.c (int_max c.args.d c.args.e) +ℤ pos c.args.skin)) first
