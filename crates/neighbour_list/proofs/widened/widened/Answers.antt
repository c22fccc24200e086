use Rattle.std.proofs.Common.{◌≡◌, ℕ, ℤ, pos, ◌+ℤ◌, ◌-ℤ◌, to_z, of_z, ◌∙◌}
use Rattle.std.specs.Int.{int_min, int_max, w128}
use Rattle.neighbour_list.proofs.Words.{word, half_word, ordered_about}
use Rattle.neighbour_list.proofs.widened.widened.Goals as goal

low_same : (skin : ℕ) (a a' b b' : ℤ) → a ≡ a' → b ≡ b' → (int_min a b -ℤ pos skin) ≡ (int_min a' b' -ℤ pos skin)
low_same skin a a' b b' p q = λ i. int_min (p i) (q i) -ℤ pos skin

high_same : (skin : ℕ) (a a' b b' : ℤ) → a ≡ a' → b ≡ b' → (int_max a b +ℤ pos skin) ≡ (int_max a' b' +ℤ pos skin)
high_same skin a a' b b' p q = λ i. int_max (p i) (q i) +ℤ pos skin

pub invariant_of-result : goal.invariant_of-result
invariant_of-result c =
    let lx = c.before-2.ensures in
    let ly = c.before-3.ensures in
    let lz = c.before-4.ensures in
    let hx = c.after.ensures in
    let hy = c.after-2.ensures in
    let hz = c.after-3.ensures in
    record {
      ordered = ordered_about
          (record { x = to_z w128 (of_z w128 c.args.a.x); y = to_z w128 (of_z w128 c.args.a.y); z = to_z w128 (of_z w128 c.args.a.z) })
          (record { x = c.before-2.result; y = c.before-3.result; z = c.before-4.result })
          (record { x = c.after.result; y = c.after-2.result; z = c.after-3.result })
          (record { x_fits = lx.within; y_fits = ly.within; z_fits = lz.within })
          (record { x_fits = hx.within; y_fits = hy.within; z_fits = hz.within })
          lx.under ly.under lz.under hx.above hy.above hz.above;
    }

pub returns : goal.returns
returns c =
    let a = c.requires.a_fits in
    let b = c.requires.b_fits in
    let ax = half_word c.args.a.x a.x_fits in
    let ay = half_word c.args.a.y a.y_fits in
    let az = half_word c.args.a.z a.z_fits in
    let bx = half_word c.args.b.x b.x_fits in
    let by = half_word c.args.b.y b.y_fits in
    let bz = half_word c.args.b.z b.z_fits in
    record {
      x_low = word c.before-2.result c.before-2.ensures.within ∙ c.before-2.ensures.value ∙ low_same c.args.skin _ _ _ _ ax bx;
      x_high = word c.after.result c.after.ensures.within ∙ c.after.ensures.value ∙ high_same c.args.skin _ _ _ _ ax bx;
      y_low = word c.before-3.result c.before-3.ensures.within ∙ c.before-3.ensures.value ∙ low_same c.args.skin _ _ _ _ ay by;
      y_high = word c.after-2.result c.after-2.ensures.within ∙ c.after-2.ensures.value ∙ high_same c.args.skin _ _ _ _ ay by;
      z_low = word c.before-4.result c.before-4.ensures.within ∙ c.before-4.ensures.value ∙ low_same c.args.skin _ _ _ _ az bz;
      z_high = word c.after-3.result c.after-3.ensures.within ∙ c.after-3.ensures.value ∙ high_same c.args.skin _ _ _ _ az bz;
    }
