use Rattle.std.proofs.Common.{◌≡◌, ◌+◌, ◌-◌, ◌∙◌, min, length, take, refl, rules}
use Rattle.line_text.specs.DecimalViews.{decimal_view}
use Rattle.line_text.proofs.Rounding.{tenths-kept}
use Rattle.line_text.proofs.decimal.tenths.Goals as goal

pub returns : goal.returns
returns c =
    let d = c.args.d.now in
    let kept = c.saturating_sub-kept.result in
    let front = c.split_at.result.0.now in
    let back = c.split_at-2.result.0.now in
    let kept-is : kept ≡ length d.whole.now + c.args.decimals + 1 + d.up - d.down = search rules in
    let front-is : front ≡ take (min kept (length d.whole.now)) d.whole.now = search rules in
    let back-is : back ≡ take (min (kept - length front) (length d.fraction.now)) d.fraction.now = search rules in
    c.with_zeros.ensures ∙ tenths-kept c.args.decimals (decimal_view d) kept (kept - length front) c.number_after.result c.number_after-number.result front back c.requires.fits kept-is front-is refl back-is c.number_after.ensures c.number_after-number.ensures
