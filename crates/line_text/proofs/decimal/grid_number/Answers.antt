use Rattle.std.proofs.Common.{sym, ap, ◌+◌, ◌/◌, ◌∙◌, rules, FitsSigned, w32}
use Rattle.std.proofs.lemmas.Int.{to_z-of_z}
use Rattle.line_text.specs.Numbers.{grid_of, grid_number_of}
use Rattle.line_text.specs.DecimalViews.{decimal_view}
use Rattle.line_text.proofs.Rounding.{grid_of-range, grid_of-value}
use Rattle.line_text.proofs.decimal.grid_number.Goals as goal

pub returns-in-None-clause-value : goal.returns-in-None-clause-value
unfolding grid_number_of
returns-in-None-clause-value c = ap (grid_of c.args.decimals) c.in-None.ensures.value

pub returns-then-size-gt-SIZE_MAX-clause-value : goal.returns-then-size-gt-SIZE_MAX-clause-value
unfolding grid_number_of
returns-then-size-gt-SIZE_MAX-clause-value c = sym (grid_of-range c.args.decimals (decimal_view c.in-Some.d) _ (ap (λ n. (n + 5) / 10) c.tenths.ensures) c.if-size-gt-SIZE_MAX.true) ∙ ap (grid_of c.args.decimals) c.in-Some.ensures.value

pub returns-else-size-gt-SIZE_MAX-clause-value : goal.returns-else-size-gt-SIZE_MAX-clause-value
unfolding grid_number_of
returns-else-size-gt-SIZE_MAX-clause-value c =
    let fits : FitsSigned w32 c.size_with_sign.result = search rules in
    rw (to_z-of_z w32 c.size_with_sign.result fits, c.size_with_sign.ensures.value) (sym (grid_of-value c.args.decimals (decimal_view c.in-Some.d) ((c.tenths.result + 5) / 10) (ap (λ n. (n + 5) / 10) c.tenths.ensures) c.if-size-gt-SIZE_MAX.false) ∙ ap (grid_of c.args.decimals) c.in-Some.ensures.value)
