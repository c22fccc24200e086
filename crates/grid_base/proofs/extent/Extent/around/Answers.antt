use Rattle.grid_base.proofs.Boxed.{IsUnder-trans, IsIn-from, under_low, under_high}
use Rattle.grid_base.proofs.extent.Extent.around.Goals as goal

pub returns-clause-least : goal.returns-clause-least
returns-clause-least c = λ e h i p j.
    IsIn-from e p
    (IsUnder-trans e.low c.lower.result p (c.lower.ensures.greatest e.low (under_low e c.args.a h) (under_low e c.args.b i)) (under_low _ p j))
    (IsUnder-trans p c.upper.result e.high (under_high _ p j) (c.upper.ensures.least e.high (under_high e c.args.a h) (under_high e c.args.b i)))
