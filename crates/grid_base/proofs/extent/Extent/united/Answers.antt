use Rattle.grid_base.proofs.Boxed.{IsUnder-trans, ordered_from, IsIn-from, under_low, under_high, corners_under, low_is_in, high_is_in}
use Rattle.grid_base.proofs.extent.Extent.united.Goals as goal

pub invariant_of-result : goal.invariant_of-result
invariant_of-result c =
    let e = c.args.self.now in
    record {
      ordered = ordered_from c.lower.result c.upper.result
          (IsUnder-trans c.lower.result e.low c.upper.result c.lower.ensures.first (IsUnder-trans e.low e.high c.upper.result (corners_under e) c.upper.ensures.first))
          c.lower.ensures.within c.upper.ensures.within;
    }

pub returns-clause-first : goal.returns-clause-first
returns-clause-first c = λ p h.
    let e = c.args.self.now in
    IsIn-from _ p (IsUnder-trans c.lower.result e.low p c.lower.ensures.first (under_low e p h)) (IsUnder-trans p e.high c.upper.result (under_high e p h) c.upper.ensures.first)

pub returns-clause-second : goal.returns-clause-second
returns-clause-second c = λ p h.
    let e = c.args.other.now in
    IsIn-from _ p (IsUnder-trans c.lower.result e.low p c.lower.ensures.second (under_low e p h)) (IsUnder-trans p e.high c.upper.result (under_high e p h) c.upper.ensures.second)

pub returns-clause-least : goal.returns-clause-least
returns-clause-least c = λ e h i p j.
    let a = c.args.self.now in
    let b = c.args.other.now in
    IsIn-from e p
    (IsUnder-trans e.low c.lower.result p
    (c.lower.ensures.greatest e.low (under_low e a.low (h a.low (low_is_in a))) (under_low e b.low (i b.low (low_is_in b)))) (under_low _ p j))
    (IsUnder-trans p c.upper.result e.high (under_high _ p j)
    (c.upper.ensures.least e.high (under_high e a.high (h a.high (high_is_in a))) (under_high e b.high (i b.high (high_is_in b)))))
