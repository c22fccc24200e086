use Rattle.std.proofs.Common.{refl}
use Rattle.topo.proofs.FieldNames.{is_name}
use Rattle.topo.proofs.shipped.shipped_names.Goals as goal

-- each of the three texts is a name
pub returns-in_err-new-clause-some : goal.returns-in_err-new-clause-some
returns-in_err-new-clause-some c = absurd (let e = c.in_err-new.ensures.some.1 (is_name _ refl refl refl) in cc)

pub returns-in_err-new-2-clause-some : goal.returns-in_err-new-2-clause-some
returns-in_err-new-2-clause-some c = absurd (let e = c.in_err-new-2.ensures.some.1 (is_name _ refl refl refl) in cc)

pub returns-in_err-new-3-clause-some : goal.returns-in_err-new-3-clause-some
returns-in_err-new-3-clause-some c = absurd (let e = c.in_err-new-3.ensures.some.1 (is_name _ refl refl refl) in cc)
