-- Whether an edit has a scaffold.
use Rattle.std.proofs.Common.{◌≡◌, true, false, Option, Some, None, is_some, refl}
use Rattle.std.specs.Prelude.{is_none}

pub has_one : {A : Type 0} (found : Option A) → false ≡ is_none found → is_some found ≡ true
has_one None e = cc
has_one (Some x) e = refl
