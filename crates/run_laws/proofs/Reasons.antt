-- The reasons against an edit are in range, where each that holds is.
use Rattle.std.proofs.Common.{◌≡◌, Bool, true, false, List, [], ◌∷◌, Option, Some, None, refl}
use Rattle.std.specs.Prelude.{IfSome}
use Rattle.std.specs.Option.{option_map, option_map_or, option_or}
use Rattle.mesh_base.specs.declared.ids.PairName.{PairName}
use Rattle.edit_base.specs.declared.answers.Why.{Why}
use Rattle.edit_base.specs.declared.answers.Why.TheVariants.{Hit}
use Rattle.edit_base.specs.declared.answers.Edit.{Edit}
use Rattle.edit_base.specs.declared.answers.Edit.TheVariants.{No}
use Rattle.edit_base.specs.Reasons.{reason_if, first_reason}
use Rattle.log_read.specs.Laws.{IsPairInRange, IsReasonInRange}
use Rattle.run_laws.specs.Answers.{IsAnswerInRange}

-- the first of the reasons that is there, or else another answer
abbrev pub unless : List (Option Why) → Edit → Edit
unless reasons answer = option_map_or (λ why. No why) (first_reason reasons) answer

-- a reason in range, where it holds; what follows, where it does not
pub unless_first : (holds : Bool) (why : Why) (others : List (Option Why)) (answer : Edit) → IsReasonInRange why → (holds ≡ false → IsAnswerInRange (unless others answer)) → IsAnswerInRange (unless (reason_if holds why ∷ others) answer)
unless_first true why others answer good next = good
unless_first false why others answer good next = next refl

-- a pair that is hit, if one is
pub unless_hit : (found : Option PairName) (answer : Edit) → IfSome found IsPairInRange → IsAnswerInRange answer → IsAnswerInRange (unless (option_map (λ p. Hit p) found ∷ []) answer)
unless_hit (Some p) answer pair other = pair
unless_hit None answer pair other = other

-- one reason or another
pub either_in_range : (holds : Bool) (why : Why) (other : Option Why) → IsReasonInRange why → (holds ≡ false → IfSome other IsReasonInRange) → IfSome (option_or (reason_if holds why) other) IsReasonInRange
either_in_range true why other good next = good
either_in_range false why other good next = next refl

pub hit_reason : (found : Option PairName) → IfSome found IsPairInRange → IfSome (option_map (λ p. Hit p) found) IsReasonInRange
hit_reason (Some p) pair = pair
hit_reason None pair = tt
