use Rattle.std.proofs.Common.{◌≡◌, Bool, true, false, not, refl, sym, ◌∙◌}
use Rattle.std.proofs.lemmas.Bool.{false≢true}
use Rattle.edit_check.proofs.face_pairs.none_is_seen_to_fail.Goals as goal

opened : (a : Bool) → not a ≡ true → a ≡ false
opened true h = absurd (false≢true h)
opened false h = refl

pub returns : goal.returns
returns c = λ yes. sym c.some_touched_fail.ensures ∙ opened c.some_touched_fail.result yes
