-- Where a pair moves as one, it needs no entry exactly where it does not meet at the start; else exactly where an axis keeps it apart.
use Rattle.std.proofs.Common.{◌≡◌, ◌↔◌, IsTrue, Bool, true, false, not, ⊎_elim, inl, inr, refl}
use Rattle.std.specs.List.{Any}
use Rattle.std.proofs.lemmas.Bool.{false≢true}
use Rattle.grid_base.specs.declared.Positions.{Positions}
use Rattle.grid_base.specs.Meeting.{MeetAt}
use Rattle.grid_base.specs.Separation.{KeepsApart, MoveTogether, axes}
use Rattle.grid_base.proofs.SeparationLaws.{NeverMeet-at_start}
use Rattle.motion_proof.specs.Needs.{NeedsNone}
use Rattle.grid_base.proofs.SeparationLaws.{KeepsApart-never_meet}

denied : (b : Bool) → not b ≡ true → b ≡ true → ⊥
denied true h k = false≢true h
denied false h k = false≢true k

denied_if : (b : Bool) → (b ≡ true → ⊥) → not b ≡ true
denied_if true h = absurd (h refl)
denied_if false h = refl

pub together_needs : (b : Bool) (s t : Positions) → MoveTogether s t → (IsTrue b ↔ MeetAt s) → (IsTrue (not b) ↔ NeedsNone s t)
together_needs b s t together exact = (
  λ apart. inl (together, λ m. denied b apart (exact.1 m)),
  λ needs. denied_if b (λ met. ⊎_elim (λ two. two.1 (exact.0 met)) (λ axis. NeverMeet-at_start s t (KeepsApart-never_meet s t axis.1 axis.4) (exact.0 met)) needs),
)

pub axis_needs : (b : Bool) (s t : Positions) → ¬ (MoveTogether s t) → (IsTrue b ↔ Any (KeepsApart s t) axes) → (IsTrue b ↔ NeedsNone s t)
axis_needs b s t apart exact = (λ yes'. inr (exact.0 yes'), λ needs. ⊎_elim (λ two. absurd (apart two.0)) exact.1 needs)
