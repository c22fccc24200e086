-- The exact test of meeting, as a function that definitions can take.
use Rattle.std.proofs.Common.{Bool, true, false, inl, inr, refl}
use Rattle.std.specs.Prelude.{IsTrue, ◌↔◌}
use Rattle.std.proofs.lemmas.Bool.{false≢true}
use Rattle.grid_base.specs.declared.Positions.{Positions}
use Rattle.grid_base.specs.Meeting.{MeetAt}
use Rattle.grid_decided.specs.Deciding.{Decided, decided}

-- whether what is decided holds
is_yes : {P : Type 0} → Decided P → Bool
is_yes (inl p) = true
is_yes (inr never) = false

yes_exact : {P : Type 0} (d : Decided P) → IsTrue (is_yes d) ↔ P
unfolding is_yes
yes_exact (inl p) = (λ e. p, λ q. refl)
yes_exact (inr never) = (λ e. absurd (false≢true e), λ q. absurd (never q))

-- the test that tells, for all positions, whether five of them meet
pub meets_exactly : Positions → Bool
meets_exactly f = is_yes (decided f.a f.b f.c f.d f.e)

-- it is true exactly where they meet
pub meets_exactly-is_exact : (f : Positions) → IsTrue (meets_exactly f) ↔ MeetAt f
unfolding meets_exactly is_yes
meets_exactly-is_exact f = yes_exact (decided f.a f.b f.c f.d f.e)
