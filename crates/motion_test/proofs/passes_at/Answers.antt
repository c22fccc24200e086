use Rattle.std.proofs.Common.{◌≡◌, Bool, true, false, not, refl, inl, inr, ⊎_elim}
use Rattle.std.proofs.lemmas.Bool.{false≢true}
use Rattle.grid_base.proofs.SeparationLaws.{Passes-never_meet, NeverMeet-at_start}
use Rattle.motion_test.specs.Pairs.{positions_of}
use Rattle.motion_test.proofs.passes_at.Goals as goal

not_both : (r : Bool) → not r ≡ true → r ≡ true → ⊥
not_both true h k = false≢true h
not_both false h k = false≢true k

not_from : (r : Bool) → (r ≡ true → ⊥) → not r ≡ true
not_from true h = absurd (h refl)
not_from false h = refl

-- whichever way it passes, it does not meet at the start
pub returns-then-moves_together : goal.returns-then-moves_together
returns-then-moves_together c =
    let s = positions_of c.args.p.now.start in
    let t = positions_of c.args.p.now.end in
    let together = rw (c.positions-s.ensures, c.positions-t.ensures) at c.if-moves_together.ensures in
    let starts = rw c.positions-s.ensures at c.meets.ensures in (
      λ yes. inr (together.0 refl, λ w. not_both c.meets.result yes (starts.1 w)),
      λ passes. not_from c.meets.result (λ r. NeverMeet-at_start s t (Passes-never_meet c.args.depth s t passes) (starts.0 r)),
    )

pub separated_at-requires-clause-s_fits : goal.separated_at-requires-clause-s_fits
separated_at-requires-clause-s_fits c = rw c.positions-s.ensures c.requires.start_fits

pub separated_at-requires-clause-t_fits : goal.separated_at-requires-clause-t_fits
separated_at-requires-clause-t_fits c = rw c.positions-t.ensures c.requires.end_fits

pub returns : goal.returns
returns c =
    let together = rw (c.positions-s.ensures, c.positions-t.ensures) at c.if-moves_together.ensures in
    let apart = rw (c.positions-s.ensures, c.positions-t.ensures) at c.separated_at.ensures in (
      λ yes. inl (apart.0 yes),
      λ w. ⊎_elim (λ is_apart. apart.1 is_apart) (λ as_one. absurd (false≢true (together.1 as_one.0))) w,
    )
