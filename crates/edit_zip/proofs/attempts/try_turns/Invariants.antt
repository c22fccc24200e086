use Rattle.std.proofs.Common.{◌≡◌, ◌==◌, drop}
use Rattle.std.specs.List.{filter, flat_map, count_by}
use Rattle.edit_base.specs.declared.answers.Why.TheVariants.{Doubled}
use Rattle.edit_zip.specs.Zip.{turns, tried, is_before}
use Rattle.edit_zip.specs.Trying.{after_turns}
use Rattle.edit_zip.proofs.attempts.try_turns.Given as goal

-- the same, rank by rank
abbrev pub invariant-loop-place : goal.invariant-loop-place
invariant-loop-place g l =
    let m = g.S.Surface.mesh l.fn.mesh in
    (g.S.Surface.mesh l.mesh ≡ m)
    × (after_turns m l.s l.t (flat_map (λ n. filter (λ k. count_by (λ j. is_before m l.s l.t j k) turns == n) turns) (drop l.place turns)) l.last
    ≡ after_turns m l.s l.t (tried m l.s l.t) Doubled)
    × (g.S.Surface.kept l.mesh ≡ g.S.Surface.kept l.fn.mesh)
