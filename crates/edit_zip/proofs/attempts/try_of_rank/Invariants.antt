use Rattle.std.proofs.Common.{◌≡◌, ◌==◌, drop}
use Rattle.std.specs.List.{filter, count_by}
use Rattle.edit_zip.specs.Zip.{turns, is_before}
use Rattle.edit_zip.specs.Trying.{after_turns}
use Rattle.edit_zip.proofs.attempts.try_of_rank.Given as goal

-- the turns before failed, and the last reason is kept: what is left answers as all of them do
abbrev pub invariant-loop-turn : goal.invariant-loop-turn
invariant-loop-turn g l =
    let m = g.S.Surface.mesh l.fn.mesh in
    (g.S.Surface.mesh l.mesh ≡ m)
    × (after_turns m l.s l.t (filter (λ k. count_by (λ j. is_before m l.s l.t j k) turns == l.place) (drop l.turn turns)) l.last
    ≡ after_turns m l.s l.t (filter (λ k. count_by (λ j. is_before m l.s l.t j k) turns == l.place) turns) l.fn.before)
    × (g.S.Surface.kept l.mesh ≡ g.S.Surface.kept l.fn.mesh)
