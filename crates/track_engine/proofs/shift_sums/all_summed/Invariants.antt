use Rattle.std.proofs.Common.{◌≡◌, ◌++◌, drop}
use Rattle.track_engine.specs.Effects.{all_summed, first_beyond}
use Rattle.track_engine.proofs.shift_sums.all_summed.Given as goal

-- the sums so far and those to come are all, and what is sought is sought among those to come
abbrev pub invariant-loop-s : goal.invariant-loop-s
invariant-loop-s g l =
    let m = g.S.Surface.mesh l.mesh in
    record {
      sums : l.shifts ++ all_summed m (λ v. l.by) (drop l.s-index l.asked) ≡ all_summed m (λ v. l.by) l.asked;
      beyond : first_beyond m (λ v. l.by) (drop l.s-index l.asked) ≡ first_beyond m (λ v. l.by) l.asked;
    }
