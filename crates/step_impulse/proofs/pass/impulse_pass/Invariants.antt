use Rattle.std.proofs.Common.{◌≡◌, map, drop}
use Rattle.pair_scan.specs.Named.{pairs_named}
use Rattle.step_impulse.specs.Passes.{after_pass}
use Rattle.step_impulse.proofs.pass.impulse_pass.Given as goal

-- the pairs to come make the whole pass, and the names stay
abbrev pub invariant-loop-name : goal.invariant-loop-name
invariant-loop-name g l =
    let m = g.S.Surface.mesh l.mesh in
    record {
      whole : after_pass m (pairs_named m (drop l.name-index l.name-items)) l.shifts ≡ after_pass m (pairs_named m l.name-items) l.fn.shifts;
      names : map (λ s. s.v) l.shifts ≡ map (λ s. s.v) l.fn.shifts;
    }
