use Rattle.track_held.proofs.held.Held.set.Goals as goal

pub invariant_of-self : goal.invariant_of-self
invariant_of-self g c = (
  tt,
  tt,
  (
    λ goes.
        let ready = c.args.self.now.ready goes in
        record { invariant = record { now = ready.invariant.now; groups = ready.invariant.groups }; marks = ready.marks; limits = c.requires },
    tt,
  ),
)
