use Rattle.std.proofs.Common.{◌≡◌, take}
use Rattle.step_zones.specs.Ranks.{relabelled_at}
use Rattle.step_zones.proofs.labels.relabel.Given as goal

-- the labels at the places so far are joined
abbrev pub invariant-loop-place : goal.invariant-loop-place
invariant-loop-place l = l.labels ≡ relabelled_at l.touched (take l.place-index l.places) 0 l.fn.labels
