use Rattle.std.proofs.Common.{⊎_elim, inl, inr, ◌∙◌}
use Rattle.pair_candidates.proofs.still_faces.StillFaces.near.Goals as goal

pub returns : goal.returns
returns c = λ frame faces still. record {
  each = λ i f at. ⊎_elim (λ there. inl (c.rising.ensures.same i ∙ there)) (λ left. inr left) (c.in_ok-find_if.ensures faces still.sound i f at (still.each i f at));
  rising = c.rising.ensures.sorted;
}
