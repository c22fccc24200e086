use Rattle.std.proofs.Common.{◌<◌, length, ap, subst, sym, ◌∙◌, arith}
use Rattle.std.proofs.lemmas.Option.{slice_get_within}
use Rattle.cell_grid.specs.Filed.{has}
use Rattle.pair_candidates.proofs.still_faces.StillFaces.of.Goals as goal

pub returns : goal.returns
returns c = record {
  going = c.requires.going;
  sound = c.in_ok-tree.ensures.sound;
  each = λ i f at.
      let within : i < length c.in_ok-boxes.boxes.items = omega (arith, slice_get_within c.args.faces.now i f at, c.in_ok-boxes.ensures.as_long) in
      c.in_ok-tree.ensures.each i f at (ap (has i) c.deref-3.ensures.value ∙ c.in_ok-order.ensures.each i (subst (λ bs. i < length bs) (sym c.deref.ensures.value) within));
}
