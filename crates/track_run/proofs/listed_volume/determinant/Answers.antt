use Rattle.std.proofs.Common.{◌≡◌, ◌≤◌, unsigned_abs, sym, ap, subst, ◌∙◌, arith}
use Rattle.std.proofs.lemmas.Int.{ints}
use Rattle.grid_base.specs.declared.TheConstants.{BOX}
use Rattle.grid_base.specs.Triples.{dot}
use Rattle.mesh_measure.specs.declared.TheConstants.{DETERMINANT_MAX}
use Rattle.mesh_measure.specs.Volume.{determinant}
use Rattle.mesh_measure.proofs.VolumeSteps.{size-determinant}
use Rattle.track_run.proofs.listed_volume.determinant.Goals as goal

pub returns-clause-within : goal.returns-clause-within
returns-clause-within c =
    let within : unsigned_abs (determinant c.args.a c.args.b c.args.c) ≤ DETERMINANT_MAX = size-determinant BOX c.args.a c.args.b c.args.c c.requires.first c.requires.second c.requires.third in
    let value : c.product.result ≡ determinant c.args.a c.args.b c.args.c = c.product.ensures.value ∙ ap (λ t. dot t c.args.c) c.normal.ensures.value in
    let fits : unsigned_abs c.product.result ≤ DETERMINANT_MAX = subst (λ z. unsigned_abs z ≤ DETERMINANT_MAX) (sym value) within in
    omega (arith, ints, fits)
