use Rattle.std.proofs.Common.{is_some, sym, ap, subst, ◌∙◌, arith}
use Rattle.std.specs.FinMap as finite
use Rattle.mesh_base.proofs.WalkSteps.{above-step}
use Rattle.half_mesh.specs.Fans.{IsOutside, spokes_at}
use Rattle.half_mesh.proofs.burial.free_rings.Goals as goal

pub free_ring-requires : goal.free_ring-requires
free_ring-requires c = λ v.
    subst (λ fans. IsOutside c.in-Some.f (spokes_at fans v)) (sym c.loop-f.invariant.fans) (c.requires c.in-Some.f v (ap is_some (sym c.in-Some-get_buried.ensures)))

pub loop-f-smaller : goal.loop-f-smaller
loop-f-smaller c =
    let rest = above-step c.args.keys.now.buried c.loop-f.last c.in-Some.f (sym c.in-Some.ensures) in
    rw rest (omega arith)

pub loop-f-smaller-in-Some-get_buried : goal.loop-f-smaller-in-Some-get_buried
loop-f-smaller-in-Some-get_buried c =
    let rest = above-step c.args.keys.now.buried c.loop-f.last c.in-Some.f (sym c.in-Some.ensures) in
    rw rest (omega arith)

pub loop-f-preserved-in-Some-get_buried : goal.loop-f-preserved-in-Some-get_buried
loop-f-preserved-in-Some-get_buried c =
    let inv = c.loop-f.invariant in
    let room = inv.room in
    let more = c.free_ring.ensures.room in
    record {
      fans = c.free_ring.ensures.fans ∙ inv.fans;
      sides = λ k side at none.
          c.free_ring.ensures.sides k side (inv.sides k side at none)
          (λ of_f. let there = sym c.in-Some-get_buried.ensures in let gone = ap (finite.get c.args.keys.now.buried) (sym of_f) ∙ none in cc);
      buried = c.free_ring.ensures.kept.0 ∙ inv.buried;
      seats = c.free_ring.ensures.kept.1 ∙ inv.seats;
      room = omega arith;
    }
