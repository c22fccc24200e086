use Rattle.std.proofs.Common.{◌≡◌, ◌<◌, slice_index_or, below_more, subst, sym, ◌∙◌, arith}
use Rattle.std.proofs.lemmas.Bool.{false≢true}
use Rattle.std.proofs.lemmas.List.{get_or_default}
use Rattle.grid_base.specs.Triples.{Triple}
use Rattle.grid_base.specs.Separation.{KeepsApart, ten_directions}
use Rattle.motion_test.specs.Pairs.{origin}
use Rattle.motion_test.proofs.some_direction.own_keeps_apart.Goals as goal

pub loop-i-preserved : goal.loop-i-preserved
loop-i-preserved c =
    let s = c.args.s.now in
    let t = c.args.t.now in
    let all = ten_directions c.args.f.now in
    let listed : c.loop-i.i < 10 = omega arith in
    below_more (λ k. (x : Triple) → slice_index_or all k x ≡ x → KeepsApart s t x → ⊥) _ c.loop-i.invariant
    (λ x e h. false≢true (c.if-keeps.ensures.1 (subst (KeepsApart s t) (sym e ∙ get_or_default all c.loop-i.i x origin listed ∙ sym c.direction_of.ensures.value) h)))

pub returns : goal.returns
returns c = (
  λ no. absurd (false≢true no),
  λ any.
      let passed : any.0 < c.loop-i.i = omega arith in
      absurd (c.loop-i.invariant any.0 passed any.1 any.3 any.4),
)
