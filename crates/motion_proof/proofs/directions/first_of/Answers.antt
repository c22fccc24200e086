use Rattle.std.proofs.Common.{◌<◌, slice_index_or, below_more, refl, subst, sym, arith}
use Rattle.std.proofs.lemmas.Bool.{false≢true}
use Rattle.std.proofs.lemmas.List.{get_or_default}
use Rattle.grid_base.specs.Triples.{Triple}
use Rattle.motion_test.specs.Pairs.{origin}
use Rattle.motion_proof.specs.Trees.{Serves}
use Rattle.motion_proof.proofs.directions.first_of.Goals as goal

pub loop-n-preserved : goal.loop-n-preserved
loop-n-preserved c =
    let ns = c.args.ns.now in
    let P : Triple → Type 0 = Serves c.args.claim c.args.s.now c.args.t.now in
    λ k d lt. below_more (λ j. (x : Triple) → P (slice_index_or ns j x) → ⊥) _ (λ j l x. c.loop-n.invariant j x l)
    (λ x h. false≢true (c.if-serves.ensures.1 (subst P (get_or_default ns c.loop-n.n-index x origin c.loop-n-test.true) h))) k lt d

pub returns-then-serves-clause-first : goal.returns-then-serves-clause-first
returns-then-serves-clause-first c =
    record {
      place = c.loop-n.n-index;
      inside = c.loop-n-test.true;
      there = λ d. get_or_default c.args.ns.now c.loop-n.n-index d origin c.loop-n-test.true;
      has = c.if-serves.ensures.0 refl;
      before = c.loop-n.invariant;
    }

pub returns-clause-first : goal.returns-clause-first
returns-clause-first c = λ any.
    let past : any.0 < c.loop-n.n-index = omega (arith, any.2) in
    c.loop-n.invariant any.0 any.1 past (subst (Serves c.args.claim c.args.s.now c.args.t.now) (sym any.3) any.4)
