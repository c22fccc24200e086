use Rattle.std.proofs.Common.{◌<◌, ◌≤◌, ◌∙◌, ℕ, All, length, subst, arith}
use Rattle.std.proofs.lemmas.List.{take_all}
use Rattle.std.proofs.lemmas.List.Elements.{All-more, All-weaker}
use Rattle.std.proofs.Common.{take}
use Rattle.mesh_journal.specs.Boxed.{Holds}
use Rattle.mesh_journal.proofs.index.Index.widen_all.Goals as goal

pub loop-f-preserved : goal.loop-f-preserved
loop-f-preserved c =
    let faces = c.args.faces.now in
    let i = c.loop-f.f-index in
    let inside : i < length faces = omega arith in
    let P : ℕ → Type 0 = λ f. Holds c.widen.new.self.grid f c.args.p in record {
      at = All-more P faces i c.f-item.result inside
          (All-weaker (λ f. Holds c.loop-f.self.grid f c.args.p) P (λ f h. c.widen.ensures.keeps f c.args.p h) (take i faces) c.loop-f.invariant.at)
          (subst P c.f-item.is c.widen.ensures.at);
      keeps = λ q t h. c.widen.ensures.keeps q t (c.loop-f.invariant.keeps q t h);
      since = c.widen.ensures.since ∙ c.loop-f.invariant.since;
    }

pub returns-clause-at : goal.returns-clause-at
returns-clause-at c =
    let faces = c.args.faces.now in
    let i = c.loop-f.f-index in
    let past : length faces ≤ i = omega arith in
    subst (All (λ f. Holds c.loop-f.self.grid f c.args.p)) (take_all i faces past) c.loop-f.invariant.at
