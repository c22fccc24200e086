use Rattle.std.proofs.Common.{ℕ, ◌+◌, ◌++◌, ◌∷◌, [], Some, length, get_or, slice_get, sym, ap, subst, ◌≡◌, ◌∙◌}
use Rattle.std.proofs.lemmas.List.{length_push, get_or_default}
use Rattle.mesh_base.specs.declared.ids.Corners.{Corners}
use Rattle.edit_base.specs.Edges.{corners_at}
use Rattle.pass_run.specs.VertexRims.{IsRim}
use Rattle.pass_run.proofs.RimChains.{rim_pushed}
use Rattle.pass_run.proofs.vertex_rims.put_rims.Goals as goal

pub loop-f-preserved : goal.loop-f-preserved
loop-f-preserved g c =
    let m = g.S.Surface.mesh c.args.mesh.now in
    let faces = c.args.faces.now in
    let i = c.loop-f.f-index in
    let old = c.loop-f.rims.items in
    let rim = c.in-Some.rim in
    let P : ℕ → ℕ × ℕ → Type 0 = λ k r. IsRim (corners_at m (get_or faces k 0)) c.args.v r in
    let face : c.f-item.result ≡ get_or faces i 0 = c.f-item.is ∙ get_or_default faces i c.f-item.result 0 c.loop-f-test.true in
    let its : P i rim = subst (λ (d : Corners). IsRim d c.args.v rim) (c.corners_at.ensures ∙ ap (corners_at m) face) c.in-Some.ensures in
    let new : c.push.new.self.items ≡ old ++ rim ∷ [] = c.in_ok-push-in-Some.ensures.items in
    record {
      long = ap length new ∙ length_push old rim ∙ ap (λ n. n + 1) c.loop-f.invariant.long;
      rim = subst (λ l. (k : ℕ) (r : ℕ × ℕ) → slice_get l k ≡ Some r → P k r) (sym new) (rim_pushed P old rim i c.loop-f.invariant.long its c.loop-f.invariant.rim);
    }
