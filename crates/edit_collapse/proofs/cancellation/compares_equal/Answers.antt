use Rattle.std.proofs.Common.{◌||◌, ◌+◌, ℕ, List, drop, map, sym, ap, ◌∙◌}
use Rattle.mesh_base.specs.declared.ids.Corners.{Corners}
use Rattle.std.specs.List.{list_any}
use Rattle.mesh_base.specs.Mesh.{equal_up_to_rotation}
use Rattle.edit_base.specs.Edges.{has_equal}
use Rattle.edit_collapse.proofs.Lists.{repeats_at, rest_slice}
use Rattle.edit_collapse.proofs.cancellation.compares_equal.Goals as goal

pub returns-then-has_equal_to : goal.returns-then-has_equal_to
returns-then-has_equal_to c =
    let es = c.args.faces.now in
    sym (ap (λ t. t || has_equal (map (λ (e : ℕ × Corners). e.1) (drop (c.loop-i.i + 1) es))) (sym (c.has_equal_to.ensures ∙ ap (λ (xs : List (ℕ × Corners)). list_any (λ (e : ℕ × Corners). equal_up_to_rotation c.index-faces-i.result.1 e.1) xs) (rest_slice es (c.loop-i.i + 1))) ∙ c.if-has_equal_to.true))
    ∙ sym (repeats_at es c.loop-i.i c.index-faces-i.result c.loop-i-test.true c.index-faces-i.is) ∙ c.loop-i.invariant

pub loop-i-preserved : goal.loop-i-preserved
loop-i-preserved c =
    let es = c.args.faces.now in
    sym (ap (λ t. t || has_equal (map (λ (e : ℕ × Corners). e.1) (drop (c.loop-i.i + 1) es))) (sym (c.has_equal_to.ensures ∙ ap (λ (xs : List (ℕ × Corners)). list_any (λ (e : ℕ × Corners). equal_up_to_rotation c.index-faces-i.result.1 e.1) xs) (rest_slice es (c.loop-i.i + 1))) ∙ c.if-has_equal_to.false))
    ∙ sym (repeats_at es c.loop-i.i c.index-faces-i.result c.loop-i-test.true c.index-faces-i.is) ∙ c.loop-i.invariant
