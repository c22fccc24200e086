use Rattle.std.proofs.Common.{ℕ, List, map, ap, ◌∙◌}
use Rattle.mesh_base.specs.declared.ids.Corners.{Corners}
use Rattle.edit_base.specs.Edges.{has_equal}
use Rattle.edit_collapse.proofs.Unlike.{if_ok}
use Rattle.edit_collapse.proofs.Doubled.{doubled_at}
use Rattle.edit_collapse.proofs.changes.is_doubled.Goals as goal

pub returns : goal.returns
returns c = if_ok c.repeats.result (λ found is m a b sound apart e. is ∙ ap (λ (es : List (ℕ × Corners)). has_equal (map (λ e. e.1) es)) (c.as_slice.ensures ∙ e) ∙ doubled_at m a b sound apart) c.repeats.ensures
