use Rattle.std.proofs.Common.{◌++◌, ap, subst, ◌∙◌}
use Rattle.std.specs.Prelude.{IfSome}
use Rattle.std.specs.List.{filter}
use Rattle.std.specs.Map.{keys_of}
use Rattle.cell_grid.specs.Filed.{has}
use Rattle.box_tree.specs.Found.{AreNear}
use Rattle.box_tree.specs.Overlapping.{overlaps_apart, overlapping_apart}
use Rattle.box_tree.proofs.Answered.{picked_is}
use Rattle.pair_candidates.proofs.Asked.{meets_outer}
use Rattle.pair_candidates.proofs.asked_tree.AskedTree.overlapping_apart.Goals as goal

pub returns-then-is_around : goal.returns-then-is_around
returns-then-is_around c =
    let t = c.self.inside in
    let a = c.args.a in
    let b = c.args.b in
    let at = c.args.at in
    let near = subst (λ o. IfSome o (λ asked. AreNear t.tree asked t.near.items)) c.in-Some.is c.self.invariant in
    let picked = c.in_ok-pick.ensures
    ∙ ap (λ xs. xs ++ keys_of (filter (λ e. overlaps_apart at a b e.1) c.deref.result.now)) c.clear.ensures.items
    ∙ ap (λ ns. keys_of (filter (λ e. overlaps_apart at a b e.1) ns)) c.deref.ensures.value in
    picked_is t.tree c.in-Some.asked at a b t.near.items c.rising.new.list.items near
    (λ e. meets_outer e.at at c.in-Some.asked (c.is_around.ensures c.if-is_around.true))
    c.rising.ensures.sorted
    (λ i. c.rising.ensures.same i ∙ ap (has i) picked)
    ∙ ap (λ m. overlapping_apart m at a b) c.self.view_is
