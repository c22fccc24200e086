use Rattle.std.proofs.Common.{◌<◌, ◌++◌, ◌∷◌, [], ◌∙◌, sym, ap, ℕ, Bool, get_or, take, length, append_assoc, arith}
use Rattle.std.specs.List.{filter}
use Rattle.std.proofs.lemmas.List.Elements.{filter_more}
use Rattle.mesh_base.specs.Near.{is_face_near}
use Rattle.mesh_journal.proofs.near.put_near.Goals as goal

pub loop-item-preserved : goal.loop-item-preserved
loop-item-preserved g c =
    let items = c.args.items.now in
    let i = c.loop-item.item-index in
    let test : ℕ → Bool = λ f. is_face_near (g.T.FaceTable.mesh c.args.table.now) c.args.at.now f in
    let inside : i < length items = omega arith in
    c.in_ok-put_if_near.ensures
    ∙ ap (λ xs. xs ++ filter test (get_or items i 0 ∷ [])) c.loop-item.invariant
    ∙ append_assoc c.args.into.now.items (filter test (take i items)) (filter test (get_or items i 0 ∷ []))
    ∙ ap (λ xs. c.args.into.now.items ++ xs) (sym (filter_more test items i 0 inside))
