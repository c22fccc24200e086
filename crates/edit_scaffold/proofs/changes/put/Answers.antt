use Rattle.std.proofs.Common.{◌≡◌, false, true, is_some, sym, ap, subst, ◌∙◌}
use Rattle.std.specs.Prelude.{IfOk}
use Rattle.std.proofs.lemmas.Bool.{false≢true}
use Rattle.mesh_base.specs.Limits.{is_over_limits}
use Rattle.edit_base.specs.declared.Change.{Change}
use Rattle.edit_base.specs.Edges.{Edge}
use Rattle.edit_base.specs.Required.{HasEdge}
use Rattle.edit_split.specs.Split.{split_scaffold}
use Rattle.edit_flip.specs.Flip.{flip_scaffold}
use Rattle.edit_any.specs.Dispatch.{scaffold_of}
use Rattle.edit_scaffold.specs.Made.{IsDone, ArePartsOf, IsTestedOn}
use Rattle.edit_scaffold.proofs.DoneIs.{split_done, flip_done, pinch_done}
use Rattle.edit_scaffold.proofs.changes.put.Goals as goal

pub unreachable-requires : goal.unreachable-requires
unreachable-requires g c =
    let m = g.S.Surface.mesh c.args.mesh.now in
    let ready = split_done m c.in-Split.a c.in-Split.b c.in-Split.w c.in-Split.at (subst (IsDone m) c.in-Split.is c.requires.done) in
    false≢true (sym (ap is_some c.in_default.is) ∙ c.edge_beside.ensures.some c.requires.closed ∙ ready.edge.is_edge)

pub put_for_split-requires-clause-edge : goal.put_for_split-requires-clause-edge
put_for_split-requires-clause-edge g c =
    let m = g.S.Surface.mesh c.args.mesh.now in
    let ready = split_done m c.in-Split.a c.in-Split.b c.in-Split.w c.in-Split.at (subst (IsDone m) c.in-Split.is c.requires.done) in
    let P : Edge → Type 0 = λ s. HasEdge m s in
    subst P (sym c.in-Some.ensures.edge) ready.edge

pub put_for_split-requires-clause-fits : goal.put_for_split-requires-clause-fits
put_for_split-requires-clause-fits g c =
    let m = g.S.Surface.mesh c.args.mesh.now in
    let ready = split_done m c.in-Split.a c.in-Split.b c.in-Split.w c.in-Split.at (subst (IsDone m) c.in-Split.is c.requires.done) in
    let P : Edge → Type 0 = λ s. is_over_limits (split_scaffold m s).mesh ≡ false in
    subst P (sym c.in-Some.ensures.edge) ready.fits

pub unreachable-requires-in_default-edge_beside : goal.unreachable-requires-in_default-edge_beside
unreachable-requires-in_default-edge_beside g c =
    let m = g.S.Surface.mesh c.args.mesh.now in
    let ready = flip_done m c.in-Flip.a c.in-Flip.b (subst (IsDone m) c.in-Flip.is c.requires.done) in
    false≢true (sym (ap is_some c.in_default-edge_beside.is) ∙ c.edge_beside-in-Flip.ensures.some c.requires.closed ∙ ready.edge.is_edge)

pub put_for_flip-requires-clause-edge : goal.put_for_flip-requires-clause-edge
put_for_flip-requires-clause-edge g c =
    let m = g.S.Surface.mesh c.args.mesh.now in
    let ready = flip_done m c.in-Flip.a c.in-Flip.b (subst (IsDone m) c.in-Flip.is c.requires.done) in
    let P : Edge → Type 0 = λ s. HasEdge m s in
    subst P (sym c.in-Some-edge_beside.ensures.edge) ready.edge

pub put_for_flip-requires-clause-fits : goal.put_for_flip-requires-clause-fits
put_for_flip-requires-clause-fits g c =
    let m = g.S.Surface.mesh c.args.mesh.now in
    let ready = flip_done m c.in-Flip.a c.in-Flip.b (subst (IsDone m) c.in-Flip.is c.requires.done) in
    let P : Edge → Type 0 = λ s. is_over_limits (split_scaffold m s).mesh ≡ false in
    subst P (sym c.in-Some-edge_beside.ensures.edge) ready.fits

pub put_for_pinch-requires-clause-tried : goal.put_for_pinch-requires-clause-tried
put_for_pinch-requires-clause-tried g c =
    let m = g.S.Surface.mesh c.args.mesh.now in
    (pinch_done m c.in-Pinch.v c.in-Pinch.at c.in-Pinch.copies (subst (IsDone m) c.in-Pinch.is c.requires.done)).tried

pub put_for_pinch-requires-clause-point : goal.put_for_pinch-requires-clause-point
put_for_pinch-requires-clause-point g c =
    let m = g.S.Surface.mesh c.args.mesh.now in
    (pinch_done m c.in-Pinch.v c.in-Pinch.at c.in-Pinch.copies (subst (IsDone m) c.in-Pinch.is c.requires.done)).point

pub put_for_pinch-requires-clause-copies : goal.put_for_pinch-requires-clause-copies
put_for_pinch-requires-clause-copies g c =
    let m = g.S.Surface.mesh c.args.mesh.now in
    c.as_slice.ensures ∙ (pinch_done m c.in-Pinch.v c.in-Pinch.at c.in-Pinch.copies (subst (IsDone m) c.in-Pinch.is c.requires.done)).copies_are

pub unreachable-requires-in-Zip : goal.unreachable-requires-in-Zip
unreachable-requires-in-Zip g c =
    let m = g.S.Surface.mesh c.args.mesh.now in
    let P : Change → Type 0 = λ change. is_some (scaffold_of m change) ≡ true in
    let some = subst P c.in-Zip.is c.requires.moves in
    false≢true some

pub returns-in-Some-clause-made : goal.returns-in-Some-clause-made
returns-in-Some-clause-made g c =
    let m = g.S.Surface.mesh c.args.mesh.now in
    let now = g.S.Surface.mesh c.put_for_split.new.mesh in
    let P : Change → Type 0 = λ change. IfOk c.put_for_split.result (λ motion. IsTestedOn (scaffold_of m change) now motion.ways motion.claim) in
    let Q : Edge → Type 0 = λ s. IfOk c.put_for_split.result (λ motion. ArePartsOf (split_scaffold m s) now motion.ways motion.claim) in
    subst P (sym c.in-Split.is) (subst Q c.in-Some.ensures.edge c.put_for_split.ensures.made)

pub returns-in-Some-edge_beside-clause-made : goal.returns-in-Some-edge_beside-clause-made
returns-in-Some-edge_beside-clause-made g c =
    let m = g.S.Surface.mesh c.args.mesh.now in
    let now = g.S.Surface.mesh c.put_for_flip.new.mesh in
    let P : Change → Type 0 = λ change. IfOk c.put_for_flip.result (λ motion. IsTestedOn (scaffold_of m change) now motion.ways motion.claim) in
    let Q : Edge → Type 0 = λ s. IfOk c.put_for_flip.result (λ motion. ArePartsOf (flip_scaffold m s) now motion.ways motion.claim) in
    subst P (sym c.in-Flip.is) (subst Q c.in-Some-edge_beside.ensures.edge c.put_for_flip.ensures.made)
