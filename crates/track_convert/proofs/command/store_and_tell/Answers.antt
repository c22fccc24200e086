use Rattle.std.proofs.Common.{◌≡◌, length, ℕ, List, subst, ◌∙◌}
use Rattle.std.proofs.lemmas.Result.{err_from_is_err_and}
use Rattle.std.specs.List.{AllByRecursion}
use Rattle.obj_text.specs.Views.{lists_view}
use Rattle.track_input.specs.Named.{mesh_name}
use Rattle.track_convert.specs.Conversion.{converted_line}
use Rattle.track_convert.specs.Formats.{text_in}
use Rattle.track_convert.proofs.Stored.{is_stored}
use Rattle.track_convert.proofs.Told.{told, told_in_part}
use Rattle.track_convert.proofs.command.store_and_tell.Goals as goal

pub returns-in_err-put-clause-ends : goal.returns-in_err-put-clause-ends
returns-in_err-put-clause-ends g c =
    let p = err_from_is_err_and c.from_residual-in_err-put.result c.from_residual-in_err-put.ensures.1 in
    let lists = c.args.lists.now in
    let P : List (List ℕ) → Type 0 = λ fs. AllByRecursion (λ f. length f ≡ 3) fs in
    let sizes = subst P c.as_slice.ensures c.are_triangles.ensures in
    let line : c.deref-2.result.now ≡ converted_line (lists_view lists) = c.deref-2.ensures.value ∙ c.in_ok-line.ensures in
    let text : c.deref.result.now ≡ text_in c.args.to.format c.args.decimals (lists_view lists) = c.deref.ensures.value ∙ c.in_ok-text.ensures in
    let stored = is_stored c.args.scale lists.points lists.faces c.args.decimals c.requires.good sizes c.requires.few (mesh_name c.args.to) c.deref.result.now _ _ text c.in_ok-store.ensures.stored in
    rw (p.1, p.2) (told_in_part (mesh_name c.args.to) c.args.decimals (lists_view lists) c.deref-2.result.now line (g.O.Outside.around c.args.outside.now) _ _ c.in_ok-store.ensures.written stored _ c.in_err-put.ensures)

pub returns-clause-ends : goal.returns-clause-ends
returns-clause-ends g c =
    let lists = c.args.lists.now in
    let P : List (List ℕ) → Type 0 = λ fs. AllByRecursion (λ f. length f ≡ 3) fs in
    let sizes = subst P c.as_slice.ensures c.are_triangles.ensures in
    let line : c.deref-2.result.now ≡ converted_line (lists_view lists) = c.deref-2.ensures.value ∙ c.in_ok-line.ensures in
    let text : c.deref.result.now ≡ text_in c.args.to.format c.args.decimals (lists_view lists) = c.deref.ensures.value ∙ c.in_ok-text.ensures in
    let stored = is_stored c.args.scale lists.points lists.faces c.args.decimals c.requires.good sizes c.requires.few (mesh_name c.args.to) c.deref.result.now _ _ text c.in_ok-store.ensures.stored in
    told (mesh_name c.args.to) c.args.decimals (lists_view lists) c.deref-2.result.now line (g.O.Outside.around c.args.outside.now) _ _ c.in_ok-store.ensures.written stored c.in_ok-put.ensures
