use Rattle.std.proofs.Common.{rules, subst}
use Rattle.std.specs.List.Sorted.{IsBinarySearchResult}
use Rattle.std.specs.Ordering.{nat_cmp}
use Rattle.std.proofs.lemmas.List.Sorted.{answers_always}
use Rattle.edit_collapse.proofs.cancellation.search_id.Goals as goal

-- the closure gives the id of a face
pub returns : goal.returns
returns c =
    let found = c.binary_search_by_key.ensures.position (λ e. e.0) (answers_always _ _ _ (λ f a r g called. search rules)) in
    subst (λ f. IsBinarySearchResult (λ e. nat_cmp e.0 f) c.args.faces.now c.binary_search_by_key.result) c.f.view_is found
