use Rattle.std.proofs.Common.{rules, subst}
use Rattle.std.specs.List.Sorted.{IsBinarySearchResult}
use Rattle.std.specs.Ordering.{nat_cmp}
use Rattle.std.proofs.lemmas.List.Sorted.{answers_always}
use Rattle.motion_proof.proofs.moves_in_order.search.Goals as goal

-- the closure gives the id of a move's vertex
pub returns : goal.returns
returns c =
    let found = c.binary_search_by_key.ensures.position (λ move. move.v) (answers_always _ _ _ (λ f a r g called. search rules)) in
    subst (λ v. IsBinarySearchResult (λ move. nat_cmp move.v v) c.args.moves.now c.binary_search_by_key.result) c.v.view_is found
