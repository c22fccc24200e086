use Rattle.std.proofs.Common.{◌≡◌, ℕ, List, [], ◌∷◌, ◌++◌, length, take, cond, refl, sym, ap, subst, ◌∙◌}
use Rattle.std.specs.List.Sorted.{IsPermutation}
use Rattle.std.proofs.lemmas.List.Sorted.{sum_by-IsPermutation, length_permutation}
use Rattle.mesh_shape.specs.Balance.{same_ends, times}
use Rattle.mesh_shape.proofs.Unbalanced.{in_order}
use Rattle.mesh_shape.proofs.balance.sides_in_order.Goals as goal

front : (xs ys : List (ℕ × ℕ)) → take (length xs) (xs ++ ys) ≡ xs
front [] ys = refl
front (x ∷ xs) ys = ap (λ l. x ∷ l) (front xs ys)

-- the same sides, each as often, as a list has them once its slice is given back
moved : (old slice new rest : List (ℕ × ℕ)) (n : ℕ) → slice ≡ old → length slice ≡ n → IsPermutation slice new → (u v : ℕ) → times (take n (new ++ rest)) u v ≡ times old u v
moved old slice new rest n is long same u v =
    ap (λ k. times (take k (new ++ rest)) u v) (sym (length_permutation slice new same ∙ long))
    ∙ ap (λ l. times l u v) (front new rest)
    ∙ sum_by-IsPermutation (λ s. cond (same_ends s (u, v)) 1 0) slice new same
    ∙ ap (λ l. times l u v) is

pub returns : goal.returns
returns c = record {
  up = λ u v. up u v ∙ c.in_ok-sides.ensures.up u v;
  down = λ u v. down u v ∙ c.in_ok-sides.ensures.down u v;
  up_order = in_order c.in_ok-sides.sides.up.items c.put_in_order.new.sides.items up c.in_ok-sides.ensures.small_up c.put_in_order.ensures.order;
  down_order = in_order c.in_ok-sides.sides.down.items c.put_in_order-2.new.sides.items down c.in_ok-sides.ensures.small_down c.put_in_order-2.ensures.order;
}
  where
    up : (u v : ℕ) → times c.put_in_order.new.sides.items u v ≡ times c.in_ok-sides.sides.up.items u v
    up u v = c.put_in_order.ensures.same u v ∙ moved c.in_ok-sides.sides.up.items c.deref_mut.result.now c.put_in_rows.new.sides _ _ c.deref_mut.ensures.value c.deref_mut.ensures.len c.put_in_rows.ensures u v

    down : (u v : ℕ) → times c.put_in_order-2.new.sides.items u v ≡ times c.in_ok-sides.sides.down.items u v
    down u v = c.put_in_order-2.ensures.same u v ∙ moved c.in_ok-sides.sides.down.items c.deref_mut-2.result.now c.put_in_rows-2.new.sides _ _ c.deref_mut-2.ensures.value c.deref_mut-2.ensures.len c.put_in_rows-2.ensures u v
