-- A change of a finite map and the change that undoes it.
use Rattle.std.proofs.Common.{◌≡◌, ◌⊎◌, inr, ℕ, ◌+◌, true, false, cond, Option, Some, None, IsSome, is_some, refl, sym, ap, ◌∙◌}
use Rattle.std.specs.Ordering.{nat_cmp, eq_by_cmp}
use Rattle.std.specs.Cmp.{nat_cmp_total, eq_by_cmp_equiv}
use Rattle.std.specs.FinMap as map
use Rattle.std.specs.FinMap.{FinMap, nat_cmp-IsAntisymmetric, same_map, get-insert, get-remove, len-insert}
use Rattle.mesh_base.proofs.Finite.{live_after_insert}
use Rattle.half_mesh.specs.States.{with_some, carry}
use Rattle.half_mesh.proofs.Mapped.{tied}
use Rattle.half_mesh.proofs.Rings.{got_some}
use Rattle.half_mesh.proofs.StateLaws.{carry-some}

module _ {X : Type 0} where
  pub get_here : (m : FinMap nat_cmp X) (k : ℕ) (x : X) → map.get (map.insert m k x) k ≡ Some x
  get_here m k x = get-insert nat_cmp_total m k x k ∙ ap (λ b. cond b (Some x) (map.get m k)) ((eq_by_cmp_equiv nat_cmp_total).refl k)

  pub removed_back : (m : FinMap nat_cmp X) (k : ℕ) (x : X) → map.get m k ≡ Some x → map.insert (map.remove m k) k x ≡ m
  removed_back m k x h = same_map nat_cmp_total nat_cmp-IsAntisymmetric _ _ (λ q.
      get-insert nat_cmp_total (map.remove m k) k x q
      ∙ elim (eq_by_cmp nat_cmp q k) as (λ b. eq_by_cmp nat_cmp q k ≡ b → cond b (Some x) (map.get (map.remove m k) q) ≡ map.get m q) [
        | true ↦ λ e. sym h ∙ ap (map.get m) (sym (tied q k e))
        | false ↦ λ e. get-remove nat_cmp_total m k q ∙ ap (λ b. cond b None (map.get m q)) e
      ] refl)

  pub inserted_back : (m : FinMap nat_cmp X) (k : ℕ) (x : X) → map.get m k ≡ None → map.remove (map.insert m k x) k ≡ m
  inserted_back m k x h = same_map nat_cmp_total nat_cmp-IsAntisymmetric _ _ (λ q.
      get-remove nat_cmp_total (map.insert m k x) k q
      ∙ elim (eq_by_cmp nat_cmp q k) as (λ b. eq_by_cmp nat_cmp q k ≡ b → cond b None (map.get (map.insert m k x) q) ≡ map.get m q) [
        | true ↦ λ e. sym h ∙ ap (map.get m) (sym (tied q k e))
        | false ↦ λ e. get-insert nat_cmp_total m k x q ∙ ap (λ b. cond b (Some x) (map.get m q)) e
      ] refl)

  pub replaced_back : (m : FinMap nat_cmp X) (k : ℕ) (x y : X) → map.get m k ≡ Some x → map.insert (map.insert m k y) k x ≡ m
  replaced_back m k x y h = same_map nat_cmp_total nat_cmp-IsAntisymmetric _ _ (λ q.
      get-insert nat_cmp_total (map.insert m k y) k x q
      ∙ elim (eq_by_cmp nat_cmp q k) as (λ b. eq_by_cmp nat_cmp q k ≡ b → cond b (Some x) (map.get (map.insert m k y) q) ≡ map.get m q) [
        | true ↦ λ e. sym h ∙ ap (map.get m) (sym (tied q k e))
        | false ↦ λ e. get-insert nat_cmp_total m k y q ∙ ap (λ b. cond b (Some y) (map.get m q)) e
      ] refl)

  -- what was carried over is there
  pub get_carried : (from to : FinMap nat_cmp X) (k : ℕ) (x : X) → map.get from k ≡ Some x → map.get (carry from to k) k ≡ Some x
  get_carried from to k x h = ap (λ m. map.get m k) (carry-some from to k x h) ∙ get_here to k x

  -- what was carried over and back is where it was
  pub carried_back : (from to : FinMap nat_cmp X) (k : ℕ) (x : X) → map.get from k ≡ Some x → carry (carry from to k) (map.remove from k) k ≡ from
  carried_back from to k x h = carry-some (carry from to k) (map.remove from k) k x (get_carried from to k x h) ∙ removed_back from k x h

  pub carried_away : (from to : FinMap nat_cmp X) (k : ℕ) (x : X) → map.get from k ≡ Some x → map.get to k ≡ None → map.remove (carry from to k) k ≡ to
  carried_away from to k x h none = ap (λ m. map.remove m k) (carry-some from to k x h) ∙ inserted_back to k x none

  -- a removal of what is not there
  pub removed_none : (m : FinMap nat_cmp X) (k : ℕ) → map.get m k ≡ None → map.remove m k ≡ m
  removed_none m k h = same_map nat_cmp_total nat_cmp-IsAntisymmetric _ _ (λ q.
      get-remove nat_cmp_total m k q
      ∙ elim (eq_by_cmp nat_cmp q k) as (λ b. eq_by_cmp nat_cmp q k ≡ b → cond b None (map.get m q) ≡ map.get m q) [
        | true ↦ λ e. sym h ∙ ap (map.get m) (sym (tied q k e))
        | false ↦ λ e. refl
      ] refl)

  -- an insertion of what is there
  pub inserted_again : (m : FinMap nat_cmp X) (k : ℕ) (x : X) → map.get m k ≡ Some x → map.insert m k x ≡ m
  inserted_again m k x h = same_map nat_cmp_total nat_cmp-IsAntisymmetric _ _ (λ q.
      get-insert nat_cmp_total m k x q
      ∙ elim (eq_by_cmp nat_cmp q k) as (λ b. eq_by_cmp nat_cmp q k ≡ b → cond b (Some x) (map.get m q) ≡ map.get m q) [
        | true ↦ λ e. sym h ∙ ap (map.get m) (sym (tied q k e))
        | false ↦ λ e. refl
      ] refl)

  carried_none : (from to : FinMap nat_cmp X) (k : ℕ) → map.get from k ≡ None → carry from to k ≡ to
  carried_none from to k h = ap (with_some to k) h

  -- the same where nothing was there to be carried
  pub carried_any-back : (from to : FinMap nat_cmp X) (k : ℕ) (o : Option X) → map.get from k ≡ o → map.get to k ≡ None
      → carry (carry from to k) (map.remove from k) k ≡ from
  carried_any-back from to k (Some x) h none = carried_back from to k x h
  carried_any-back from to k None h none =
      ap (λ t. carry t (map.remove from k) k) (carried_none from to k h)
      ∙ carried_none to (map.remove from k) k none
      ∙ removed_none from k h

  pub carried_any-away : (from to : FinMap nat_cmp X) (k : ℕ) (o : Option X) → map.get from k ≡ o → map.get to k ≡ None
      → map.remove (carry from to k) k ≡ to
  carried_any-away from to k (Some x) h none = carried_away from to k x h none
  carried_any-away from to k None h none = ap (λ t. map.remove t k) (carried_none from to k h) ∙ removed_none to k none

  -- what is there after a carrying was there, or is at its key
  pub some_carried : (from to : FinMap nat_cmp X) (k q : ℕ) (o : Option X) → map.get from k ≡ o → IsSome (map.get (carry from to k) q)
      → (q ≡ k) ⊎ IsSome (map.get to q)
  some_carried from to k q (Some x) h there = live_after_insert to k x q (ap (λ m. is_some (map.get m q)) (sym (carry-some from to k x h)) ∙ there)
  some_carried from to k q None h there = inr (ap (λ m. is_some (map.get m q)) (sym (carried_none from to k h)) ∙ there)

  -- a removal of what is there makes room
  pub len_below : (m : FinMap nat_cmp X) (k : ℕ) → IsSome (map.get m k) → map.len (map.remove m k) + 1 ≡ map.len m
  len_below m k h =
      let (x, is) = got_some (map.get m k) h in
      let shorter = len-insert nat_cmp_total (map.remove m k) k x in
      let same : map.len (map.insert (map.remove m k) k x) ≡ map.len m = ap map.len (removed_back m k x is) in
      let away : map.contains_key (map.remove m k) k ≡ false = ap is_some (get-remove nat_cmp_total m k k ∙ ap (λ b. cond b None (map.get m k)) ((eq_by_cmp_equiv nat_cmp_total).refl k)) in
      sym (ap (λ b. cond b (map.len (map.remove m k)) (map.len (map.remove m k) + 1)) away) ∙ sym shorter ∙ same
