-- Steps of a walk to the last half-edge of a newer face.
use Rattle.std.proofs.Common.{◌≡◌, ℕ, ◌-◌, ◌<◌, true, false, cond, nat_lt, Some, None, ap, ◌∙◌}
use Rattle.slab.specs.Slab.{Slab, get}
use Rattle.half_mesh.specs.declared.halves.Half.{Half}
use Rattle.half_mesh.specs.Walks.{KeyedHalf, walk, last_newer}
use Rattle.half_mesh.proofs.Chains.{walk-next, walk-none}

module _ (s : Slab Half) (f n : ℕ) (e : KeyedHalf) where
  newer-at : (next : Half) → 0 < n → get s e.1.after ≡ Some next → last_newer f e (walk s n e.1.after) ≡ cond (nat_lt f next.face) (last_newer f (e.1.after, next) (walk s (n - 1) next.after)) e
  newer-at next some there = ap (last_newer f e) (walk-next s n e.1.after next some there)

  pub newer-step : (next : Half) → 0 < n → get s e.1.after ≡ Some next → nat_lt f next.face ≡ true → last_newer f e (walk s n e.1.after) ≡ last_newer f (e.1.after, next) (walk s (n - 1) next.after)
  newer-step next some there less = newer-at next some there ∙ ap (λ b. cond b (last_newer f (e.1.after, next) (walk s (n - 1) next.after)) e) less

  pub newer-here : (next : Half) → 0 < n → get s e.1.after ≡ Some next → nat_lt f next.face ≡ false → last_newer f e (walk s n e.1.after) ≡ e
  newer-here next some there not_less = newer-at next some there ∙ ap (λ b. cond b (last_newer f (e.1.after, next) (walk s (n - 1) next.after)) e) not_less

  pub newer-end : get s e.1.after ≡ None → last_newer f e (walk s n e.1.after) ≡ e
  newer-end none = ap (last_newer f e) (walk-none s n e.1.after none)
