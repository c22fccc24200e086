use Rattle.std.proofs.Common.{ℕ, ◌≡◌, subst}
use Rattle.grid_base.specs.declared.Extent.{Extent}
use Rattle.grid_base.specs.Triples.{Triple}
use Rattle.neighbour_list.specs.Widened.{IsWidened}
use Rattle.neighbour_list.proofs.Made.{leaves_out}
use Rattle.neighbour_list.proofs.construction.BeginNearPairTest.box_of.Goals as goal

about : (skin : ℕ) (a a' b b' : Triple) (at : Extent) → a ≡ a' → b ≡ b' → IsWidened skin a b at → IsWidened skin a' b' at
about skin a a' b b' at p q h = subst (λ y. IsWidened skin a' y at) q (subst (λ x. IsWidened skin x b at) p h)

pub returns : goal.returns
returns c =
    let skin = c.args.self.now.skin in
    let at = c.widened.result in
    leaves_out skin c.args._frame.now c.args.e.now at (about skin _ _ _ _ at c.wide.ensures.value c.wide-2.ensures.value c.widened.ensures)
