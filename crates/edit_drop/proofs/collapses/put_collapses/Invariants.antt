use Rattle.std.proofs.Common.{◌≡◌, ◌++◌, drop, map}
use Rattle.edit_base.specs.declared.Asked.TheVariants as asked
use Rattle.edit_drop.proofs.collapses.put_collapses.Given as goal

-- those put so far and those to come are all
abbrev pub invariant-loop-w : goal.invariant-loop-w
invariant-loop-w l = l.all ++ map (λ w. asked.Collapse l.v w) (drop l.w-index l.near) ≡ l.fn.all ++ map (λ w. asked.Collapse l.v w) l.near
