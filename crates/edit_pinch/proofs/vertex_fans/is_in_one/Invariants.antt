use Rattle.std.proofs.Common.{◌≡◌, drop}
use Rattle.std.specs.List.{list_any}
use Rattle.edit_base.specs.Classes.{is_one_of}
use Rattle.edit_pinch.proofs.vertex_fans.is_in_one.Given as goal

-- it is in one of them where it is in one of those that are left
abbrev pub invariant-loop-fan : goal.invariant-loop-fan
invariant-loop-fan l = list_any (λ fan. is_one_of fan l.f) (drop l.fan-index l.fans) ≡ list_any (λ fan. is_one_of fan l.f) l.fans
