use Rattle.std.proofs.Common.{◌≡◌, ◌==◌, ◌||◌, drop}
use Rattle.std.specs.List.{list_any}
use Rattle.edit_check.proofs.pair_test.has_an_end.Given as goal

-- one is an end where one of those that are left is
abbrev pub invariant-loop-v : goal.invariant-loop-v
invariant-loop-v l = list_any (λ v. (l.a == v) || (l.b == v)) (drop l.v-index l.together) ≡ list_any (λ v. (l.a == v) || (l.b == v)) l.together
