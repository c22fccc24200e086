use Rattle.std.proofs.Common.{rules, ◌≡◌, ◌<◌, ◌-◌, ◌||◌, length, get_or, arith, ap, sym, ◌∙◌}
use Rattle.std.specs.Prelude.{reverse, slice_set}
use Rattle.track_engine.specs.declared.open_group.OpenGroup.{OpenGroup}
use Rattle.track_engine.specs.Groups.{failed_if}
use Rattle.track_engine.proofs.OpenLists.{last_fails}
use Rattle.track_engine.proofs.open_groups.OpenGroups.fail_if.Goals as goal
use Rattle.track_engine.proofs.open_groups.OpenGroups.fail_if.Goals.{then-group, else-group}

pub returns-after-group : goal.returns-after-group
returns-after-group c =
    let xs = c.self.inside.innermost_last.items in
    let group : OpenGroup = c.index_mut-group.result.now in
    let count : c.len-count.result ≡ length xs = search rules in
    let some : 0 < length xs = omega (arith, count, c.if-count-gt0.true) in
    let at : group ≡ get_or xs (length xs - 1) group = c.index_mut-group.ensures.value ∙ ap (λ n. get_or xs (n - 1) group) count in
    let flag : c.if-group.group ≡ (group.failed || c.args.failed) = elim c.if-group.branch [
      | then-group w ↦ w.group-is ∙ w.if-group.true ∙ sym (ap (λ b. b || c.args.failed) w.if-group.true)
      | else-group w ↦ w.group-is ∙ sym (ap (λ b. b || c.args.failed) w.if-group.false)
    ] in
    ap (λ n. reverse (slice_set xs (n - 1) (record group { failed = c.if-group.group }))) count
    ∙ last_fails xs group c.if-group.group c.args.failed some at flag
    ∙ ap (failed_if c.args.failed) c.self.view_is
