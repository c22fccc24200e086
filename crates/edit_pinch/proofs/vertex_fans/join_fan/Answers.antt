use Rattle.std.proofs.Common.{ℕ, Bool, ◌≤◌, ◌++◌, ◌∷◌, [], length, not, append-nil, sym, ap, ◌∙◌, arith}
use Rattle.std.specs.List.{filter}
use Rattle.mesh_base.specs.declared.ids.Corners.{Corners}
use Rattle.pair_scan.proofs.Lists.{ended}
use Rattle.edit_pinch.specs.Parting.{share_other, face_ids}
use Rattle.edit_pinch.proofs.Growing.{next_kept, next_made, turned}
use Rattle.edit_pinch.proofs.vertex_fans.join_fan.Goals as goal

pub loop-e-preserved : goal.loop-e-preserved
loop-e-preserved c =
    let share : ℕ × Corners → Bool = λ e. share_other c.args.v c.args.c.now e.1 in
    let x = c.e-item.result in
    let b = c.share_other.result in
    let rest = c.loop-e.rest in (
      next_kept (λ e. not (share e)) c.args.left.now c.loop-e.e-index x (not b) rest c.put_in_one.new.second c.loop-e-test.true c.e-item.is (ap not c.share_other.ensures)
          (c.in_ok-put_in_one.ensures.second ∙ turned b rest (rest ++ x ∷ []))
          ∙ c.loop-e.invariant.0,
      next_made share (λ e. e.0) c.args.left.now c.loop-e.e-index x b c.loop-e.fan c.put_in_one.new.first c.loop-e-test.true c.e-item.is c.share_other.ensures c.in_ok-put_in_one.ensures.first
          ∙ c.loop-e.invariant.1,
    )

pub returns-clause-left : goal.returns-clause-left
returns-clause-left c =
    let share : ℕ × Corners → Bool = λ e. share_other c.args.v c.args.c.now e.1 in
    let end : length c.args.left.now ≤ c.loop-e.e-index = omega arith in
    sym (append-nil c.loop-e.rest)
    ∙ ap (λ l. c.loop-e.rest ++ filter (λ e. not (share e)) l) (sym (ended c.args.left.now c.loop-e.e-index end))
    ∙ c.loop-e.invariant.0

pub returns-clause-fan : goal.returns-clause-fan
returns-clause-fan c =
    let share : ℕ × Corners → Bool = λ e. share_other c.args.v c.args.c.now e.1 in
    let end : length c.args.left.now ≤ c.loop-e.e-index = omega arith in
    sym (append-nil c.loop-e.fan)
    ∙ ap (λ l. c.loop-e.fan ++ face_ids (filter share l)) (sym (ended c.args.left.now c.loop-e.e-index end))
    ∙ c.loop-e.invariant.1
