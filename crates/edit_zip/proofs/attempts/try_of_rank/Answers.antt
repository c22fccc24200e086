use Rattle.std.proofs.Common.{ℕ, ◌+◌, ◌==◌, Bool, drop, Option, Some, None, Ok, sym, ap, subst, ◌∙◌}
use Rattle.mesh_base.proofs.Tests.{untied}
use Rattle.std.specs.List.{filter, count_by}
use Rattle.mesh_base.proofs.MarksHold.{begins_itself}
use Rattle.grid_decided.specs.Decided.{meets_exactly}
use Rattle.edit_zip.specs.Zip.{zip_mesh, turns, is_before, turn_reason}
use Rattle.edit_base.specs.declared.answers.Why.{Why}
use Rattle.edit_zip.specs.Trying.{after_turns, left_by_turn, KeepsUnlessTaken}
use Rattle.edit_zip.proofs.Untaken.{keeps, marks}
use Rattle.edit_zip.proofs.InTurn.{at_end, same_rank, step_yes, step_no}
use Rattle.edit_zip.proofs.attempts.try_of_rank.Goals.{then-rank-place+in_ok-try_turn+in-Some, else-rank-place}
use Rattle.mesh_base.specs.Sides.{IsClosed}
use Rattle.mesh_base.specs.Placements.{IsClearMesh}
use Rattle.edit_zip.specs.Ready.{MayBeTried}
use Rattle.edit_zip.proofs.attempts.try_of_rank.Goals as goal

pub try_turn-requires-clause-closed : goal.try_turn-requires-clause-closed
try_turn-requires-clause-closed g c = subst IsClosed (sym c.loop-turn.invariant.0) c.requires.closed

pub try_turn-requires-clause-clear : goal.try_turn-requires-clause-clear
try_turn-requires-clause-clear g c = subst IsClearMesh (sym c.loop-turn.invariant.0) c.requires.clear

pub try_turn-requires-clause-tried : goal.try_turn-requires-clause-tried
try_turn-requires-clause-tried g c = subst (λ n. MayBeTried n c.args.s.now c.args.t.now) (sym c.loop-turn.invariant.0) c.requires.tried

pub returns-in-None-clause-tried : goal.returns-in-None-clause-tried
returns-in-None-clause-tried g c =
    let mesh = g.S.Surface.mesh in
    let s = c.args.s.now in
    let t = c.args.t.now in
    let k = c.loop-turn.turn in
    let inv = c.loop-turn.invariant in
    let rank = ap (λ n. count_by (λ l. is_before n s t l k) turns) (sym inv.0) ∙ sym c.rank.ensures ∙ c.if-rank-place.true in
    let why = ap (λ n. turn_reason meets_exactly n s t k) (sym inv.0) ∙ sym c.in_ok-try_turn.ensures.reason ∙ c.in-None.is in
    sym (step_yes (mesh c.args.mesh.now) s t (λ k. count_by (λ l. is_before (mesh c.args.mesh.now) s t l k) turns == c.args.place) k c.loop-turn.last c.loop-turn-test.true (same_rank _ _ rank) None why) ∙ inv.1

pub loop-turn-preserved : goal.loop-turn-preserved
loop-turn-preserved g c =
    let mesh = g.S.Surface.mesh in
    let kept = g.S.Surface.kept in
    let m = mesh c.args.mesh.now in
    let s = c.args.s.now in
    let t = c.args.t.now in
    let k = c.loop-turn.turn in
    let inv = c.loop-turn.invariant in
    let test : ℕ → Bool = λ k. count_by (λ l. is_before m s t l k) turns == c.args.place in
    let count = ap (λ n. count_by (λ l. is_before n s t l k) turns) (sym inv.0) ∙ sym c.rank.ensures in
    elim c.if-rank-place.branch [
      | then-rank-place+in_ok-try_turn+in-Some w ↦
          let why = ap (λ n. turn_reason meets_exactly n s t k) (sym inv.0) ∙ sym w.in_ok-try_turn.ensures.reason ∙ w.in-Some.is in (
            ap mesh w.mesh-is ∙ w.in_ok-try_turn.ensures.mesh ∙ ap (λ r. left_by_turn (mesh c.loop-turn.mesh) s t k (Ok r)) w.in-Some.is ∙ inv.0,
            ap (λ v. after_turns m s t (filter test (drop (k + 1) turns)) v) w.last-is ∙ sym (step_yes m s t test k c.loop-turn.last c.loop-turn-test.true (same_rank _ _ (count ∙ w.if-rank-place.true)) (Some w.in-Some.why) why) ∙ inv.1,
            ap kept w.mesh-is ∙ subst (λ (r : Option Why). KeepsUnlessTaken (Ok r) (kept w.try_turn.new.mesh) (kept c.loop-turn.mesh)) w.in-Some.is w.in_ok-try_turn.ensures.kept ∙ inv.2,
          )
      | else-rank-place w ↦ (
        ap mesh w.mesh-is ∙ inv.0,
        ap (λ v. after_turns m s t (filter test (drop (k + 1) turns)) v) w.last-is ∙ sym (step_no m s t test k c.loop-turn.last c.loop-turn-test.true (untied _ _ (λ e. w.if-rank-place.false (sym count ∙ e)))) ∙ inv.1,
        ap kept w.mesh-is ∙ inv.2,
      )
    ]

pub returns-in_err-try_turn-clause-marks : goal.returns-in_err-try_turn-clause-marks
returns-in_err-try_turn-clause-marks g c =
    let kept = g.S.Surface.kept in
    marks (kept c.try_turn.new.mesh) (kept c.loop-turn.mesh) (kept c.args.mesh.now) c.try_turn.ensures.marks c.loop-turn.invariant.2

pub returns-in_err-try_turn-clause-kept : goal.returns-in_err-try_turn-clause-kept
returns-in_err-try_turn-clause-kept g c =
    let kept = g.S.Surface.kept in
    keeps c.from_residual.result (kept c.try_turn.new.mesh) (kept c.args.mesh.now)
    (c.in_err-try_turn.ensures.kept ∙ c.loop-turn.invariant.2)

pub returns-in-None-clause-mesh : goal.returns-in-None-clause-mesh
returns-in-None-clause-mesh g c =
    let mesh = g.S.Surface.mesh in
    let s = c.args.s.now in
    let t = c.args.t.now in
    let k = c.loop-turn.turn in
    c.in_ok-try_turn.ensures.mesh ∙ ap (λ r. left_by_turn (mesh c.loop-turn.mesh) s t k (Ok r)) c.in-None.is ∙ ap (λ n. zip_mesh n s t k) c.loop-turn.invariant.0

pub returns-in-None-clause-marks : goal.returns-in-None-clause-marks
returns-in-None-clause-marks g c =
    let kept = g.S.Surface.kept in
    marks (kept c.try_turn.new.mesh) (kept c.loop-turn.mesh) (kept c.args.mesh.now) c.try_turn.ensures.marks c.loop-turn.invariant.2

pub returns-clause-marks : goal.returns-clause-marks
returns-clause-marks g c =
    let kept = g.S.Surface.kept in
    marks (kept c.loop-turn.mesh) (kept c.loop-turn.mesh) (kept c.args.mesh.now) (begins_itself (kept c.loop-turn.mesh)) c.loop-turn.invariant.2

pub returns-clause-kept : goal.returns-clause-kept
returns-clause-kept g c = c.loop-turn.invariant.2

pub returns-clause-tried : goal.returns-clause-tried
returns-clause-tried g c =
    let m = g.S.Surface.mesh c.args.mesh.now in
    let s = c.args.s.now in
    let t = c.args.t.now in
    let test : ℕ → Bool = λ k. count_by (λ l. is_before m s t l k) turns == c.args.place in
    let end = at_end c.loop-turn.turn c.loop-turn-test.false in
    ap (λ ks. after_turns m s t (filter test ks) c.loop-turn.last) (sym end) ∙ c.loop-turn.invariant.1
