use Rattle.std.proofs.Common.{ℕ, ◌+◌, ◌==◌, List, drop, Ok, sym, ap, subst, ◌∙◌}
use Rattle.std.specs.List.{filter, flat_map, count_by}
use Rattle.mesh_base.proofs.MarksHold.{begins_itself}
use Rattle.edit_zip.specs.Zip.{zip_mesh, turns, is_before}
use Rattle.edit_zip.specs.Trying.{after_turns, left_by_turns, KeepsWhereNoneIsTaken}
use Rattle.edit_zip.specs.declared.attempts.Attempt.{Attempt}
use Rattle.edit_zip.proofs.Untaken.{keeps, marks}
use Rattle.edit_zip.proofs.InTurn.{at_end, flat_step, append_taken, append_failed}
use Rattle.mesh_base.specs.Sides.{IsClosed}
use Rattle.mesh_base.specs.Placements.{IsClearMesh}
use Rattle.edit_zip.specs.Ready.{MayBeTried}
use Rattle.edit_zip.proofs.attempts.try_turns.Goals as goal

pub returns-in-Taken-clause-tried : goal.returns-in-Taken-clause-tried
returns-in-Taken-clause-tried g c =
    let m = g.S.Surface.mesh c.args.mesh.now in
    let s = c.args.s.now in
    let t = c.args.t.now in
    let i = c.loop-place.place in
    let inv = c.loop-place.invariant in
    let f : ℕ → List ℕ = λ n. filter (λ k. count_by (λ l. is_before m s t l k) turns == n) turns in
    let one = sym c.in-Taken.is ∙ c.in_ok-turn.ensures.tried ∙ ap (λ n. after_turns n s t (filter (λ k. count_by (λ l. is_before n s t l k) turns == i) turns) c.loop-place.last) inv.0 in
    append_taken m s t (f i) (flat_map f (drop (i + 1) turns)) c.loop-place.last c.in-Taken.turn one
    ∙ ap (λ ks. after_turns m s t ks c.loop-place.last) (sym (flat_step f i c.loop-place-test.true)) ∙ inv.1

pub loop-place-preserved : goal.loop-place-preserved
loop-place-preserved g c =
    let mesh = g.S.Surface.mesh in
    let kept = g.S.Surface.kept in
    let m = mesh c.args.mesh.now in
    let s = c.args.s.now in
    let t = c.args.t.now in
    let i = c.loop-place.place in
    let inv = c.loop-place.invariant in
    let f : ℕ → List ℕ = λ n. filter (λ k. count_by (λ l. is_before m s t l k) turns == n) turns in
    let one = sym c.in-Failed.is ∙ c.in_ok-turn.ensures.tried ∙ ap (λ n. after_turns n s t (filter (λ k. count_by (λ l. is_before n s t l k) turns == i) turns) c.loop-place.last) inv.0 in (
      c.in_ok-turn.ensures.mesh ∙ ap (λ r. left_by_turns (mesh c.loop-place.mesh) s t (Ok r)) c.in-Failed.is ∙ inv.0,
      sym (append_failed m s t (f i) (flat_map f (drop (i + 1) turns)) c.loop-place.last c.in-Failed.why one)
          ∙ ap (λ ks. after_turns m s t ks c.loop-place.last) (sym (flat_step f i c.loop-place-test.true)) ∙ inv.1,
      subst (λ (r : Attempt). KeepsWhereNoneIsTaken (Ok r) (kept c.try_of_rank.new.mesh) (kept c.loop-place.mesh)) c.in-Failed.is c.in_ok-turn.ensures.kept ∙ inv.2,
    )

pub try_of_rank-requires-clause-closed : goal.try_of_rank-requires-clause-closed
try_of_rank-requires-clause-closed g c = subst IsClosed (sym c.loop-place.invariant.0) c.requires.closed

pub try_of_rank-requires-clause-clear : goal.try_of_rank-requires-clause-clear
try_of_rank-requires-clause-clear g c = subst IsClearMesh (sym c.loop-place.invariant.0) c.requires.clear

pub try_of_rank-requires-clause-tried : goal.try_of_rank-requires-clause-tried
try_of_rank-requires-clause-tried g c = subst (λ n. MayBeTried n c.args.s.now c.args.t.now) (sym c.loop-place.invariant.0) c.requires.tried

pub returns-in_err-turn-clause-marks : goal.returns-in_err-turn-clause-marks
returns-in_err-turn-clause-marks g c =
    let kept = g.S.Surface.kept in
    marks (kept c.try_of_rank.new.mesh) (kept c.loop-place.mesh) (kept c.args.mesh.now) c.try_of_rank.ensures.marks c.loop-place.invariant.2

pub returns-in_err-turn-clause-kept : goal.returns-in_err-turn-clause-kept
returns-in_err-turn-clause-kept g c =
    let kept = g.S.Surface.kept in
    keeps c.from_residual.result (kept c.try_of_rank.new.mesh) (kept c.args.mesh.now)
    (c.in_err-turn.ensures.kept ∙ c.loop-place.invariant.2)

pub returns-in-Taken-clause-mesh : goal.returns-in-Taken-clause-mesh
returns-in-Taken-clause-mesh g c =
    let mesh = g.S.Surface.mesh in
    let s = c.args.s.now in
    let t = c.args.t.now in
    c.in_ok-turn.ensures.mesh ∙ ap (λ r. left_by_turns (mesh c.loop-place.mesh) s t (Ok r)) c.in-Taken.is ∙ ap (λ n. zip_mesh n s t c.in-Taken.turn) c.loop-place.invariant.0

pub returns-in-Taken-clause-marks : goal.returns-in-Taken-clause-marks
returns-in-Taken-clause-marks g c =
    let kept = g.S.Surface.kept in
    marks (kept c.try_of_rank.new.mesh) (kept c.loop-place.mesh) (kept c.args.mesh.now) c.try_of_rank.ensures.marks c.loop-place.invariant.2

pub returns-clause-marks : goal.returns-clause-marks
returns-clause-marks g c =
    let kept = g.S.Surface.kept in
    marks (kept c.loop-place.mesh) (kept c.loop-place.mesh) (kept c.args.mesh.now) (begins_itself (kept c.loop-place.mesh)) c.loop-place.invariant.2

pub returns-clause-kept : goal.returns-clause-kept
returns-clause-kept g c = c.loop-place.invariant.2

pub returns-clause-tried : goal.returns-clause-tried
returns-clause-tried g c =
    let m = g.S.Surface.mesh c.args.mesh.now in
    let s = c.args.s.now in
    let t = c.args.t.now in
    let f : ℕ → List ℕ = λ n. filter (λ k. count_by (λ l. is_before m s t l k) turns == n) turns in
    let end = at_end c.loop-place.place c.loop-place-test.false in
    ap (λ ks. after_turns m s t (flat_map f ks) c.loop-place.last) (sym end) ∙ c.loop-place.invariant.1
