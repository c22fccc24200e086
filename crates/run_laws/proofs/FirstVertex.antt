-- Vertex 1 lives in the mesh to which the replay of the job's log leads.
use Rattle.std.proofs.Common.{◌≡◌, ℕ, suc, zero, ◌+◌, ◌*◌, ◌≤◌, Bool, true, false, List, [], ◌∷◌, map, Option, Some, None, if◌then◌else◌, All, ap, sym, subst, ◌∙◌, arith}
use Rattle.std.specs.List.{range_with_len}
use Rattle.std.proofs.Math.Nat.{one-le-mul}
use Rattle.grid_base.specs.declared.Point.{Point}
use Rattle.grid_decided.specs.Decided.{meets_exactly}
use Rattle.mesh_base.specs.Mesh.{Mesh, IsLiveVertex}
use Rattle.mesh_base.specs.Pairs.{edges}
use Rattle.mesh_base.proofs.Finite.{live_stays}
use Rattle.mesh_base.proofs.MovesNamed.{name_once}
use Rattle.edit_base.specs.declared.Asked.TheVariants as asked
use Rattle.edit_base.specs.declared.Change.TheVariants.{Split}
use Rattle.edit_base.specs.declared.Why.{Why}
use Rattle.edit_base.specs.declared.PassKind.TheVariants as pass
use Rattle.edit_base.specs.Clauses.{mesh_after}
use Rattle.edit_base.specs.Edges.{Edge, edge_of}
use Rattle.edit_base.specs.Reasons.{done_unless}
use Rattle.edit_split.specs.Split.{split_mesh, split_point}
use Rattle.edit_any.specs.Dispatch.{edited}
use Rattle.step_text.specs.declared.Directive.{Directive}
use Rattle.log_replay.specs.Replay.{Replay, at_mesh, after}
use Rattle.log_replay.proofs.Replaying.{after-append}
use Rattle.pass_run.specs.PassLines.{PassRules, rules_of, terms_of, answer_by, mesh_asked, mesh_from, mesh_after_all, lines_of, ends}
use Rattle.pass_run.specs.Candidates.{is_due}
use Rattle.mesh_make.specs.Cubes.{IsRow, cubes_mesh}
use Rattle.mesh_make.specs.CubeSteps.{cubes_directives}
use Rattle.track_engine.specs.State.{State, start, standing, is_open, still_at}
use Rattle.track_engine.specs.Answers.{without_field, without_fields}
use Rattle.track_engine.specs.Effects.{Effect, ExpectedLog, and_then, log_from, passed_mesh}
use Rattle.track_engine.proofs.Replayed.{effect_replayed}
use Rattle.run_laws.specs.Whole.{log_of_cubes}
use Rattle.run_laws.proofs.Taking.{AreTaken, on_lines_from}
use Rattle.run_laws.proofs.Stepping.{AreBetween}
use Rattle.run_laws.proofs.WholeJob.{saved_after, job_ends}

-- ---- splits keep each vertex
lives_split : (m : Mesh) (s : Edge) (at : Point) (v : ℕ) → IsLiveVertex m v → IsLiveVertex (split_mesh m s at) v
lives_split m s at v live = live_stays m.points m.next_vertex at v live

lives_answered : (v : ℕ) (m : Mesh) (a b w : ℕ) (at : Point) (reason : Option Why) → IsLiveVertex m v → IsLiveVertex (mesh_after edited m (done_unless reason (Split a b w at))) v
lives_answered v m a b w at None live = lives_split m (edge_of m a b) at v live
lives_answered v m a b w at (Some why) live = live

lives_if : (v : ℕ) (b : Bool) (one two : Mesh) → IsLiveVertex one v → IsLiveVertex two v → IsLiveVertex (if b then one else two) v
lives_if v true one two h i = h
lives_if v false one two h i = i

module _ (depth : ℕ) (grouped : Bool) (v : ℕ) where
  abbrev rules : PassRules
  rules = rules_of meets_exactly (terms_of (pass.Split 50) depth grouped)

  lives_asked : (m : Mesh) (a b : ℕ) (due : Bool) → IsLiveVertex m v → IsLiveVertex (mesh_asked (answer_by rules m) m (if due then Some (asked.Split a b) else None)) v
  lives_asked m a b false live = live
  lives_asked m a b true live = let s = edge_of m a b in lives_answered v m s.a s.b m.next_vertex (split_point m s) _ live

  pub lives_after_all : (m : Mesh) (es : List (ℕ × ℕ)) → IsLiveVertex m v → IsLiveVertex (mesh_after_all rules m (map (λ e. asked.Split e.0 e.1) es)) v
  lives_after_all m [] live = live
  lives_after_all m (e ∷ es) live =
      let next : Mesh = mesh_from rules m (asked.Split e.0 e.1) in
      let here : IsLiveVertex next v = lives_asked m e.0 e.1 (is_due m (pass.Split 50) (asked.Split e.0 e.1)) live in
      lives_if v (ends grouped (lines_of rules m (asked.Split e.0 e.1))) next (mesh_after_all rules next (map (λ e. asked.Split e.0 e.1) es)) here (lives_after_all next es here)

lives_passed : (s : State) (v : ℕ) → IsLiveVertex s.mesh v → IsLiveVertex (passed_mesh (pass.Split 50) s) v
unfolding passed_mesh
lives_passed s v live = lives_after_all s.set.depth (is_open s.groups) v s.mesh (edges s.mesh) live

-- ---- it lives after the third step
lives_first : (m : Mesh) (k : ℕ) → 1 ≤ k → All (λ s. IsLiveVertex m s.v) (map still_at (range_with_len 1 k)) → IsLiveVertex m 1
lives_first m zero some all = absurd (omega (arith, some))
lives_first m (suc k) some all = all 0 (still_at 1) (omega arith)

lives_between : (n key : ℕ) → IsRow n → (s : State) → AreBetween n key 3 s → IsLiveVertex s.mesh 1
lives_between n key row s at =
    lives_first s.mesh (8 * (n * n * n)) (one-le-mul (omega arith) (one-le-mul (one-le-mul row.some row.some) row.some))
    (subst (All (λ x. IsLiveVertex s.mesh x.v)) at.asked (name_once s.mesh s.asked at.kept.now.names).live)

-- ---- where the replay of the log leads
replays_to : (line : ℕ) (ds : List Directive) (s t : State) (steps : ℕ) → AreTaken ds s t steps → after (standing s) (log_from (without_fields (on_lines_from line ds)) (on_lines_from line ds) s).lines ≡ standing t
replays_to line [] s t steps taken = ap standing taken.0
replays_to line (d ∷ ds) s t steps taken =
    let next : State = taken.0 in
    let lines = (taken.3).lines in
    let others : State → ExpectedLog = log_from (without_fields (on_lines_from (line + 1) ds)) (on_lines_from (line + 1) ds) in
    subst (λ (e : Effect). after (standing s) (and_then line e others).lines ≡ standing t) (sym (taken.3).goes)
    (after-append (standing s) lines (others next).lines
    ∙ ap (λ (r : Replay). after r (others next).lines) (effect_replayed (without_field d) d s next lines (taken.3).goes)
    ∙ replays_to (line + 1) ds next t taken.2 taken.4)

pub first_lives : (n key : ℕ) → IsRow n → IsLiveVertex (after (at_mesh (cubes_mesh n)) (log_of_cubes n key).lines).mesh 1
first_lives n key row =
    let end = job_ends n key row in
    subst (λ (r : Replay). IsLiveVertex r.mesh 1) (sym (replays_to 1 (cubes_directives n key) (start (cubes_mesh n)) (saved_after end.third) 3 end.taken))
    (lives_passed end.third 1 (lives_between n key row end.third end.between))
