-- A step in which each cube moves as a whole is taken whole, and the cubes stand again.
use Rattle.std.proofs.Common.{◌≡◌, ℕ, suc, ◌+◌, ◌*◌, ◌<◌, [], ◌∷◌, ◌++◌, map, None, refl, ap, sym, subst, ◌∙◌}
use Rattle.std.specs.Option.{option_map}
use Rattle.std.specs.List.{AllByRecursion}
use Rattle.grid_base.specs.Triples.{plus}
use Rattle.grid_decided.specs.Decided.{meets_exactly}
use Rattle.mesh_base.specs.declared.ShiftOf.{ShiftOf}
use Rattle.mesh_base.specs.Mesh.{Mesh, is_solid}
use Rattle.mesh_base.specs.Placements.{rest_positions}
use Rattle.mesh_base.specs.Failing.{failing}
use Rattle.mesh_base.specs.Shifts.{Shifts, with_move, with_moves}
use Rattle.mesh_base.proofs.ListedPairs.{all_joined}
use Rattle.mesh_base.proofs.Moves.{own-with_moves, pair_before_moves}
use Rattle.mesh_base.proofs.MovesNamed.{name_once, name_once_filtered, shift_filtered, end_filtered}
use Rattle.mesh_base.proofs.KeysKept.{keys-with_moves}
use Rattle.step_choose.specs.Choice.{Way}
use Rattle.step_text.specs.declared.Directive.TheVariants.{Step as StepDirective}
use Rattle.log_text.specs.declared.LogLine.TheVariants.{Step, Move, Moved}
use Rattle.mesh_base.specs.declared.How.TheVariants.{Whole}
use Rattle.mesh_make.specs.Cubes.{IsRow}
use Rattle.track_engine.specs.State.{State, still_at}
use Rattle.track_engine.specs.Answers.{Nothing}
use Rattle.track_engine.specs.Effects.{Proceeds, effect_of, step_effect, first_outside, moves, moving, moved_mesh, move_lines, hits, step_lines, after_step}
use Rattle.track_engine.specs.Invariant.{IsRunInvariant}
use Rattle.track_engine.specs.Promise.{EachPasses}
use Rattle.track_engine.proofs.Promises.{step_is_told, taken_whole}
use Rattle.track_engine.proofs.StepLemmas.{all_inside, still_is}
use Rattle.track_engine.proofs.Keeping.{no_move, kept_next}
use Rattle.run_laws.specs.Whole.{MovesWhole, moved_in}
use Rattle.run_laws.proofs.Taking.{IsTaken, moved-append}
use Rattle.run_laws.proofs.Asking.{given}
use Rattle.run_laws.proofs.Moving.{ids_of, AreMoved, shift_in, inside, passes, own_end}

-- A run stands between two steps: nothing is asked of the vertices.
pub record AreBetween (n key steps : ℕ) (s : State) : Type 0 where
  pub moved : AreMoved n key steps s.mesh
  pub kept : IsRunInvariant s
  pub asked : s.asked ≡ map still_at (ids_of n)

-- ---- lines
hits_none : (s : State) → failing meets_exactly s.mesh s.asked s.set.depth ≡ [] → hits s ≡ []
unfolding hits
hits_none s e = e

moves_tell : (shifts : Shifts) → AllByRecursion MovesWhole (map (λ s. Move s) shifts)
moves_tell [] = tt
moves_tell (s ∷ shifts) = (tt, moves_tell shifts)

moves_count : (shifts : Shifts) → moved_in (map (λ s. Move s) shifts) ≡ 0
moves_count [] = refl
moves_count (s ∷ shifts) = moves_count shifts

-- moves make no vertex solid
solid-with_moves : (m : Mesh) (moves : Shifts) (v : ℕ) → is_solid (with_moves m moves) v ≡ is_solid m v
solid-with_moves m [] v = refl
solid-with_moves m (s ∷ rest) v = solid-with_moves (with_move m s) rest v

-- ---- the step
module _ (n key k : ℕ) (row : IsRow n) (few : k < 3) (s : State) (at : AreMoved n key k s.mesh) (kept : IsRunInvariant s) (asked : s.asked ≡ map (given (shift_in key (suc k))) (ids_of n)) where
  none_outside : first_outside s.mesh s.asked ≡ None
  none_outside = ap (option_map (λ (x : ShiftOf). x.v)) (inside n key k row few s.mesh s.asked at kept.now.good.clear asked)

  each_passes : EachPasses s.mesh s.set.depth s.asked
  each_passes = passes n key k row few s.mesh s.asked at kept.now.good.clear asked s.set.depth

  goes : effect_of Nothing StepDirective s ≡ Proceeds (step_lines s) (after_step s)
  goes = ap (λ o. step_effect o s) none_outside

  none_fails : failing meets_exactly s.mesh s.asked s.set.depth ≡ []
  none_fails = ((step_is_told Nothing s (after_step s) (step_lines s) goes).none_fails kept.now.good.sound s.asked).1 each_passes

  lines_are : step_lines s ≡ Step (s.steps + 1) ∷ (move_lines s.asked ++ Moved Whole ∷ [])
  lines_are = (step_is_told Nothing s (after_step s) (step_lines s) goes).unaltered (hits_none s none_fails)

  pub step_taken : IsTaken StepDirective s (after_step s) 1
  step_taken = record {
    lines = step_lines s;
    goes = goes;
    whole = subst (AllByRecursion MovesWhole) (sym lines_are) (tt, all_joined MovesWhole (move_lines s.asked) (Moved Whole ∷ []) (moves_tell (moving s.asked)) (refl, tt));
    count = ap moved_in lines_are ∙ moved-append (move_lines s.asked) (Moved Whole ∷ []) ∙ ap (λ (i : ℕ). i + 1) (moves_count (moving s.asked));
  }

  -- ---- and the cubes stand again
  moved_again : AreMoved n key (suc k) (with_moves s.mesh (moving s.asked))
  moved_again =
      let names = name_once s.mesh s.asked kept.now.names in
      let once = name_once_filtered s.mesh moves s.asked names in
      record {
        ids = keys-with_moves s.mesh (moving s.asked) once.live ∙ at.ids;
        pairs = λ p is. at.pairs p (pair_before_moves s.mesh (moving s.asked) p is);
        free = λ v. solid-with_moves s.mesh (moving s.asked) v ∙ at.free v;
        places = λ cube v there of.
            own-with_moves s.mesh (moving s.asked) (8 * cube + v) once.once (end_filtered s.mesh moves s.asked (all_inside s.mesh s.asked none_outside))
            ∙ ap (plus (rest_positions s.mesh (8 * cube + v))) (shift_filtered moves s.asked (8 * cube + v) no_move names.once)
            ∙ own_end n key k row few s.mesh s.asked at kept.now.good.clear asked cube v there of;
      }

  pub between_again : AreBetween n key (suc k) (after_step s)
  between_again = record {
    moved = subst (λ (l : Shifts). AreMoved n key (suc k) (moved_mesh s.mesh l)) (sym (ap (λ (w : Way). w.taken) (taken_whole s (hits_none s none_fails)))) moved_again;
    kept = kept_next Nothing StepDirective s (after_step s) (step_lines s) kept goes;
    asked = sym (still_is s.mesh s.asked kept.now.names) ∙ ap (map still_at) at.ids;
  }
