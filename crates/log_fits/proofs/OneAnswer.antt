-- What a directive does, by the one answer that there is.
use Rattle.std.proofs.Common.{◌≡◌, ℕ, Bool, true, false, not, ◌||◌, cond, List, [], ◌∷◌, ◌++◌, map, Option, Some, None, Ok, refl, ap, sym, ◌∙◌, subst}
use Rattle.std.specs.Prelude.{if◌then◌else◌, IsSome}
use Rattle.std.specs.Option.{option_map}
use Rattle.std.specs.List.{find, AllByRecursion}
use Rattle.std.specs.FinMap as finite
use Rattle.std.proofs.lemmas.Bool.{false≢true}
use Rattle.grid_base.specs.declared.Point.{Point}
use Rattle.grid_base.specs.declared.Positions.{Positions}
use Rattle.grid_base.specs.declared.Shift.{Shift}
use Rattle.grid_base.specs.declared.TheConstants.{SHIFT_MAX}
use Rattle.grid_base.specs.Points.{is_within}
use Rattle.grid_decided.specs.Decided.{meets_exactly}
use Rattle.mesh_base.specs.declared.ShiftOf.{ShiftOf}
use Rattle.mesh_base.specs.Mesh.{Mesh, IsLiveVertex, is_solid}
use Rattle.mesh_base.specs.Pairs.{edges, is_edge}
use Rattle.mesh_base.specs.Shifts.{Shifts, NameLive, with_shift}
use Rattle.mesh_field.specs.Stored.{place_of}
use Rattle.mesh_sizing.specs.declared.sizing.Band.{Band}
use Rattle.mesh_sizing.specs.declared.sizing.Want.{Want}
use Rattle.mesh_sizing.specs.Sizes.{want_of}
use Rattle.edit_any.specs.Dispatch.{answer_to}
use Rattle.step_text.specs.declared.Directive.{Directive}
use Rattle.step_text.specs.declared.Directive.TheVariants.{Drive, Fit}
use Rattle.run_laws.proofs.Names.{live_keys}
use Rattle.log_text.specs.declared.LogLine.TheVariants.{PassFit}
use Rattle.pass_run.specs.Candidates.{length_squared}
use Rattle.pass_run.specs.PassLines.{PassRules, lines_asked, mesh_asked, lines_of, mesh_from, ends, lines_from, mesh_after_all}
use Rattle.pass_run.specs.Fits.{call_of, call_in, choice_by, turn_of, fit_rules, IsWanted, AreWanted}
use Rattle.track_engine.specs.State.{State, is_open}
use Rattle.track_engine.specs.Answers.{Answer, Nothing, NoSuchField, FieldShifts, Wanted, WantedOfFirst}
use Rattle.track_engine.specs.Answered.{Known, AreAnswersOf, IsAnswerOf, IsAnswerToFit, IsAnswer}
use Rattle.track_engine.specs.Effects.{Proceeds, summed, is_beyond, first_beyond, summed_unless_solid, all_summed, sum_or_range, sum_of_all, shift_effect, drive_effect, fit_effect, fitted_lines, fitted_mesh, after_lines, effect_of}
use Rattle.track_engine.specs.Invariant.{IsRunInvariant}
use Rattle.log_fits.specs.OneLog.{HaveOneAnswer}

-- ---- a drive

module _ (fields : Known) (one : HaveOneAnswer fields) (m : Mesh) (which : ℕ) (by to : ℕ → Shift) (first : AreAnswersOf (fields.may_answer which) m by) (second : AreAnswersOf (fields.may_answer which) m to) where
  -- at a live vertex that may move
  same_at : (v : ℕ) → IsLiveVertex m v → is_solid m v ≡ false → by v ≡ to v
  same_at v live free = by_point (finite.get m.points v) refl live
    where
      by_point : (o : Option Point) → finite.get m.points v ≡ o → IsSome o → by v ≡ to v
      by_point (Some p) e some = one.shifts which p (by v) (to v) (first v p e free) (second v p e free)
      by_point None e some = absurd (false≢true some)

  same_beyond : (s : ShiftOf) → IsLiveVertex m s.v → is_beyond m by s ≡ is_beyond m to s
  same_beyond s live = by_solid (is_solid m s.v) refl
    where
      by_solid : (b : Bool) → is_solid m s.v ≡ b → is_beyond m by s ≡ is_beyond m to s
      by_solid true e = ap (λ b. not (b || is_within SHIFT_MAX (summed (by s.v) s))) e ∙ sym (ap (λ b. not (b || is_within SHIFT_MAX (summed (to s.v) s))) e)
      by_solid false e = ap (λ t. not (is_solid m s.v || is_within SHIFT_MAX (summed t s))) (same_at s.v live e)

  same_summed : (s : ShiftOf) → IsLiveVertex m s.v → summed_unless_solid m by s ≡ summed_unless_solid m to s
  same_summed s live = by_solid (is_solid m s.v) refl
    where
      by_solid : (b : Bool) → is_solid m s.v ≡ b → summed_unless_solid m by s ≡ summed_unless_solid m to s
      by_solid true e = ap (λ b. if b then s else with_shift s (summed (by s.v) s)) e ∙ sym (ap (λ b. if b then s else with_shift s (summed (to s.v) s)) e)
      by_solid false e = ap (λ t. if is_solid m s.v then s else with_shift s (summed t s)) (same_at s.v live e)

  same_find : (asked : Shifts) → AllByRecursion (λ s. IsLiveVertex m s.v) asked → find (is_beyond m by) asked ≡ find (is_beyond m to) asked
  same_find [] live = refl
  same_find (s ∷ asked) live =
      ap (λ b. cond b (Some s) (find (is_beyond m by) asked)) (same_beyond s live.0) ∙ ap (λ o. cond (is_beyond m to s) (Some s) o) (same_find asked live.1)

  same_map : (asked : Shifts) → AllByRecursion (λ s. IsLiveVertex m s.v) asked → all_summed m by asked ≡ all_summed m to asked
  same_map [] live = refl
  same_map (s ∷ asked) live = ap (λ (x : ShiftOf). x ∷ all_summed m by asked) (same_summed s live.0) ∙ ap (λ (xs : Shifts). summed_unless_solid m to s ∷ xs) (same_map asked live.1)

  same_sum : (asked : Shifts) → AllByRecursion (λ s. IsLiveVertex m s.v) asked → sum_of_all m by asked ≡ sum_of_all m to asked
  same_sum asked live = ap (λ o. sum_or_range (option_map (λ (s : ShiftOf). s.v) o) m by asked) (same_find asked live) ∙ by_first (first_beyond m to asked)
    where
      by_first : (o : Option ℕ) → sum_or_range o m by asked ≡ sum_or_range o m to asked
      by_first None = ap Ok (same_map asked live)
      by_first (Some v) = refl

-- who is asked lives
each_lives : (m : Mesh) (asked : Shifts) (ids : List ℕ) → map (λ (s : ShiftOf). s.v) asked ≡ ids → AllByRecursion (IsLiveVertex m) ids → AllByRecursion (λ s. IsLiveVertex m s.v) asked
each_lives m [] ids e live = tt
each_lives m (s ∷ asked) [] e live = absurd cc
each_lives m (s ∷ asked) (v ∷ ids) e live =
    let here : v ≡ s.v = cc in
    let rest : map (λ (t : ShiftOf). t.v) asked ≡ ids = cc in
    (subst (IsLiveVertex m) here live.0, each_lives m asked ids rest live.1)

drive_alike : (fields : Known) → HaveOneAnswer fields → (s : State) → NameLive s.mesh s.asked → (o : Option ℕ) (given other : Answer) → IsAnswerOf fields s.mesh o given → IsAnswerOf fields s.mesh o other → drive_effect given s ≡ drive_effect other s
drive_alike fields one s names None given other a b = ap (λ (x : Answer). drive_effect x s) (a ∙ sym b)
drive_alike fields one s names (Some which) given other a b =
    let live = each_lives s.mesh s.asked (finite.keys s.mesh.points) names (live_keys s.mesh) in
    ap (λ (x : Answer). drive_effect x s) a.1
    ∙ ap (λ r. shift_effect r s) (same_sum fields one s.mesh which a.0 b.0 a.2 b.2 s.asked live)
    ∙ sym (ap (λ (x : Answer). drive_effect x s) b.1)

-- ---- a pass by the sizing

module _ (fields : Known) (one : HaveOneAnswer fields) (meets : Positions → Bool) (depth : ℕ) (grouped : Bool) (wants others : ℕ × ℕ → Want) where
  abbrev here : PassRules
  here = fit_rules meets wants depth grouped

  abbrev there : PassRules
  there = fit_rules meets others depth grouped

  same_want : (m : Mesh) (e : ℕ × ℕ) → IsWanted fields.may_size m e (wants e) → IsWanted fields.may_size m e (others e) → wants e ≡ others e
  same_want m e a b = a.value ∙ ap (λ (band : Band). want_of band (length_squared m e.0 e.1)) (one.bands _ a.band b.band a.answer b.answer) ∙ sym b.value

  same_choice : (m : Mesh) (e : ℕ × ℕ) → (is_edge m e.0 e.1 ≡ true → IsWanted fields.may_size m e (wants e)) → (is_edge m e.0 e.1 ≡ true → IsWanted fields.may_size m e (others e)) → choice_by wants m (turn_of e) ≡ choice_by others m (turn_of e)
  same_choice m e a b = by_edge (is_edge m e.0 e.1) refl
    where
      by_edge : (standing : Bool) → is_edge m e.0 e.1 ≡ standing → choice_by wants m (turn_of e) ≡ choice_by others m (turn_of e)
      by_edge true is = ap (λ (want : Want). call_in m want e) (same_want m e (a is) (b is))
      by_edge false is = ap (λ b. if b then call_of (wants e) e else None) is ∙ sym (ap (λ b. if b then call_of (others e) e else None) is)

  -- the lines of edges, and the mesh behind them
  pub record AreAlike (m : Mesh) (es : List (ℕ × ℕ)) : Type 0 where
    pub lines : lines_from here m (map turn_of es) ≡ lines_from there m (map turn_of es)
    pub mesh : mesh_after_all here m (map turn_of es) ≡ mesh_after_all there m (map turn_of es)

  pub are_alike : (m : Mesh) (es : List (ℕ × ℕ)) → AreWanted fields.may_size here wants m es → AreWanted fields.may_size there others m es → AreAlike m es
  are_alike m [] a b = record { lines = refl; mesh = refl }
  are_alike m (e ∷ es) a b = by_end (λ n x y. are_alike n es x y) (ends grouped (lines_of here m (turn_of e))) refl
    where
      same : choice_by wants m (turn_of e) ≡ choice_by others m (turn_of e)
      same = same_choice m e a.0 b.0

      said : lines_of here m (turn_of e) ≡ lines_of there m (turn_of e)
      said = ap (λ o. lines_asked (λ what. answer_to meets m depth what) o) same

      left : mesh_from here m (turn_of e) ≡ mesh_from there m (turn_of e)
      left = ap (λ o. mesh_asked (λ what. answer_to meets m depth what) m o) same

      ended_too : (b : Bool) → ends grouped (lines_of here m (turn_of e)) ≡ b → ends grouped (lines_of there m (turn_of e)) ≡ b
      ended_too b is = ap (ends grouped) (sym said) ∙ is

      by_end : ((n : Mesh) → AreWanted fields.may_size here wants n es → AreWanted fields.may_size there others n es → AreAlike n es) → (b : Bool) → ends grouped (lines_of here m (turn_of e)) ≡ b → AreAlike m (e ∷ es)
      by_end later true is =
          let is_there = ended_too true is in
          record {
            lines = ap (λ b. lines_of here m (turn_of e) ++ (if b then [] else lines_from here (mesh_from here m (turn_of e)) (map turn_of es))) is
                ∙ ap (λ ls. ls ++ []) said
                ∙ sym (ap (λ b. lines_of there m (turn_of e) ++ (if b then [] else lines_from there (mesh_from there m (turn_of e)) (map turn_of es))) is_there);
            mesh = ap (λ b. if b then mesh_from here m (turn_of e) else mesh_after_all here (mesh_from here m (turn_of e)) (map turn_of es)) is
                ∙ left
                ∙ sym (ap (λ b. if b then mesh_from there m (turn_of e) else mesh_after_all there (mesh_from there m (turn_of e)) (map turn_of es)) is_there);
          }
      by_end later false is =
          let is_there = ended_too false is in
          let n = mesh_from here m (turn_of e) in
          let k = mesh_from there m (turn_of e) in
          let rest = later n (a.1 is) (subst (λ x. AreWanted fields.may_size there others x es) (sym left) (b.1 is_there)) in
          record {
            lines = ap (λ b. lines_of here m (turn_of e) ++ (if b then [] else lines_from here n (map turn_of es))) is
                ∙ ap (λ ls. ls ++ lines_from here n (map turn_of es)) said
                ∙ ap (λ ls. lines_of there m (turn_of e) ++ ls) (rest.lines ∙ ap (λ x. lines_from there x (map turn_of es)) left)
                ∙ sym (ap (λ b. lines_of there m (turn_of e) ++ (if b then [] else lines_from there k (map turn_of es))) is_there);
            mesh = ap (λ b. if b then n else mesh_after_all here n (map turn_of es)) is
                ∙ rest.mesh ∙ ap (λ x. mesh_after_all there x (map turn_of es)) left
                ∙ sym (ap (λ b. if b then k else mesh_after_all there k (map turn_of es)) is_there);
          }

fit_wanted : (fields : Known) → HaveOneAnswer fields → (s : State) (wants others : ℕ × ℕ → Want) → IsAnswerToFit fields.may_size true s (Wanted wants) → IsAnswerToFit fields.may_size true s (Wanted others) → fit_effect (Wanted wants) s ≡ fit_effect (Wanted others) s
unfolding fitted_lines fitted_mesh
fit_wanted fields one s wants others a b =
    let alike = are_alike fields one meets_exactly s.set.depth (is_open s.groups) wants others s.mesh (edges s.mesh) a b in
    let lines : fitted_lines wants (edges s.mesh) s ≡ fitted_lines others (edges s.mesh) s = ap (λ ls. PassFit ∷ ls) alike.lines in
    let mesh : fitted_mesh wants (edges s.mesh) s ≡ fitted_mesh others (edges s.mesh) s = alike.mesh in
    λ i. Proceeds (lines i) (after_lines (lines i) (mesh i) s)

fit_alike : (fields : Known) → HaveOneAnswer fields → (s : State) (given other : Answer) → IsAnswerToFit fields.may_size true s given → IsAnswerToFit fields.may_size true s other → fit_effect given s ≡ fit_effect other s
fit_alike fields one s (Wanted wants) (Wanted others) a b = fit_wanted fields one s wants others a b
fit_alike fields one s (Wanted wants) (WantedOfFirst count others) a b = absurd (false≢true (sym b.0))
fit_alike fields one s (Wanted wants) Nothing a b = absurd b
fit_alike fields one s (Wanted wants) NoSuchField a b = absurd b
fit_alike fields one s (Wanted wants) (FieldShifts by) a b = absurd b
fit_alike fields one s (WantedOfFirst count wants) other a b = absurd (false≢true (sym a.0))
fit_alike fields one s Nothing other a b = absurd a
fit_alike fields one s NoSuchField other a b = absurd a
fit_alike fields one s (FieldShifts by) other a b = absurd a

-- ---- any directive

pub effects_alike : (fields : Known) → HaveOneAnswer fields → (s : State) → IsRunInvariant s → (what : Directive) (given other : Answer) → IsAnswer fields true s what given → IsAnswer fields true s what other → effect_of given what s ≡ effect_of other what s
effects_alike fields one s inv (Drive name) given other a b = drive_alike fields one s inv.now.names (place_of fields.names name) given other a b
effects_alike fields one s inv Fit given other a b = fit_alike fields one s given other a b
effects_alike fields one s inv what given other a b = ap (λ (x : Answer). effect_of x what s) (a ∙ sym b)
