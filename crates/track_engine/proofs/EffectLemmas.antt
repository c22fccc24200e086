-- The names of asked shifts, and a save that stops.
use Rattle.std.proofs.Common.{◌≡◌, ℕ, ◌+◌, ◌<◌, suc, Bool, true, false, cond, length, drop, get_or, add-one, List, [], ◌∷◌, map, Err, refl, ap, sym, ◌∙◌, subst, inr}
use Rattle.std.specs.FinMap as finite
use Rattle.grid_base.specs.declared.Shift.{Shift}
use Rattle.mesh_base.specs.Mesh.{Mesh, is_solid}
use Rattle.mesh_base.specs.Shifts.{Shifts, NameLive, with_shift}
use Rattle.std.proofs.Math.Seq.{drop-cons}
use Rattle.std.specs.List.{AllByRecursion}
use Rattle.step_text.specs.declared.Placed.{Placed}
use Rattle.step_text.specs.Ranges.{IsInRange, AreInRange}
use Rattle.step_text.specs.declared.Directive.{Directive}
use Rattle.step_text.specs.declared.Directive.TheVariants as directive
use Rattle.outside_io.specs.declared.stop.Stop.{Stop}
use Rattle.track_engine.specs.State.{State, standing, no_shifts, still_at}
use Rattle.step_choose.specs.declared.Settings.{Settings}
use Rattle.outside_io.proofs.Written.{appended-nil}
use Rattle.track_engine.specs.Answers.{without_field}
use Rattle.track_engine.specs.Effects.{effect_of, set_effect, mesh_line, summed, all_summed}
use Rattle.track_engine.specs.Saved.{Target}
use Rattle.track_engine.specs.World.{Contents, Logs, StopsIn}
use Rattle.track_engine.specs.Parts.{Takes, Advances}

pub ids_of_sums : (m : Mesh) (by : ℕ → Shift) (asked : Shifts) → map (λ s. s.v) (all_summed m by asked) ≡ map (λ s. s.v) asked
ids_of_sums m by [] = refl
ids_of_sums m by (s ∷ rest) = ap (λ id. id ∷ map (λ x. x.v) (all_summed m by rest)) (by_test (is_solid m s.v)) ∙ ap (λ ids. s.v ∷ ids) (ids_of_sums m by rest)
  where
    by_test : (b : Bool) → (cond b s (with_shift s (summed (by s.v) s))).v ≡ s.v
    by_test true = refl
    by_test false = refl

-- a setting
pub advances_set : (to : Target) (set : Settings) (what : Directive) (s : State) (old : Contents) → effect_of (without_field what) what s ≡ set_effect set s → Takes to (effect_of (without_field what) what s) s (record s { set = set }) old old
advances_set to set what s old goes = record { lines = []; goes = goes; logs = record { written = sym (appended-nil old.written); files = refl }; replay = refl }

-- a save
pub save_whole : (to : Target) (what : Directive) (s : State) (old new : Contents) → what ≡ directive.Save → Logs to (standing s) (mesh_line s.saved s.mesh ∷ []) old new → Takes to (effect_of (without_field what) what s) s (record s { saved = s.saved + 1 }) old new
save_whole to what s old new is logs =
    let P : Directive → Type 0 = λ what. Takes to (effect_of (without_field what) what s) s (record s { saved = s.saved + 1 }) old new in
    subst P (sym is) (record { lines = mesh_line s.saved s.mesh ∷ []; goes = refl; logs = logs; replay = refl })

-- a save that stops in its line, or before its mesh is stored
pub save_part : (stop : Stop) (to : Target) (what : Directive) (s t : State) (old new : Contents) → what ≡ directive.Save → StopsIn stop to (standing s) (mesh_line s.saved s.mesh ∷ []) old new → Advances to (effect_of (without_field what) what s) s t old new (Err stop)
save_part stop to what s t old new is stops =
    let P : Directive → Type 0 = λ what. Advances to (effect_of (without_field what) what s) s t old new (Err stop) in
    subst P (sym is) (inr (record { lines = mesh_line s.saved s.mesh ∷ []; tells = refl; stops = stops }))

-- at first no vertex is asked to move
ids_at_rest : (ids : List ℕ) → map (λ s. s.v) (map still_at ids) ≡ ids
ids_at_rest [] = refl
ids_at_rest (v ∷ ids) = ap (λ l. v ∷ l) (ids_at_rest ids)

pub names_at_first : (m : Mesh) (asked : Shifts) → asked ≡ no_shifts m → NameLive m asked
names_at_first m asked e = ap (λ (l : Shifts). map (λ s. s.v) l) e ∙ ids_at_rest (finite.keys m.points)

-- what holds of each to come holds of the next and of those after it
pub next_one : {X : Type 0} (P : X → Type 0) (xs : List X) (i : ℕ) (x : X) → i < length xs → x ≡ get_or xs i x → AllByRecursion P (drop i xs) → P x × AllByRecursion P (drop (i + 1) xs)
next_one P xs i x h at all =
    subst (AllByRecursion P) (drop-cons xs i x h ∙ ap (λ t. t ∷ drop (suc i) xs) (sym at) ∙ ap (λ n. x ∷ drop n xs) (sym (add-one i))) all

pub range_here : (steps : List Placed) (i : ℕ) (placed : Placed) → i < length steps → placed ≡ get_or steps i placed → AreInRange (drop i steps) → IsInRange placed.what × AreInRange (drop (i + 1) steps)
range_here steps i placed h at ranges = next_one (λ p. IsInRange p.what) steps i placed h at ranges
