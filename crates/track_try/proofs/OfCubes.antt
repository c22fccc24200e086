-- The job of cubes may be run, and its summary is that of its log.
use Rattle.std.proofs.Common.{◌≡◌, ℕ, suc, ◌+◌, ◌*◌, ◌^◌, ◌<◌, ◌≤◌, List, [], ◌∷◌, ◌++◌, map, length, refl, sym, ap, ◌∙◌, subst, arith, None, length-append}
use Rattle.std.specs.Prelude.{◌≢◌, Vec, Result, Ok, Err, IfOk, IfErr}
use Rattle.std.specs.declared.option.Option.{Option}
use Rattle.std.specs.List.{AllByRecursion, enumerate_from, range_with_len}
use Rattle.std.proofs.lemmas.Bool.{false≢true}
use Rattle.std.proofs.lemmas.List.{length-map}
use Rattle.std.proofs.lemmas.List.FromFn.{length-map-range_with_len}
use Rattle.grid_base.specs.declared.grid.Point.{Point}
use Rattle.grid_base.specs.declared.grid.Shift.{Shift}
use Rattle.grid_base.specs.Points.{position_of, point_at}
use Rattle.grid_base.proofs.PointLaws.{point_at-position_of}
use Rattle.mesh_base.specs.declared.MeshLists.{MeshLists}
use Rattle.mesh_base.specs.declared.limits.Scale.TheVariants.{Standard}
use Rattle.mesh_base.specs.Given.{mesh_of}
use Rattle.mesh_base.specs.Mesh.{Mesh}
use Rattle.mesh_base.specs.Valid.{IsValidSurface}
use Rattle.mesh_base.proofs.ListedPairs.{all_joined}
use Rattle.mesh_shape.specs.Shape.{shape_fault}
use Rattle.obj_text.specs.Obj.{Lists}
use Rattle.obj_text.specs.Views.{lists_view}
use Rattle.edit_base.specs.declared.PassKind.TheVariants as pass
use Rattle.step_text.specs.Ranges.{AreInRange}
use Rattle.step_text.specs.declared.Directive.{Directive}
use Rattle.step_text.specs.declared.Directive.TheVariants.{ShiftOne, Step, Pass, Fit, Save}
use Rattle.step_text.specs.declared.Placed.{Placed}
use Rattle.mesh_make.specs.Cubes.{IsRow, cubes_lists, cubes_mesh}
use Rattle.mesh_make.specs.CubeSteps.{cube_shift, cube_with, shifts_in, step_of, cubes_directives, cubes_steps}
use Rattle.mesh_make.proofs.Growing.{cubes-few}
use Rattle.mesh_make.proofs.Shape.{cubes_are_sound, cubes_are_closed, cubes_have_no_fault}
use Rattle.mesh_make.proofs.Clear.{cubes_are_clear}
use Rattle.mesh_make.proofs.Ranges.{steps_in_range}
use Rattle.outside_io.specs.declared.stop.Stop.{Stop}
use Rattle.outside_io.specs.declared.stop.Stop.TheVariants.{DeskFault, SinkFault}
use Rattle.outside_io.specs.Outside.{Around, Puts, StoresNothing}
use Rattle.outside_io.specs.Sink.{AppendsPart}
use Rattle.outside_io.proofs.Written.{appended-nil}
use Rattle.track_engine.specs.Answers.{NoneFits}
use Rattle.track_engine.specs.Answered.{is_fit}
use Rattle.track_try.specs.Summary.{log_of_cubes, counts_of, summary_text, summary_of}
use Rattle.track_try.specs.Told.{counts_in, HasRun}
use Rattle.track_try.proofs.Counts.{counts_told}

-- ---- the mesh

same_points : (points : List Point) → map point_at (map position_of points) ≡ points
same_points [] = refl
same_points (p ∷ points) = ap (λ q. q ∷ map point_at (map position_of points)) (point_at-position_of p) ∙ ap (λ l. p ∷ l) (same_points points)

pub mesh_is : (lists : MeshLists) (n : ℕ) → lists_view lists ≡ cubes_lists n → mesh_of lists.points lists.faces ≡ cubes_mesh n
mesh_is lists n view =
    ap (λ points. mesh_of points lists.faces) (sym (same_points lists.points))
    ∙ ap (λ (l : Lists). mesh_of (map point_at l.points) l.faces) view

pub shape_is : (lists : MeshLists) (n : ℕ) → IsRow n → lists_view lists ≡ cubes_lists n → shape_fault Standard (length lists.points) lists.faces ≡ None
shape_is lists n row view =
    ap (λ k. shape_fault Standard k lists.faces) (sym (length-map lists.points position_of))
    ∙ ap (λ (l : Lists). shape_fault Standard (length l.points) l.faces) view
    ∙ cubes_have_no_fault n row

valid : (n : ℕ) → IsRow n → IsValidSurface (cubes_mesh n)
valid n row = record { sound = cubes_are_sound n row; closed = cubes_are_closed n; clear = cubes_are_clear n row }

pub good_mesh : (n : ℕ) (m : Mesh) → IsRow n → m ≡ cubes_mesh n → IsValidSurface m
good_mesh n m row same = subst IsValidSurface (sym same) (valid n row)

-- ---- the directives

length-on_lines : (k : ℕ) (xs : List Directive) → length (map (λ (d : ℕ × Directive). let p : Placed = record { line = d.0; what = d.1 } in p) (enumerate_from k xs)) ≡ length xs
length-on_lines k [] = refl
length-on_lines k (x ∷ xs) = ap suc (length-on_lines (k + 1) xs)

step_length : (n key step : ℕ) → length (step_of n key step) ≡ 8 * (n * n * n) + 1
step_length n key step =
    let count = length-map-range_with_len (λ v. ShiftOne v (cube_shift key step (cube_with v))) 1 (8 * (n * n * n)) in
    length-append (shifts_in n key step) (Step ∷ []) ∙ ap (λ (k : ℕ). k + 1) count

-- there are few
steps_few : (n key : ℕ) → IsRow n → length (cubes_steps n key) < 2 ^ 31
steps_few n key row =
    let few = cubes-few n row in
    let one = step_of n key 1 in
    let two = step_of n key 2 in
    let three = step_of n key 3 in
    let last = Pass (pass.Split 50) ∷ Save ∷ [] in
    few_of (length-on_lines 1 (cubes_directives n key)) (length-append (one ++ two ++ three) last) (length-append (one ++ two) three) (length-append one two) (step_length n key 1) (step_length n key 2) (step_length n key 3) few
  where
    few_of : {placed whole all both a b c cubes : ℕ} → placed ≡ whole → whole ≡ all + 2 → all ≡ both + c → both ≡ a + b → a ≡ 8 * cubes + 1 → b ≡ 8 * cubes + 1 → c ≡ 8 * cubes + 1 → cubes ≤ 1728 → placed < 2 ^ 31
    few_of o p q r s t u few = omega arith

pub few_steps : (n key : ℕ) (steps : List Placed) → IsRow n → steps ≡ cubes_steps n key → length steps < 2 ^ 31
few_steps n key steps row same = let P : List Placed → Type 0 = λ l. length l < 2 ^ 31 in subst P (sym same) (steps_few n key row)

pub good_steps : (n key : ℕ) (steps : List Placed) → IsRow n → steps ≡ cubes_steps n key → AreInRange steps
good_steps n key steps row same = subst AreInRange (sym same) (steps_in_range n key row)

-- none of them is a pass by a sizing
abbrev IsOther : Directive → Type 0
IsOther d = d ≢ Fit

other_shifts : (f : ℕ → Shift) (vs : List ℕ) → AllByRecursion IsOther (map (λ v. ShiftOne v (f v)) vs)
other_shifts f [] = tt
other_shifts f (v ∷ vs) = (λ e. false≢true (ap is_fit e), other_shifts f vs)

other_step : (n key step : ℕ) → AllByRecursion IsOther (step_of n key step)
other_step n key step =
    all_joined IsOther (shifts_in n key step) (Step ∷ []) (other_shifts (λ v. cube_shift key step (cube_with v)) (range_with_len 1 (8 * (n * n * n)))) (λ e. false≢true (ap is_fit e), tt)

other_directives : (n key : ℕ) → AllByRecursion IsOther (cubes_directives n key)
other_directives n key =
    let one = step_of n key 1 in
    let two = step_of n key 2 in
    let three = step_of n key 3 in
    let both = all_joined IsOther one two (other_step n key 1) (other_step n key 2) in
    let all = all_joined IsOther (one ++ two) three both (other_step n key 3) in
    all_joined IsOther (one ++ two ++ three) (Pass (pass.Split 50) ∷ Save ∷ []) all (λ e. false≢true (ap is_fit e), (λ e. false≢true (ap is_fit e), tt))

others_placed : (k : ℕ) (xs : List Directive) → AllByRecursion IsOther xs → NoneFits (map (λ (d : ℕ × Directive). let p : Placed = record { line = d.0; what = d.1 } in p) (enumerate_from k xs))
others_placed k [] h = tt
others_placed k (x ∷ xs) h = (h.0, others_placed (k + 1) xs h.1)

pub other_steps : (n key : ℕ) (steps : List Placed) → steps ≡ cubes_steps n key → NoneFits steps
other_steps n key steps same = subst NoneFits (sym same) (others_placed 1 (cubes_directives n key) (other_directives n key))

-- ---- the summary

-- by the counts of what a sink was told, and by the mesh at the end
sums_up : (n key : ℕ) (m now : Mesh) (steps : List Placed) (told text : List ℕ) → m ≡ cubes_mesh n → steps ≡ cubes_steps n key → HasRun m steps told now → text ≡ summary_text n key (counts_in told) now → text ≡ summary_of n key
unfolding summary_of
sums_up n key m now steps told text same_mesh same_steps run is =
    let P : Mesh → Type 0 = λ m. HasRun m (cubes_steps n key) told now in
    let Q : List Placed → Type 0 = λ l. HasRun m l told now in
    let ran = subst P same_mesh (subst Q same_steps run) in
    let counts : counts_in told ≡ counts_of (log_of_cubes n key) = ap counts_in ran.log ∙ counts_told (log_of_cubes n key) in
    is ∙ ap (λ c. summary_text n key c now) counts ∙ ap (summary_text n key (counts_of (log_of_cubes n key))) ran.mesh

-- of what a call gives, where it gives something
pub summed : {Z E : Type 0} (n key : ℕ) (m now : Mesh) (steps : List Placed) (told : List ℕ) (r : Result (Vec ℕ Z) E) → m ≡ cubes_mesh n → steps ≡ cubes_steps n key → HasRun m steps told now
    → IfOk r (λ text. text.items ≡ summary_text n key (counts_in told) now) → IfOk r (λ text. text.items ≡ summary_of n key)
summed n key m now steps told (Ok text) same_mesh same_steps run is = sums_up n key m now steps told text.items same_mesh same_steps run is
summed n key m now steps told (Err e) same_mesh same_steps run is = tt

-- it is not empty
some_summary : (n key : ℕ) → 0 < length (summary_of n key)
unfolding summary_of
some_summary n key = omega arith

-- so nothing is a part of it
pub nothing_of_summary : (n key : ℕ) (held : Option (List ℕ)) → AppendsPart held held (summary_of n key)
nothing_of_summary n key held = (0, some_summary n key, sym (appended-nil held))

-- ---- where it is put

no_desk_fault : (r : Result (Unit {0}) Stop) → IfErr r (λ stop. stop ≡ SinkFault) → r ≡ Err DeskFault → ⊥
no_desk_fault (Ok u) fault e = absurd cc
no_desk_fault (Err stop) fault e = absurd cc

-- nothing is stored
pub put_quietly : (bytes : List ℕ) (a b : Around) (r : Result (Unit {0}) Stop) → Puts bytes a b r → StoresNothing a b r
put_quietly bytes a b r p = record { files = p.files; desk = p.desk; no_desk = no_desk_fault r p.fault; counts = p.counts }
