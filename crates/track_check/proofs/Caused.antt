-- A check ends as its cause says.
use Rattle.std.proofs.Common.{◌≡◌, ℕ, List, length, Some, None, Result, Ok, Err, refl, ap, sym, subst, ◌∙◌, inl, inr}
use Rattle.std.specs.Prelude.{◌⊎◌}
use Rattle.std.specs.declared.option.Option.{Option}
use Rattle.line_text.specs.declared.TextFault.{TextFault}
use Rattle.mesh_base.specs.declared.FileWord.TheVariants as file
use Rattle.mesh_base.specs.declared.PairName.{PairName}
use Rattle.mesh_base.specs.declared.ShapeFault.{ShapeFault}
use Rattle.mesh_base.specs.declared.limits.Scale.{Scale}
use Rattle.mesh_shape.specs.Shape.{shape_fault}
use Rattle.obj_text.specs.Obj.{Lists}
use Rattle.log_text.specs.declared.Refusal.{Refusal}
use Rattle.log_text.specs.declared.Refusal.TheVariants as refusal
use Rattle.outside_io.specs.declared.stop.Stop.{Stop}
use Rattle.outside_io.specs.declared.stop.Stop.TheVariants.{NoMemory, DeskFault, SinkFault}
use Rattle.outside_io.specs.Desk.{Files}
use Rattle.outside_io.specs.Outside.{HasCauses}
use Rattle.outside_io.specs.World.{World, Contents}
use Rattle.track_input.specs.declared.Format.{Format}
use Rattle.track_input.specs.Job.{mesh_of_lists, met_first}
use Rattle.track_input.specs.Source.{Source, Bytes, Absent, TooLong, IsSource}
use Rattle.track_input.specs.Words.{MeshName}
use Rattle.track_convert.specs.Formats.{lists_in}
use Rattle.track_convert.proofs.Caused.{fetched}
use Rattle.track_check.specs.Check.{Check, IsCheck, found_of_lists, found_of_file, found_by, ending_told}
use Rattle.track_check.specs.Endings.{Ends}
use Rattle.track_check.specs.Causes.{HasLists, Cause, IsStopped, IsReadable}
use Rattle.track_check.specs.Headline.{IsCaused, IsComplete, Checks}
use Rattle.track_check.proofs.Firsts.{ending_by, ending_of_lists}

-- ---- what the file gives has its cause

first_cause : (c : Check) (lists : Lists) (o : Option ShapeFault) (p : Option PairName) → HasLists c lists → shape_fault c.scale (length lists.points) lists.faces ≡ o → met_first (mesh_of_lists c.scale lists) ≡ p → Cause c (Ok (ending_by o p))
first_cause c lists (Some fault) p h e e' = (lists, h, e)
first_cause c lists None (Some pair) h e e' = (lists, h, e, e')
first_cause c lists None None h e e' = (lists, h, e, e')

abbrev check_with : Scale → Format → ℕ → Source → Check
check_with scale format decimals source = record { scale = scale; source = source; format = format; decimals = decimals }

lists_cause : (scale : Scale) (format : Format) (decimals : ℕ) (bytes : List ℕ) (r : Result Lists TextFault) → lists_in format decimals bytes ≡ r → Cause (check_with scale format decimals (Bytes bytes)) (Ok (ending_told scale (found_of_lists r)))
lists_cause scale format decimals bytes (Err fault) e = (bytes, refl, e)
lists_cause scale format decimals bytes (Ok lists) e =
    let c : Check = check_with scale format decimals (Bytes bytes) in
    let P : Option Refusal → Type 0 = λ o. Cause c (Ok o) in
    subst P (sym (ending_of_lists scale lists)) (first_cause c lists (shape_fault scale (length lists.points) lists.faces) (met_first (mesh_of_lists scale lists)) (record { bytes = bytes; file = refl; read = e }) refl refl)

file_cause : (scale : Scale) (format : Format) (decimals : ℕ) (source : Source) → Cause (check_with scale format decimals source) (Ok (ending_told scale (found_of_file format decimals source)))
file_cause scale format decimals (TooLong seen) = refl
file_cause scale format decimals Absent = refl
file_cause scale format decimals (Bytes bytes) = lists_cause scale format decimals bytes (lists_in format decimals bytes) refl

whole_cause : (c : Check) → Cause c (Ok (ending_told c.scale (found_by c)))
whole_cause c = file_cause c.scale c.format c.decimals c.source

-- ---- and a cause has no other ending

module _ (c : Check) where
  source_told : (source : Source) → c.source ≡ source → found_by c ≡ found_of_file c.format c.decimals source
  source_told source e = ap (found_of_file c.format c.decimals) e

  lists_told : (lists : Lists) → HasLists c lists → ending_told c.scale (found_by c) ≡ ending_by (shape_fault c.scale (length lists.points) lists.faces) (met_first (mesh_of_lists c.scale lists))
  lists_told lists h = ap (ending_told c.scale) (source_told (Bytes h.bytes) h.file ∙ ap found_of_lists h.read) ∙ ending_of_lists c.scale lists

  first_told : (lists : Lists) (o : Option ShapeFault) (p : Option PairName) → HasLists c lists → shape_fault c.scale (length lists.points) lists.faces ≡ o → met_first (mesh_of_lists c.scale lists) ≡ p → ending_told c.scale (found_by c) ≡ ending_by o p
  first_told lists o p h e e' = lists_told lists h ∙ ap (λ x. ending_by x (met_first (mesh_of_lists c.scale lists))) e ∙ ap (ending_by o) e'

  pub cause_told : (ending : Option Refusal) → Cause c (Ok ending) → ending_told c.scale (found_by c) ≡ ending
  cause_told None h = first_told h.0 None None h.1 h.2 h.3
  cause_told (Some (refusal.Long file.Mesh seen)) h = ap (ending_told c.scale) (source_told (TooLong seen) h)
  cause_told (Some (refusal.Long file.Steps seen)) h = absurd h
  cause_told (Some (refusal.Long file.Log seen)) h = absurd h
  cause_told (Some (refusal.Long file.Proof seen)) h = absurd h
  cause_told (Some (refusal.Missing file.Mesh)) h = ap (ending_told c.scale) (source_told Absent h)
  cause_told (Some (refusal.Missing file.Steps)) h = absurd h
  cause_told (Some (refusal.Missing file.Log)) h = absurd h
  cause_told (Some (refusal.Missing file.Proof)) h = absurd h
  cause_told (Some (refusal.Mesh fault)) h = ap (ending_told c.scale) (source_told (Bytes h.0) h.1 ∙ ap found_of_lists h.2)
  cause_told (Some (refusal.Shape fault)) h = first_told h.0 (Some fault) (met_first (mesh_of_lists c.scale h.0)) h.1 h.2 refl
  cause_told (Some (refusal.Meets pair)) h = first_told h.0 None (Some pair) h.1 h.2 h.3
  cause_told (Some (refusal.Steps fault)) h = absurd h
  cause_told (Some (refusal.StepUse line why)) h = absurd h

  alone : (ending : Option Refusal) → ending ≡ ending_told c.scale (found_by c) → (other : Result (Option Refusal) Stop) → Cause c other → ◌≡◌ {A = Result (Option Refusal) Stop} (Ok ending) other ⊎ IsStopped other ⊎ IsStopped (Ok ending)
  alone ending e (Ok told) h = inl (ap Ok (e ∙ cause_told told h))
  alone ending e (Err fault) h = inr (inl tt)

  pub is_caused : (result : Result (Option Refusal) Stop) (old new : Contents) → Ends c.scale (found_by c) result old new → IsCaused c result
  is_caused (Ok ending) old new ends = record {
    cause = (let P : Option Refusal → Type 0 = λ o. Cause c (Ok o) in subst P (sym ends.ending_is) (whole_cause c));
    no_other = alone ending ends.ending_is;
  }
  is_caused (Err fault) old new ends = record { cause = tt; no_other = λ other h. inr (inr tt) }

-- ---- what can be read is checked

readable : (scale : Scale) (files : Option Files) (mesh : MeshName) (decimals : ℕ) (c : Check) → IsCheck scale files mesh decimals c → (can : IsReadable scale files mesh decimals) → found_by c ≡ Ok can.lists
readable scale files mesh decimals c is can =
    let P : Option Files → Type 0 = λ f. IsSource scale f mesh.name c.source in
    let there = fetched scale can.told mesh.name can.bytes c.source can.file can.small (subst P can.files_are is.source) in
    let read : lists_in c.format c.decimals can.bytes ≡ Ok can.lists = ap (λ f. lists_in f c.decimals can.bytes) is.format_is ∙ ap (λ d. lists_in mesh.format d can.bytes) is.decimals_are ∙ can.read in
    source_told c (Bytes can.bytes) there ∙ ap found_of_lists read

complete : (scale : Scale) (mesh : MeshName) (decimals : ℕ) (old new : World) (c : Check) (result : Result (Option Refusal) Stop) → IsCheck scale old.holds.files mesh decimals c → Ends scale (found_by c) result old.holds new.holds → HasCauses old new result → IsComplete scale mesh decimals result old new
complete scale mesh decimals old new c (Ok ending) is ends causes can desk sink = inl (ap Ok (ends.ending_is ∙ ap (ending_told scale) (readable scale old.holds.files mesh decimals c is can)))
complete scale mesh decimals old new c (Err NoMemory) is ends causes can desk sink = inr refl
complete scale mesh decimals old new c (Err DeskFault) is ends causes can desk sink = absurd (desk (causes.desk_fault refl))
complete scale mesh decimals old new c (Err SinkFault) is ends causes can desk sink = absurd (sink (causes.sink_fault refl))

-- ---- the headline

pub checks : (scale : Scale) (mesh : MeshName) (decimals : ℕ) (old new : World) (c : Check) (result : Result (Option Refusal) Stop) → IsCheck scale old.holds.files mesh decimals c → Ends scale (found_by c) result old.holds new.holds → HasCauses old new result → Checks scale mesh decimals result old new
checks scale mesh decimals old new c result is ends causes = record {
  check = c;
  is_check = is;
  ends = ends;
  caused = is_caused c result old.holds new.holds (let P : Scale → Type 0 = λ s. Ends s (found_by c) result old.holds new.holds in subst P (sym is.scale_is) ends);
  complete = complete scale mesh decimals old new c result is ends causes;
  faults = causes;
}
