-- A conversion ends as its cause says.
use Rattle.std.proofs.Common.{◌≡◌, ℕ, ◌≤◌, List, length, Some, None, Result, Ok, Err, refl, ap, sym, subst, ◌∙◌, inl, inr, arith}
use Rattle.std.specs.Prelude.{◌⊎◌}
use Rattle.std.specs.Option.{IsSomeAnd}
use Rattle.std.specs.declared.option.Option.{Option}
use Rattle.std.specs.FinMap.{get}
use Rattle.line_text.specs.declared.TextFault.{TextFault}
use Rattle.mesh_base.specs.declared.FileWord.TheVariants as file
use Rattle.mesh_base.specs.declared.ShapeFault.{ShapeFault}
use Rattle.mesh_base.specs.declared.limits.Scale.{Scale}
use Rattle.mesh_base.specs.Limits.{text_most}
use Rattle.mesh_shape.specs.Shape.{shape_fault}
use Rattle.obj_text.specs.Obj.{Lists}
use Rattle.log_text.specs.declared.Refusal.{Refusal}
use Rattle.log_text.specs.declared.Refusal.TheVariants as refusal
use Rattle.outside_io.specs.declared.stop.Stop.{Stop}
use Rattle.outside_io.specs.declared.stop.Stop.TheVariants.{NoMemory, DeskFault, SinkFault}
use Rattle.outside_io.specs.Desk.{Files}
use Rattle.outside_io.specs.Outside.{HasCauses}
use Rattle.outside_io.specs.World.{World, Contents}
use Rattle.track_input.specs.declared.Format.{Format}
use Rattle.track_input.specs.Source.{Source, Bytes, Absent, TooLong, IsSource}
use Rattle.track_input.specs.Words.{MeshName}
use Rattle.track_convert.specs.Formats.{lists_in}
use Rattle.track_convert.specs.Conversion.{Conversion, IsConversion, found_of_shape, found_of_lists, found_of_file, found_by, refusal_told}
use Rattle.track_convert.specs.Endings.{Ends}
use Rattle.track_convert.specs.Causes.{HasLists, Cause, IsStopped, IsConvertible}
use Rattle.track_convert.specs.Headline.{IsCaused, IsComplete, Converts}

-- ---- what the file gives has its cause

shape_cause : (c : Conversion) (lists : Lists) (o : Option ShapeFault) → HasLists c lists → shape_fault c.scale (length lists.points) lists.faces ≡ o → Cause c (Ok (refusal_told (found_of_shape lists o)))
shape_cause c lists (Some fault) h e = (lists, h, e)
shape_cause c lists None h e = (lists, h, e)

abbrev conversion_with : Scale → Format → ℕ → Source → Conversion
conversion_with scale from decimals source = record { scale = scale; source = source; from = from; decimals = decimals }

lists_cause : (scale : Scale) (from : Format) (decimals : ℕ) (bytes : List ℕ) (r : Result Lists TextFault) → lists_in from decimals bytes ≡ r → Cause (conversion_with scale from decimals (Bytes bytes)) (Ok (refusal_told (found_of_lists scale r)))
lists_cause scale from decimals bytes (Err fault) e = (bytes, refl, e)
lists_cause scale from decimals bytes (Ok lists) e =
    shape_cause (conversion_with scale from decimals (Bytes bytes)) lists (shape_fault scale (length lists.points) lists.faces) (record { bytes = bytes; file = refl; read = e }) refl

file_cause : (scale : Scale) (from : Format) (decimals : ℕ) (source : Source) → Cause (conversion_with scale from decimals source) (Ok (refusal_told (found_of_file scale from decimals source)))
file_cause scale from decimals (TooLong seen) = refl
file_cause scale from decimals Absent = refl
file_cause scale from decimals (Bytes bytes) = lists_cause scale from decimals bytes (lists_in from decimals bytes) refl

whole_cause : (c : Conversion) → Cause c (Ok (refusal_told (found_by c)))
whole_cause c = file_cause c.scale c.from c.decimals c.source

-- ---- and a cause has no other ending

module _ (c : Conversion) where
  source_told : (source : Source) → c.source ≡ source → found_by c ≡ found_of_file c.scale c.from c.decimals source
  source_told source e = ap (found_of_file c.scale c.from c.decimals) e

  lists_told : (lists : Lists) → HasLists c lists → found_by c ≡ found_of_shape lists (shape_fault c.scale (length lists.points) lists.faces)
  lists_told lists h = source_told (Bytes h.bytes) h.file ∙ ap (found_of_lists c.scale) h.read

  pub cause_told : (ending : Option Refusal) → Cause c (Ok ending) → refusal_told (found_by c) ≡ ending
  cause_told None h = ap refusal_told (lists_told h.0 h.1 ∙ ap (found_of_shape h.0) h.2)
  cause_told (Some (refusal.Long file.Mesh seen)) h = ap refusal_told (source_told (TooLong seen) h)
  cause_told (Some (refusal.Long file.Steps seen)) h = absurd h
  cause_told (Some (refusal.Long file.Log seen)) h = absurd h
  cause_told (Some (refusal.Long file.Proof seen)) h = absurd h
  cause_told (Some (refusal.Missing file.Mesh)) h = ap refusal_told (source_told Absent h)
  cause_told (Some (refusal.Missing file.Steps)) h = absurd h
  cause_told (Some (refusal.Missing file.Log)) h = absurd h
  cause_told (Some (refusal.Missing file.Proof)) h = absurd h
  cause_told (Some (refusal.Mesh fault)) h = ap refusal_told (source_told (Bytes h.0) h.1 ∙ ap (found_of_lists c.scale) h.2)
  cause_told (Some (refusal.Shape fault)) h = ap refusal_told (lists_told h.0 h.1 ∙ ap (found_of_shape h.0) h.2)
  cause_told (Some (refusal.Meets pair)) h = absurd h
  cause_told (Some (refusal.Steps fault)) h = absurd h
  cause_told (Some (refusal.StepUse line why)) h = absurd h

  alone : (ending : Option Refusal) → ending ≡ refusal_told (found_by c) → (other : Result (Option Refusal) Stop) → Cause c other → ◌≡◌ {A = Result (Option Refusal) Stop} (Ok ending) other ⊎ IsStopped other ⊎ IsStopped (Ok ending)
  alone ending e (Ok told) h = inl (ap Ok (e ∙ cause_told told h))
  alone ending e (Err fault) h = inr (inl tt)

  pub is_caused : (to : MeshName) (decimals : ℕ) (result : Result (Option Refusal) Stop) (old new : Contents) → Ends to decimals (found_by c) result old new → IsCaused c result
  is_caused to decimals (Ok ending) old new ends = record {
    cause = (let P : Option Refusal → Type 0 = λ o. Cause c (Ok o) in subst P (sym ends.ending_is) (whole_cause c));
    no_other = alone ending ends.ending_is;
  }
  is_caused to decimals (Err fault) old new ends = record { cause = tt; no_other = λ other h. inr (inr tt) }

-- ---- what can be converted is

pub fetched : (scale : Scale) (told : Files) (name bytes : List ℕ) (source : Source) → get told name ≡ Some bytes → length bytes ≤ text_most scale → IsSource scale (Some told) name source → source ≡ Bytes bytes
fetched scale told name bytes (Bytes found) e small h = let same : Some found ≡ Some bytes = sym h.1 ∙ e in let is : found ≡ bytes = cc in ap Bytes is
fetched scale told name bytes Absent e small h = let no : ◌≡◌ {A = Option (List ℕ)} None (Some bytes) = sym h ∙ e in absurd cc
fetched scale told name bytes (TooLong seen) e small h =
    let P : Option (List ℕ) → Type 0 = λ o. IsSomeAnd o (λ bs. seen ≤ length bs) in
    let le : seen ≤ length bytes = subst P e h.2 in
    absurd (omega (arith, h.0))

convertible : (scale : Scale) (files : Option Files) (from : MeshName) (decimals : ℕ) (c : Conversion) → IsConversion scale files from decimals c → IsConvertible scale files from decimals → Cause c (Ok None)
convertible scale files from decimals c is can =
    let P : Option Files → Type 0 = λ f. IsSource scale f from.name c.source in
    let there = fetched scale can.told from.name can.bytes c.source can.file can.small (subst P can.files_are is.source) in
    let read : lists_in c.from c.decimals can.bytes ≡ Ok can.lists = ap (λ f. lists_in f c.decimals can.bytes) is.from_is ∙ ap (λ d. lists_in from.format d can.bytes) is.decimals_are ∙ can.read in
    (can.lists, record { bytes = can.bytes; file = there; read = read }, ap (λ s. shape_fault s (length can.lists.points) can.lists.faces) is.scale_is ∙ can.good)

complete : (scale : Scale) (from to : MeshName) (decimals : ℕ) (old new : World) (c : Conversion) (result : Result (Option Refusal) Stop) → IsConversion scale old.holds.files from decimals c → Ends to decimals (found_by c) result old.holds new.holds → HasCauses old new result → IsComplete scale from decimals result old new
complete scale from to decimals old new c (Ok ending) is ends causes can desk sink = inl (ap Ok (ends.ending_is ∙ cause_told c None (convertible scale old.holds.files from decimals c is can)))
complete scale from to decimals old new c (Err NoMemory) is ends causes can desk sink = inr refl
complete scale from to decimals old new c (Err DeskFault) is ends causes can desk sink = absurd (desk (causes.desk_fault refl))
complete scale from to decimals old new c (Err SinkFault) is ends causes can desk sink = absurd (sink (causes.sink_fault refl))

-- ---- the headline

pub converts : (scale : Scale) (from to : MeshName) (decimals : ℕ) (old new : World) (c : Conversion) (result : Result (Option Refusal) Stop) → IsConversion scale old.holds.files from decimals c → Ends to decimals (found_by c) result old.holds new.holds → HasCauses old new result → Converts scale from to decimals result old new
converts scale from to decimals old new c result is ends causes = record {
  conversion = c;
  is_conversion = is;
  ends = ends;
  caused = is_caused c to decimals result old.holds new.holds ends;
  complete = complete scale from to decimals old new c result is ends causes;
  faults = causes;
}
