-- What follows when the file was found, or was not.
use Rattle.std.proofs.Common.{◌≡◌, ℕ, List, Result, Ok, Err, refl, ap, sym, subst, ◌∙◌}
use Rattle.std.specs.declared.option.Option.{Option}
use Rattle.std.specs.declared.option.Option.TheVariants.{None, Some}
use Rattle.std.specs.FinMap.{get}
use Rattle.mesh_base.specs.declared.limits.Scale.{Scale}
use Rattle.log_text.specs.declared.Refusal.{Refusal}
use Rattle.obj_text.specs.Obj.{Lists}
use Rattle.outside_io.specs.declared.stop.Stop.{Stop}
use Rattle.outside_io.specs.declared.stop.Stop.TheVariants.{NoMemory, DeskFault, SinkFault}
use Rattle.outside_io.specs.Desk.{Files, SameBut}
use Rattle.outside_io.specs.Outside.{Around, Counts, OnlyLooks}
use Rattle.outside_io.specs.World.{Contents}
use Rattle.outside_io.proofs.Outsides.{counts_then, counts_stopped}
use Rattle.track_input.specs.Words.{MeshName}
use Rattle.track_convert.specs.declared.file_lists.FileLists.{FileLists}
use Rattle.track_convert.specs.Conversion.{found_by}
use Rattle.track_convert.specs.Finding.{found_view, Finds}
use Rattle.track_convert.specs.Endings.{FilesAtFault, Ends}
use Rattle.track_convert.specs.Headline.{Converts}
use Rattle.track_convert.proofs.Sources.{some_conversion}
use Rattle.track_convert.proofs.Caused.{converts}

same_but : (name : List ℕ) (old new : Option Files) → new ≡ old → SameBut name old new
same_but name None new e = e
same_but name (Some before) None e = sym e
same_but name (Some before) (Some after) e = let same : after ≡ before = cc in λ q ne. ap (λ (f : Files). get f q) same

module _ (scale : Scale) (from to : MeshName) (decimals : ℕ) (a b : Around) where
  -- the file was found
  pub found_ends : (p : Result FileLists Stop) → OnlyLooks a b p → (x found : FileLists) → x ≡ found → Finds scale a.world.holds.files from decimals x → (c : Around) (result : Result (Option Refusal) Stop)
      → Ends to decimals (found_view found) result b.world.holds c.world.holds → Counts b c result → Converts scale from to decimals result a.world c.world
  found_ends p looks x found e finds c result ends counts =
      let P : Contents → Type 0 = λ holds. Ends to decimals (found_view found) result holds c.world.holds in
      let Q : Result Lists Refusal → Type 0 = λ r. Ends to decimals r result a.world.holds c.world.holds in
      converts scale from to decimals a.world c.world finds.conversion result finds.is_conversion
      (subst Q (sym (finds.given ∙ ap found_view e)) (subst P looks.kept ends))
      (counts_then a b c p result looks.counts counts).causes

  -- it was not, and the conversion is stopped
  at_fault : (found : Result Lists Refusal) → b.world.holds.files ≡ a.world.holds.files → FilesAtFault to found a.world.holds.files b.world.holds.files
  at_fault (Ok lists) kept = same_but to.name a.world.holds.files b.world.holds.files kept
  at_fault (Err why) kept = kept

  stopped_so : (stop : Stop) (found : Result Lists Refusal) → b.world.holds ≡ a.world.holds → (stop ≡ SinkFault → ⊥) → Ends to decimals found (Err stop) a.world.holds b.world.holds
  stopped_so NoMemory found kept no_sink = kept
  stopped_so DeskFault found kept no_sink = record { written = ap (λ (h : Contents). h.written) kept; files = at_fault found (ap (λ (h : Contents). h.files) kept) }
  stopped_so SinkFault found kept no_sink = absurd (no_sink refl)

  pub stopped_ends : (stop : Stop) → OnlyLooks {T = FileLists} a b (Err stop) → Converts scale from to decimals (Err stop) a.world b.world
  stopped_ends stop looks =
      let some = some_conversion scale a.world.holds.files from decimals in
      converts scale from to decimals a.world b.world some.0 (Err stop) some.1
      (stopped_so stop (found_by some.0) looks.kept (λ e. looks.no_sink (ap Err e)))
      (counts_stopped a b stop looks.counts).causes
