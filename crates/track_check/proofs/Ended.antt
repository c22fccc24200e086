-- What follows when the file was found, or was not; and when the text is written, or not all of it.
use Rattle.std.proofs.Common.{◌≡◌, ℕ, List, Result, Ok, Err, refl, ap, sym, subst, ◌∙◌}
use Rattle.std.specs.declared.option.Option.{Option}
use Rattle.mesh_base.specs.declared.limits.Scale.{Scale}
use Rattle.log_text.specs.declared.Refusal.{Refusal}
use Rattle.obj_text.specs.Obj.{Lists}
use Rattle.outside_io.specs.declared.stop.Stop.{Stop}
use Rattle.outside_io.specs.declared.stop.Stop.TheVariants.{NoMemory, DeskFault, SinkFault}
use Rattle.outside_io.specs.Outside.{Around, Counts, OnlyLooks, Puts}
use Rattle.outside_io.specs.Sink.{appended, AppendsPart}
use Rattle.outside_io.specs.World.{Contents}
use Rattle.outside_io.proofs.Outsides.{counts_then, counts_stopped}
use Rattle.track_input.specs.Words.{MeshName}
use Rattle.track_check.specs.declared.file_lists.FileLists.{FileLists}
use Rattle.track_check.specs.Check.{found_by, text_told, ending_told}
use Rattle.track_check.specs.Finding.{found_view, Finds}
use Rattle.track_check.specs.Endings.{Ends}
use Rattle.track_check.specs.Headline.{Checks}
use Rattle.track_check.proofs.Sources.{some_check}
use Rattle.track_check.proofs.Caused.{checks}

-- ---- the text of lists is put
module _ (scale : Scale) (lists : Lists) (text : List ℕ) (is : text ≡ text_told scale (Ok lists)) (a b : Around) where
  pub told : {u : Unit {0}} (ending : Option Refusal) → ending ≡ ending_told scale (Ok lists) → Puts text a b (Ok u) → Ends scale (Ok lists) (Ok ending) a.world.holds b.world.holds
  told ending e p = record { ending_is = e; written = p.whole ∙ ap (appended a.world.holds.written) is; files = p.files }

  pub told_in_part : (stop : Stop) → Puts text a b (Err stop) → Ends scale (Ok lists) (Err stop) a.world.holds b.world.holds
  told_in_part NoMemory p = absurd (let e : NoMemory ≡ SinkFault = p.fault in cc)
  told_in_part DeskFault p = absurd (let e : DeskFault ≡ SinkFault = p.fault in cc)
  told_in_part SinkFault p = record { written = (let Q : List ℕ → Type 0 = λ t. AppendsPart a.world.holds.written b.world.holds.written t in subst Q is p.part); files = p.files }

-- ---- the file was found, or was not
module _ (scale : Scale) (mesh : MeshName) (decimals : ℕ) (a b : Around) where
  pub found_ends : (p : Result FileLists Stop) → OnlyLooks a b p → (x found : FileLists) → x ≡ found → Finds scale a.world.holds.files mesh decimals x → (c : Around) (result : Result (Option Refusal) Stop)
      → Ends scale (found_view found) result b.world.holds c.world.holds → Counts b c result → Checks scale mesh decimals result a.world c.world
  found_ends p looks x found e finds c result ends counts =
      let P : Contents → Type 0 = λ holds. Ends scale (found_view found) result holds c.world.holds in
      let Q : Result Lists Refusal → Type 0 = λ r. Ends scale r result a.world.holds c.world.holds in
      checks scale mesh decimals a.world c.world finds.check result finds.is_check
      (subst Q (sym (finds.given ∙ ap found_view e)) (subst P looks.kept ends))
      (counts_then a b c p result looks.counts counts).causes

  stopped_so : (stop : Stop) (found : Result Lists Refusal) → b.world.holds ≡ a.world.holds → (stop ≡ SinkFault → ⊥) → Ends scale found (Err stop) a.world.holds b.world.holds
  stopped_so NoMemory found kept no_sink = kept
  stopped_so DeskFault found kept no_sink = kept
  stopped_so SinkFault found kept no_sink = absurd (no_sink refl)

  pub stopped_ends : (stop : Stop) → OnlyLooks {T = FileLists} a b (Err stop) → Checks scale mesh decimals (Err stop) a.world b.world
  stopped_ends stop looks =
      let some = some_check scale a.world.holds.files mesh decimals in
      checks scale mesh decimals a.world b.world some.0 (Err stop) some.1
      (stopped_so stop (found_by some.0) looks.kept (λ e. looks.no_sink (ap Err e)))
      (counts_stopped a b stop looks.counts).causes
