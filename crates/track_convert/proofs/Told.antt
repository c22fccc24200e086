-- How a conversion ends when its text is stored and its line is written.
use Rattle.std.proofs.Common.{◌≡◌, ℕ, List, None, Ok, Err, refl, ap, sym, subst, ◌∙◌}
use Rattle.std.specs.declared.option.Option.{Option}
use Rattle.obj_text.specs.Obj.{Lists}
use Rattle.outside_io.specs.declared.stop.Stop.{Stop}
use Rattle.outside_io.specs.declared.stop.Stop.TheVariants.{NoMemory, DeskFault, SinkFault}
use Rattle.outside_io.specs.Desk.{Files}
use Rattle.outside_io.specs.Outside.{Around, Puts}
use Rattle.outside_io.specs.Sink.{appended, AppendsPart}
use Rattle.track_input.specs.Words.{MeshName}
use Rattle.track_convert.specs.Conversion.{converted_line}
use Rattle.track_convert.specs.Endings.{IsStored, Ends}

module _ (to : MeshName) (decimals : ℕ) (lists : Lists) (line : List ℕ) (is : line ≡ converted_line lists) (a b c : Around) (unwritten : b.world.holds.written ≡ a.world.holds.written) (stored : IsStored to decimals lists a.world.holds.files b.world.holds.files) where
  still_stored : c.world.holds.files ≡ b.world.holds.files → IsStored to decimals lists a.world.holds.files c.world.holds.files
  still_stored e = let P : Option Files → Type 0 = λ files. IsStored to decimals lists a.world.holds.files files in subst P (sym e) stored

  -- the line is whole
  pub told : {u : Unit {0}} → Puts line b c (Ok u) → Ends to decimals (Ok lists) (Ok None) a.world.holds c.world.holds
  told p = record {
    ending_is = refl;
    written = p.whole ∙ ap (λ written. appended written line) unwritten ∙ ap (appended a.world.holds.written) is;
    files = still_stored p.files;
  }

  -- the sink fails in it
  in_part : AppendsPart b.world.holds.written c.world.holds.written line → AppendsPart a.world.holds.written c.world.holds.written (converted_line lists)
  in_part part =
      let P : Option (List ℕ) → Type 0 = λ written. AppendsPart written c.world.holds.written line in
      let Q : List ℕ → Type 0 = λ text. AppendsPart a.world.holds.written c.world.holds.written text in
      subst Q is (subst P unwritten part)

  pub told_in_part : (stop : Stop) → Puts line b c (Err stop) → Ends to decimals (Ok lists) (Err stop) a.world.holds c.world.holds
  told_in_part NoMemory p = absurd (let e : NoMemory ≡ SinkFault = p.fault in cc)
  told_in_part DeskFault p = absurd (let e : DeskFault ≡ SinkFault = p.fault in cc)
  told_in_part SinkFault p = record { written = in_part p.part; files = still_stored p.files }
