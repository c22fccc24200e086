-- A save: its line, and then its file.
use Rattle.std.proofs.Common.{◌≡◌, ℕ, List, [], ◌∷◌, Ok, Err, refl, ap, sym, ◌∙◌, subst}
use Rattle.obj_text.specs.Written.{mesh_text}
use Rattle.log_text.specs.declared.LogLine.{LogLine}
use Rattle.log_text.specs.Lines.{text_of_line}
use Rattle.log_replay.specs.Replay.{Replay}
use Rattle.log_write.specs.Written.{Says}
use Rattle.outside_io.specs.Desk.{Files, with_file, SameBut}
use Rattle.outside_io.specs.Sink.{AppendsPart}
use Rattle.outside_io.specs.Outside.{Around, Stores, holds_of, written_of}
use Rattle.outside_io.specs.declared.stop.Stop.{Stop}
use Rattle.outside_io.specs.declared.stop.Stop.TheVariants.{NoMemory, DeskFault, SinkFault}
use Rattle.std.specs.declared.option.Option.{Option}
use Rattle.track_engine.specs.Effects.{mesh_line}
use Rattle.track_engine.specs.Saved.{Target, file_name}
use Rattle.track_engine.specs.Parts.{Saves}
use Rattle.track_engine.specs.World.{StopsIn, IsOpen}
use Rattle.track_engine.proofs.Worlds.{stops_nothing, stops_line, stops_open}

module _ (to : Target) (k : ℕ) (from : Replay) where
  abbrev line : LogLine
  line = mesh_line k from.mesh

  -- nothing is done yet
  pub stops_before : (stop : Stop) (a : Around) → Saves {T = Unit {0}} to k from (holds_of a) (holds_of a) (Err stop)
  stops_before stop a = stops_nothing stop to from (line ∷ []) (holds_of a)

  -- the line is written in part
  pub stops_in_line : (stop : Stop) (a b : Around) → b.world.holds.files ≡ a.world.holds.files → AppendsPart (written_of a) (written_of b) (text_of_line line) → Saves {T = Unit {0}} to k from (holds_of a) (holds_of b) (Err stop)
  stops_in_line stop a b same part =
      let P : Option Files → Type 0 = λ f. StopsIn stop to from (line ∷ []) (holds_of a) (record { files = f; written = written_of b }) in
      subst P (sym same) (stops_line stop to from line [] a.world.holds.files (written_of a) (written_of b) part)

  module _ (a b c : Around) (x : Unit {0}) (said : Says (line ∷ []) a b (Ok x)) (name text : List ℕ) (named : name ≡ file_name to.prefix k) where
    -- the line is written, and its mesh is stored
    pub saves_whole : (y : Unit {0}) → text ≡ mesh_text to.decimals from.mesh → Stores name text b c (Ok y) → Saves to k from (holds_of a) (holds_of c) (Ok y)
    saves_whole y told s = record {
      written = s.written ∙ said.written;
      files = s.stored ∙ ap (λ f. with_file f name text) said.nothing_stored.files ∙ ap (λ n. with_file a.world.holds.files n text) named ∙ ap (λ t. with_file a.world.holds.files (file_name to.prefix k) t) told;
    }

    open_at : (stop : Stop) → Stores name text b c (Err stop) → IsOpen stop (file_name to.prefix k) a.world.holds.files c.world.holds.files
    open_at NoMemory s = s.refused refl ∙ said.nothing_stored.files
    open_at DeskFault s =
        let P : List ℕ → Type 0 = λ n. SameBut n a.world.holds.files c.world.holds.files in
        let Q : Option Files → Type 0 = λ f. SameBut name f c.world.holds.files in
        subst P named (subst Q said.nothing_stored.files (s.others refl))
    open_at SinkFault s = s.no_sink refl

    -- the line is written, and its mesh is not stored
    pub stops_at_store : (stop : Stop) → Stores name text b c (Err stop) → Saves {T = Unit {0}} to k from (holds_of a) (holds_of c) (Err stop)
    stops_at_store stop s = stops_open stop to from k _ _ a.world.holds.files c.world.holds.files (written_of a) (written_of c) (s.written ∙ said.written) (open_at stop s)
