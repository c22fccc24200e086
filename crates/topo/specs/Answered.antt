-- What the program does for its words, and with which outcome it ends.
use Rattle.std.specs.Prelude.{◌≡◌, ◌≤◌, ◌⊎◌, ℕ, List}
use Rattle.outside_io.specs.Causes.{Rose}
use Rattle.outside_io.specs.Sink.{appended, AppendsPart}
use Rattle.track_engine.specs.World.{World}
use Rattle.track_run.specs.declared.outcome.Outcome.{Outcome}
use Rattle.track_run.specs.declared.outcome.Outcome.TheVariants.{Done, NoMemory, SinkFault}

-- the text is written whole
abbrev pub IsTold : List ℕ → Outcome → World → World → Type 0
IsTold text outcome old new =
    (outcome ≡ Done) × (new.holds.written ≡ appended old.holds.written text)

-- or a part of it, and the sink has failed
abbrev pub IsToldInPart : List ℕ → Outcome → World → World → Type 0
IsToldInPart text outcome old new =
    (outcome ≡ SinkFault)
    × AppendsPart old.holds.written new.holds.written text
    × Rose old.sink_faults new.sink_faults

-- The text is written, or a part of it, and nothing else is done.
pub record Tells (text : List ℕ) (outcome : Outcome) (old new : World) : Type 0 where
  pub told : IsTold text outcome old new ⊎ IsToldInPart text outcome old new
  pub files : new.holds.files ≡ old.holds.files
  pub desk : new.desk_faults ≡ old.desk_faults
  pub sink : old.sink_faults ≤ new.sink_faults

-- a text of help is written, or a part of it, and nothing else is done
pub record TellsHelp (outcome : Outcome) (old new : World) : Type 0 where
  pub text : List ℕ
  pub tells : Tells text outcome old new

-- That, or there was no memory for the text, and nothing is done.
abbrev pub HelpsCommand : Outcome → World → World → Type 0
HelpsCommand outcome old new = TellsHelp outcome old new ⊎ ((outcome ≡ NoMemory) × (new ≡ old))
