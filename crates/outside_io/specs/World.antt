-- The two sides that a run meets: a desk and a sink.
use Rattle.std.specs.Prelude.{ℕ, List, Option}
use Rattle.outside_io.specs.Desk.{Files}

-- what a desk holds and what a sink was given, where they tell
pub record Contents : Type 0 where
  pub files : Option Files
  pub written : Option (List ℕ)

-- what these two hold, where they tell
abbrev pub contents : {D K : Type 0} → (D → Option Files) → (K → Option (List ℕ)) → D → K → Contents
contents files written desk out = record { files = files desk; written = written out }

-- the same, and how often each has failed
pub record World : Type 0 where
  pub holds : Contents
  pub desk_faults : ℕ
  pub sink_faults : ℕ

-- what they hold, and how often each has failed
abbrev pub world : {D K : Type 0} → (D → Option Files) → (D → ℕ) → (K → Option (List ℕ)) → (K → ℕ) →
    D → K → World
world files desk_faults written sink_faults desk out = record {
  holds = contents files written desk out;
  desk_faults = desk_faults desk;
  sink_faults = sink_faults out;
}
