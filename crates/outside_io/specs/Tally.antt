-- What a sink that counts was given, and how many files a desk that counts was given.
use Rattle.std.specs.Prelude.{ℕ, List}
use Rattle.outside_io.specs.declared.tally.TallySink.{TallySink}
use Rattle.outside_io.specs.declared.tally.TallyDesk.{TallyDesk}

-- the text that it was given
abbrev pub told_to : TallySink → List ℕ
told_to sink = sink.told.text

-- how many files were stored
abbrev pub stored_on : TallyDesk → ℕ
stored_on desk = desk.stores
