-- What a fetch found.
use Rattle.outside_io.specs.declared.outside.Fetched.{Fetched}
use Rattle.outside_io.specs.declared.outside.Fetched.TheVariants as found
use Rattle.track_input.specs.Source.{Source, Bytes, Absent, TooLong}

-- the same in the words of a job
abbrev pub source_of : Fetched → Source
source_of (found.Bytes bytes) = Bytes bytes.items
source_of found.Absent = Absent
source_of (found.TooLong seen) = TooLong seen
