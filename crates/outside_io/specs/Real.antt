-- How often the real files and the standard output failed.
use Rattle.std.specs.Prelude.{ℕ}
use Rattle.std.specs.declared.io.traits.Read as reads
use Rattle.std.specs.declared.io.traits.Write as writes
use Rattle.std.specs.declared.io.traits.Seek as seeks
use Rattle.outside_io.specs.declared.real.FileDesk.{FileDesk}
use Rattle.outside_io.specs.declared.real.StdSink.{StdSink}

-- R reaches files F and an input I. The parameters behind them are what reading,
-- writing and seeking in these promise.
module _ {R F I : Type 0} {read : reads.Ghosts F} {write : writes.Ghosts F} {seek : seeks.Ghosts F}
    {input : reads.Ghosts I} where
  -- how many fetches and stores failed
  abbrev pub desk_faults : FileDesk R F I read write seek input → ℕ
  desk_faults desk = desk.faults

-- how many writes failed
abbrev pub sink_faults : {P : Type 0} → StdSink P → ℕ
sink_faults sink = sink.faults
