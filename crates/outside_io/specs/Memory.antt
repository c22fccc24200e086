-- What a sink in memory holds and refuses.
use Rattle.std.specs.Prelude.{◌⊎◌, ◌<◌, ℕ, ◌-◌, List, length, Contains}
use Rattle.outside_io.specs.declared.memory_sink.MemorySink.{MemorySink}
use Rattle.outside_io.specs.Causes.{next_count}

-- what was written
abbrev pub bytes_in : MemorySink → List ℕ
bytes_in sink = sink.bytes.items

-- how many bytes it has room for in all
abbrev pub room_of : MemorySink → ℕ
room_of sink = sink.room

-- how many writes there were, failed ones too
abbrev pub writes_of : MemorySink → ℕ
writes_of sink = sink.writes

-- the numbers of the writes that fail, from 1
abbrev pub failing_of : MemorySink → List ℕ
failing_of sink = sink.failing.items

-- how many writes failed
abbrev pub faults_of : MemorySink → ℕ
faults_of sink = sink.faults

-- the list names the next write, or the room left is too small
abbrev pub Refuses : MemorySink → List ℕ → Type 0
Refuses sink bytes =
    Contains (failing_of sink) (next_count (writes_of sink))
    ⊎ (room_of sink - length (bytes_in sink) < length bytes)
