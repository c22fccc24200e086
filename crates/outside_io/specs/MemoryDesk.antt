-- What a desk in memory holds, counts and refuses.
use Rattle.std.specs.Prelude.{ℕ, List, Contains}
use Rattle.outside_io.specs.declared.memory_desk.MemoryDesk.{MemoryDesk}
use Rattle.outside_io.specs.Causes.{next_count}
use Rattle.outside_io.specs.Desk.{Files}
use Rattle.outside_io.specs.Shelf.{files_of}

-- the bytes of each file, by its name
abbrev pub files_in : MemoryDesk → Files
files_in desk = files_of desk.files

-- how many fetches there were, failed ones too
abbrev pub fetches_of : MemoryDesk → ℕ
fetches_of desk = desk.fetches

-- how many stores there were, failed ones too
abbrev pub stores_of : MemoryDesk → ℕ
stores_of desk = desk.stores

-- the numbers of the fetches that fail, from 1
abbrev pub failing_fetches_of : MemoryDesk → List ℕ
failing_fetches_of desk = desk.failing_fetches.items

-- the numbers of the stores that fail, from 1
abbrev pub failing_stores_of : MemoryDesk → List ℕ
failing_stores_of desk = desk.failing_stores.items

-- how many fetches and stores failed
abbrev pub faults_of : MemoryDesk → ℕ
faults_of desk = desk.faults

-- the list names the next fetch
abbrev pub RefusesFetch : MemoryDesk → Type 0
RefusesFetch desk = Contains (failing_fetches_of desk) (next_count (fetches_of desk))

-- the list names the next store
abbrev pub RefusesStore : MemoryDesk → Type 0
RefusesStore desk = Contains (failing_stores_of desk) (next_count (stores_of desk))
