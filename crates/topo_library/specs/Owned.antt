-- What is owned where a box is owned as its pointer.
use Rattle.std.specs.Prelude.{Option, Some, None}
use base.Fml.{Fml, ftrue}
use denote.RawPtr.{Ptr}
use Rattle.std.specs.Box.Ownership.{box_owns}
use Rattle.std.specs.Global.{Global}
use Rattle.std.specs.contracts.impls.GlobalAllocator.TheImpl.{ghosts}
use Rattle.topo_library.specs.declared.tracker.Tracker.{Tracker}
use Rattle.topo_library.specs.contracts.tracker.Tracker.{the_row}

-- the box of the value at the pointer, where there is a value
abbrev pub owned_owns : Global → Ptr → Option Tracker → Fml
owned_owns _ _ None = ftrue
owned_owns g p (Some x) = box_owns (ghosts.dealloc_token g) the_row p x
