-- A parameter that a call reads and changes, as one value of a contract.
use denote.Triple.Both.{Both}
use denote.MutBor.{MutBor}

-- A `&mut` parameter: what it refers to before the call, and after it.
abbrev pub InOut : Type 0 → Type 0
InOut X = Both (MutBor X) (MutBor X)

-- What it refers to before the call.
abbrev pub value_before : {X : Type 0} → InOut X → X
value_before p = p.entry.now

-- What it refers to after the call.
abbrev pub value_after : {X : Type 0} → InOut X → X
value_after p = p.exit.now
