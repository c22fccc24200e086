-- One of a list, if it passes.
use Rattle.std.specs.Prelude.{Bool, Option, Some, None, if◌then◌else◌}

-- it, if there is one and it passes
abbrev pub pick : {X : Type 0} → (X → Bool) → Option X → Option X
pick test None = None
pick test (Some x) = if test x then Some x else None
