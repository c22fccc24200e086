-- Faults that are put at the end of a list.
use Rattle.std.specs.Prelude.{◌≡◌, ℕ, List, ◌++◌, take, Result, OnOk, Vec}
use Rattle.mesh_base.specs.declared.faults.ShapeFault.{ShapeFault}

-- where there was memory, these stand behind those from before, as far as the first so many go
abbrev pub Adds : {A E Z : Type 0} → ℕ → Result A E → Vec ShapeFault Z → Vec ShapeFault Z →
    List ShapeFault → Type 0
Adds most result old new faults =
    OnOk result (take most new.items ≡ take most (old.items ++ faults))
