-- The lines that a pass may have.
use Rattle.std.specs.Prelude.{⊤, List}
use Rattle.std.specs.List.{AllByRecursion}
use Rattle.log_text.specs.declared.LogLine.{LogLine}
use Rattle.log_text.specs.declared.LogLine.TheVariants.{Pass, PassFit, Did, No}

-- the line of a pass, by edges alike or by a sizing, of a done edit, or of one that is not done
abbrev pub IsOfPass : LogLine → Type 0
IsOfPass (Pass kind) = ⊤
IsOfPass PassFit = ⊤
IsOfPass (Did change) = ⊤
IsOfPass (No what why) = ⊤
IsOfPass _ = ⊥

-- each of the lines is one that a pass may have
abbrev pub AreOfPass : List LogLine → Type 0
AreOfPass lines = AllByRecursion IsOfPass lines
