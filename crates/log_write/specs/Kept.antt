-- What is kept of the lines that were told.
use Rattle.std.specs.Prelude.{ℕ, Bool, true, false, List, Option, Some, None, []}
use Rattle.log_text.specs.declared.LogLine.{LogLine}
use Rattle.log_text.specs.Lines.{text_of_lines}
use Rattle.outside_io.specs.Outside.{Around}
use Rattle.log_write.specs.declared.kept.KeptLines.{KeptLines}

-- the lines that are kept
abbrev pub lines_in : KeptLines → List LogLine
lines_in kept = kept.lines.items

-- whether lines are kept
abbrev pub keeps : KeptLines → Bool
keeps kept = kept.keeps

-- the text of lines, where they are kept
abbrev pub text_where : Bool → List LogLine → Option (List ℕ)
text_where true lines = Some (text_of_lines lines)
text_where false lines = None

-- the text of the lines that were told, where they are kept
abbrev pub told_in : KeptLines → Option (List ℕ)
told_in kept = text_where kept.keeps kept.lines.items

-- the text that was made of the first of them
abbrev pub text_in : KeptLines → List ℕ
text_in kept = kept.text.items

-- how often it has failed
abbrev pub faults_in : KeptLines → ℕ
faults_in kept = kept.faults

-- two sides that have no files, and whose sink tells the text of lines, where they are kept
abbrev pub around_of : Bool → List LogLine → ℕ → Around
around_of kept lines faults = record {
  sides = (0, 0);
  world = record {
    holds = record { files = None; written = text_where kept lines };
    desk_faults = 0;
    sink_faults = faults;
  };
}

-- what is outside, where lines are kept
abbrev pub around_kept : KeptLines → Around
around_kept kept = around_of kept.keeps kept.lines.items kept.faults

-- the lines, or none
abbrev pub lines_where : Bool → List LogLine → List LogLine
lines_where true lines = lines
lines_where false lines = []
