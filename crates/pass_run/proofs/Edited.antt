-- Edits that are asked for, each in turn.
use Rattle.std.proofs.Common.{◌≡◌, ℕ, suc, ◌+◌, ◌<◌, ◌≤◌, ◌&&◌, Bool, true, false, cond, nat_lt, inl, List, [], ◌∷◌, ◌++◌, length, get_or, drop, Some, Result, Ok, Err, refl, ap, sym, ◌∙◌, append_assoc, append-nil, lit≤, arith}
use Rattle.std.specs.Result.{OnOk}
use Rattle.grid_base.specs.declared.Positions.{Positions}
use Rattle.grid_decided.specs.Decided.{meets_exactly-is_exact}
use Rattle.mesh_base.specs.Mesh.{Mesh, IsSound}
use Rattle.mesh_base.specs.Sides.{IsClosed}
use Rattle.mesh_base.specs.Placements.{IsClearMesh}
use Rattle.edit_base.specs.declared.Asked.{Asked}
use Rattle.edit_base.specs.declared.Edit.{Edit}
use Rattle.edit_base.specs.declared.Edit.TheVariants.{Done, No}
use Rattle.edit_base.specs.Clauses.{mesh_after}
use Rattle.edit_any.specs.Dispatch.{edited}
use Rattle.log_text.specs.Lines.{text_of_line, text_of_lines}
use Rattle.log_text.specs.declared.LogLine.{LogLine}
use Rattle.log_replay.specs.Replay.{at_mesh, mesh_after_lines}
use Rattle.log_replay.specs.Safe.{LinesKeepTheMesh}
use Rattle.log_write.proofs.WrittenLines.{begun_nothing}
use Rattle.outside_io.specs.declared.stop.Stop.{Stop}
use Rattle.outside_io.specs.declared.stop.Stop.TheVariants.{NoMemory}
use Rattle.outside_io.specs.Sink.{appended, AppendsPart}
use Rattle.outside_io.proofs.Outsides.{nothing_unremembered}
use Rattle.pass_run.specs.declared.edits.EditTerms.{EditTerms}
use Rattle.pass_run.specs.declared.passes.PassCount.{PassCount}
use Rattle.pass_run.specs.PassLines.{PassRules, line_of, answer_by, lines_from, mesh_after_all, ends, done_in, refused_in}
use Rattle.pass_run.specs.Results.{Stage, written_at, Keeps, PassResult}
use Rattle.pass_run.specs.Said.{LeadTo}
use Rattle.pass_run.specs.Edits.{edit_rules, edits_exactly, is_no, answers_from, answer_in, lines_told, EditsAreTold}
use Rattle.pass_run.specs.Promises.{EditsTellTheMesh, EditsKeepTheMesh}
use Rattle.pass_run.specs.Again.{EditsAreAgain}
use Rattle.pass_run.proofs.Again.{all_again}
use Rattle.pass_run.proofs.Asking.{line_makes, lines_make, leads_where, leads_there, next_one, none_left}
use Rattle.pass_run.proofs.Keeping.{all_keep}
use Rattle.pass_run.proofs.Stages.{still_kept, keeps_then, leads_to, one_said, one_in_part}
use Rattle.pass_run.proofs.Turning.{not_over_yet, over_is}

-- ---- one edit

-- its line tells what came of it
pub line_tells : (what : Asked) (answer : Edit) → answer_in (line_of what answer) ≡ Some answer
line_tells what (Done change) = refl
line_tells what (No why) = refl

-- and leads to the mesh that it leaves
pub line_leads : (m to : Mesh) (what : Asked) (answer : Edit) → to ≡ mesh_after edited m answer → LeadTo (line_of what answer ∷ []) m to
line_leads m to what answer is = leads_where m (mesh_after edited m answer) (line_of what answer ∷ []) to (line_makes (at_mesh m) what answer) is

pub led_there : (m to : Mesh) (what : Asked) (answer : Edit) → LeadTo (line_of what answer ∷ []) m to → to ≡ mesh_after edited m answer
led_there m to what answer leads = leads_there m (mesh_after edited m answer) (line_of what answer ∷ []) to (line_makes (at_mesh m) what answer) leads

-- a refused one ends those of a group
ends_by : (grouped : Bool) (what : Asked) (answer : Edit) → ends grouped (line_of what answer ∷ []) ≡ (grouped && is_no answer)
ends_by grouped what (Done change) = refl
ends_by grouped what (No why) = refl

-- its line is written in part
pub part_here : (what : Asked) (answer : Edit) (line : LogLine) (old new : Stage) (stop : Stop) → line ≡ line_of what answer → new.mesh ≡ mesh_after edited old.mesh answer → AppendsPart (written_at old) (written_at new) (text_of_line line)
    → Keeps {T = PassCount} old new (Err stop) → PassResult (line_of what answer ∷ []) old new (Err stop)
part_here what answer line old new stop is left part keeps =
    one_in_part (line_of what answer ∷ []) line old new stop (ap (λ (l : LogLine). l ∷ []) (sym is)) (line_leads old.mesh new.mesh what answer left) part keeps

-- it is written
pub said_here : (what : Asked) (answer : Edit) (line : LogLine) (old new : Stage) (count : PassCount) → line ≡ line_of what answer → new.mesh ≡ mesh_after edited old.mesh answer → written_at new ≡ appended (written_at old) (text_of_lines (line ∷ []))
    → count.done ≡ done_in (line ∷ []) → count.refused ≡ refused_in (line ∷ []) → Keeps old new (Ok count) → PassResult (line_of what answer ∷ []) old new (Ok count)
said_here what answer line old new count is left written done refused keeps =
    one_said (line_of what answer ∷ []) line old new count (ap (λ (l : LogLine). l ∷ []) (sym is)) (line_leads old.mesh new.mesh what answer left) written done refused keeps

-- memory is wanting behind lines that are written
pub stopped_behind : (lines : List LogLine) (old new : Stage) (count : PassCount) → PassResult lines old new (Ok count) → PassResult lines old new (Err NoMemory)
stopped_behind lines old new count r = record {
  said = record {
    text = record { done = lines; rest = []; split = sym (append-nil lines); part = []; begun = begun_nothing []; written = r.said.1 ∙ ap (appended (written_at old)) (sym (append-nil (text_of_lines lines))) };
    mesh = inl r.said.0;
  };
  done = tt;
  refused = tt;
  keeps = keeps_then old new new (Ok count) (Err NoMemory) r.keeps (still_kept new new (Err NoMemory) refl refl r.keeps.closed r.keeps.clear (nothing_unremembered new.around));
}

-- ---- one after another
module _ (meets : Positions → Bool) (depth : ℕ) (grouped : Bool) where
  abbrev rules : PassRules
  rules = edit_rules meets depth grouped

  -- what is left to be answered, unless they are over
  abbrev pub answers_left : Bool → Mesh → List Asked → List Edit
  answers_left over m rest = cond over [] (answers_from rules m rest)

  nothing_left : (over : Bool) (m : Mesh) → answers_left over m [] ≡ []
  nothing_left true m = refl
  nothing_left false m = refl

  -- none has answered yet
  pub first_left : (m : Mesh) (asked : List Asked) (refused : ℕ) → refused ≡ 0 → answers_left (grouped && nat_lt 0 refused) m asked ≡ answers_from rules m asked
  first_left m asked refused none = ap (λ b. answers_left b m asked) (not_over_yet grouped refused none)

  -- the next one, and then those that are left
  pub next_line : (m : Mesh) (asked : List Asked) (i : ℕ) (what : Asked) → i < length asked → what ≡ get_or asked i what
      → lines_from rules m (drop i asked)
      ≡ (line_of what (answer_by rules m what) ∷ []) ++ cond (ends grouped (line_of what (answer_by rules m what) ∷ [])) [] (lines_from rules (mesh_after_lines m (line_of what (answer_by rules m what) ∷ [])) (drop (i + 1) asked))
  next_line m asked i what low at =
      let line : LogLine = line_of what (answer_by rules m what) in
      ap (lines_from rules m) (next_one asked i what low at)
      ∙ ap (λ n. line ∷ cond (ends grouped (line ∷ [])) [] (lines_from rules n (drop (i + 1) asked))) (sym (ap (λ r. r.mesh) (line_makes (at_mesh m) what (answer_by rules m what))))

  -- all have answered that are asked
  pub told_over : (m : Mesh) (rest : List Asked) (answers all : List Edit) (over : Bool) → over ≡ true → answers ++ answers_left over m rest ≡ all → answers ≡ all
  told_over m rest answers all over e told = sym (append-nil answers) ∙ ap (λ b. answers ++ answers_left b m rest) (sym e) ∙ told

  pub told_all : (m : Mesh) (asked : List Asked) (i : ℕ) (answers all : List Edit) (over : Bool) → length asked ≤ i → answers ++ answers_left over m (drop i asked) ≡ all → answers ≡ all
  told_all m asked i answers all over end told =
      sym (append-nil answers) ∙ ap (λ l. answers ++ l) (sym (nothing_left over m)) ∙ ap (λ l. answers ++ answers_left over m l) (sym (none_left asked i end)) ∙ told

  -- one more has answered
  pub told_on : (m next : Mesh) (asked : List Asked) (i : ℕ) (what : Asked) → i < length asked → what ≡ get_or asked i what
      → (answers more all : List Edit) (count new counted : ℕ) → (grouped && nat_lt 0 count) ≡ false → new ≡ refused_in (line_of what (answer_by rules m what) ∷ []) → counted ≡ count + new
      → LeadTo (line_of what (answer_by rules m what) ∷ []) m next → more ≡ answers ++ answer_by rules m what ∷ [] → answers ++ answers_left (grouped && nat_lt 0 count) m (drop i asked) ≡ all
      → more ++ answers_left (grouped && nat_lt 0 counted) next (drop (i + 1) asked) ≡ all
  told_on m next asked i what low at answers more all count new counted going refused sum leads is told =
      let answer : Edit = answer_by rules m what in
      let rest : List Asked = drop (i + 1) asked in
      let over : (grouped && nat_lt 0 counted) ≡ (grouped && is_no answer) =
      ap (λ n. grouped && nat_lt 0 n) sum ∙ over_is grouped count new (line_of what answer ∷ []) going refused ∙ ends_by grouped what answer in
      ap (λ l. l ++ answers_left (grouped && nat_lt 0 counted) next rest) is
      ∙ ap (λ b. (answers ++ answer ∷ []) ++ answers_left b next rest) over
      ∙ ap (λ n. (answers ++ answer ∷ []) ++ answers_left (grouped && is_no answer) n rest) (led_there m next what answer leads)
      ∙ append_assoc answers (answer ∷ []) (answers_left (grouped && is_no answer) (mesh_after edited m answer) rest)
      ∙ sym (ap (λ l. answers ++ answers_from rules m l) (next_one asked i what low at))
      ∙ sym (ap (λ b. answers ++ answers_left b m (drop i asked)) going)
      ∙ told

-- no more answers than were asked for
pub few_answers : (rules : PassRules) (m : Mesh) (asked : List Asked) → length (answers_from rules m asked) ≤ length asked
few_answers rules m [] = lit≤ tt
few_answers rules m (what ∷ rest) = by_test (rules.grouped && is_no (answer_by rules m what)) (few_answers rules (mesh_after edited m (answer_by rules m what)) rest)
  where
    more : List Edit
    more = answers_from rules (mesh_after edited m (answer_by rules m what)) rest

    by_test : (b : Bool) → length more ≤ length rest → suc (length (cond b [] more)) ≤ suc (length rest)
    by_test true h = omega arith
    by_test false h = omega (arith, h)

-- ---- each answer has its line
none_told : (asked : List Asked) → lines_told asked [] ≡ []
none_told [] = refl
none_told (what ∷ rest) = refl

pub edits_are_told : EditsAreTold
edits_are_told meets depth grouped m [] = refl
edits_are_told meets depth grouped m (what ∷ rest) =
    ap (λ b. line_of what answer ∷ cond b [] (lines_from rules next rest)) (ends_by grouped what answer)
    ∙ ap (λ l. line_of what answer ∷ l) (by_test (grouped && is_no answer) (edits_are_told meets depth grouped next rest))
  where
    rules : PassRules
    rules = edit_rules meets depth grouped

    answer : Edit
    answer = answer_by rules m what

    next : Mesh
    next = mesh_after edited m answer

    by_test : (b : Bool) → lines_from rules next rest ≡ lines_told rest (answers_from rules next rest) → cond b [] (lines_from rules next rest) ≡ lines_told rest (cond b [] (answers_from rules next rest))
    by_test true e = sym (none_told rest)
    by_test false e = e

-- ---- what the lines promise
pub edits_tell : EditsTellTheMesh
edits_tell meets r depth grouped asked = lines_make (edit_rules meets depth grouped) r asked

pub edits_keep : EditsKeepTheMesh
edits_keep meets exact r depth grouped asked good = all_keep (edit_rules meets depth grouped) exact r good asked

-- by the exact test
pub lines_keep : (terms : EditTerms) (m : Mesh) (asked : List Asked) → IsSound m → IsClosed m → IsClearMesh m → LinesKeepTheMesh (at_mesh m) (lines_from (edits_exactly terms) m asked)
lines_keep terms m asked sound closed clear = (all_keep (edits_exactly terms) meets_exactly-is_exact (at_mesh m) (record { sound = sound; closed = closed; clear = clear }) asked).0

-- where all are said, the mesh is what they make
pub edits_end : (terms : EditTerms) (asked : List Asked) (old new : Stage) (r : Result PassCount Stop) → PassResult (lines_from (edits_exactly terms) old.mesh asked) old new r → OnOk r (new.mesh ≡ mesh_after_all (edits_exactly terms) old.mesh asked)
edits_end terms asked old new r said =
    leads_to (lines_from (edits_exactly terms) old.mesh asked) (mesh_after_all (edits_exactly terms) old.mesh asked) old new r (lines_make (edits_exactly terms) (at_mesh old.mesh) asked) said

pub edits_again : EditsAreAgain
edits_again meets exact r depth grouped asked most = all_again (edit_rules meets depth grouped) exact most r asked
