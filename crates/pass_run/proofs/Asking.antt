-- What is asked at its time, and what is left.
use Rattle.std.proofs.Common.{suc, Bool, true, false, cond, ◌≡◌, ℕ, ◌+◌, ◌<◌, ◌≤◌, List, [], ◌∷◌, ◌++◌, Option, Some, None, refl, ap, sym, ◌∙◌, length, drop, get_or, add-one, append_assoc, append-nil}
use Rattle.std.proofs.Math.Seq.{drop-cons}
use Rattle.std.proofs.Math.ListN.{drop_of_length-le}
use Rattle.mesh_base.specs.Mesh.{Mesh}
use Rattle.edit_base.specs.declared.Asked.{Asked}
use Rattle.edit_base.specs.declared.Edit.{Edit}
use Rattle.edit_base.specs.declared.Edit.TheVariants.{Done, No}
use Rattle.edit_base.specs.Clauses.{mesh_after}
use Rattle.log_text.specs.declared.LogLine.{LogLine}
use Rattle.log_replay.specs.Replay.{Replay, replayed, after, at_mesh}
use Rattle.log_replay.proofs.Replaying.{after_then}
use Rattle.pass_run.specs.Candidates.{candidates}
use Rattle.pass_run.specs.PassLines.{PassRules, rules_of, line_of, answer_by, lines_asked, mesh_asked, lines_of, mesh_from, ends, lines_from, mesh_after_all}
use Rattle.pass_run.specs.Promises.{LinesTellTheMesh}
use Rattle.pass_run.specs.Said.{LeadTo}
use Rattle.pass_run.proofs.SaidLines.{ends_then}
use Rattle.edit_any.specs.Dispatch.{edited}

-- the line of an answer makes the mesh that the answer leaves
pub line_makes : (r : Replay) (what : Asked) (answer : Edit) → replayed r (line_of what answer) ≡ record r { mesh = mesh_after edited r.mesh answer }
line_makes r what (Done change) = refl
line_makes r what (No why) = refl

-- lines that make this mesh lead there
pub leads_where : (m end : Mesh) (lines : List LogLine) (to : Mesh) → after (at_mesh m) lines ≡ at_mesh end → to ≡ end → LeadTo lines m to
leads_where m end lines to made is = made ∙ ap at_mesh (sym is)

-- and lead to no other
pub leads_there : (m end : Mesh) (lines : List LogLine) (to : Mesh) → after (at_mesh m) lines ≡ at_mesh end → LeadTo lines m to → to ≡ end
leads_there m end lines to made leads = ap (λ r. r.mesh) (sym leads ∙ made)

-- the lines of what is asked, if anything, make the mesh that it leaves
pub call_makes : (answer : Asked → Edit) (r : Replay) (call : Option Asked) → after r (lines_asked answer call) ≡ record r { mesh = mesh_asked answer r.mesh call }
call_makes answer r (Some what) = line_makes r what (answer what)
call_makes answer r None = refl

module _ (rules : PassRules) where
  abbrev lines : Mesh → List Asked → List LogLine
  lines m all = lines_from rules m all

  abbrev last : Mesh → List Asked → Mesh
  last m all = mesh_after_all rules m all

  -- and so do those of a candidate
  pub asked_makes : (r : Replay) (what : Asked) → after r (lines_of rules r.mesh what) ≡ record r { mesh = mesh_from rules r.mesh what }
  asked_makes r what = call_makes (answer_by rules r.mesh) r (rules.choice r.mesh what)

  -- and so do those of all candidates
  pub lines_make : (r : Replay) (all : List Asked) → after r (lines_from rules r.mesh all) ≡ record r { mesh = mesh_after_all rules r.mesh all }
  lines_make r [] = refl
  lines_make r (what ∷ rest) =
      after_then r (record r { mesh = next }) (record r { mesh = cond (ends rules.grouped here) next (last next rest) }) here (cond (ends rules.grouped here) [] (lines next rest))
      (asked_makes r what) (by_test (ends rules.grouped here) (lines_make (record r { mesh = next }) rest))
    where
      here : List LogLine
      here = lines_of rules r.mesh what

      next : Mesh
      next = mesh_from rules r.mesh what

      by_test : (b : Bool) → after (record r { mesh = next }) (lines next rest) ≡ record r { mesh = last next rest } → after (record r { mesh = next }) (cond b [] (lines next rest)) ≡ record r { mesh = cond b next (last next rest) }
      by_test true e = refl
      by_test false e = e

  -- the lines of some and then of others
  pub lines_then : (m : Mesh) (xs ys : List Asked) → lines_from rules m (xs ++ ys)
      ≡ lines_from rules m xs ++ cond (ends rules.grouped (lines_from rules m xs)) [] (lines_from rules (mesh_after_all rules m xs) ys)
  lines_then m [] ys = by_flag rules.grouped
    where
      by_flag : (b : Bool) → lines m ys ≡ cond (ends b []) [] (lines m ys)
      by_flag true = refl
      by_flag false = refl
  lines_then m (x ∷ xs) ys = by_test (ends rules.grouped here) refl (lines_then next xs ys)
    where
      here : List LogLine
      here = lines_of rules m x

      next : Mesh
      next = mesh_from rules m x

      by_test : (b : Bool) → ends rules.grouped here ≡ b
          → lines next (xs ++ ys) ≡ lines next xs ++ cond (ends rules.grouped (lines next xs)) [] (lines (last next xs) ys)
          → here ++ cond b [] (lines next (xs ++ ys))
          ≡ (here ++ cond b [] (lines next xs)) ++ cond (ends rules.grouped (here ++ cond b [] (lines next xs))) [] (lines (cond b next (last next xs)) ys)
      by_test true e rest = sym (ap (λ l. l ++ cond (ends rules.grouped l) [] (lines next ys)) (append-nil here) ∙ ap (λ b. here ++ cond b [] (lines next ys)) e)
      by_test false e rest =
          ap (λ l. here ++ l) rest ∙ sym (append_assoc here (lines next xs) (cond (ends rules.grouped (lines next xs)) [] (lines (last next xs) ys)))
          ∙ ap (λ b. (here ++ lines next xs) ++ cond b [] (lines (last next xs) ys)) (sym (ends_then rules.grouped here (lines next xs) e))

-- the lines of a pass make the mesh that it leaves
pub pass_makes : LinesTellTheMesh
pass_makes meets r terms = lines_make (rules_of meets terms) r (candidates r.mesh terms.kind)

-- the next of a list, and then the others
pub next_one : {X : Type 0} (items : List X) (i : ℕ) (e : X) → i < length items → e ≡ get_or items i e → drop i items ≡ e ∷ drop (i + 1) items
next_one items i e inside at = drop-cons items i e inside ∙ ap (λ t. t ∷ drop (suc i) items) (sym at) ∙ ap (λ n. e ∷ drop n items) (sym (add-one i))

-- none is left
pub none_left : {X : Type 0} (items : List X) (i : ℕ) → length items ≤ i → drop i items ≡ []
none_left items i over = drop_of_length-le items over
