-- The lines of a pass are in range.
use Rattle.std.proofs.Common.{◌≡◌, ℕ, Bool, true, false, cond, List, [], ◌∷◌, map, take, Option, Some, None, refl, subst}
use Rattle.std.specs.List.{AllByRecursion}
use Rattle.std.proofs.lemmas.List.Elements.{All-from_recursion, All-take, recursion_from_All}
use Rattle.grid_base.specs.declared.Positions.{Positions}
use Rattle.mesh_base.specs.declared.Scale.{Scale}
use Rattle.mesh_base.specs.Mesh.{Mesh, IsSound}
use Rattle.mesh_base.specs.Sides.{IsClosed}
use Rattle.mesh_base.specs.Pairs.{edges, is_edge}
use Rattle.mesh_base.proofs.ListedPairs.{all_joined, all_mapped}
use Rattle.mesh_sizing.specs.declared.sizing.Want.{Want}
use Rattle.mesh_sizing.specs.declared.sizing.Want.TheVariants.{Split, Collapse, Leave}
use Rattle.edit_base.specs.declared.Asked.{Asked}
use Rattle.edit_base.specs.declared.Asked.TheVariants as asked
use Rattle.edit_base.specs.declared.PassKind.{PassKind}
use Rattle.edit_base.specs.declared.answers.Edit.{Edit}
use Rattle.edit_base.specs.declared.answers.Edit.TheVariants.{Done, No}
use Rattle.edit_base.specs.Clauses.{mesh_after}
use Rattle.edit_any.specs.Dispatch.{edited}
use Rattle.edit_any.proofs.Asked.{asked_stays_sound, asked_stays_closed}
use Rattle.log_read.specs.Laws.{IsAskedInRange}
use Rattle.pass_run.specs.Candidates.{candidates, is_due, choice_in}
use Rattle.pass_run.specs.PassLines.{PassRules, rules_of, line_of, answer_by, lines_asked, mesh_asked, lines_of, mesh_from, ends, lines_from, pass_lines}
use Rattle.pass_run.specs.Fits.{call_of, call_in, turn_of, choice_by, fit_rules, fit_lines}
use Rattle.run_laws.specs.Answers.{IsAnswerInRange}
use Rattle.run_laws.specs.Lines.{MayFollow, AreInRange, CandidatesAreInRange, PassLinesAreInRange, FitLinesAreInRange, EditLinesAreInRange}
use Rattle.pass_run.specs.Edits.{itself, edit_rules}
use Rattle.run_laws.proofs.AskedAnswers.{answer_in_range}
use Rattle.run_laws.proofs.Asked.{IsOrdered, edges_listed, asked_in_range}

pub candidates_in_range : CandidatesAreInRange
candidates_in_range m kind sound = All-from_recursion IsAskedInRange (candidates m kind) (asked_in_range m kind sound)

-- a sound and closed mesh
record IsGood (m : Mesh) : Type 0 where
  pub sound : IsSound m
  pub closed : IsClosed m

-- the line of an answer
answer_line : (scale : Scale) (what : Asked) (edit : Edit) → IsAskedInRange what → IsAnswerInRange edit → MayFollow scale (line_of what edit)
answer_line scale what (Done change) asked answer = (answer, tt)
answer_line scale what (No why) asked answer = ((asked, answer), tt)

-- what a kind of pass chooses is its candidate
kind_chooses : (kind : PassKind) (m : Mesh) (what other : Asked) → choice_in kind m what ≡ Some other → IsAskedInRange what → IsAskedInRange other
kind_chooses kind m what other e asked = by_test (is_due m kind what) e
  where
    by_test : (b : Bool) → cond b (Some what) None ≡ Some other → IsAskedInRange other
    by_test true e = let same : what ≡ other = cc in subst IsAskedInRange same asked
    by_test false e = absurd cc

module _ (scale : Scale) (rules : PassRules) (chooses : (m : Mesh) (what other : Asked) → rules.choice m what ≡ Some other → IsAskedInRange what → IsAskedInRange other) where
  -- the mesh that an answer leaves
  left_good : (m : Mesh) → IsGood m → (what : Asked) (edit : Edit) → answer_by rules m what ≡ edit → IsGood (mesh_after edited m edit)
  left_good m good what (Done change) e = record {
    sound = asked_stays_sound rules.meets rules.depth what m change good.sound good.closed e;
    closed = asked_stays_closed rules.meets rules.depth what m change good.sound good.closed e;
  }
  left_good m good what (No why) e = good

  -- a candidate, at its turn
  one_in_range : (m : Mesh) → IsGood m → (what : Asked) → IsAskedInRange what → AllByRecursion (MayFollow scale) (lines_of rules m what) × IsGood (mesh_from rules m what)
  one_in_range m good what asked = by_call (rules.choice m what) refl
    where
      by_call : (call : Option Asked) → rules.choice m what ≡ call → AllByRecursion (MayFollow scale) (lines_asked (answer_by rules m) call) × IsGood (mesh_asked (answer_by rules m) m call)
      by_call (Some other) e =
          let inside = chooses m what other e asked in
          ((answer_line scale other (answer_by rules m other) inside (answer_in_range rules.meets rules.depth other m good.sound good.closed), tt), left_good m good other (answer_by rules m other) refl)
      by_call None e = (tt, good)

  -- all candidates
  all_in_range : (m : Mesh) → IsGood m → (all : List Asked) → AllByRecursion IsAskedInRange all → AllByRecursion (MayFollow scale) (lines_from rules m all)
  all_in_range m good [] asked = tt
  all_in_range m good (what ∷ rest) asked =
      let one = one_in_range m good what asked.0 in
      all_joined (MayFollow scale) (lines_of rules m what) _ one.0
      (by_test (ends rules.grouped (lines_of rules m what)) (all_in_range (mesh_from rules m what) one.1 rest asked.1))
    where
      by_test : (b : Bool) → AllByRecursion (MayFollow scale) (lines_from rules (mesh_from rules m what) rest) → AllByRecursion (MayFollow scale) (cond b [] (lines_from rules (mesh_from rules m what) rest))
      by_test true later = tt
      by_test false later = later

pub pass_in_range : PassLinesAreInRange
pass_in_range scale meets terms m sound closed kind = All-from_recursion (MayFollow scale) (pass_lines meets terms m)
    ((kind, tt), all_in_range scale (rules_of meets terms) (kind_chooses terms.kind) m (record { sound = sound; closed = closed }) (candidates m terms.kind) (asked_in_range m terms.kind sound))

-- ---- a pass by a sizing

-- what is wanted of an edge is asked by the edge's ends
want_asks : (want : Want) (e : ℕ × ℕ) (other : Asked) → call_of want e ≡ Some other → IsOrdered e → IsAskedInRange other
want_asks Split e other is inside = let same : asked.Split e.0 e.1 ≡ other = cc in subst IsAskedInRange same inside
want_asks Collapse e other is inside = let same : asked.Collapse e.0 e.1 ≡ other = cc in subst IsAskedInRange same inside
want_asks Leave e other is inside = absurd cc

edge_asks : (m : Mesh) (want : Want) (e : ℕ × ℕ) (other : Asked) → call_in m want e ≡ Some other → IsOrdered e → IsAskedInRange other
edge_asks m want e other is inside = by_test (is_edge m e.0 e.1) is
  where
    by_test : (b : Bool) → cond b (call_of want e) None ≡ Some other → IsAskedInRange other
    by_test true here = want_asks want e other here inside
    by_test false here = absurd cc

sizing_chooses : (wants : ℕ × ℕ → Want) (m : Mesh) (what other : Asked) → choice_by wants m what ≡ Some other → IsAskedInRange what → IsAskedInRange other
sizing_chooses wants m (asked.Split a b) other e inside = edge_asks m (wants (a, b)) (a, b) other e inside
sizing_chooses wants m (asked.Flip a b) other e inside = absurd cc
sizing_chooses wants m (asked.Collapse a b) other e inside = absurd cc
sizing_chooses wants m (asked.Zip a b c d) other e inside = absurd cc
sizing_chooses wants m (asked.Pinch v) other e inside = absurd cc

module _ (scale : Scale) (meets : Positions → Bool) (wants : ℕ × ℕ → Want) (depth : ℕ) (grouped : Bool) (m : Mesh) (sound : IsSound m) (closed : IsClosed m) where
  -- over edges that are in range
  edges_fit : (es : List (ℕ × ℕ)) → AllByRecursion IsOrdered es → AreInRange scale (fit_lines meets wants depth grouped m es)
  edges_fit es inside = All-from_recursion (MayFollow scale) (fit_lines meets wants depth grouped m es)
      ((tt, tt), all_in_range scale (fit_rules meets wants depth grouped) (sizing_chooses wants) m (record { sound = sound; closed = closed }) (map turn_of es) (all_mapped IsAskedInRange turn_of es inside))

  first_edges : (count : ℕ) → AllByRecursion IsOrdered (take count (edges m))
  first_edges count = recursion_from_All IsOrdered (take count (edges m)) (All-take IsOrdered count (edges m) (All-from_recursion IsOrdered (edges m) (edges_listed m sound)))

pub fit_in_range : FitLinesAreInRange
fit_in_range scale meets wants depth grouped m sound closed =
    (edges_fit scale meets wants depth grouped m sound closed (edges m) (edges_listed m sound), λ count. edges_fit scale meets wants depth grouped m sound closed (take count (edges m)) (first_edges scale meets wants depth grouped m sound closed count))

-- ---- edits that are asked for
itself_asks : (m : Mesh) (what other : Asked) → itself m what ≡ Some other → IsAskedInRange what → IsAskedInRange other
itself_asks m what other e inside = let same : what ≡ other = cc in subst IsAskedInRange same inside

pub edits_in_range : EditLinesAreInRange
edits_in_range scale meets depth grouped m sound closed asked inside = All-from_recursion (MayFollow scale) (lines_from (edit_rules meets depth grouped) m asked)
    (all_in_range scale (edit_rules meets depth grouped) itself_asks m (record { sound = sound; closed = closed }) asked inside)
