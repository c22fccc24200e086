-- What is wanted of the edges of a pass by a sizing, and what its lines keep.
use Rattle.std.proofs.Common.{◌≡◌, ℕ, Bool, true, false, cond, is_ok, List, [], ◌∷◌, ◌++◌, map, Option, None, Result, Ok, Err, ℤ, refl, ap, sym, subst, ◌∙◌, append-nil}
use Rattle.std.specs.List.{AllByRecursion}
use Rattle.std.specs.List.Sorted.{IsStrictlySortedBy}
use Rattle.std.specs.Ordering.{is_eq, eq_by_cmp}
use Rattle.std.specs.declared.cmp.Ordering.TheVariants.{Less}
use Rattle.std.specs.Cmp.{eq_by_cmp_equiv}
use Rattle.std.proofs.lemmas.Bool.{false≢true}
use Rattle.std.proofs.lemmas.Map.Keys.{sorted_head, sorted_tail}
use Rattle.grid_base.specs.declared.Point.{Point}
use Rattle.grid_base.specs.Points.{position_of, point_at}
use Rattle.grid_base.specs.Triples.{floor_mid_of}
use Rattle.grid_base.proofs.PointLaws.{point_at-position_of}
use Rattle.grid_decided.specs.Decided.{meets_exactly, meets_exactly-is_exact}
use Rattle.mesh_base.specs.Mesh.{Mesh, IsSound}
use Rattle.mesh_base.specs.Sides.{IsClosed}
use Rattle.mesh_base.specs.Placements.{IsClearMesh, point_of}
use Rattle.mesh_base.specs.Pairs.{edges, is_edge}
use Rattle.mesh_base.specs.SideList.{edge_cmp}
use Rattle.mesh_base.specs.Valid.{IsValidSurface}
use Rattle.mesh_base.proofs.InOrder.{edges_sorted, edge_total}
use Rattle.mesh_sizing.specs.declared.sizing.Band.{Band}
use Rattle.mesh_sizing.specs.declared.sizing.Want.{Want}
use Rattle.mesh_sizing.specs.declared.sizing.Want.TheVariants.{Leave}
use Rattle.mesh_sizing.specs.Sizes.{want_of}
use Rattle.edit_base.specs.declared.Asked.{Asked}
use Rattle.log_text.specs.declared.LogLine.{LogLine}
use Rattle.log_text.specs.declared.LogLine.TheVariants as line
use Rattle.log_replay.specs.Replay.{after, at_mesh}
use Rattle.log_replay.specs.Safe.{LinesKeepTheMesh}
use Rattle.outside_io.specs.declared.stop.Stop.{Stop}
use Rattle.pass_run.specs.declared.passes.PassCount.{PassCount}
use Rattle.pass_run.specs.Candidates.{length_squared}
use Rattle.pass_run.specs.PassLines.{PassRules, lines_asked, mesh_asked, ends, lines_from}
use Rattle.pass_run.specs.Results.{Stage, written_at, PassResult, exact_answer}
use Rattle.pass_run.specs.Turns.{lines_at_turns, AreChosen}
use Rattle.pass_run.specs.Fits.{call_of, call_in, turn_of, fit_rules, middle_of, IsWanted, AreWanted, Calls, MayCall, AreFitLines, Fits, mesh_after_fit}
use Rattle.pass_run.proofs.Asking.{lines_make}
use Rattle.pass_run.proofs.Keeping.{all_keep}
use Rattle.pass_run.proofs.Stages.{leads_to}

-- ---- what is wanted of one edge
pub calls_it : (may_answer : Point → Band → Type 0) (m : Mesh) (a b : ℕ) (want found : Want) (band : Band) (square : ℤ) (middle : Point) → middle ≡ middle_of m (a, b) → may_answer middle band
    → found ≡ want_of band square → square ≡ length_squared m a b → found ≡ want → (call : Option Asked) → call ≡ call_in m want (a, b) → Calls may_answer m (a, b) call
calls_it may_answer m a b want found band square middle at answer value exact is call asked = record {
  want = want;
  wanted = λ stands. record {
    band = band;
    answer = subst (λ p. may_answer p band) at answer;
    value = sym is ∙ value ∙ ap (want_of band) exact;
  };
  value = asked;
}

-- an edge that stands
pub called_where : (m : Mesh) (a b : ℕ) (want : Want) → is_edge m a b ≡ true → call_of want (a, b) ≡ call_in m want (a, b)
called_where m a b want stands = sym (ap (λ t. cond t (call_of want (a, b)) None) stands)

-- and one that does not
pub nothing_called : (may_answer : Point → Band → Type 0) (m : Mesh) (a b : ℕ) → is_edge m a b ≡ false → Calls may_answer m (a, b) None
nothing_called may_answer m a b gone = record {
  want = Leave;
  wanted = λ stands. absurd (false≢true (sym gone ∙ stands));
  value = sym (ap (λ t. cond t (call_of Leave (a, b)) None) gone);
}

-- the middle of two points, as it is computed
pub middle_is : (m : Mesh) (a b : ℕ) (p q r : Point) → p ≡ point_of m a → q ≡ point_of m b → position_of r ≡ floor_mid_of (position_of p) (position_of q) → r ≡ middle_of m (a, b)
middle_is m a b p q r at_a at_b is =
    sym (point_at-position_of r) ∙ ap point_at is
    ∙ ap (λ p. point_at (floor_mid_of (position_of p) (position_of q))) at_a
    ∙ ap (λ q. point_at (floor_mid_of (position_of (point_of m a)) (position_of q))) at_b

-- ---- what is wanted of all
-- the same of other edges, and this of one
abbrev with_want : (ℕ × ℕ → Want) → ℕ × ℕ → Want → ℕ × ℕ → Want
with_want wants e want x = cond (eq_by_cmp edge_cmp e x) want (wants x)

here_is : (wants : ℕ × ℕ → Want) (e : ℕ × ℕ) (want : Want) → with_want wants e want e ≡ want
here_is wants e want = ap (λ b. cond b want (wants e)) ((eq_by_cmp_equiv edge_total).refl e)

-- later edges are others
others_are : (wants others : ℕ × ℕ → Want) (e : ℕ × ℕ) (want : Want) (es : List (ℕ × ℕ)) → AllByRecursion (λ x. edge_cmp e x ≡ Less) es → AllByRecursion (λ x. others x ≡ with_want wants e want x) es → AllByRecursion (λ x. others x ≡ wants x) es
others_are wants others e want [] less same = tt
others_are wants others e want (x ∷ es) less same = (same.0 ∙ ap (λ o. cond (is_eq o) want (wants x)) less.0, others_are wants others e want es less.1 same.1)

all_the_same : (wants : ℕ × ℕ → Want) (es : List (ℕ × ℕ)) → AllByRecursion (λ x. wants x ≡ wants x) es
all_the_same wants [] = tt
all_the_same wants (x ∷ es) = (refl, all_the_same wants es)

module _ (may_answer : Point → Band → Type 0) (depth : ℕ) (grouped whole : Bool) where
  abbrev rules : (ℕ × ℕ → Want) → PassRules
  rules wants = fit_rules meets_exactly wants depth grouped

  -- the first edges had their turns, and this was wanted of them
  pub record HadTurns (m : Mesh) (es : List (ℕ × ℕ)) (calls : List (Option Asked)) : Type 0 where
    pub wants : ℕ × ℕ → Want
    pub first : List (ℕ × ℕ)
    pub rest : List (ℕ × ℕ)
    pub split : first ++ rest ≡ es
    pub all : whole ≡ true → rest ≡ []
    pub wanted : (others : ℕ × ℕ → Want) → AllByRecursion (λ x. others x ≡ wants x) es
        → AreWanted may_answer (fit_rules meets_exactly others depth grouped) others m first
        × (lines_at_turns (exact_answer depth) grouped m calls ≡ lines_from (fit_rules meets_exactly others depth grouped) m (map turn_of first))

  pub had_turns : (m : Mesh) (es : List (ℕ × ℕ)) (calls : List (Option Asked)) → IsStrictlySortedBy edge_cmp es → AreChosen (MayCall may_answer) (exact_answer depth) grouped whole m (map turn_of es) calls → HadTurns m es calls
  had_turns m [] [] rise h = record { wants = λ x. Leave; first = []; rest = []; split = refl; all = λ w. refl; wanted = λ others same. (tt, refl) }
  had_turns m [] (call ∷ calls) rise h = absurd h
  had_turns m (e ∷ es) [] rise h = record { wants = λ x. Leave; first = []; rest = e ∷ es; split = refl; all = λ w. absurd (false≢true (sym h ∙ w)); wanted = λ others same. (tt, refl) }
  had_turns m (e ∷ es) (call ∷ calls) rise h = by_test (ends grouped here) refl (λ going. had_turns next es calls (sorted_tail edge_cmp e es rise) (h.1 going))
    where
      here : List LogLine
      here = lines_asked (exact_answer depth m) call

      next : Mesh
      next = mesh_asked (exact_answer depth m) m call

      later : List LogLine
      later = lines_at_turns (exact_answer depth) grouped next calls

      -- where this is wanted of the edge, its turn is the same
      asked_is : (others : ℕ × ℕ → Want) → others e ≡ h.0.want → call ≡ (rules others).choice m (turn_of e)
      asked_is others is = h.0.value ∙ ap (λ w. call_in m w e) (sym is)

      lines_are : (others : ℕ × ℕ → Want) → others e ≡ h.0.want → (firsts : List (ℕ × ℕ)) → here ++ cond (ends grouped here) [] (lines_from (rules others) next (map turn_of firsts)) ≡ lines_from (rules others) m (turn_of e ∷ map turn_of firsts)
      lines_are others is firsts = ap (λ (c : Option Asked). let l = lines_asked (exact_answer depth m) c in l ++ cond (ends grouped l) [] (lines_from (rules others) (mesh_asked (exact_answer depth m) m c) (map turn_of firsts))) (asked_is others is)

      stands_for : (others : ℕ × ℕ → Want) → others e ≡ h.0.want → is_edge m e.0 e.1 ≡ true → IsWanted may_answer m e (others e)
      stands_for others is stands = subst (λ w. IsWanted may_answer m e w) (sym is) (h.0.wanted stands)

      -- and so are those after it
      on_is : (others : ℕ × ℕ → Want) → others e ≡ h.0.want → (firsts : List (ℕ × ℕ)) → (ends grouped here ≡ false → AreWanted may_answer (rules others) others next firsts)
          → ends grouped (lines_asked (exact_answer depth m) ((rules others).choice m (turn_of e))) ≡ false → AreWanted may_answer (rules others) others (mesh_asked (exact_answer depth m) m ((rules others).choice m (turn_of e))) firsts
      on_is others is firsts later =
          subst (λ (c : Option Asked). ends grouped (lines_asked (exact_answer depth m) c) ≡ false → AreWanted may_answer (rules others) others (mesh_asked (exact_answer depth m) m c) firsts) (asked_is others is) later

      by_test : (b : Bool) → ends grouped here ≡ b → (ends grouped here ≡ false → HadTurns next es calls) → HadTurns m (e ∷ es) (call ∷ calls)
      by_test true over on = record {
        wants = λ x. h.0.want;
        first = e ∷ es;
        rest = [];
        split = append-nil (e ∷ es);
        all = λ w. refl;
        wanted = λ others same. (
          (stands_for others same.0, on_is others same.0 es (λ going. absurd (false≢true (sym going ∙ over)))),
          ap (λ b. here ++ cond b [] later) over ∙ sym (ap (λ b. here ++ cond b [] (lines_from (rules others) next (map turn_of es))) over) ∙ lines_are others same.0 es,
        );
      }
      by_test false going on =
          let t = on going in
          record {
            wants = with_want t.wants e h.0.want;
            first = e ∷ t.first;
            rest = t.rest;
            split = ap (λ l. e ∷ l) t.split;
            all = t.all;
            wanted = λ others same.
                let is = same.0 ∙ here_is t.wants e h.0.want in
                let after = t.wanted others (others_are t.wants others e h.0.want es (sorted_head edge_cmp e es rise) same.1) in (
                  (stands_for others is, on_is others is t.first (λ x. after.0)),
                  ap (λ l. here ++ cond (ends grouped here) [] l) after.1 ∙ lines_are others is t.first,
                );
          }

  -- of all edges of a mesh
  pub edges_turned : (m : Mesh) (calls : List (Option Asked)) → AreChosen (MayCall may_answer) (exact_answer depth) grouped whole m (map turn_of (edges m)) calls
      → (end : Mesh) × AreFitLines may_answer meets_exactly depth grouped whole m (line.PassFit ∷ lines_at_turns (exact_answer depth) grouped m calls) end
  edges_turned m calls h =
      let t = had_turns m (edges m) calls (edges_sorted m) h in
      let both = t.wanted t.wants (all_the_same t.wants (edges m)) in (
        mesh_after_fit meets_exactly t.wants depth grouped m t.first,
        record { wants = t.wants; first = t.first; rest = t.rest; split = t.split; all = t.all; wanted = both.0; are = ap (λ l. line.PassFit ∷ l) both.1; leaves = refl },
      )

-- ---- whatever is wanted, the lines keep the mesh
pub fit_keeps : (wants : ℕ × ℕ → Want) (depth : ℕ) (grouped : Bool) (m : Mesh) (turns : List Asked) → IsSound m → IsClosed m → IsClearMesh m → LinesKeepTheMesh (at_mesh m) (line.PassFit ∷ lines_from (fit_rules meets_exactly wants depth grouped) m turns)
fit_keeps wants depth grouped m turns sound closed clear =
    let good : IsValidSurface m = record { sound = sound; closed = closed; clear = clear } in
    ((tt, good), (all_keep (fit_rules meets_exactly wants depth grouped) meets_exactly-is_exact (at_mesh m) good turns).0)

-- ---- the whole pass
module _ (may_answer : Point → Band → Type 0) (depth : ℕ) (grouped : Bool) (old new : Stage) (sound : IsSound old.mesh) (closed : IsClosed old.mesh) (clear : IsClearMesh old.mesh) where
  -- its lines are said
  pub fits_said : (lines : List LogLine) (end : Mesh) (r : Result PassCount Stop) → AreFitLines may_answer meets_exactly depth grouped (is_ok r) old.mesh lines end → PassResult lines old new r → Fits may_answer depth grouped old.mesh new.mesh (written_at old) (written_at new) r
  fits_said lines end r fit result =
      let turns = map turn_of fit.first in
      record {
        lines = lines;
        end = end;
        fit = fit;
        said = result.said;
        mesh = leads_to lines end old new r (ap (after (at_mesh old.mesh)) fit.are ∙ lines_make (fit_rules meets_exactly fit.wants depth grouped) (at_mesh old.mesh) turns ∙ ap at_mesh (sym fit.leaves)) result;
        done = result.done;
        refused = result.refused;
        motions = subst (λ l. LinesKeepTheMesh (at_mesh old.mesh) l) (sym fit.are) (fit_keeps fit.wants depth grouped old.mesh turns sound closed clear);
      }

  -- it stops in its first line
  pub fits_begun : (stop : Stop) → PassResult (line.PassFit ∷ []) old new (Err stop) → Fits may_answer depth grouped old.mesh new.mesh (written_at old) (written_at new) (Err stop)
  fits_begun stop result =
      fits_said (line.PassFit ∷ []) old.mesh (Err stop) (record { wants = λ e. Leave; first = []; rest = edges old.mesh; split = refl; all = λ w. absurd (false≢true w); wanted = tt; are = refl; leaves = refl }) result

-- ---- the same of a pass that stops by another name
module _ {E F : Type 0} (may_answer : Point → Band → Type 0) (depth : ℕ) (grouped : Bool) (from to : Mesh) (old new : Option (List ℕ)) where
  pub fits_counted : (count : PassCount) → Fits {E = E} may_answer depth grouped from to old new (Ok count) → Fits {E = F} may_answer depth grouped from to old new (Ok count)
  fits_counted count f = record { lines = f.lines; end = f.end; fit = f.fit; said = f.said; mesh = f.mesh; done = f.done; refused = f.refused; motions = f.motions }

  pub fits_cut : (stop : E) (fault : F) → Fits may_answer depth grouped from to old new (Err stop) → Fits may_answer depth grouped from to old new (Err fault)
  fits_cut stop fault f = record { lines = f.lines; end = f.end; fit = f.fit; said = f.said; mesh = tt; done = tt; refused = tt; motions = f.motions }
