-- What a step that is chosen and said is.
use Rattle.std.proofs.Common.{◌≡◌, ℕ, ◌+◌, not, List, [], ◌∷◌, ◌++◌, length, Option, None, Ok, Err, refl, ap, sym, ◌∙◌, subst, inr}
use Rattle.grid_decided.specs.Decided.{meets_exactly}
use Rattle.mesh_base.specs.declared.PairName.{PairName}
use Rattle.mesh_base.specs.Mesh.{Mesh}
use Rattle.mesh_base.specs.Shifts.{Shifts}
use Rattle.mesh_base.specs.Failing.{failing}
use Rattle.step_choose.specs.declared.Choice.{Choice}
use Rattle.step_choose.specs.Choice.{Way, way_taken}
use Rattle.step_choose.specs.Chosen.{way_of}
use Rattle.log_text.specs.declared.LogLine.{LogLine}
use Rattle.log_text.specs.declared.LogLine.TheVariants.{Step as StepLine}
use Rattle.log_text.specs.Lines.{text_of_lines}
use Rattle.step_text.specs.declared.Directive.TheVariants.{Step}
use Rattle.outside_io.specs.Sink.{appended}
use Rattle.outside_io.specs.declared.stop.Stop.{Stop}
use Rattle.track_engine.specs.State.{Group, State, still_at, asked_in}
use Rattle.log_write.specs.Written.{WrittenInPart}
use Rattle.log_write.proofs.WrittenLines.{written_then, written_nothing, written_whole, part_then, part_more}
use Rattle.track_engine.specs.Answers.{Nothing}
use Rattle.track_engine.specs.Effects.{Proceeds, effect_of, step_effect, first_outside, hits, taken, moved_mesh, all_still, is_whole, fail_if, hit_lines, way_lines, step_lines, after_step}
use Rattle.track_engine.specs.Invariant.{IsRunInvariant}
use Rattle.track_engine.specs.Parts.{StepTakes}
use Rattle.track_engine.specs.Told.{step_told}
use Rattle.track_engine.specs.declared.told.StepTold.{StepTold}
use Rattle.track_engine.proofs.AskedLemmas.{none_in}
use Rattle.track_engine.proofs.Keeping.{kept_after}
use Rattle.track_engine.proofs.StepLemmas.{still_is}

still_again : (asked : Shifts) → all_still (all_still asked) ≡ all_still asked
still_again [] = refl
still_again (s ∷ rest) = ap (λ l. still_at s.v ∷ l) (still_again rest)

hits_are : (s : State) (pairs : List PairName) → pairs ≡ failing meets_exactly s.mesh s.asked s.set.depth → pairs ≡ hits s
unfolding hits
hits_are s pairs e = e

way_is : (s : State) (way : Way) → way ≡ way_taken meets_exactly s.mesh s.asked s.set → way ≡ taken s
unfolding taken
way_is s way e = e

-- the line that tells that a step begins
abbrev pub begin_line : State → List LogLine
begin_line s = StepLine (s.steps + 1) ∷ []

-- ---- a step that stops before it is chosen

module _ (s : State) (inside : first_outside s.mesh s.asked ≡ None) where
  goes : effect_of Nothing Step s ≡ Proceeds (step_lines s) (after_step s)
  goes = ap (λ o. step_effect o s) inside

  abbrev others : List LogLine
  others = hit_lines (hits s) ++ way_lines (taken s)

  -- its first line is written in part
  pub step_begins_in_part : (t : State) (stop : Stop) (old new : Option (List ℕ)) → WrittenInPart old new (begin_line s) → StepTakes s t old new (Err stop)
  step_begins_in_part t stop old new part = inr (goes, part_more old new (begin_line s) others part)

  -- its first line is written
  pub step_begins : (t : State) (stop : Stop) (old new : Option (List ℕ)) → new ≡ appended old (text_of_lines (begin_line s)) → StepTakes s t old new (Err stop)
  step_begins t stop old new said = inr (goes, part_then old new new (begin_line s) others said (written_nothing new new others refl))

  -- its first line is written, and the pairs that do not pass in part
  pub step_hits_in_part : (pairs : List PairName) → pairs ≡ failing meets_exactly s.mesh s.asked s.set.depth → (t : State) (stop : Stop) (old mid new : Option (List ℕ))
      → mid ≡ appended old (text_of_lines (begin_line s)) → WrittenInPart mid new (hit_lines pairs) → StepTakes s t old new (Err stop)
  step_hits_in_part pairs found t stop old mid new begun part =
      let P : List PairName → Type 0 = λ l. WrittenInPart mid new (hit_lines l) in
      inr (goes, part_then old mid new (begin_line s) others begun (part_more mid new (hit_lines (hits s)) (way_lines (taken s)) (subst P (hits_are s pairs found) part)))

  -- they are written
  pub step_hits : (pairs : List PairName) → pairs ≡ failing meets_exactly s.mesh s.asked s.set.depth → (t : State) (stop : Stop) (old mid new : Option (List ℕ))
      → mid ≡ appended old (text_of_lines (begin_line s)) → new ≡ appended mid (text_of_lines (hit_lines pairs)) → StepTakes s t old new (Err stop)
  step_hits pairs found t stop old mid new begun said = step_hits_in_part pairs found t stop old mid new begun (written_whole mid new (hit_lines pairs) said)

-- what it tells, by its choice
pub step_told_is : (s : State) (choice : Choice) → choice.hits ≡ failing meets_exactly s.mesh s.asked s.set.depth → way_of choice ≡ way_taken meets_exactly s.mesh s.asked s.set → (count : ℕ) → count ≡ length choice.hits
    → ◌≡◌ {A = StepTold} (record { how = choice.how; hits = count }) (step_told s)
step_told_is s choice found chosen count counted =
    let many : count ≡ length (hits s) = counted ∙ ap length (hits_are s choice.hits found) in
    let way = way_is s (way_of choice) chosen in
    λ i. record { how = (way i).how; hits = many i }

-- ---- a step that is chosen

module _ (s : State) (choice : Choice) (inside : first_outside s.mesh s.asked ≡ None) (found : choice.hits ≡ failing meets_exactly s.mesh s.asked s.set.depth) (chosen : way_of choice ≡ way_taken meets_exactly s.mesh s.asked s.set) where
  others_are : hit_lines choice.hits ++ way_lines (way_of choice) ≡ hit_lines (hits s) ++ way_lines (taken s)
  others_are = ap (λ pairs. hit_lines pairs ++ way_lines (way_of choice)) (hits_are s choice.hits found) ∙ ap (λ way. hit_lines (hits s) ++ way_lines way) (way_is s (way_of choice) chosen)

  after_is : (m : Mesh) (still : Shifts) → (groups : List Group) → m ≡ moved_mesh s.mesh choice.taken → still ≡ all_still s.asked → groups ≡ fail_if (not (is_whole choice.how)) s.groups
      → ◌≡◌ {A = State} (record s { mesh = m; asked = still; steps = s.steps + 1; groups = groups }) (after_step s)
  after_is m still groups moved rest failed =
      let mesh : m ≡ moved_mesh s.mesh (taken s).taken = moved ∙ ap (λ (w : Way). moved_mesh s.mesh w.taken) (way_is s (way_of choice) chosen) in
      let fails : groups ≡ fail_if (not (is_whole (taken s).how)) s.groups = failed ∙ ap (λ (w : Way). fail_if (not (is_whole w.how)) s.groups) (way_is s (way_of choice) chosen) in
      λ i. record s { mesh = mesh i; asked = rest i; steps = s.steps + 1; groups = fails i }

  -- nothing is asked any more
  pub rest_is : IsRunInvariant s → (m : Mesh) → m ≡ moved_mesh s.mesh choice.taken → asked_in m [] ≡ all_still s.asked
  rest_is kept m moved =
      let same : m ≡ moved_mesh s.mesh (taken s).taken = moved ∙ ap (λ (w : Way). moved_mesh s.mesh w.taken) (way_is s (way_of choice) chosen) in
      let names = (kept_after s kept inside).now.names in
      ap (λ n. asked_in n []) same ∙ none_in (moved_mesh s.mesh (taken s).taken) ∙ still_is (moved_mesh s.mesh (taken s).taken) (all_still s.asked) names ∙ still_again s.asked

  pub step_taken : (m : Mesh) (still : Shifts) (groups : List Group) (old mid told new : Option (List ℕ)) → m ≡ moved_mesh s.mesh choice.taken → still ≡ all_still s.asked → groups ≡ fail_if (not (is_whole choice.how)) s.groups
      → mid ≡ appended old (text_of_lines (begin_line s)) → told ≡ appended mid (text_of_lines (hit_lines choice.hits)) → new ≡ appended told (text_of_lines (way_lines (way_of choice)))
      → StepTakes s (record s { mesh = m; asked = still; steps = s.steps + 1; groups = groups }) old new (Ok None)
  step_taken m still groups old mid told new moved rest failed begun hit way =
      let after = after_is m still groups moved rest failed in
      let said = written_then mid told new (hit_lines choice.hits) (way_lines (way_of choice)) hit way in
      let lines = said ∙ ap (λ (l : List LogLine). appended mid (text_of_lines l)) others_are in (
        goes s inside ∙ ap (Proceeds (step_lines s)) (sym after),
        after,
        written_then old mid new (begin_line s) (others s inside) begun lines,
      )

  pub step_in_part : (t : State) (stop : Stop) (old mid told new : Option (List ℕ)) → mid ≡ appended old (text_of_lines (begin_line s)) → told ≡ appended mid (text_of_lines (hit_lines choice.hits))
      → WrittenInPart told new (way_lines (way_of choice)) → StepTakes s t old new (Err stop)
  step_in_part t stop old mid told new begun hit way =
      let P : List LogLine → Type 0 = λ l. WrittenInPart mid new l in
      let part = part_then mid told new (hit_lines choice.hits) (way_lines (way_of choice)) hit way in
      inr (goes s inside, part_then old mid new (begin_line s) (others s inside) begun (subst P others_are part))
