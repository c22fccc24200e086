-- Replays of lines one after another.
use Rattle.std.proofs.Common.{◌≡◌, ◌++◌, List, [], ◌∷◌, refl, ap, sym, ◌∙◌}
use Rattle.std.specs.List.{AllByRecursion}
use Rattle.mesh_base.specs.Mesh.{Mesh}
use Rattle.log_text.specs.declared.LogLine.{LogLine}
use Rattle.log_text.specs.declared.LogLine.TheVariants.{Pass, PassFit, Did, No}
use Rattle.log_replay.specs.Replay.{Replay, replayed, after, at_mesh, EachAt}
use Rattle.log_replay.specs.OfPass.{IsOfPass, AreOfPass}
use Rattle.log_replay.specs.Laws.{ReplaysGoOn, PassesChangeTheMeshAlone}

-- lines after others
pub after-append : ReplaysGoOn
after-append r [] ys = refl
after-append r (x ∷ xs) ys = after-append (replayed r x) xs ys

-- the same of lines of which it is known where they lead
pub after_then : (r mid end : Replay) (xs ys : List LogLine) → after r xs ≡ mid → after mid ys ≡ end → after r (xs ++ ys) ≡ end
after_then r mid end xs ys p q = after-append r xs ys ∙ ap (λ s. after s ys) p ∙ q

-- what each of some lines promises, and then each of others
pub each_then : (Keeps : Replay → LogLine → Type 0) (r : Replay) (xs ys : List LogLine) → EachAt Keeps r xs → EachAt Keeps (after r xs) ys → EachAt Keeps r (xs ++ ys)
each_then Keeps r [] ys h k = k
each_then Keeps r (x ∷ xs) ys h k = (h.0, each_then Keeps (replayed r x) xs ys h.1 k)

-- what each of some lines of a kind promises may be weakened
pub each_weaker : (Of : LogLine → Type 0) (P Q : Replay → LogLine → Type 0) → ((r : Replay) (line : LogLine) → Of line → P r line → Q r line)
    → (r : Replay) (lines : List LogLine) → AllByRecursion Of lines → EachAt P r lines → EachAt Q r lines
each_weaker Of P Q weaker r [] of h = tt
each_weaker Of P Q weaker r (x ∷ xs) of h = (weaker r x of.0 h.0, each_weaker Of P Q weaker (replayed r x) xs of.1 h.1)

-- ---- lines of a pass

-- lines after others
pub of_pass_then : (xs ys : List LogLine) → AreOfPass xs → AreOfPass ys → AreOfPass (xs ++ ys)
of_pass_then [] ys h k = k
of_pass_then (x ∷ xs) ys h k = (h.0, of_pass_then xs ys h.1 k)

-- a line of a pass changes the mesh alone
pub line_replays : (r : Replay) (line : LogLine) → IsOfPass line → replayed r line ≡ record r { mesh = (replayed (at_mesh r.mesh) line).mesh }
line_replays r (Pass kind) h = refl
line_replays r PassFit h = refl
line_replays r (Did change) h = refl
line_replays r (No what why) h = refl
line_replays r line h = absurd h

-- and so do several
pub lines_replay : PassesChangeTheMeshAlone
lines_replay r [] h = refl
lines_replay r (line ∷ lines) h =
    let m : Mesh = (replayed (at_mesh r.mesh) line).mesh in
    ap (λ s. after s lines) (line_replays r line h.0)
    ∙ lines_replay (record r { mesh = m }) lines h.1
    ∙ ap (λ (s : Replay). record r { mesh = (after s lines).mesh }) (sym (line_replays (at_mesh r.mesh) line h.0))
