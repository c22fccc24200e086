-- What a pass by a sizing tells, as the sizing answers.
use Rattle.std.proofs.Common.{◌≡◌, ℕ, Bool, false, List, [], ◌∷◌, take, Option, Result, Ok, Err, sym, subst}
use Rattle.grid_base.specs.declared.Point.{Point}
use Rattle.grid_decided.specs.Decided.{meets_exactly}
use Rattle.mesh_base.specs.Mesh.{Mesh}
use Rattle.mesh_base.specs.Pairs.{edges}
use Rattle.mesh_sizing.specs.declared.sizing.Band.{Band}
use Rattle.mesh_sizing.specs.declared.sizing.Want.{Want}
use Rattle.outside_io.specs.declared.stop.Stop.{Stop}
use Rattle.pass_run.specs.declared.passes.PassCount.{PassCount}
use Rattle.pass_run.specs.Fits.{AreWanted, turn_of, fit_rules}
use Rattle.pass_run.specs.PassLines.{PassRules, mesh_from}
use Rattle.track_engine.specs.State.{State, is_open}
use Rattle.track_engine.specs.Answers.{Answer, Nothing, NoSuchField, FieldShifts, Wanted, WantedOfFirst}
use Rattle.track_engine.specs.Answered.{IsAnswerToFit}
use Rattle.track_engine.specs.Parts.{FitTells}

-- what one sizing may answer, another may
module _ (narrow wide : Point → Band → Type 0) (both : (p : Point) (band : Band) → narrow p band → wide p band) where
  wanted_too : (rules : PassRules) (wants : ℕ × ℕ → Want) (m : Mesh) (es : List (ℕ × ℕ)) → AreWanted narrow rules wants m es → AreWanted wide rules wants m es
  wanted_too rules wants m [] w = tt
  wanted_too rules wants m (e ∷ es) w = (
    λ stands. let x = w.0 stands in record { band = x.band; answer = both _ x.band x.answer; value = x.value },
    λ on. wanted_too rules wants (mesh_from rules m (turn_of e)) es (w.1 on),
  )

  answered_too : (whole : Bool) (s : State) (given : Answer) → IsAnswerToFit narrow whole s given → IsAnswerToFit wide whole s given
  answered_too whole s (Wanted wants) is = wanted_too (fit_rules meets_exactly wants s.set.depth (is_open s.groups)) wants s.mesh (edges s.mesh) is
  answered_too whole s (WantedOfFirst count wants) is = (is.0, wanted_too (fit_rules meets_exactly wants s.set.depth (is_open s.groups)) wants s.mesh (take count (edges s.mesh)) is.1)
  answered_too whole s (FieldShifts by) is = absurd is
  answered_too whole s NoSuchField is = absurd is
  answered_too whole s Nothing is = absurd is

  pub fit_too : (s t : State) (old new : Option (List ℕ)) (r : Result PassCount Stop) → FitTells narrow s t old new r → FitTells wide s t old new r
  fit_too s t old new (Ok count) x = (x.0, wanted_too (fit_rules meets_exactly x.0 s.set.depth (is_open s.groups)) x.0 s.mesh (edges s.mesh) x.1, x.2, x.3, x.4)
  fit_too s t old new (Err stop) x = (x.0, answered_too false s x.0 x.1, x.2, x.3, x.4)

  -- the same of a pass that came to its end, after which the mesh was settled
  pub fit_settled : (s t u : State) (old new : Option (List ℕ)) (count : PassCount) → u ≡ t → FitTells narrow s t old new (Ok count) → FitTells wide s u old new (Ok count)
  fit_settled s t u old new count same x = let Q : State → Type 0 = λ v. FitTells wide s v old new (Ok count) in subst Q (sym same) (fit_too s t old new (Ok count) x)
