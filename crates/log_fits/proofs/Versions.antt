-- Lines behind the first name no other version than that of their log.
use Rattle.std.proofs.Common.{◌≡◌, ℕ, Bool, List, [], ◌∷◌, arith}
use Rattle.std.specs.Prelude.{All}
use Rattle.std.specs.List.{AllByRecursion}
use Rattle.std.proofs.lemmas.List.Elements.{All-from_recursion, recursion_from_All}
use Rattle.mesh_base.specs.declared.Scale.{Scale}
use Rattle.log_text.specs.declared.TheConstants.{VERSION, IDS_VERSION}
use Rattle.log_text.specs.declared.LogLine.{LogLine}
use Rattle.log_text.specs.declared.LogLine.TheVariants as line
use Rattle.log_read.specs.Laws.{NamesOnly, NamesNoOther}
use Rattle.log_replay.specs.Replay.{Replay, replayed}
use Rattle.log_run.specs.States.{LogState, begun_after}
use Rattle.log_run.specs.Fits.{FitsLater}
use Rattle.run_laws.specs.Lines.{MayFollow, AreInRange}
use Rattle.log_fits.specs.Fitting.{LinesFit}
use Rattle.log_fits.specs.Logs.{MayFollowAs}
use Rattle.log_fits.proofs.Lines.{told}

ids_are_none : VERSION ≡ IDS_VERSION → ⊥
ids_are_none same = absurd (omega (arith, same))

-- a line that fits behind others, and names no other version than 2, tells no ids and names none at all
names_none : (version : ℕ) (s : LogState) (l : LogLine) → FitsLater s l → NamesNoOther l → NamesOnly version l
names_none version s (line.First v) fits names = absurd fits
names_none version s (line.Vertices new) fits names = absurd (ids_are_none names)
names_none version s (line.Faces new) fits names = absurd (ids_are_none names)
names_none version s (line.Mesh k vertices faces) fits names = tt
names_none version s (line.Step k) fits names = tt
names_none version s (line.Solid v) fits names = tt
names_none version s (line.Hit pair) fits names = tt
names_none version s (line.Block ids) fits names = tt
names_none version s (line.Move shift) fits names = tt
names_none version s (line.Moved how) fits names = tt
names_none version s (line.Pass kind) fits names = tt
names_none version s line.PassFit fits names = tt
names_none version s (line.Did change) fits names = tt
names_none version s (line.No what why) fits names = tt
names_none version s line.Group fits names = tt
names_none version s (line.Close kept) fits names = tt
names_none version s (line.Refused why) fits names = tt
names_none version s line.End fits names = tt

module _ (scale : Scale) (version : ℕ) where
  each_may : (begun : Bool) (r : Replay) (lines : List LogLine) → LinesFit (told begun r) lines → AllByRecursion (MayFollow scale) lines → AllByRecursion (MayFollowAs scale version) lines
  each_may begun r [] fits range = tt
  each_may begun r (l ∷ lines) fits range = (
    (range.0.0, names_none version (told begun r) l fits.0 range.0.1),
    each_may (begun_after begun l) (replayed r l) lines fits.1 range.1,
  )

  -- so they may stand in a log of any version
  pub may_follow_as : (begun : Bool) (r : Replay) (lines : List LogLine) → LinesFit (told begun r) lines → AreInRange scale lines → All (MayFollowAs scale version) lines
  may_follow_as begun r lines fits range = All-from_recursion (MayFollowAs scale version) lines (each_may begun r lines fits (recursion_from_All (MayFollow scale) lines range))
