-- What one line tells, by the texts that are put.
use Rattle.std.proofs.Common.{◌≡◌, ◌⊎◌, inl, inr, ℕ, ◌<◌, Bool, true, false, List, [], ◌∷◌, ◌++◌, append-nil, length, Option, Some, None, Result, Ok, Err, refl, ap, sym, ◌∙◌, subst, arith, codes, decimal}
use Rattle.std.specs.Prelude.{◌↔◌, IsTrue}
use Rattle.std.specs.Fmt.{signed_decimal}
use Rattle.std.proofs.lemmas.List.{length-append}
use Rattle.std.proofs.lemmas.Bool.{false≢true}
use Rattle.log_text.specs.declared.LogLine.{LogLine}
use Rattle.log_run.specs.States.{LogState, with_line}
use Rattle.outside_io.specs.declared.stop.Stop.{Stop}
use Rattle.outside_io.specs.declared.stop.Stop.TheVariants.{NoMemory}
use Rattle.outside_io.specs.Outside.{Around, written_of}
use Rattle.outside_io.specs.Sink.{appended, AppendsPart}
use Rattle.outside_io.proofs.Outsides.{nothing_done, nothing_unremembered, nothing_whole, nothing_stopped}
use Rattle.outside_io.proofs.Written.{appended-nil}
use Rattle.track_log.specs.Taking.{FitsTested}
use Rattle.track_log.specs.Telling.{Tells}
use Rattle.track_log.proofs.ToldTexts.{line_some}
use Rattle.track_measure.specs.declared.measures.MeshShape.{MeshShape}
use Rattle.track_measure.specs.declared.measures.MeasureLine.{MeasureLine}
use Rattle.track_measure.specs.declared.measures.MeasureLine.TheVariants.{Measure, Change, End}
use Rattle.track_measure.specs.MeasureLines.{shape_of, measure_of_line}
use Rattle.track_measure.specs.Texts.{genus_word, shape_words, text_of, text_of_told}
use Rattle.track_measure.specs.Measured.{WritesNothingOrPart, TellsSome, line_text, MeasuresLine}

-- no line's text is empty
pub measure_some : (line : MeasureLine) → 0 < length (text_of line)
measure_some (Measure k volume shape genus) =
    line_some (codes "measure") (decimal k) (codes "volume6" ∷ signed_decimal volume ∷ shape_words shape ++ codes "genus" ∷ genus_word genus ∷ [])
measure_some (Change line shape) = line_some (codes "change") (decimal line) (shape_words shape)
measure_some End = omega (arith, length-append (codes "end") (10 ∷ []))

-- ---- what is told, if something is

pub tells_none : (a : Around) → TellsSome {T = Unit {0}} (text_of_told None) a a (Ok tt)
tells_none a = record { whole = sym (appended-nil (written_of a)); part = tt; nothing_stored = nothing_done a tt }

pub tells_nothing_told : (found : Option MeasureLine) (a : Around) → TellsSome {T = Unit {0}} (text_of_told found) a a (Err NoMemory)
tells_nothing_told found a = record { whole = tt; part = inl refl; nothing_stored = nothing_unremembered a }

pub tells_one : (line : MeasureLine) (a b : Around) (r : Result (Unit {0}) Stop) → Tells (text_of line) a b r → TellsSome (text_of_told (Some line)) a b r
tells_one line a b (Ok u) t = record {
  whole = t.whole ∙ ap (appended (written_of a)) (sym (append-nil (text_of line)));
  part = tt;
  nothing_stored = t.nothing_stored;
}
tells_one line a b (Err stop) t = record {
  whole = tt;
  part = (let P : List ℕ → Type 0 = λ x. WritesNothingOrPart x (written_of a) (written_of b) in subst P (sym (append-nil (text_of line))) (inr t.part));
  nothing_stored = t.nothing_stored;
}

pub tells_found : (found o : Option MeasureLine) (line : MeasureLine) → o ≡ found → o ≡ Some line → (a b : Around) (r : Result (Unit {0}) Stop) → Tells (text_of line) a b r → TellsSome (text_of_told found) a b r
tells_found found o line is some a b r t = let P : Option MeasureLine → Type 0 = λ x. TellsSome (text_of_told x) a b r in subst P (sym some ∙ is) (tells_one line a b r t)

-- ---- a line of a log

module _ (number : ℕ) (s : LogState) (l : LogLine) where
  -- memory was wanting before it was told
  pub line_nothing : (a : Around) → MeasuresLine number s l a a (Err NoMemory)
  line_nothing a = record { writes = inl refl; nothing_stored = nothing_unremembered a }

  -- it does not fit
  pub line_unfit : (a : Around) (fits : Bool) → IsTrue fits ↔ FitsTested s l → fits ≡ false → MeasuresLine number s l a a (Ok false)
  line_unfit a fits is missed = record { writes = (λ f. false≢true (sym missed ∙ is.1 f), refl); nothing_stored = nothing_done a false }

  -- it fits, and is told
  module _ (fits : Bool) (is : IsTrue fits ↔ FitsTested s l) (taken_is : fits ≡ true) (next : LogState) (taken : next ≡ with_line s l) (before : MeshShape) (before_is : before ≡ shape_of s.replay.mesh) (a b : Around) where
    same_text : text_of_told (measure_of_line number before next.replay.mesh l) ≡ line_text number s l
    same_text = ap (λ (x : LogState). text_of_told (measure_of_line number before x.replay.mesh l)) taken ∙ ap (λ h. text_of_told (measure_of_line number h (with_line s l).replay.mesh l)) before_is

    pub line_told : {u : Unit {0}} → TellsSome (text_of_told (measure_of_line number before next.replay.mesh l)) a b (Ok u) → MeasuresLine number s l a b (Ok true)
    line_told t = record {
      writes = (is.0 taken_is, t.whole ∙ ap (appended (written_of a)) same_text);
      nothing_stored = nothing_whole a b _ true t.nothing_stored;
    }

    stopped_in : (stop : Stop) → WritesNothingOrPart (line_text number s l) (written_of a) (written_of b) → (written_of b ≡ written_of a) ⊎ (FitsTested s l × AppendsPart (written_of a) (written_of b) (line_text number s l))
    stopped_in stop (inl same) = inl same
    stopped_in stop (inr part) = inr (is.0 taken_is, part)

    pub line_part : (stop : Stop) → TellsSome {T = Unit {0}} (text_of_told (measure_of_line number before next.replay.mesh l)) a b (Err stop) → MeasuresLine number s l a b (Err stop)
    line_part stop t = record {
      writes = stopped_in stop (let P : List ℕ → Type 0 = λ x. WritesNothingOrPart x (written_of a) (written_of b) in subst P same_text t.part);
      nothing_stored = nothing_stopped a b stop t.nothing_stored;
    }
