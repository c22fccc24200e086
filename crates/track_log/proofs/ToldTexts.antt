-- What is told, a text after another.
use Rattle.std.proofs.Common.{◌≡◌, ℕ, ◌<◌, List, [], ◌∷◌, length, Result, Ok, Err, refl, sym, arith, codes, decimal}
use Rattle.std.proofs.lemmas.List.{length-append}
use Rattle.line_text.specs.WrittenLines.{line_of_words}
use Rattle.log_text.specs.Lines.{why_word}
use Rattle.log_text.specs.declared.LogLine.TheVariants.{Refused}
use Rattle.log_text.proofs.LineLaws.{text_of_line-some}
use Rattle.outside_io.specs.declared.stop.Stop.{Stop}
use Rattle.outside_io.specs.declared.stop.Stop.TheVariants.{NoMemory, DeskFault, SinkFault}
use Rattle.outside_io.specs.Outside.{Around, Puts, written_of}
use Rattle.outside_io.proofs.Outsides.{nothing_unremembered, nothing_whole, nothing_stopped}
use Rattle.outside_io.proofs.Written.{appended-nil}
use Rattle.track_log.specs.declared.refusal.LogRefusal.{LogRefusal}
use Rattle.track_log.specs.declared.refusal.LogRefusal.TheVariants.{Input, Log, Proof, Replay, Motion}
use Rattle.track_log.specs.Refused.{refused_text, verdict_words}
use Rattle.track_log.specs.Telling.{Tells}

-- ---- texts that are not empty

-- a line of two words or more
pub line_some : (word next : List ℕ) (words : List (List ℕ)) → 0 < length (line_of_words (word ∷ next ∷ words))
line_some word next words = omega (arith, length-append word (32 ∷ line_of_words (next ∷ words)))

-- the line of a refusal
pub refused_some : (why : LogRefusal) → 0 < length (refused_text why)
refused_some (Input why) = text_of_line-some (Refused why)
refused_some (Log fault) = line_some (codes "refused") (codes "log") (decimal fault.line ∷ why_word fault.why ∷ [])
refused_some (Proof fault) = line_some (codes "refused") (codes "proof") (decimal fault.line ∷ why_word fault.why ∷ [])
refused_some (Replay line) = line_some (codes "refused") (codes "replay") (decimal line ∷ [])
refused_some (Motion line verdict) = line_some (codes "refused") (codes "motion") (decimal line ∷ verdict_words verdict)

-- ---- one text

no_desk_whole : {T : Type 0} (x : T) → ◌≡◌ {A = Result T Stop} (Ok x) (Err DeskFault) → ⊥
no_desk_whole x e = absurd cc

no_desk_sink : {T : Type 0} (stop : Stop) → stop ≡ SinkFault → ◌≡◌ {A = Result T Stop} (Err stop) (Err DeskFault) → ⊥
no_desk_sink stop is e = absurd cc

no_memory_whole : {T : Type 0} (x : T) → ◌≡◌ {A = Result T Stop} (Ok x) (Err NoMemory) → ⊥
no_memory_whole x e = absurd cc

no_memory_sink : {T : Type 0} (stop : Stop) → stop ≡ SinkFault → ◌≡◌ {A = Result T Stop} (Err stop) (Err NoMemory) → ⊥
no_memory_sink stop is e = absurd cc

stopped_alike : {T U : Type 0} (stop was : Stop) → ◌≡◌ {A = Result T Stop} (Err stop) (Err was) → ◌≡◌ {A = Result U Stop} (Err stop) (Err was)
stopped_alike stop was e = cc

-- its bytes are put into the sink
pub tells_put : (text : List ℕ) (a b : Around) (r : Result (Unit {0}) Stop) → Puts text a b r → Tells text a b r
tells_put text a b (Ok u) p = record {
  whole = p.whole;
  part = tt;
  none = λ e. absurd (no_memory_whole u e);
  nothing_stored = record { files = p.files; desk = p.desk; no_desk = no_desk_whole u; counts = p.counts };
}
tells_put text a b (Err stop) p = record {
  whole = tt;
  part = p.part;
  none = λ e. absurd (no_memory_sink {T = Unit {0}} stop p.fault e);
  nothing_stored = record { files = p.files; desk = p.desk; no_desk = no_desk_sink stop p.fault; counts = p.counts };
}

-- memory was wanting before its first byte
pub tells_nothing : {T : Type 0} (text : List ℕ) (a : Around) → 0 < length text → Tells {T = T} text a a (Err NoMemory)
tells_nothing {T = T} text a some = record {
  whole = tt;
  part = (0, some, sym (appended-nil (written_of a)));
  none = λ e. refl;
  nothing_stored = nothing_unremembered {T = T} a;
}

-- all of it, by another answer
pub tells_whole : {T U : Type 0} (text : List ℕ) (a b : Around) (x : T) (y : U) → Tells text a b (Ok x) → Tells text a b (Ok y)
tells_whole text a b x y t = record { whole = t.whole; part = tt; none = λ e. absurd (no_memory_whole y e); nothing_stored = nothing_whole a b _ y t.nothing_stored }

-- a stop in it that is handed on
pub tells_stopped : {T U : Type 0} (text : List ℕ) (a b : Around) (stop : Stop) → Tells {T = T} text a b (Err stop) → Tells {T = U} text a b (Err stop)
tells_stopped {T = T} {U = U} text a b stop t = record {
  whole = tt;
  part = t.part;
  none = λ e. t.none (stopped_alike {T = U} {U = T} stop NoMemory e);
  nothing_stored = nothing_stopped {T = T} {U = U} a b stop t.nothing_stored;
}
