-- What parts of a run do, one after another.
use Rattle.std.proofs.Common.{◌≡◌, ℕ, List, [], ◌∷◌, ◌++◌, ◌⊎◌, inl, inr, refl, ap, sym, ◌∙◌, subst, append_assoc}
use Rattle.std.specs.Prelude.{◌≢◌}
use Rattle.std.specs.declared.option.Option.{Option}
use Rattle.log_text.specs.Lines.{text_of_lines, text_of_line}
use Rattle.log_text.specs.declared.LogLine.{LogLine}
use Rattle.log_text.specs.declared.LogLine.TheVariants.{Mesh as MeshLine}
use Rattle.outside_io.specs.Desk.{Files}
use Rattle.outside_io.specs.declared.stop.Stop.{Stop}
use Rattle.log_replay.specs.Replay.{Replay, after, replayed}
use Rattle.track_engine.specs.Saved.{Target, files_of, file_at, stored, file_name}
use Rattle.track_engine.specs.Effects.{ExpectedLog, CutShort, with_log}
use Rattle.track_engine.specs.World.{Contents, Logs, StopsIn, StopsShort, LastIsOpen, IsOpen}
use Rattle.outside_io.specs.Sink.{appended, AppendsPart}
use Rattle.log_write.proofs.WrittenLines.{written_nothing, written_part, written_whole, written_then, part_then, part_more}

pub files_of-append : (to : Target) (from : Replay) (xs ys : List LogLine) → files_of to from (xs ++ ys) ≡ files_of to from xs ++ files_of to (after from xs) ys
files_of-append to from [] ys = refl
files_of-append to from (x ∷ xs) ys = ap (λ l. file_at to from x ++ l) (files_of-append to (replayed from x) xs ys) ∙ sym (append_assoc (file_at to from x) _ _)

pub stored-append : (xs ys : List (List ℕ × List ℕ)) (files : Option Files) → stored (xs ++ ys) files ≡ stored ys (stored xs files)
stored-append [] ys files = refl
stored-append (x ∷ xs) ys files = stored-append xs ys _

stored_more : (to : Target) (from : Replay) (xs ys : List LogLine) (a b : Option Files) → b ≡ stored (files_of to from xs) a → stored (files_of to (after from xs) ys) b ≡ stored (files_of to from (xs ++ ys)) a
stored_more to from xs ys a b p = ap (stored (files_of to (after from xs) ys)) p ∙ sym (stored-append (files_of to from xs) _ a) ∙ ap (λ l. stored l a) (sym (files_of-append to from xs ys))

-- lines after others
pub logs_then : (to : Target) (from : Replay) (xs ys : List LogLine) (a b c : Contents) → Logs to from xs a b → Logs to (after from xs) ys b c → Logs to from (xs ++ ys) a c
logs_then to from xs ys a b c p q = record {
  written = written_then a.written b.written c.written xs ys p.written q.written;
  files = q.files ∙ stored_more to from xs ys a.files b.files p.files;
}

open_then : (stop : Stop) (to : Target) (from : Replay) (xs done : List LogLine) (a b c : Option Files) → b ≡ stored (files_of to from xs) a
    → LastIsOpen stop to (after from xs) done b c → LastIsOpen stop to from (xs ++ done) a c
open_then stop to from xs done a b c p s = record {
  front = xs ++ s.front;
  k = s.k;
  vertices = s.vertices;
  faces = s.faces;
  last = ap (λ l. xs ++ l) s.last ∙ sym (append_assoc xs s.front _);
  open_file = let P : Option Files → Type 0 = λ f. IsOpen stop (file_name to.prefix s.k) f c in subst P (stored_more to from xs s.front a b p) s.open_file;
}

-- a stop in the lines after others
pub stops_then : (stop : Stop) (to : Target) (from : Replay) (xs ys : List LogLine) (a b c : Contents) → Logs to from xs a b → StopsIn stop to (after from xs) ys b c → StopsIn stop to from (xs ++ ys) a c
stops_then stop to from xs ys a b c p s = record {
  text = part_then a.written b.written c.written xs ys p.written s.text;
  files = elim s.files as (λ _. (c.files ≡ stored (files_of to from (xs ++ s.text.done)) a.files) ⊎ LastIsOpen stop to from (xs ++ s.text.done) a.files c.files) [
    | inl e ↦ inl (e ∙ stored_more to from xs s.text.done a.files b.files p.files)
    | inr o ↦ inr (open_then stop to from xs s.text.done a.files b.files c.files p.files o)
  ];
}

-- a stop in some lines is one in more
pub stops_more : (stop : Stop) (to : Target) (from : Replay) (xs ys : List LogLine) (a b : Contents) → StopsIn stop to from xs a b → StopsIn stop to from (xs ++ ys) a b
stops_more stop to from xs ys a b s = record { text = part_more a.written b.written xs ys s.text; files = s.files }

-- nothing was done
pub stops_nothing : (stop : Stop) (to : Target) (from : Replay) (lines : List LogLine) (w : Contents) → StopsIn stop to from lines w w
stops_nothing stop to from lines w = record { text = written_nothing w.written w.written lines refl; files = inl refl }

-- the first line is written in part
pub stops_line : (stop : Stop) (to : Target) (from : Replay) (line : LogLine) (lines : List LogLine) (files : Option Files) (old new : Option (List ℕ)) → AppendsPart old new (text_of_line line)
    → StopsIn stop to from (line ∷ lines) (record { files = files; written = old }) (record { files = files; written = new })
stops_line stop to from line lines files old new part = record { text = part_more old new (line ∷ []) lines (written_part old new line part); files = inl refl }

-- the line of a mesh is written, and the mesh is not stored
pub stops_open : (stop : Stop) (to : Target) (from : Replay) (k vertices faces : ℕ) (files now : Option Files) (old new : Option (List ℕ))
    → new ≡ appended old (text_of_lines (MeshLine k vertices faces ∷ [])) → IsOpen stop (file_name to.prefix k) files now
    → StopsIn stop to from (MeshLine k vertices faces ∷ []) (record { files = files; written = old }) (record { files = now; written = new })
stops_open stop to from k vertices faces files now old new said is_open = record {
  text = written_whole old new (MeshLine k vertices faces ∷ []) said;
  files = inr (record { front = []; k = k; vertices = vertices; faces = faces; last = refl; open_file = is_open });
}

-- ---- a stop before the end

pub one_line : (line : LogLine) (lines : List LogLine) → line ∷ lines ≢ []
one_line line lines e = absurd cc

-- a log has lines, or it is cut short
abbrev pub GoesOn : ExpectedLog → Type 0
GoesOn log = (log.lines ≢ []) ⊎ (log.ending ≡ CutShort)

more_lines : (xs ys : List LogLine) → ys ≢ [] → xs ++ ys ≢ []
more_lines [] ys some = some
more_lines (x ∷ xs) ys some = one_line x (xs ++ ys)

pub more_left : (xs : List LogLine) (rest : ExpectedLog) → GoesOn rest → GoesOn (with_log xs rest)
more_left xs rest (inl some) = inl (more_lines xs rest.lines some)
more_left xs rest (inr cut) = inr cut

-- in a log after some lines
pub short_then : (stop : Stop) (to : Target) (from : Replay) (xs : List LogLine) (rest : ExpectedLog) (a b c : Contents) → Logs to from xs a b → StopsShort stop to (after from xs) rest b c → StopsShort stop to from (with_log xs rest) a c
unfolding stops_then
short_then stop to from xs rest a b c p s = record { in_part = stops_then stop to from xs rest.lines a b c p s.in_part; left = s.left }

-- a stop in some lines is before the end of a log that goes on
pub short_more : (stop : Stop) (to : Target) (from : Replay) (xs : List LogLine) (rest : ExpectedLog) (a b : Contents) → GoesOn rest → StopsIn stop to from xs a b → StopsShort stop to from (with_log xs rest) a b
unfolding stops_more
short_more stop to from xs rest a b some s = record { in_part = stops_more stop to from xs rest.lines a b s; left = more_left s.text.rest rest some }

-- nothing was done
pub short_nothing : (stop : Stop) (to : Target) (from : Replay) (log : ExpectedLog) (w : Contents) → GoesOn log → StopsShort stop to from log w w
unfolding stops_nothing
short_nothing stop to from log w some = record { in_part = stops_nothing stop to from log.lines w; left = some }

-- the first line is written in part
pub short_line : (stop : Stop) (to : Target) (from : Replay) (line : LogLine) (rest : ExpectedLog) (files : Option Files) (old new : Option (List ℕ)) → AppendsPart old new (text_of_line line)
    → StopsShort stop to from (with_log (line ∷ []) rest) (record { files = files; written = old }) (record { files = files; written = new })
unfolding stops_line
short_line stop to from line rest files old new part = record { in_part = stops_line stop to from line rest.lines files old new part; left = inl (one_line line rest.lines) }
