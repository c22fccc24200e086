-- Lines that the two sides of a run are told, one after another.
use Rattle.std.proofs.Common.{◌≡◌, List, [], ◌∷◌, ◌++◌, Result, Ok, Err, refl, sym}
use Rattle.log_text.specs.Lines.{text_of_line}
use Rattle.log_text.specs.declared.LogLine.{LogLine}
use Rattle.outside_io.specs.declared.stop.Stop.{Stop}
use Rattle.outside_io.specs.declared.stop.Stop.TheVariants.{NoMemory, DeskFault, SinkFault}
use Rattle.outside_io.specs.Outside.{Around, Puts, StoresNothing}
use Rattle.outside_io.proofs.Outsides.{nothing_unremembered, nothing_done, nothing_then, nothing_stopped, nothing_whole, nothing_forgotten}
use Rattle.outside_io.proofs.Written.{appended-nil}
use Rattle.log_write.specs.Written.{Says}
use Rattle.log_write.proofs.WrittenLines.{written_nothing, written_part, written_whole, written_line, written_then, part_then, part_more, WrittenSoFar, written_none, written_more, written_more_in_part, written_all}

no_desk_whole : {T : Type 0} (x : T) → ◌≡◌ {A = Result T Stop} (Ok x) (Err DeskFault) → ⊥
no_desk_whole x e = absurd cc

no_desk_sink : {T : Type 0} (stop : Stop) → stop ≡ SinkFault → ◌≡◌ {A = Result T Stop} (Err stop) (Err DeskFault) → ⊥
no_desk_sink stop is e = absurd cc

-- ---- one line

-- its bytes are put into the sink
pub says_put : (line : LogLine) (a b : Around) (r : Result (Unit {0}) Stop) → Puts (text_of_line line) a b r → Says (line ∷ []) a b r
says_put line a b (Ok u) p = record {
  written = written_line a.world.holds.written b.world.holds.written line p.whole;
  nothing_stored = record { files = p.files; desk = p.desk; no_desk = no_desk_whole u; counts = p.counts };
}
says_put line a b (Err stop) p = record {
  written = written_part a.world.holds.written b.world.holds.written line p.part;
  nothing_stored = record { files = p.files; desk = p.desk; no_desk = no_desk_sink stop p.fault; counts = p.counts };
}

-- ---- some lines

-- no line
pub says_none : {T : Type 0} (a : Around) (x : T) → Says [] a a (Ok x)
says_none a x = record {
  written = sym (appended-nil a.world.holds.written);
  nothing_stored = nothing_done a x;
}

-- memory was wanting before the first
pub says_nothing : {T : Type 0} (lines : List LogLine) (a : Around) → Says {T = T} lines a a (Err NoMemory)
says_nothing {T = T} lines a = record {
  written = written_nothing a.world.holds.written a.world.holds.written lines refl;
  nothing_stored = nothing_unremembered a;
}

-- all of them, by another answer
pub says_whole : {T U : Type 0} (lines : List LogLine) (a b : Around) (x : T) (y : U) → Says lines a b (Ok x) → Says lines a b (Ok y)
says_whole lines a b x y s = record {
  written = s.written;
  nothing_stored = nothing_whole a b _ y s.nothing_stored;
}

-- a stop in them that is handed on
pub says_stopped : {T U : Type 0} (lines : List LogLine) (a b : Around) (stop : Stop) → Says {T = T} lines a b (Err stop) → Says {T = U} lines a b (Err stop)
says_stopped {T = T} {U = U} lines a b stop s = record {
  written = s.written;
  nothing_stored = nothing_stopped a b stop s.nothing_stored;
}

-- they are told, and then memory was wanting
pub says_forgotten : {T U : Type 0} (lines : List LogLine) (a b : Around) (x : T) → Says lines a b (Ok x) → Says {T = U} lines a b (Err NoMemory)
says_forgotten {T = T} {U = U} lines a b x s = record {
  written = written_whole a.world.holds.written b.world.holds.written lines s.written;
  nothing_stored = nothing_forgotten a b _ s.nothing_stored;
}

-- a stop in them is one in more
pub says_part : {T : Type 0} (xs ys : List LogLine) (a b : Around) (stop : Stop) → Says {T = T} xs a b (Err stop) → Says {T = T} (xs ++ ys) a b (Err stop)
says_part xs ys a b stop s = record {
  written = part_more a.world.holds.written b.world.holds.written xs ys s.written;
  nothing_stored = s.nothing_stored;
}

-- more after them
pub says_then : {T U : Type 0} (xs ys : List LogLine) (a b c : Around) (x : T) (r : Result U Stop) → Says xs a b (Ok x) → Says ys b c r → Says (xs ++ ys) a c r
says_then xs ys a b c x (Ok y) p q = record {
  written = written_then a.world.holds.written b.world.holds.written c.world.holds.written xs ys p.written q.written;
  nothing_stored = nothing_then a b c _ _ p.nothing_stored q.nothing_stored;
}
says_then xs ys a b c x (Err stop) p q = record {
  written = part_then a.world.holds.written b.world.holds.written c.world.holds.written xs ys p.written q.written;
  nothing_stored = nothing_then a b c _ _ p.nothing_stored q.nothing_stored;
}

-- ---- some of the lines, and the rest is left

pub record SaysSoFar (old now : Around) (left all : List LogLine) : Type 0 where
  pub written : WrittenSoFar old.world.holds.written now.world.holds.written left all
  pub nothing_stored : StoresNothing {T = Unit {0}} old now (Ok tt)

-- none is told yet
pub so_far_none : (a : Around) (all : List LogLine) → SaysSoFar a a all all
so_far_none a all = record {
  written = written_none a.world.holds.written all;
  nothing_stored = nothing_done a tt;
}

-- more of them
pub so_far_more : {T : Type 0} (a b c : Around) (xs left all : List LogLine) (x : T) → SaysSoFar a b (xs ++ left) all → Says xs b c (Ok x) → SaysSoFar a c left all
so_far_more a b c xs left all x s p = record {
  written = written_more a.world.holds.written b.world.holds.written c.world.holds.written xs left all s.written p.written;
  nothing_stored = nothing_then a b c _ _ s.nothing_stored (nothing_whole b c _ tt p.nothing_stored);
}

-- the next are told in part
pub so_far_part : {T : Type 0} (a b c : Around) (xs left all : List LogLine) (stop : Stop) → SaysSoFar a b (xs ++ left) all → Says {T = T} xs b c (Err stop) → Says {T = T} all a c (Err stop)
so_far_part a b c xs left all stop s p = record {
  written = written_more_in_part a.world.holds.written b.world.holds.written c.world.holds.written xs left all s.written p.written;
  nothing_stored = nothing_then a b c _ _ s.nothing_stored p.nothing_stored;
}

-- no more is left
pub so_far_all : {T : Type 0} (a b : Around) (all : List LogLine) (y : T) → SaysSoFar a b [] all → Says all a b (Ok y)
so_far_all a b all y s = record {
  written = written_all a.world.holds.written b.world.holds.written all s.written;
  nothing_stored = nothing_whole a b _ y s.nothing_stored;
}
