-- What the two sides of a run do, one thing after another.
use Rattle.std.proofs.Common.{◌≡◌, ◌≤◌, ℕ, Result, Ok, Err, refl, ◌∙◌, arith}
use Rattle.outside_io.specs.declared.stop.Stop.{Stop}
use Rattle.outside_io.specs.declared.stop.Stop.TheVariants.{NoMemory, DeskFault, SinkFault}
use Rattle.outside_io.specs.Causes.{Rose}
use Rattle.outside_io.specs.Outside.{Around, Counts, StoresNothing, OnlyLooks}

not_less : (a b c : ℕ) → a ≤ b → b ≤ c → a ≤ c
not_less a b c h k = omega arith

-- a count that rose later rose
pub rose_later : (a b c : ℕ) → a ≤ b → Rose b c → Rose a c
rose_later a b c h rose = omega arith

itself : (a : ℕ) → a ≤ a
itself a = omega arith

-- the same stop of another call
stopped_alike : {T U : Type 0} (stop was : Stop) → ◌≡◌ {A = Result U Stop} (Err stop) (Err was) → ◌≡◌ {A = Result T Stop} (Err stop) (Err was)
stopped_alike stop was e = cc

-- nothing is done, and no side is at fault
pub counts_none : {T : Type 0} (a : Around) (r : Result T Stop) → (r ≡ Err DeskFault → ⊥) → (r ≡ Err SinkFault → ⊥) → Counts a a r
counts_none a r no_desk no_sink = record {
  same = refl;
  causes = record {
    desk = itself a.world.desk_faults;
    out = itself a.world.sink_faults;
    desk_fault = λ e. absurd (no_desk e);
    sink_fault = λ e. absurd (no_sink e);
  };
}

-- nothing is done for want of memory
pub counts_unremembered : {T : Type 0} (a : Around) → Counts {T = T} a a (Err NoMemory)
counts_unremembered {T} a = counts_none {T = T} a (Err NoMemory) (λ e. absurd cc) (λ e. absurd cc)

-- a call after another
pub counts_then : {T U : Type 0} (a b c : Around) (p : Result T Stop) (q : Result U Stop) → Counts a b p → Counts b c q → Counts a c q
counts_then a b c p q x y = record {
  same = y.same ∙ x.same;
  causes = record {
    desk = not_less a.world.desk_faults b.world.desk_faults c.world.desk_faults x.causes.desk y.causes.desk;
    out = not_less a.world.sink_faults b.world.sink_faults c.world.sink_faults x.causes.out y.causes.out;
    desk_fault = λ e. rose_later a.world.desk_faults b.world.desk_faults c.world.desk_faults x.causes.desk (y.causes.desk_fault e);
    sink_fault = λ e. rose_later a.world.sink_faults b.world.sink_faults c.world.sink_faults x.causes.out (y.causes.sink_fault e);
  };
}

-- a stop that is handed on
pub counts_stopped : {T U : Type 0} (a b : Around) (stop : Stop) → Counts {T = T} a b (Err stop) → Counts {T = U} a b (Err stop)
counts_stopped {T} {U} a b stop x = record {
  same = x.same;
  causes = record {
    desk = x.causes.desk;
    out = x.causes.out;
    desk_fault = λ e. x.causes.desk_fault (stopped_alike {T = T} {U = U} stop DeskFault e);
    sink_fault = λ e. x.causes.sink_fault (stopped_alike {T = T} {U = U} stop SinkFault e);
  };
}

-- a call that stopped nothing, by another answer that is no stop
pub counts_whole : {T U : Type 0} (a b : Around) (p : Result T Stop) (y : U) → Counts a b p → Counts {T = U} a b (Ok y)
counts_whole {T} {U} a b p y x = record {
  same = x.same;
  causes = record {
    desk = x.causes.desk;
    out = x.causes.out;
    desk_fault = λ e. absurd cc;
    sink_fault = λ e. absurd cc;
  };
}

-- memory was wanting after a call
pub counts_forgotten : {T U : Type 0} (a b : Around) (p : Result T Stop) → Counts a b p → Counts {T = U} a b (Err NoMemory)
counts_forgotten {T} {U} a b p x = record {
  same = x.same;
  causes = record {
    desk = x.causes.desk;
    out = x.causes.out;
    desk_fault = λ e. absurd cc;
    sink_fault = λ e. absurd cc;
  };
}

-- ---- calls that store nothing

no_desk_whole : {T : Type 0} (x : T) → ◌≡◌ {A = Result T Stop} (Ok x) (Err DeskFault) → ⊥
no_desk_whole x e = absurd cc

no_desk_forgotten : {T : Type 0} → ◌≡◌ {A = Result T Stop} (Err NoMemory) (Err DeskFault) → ⊥
no_desk_forgotten e = absurd cc

-- nothing at all is done, for want of memory
pub nothing_unremembered : {T : Type 0} (a : Around) → StoresNothing {T = T} a a (Err NoMemory)
nothing_unremembered {T = T} a = record { files = refl; desk = refl; no_desk = no_desk_forgotten {T = T}; counts = counts_unremembered a }

-- nothing at all is done
pub nothing_done : {T : Type 0} (a : Around) (x : T) → StoresNothing a a (Ok x)
nothing_done a x = record { files = refl; desk = refl; no_desk = no_desk_whole x; counts = counts_whole a a _ x (counts_unremembered {T = Unit {0}} a) }

-- a call after another
pub nothing_then : {T U : Type 0} (a b c : Around) (p : Result T Stop) (q : Result U Stop) → StoresNothing a b p → StoresNothing b c q → StoresNothing a c q
nothing_then a b c p q x y = record { files = y.files ∙ x.files; desk = y.desk ∙ x.desk; no_desk = y.no_desk; counts = counts_then a b c p q x.counts y.counts }

-- a stop that is handed on
pub nothing_stopped : {T U : Type 0} (a b : Around) (stop : Stop) → StoresNothing {T = T} a b (Err stop) → StoresNothing {T = U} a b (Err stop)
nothing_stopped {T = T} {U = U} a b stop x = record {
  files = x.files;
  desk = x.desk;
  no_desk = λ e. x.no_desk (stopped_alike {T = T} {U = U} stop DeskFault e);
  counts = counts_stopped a b stop x.counts;
}

-- a call that stopped nothing, by another answer that is no stop
pub nothing_whole : {T U : Type 0} (a b : Around) (p : Result T Stop) (y : U) → StoresNothing a b p → StoresNothing a b (Ok y)
nothing_whole a b p y x = record { files = x.files; desk = x.desk; no_desk = no_desk_whole y; counts = counts_whole a b p y x.counts }

-- memory was wanting after a call
pub nothing_forgotten : {T U : Type 0} (a b : Around) (p : Result T Stop) → StoresNothing a b p → StoresNothing {T = U} a b (Err NoMemory)
nothing_forgotten {T = T} {U = U} a b p x = record { files = x.files; desk = x.desk; no_desk = no_desk_forgotten {T = U}; counts = counts_forgotten a b p x.counts }

-- ---- calls that only look

no_sink_whole : {T : Type 0} (x : T) → ◌≡◌ {A = Result T Stop} (Ok x) (Err SinkFault) → ⊥
no_sink_whole x e = absurd cc

no_sink_forgotten : {T : Type 0} → ◌≡◌ {A = Result T Stop} (Err NoMemory) (Err SinkFault) → ⊥
no_sink_forgotten e = absurd cc

-- a call after another
pub looks_then : {T U : Type 0} (a b c : Around) (p : Result T Stop) (q : Result U Stop) → OnlyLooks a b p → OnlyLooks b c q → OnlyLooks a c q
looks_then a b c p q x y = record { kept = y.kept ∙ x.kept; no_sink = y.no_sink; counts = counts_then a b c p q x.counts y.counts }

-- a stop that is handed on
pub looks_stopped : {T U : Type 0} (a b : Around) (stop : Stop) → OnlyLooks {T = T} a b (Err stop) → OnlyLooks {T = U} a b (Err stop)
looks_stopped {T = T} {U = U} a b stop x = record {
  kept = x.kept;
  no_sink = λ e. x.no_sink (stopped_alike {T = T} {U = U} stop SinkFault e);
  counts = counts_stopped a b stop x.counts;
}

-- a call that stopped nothing, by another answer that is no stop
pub looks_whole : {T U : Type 0} (a b : Around) (p : Result T Stop) (y : U) → OnlyLooks a b p → OnlyLooks a b (Ok y)
looks_whole a b p y x = record { kept = x.kept; no_sink = no_sink_whole y; counts = counts_whole a b p y x.counts }

-- memory was wanting after a call
pub looks_forgotten : {T U : Type 0} (a b : Around) (p : Result T Stop) → OnlyLooks a b p → OnlyLooks {T = U} a b (Err NoMemory)
looks_forgotten {T = T} {U = U} a b p x = record { kept = x.kept; no_sink = no_sink_forgotten {T = U}; counts = counts_forgotten a b p x.counts }
