-- Files that are stored behind others, or before others.
use Rattle.std.proofs.Common.{◌≡◌, ◌⊎◌, inl, inr, ℕ, List, [], ◌∷◌, ◌++◌, append-nil, append_assoc, Option, Err, refl, ap, sym, ◌∙◌, subst}
use Rattle.outside_io.specs.Desk.{Files, SameBut}
use Rattle.outside_io.specs.Outside.{Around, Stores, holds_of}
use Rattle.outside_io.specs.Sink.{AppendsPart}
use Rattle.outside_io.specs.World.{Contents}
use Rattle.outside_io.specs.declared.stop.Stop.{Stop}
use Rattle.outside_io.specs.declared.stop.Stop.TheVariants.{NoMemory, DeskFault, SinkFault}
use Rattle.outside_io.proofs.Outsides.{counts_stopped, counts_unremembered}
use Rattle.track_log.specs.Telling.{Tells}
use Rattle.track_engine.specs.Saved.{stored}
use Rattle.track_engine.proofs.Worlds.{stored-append}
use Rattle.track_replay.specs.Wanted.{NamedTexts}
use Rattle.track_replay.specs.Storing.{StoresAll, StoresFirst, FailsAtNext, StopsStoring, StopsWriting, StoresCounted}

-- ---- behind others

pub stores_then : (xs ys : NamedTexts) (a b c : Contents) → StoresAll xs a b → StoresAll ys b c → StoresAll (xs ++ ys) a c
stores_then xs ys a b c p q = record {
  files = q.files ∙ ap (stored ys) p.files ∙ sym (stored-append xs ys a.files);
  written = q.written ∙ p.written;
}

first_then : (xs ys : NamedTexts) (a b c : Contents) → StoresAll xs a b → StoresFirst ys b c → StoresFirst (xs ++ ys) a c
first_then xs ys a b c p q = record {
  done = xs ++ q.done;
  rest = q.rest;
  split = ap (λ (l : NamedTexts). xs ++ l) q.split ∙ sym (append_assoc xs q.done q.rest);
  stores = stores_then xs q.done a b c p q.stores;
}

fails_then : (xs ys : NamedTexts) (a b c : Contents) → StoresAll xs a b → FailsAtNext ys b c → FailsAtNext (xs ++ ys) a c
fails_then xs ys a b c p q =
    let P : Option Files → Type 0 = λ f. SameBut q.name f c.files in
    record {
      done = xs ++ q.done;
      name = q.name;
      text = q.text;
      rest = q.rest;
      split = ap (λ (l : NamedTexts). xs ++ l) q.split ∙ sym (append_assoc xs q.done ((q.name, q.text) ∷ q.rest));
      others = subst P (ap (stored q.done) p.files ∙ sym (stored-append xs q.done a.files)) q.others;
      written = q.written ∙ p.written;
    }

pub stops_then : (stop : Stop) (xs ys : NamedTexts) (a b c : Contents) → StoresAll xs a b → StopsStoring stop ys b c → StopsStoring stop (xs ++ ys) a c
stops_then NoMemory xs ys a b c p q = first_then xs ys a b c p q
stops_then DeskFault xs ys a b c p (inl q) = inl (first_then xs ys a b c p q)
stops_then DeskFault xs ys a b c p (inr q) = inr (fails_then xs ys a b c p q)
stops_then SinkFault xs ys a b c p q = absurd q

-- ---- before others

first_more : (xs ys : NamedTexts) (a b : Contents) → StoresFirst xs a b → StoresFirst (xs ++ ys) a b
first_more xs ys a b q = record {
  done = q.done;
  rest = q.rest ++ ys;
  split = ap (λ (l : NamedTexts). l ++ ys) q.split ∙ append_assoc q.done q.rest ys;
  stores = q.stores;
}

fails_more : (xs ys : NamedTexts) (a b : Contents) → FailsAtNext xs a b → FailsAtNext (xs ++ ys) a b
fails_more xs ys a b q = record {
  done = q.done;
  name = q.name;
  text = q.text;
  rest = q.rest ++ ys;
  split = ap (λ (l : NamedTexts). l ++ ys) q.split ∙ append_assoc q.done ((q.name, q.text) ∷ q.rest) ys;
  others = q.others;
  written = q.written;
}

pub stops_more : (stop : Stop) (xs ys : NamedTexts) (a b : Contents) → StopsStoring stop xs a b → StopsStoring stop (xs ++ ys) a b
stops_more NoMemory xs ys a b q = first_more xs ys a b q
stops_more DeskFault xs ys a b (inl q) = inl (first_more xs ys a b q)
stops_more DeskFault xs ys a b (inr q) = inr (fails_more xs ys a b q)
stops_more SinkFault xs ys a b q = absurd q

-- it stops before the next
pub stops_before : (stop : Stop) (xs ys : NamedTexts) (a b : Contents) → (stop ≡ SinkFault → ⊥) → StoresAll xs a b → StopsStoring stop (xs ++ ys) a b
stops_before NoMemory xs ys a b no_sink p = record { done = xs; rest = ys; split = refl; stores = p }
stops_before DeskFault xs ys a b no_sink p = inl (record { done = xs; rest = ys; split = refl; stores = p })
stops_before SinkFault xs ys a b no_sink p = absurd (no_sink refl)

pub no_memory : NoMemory ≡ SinkFault → ⊥
no_memory e = absurd cc

-- ---- in the text behind them

-- it stops in the text that is written behind all of these
pub stops_in_text : {T : Type 0} (stop : Stop) (texts : NamedTexts) (text : List ℕ) (a b c : Around) → StoresAll texts (holds_of a) (holds_of b) → Tells {T = T} text b c (Err stop)
    → StopsStoring stop texts (holds_of a) (holds_of c) ⊎ StopsWriting stop texts text (holds_of a) (holds_of c)
stops_in_text NoMemory texts text a b c stores t = inl (record {
  done = texts;
  rest = [];
  split = sym (append-nil texts);
  stores = record { files = t.nothing_stored.files ∙ stores.files; written = t.none refl ∙ stores.written };
})
stops_in_text DeskFault texts text a b c stores t = absurd (t.nothing_stored.no_desk refl)
stops_in_text SinkFault texts text a b c stores t =
    let Q : Option (List ℕ) → Type 0 = λ w. AppendsPart w c.world.holds.written text in
    inr (record { fault = refl; files = t.nothing_stored.files ∙ stores.files; part = subst Q stores.written t.part })

-- ---- one file

module _ (name text : List ℕ) (a b : Around) where
  stops_in_one : (stop : Stop) → Stores name text a b (Err stop) → StopsStoring stop ((name, text) ∷ []) (holds_of a) (holds_of b)
  stops_in_one NoMemory s = record {
    done = [];
    rest = (name, text) ∷ [];
    split = refl;
    stores = record { files = s.refused refl; written = s.written };
  }
  stops_in_one DeskFault s = inr (record { done = []; name = name; text = text; rest = []; split = refl; others = s.others refl; written = s.written })
  stops_in_one SinkFault s = s.no_sink refl

  -- it stops in it
  pub one_stopped : (texts : NamedTexts) → texts ≡ (name, text) ∷ [] → (stop : Stop) → Stores name text a b (Err stop) → StoresCounted texts a b (Err stop)
  one_stopped texts is stop s =
      let P : NamedTexts → Type 0 = λ l. StoresCounted l a b (Err stop) in
      subst P (sym is) (record { stores = stops_in_one stop s; counts = counts_stopped a b stop s.counts })

-- memory was wanting before a store
pub store_unremembered : (name text : List ℕ) (a : Around) → Stores name text a a (Err NoMemory)
store_unremembered name text a = record {
  stored = tt;
  refused = λ e. refl;
  others = λ e. absurd cc;
  written = refl;
  no_sink = λ e. absurd cc;
  counts = counts_unremembered a;
}
