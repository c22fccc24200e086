-- What the codes say of the calls that begin a log and end it.
use Rattle.std.specs.Prelude.{◌≡◌, ◌≢◌, ◌↔◌, ◌⊎◌, ℕ, [], Option, Some, None, Ok, Err, IsTrue}
use Rattle.log_write.specs.Kept.{text_where}
use Rattle.outside_io.specs.declared.stop.Stop.TheVariants.{NoMemory}
use Rattle.track_engine.specs.Invariant.{IsRunInvariant}
use Rattle.track_engine.specs.Parts.{Writes}
use Rattle.track_engine.specs.State.{is_open}
use Rattle.track_held.specs.Heads.{begin_effect, end_effect}
use Rattle.track_held.specs.Held.{goes_on}
use Rattle.topo_library.specs.Codes.{tracker_state, tracker_log, keeps, GoesOn}
use Rattle.topo_library.specs.declared.tracker.Tracker.{Tracker}

-- it goes on, and a group is open
abbrev pub IsGrouped : Tracker → Type 0
IsGrouped t = GoesOn t × IsTrue (is_open (tracker_state t).groups)

-- What a code says of a call that begins a log with the tracker s, which then is t.
pub record HasBegunLog (s t : Tracker) (code : ℕ) : Type 0 where
  -- 0: what was told before is forgotten, and the first lines of a log of the mesh are told, where
  -- lines are kept; mesh 0 is saved, and the rest of the state is as it was
  pub done : code ≡ 0 →
      Writes (begin_effect (tracker_state s)) (tracker_state t)
      (text_where (keeps s) []) (tracker_log t) (Ok None)
  -- 5 exactly where the tracker was stopped, and 7 exactly where it goes on and a group is open
  pub stopped : code ≡ 5 ↔ ¬ GoesOn s
  pub grouped : code ≡ 7 ↔ IsGrouped s
  -- but at 0 nothing is changed
  pub left : code ≢ 0 → t ≡ s
  pub goes_on : goes_on t.held ≡ goes_on s.held
  pub kept : GoesOn t → IsRunInvariant (tracker_state t)
  -- 1 is want of memory, and no other code comes
  pub among : (code ≡ 0) ⊎ (code ≡ 1) ⊎ (code ≡ 5) ⊎ (code ≡ 7)

-- the same of a holder: 4 where it holds no tracker
abbrev pub HolderHasBegunLog : Option Tracker → Option Tracker → ℕ → Type 0
HolderHasBegunLog None new code = (code ≡ 4) × (new ≡ None)
HolderHasBegunLog (Some s) new code = (t : Tracker) × (new ≡ Some t) × HasBegunLog s t code

-- What a code says of a call that ends a log with the tracker s, which then is t.
pub record HasEndedLog (s t : Tracker) (code : ℕ) : Type 0 where
  -- 0: the last line of a log was told
  pub done : code ≡ 0 →
      Writes (end_effect (tracker_state s)) (tracker_state t)
      (tracker_log s) (tracker_log t) (Ok None)
  -- 1: there was no memory for it, and the tracker is stopped
  pub memory : code ≡ 1 →
      Writes (end_effect (tracker_state s)) (tracker_state t)
      (tracker_log s) (tracker_log t) (Err NoMemory)
      × ¬ GoesOn t
  -- 5 exactly where the tracker was stopped, and 7 exactly where it goes on and a group is open:
  -- nothing is done
  pub stopped : code ≡ 5 ↔ ¬ GoesOn s
  pub grouped : code ≡ 7 ↔ IsGrouped s
  pub idle : (code ≡ 5) ⊎ (code ≡ 7) → t ≡ s
  -- the state is as it was, and no other code comes
  pub state : tracker_state t ≡ tracker_state s
  pub goes_on : code ≢ 1 → goes_on t.held ≡ goes_on s.held
  pub among : (code ≡ 0) ⊎ (code ≡ 1) ⊎ (code ≡ 5) ⊎ (code ≡ 7)

-- the same of a holder
abbrev pub HolderHasEndedLog : Option Tracker → Option Tracker → ℕ → Type 0
HolderHasEndedLog None new code = (code ≡ 4) × (new ≡ None)
HolderHasEndedLog (Some s) new code = (t : Tracker) × (new ≡ Some t) × HasEndedLog s t code
