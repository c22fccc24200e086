-- What a log tells, as numbers.
use Rattle.std.specs.Prelude.{ℕ, pos, Bool, if◌then◌else◌}
use Rattle.std.specs.Prelude.{List, [], ◌∷◌, map}
use Rattle.std.specs.List.{flat_map}
use Rattle.grid_base.specs.declared.Point.{Point}
use Rattle.edit_base.specs.declared.CopyAt.{CopyAt}
use Rattle.edit_base.specs.declared.Change.{Change}
use Rattle.edit_base.specs.declared.Change.TheVariants as change
use Rattle.log_text.specs.declared.LogLine.{LogLine}
use Rattle.log_text.specs.declared.LogLine.TheVariants as line
use Rattle.track_held.specs.declared.events.Event.{Event}

-- an event with no place
abbrev pub event_of : ℕ → ℕ → ℕ → ℕ → ℕ → Event
event_of kind a b c d =
    record { kind = kind; a = a; b = b; c = c; d = d; x = pos 0; y = pos 0; z = pos 0 }

-- an event at a place
abbrev pub event_at : ℕ → ℕ → ℕ → ℕ → Point → Event
event_at kind a b c at =
    record { kind = kind; a = a; b = b; c = c; d = 0; x = at.x; y = at.y; z = at.z }

-- a copy of a vertex: 6, the vertex, the copy, and where it stands
abbrev pub copy_event : ℕ → CopyAt → Event
copy_event v copy = event_at 6 v copy.w 0 copy.at

-- A done edit. 2: the edge from a to b is split at the new vertex c. 3: the edge from a to b is
-- flipped. 4: the edge from a to b is drawn together into a. 5: the edges from a to b and from c to
-- d are zipped. 6: the vertex a is pinched, and stands at a place; then its copies.
abbrev pub edit_events : Change → List Event
edit_events (change.Split a b w at) = event_at 2 a b w at ∷ []
edit_events (change.Flip a b) = event_of 3 a b 0 0 ∷ []
edit_events (change.Collapse a b at) = event_at 4 a b 0 at ∷ []
edit_events (change.Zip a b e f turn) = event_of 5 a b e f ∷ []
edit_events (change.Pinch v at copies) = event_at 6 v v 0 at ∷ map (copy_event v) copies

-- a group that ends is kept, or taken back
abbrev pub closing_kind : Bool → ℕ
closing_kind kept = if kept then 9 else 10

-- What a line tells: 1, a vertex and the shift by which it moves; a done edit; 7, a vertex that is
-- made solid; 8, a group that begins; 9, a group that is kept; 10, one that is taken back. Other
-- lines tell of nothing that changes.
abbrev pub line_events : LogLine → List Event
line_events (line.Move s) =
    record { kind = 1; a = s.v; b = 0; c = 0; d = 0; x = s.by.x; y = s.by.y; z = s.by.z } ∷ []
line_events (line.Did done) = edit_events done
line_events (line.Solid v) = event_of 7 v 0 0 0 ∷ []
line_events line.Group = event_of 8 0 0 0 0 ∷ []
line_events (line.Close kept) = event_of (closing_kind kept) 0 0 0 0 ∷ []
line_events _ = []

-- all that lines tell, in order
abbrev pub log_events : List LogLine → List Event
log_events lines = flat_map line_events lines
