use Rattle.std.proofs.Common.{drop}
use Rattle.log_text.specs.Lines.{places_words}
use Rattle.log_text.proofs.Spaced.{Spacing}
use Rattle.log_text.proofs.fields.put_places.Given as goal

abbrev pub invariant-loop-place : goal.invariant-loop-place
invariant-loop-place l = Spacing l.initial.into.items (places_words l.places) (places_words (drop l.place-index l.places)) l.into.items
