use Rattle.log_text.specs.Lines.{place_words}
use Rattle.log_text.proofs.Spaced.{Spacing-first, Spacing-some, places_drop}
use Rattle.log_text.proofs.fields.put_places.Goals as goal

pub loop-place-init : goal.loop-place-init
loop-place-init c = Spacing-first _ _

pub loop-place-preserved : goal.loop-place-preserved
loop-place-preserved c =
    let next = places_drop c.args.places.now c.loop-place.place-index c.place-item.result c.place-item.is c.loop-place-test.true in
    Spacing-some _ _ (place_words c.place-item.result) _ _ _ _ c.loop-place.invariant next c.in_ok-put_place.ensures.ok
