use Rattle.std.proofs.Common.{◌≡◌, ◌<◌, ◌+◌, ◌++◌, ◌∷◌, [], ℕ, List, length, take, get_or, refl, subst, sym, arith}
use Rattle.std.proofs.lemmas.List.{take_more, take_all}
use Rattle.step_zones.specs.Ranks.{HasPlaces}
use Rattle.step_zones.proofs.Alone.{no_places, places_more}
use Rattle.step_zones.proofs.labels.put_places.Goals as goal

pub loop-v-init : goal.loop-v-init
loop-v-init c = no_places c.args.asked.now c.args.places.now.items

pub loop-v-preserved : goal.loop-v-preserved
loop-v-preserved c =
    let five : List ℕ = c.args.five.now in
    let k = c.loop-v.v-index in
    let v = get_or five k c.v-item.result in
    let inside : k < length five = omega (arith, c.told-five, c.loop-v-test.true) in
    let more : take k five ++ v ∷ [] ≡ take (k + 1) five = sym (take_more five k c.v-item.result inside) in
    subst (λ vs. HasPlaces c.args.asked.now vs c.args.places.now.items c.put_place.new.places.items) more
    (places_more c.args.asked.now (take k five) c.args.places.now.items c.loop-v.places.items c.put_place.new.places.items v c.loop-v.invariant (c.in_ok-put_place.ensures refl))

pub returns : goal.returns
returns c = λ _.
    subst (λ vs. HasPlaces c.args.asked.now vs c.args.places.now.items c.loop-v.places.items)
    (take_all c.loop-v.v-index c.args.five.now (omega (arith, c.told-five, c.loop-v-test.false)))
    c.loop-v.invariant
