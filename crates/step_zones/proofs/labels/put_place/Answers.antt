use Rattle.step_zones.proofs.Ranked.{found_named}
use Rattle.step_zones.proofs.Alone.{place_none, place_found}
use Rattle.step_zones.proofs.labels.put_place.Goals as goal

pub returns-in_ok-push : goal.returns-in_ok-push
returns-in_ok-push c = λ _.
    let found = c.in-Some.ensures in
    place_found c.args.asked.now c.args.places.now.items c.push.new.self.items c.args.v c.in-Some.place found.0 c.requires.rising found.1 (found_named c.args.v c.args.asked.now found.0 found.2) c.in_ok-push.ensures.items

pub returns-in_default : goal.returns-in_default
returns-in_default c = λ _. place_none c.args.asked.now c.args.places.now.items c.args.v c.in_default.ensures
