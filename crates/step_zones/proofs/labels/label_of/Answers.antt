use Rattle.step_zones.proofs.Ranked.{label_found, label_none, found_named}
use Rattle.step_zones.proofs.labels.label_of.Goals as goal

pub returns-in-Some : goal.returns-in-Some
returns-in-Some c =
    let found = c.in-Some.ensures in
    label_found c.args.asked.now c.args.labels.now c.args.v c.in-Some.place c.index-labels-place.result found.0 c.requires.rising c.requires.each found.1 (found_named c.args.v c.args.asked.now found.0 found.2) c.index-labels-place.is

pub returns-in-None : goal.returns-in-None
returns-in-None c = label_none c.args.asked.now c.args.labels.now c.args.v c.in-None.ensures
