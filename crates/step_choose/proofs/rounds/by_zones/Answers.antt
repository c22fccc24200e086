use Rattle.std.proofs.Common.{◌≡◌, Bool, not, true, false, Some, None, refl, sym, ◌∙◌}
use Rattle.std.proofs.lemmas.Bool.{false≢true}
use Rattle.step_choose.proofs.Ways.{zones_off, zones_on}
use Rattle.step_choose.proofs.rounds.by_zones.Goals as goal

is_off : (b : Bool) → not b ≡ true → b ≡ false
is_off true h = absurd (false≢true h)
is_off false h = refl

is_on : (b : Bool) → not b ≡ false → b ≡ true
is_on true h = refl
is_on false h = absurd (false≢true (sym h))

pub returns-then-not-set : goal.returns-then-not-set
returns-then-not-set g c = zones_off (g.S.Surface.mesh c.args.mesh.now) c.args.asked.now c.args.set.depth c.args.set.zones (is_off c.args.set.zones c.if-not-set.true)

pub returns-in-Some : goal.returns-in-Some
returns-in-Some g c =
    zones_on (g.S.Surface.mesh c.args.mesh.now) c.args.asked.now c.args.set.depth c.args.set.zones (Some c.in-Some.round) (is_on c.args.set.zones c.if-not-set.false) (sym c.in-Some.is ∙ c.in_ok-round.ensures.zoned)

pub returns-in-None : goal.returns-in-None
returns-in-None g c =
    zones_on (g.S.Surface.mesh c.args.mesh.now) c.args.asked.now c.args.set.depth c.args.set.zones None (is_on c.args.set.zones c.if-not-set.false) (sym c.in-None.is ∙ c.in_ok-round.ensures.zoned)
