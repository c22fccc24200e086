use Rattle.std.proofs.Common.{◌≡◌, ◌<◌, ◌^◌, Some, None, length, sym, ap, subst, ◌∙◌}
use Rattle.half_mesh.specs.Fans.{Side, side_at, IsOutside}
use Rattle.half_mesh.specs.Tied.{next_at}
use Rattle.half_mesh.proofs.Rings.{has-put_spoke}
use Rattle.half_mesh.proofs.Raised.{can-relink, raised-made}
use Rattle.half_mesh.proofs.burial.raise_ring.Goals as goal

pub relink-requires-clause-can : goal.relink-requires-clause-can
relink-requires-clause-can c =
    let w0 = c.args.fans.now.woven in
    let ring = c.requires.ring in
    let live = c.requires.live in
    let d = c.requires.different in
    can-relink w0 c.args.a c.args.key c.args.id c.args.b ring.second ring.at_first live.0 c.ranges.id.fits (c.requires.outside c.args.a)

pub relink-requires-2-clause-can : goal.relink-requires-2-clause-can
relink-requires-2-clause-can c =
    let w0 = c.args.fans.now.woven in
    let ring = c.requires.ring in
    let live = c.requires.live in
    let d = c.requires.different in
    let key2 : c.side-first.result.next ≡ ring.second = c.side-first.ensures.next ∙ ap (λ o. elim o [ None ↦ 0 | Some side ↦ side.next ]) ring.at_first in
    let w1 = c.relink.new.self.woven in
    let side1 : Side = record { origin = c.args.a; to = c.args.b; face = c.args.id; next = ring.second } in
    let a1 = has-put_spoke w0.fans w1.fans c.args.a (record { face = c.args.id; to = c.args.b }) (λ fan is. c.relink.ensures.fans fan side1 is ring.at_first) live.0 in
    let side2 : Side = record { origin = c.args.b; to = c.args.c; face = c.args.id; next = ring.third } in
    let at2 : side_at w1.sides c.side-first.result.next ≡ Some side2 = c.relink.ensures.sides c.side-first.result.next ∙ ap (side_at w0.sides) key2 ∙ ring.at_second in
    can-relink w1 c.args.b c.side-first.result.next c.args.id c.args.c ring.third at2 (a1.live c.args.b live.1) c.ranges.id.fits (subst (IsOutside c.args.id) (sym (a1.others c.args.b (λ same. d.first_second (sym same)))) (c.requires.outside c.args.b))

pub relink-requires-2-clause-few : goal.relink-requires-2-clause-few
relink-requires-2-clause-few c =
    let w0 = c.args.fans.now.woven in
    let ring = c.requires.ring in
    let live = c.requires.live in
    let d = c.requires.different in
    let key2 : c.side-first.result.next ≡ ring.second = c.side-first.ensures.next ∙ ap (λ o. elim o [ None ↦ 0 | Some side ↦ side.next ]) ring.at_first in
    let w1 = c.relink.new.self.woven in
    let side1 : Side = record { origin = c.args.a; to = c.args.b; face = c.args.id; next = ring.second } in
    let a1 = has-put_spoke w0.fans w1.fans c.args.a (record { face = c.args.id; to = c.args.b }) (λ fan is. c.relink.ensures.fans fan side1 is ring.at_first) live.0 in
    let side2 : Side = record { origin = c.args.b; to = c.args.c; face = c.args.id; next = ring.third } in
    let at2 : side_at w1.sides c.side-first.result.next ≡ Some side2 = c.relink.ensures.sides c.side-first.result.next ∙ ap (side_at w0.sides) key2 ∙ ring.at_second in
    subst (λ ss. length ss < 2 ^ 31) (sym (a1.others c.args.b (λ same. d.first_second (sym same)))) (c.requires.few c.args.b)

pub relink-requires-3-clause-can : goal.relink-requires-3-clause-can
relink-requires-3-clause-can c =
    let w0 = c.args.fans.now.woven in
    let ring = c.requires.ring in
    let live = c.requires.live in
    let d = c.requires.different in
    let key2 : c.side-first.result.next ≡ ring.second = c.side-first.ensures.next ∙ ap (λ o. elim o [ None ↦ 0 | Some side ↦ side.next ]) ring.at_first in
    let key3 : c.side-second.result.next ≡ ring.third = c.side-second.ensures.next ∙ ap (next_at w0.sides) key2 ∙ ap (λ o. elim o [ None ↦ 0 | Some side ↦ side.next ]) ring.at_second in
    let w1 = c.relink.new.self.woven in
    let side1 : Side = record { origin = c.args.a; to = c.args.b; face = c.args.id; next = ring.second } in
    let a1 = has-put_spoke w0.fans w1.fans c.args.a (record { face = c.args.id; to = c.args.b }) (λ fan is. c.relink.ensures.fans fan side1 is ring.at_first) live.0 in
    let side2 : Side = record { origin = c.args.b; to = c.args.c; face = c.args.id; next = ring.third } in
    let at2 : side_at w1.sides c.side-first.result.next ≡ Some side2 = c.relink.ensures.sides c.side-first.result.next ∙ ap (side_at w0.sides) key2 ∙ ring.at_second in
    let w2 = c.relink-2.new.self.woven in
    let a2 = has-put_spoke w1.fans w2.fans c.args.b (record { face = c.args.id; to = c.args.c }) (λ fan is. c.relink-2.ensures.fans fan side2 is at2) (a1.live c.args.b live.1) in
    let side3 : Side = record { origin = c.args.c; to = c.args.a; face = c.args.id; next = c.args.key } in
    let at3 : side_at w2.sides c.side-second.result.next ≡ Some side3 = c.relink-2.ensures.sides c.side-second.result.next ∙ c.relink.ensures.sides c.side-second.result.next ∙ ap (side_at w0.sides) key3 ∙ ring.at_third in
    can-relink w2 c.args.c c.side-second.result.next c.args.id c.args.a c.args.key at3 (a2.live c.args.c (a1.live c.args.c live.2)) c.ranges.id.fits (subst (IsOutside c.args.id) (sym (a2.others c.args.c (λ same. d.second_third (sym same)) ∙ a1.others c.args.c d.third_first)) (c.requires.outside c.args.c))

pub relink-requires-3-clause-few : goal.relink-requires-3-clause-few
relink-requires-3-clause-few c =
    let w0 = c.args.fans.now.woven in
    let ring = c.requires.ring in
    let live = c.requires.live in
    let d = c.requires.different in
    let key2 : c.side-first.result.next ≡ ring.second = c.side-first.ensures.next ∙ ap (λ o. elim o [ None ↦ 0 | Some side ↦ side.next ]) ring.at_first in
    let key3 : c.side-second.result.next ≡ ring.third = c.side-second.ensures.next ∙ ap (next_at w0.sides) key2 ∙ ap (λ o. elim o [ None ↦ 0 | Some side ↦ side.next ]) ring.at_second in
    let w1 = c.relink.new.self.woven in
    let side1 : Side = record { origin = c.args.a; to = c.args.b; face = c.args.id; next = ring.second } in
    let a1 = has-put_spoke w0.fans w1.fans c.args.a (record { face = c.args.id; to = c.args.b }) (λ fan is. c.relink.ensures.fans fan side1 is ring.at_first) live.0 in
    let side2 : Side = record { origin = c.args.b; to = c.args.c; face = c.args.id; next = ring.third } in
    let at2 : side_at w1.sides c.side-first.result.next ≡ Some side2 = c.relink.ensures.sides c.side-first.result.next ∙ ap (side_at w0.sides) key2 ∙ ring.at_second in
    let w2 = c.relink-2.new.self.woven in
    let a2 = has-put_spoke w1.fans w2.fans c.args.b (record { face = c.args.id; to = c.args.c }) (λ fan is. c.relink-2.ensures.fans fan side2 is at2) (a1.live c.args.b live.1) in
    let side3 : Side = record { origin = c.args.c; to = c.args.a; face = c.args.id; next = c.args.key } in
    let at3 : side_at w2.sides c.side-second.result.next ≡ Some side3 = c.relink-2.ensures.sides c.side-second.result.next ∙ c.relink.ensures.sides c.side-second.result.next ∙ ap (side_at w0.sides) key3 ∙ ring.at_third in
    subst (λ ss. length ss < 2 ^ 31) (sym (a2.others c.args.c (λ same. d.second_third (sym same)) ∙ a1.others c.args.c d.third_first)) (c.requires.few c.args.c)

pub returns-clause-raised : goal.returns-clause-raised
returns-clause-raised c =
    let w0 = c.args.fans.now.woven in
    let ring = c.requires.ring in
    let live = c.requires.live in
    let d = c.requires.different in
    let key2 : c.side-first.result.next ≡ ring.second = c.side-first.ensures.next ∙ ap (λ o. elim o [ None ↦ 0 | Some side ↦ side.next ]) ring.at_first in
    let key3 : c.side-second.result.next ≡ ring.third = c.side-second.ensures.next ∙ ap (next_at w0.sides) key2 ∙ ap (λ o. elim o [ None ↦ 0 | Some side ↦ side.next ]) ring.at_second in
    let w1 = c.relink.new.self.woven in
    let side1 : Side = record { origin = c.args.a; to = c.args.b; face = c.args.id; next = ring.second } in
    let a1 = has-put_spoke w0.fans w1.fans c.args.a (record { face = c.args.id; to = c.args.b }) (λ fan is. c.relink.ensures.fans fan side1 is ring.at_first) live.0 in
    let side2 : Side = record { origin = c.args.b; to = c.args.c; face = c.args.id; next = ring.third } in
    let at2 : side_at w1.sides c.side-first.result.next ≡ Some side2 = c.relink.ensures.sides c.side-first.result.next ∙ ap (side_at w0.sides) key2 ∙ ring.at_second in
    let w2 = c.relink-2.new.self.woven in
    let a2 = has-put_spoke w1.fans w2.fans c.args.b (record { face = c.args.id; to = c.args.c }) (λ fan is. c.relink-2.ensures.fans fan side2 is at2) (a1.live c.args.b live.1) in
    let side3 : Side = record { origin = c.args.c; to = c.args.a; face = c.args.id; next = c.args.key } in
    let at3 : side_at w2.sides c.side-second.result.next ≡ Some side3 = c.relink-2.ensures.sides c.side-second.result.next ∙ c.relink.ensures.sides c.side-second.result.next ∙ ap (side_at w0.sides) key3 ∙ ring.at_third in
    let w3 = c.relink-3.new.self.woven in
    let a3 = has-put_spoke w2.fans w3.fans c.args.c (record { face = c.args.id; to = c.args.a }) (λ fan is. c.relink-3.ensures.fans fan side3 is at3) (a2.live c.args.c (a1.live c.args.c live.2)) in
    raised-made w0 w1 w2 w3 c.args.id (record { first = c.args.a; second = c.args.b; third = c.args.c }) d a1 a2 a3 c.relink.ensures.sides c.relink-2.ensures.sides c.relink-3.ensures.sides
