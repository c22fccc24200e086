use Rattle.std.proofs.Common.{◌≡◌, ◌^◌, ◌<◌, true, Option, Some, map, length, is_some, refl, sym, ap, subst, ◌∙◌, arith}
use Rattle.std.specs.Option.{option_map}
use Rattle.std.proofs.lemmas.List.{length-map}
use Rattle.std.specs.FinMap as finite
use Rattle.slab.specs.Slab.{get}
use Rattle.half_mesh.specs.declared.halves.Half.{Half}
use Rattle.half_mesh.specs.declared.row.Row.{Row}
use Rattle.id_table.specs.Stock.{Stock}
use Rattle.half_mesh.specs.Ground.{Ground}
use Rattle.half_mesh.specs.Fans.{Fan, Side, put_spoke, IsOutside}
use Rattle.half_mesh.specs.Walks.{woven_of, spoke_of, side_of}
use Rattle.half_mesh.proofs.SidesAt.{side_at-woven, half-of}
use Rattle.half_mesh.proofs.Fanned.{fanned-insert, woven-insert, fan-at, fan-fanned, spokes_at-row, row_there}
use Rattle.half_mesh.proofs.Relinked.{IsRelinked, moved_row, relinked}
use Rattle.half_mesh.proofs.fans.Fans.relink.Goals as goal

some_side : (o : Option Half) (side : Side) → option_map side_of o ≡ Some side → is_some o ≡ true
some_side o side e = let h = half-of o side e in ap is_some h.1

pub unwrap-row-requires : goal.unwrap-row-requires
unwrap-row-requires c = rw c.get.ensures (row_there c.self.inside.rows.live c.self.inside.halves c.args.self.now.woven c.args.v (ap (λ (x : Ground). x.woven) c.self.view_is) (ap is_some c.requires.can.at))

pub link-first-requires-clause-few : goal.link-first-requires-clause-few
link-first-requires-clause-few c =
    let s = c.self.inside.halves in
    let row = c.unwrap-row.result in
    let there : Some row ≡ finite.get c.self.inside.rows.live c.args.v = sym c.unwrap-row.ensures ∙ c.get.ensures in
    let f = c.self.invariant c.args.v row (sym there) in
    let long = ap length (spokes_at-row c.self.inside.rows.live s c.args.self.now.woven c.args.v row f (ap (λ (x : Ground). x.woven) c.self.view_is) there) ∙ length-map f.halves spoke_of ∙ f.count in
    let few = c.requires.few in
    omega (arith, long, few)

-- what is put back
the_relinked : (c : goal.After-set) → IsRelinked c.self.inside.halves c.link-first.new.halves c.args.v c.unwrap-row.result (moved_row c.unwrap-row.result c.link-first.result) (record { face = c.unwrap-half.result.face; to = c.unwrap-half.result.to })
the_relinked c =
    let s = c.self.inside.halves in
    let view = ap (λ (x : Ground). x.woven) c.self.view_is in
    let row = c.unwrap-row.result in
    let h = c.unwrap-half.result in
    let there : Some row ≡ finite.get c.self.inside.rows.live c.args.v = sym c.unwrap-row.ensures ∙ c.get.ensures in
    let f = c.self.invariant c.args.v row (sym there) in
    let held : get s c.args.key ≡ Some h = sym c.get-2.ensures ∙ sym c.copied.ensures ∙ c.unwrap-half.ensures in
    let can = c.requires.can in
    let is : Some (side_of h) ≡ Some can.side = sym (ap (option_map side_of) held) ∙ sym (side_at-woven c.self.inside.rows.live s c.args.self.now.woven c.args.key view) ∙ can.there in
    let side : side_of h ≡ can.side = cc in
    let fan : record { vertex = row.vertex; spokes = map spoke_of f.halves } ≡ can.fan = sym (fan-fanned s c.args.v row f) ∙ fan-at c.self.inside.rows.live s c.args.self.now.woven c.args.v row can.fan view there can.at in
    let outside : IsOutside h.face (map spoke_of f.halves) = subst (λ n. IsOutside n (map spoke_of f.halves)) (ap (λ (x : Side). x.face) (sym side)) (subst (λ (x : Fan). IsOutside can.side.face x.spokes) (sym fan) can.outside) in
    relinked s c.link-first.new.halves c.args.v row c.args.key h f held (ap (λ (x : Side). x.origin) side ∙ can.of_v) (subst (λ (x : Side). x.face < 2 ^ 32) (sym side) can.small) c.link-first.result outside c.link-first.ensures

pub invariant_of-self : goal.invariant_of-self
invariant_of-self c =
    let r = the_relinked c in
    rw (ap (λ (x : Stock Row). x.live) c.set.ensures) (fanned-insert c.self.inside.rows.live c.self.inside.halves c.link-first.new.halves c.args.v (moved_row c.unwrap-row.result c.link-first.result) c.self.invariant r.fanned r.others)

pub returns-clause-sides : goal.returns-clause-sides
returns-clause-sides c = λ other.
    side_at-woven c.self.inside.rows.live c.link-first.new.halves (woven_of c.self.inside.rows.live c.link-first.new.halves) other refl
    ∙ c.link-first.ensures.sides other
    ∙ sym (side_at-woven c.self.inside.rows.live c.self.inside.halves c.args.self.now.woven other (ap (λ (x : Ground). x.woven) c.self.view_is))

pub returns-clause-fans : goal.returns-clause-fans
returns-clause-fans c = λ fan side is at.
    let s = c.self.inside.halves in
    let t = c.link-first.new.halves in
    let view = ap (λ (x : Ground). x.woven) c.self.view_is in
    let row = c.unwrap-row.result in
    let h = c.unwrap-half.result in
    let there : Some row ≡ finite.get c.self.inside.rows.live c.args.v = sym c.unwrap-row.ensures ∙ c.get.ensures in
    let held : get s c.args.key ≡ Some h = sym c.get-2.ensures ∙ sym c.copied.ensures ∙ c.unwrap-half.ensures in
    let both : Some (side_of h) ≡ Some side = sym (ap (option_map side_of) held) ∙ sym (side_at-woven c.self.inside.rows.live s c.args.self.now.woven c.args.key view) ∙ at in
    let same : side_of h ≡ side = cc in
    let fan_is = fan-at c.self.inside.rows.live s c.args.self.now.woven c.args.v row fan view there is in
    let r = the_relinked c in
    rw (ap (λ (x : Stock Row). x.live) c.set.ensures) (
    woven-insert c.self.inside.rows.live s t c.args.v (moved_row row c.link-first.result) (record { vertex = fan.vertex; spokes = put_spoke (record { face = side.face; to = side.to }) fan.spokes }) c.self.invariant
    (r.fan
    ∙ ap (λ (x : Fan). record { vertex = x.vertex; spokes = put_spoke (record { face = h.face; to = h.to }) x.spokes }) fan_is
    ∙ ap (λ (x : Side). record { vertex = fan.vertex; spokes = put_spoke (record { face = x.face; to = x.to }) fan.spokes }) same)
    r.others
    ∙ ap (λ fans. finite.insert fans c.args.v (record { vertex = fan.vertex; spokes = put_spoke (record { face = side.face; to = side.to }) fan.spokes })) (ap (λ (x : Ground). x.woven.fans) c.self.view_is))
