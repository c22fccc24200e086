use Rattle.std.proofs.Common.{◌≡◌, ap, sym, ◌∙◌, is_some}
use Rattle.half_mesh.specs.declared.row.Row.{Row}
use Rattle.half_mesh.specs.Walks.{fan_of, woven_of}
use Rattle.std.specs.FinMap as finite
use Rattle.half_mesh.specs.Mapped.{map_values}
use Rattle.half_mesh.proofs.Grounds.{ground_same}
use Rattle.half_mesh.specs.Fans.{Fan, Woven}
use Rattle.half_mesh.specs.Ground.{Ground}
use Rattle.id_table.specs.Stock.{Stock}
use Rattle.half_mesh.proofs.Fanned.{fanned-insert, woven-insert, fan-at, no_fan}
use Rattle.half_mesh.proofs.fans.Fans.set.Goals as goal

pub set-requires : goal.set-requires
set-requires c = ap is_some (sym c.in-Some.ensures)

pub invariant_of-self : goal.invariant_of-self
invariant_of-self c =
    let s = c.self.inside.halves in
    let f = c.self.invariant c.args.v c.in-Some.row (sym c.in-Some.ensures) in
    rw (ap (λ (x : Stock Row). x.live) c.set.ensures) (fanned-insert c.self.inside.rows.live s s c.args.v _ c.self.invariant (record { halves = f.halves; chain = f.chain; count = f.count }) (λ q apart k h there of_q. there))

pub returns-in-Some : goal.returns-in-Some
returns-in-Some c = λ fan is.
    let s = c.self.inside.halves in
    let row = c.in-Some.row in
    let moved : Row = record row { vertex = c.args.vertex } in
    let was : fan_of s row ≡ fan = fan-at c.self.inside.rows.live s c.args.self.now.woven c.args.v row fan (ap (λ (x : Ground). x.woven) c.self.view_is) c.in-Some.ensures is in
    ground_same _ _ _ _ _ _ (
    ap (λ (x : Stock Row). woven_of x.live s) c.set.ensures
    ∙ ap (λ fans. record (woven_of c.self.inside.rows.live s) { fans = fans }) (woven-insert c.self.inside.rows.live s s c.args.v moved (record fan { vertex = c.args.vertex }) c.self.invariant (ap (λ (f : Fan). record { vertex = c.args.vertex; spokes = f.spokes }) was) (λ q apart k h there of_q. there))
    ∙ ap (λ (w : Woven). record w { fans = finite.insert w.fans c.args.v (record fan { vertex = c.args.vertex }) }) (ap (λ (x : Ground). x.woven) c.self.view_is))
    (ap (λ (x : Stock Row). map_values (λ r. r.vertex) x.buried) c.set.ensures ∙ ap (λ (x : Ground). x.buried) c.self.view_is)
    (ap (λ (x : Stock Row). x.room) c.set.ensures ∙ ap (λ (x : Ground). x.seats) c.self.view_is)

pub returns-in_default : goal.returns-in_default
returns-in_default c = λ fan is. let none = no_fan c.self.inside.rows.live c.self.inside.halves c.args.self.now.woven c.args.v (ap (λ (x : Ground). x.woven) c.self.view_is) c.in_default.ensures in cc
