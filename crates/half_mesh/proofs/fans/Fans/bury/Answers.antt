use Rattle.std.proofs.Common.{refl, ap, sym, ◌∙◌}
use Rattle.std.specs.FinMap as finite
use Rattle.half_mesh.specs.declared.row.Row.{Row}
use Rattle.id_table.specs.Stock.{Stock}
use Rattle.half_mesh.specs.Ground.{Ground}
use Rattle.half_mesh.specs.Fans.{Fan, Woven}
use Rattle.half_mesh.specs.Mapped.{map_values}
use Rattle.half_mesh.specs.Walks.{fan_of, woven_of}
use Rattle.id_table.proofs.BuriedItems.{some_of}
use Rattle.half_mesh.proofs.Grounds.{ground_same}
use Rattle.half_mesh.proofs.Mapped.{map_values-remove, map_values-insert}
use Rattle.half_mesh.proofs.Fanned.{fanned-remove, row_there, fan-at}
use Rattle.half_mesh.proofs.fans.Fans.bury.Goals as goal

pub bury-requires : goal.bury-requires
bury-requires c = row_there c.self.inside.rows.live c.self.inside.halves c.args.self.now.woven c.args.v (ap (λ (x : Ground). x.woven) c.self.view_is) c.requires

pub invariant_of-self : goal.invariant_of-self
invariant_of-self c =
    let (row, there) = some_of (finite.get c.self.inside.rows.live c.args.v) (row_there c.self.inside.rows.live c.self.inside.halves c.args.self.now.woven c.args.v (ap (λ (x : Ground). x.woven) c.self.view_is) c.requires) in
    rw (ap (λ (x : Stock Row). x.live) (c.bury.ensures row there)) (fanned-remove c.self.inside.rows.live c.self.inside.halves c.args.v c.self.invariant)

pub returns : goal.returns
returns c = λ fan is.
    let s = c.self.inside.halves in
    let view = ap (λ (x : Ground). x.woven) c.self.view_is in
    let (row, there) = some_of (finite.get c.self.inside.rows.live c.args.v) (row_there c.self.inside.rows.live c.self.inside.halves c.args.self.now.woven c.args.v (ap (λ (x : Ground). x.woven) c.self.view_is) c.requires) in
    let same = ap (λ (f : Fan). f.vertex) (fan-at c.self.inside.rows.live s c.args.self.now.woven c.args.v row fan view (sym there) is) in
    ground_same _ _ _ _ _ _
    (ap (λ (x : Stock Row). woven_of x.live s) (c.bury.ensures row there) ∙ ap (λ fans. record (woven_of c.self.inside.rows.live s) { fans = fans }) (map_values-remove (fan_of s) c.self.inside.rows.live c.args.v) ∙ ap (λ (w : Woven). record w { fans = finite.remove w.fans c.args.v }) view)
    (ap (λ (x : Stock Row). map_values (λ (r : Row). r.vertex) x.buried) (c.bury.ensures row there) ∙ map_values-insert (λ (r : Row). r.vertex) (λ (r : Row). r.vertex) c.self.inside.rows.buried c.args.v row fan.vertex same (λ q z apart at. refl) ∙ ap (λ (x : Ground). finite.insert x.buried c.args.v fan.vertex) c.self.view_is)
    (ap (λ (x : Stock Row). x.room) (c.bury.ensures row there) ∙ ap (λ (x : Ground). x.seats) c.self.view_is)
