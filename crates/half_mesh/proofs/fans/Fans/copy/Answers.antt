use Rattle.std.proofs.Common.{◌≡◌, ◌-◌, None, map, ap, sym, ◌∙◌}
use Rattle.std.specs.Prelude.{slice_index_or}
use Rattle.std.specs.Option.{option_map}
use Rattle.std.specs.FinMap as finite
use Rattle.slab.specs.Slab.{slab_len}
use Rattle.half_mesh.specs.Fans.{Woven}
use Rattle.half_mesh.specs.Mapped.{map_values}
use Rattle.id_table.specs.Stock.{Stock}
use Rattle.half_mesh.specs.declared.row.Row.{Row}
use Rattle.half_mesh.specs.Walks.{fan_of, side_of}
use Rattle.half_mesh.specs.Ground.{Ground}
use Rattle.half_mesh.proofs.Mapped.{map_values-alike}
use Rattle.half_mesh.proofs.Fanned.{fanned_stays, fan_stays}
use Rattle.half_mesh.proofs.fans.Fans.copy.Goals as goal

pub invariant_of-result : goal.invariant_of-result
invariant_of-result c =
    let s = c.self.inside.halves in
    let t = c.in_ok-copy-2.field-0 in
    let slots : t.slots ≡ s.slots = c.in_ok-copy-2.ensures in
    let rows : c.in_ok-copy.field-0.live ≡ c.self.inside.rows.live = ap (λ (x : Stock Row). x.live) c.in_ok-copy.ensures in
    λ v row there. fanned_stays s t v row (λ k h at of_v. ap (λ xs. slice_index_or xs k None) slots ∙ at) (c.self.invariant v row (ap (λ m. finite.get m v) (sym rows) ∙ there))

pub returns : goal.returns
returns c =
    let s = c.self.inside.halves in
    let t = c.in_ok-copy-2.field-0 in
    let slots : t.slots ≡ s.slots = c.in_ok-copy-2.ensures in
    let rows : c.in_ok-copy.field-0.live ≡ c.self.inside.rows.live = ap (λ (x : Stock Row). x.live) c.in_ok-copy.ensures in
    let fans = ap (map_values (fan_of t)) rows
    ∙ map_values-alike (fan_of s) (fan_of t) c.self.inside.rows.live (λ q z there. fan_stays s t q z (λ k h at of_q. ap (λ xs. slice_index_or xs k None) slots ∙ at) (c.self.invariant q z there))
    ∙ ap (λ (w : Woven). w.fans) (ap (λ (x : Ground). x.woven) c.self.view_is) in
    let sides = ap (map (option_map side_of)) slots ∙ ap (λ (w : Woven). w.sides) (ap (λ (x : Ground). x.woven) c.self.view_is) in
    let buried = ap (λ (x : Stock Row). map_values (λ r. r.vertex) x.buried) c.in_ok-copy.ensures ∙ ap (λ (x : Ground). x.buried) c.self.view_is in
    λ i. record { woven = record { fans = fans i; sides = sides i; room = t.capacity - slab_len t }; buried = buried i; seats = c.in_ok-copy.field-0.room }
