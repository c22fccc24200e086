use Rattle.std.proofs.Common.{Some, refl, ap, sym, subst, ◌∙◌}
use Rattle.std.specs.Option.{option_map}
use Rattle.slab.specs.Slab.{get}
use Rattle.half_mesh.specs.Ground.{Ground}
use Rattle.half_mesh.specs.Fans.{Side, IsOutside}
use Rattle.half_mesh.specs.Walks.{side_of, fan_of, woven_of}
use Rattle.half_mesh.proofs.Mapped.{map_values-alike}
use Rattle.half_mesh.proofs.SidesAt.{side_at-woven, half-of}
use Rattle.half_mesh.proofs.Fanned.{spokes_at-row}
use Rattle.half_mesh.proofs.Freed.{fanned-outside, fan-outside}
use Rattle.half_mesh.proofs.fans.Fans.free.Goals as goal

pub invariant_of-self : goal.invariant_of-self
invariant_of-self c = λ v row there.
    let s = c.self.inside.halves in
    let g = c.self.invariant v row there in
    let out = subst (IsOutside c.args.face) (spokes_at-row c.self.inside.rows.live s c.args.self.now.woven v row g (ap (λ (x : Ground). x.woven) c.self.view_is) (sym there)) (c.requires v) in
    fanned-outside s c.free_half.new.halves v c.args.face row c.free_half.ensures.others g out

pub returns-clause-fans : goal.returns-clause-fans
returns-clause-fans c =
    let s = c.self.inside.halves in
    map_values-alike (fan_of s) (fan_of c.free_half.new.halves) c.self.inside.rows.live (λ v row there.
    let g = c.self.invariant v row there in
    let out = subst (IsOutside c.args.face) (spokes_at-row c.self.inside.rows.live s c.args.self.now.woven v row g (ap (λ (x : Ground). x.woven) c.self.view_is) (sym there)) (c.requires v) in
    fan-outside s c.free_half.new.halves v c.args.face row c.free_half.ensures.others g out)
    ∙ ap (λ (x : Ground). x.woven.fans) c.self.view_is

pub returns-clause-sides : goal.returns-clause-sides
returns-clause-sides c = λ k side there other.
    let s = c.self.inside.halves in
    let t = c.free_half.new.halves in
    let h = half-of (get s k) side (sym (side_at-woven c.self.inside.rows.live s c.args.self.now.woven k (ap (λ (x : Ground). x.woven) c.self.view_is)) ∙ there) in
    side_at-woven c.self.inside.rows.live t (woven_of c.self.inside.rows.live t) k refl
    ∙ ap (option_map side_of) (c.free_half.ensures.others k h.0 h.1 (λ of_f. other (sym (ap (λ (x : Side). x.face) h.2) ∙ of_f)))
    ∙ ap Some h.2
