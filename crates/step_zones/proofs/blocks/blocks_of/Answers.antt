use Rattle.std.proofs.Common.{◌≡◌, ℕ, ◌==◌, ◌&&◌, Bool, List, nat_lt, map, length, get_or, refl, ap, sym, ◌∙◌}
use Rattle.std.specs.List.{filter}
use Rattle.mesh_base.specs.declared.steps.ShiftOf.{ShiftOf}
use Rattle.step_zones.specs.declared.totals.Total.{Total}
use Rattle.step_zones.specs.Ranks.{label_by}
use Rattle.step_zones.specs.Totals.{total_of}
use Rattle.step_zones.proofs.Listing.{made_more, made_skip, made_all}
use Rattle.step_zones.proofs.Summed.{label_at, place_made, read_mapped}
use Rattle.std.proofs.lemmas.Option.{slice_get_read}
use Rattle.step_zones.proofs.blocks.blocks_of.Goals as goal
use Rattle.step_zones.proofs.blocks.blocks_of.Goals.{then-is_head+in_ok-push_members, else-is_head}

pub loop-i-preserved : goal.loop-i-preserved
loop-i-preserved g c =
    let m = g.S.Surface.mesh c.args.mesh.now in
    let at = label_by c.args.asked.now c.args.labels.now in
    let s : ShiftOf = c.index-asked-i.result in
    let test : ℕ → Bool = λ v. (at v == v) && nat_lt 1 (total_of m at v c.args.asked.now).count in
    let block : ℕ → List ℕ = λ v. filter (λ u. at u == v) (map (λ x. x.v) c.args.asked.now) in
    let label : c.index-labels-i.result ≡ at s.v = label_at c.args.asked.now c.args.labels.now c.requires.rising c.requires.each c.loop-i.i c.index-labels-i.result s c.loop-i-test.true c.index-asked-i.is c.index-labels-i.is in
    let total : c.index.result.now ≡ total_of m at s.v c.args.asked.now =
    c.index.ensures ∙ ap (λ (l : List Total). get_or l c.loop-i.i c.index.result.now) c.in_ok-totals.ensures
    ∙ read_mapped (λ (x : ShiftOf). total_of m at x.v c.args.asked.now) c.args.asked.now c.loop-i.i s c.index.result.now (slice_get_read c.args.asked.now (length c.args.asked.now) c.loop-i.i s refl c.loop-i-test.true c.index-asked-i.is) in
    let is : test s.v ≡ c.is_head.result = (λ i. (sym label i == s.v) && nat_lt 1 (sym total i).count) ∙ sym c.is_head.ensures in
    elim c.if-is_head.branch [
      | then-is_head+in_ok-push_members w ↦
          made_more block test c.args.asked.now c.loop-i.i s (block s.v) c.loop-i.blocks c.if-is_head.blocks _ c.loop-i-test.true c.index-asked-i.is (is ∙ w.if-is_head.true) refl
          (w.blocks-is ∙ w.in_ok-push_members.ensures) c.loop-i.invariant
      | else-is_head w ↦ made_skip block test c.args.asked.now c.loop-i.i s c.loop-i.blocks c.if-is_head.blocks _ c.loop-i-test.true c.index-asked-i.is (is ∙ w.if-is_head.false) w.blocks-is c.loop-i.invariant
    ]

pub index-requires : goal.index-requires
index-requires g c =
    let m = g.S.Surface.mesh c.args.mesh.now in
    let at = label_by c.args.asked.now c.args.labels.now in
    place_made (λ (x : ShiftOf). total_of m at x.v c.args.asked.now) c.args.asked.now c.in_ok-totals.totals.items c.in_ok-totals.totals.len c.loop-i.i c.in_ok-totals.totals.ok.0 c.in_ok-totals.ensures c.loop-i-test.true

pub returns : goal.returns
returns g c =
    let m = g.S.Surface.mesh c.args.mesh.now in
    let at = label_by c.args.asked.now c.args.labels.now in
    let test : ℕ → Bool = λ v. (at v == v) && nat_lt 1 (total_of m at v c.args.asked.now).count in
    let block : ℕ → List ℕ = λ v. filter (λ u. at u == v) (map (λ x. x.v) c.args.asked.now) in
    made_all block test c.args.asked.now c.loop-i.i c.loop-i.blocks _ c.loop-i-test.false c.loop-i.invariant
