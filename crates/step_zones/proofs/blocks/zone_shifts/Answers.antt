use Rattle.std.proofs.Common.{◌≡◌, map, ap, sym, subst, ◌∙◌, arith}
use Rattle.std.proofs.Common.{IsTrue}
use Rattle.mesh_base.proofs.ListLaws.{mapped_more}
use Rattle.mesh_base.specs.declared.steps.ShiftOf.{ShiftOf}
use Rattle.step_zones.specs.Chains.{is_one_of}
use Rattle.step_zones.specs.Ranks.{label_by}
use Rattle.step_zones.specs.Totals.{total_of, total_by, labelled_shift}
use Rattle.step_zones.proofs.Listing.{all_at}
use Rattle.step_zones.proofs.Summed.{FitsCount, total_fits, label_at}
use Rattle.step_zones.proofs.blocks.zone_shifts.Goals as goal

pub total_at-total-requires-clause-named : goal.total_at-total-requires-clause-named
total_at-total-requires-clause-named g c =
    all_at (λ l. IsTrue (is_one_of (map (λ (s : ShiftOf). s.v) c.args.asked.now) l)) c.args.labels.now c.loop-i.i c.index-labels-i.result c.requires.named (omega arith) c.index-labels-i.is

pub shift_by-requires : goal.shift_by-requires
shift_by-requires g c =
    let m = g.S.Surface.mesh c.args.mesh.now in
    let at = label_by c.args.asked.now c.args.labels.now in
    let is : c.total_at-total.result ≡ total_of m at c.index-labels-i.result c.args.asked.now = c.total_at-total.ensures (λ l. total_of m at l c.args.asked.now) (c.deref.ensures.value ∙ c.in_ok-totals.ensures) in
    (subst FitsCount (sym is) (total_fits m at c.index-labels-i.result c.args.asked.now)).sum

pub loop-i-preserved : goal.loop-i-preserved
loop-i-preserved g c =
    let m = g.S.Surface.mesh c.args.mesh.now in
    let at = label_by c.args.asked.now c.args.labels.now in
    let s : ShiftOf = c.index-asked-i.result in
    let label : c.index-labels-i.result ≡ at s.v = label_at c.args.asked.now c.args.labels.now c.requires.rising c.requires.each c.loop-i.i c.index-labels-i.result s c.loop-i-test.true c.index-asked-i.is c.index-labels-i.is in
    let is : c.total_at-total.result ≡ total_of m at (at s.v) c.args.asked.now =
    c.total_at-total.ensures (λ l. total_of m at l c.args.asked.now) (c.deref.ensures.value ∙ c.in_ok-totals.ensures) ∙ ap (λ l. total_of m at l c.args.asked.now) label in
    mapped_more (labelled_shift m c.args.asked.now at) c.args.asked.now c.loop-i.i s c.loop-i.shifts c.push.new.self (record { v = s.v; by = c.shift_by.result }) _ c.loop-i-test.true c.index-asked-i.is c.in_ok-push.ensures.ok
    (λ i. record { v = s.v; by = (c.shift_by.ensures ∙ ap (λ t. total_by t s.by) is) i })
    c.loop-i.invariant
