use Rattle.std.proofs.Common.{◌≡◌, ap, sym, subst, ◌∙◌}
use Rattle.grid_decided.specs.Decided.{meets_exactly}
use Rattle.mesh_base.specs.Placements.{IsClearAlong}
use Rattle.mesh_base.specs.Shifts.{NameLive, end_in_box, moved_by}
use Rattle.pair_scan.specs.Solids.{SolidsRest}
use Rattle.step_choose.specs.Choice.{Way, IsFirstWay}
use Rattle.step_choose.proofs.FirstWay.{taken_first}
use Rattle.step_choose.proofs.Taken.{taken_well}
use Rattle.step_choose.proofs.choice.choose_by_hits.Goals as goal

pub returns-clause-clear_along : goal.returns-clause-clear_along
returns-clause-clear_along g c =
    let m = g.S.Surface.mesh c.args.mesh.now in
    let P : Way → Type 0 = λ w. IsClearAlong m (moved_by m w.taken) in
    subst P (sym c.in_ok-found.ensures) (taken_well m c.args.asked.now c.args.set.now (g.met.S.Surface.sound c.args.mesh.now) c.requires.clear c.requires.named c.requires.in_box c.requires.solid).clear

pub returns-clause-names : goal.returns-clause-names
returns-clause-names g c =
    let m = g.S.Surface.mesh c.args.mesh.now in
    let P : Way → Type 0 = λ w. NameLive m w.taken in
    subst P (sym c.in_ok-found.ensures) (taken_well m c.args.asked.now c.args.set.now (g.met.S.Surface.sound c.args.mesh.now) c.requires.clear c.requires.named c.requires.in_box c.requires.solid).named

pub returns-clause-ends : goal.returns-clause-ends
returns-clause-ends g c =
    let m = g.S.Surface.mesh c.args.mesh.now in
    ap (λ (w : Way). end_in_box m w.taken) c.in_ok-found.ensures ∙ (taken_well m c.args.asked.now c.args.set.now (g.met.S.Surface.sound c.args.mesh.now) c.requires.clear c.requires.named c.requires.in_box c.requires.solid).ends

pub returns-clause-solid : goal.returns-clause-solid
returns-clause-solid g c =
    let m = g.S.Surface.mesh c.args.mesh.now in
    let P : Way → Type 0 = λ w. SolidsRest m w.taken in
    subst P (sym c.in_ok-found.ensures) (taken_well m c.args.asked.now c.args.set.now (g.met.S.Surface.sound c.args.mesh.now) c.requires.clear c.requires.named c.requires.in_box c.requires.solid).solid

pub returns-clause-first : goal.returns-clause-first
returns-clause-first g c =
    let m = g.S.Surface.mesh c.args.mesh.now in
    let P : Way → Type 0 = λ w. IsFirstWay meets_exactly m c.args.asked.now c.args.set.now w.how w.taken in
    subst P (sym c.in_ok-found.ensures) (taken_first m c.args.asked.now c.args.set.now (g.met.S.Surface.sound c.args.mesh.now) c.requires.clear c.requires.named)
