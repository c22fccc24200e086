use Rattle.std.proofs.Common.{sym, subst}
use Rattle.std.proofs.lemmas.Result.{err_from_is_err_and}
use Rattle.mesh_base.specs.Sides.{IsClosed}
use Rattle.mesh_shape.proofs.Faults.{closed-mesh_under}
use Rattle.track_input.specs.declared.inputs.Ready.TheVariants as ready
use Rattle.track_engine.specs.Answered.{known}
use Rattle.track_engine.specs.Targets.{target_of}
use Rattle.track_run.proofs.TopLemmas.{tracks_first, tracks_second, tracks_no, tracks_third, tracks_ready, prepared_at}
use Rattle.track_run.proofs.top.track.Goals as goal

pub returns-in_err-tell-clause-tracks : goal.returns-in_err-tell-clause-tracks
returns-in_err-tell-clause-tracks g c =
    let p = err_from_is_err_and c.from_residual.result c.from_residual.ensures.1 in
    rw (p.1, p.2) (tracks_first c.args.scale (known g.F.Fn c.args.terms.now.fields.now g.G.Fn c.args.terms.now.sizing.now) c.args.mesh_name.now c.args.step_name.now (target_of c.args.terms.now.to) _ _ _ c.in_err-tell.ensures.says c.in_err-tell.ensures.part)

pub returns-in_err-why-clause-tracks : goal.returns-in_err-why-clause-tracks
returns-in_err-why-clause-tracks g c =
    let p = err_from_is_err_and c.from_residual-in_err-why.result c.from_residual-in_err-why.ensures.1 in
    rw (p.1, p.2) (tracks_second c.args.scale (known g.F.Fn c.args.terms.now.fields.now g.G.Fn c.args.terms.now.sizing.now) c.args.mesh_name.now c.args.step_name.now (target_of c.args.terms.now.to) (g.O.Outside.around c.args.outside.now) (g.O.Outside.around c.tell.new.self) (g.O.Outside.around c.prepare.new.outside) _ c.in_ok-tell.ensures.says _ c.in_err-why.ensures.looks _)

pub returns-in-No-clause-tracks : goal.returns-in-No-clause-tracks
returns-in-No-clause-tracks g c =
    let fields = known g.F.Fn c.args.terms.now.fields.now g.G.Fn c.args.terms.now.sizing.now in
    let to = target_of c.args.terms.now.to in
    tracks_no c.args.scale fields c.args.mesh_name.now c.args.step_name.now to (g.O.Outside.around c.args.outside.now) (g.O.Outside.around c.tell.new.self) (g.O.Outside.around c.prepare.new.outside) _ c.in_ok-tell.ensures.says _ c.in_ok-why.ensures.looks _ c.in-No.why c.finish.result
    (prepared_at c.args.scale fields c.args.mesh_name.now c.args.step_name.now to (g.O.Outside.around c.tell.new.self) c.in_ok-why.field-0 (ready.No c.in-No.why) c.in-No.is c.in_ok-why.ensures.prepares) c.finish.ensures.says c.finish.ensures.part c.finish.ensures.ending

pub returns-in_err-mesh-in-Yes-clause-tracks : goal.returns-in_err-mesh-in-Yes-clause-tracks
returns-in_err-mesh-in-Yes-clause-tracks g c =
    let p = err_from_is_err_and c.from_residual-in_err-mesh-in-Yes.result c.from_residual-in_err-mesh-in-Yes.ensures.1 in
    let fields = known g.F.Fn c.args.terms.now.fields.now g.G.Fn c.args.terms.now.sizing.now in
    let to = target_of c.args.terms.now.to in
    rw p.1 (tracks_third c.args.scale fields c.args.mesh_name.now c.args.step_name.now to (g.O.Outside.around c.args.outside.now) (g.O.Outside.around c.tell.new.self) (g.O.Outside.around c.prepare.new.outside) _ c.in_ok-tell.ensures.says _ c.in_ok-why.ensures.looks c.in-Yes.lists c.in-Yes.steps p.0
    (prepared_at c.args.scale fields c.args.mesh_name.now c.args.step_name.now to (g.O.Outside.around c.tell.new.self) c.in_ok-why.field-0 (ready.Yes c.in-Yes.lists c.in-Yes.steps) c.in-Yes.is c.in_ok-why.ensures.prepares))

pub test_and_begin-requires-clause-closed : goal.test_and_begin-requires-clause-closed
test_and_begin-requires-clause-closed g c =
    let p = prepared_at c.args.scale (known g.F.Fn c.args.terms.now.fields.now g.G.Fn c.args.terms.now.sizing.now) c.args.mesh_name.now c.args.step_name.now (target_of c.args.terms.now.to) (g.O.Outside.around c.tell.new.self) c.in_ok-why.field-0 (ready.Yes c.in-Yes.lists c.in-Yes.steps) c.in-Yes.is c.in_ok-why.ensures.prepares in
    subst IsClosed (sym c.in_ok-mesh-in-Yes.ensures.mesh) (closed-mesh_under c.args.scale c.in-Yes.lists.points c.in-Yes.lists.faces p.ready.good)

pub returns-in_ok-mesh-in-Yes-clause-tracks : goal.returns-in_ok-mesh-in-Yes-clause-tracks
returns-in_ok-mesh-in-Yes-clause-tracks g c =
    let fields = known g.F.Fn c.args.terms.now.fields.now g.G.Fn c.args.terms.now.sizing.now in
    let to = target_of c.args.terms.now.to in
    tracks_ready c.args.scale fields c.args.mesh_name.now c.args.step_name.now to (g.O.Outside.around c.args.outside.now) (g.O.Outside.around c.tell.new.self) (g.O.Outside.around c.prepare.new.outside) _ c.in_ok-tell.ensures.says _ c.in_ok-why.ensures.looks c.in-Yes.lists c.in-Yes.steps _ _ c.test_and_begin.result
    (prepared_at c.args.scale fields c.args.mesh_name.now c.args.step_name.now to (g.O.Outside.around c.tell.new.self) c.in_ok-why.field-0 (ready.Yes c.in-Yes.lists c.in-Yes.steps) c.in-Yes.is c.in_ok-why.ensures.prepares) c.in_ok-mesh-in-Yes.ensures.mesh c.test_and_begin.ensures.follows
