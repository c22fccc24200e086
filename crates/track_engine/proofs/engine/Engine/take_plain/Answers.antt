use Rattle.std.proofs.Common.{ap, sym, subst}
use Rattle.std.proofs.lemmas.Result.{err_from_is_err_and}
use Rattle.mesh_base.specs.Kept.{BeginsWith}
use Rattle.mesh_base.proofs.MarksHold.{begins_itself}
use Rattle.step_text.specs.declared.Directive.{Directive}
use Rattle.outside_io.specs.Outside.{holds_of}
use Rattle.outside_io.proofs.Outsides.{counts_stopped, counts_whole}
use Rattle.track_engine.specs.Answers.{without_field}
use Rattle.track_engine.specs.Effects.{effect_of}
use Rattle.track_engine.specs.Engines.{state_in}
use Rattle.track_engine.specs.Invariant.{left_by}
use Rattle.track_engine.specs.Parts.{Takes}
use Rattle.track_engine.specs.State.{State}
use Rattle.track_engine.specs.Targets.{target_of}
use Rattle.track_engine.proofs.EffectLemmas.{advances_set, save_whole, save_part}
use Rattle.track_engine.proofs.Plain.{plain_step, plain_pass, plain_solid, plain_group, plain_close}
use Rattle.track_engine.proofs.WritesTaken.{never_refused}
use Rattle.track_engine.proofs.engine.Engine.take_plain.Goals as goal

pub returns-in-SetDepth-clause-advances : goal.returns-in-SetDepth-clause-advances
returns-in-SetDepth-clause-advances g c =
    let s = state_in g.S.Surface.mesh g.S.Surface.kept c.args.self.now in
    advances_set (target_of c.args.to) (record s.set { depth = c.in-SetDepth.depth }) c.args.what.now s (holds_of (g.O.Outside.around c.args.outside.now)) (ap (λ what. effect_of (without_field what) what s) c.in-SetDepth.is)

pub returns-in-SetDepth-clause-begins : goal.returns-in-SetDepth-clause-begins
returns-in-SetDepth-clause-begins g c =
    let kept = g.S.Surface.kept c.args.self.now.mesh in
    let P : Directive → Type 0 = λ what. BeginsWith kept (left_by what c.args.self.now.run.groups kept) in
    subst P (sym c.in-SetDepth.is) (begins_itself kept)

pub returns-in-SetPasses-clause-advances : goal.returns-in-SetPasses-clause-advances
returns-in-SetPasses-clause-advances g c =
    let s = state_in g.S.Surface.mesh g.S.Surface.kept c.args.self.now in
    advances_set (target_of c.args.to) (record s.set { passes = c.in-SetPasses.passes }) c.args.what.now s (holds_of (g.O.Outside.around c.args.outside.now)) (ap (λ what. effect_of (without_field what) what s) c.in-SetPasses.is)

pub returns-in-SetPasses-clause-begins : goal.returns-in-SetPasses-clause-begins
returns-in-SetPasses-clause-begins g c =
    let kept = g.S.Surface.kept c.args.self.now.mesh in
    let P : Directive → Type 0 = λ what. BeginsWith kept (left_by what c.args.self.now.run.groups kept) in
    subst P (sym c.in-SetPasses.is) (begins_itself kept)

pub returns-in-SetZones-clause-advances : goal.returns-in-SetZones-clause-advances
returns-in-SetZones-clause-advances g c =
    let s = state_in g.S.Surface.mesh g.S.Surface.kept c.args.self.now in
    advances_set (target_of c.args.to) (record s.set { zones = c.in-SetZones.zones }) c.args.what.now s (holds_of (g.O.Outside.around c.args.outside.now)) (ap (λ what. effect_of (without_field what) what s) c.in-SetZones.is)

pub returns-in-SetZones-clause-begins : goal.returns-in-SetZones-clause-begins
returns-in-SetZones-clause-begins g c =
    let kept = g.S.Surface.kept c.args.self.now.mesh in
    let P : Directive → Type 0 = λ what. BeginsWith kept (left_by what c.args.self.now.run.groups kept) in
    subst P (sym c.in-SetZones.is) (begins_itself kept)

pub returns-in-SetHalvings-clause-advances : goal.returns-in-SetHalvings-clause-advances
returns-in-SetHalvings-clause-advances g c =
    let s = state_in g.S.Surface.mesh g.S.Surface.kept c.args.self.now in
    advances_set (target_of c.args.to) (record s.set { halvings = c.in-SetHalvings.halvings }) c.args.what.now s (holds_of (g.O.Outside.around c.args.outside.now)) (ap (λ what. effect_of (without_field what) what s) c.in-SetHalvings.is)

pub returns-in-SetHalvings-clause-begins : goal.returns-in-SetHalvings-clause-begins
returns-in-SetHalvings-clause-begins g c =
    let kept = g.S.Surface.kept c.args.self.now.mesh in
    let P : Directive → Type 0 = λ what. BeginsWith kept (left_by what c.args.self.now.run.groups kept) in
    subst P (sym c.in-SetHalvings.is) (begins_itself kept)

pub returns-in-Step-clause-advances : goal.returns-in-Step-clause-advances
returns-in-Step-clause-advances g c =
    plain_step (target_of c.args.to) c.args.what.now (state_in g.S.Surface.mesh g.S.Surface.kept c.args.self.now) (state_in g.S.Surface.mesh g.S.Surface.kept c.take_step.new.self)
    (g.O.Outside.around c.args.outside.now) (g.O.Outside.around c.take_step.new.outside) c.take_step.result c.take_step.ensures.nothing_stored c.in-Step.is c.take_step.ensures.takes

pub returns-in-Pass-clause-advances : goal.returns-in-Pass-clause-advances
returns-in-Pass-clause-advances g c =
    plain_pass (target_of c.args.to) c.args.what.now (state_in g.S.Surface.mesh g.S.Surface.kept c.args.self.now) (state_in g.S.Surface.mesh g.S.Surface.kept c.take_pass.new.self)
    (g.O.Outside.around c.args.outside.now) (g.O.Outside.around c.take_pass.new.outside) c.take_pass.result c.take_pass.ensures.nothing_stored c.in-Pass.kind c.in-Pass.is c.take_pass.ensures.passes

pub returns-in-Solid-clause-advances : goal.returns-in-Solid-clause-advances
returns-in-Solid-clause-advances g c =
    plain_solid (target_of c.args.to) c.args.what.now (state_in g.S.Surface.mesh g.S.Surface.kept c.args.self.now) (state_in g.S.Surface.mesh g.S.Surface.kept c.take_solid.new.self)
    (g.O.Outside.around c.args.outside.now) (g.O.Outside.around c.take_solid.new.outside) c.take_solid.result c.take_solid.ensures.nothing_stored c.in-Solid.v c.in-Solid.is c.take_solid.ensures.writes

pub returns-in-Group-clause-advances : goal.returns-in-Group-clause-advances
returns-in-Group-clause-advances g c =
    plain_group (target_of c.args.to) c.args.what.now (state_in g.S.Surface.mesh g.S.Surface.kept c.args.self.now) (state_in g.S.Surface.mesh g.S.Surface.kept c.open_group.new.self)
    (g.O.Outside.around c.args.outside.now) (g.O.Outside.around c.open_group.new.outside) c.open_group.result c.open_group.ensures.nothing_stored c.in-Group.is c.open_group.ensures.writes

pub returns-in-Close-clause-advances : goal.returns-in-Close-clause-advances
returns-in-Close-clause-advances g c =
    plain_close (target_of c.args.to) c.args.what.now (state_in g.S.Surface.mesh g.S.Surface.kept c.args.self.now) (state_in g.S.Surface.mesh g.S.Surface.kept c.close_group.new.self)
    (g.O.Outside.around c.args.outside.now) (g.O.Outside.around c.close_group.new.outside) c.close_group.result c.close_group.ensures.nothing_stored c.in-Close.is c.close_group.ensures.writes

pub returns-in-Group-clause-left : goal.returns-in-Group-clause-left
returns-in-Group-clause-left g c = never_refused c.open_group.result _ c.open_group.ensures.taken

pub returns-in-Close-clause-left : goal.returns-in-Close-clause-left
returns-in-Close-clause-left g c = never_refused c.close_group.result _ c.close_group.ensures.taken

pub returns-in_err-save-in-Save-clause-advances : goal.returns-in_err-save-in-Save-clause-advances
returns-in_err-save-in-Save-clause-advances g c =
    let p = err_from_is_err_and c.from_residual-in_err-save-in-Save.result c.from_residual-in_err-save-in-Save.ensures.1 in
    rw (p.1, p.2) (save_part _ (target_of c.args.to) c.args.what.now (state_in g.S.Surface.mesh g.S.Surface.kept c.args.self.now) (state_in g.S.Surface.mesh g.S.Surface.kept c.save.new.self) _ _ c.in-Save.is c.in_err-save-in-Save.ensures.saves)

pub returns-in_err-save-in-Save-clause-counts : goal.returns-in_err-save-in-Save-clause-counts
returns-in_err-save-in-Save-clause-counts g c =
    let p = err_from_is_err_and c.from_residual-in_err-save-in-Save.result c.from_residual-in_err-save-in-Save.ensures.1 in
    rw (p.1, p.2) (counts_stopped _ _ _ c.in_err-save-in-Save.ensures.counts)

pub returns-in_ok-save-in-Save-clause-advances : goal.returns-in_ok-save-in-Save-clause-advances
returns-in_ok-save-in-Save-clause-advances g c =
    let s = state_in g.S.Surface.mesh g.S.Surface.kept c.args.self.now in
    let to = target_of c.args.to in
    let a = holds_of (g.O.Outside.around c.args.outside.now) in
    let b = holds_of (g.O.Outside.around c.save.new.outside) in
    let P : State → Type 0 = λ t. Takes to (effect_of (without_field c.args.what.now) c.args.what.now s) s t a b in
    subst P (sym c.in_ok-save-in-Save.ensures.state) (save_whole to c.args.what.now s a b c.in-Save.is c.in_ok-save-in-Save.ensures.saves)

pub returns-in_ok-save-in-Save-clause-counts : goal.returns-in_ok-save-in-Save-clause-counts
returns-in_ok-save-in-Save-clause-counts g c = counts_whole _ _ _ _ c.in_ok-save-in-Save.ensures.counts
