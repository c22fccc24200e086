use Rattle.std.proofs.Common.{[], ◌∷◌, Ok, ◌∙◌, subst}
use Rattle.std.proofs.lemmas.Result.{err_from_is_err_and}
use Rattle.outside_io.specs.Outside.{written_of}
use Rattle.outside_io.proofs.Outsides.{counts_unremembered, counts_stopped, counts_then, counts_whole}
use Rattle.log_text.specs.declared.LogLine.{LogLine}
use Rattle.log_write.specs.Written.{Says}
use Rattle.outside_io.specs.Sink.{AppendsPart}
use Rattle.log_text.specs.Lines.{text_of_line}
use Rattle.track_engine.specs.Engines.{state_in}
use Rattle.track_engine.specs.State.{standing}
use Rattle.track_engine.specs.Targets.{target_of}
use Rattle.track_engine.proofs.Saves.{stops_before, stops_in_line, stops_at_store, saves_whole}
use Rattle.track_engine.proofs.engine.Engine.save.Goals as goal

pub returns-in_err-text-clause-saves : goal.returns-in_err-text-clause-saves
returns-in_err-text-clause-saves g c =
    let p = err_from_is_err_and c.from_residual.result c.from_residual.ensures.1 in
    let from = standing (state_in g.S.Surface.mesh g.S.Surface.kept c.args.self.now) in
    rw p.1 (stops_before (target_of c.args.to) c.args.self.now.run.saved from p.0 (g.O.Outside.around c.args.outside.now))

pub returns-in_err-text-clause-counts : goal.returns-in_err-text-clause-counts
returns-in_err-text-clause-counts g c =
    let p = err_from_is_err_and c.from_residual.result c.from_residual.ensures.1 in
    rw (p.1, p.2) (counts_unremembered (g.O.Outside.around c.args.outside.now))

pub returns-in_err-name-clause-saves : goal.returns-in_err-name-clause-saves
returns-in_err-name-clause-saves g c =
    let p = err_from_is_err_and c.from_residual-in_err-name.result c.from_residual-in_err-name.ensures.1 in
    let from = standing (state_in g.S.Surface.mesh g.S.Surface.kept c.args.self.now) in
    rw p.1 (stops_before (target_of c.args.to) c.args.self.now.run.saved from p.0 (g.O.Outside.around c.args.outside.now))

pub returns-in_err-name-clause-counts : goal.returns-in_err-name-clause-counts
returns-in_err-name-clause-counts g c =
    let p = err_from_is_err_and c.from_residual-in_err-name.result c.from_residual-in_err-name.ensures.1 in
    rw (p.1, p.2) (counts_unremembered (g.O.Outside.around c.args.outside.now))

pub returns-in_err-tell-clause-saves : goal.returns-in_err-tell-clause-saves
returns-in_err-tell-clause-saves g c =
    let p = err_from_is_err_and c.from_residual-in_err-tell.result c.from_residual-in_err-tell.ensures.1 in
    let from = standing (state_in g.S.Surface.mesh g.S.Surface.kept c.args.self.now) in
    let a = g.O.Outside.around c.args.outside.now in
    let b = g.O.Outside.around c.tell.new.self in
    let P : LogLine → Type 0 = λ line. AppendsPart (written_of a) (written_of b) (text_of_line line) in
    rw p.1 (stops_in_line (target_of c.args.to) c.args.self.now.run.saved from p.0 a b c.in_err-tell.ensures.says.nothing_stored.files (subst P c.mesh_line.ensures c.in_err-tell.ensures.part))

pub returns-in_err-tell-clause-counts : goal.returns-in_err-tell-clause-counts
returns-in_err-tell-clause-counts g c =
    let p = err_from_is_err_and c.from_residual-in_err-tell.result c.from_residual-in_err-tell.ensures.1 in
    rw (p.1, p.2) (counts_stopped _ _ _ c.in_err-tell.ensures.says.nothing_stored.counts)

pub returns-in_err-store-clause-saves : goal.returns-in_err-store-clause-saves
returns-in_err-store-clause-saves g c =
    let p = err_from_is_err_and c.from_residual-in_err-store.result c.from_residual-in_err-store.ensures.1 in
    let from = standing (state_in g.S.Surface.mesh g.S.Surface.kept c.args.self.now) in
    let a = g.O.Outside.around c.args.outside.now in
    let b = g.O.Outside.around c.tell.new.self in
    let P : LogLine → Type 0 = λ line. Says {T = Unit {0}} (line ∷ []) a b (Ok c.in_ok-tell.field-0) in
    rw (p.1, p.2) (stops_at_store (target_of c.args.to) c.args.self.now.run.saved from a b (g.O.Outside.around c.store.new.self) _ (subst P c.mesh_line.ensures c.in_ok-tell.ensures.says) c.deref.result.now c.deref-2.result.now (c.deref.ensures ∙ c.in_ok-name.ensures) _ c.in_err-store.ensures)

pub returns-in_err-store-clause-counts : goal.returns-in_err-store-clause-counts
returns-in_err-store-clause-counts g c =
    let p = err_from_is_err_and c.from_residual-in_err-store.result c.from_residual-in_err-store.ensures.1 in
    rw (p.1, p.2) (counts_stopped _ _ _ (counts_then _ _ _ _ _ c.in_ok-tell.ensures.says.nothing_stored.counts c.in_err-store.ensures.counts))

pub returns-clause-saves : goal.returns-clause-saves
returns-clause-saves g c =
    let from = standing (state_in g.S.Surface.mesh g.S.Surface.kept c.args.self.now) in
    let a = g.O.Outside.around c.args.outside.now in
    let b = g.O.Outside.around c.tell.new.self in
    let P : LogLine → Type 0 = λ line. Says {T = Unit {0}} (line ∷ []) a b (Ok c.in_ok-tell.field-0) in
    saves_whole (target_of c.args.to) c.args.self.now.run.saved from a b (g.O.Outside.around c.store.new.self) _ (subst P c.mesh_line.ensures c.in_ok-tell.ensures.says) c.deref.result.now c.deref-2.result.now (c.deref.ensures ∙ c.in_ok-name.ensures) _ (c.deref-2.ensures.value ∙ c.in_ok-text.ensures) c.in_ok-store.ensures

pub returns-clause-counts : goal.returns-clause-counts
returns-clause-counts g c = counts_whole _ _ _ _ (counts_then _ _ _ _ _ c.in_ok-tell.ensures.says.nothing_stored.counts c.in_ok-store.ensures.counts)
