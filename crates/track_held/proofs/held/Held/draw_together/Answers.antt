use Rattle.std.proofs.Common.{◌≡◌, ℕ, List, IfOk, subst}
use Rattle.edit_base.specs.declared.Asked.{Asked}
use Rattle.track_engine.specs.Effects.{opened}
use Rattle.track_engine.specs.Engines.{state_in}
use Rattle.track_engine.specs.Parts.{Writes}
use Rattle.track_held.specs.Folding.{untold, group_effect, group_told}
use Rattle.track_held.specs.Folds.{fold_edits}
use Rattle.track_held.specs.Held.{engine_in, log_in}
use Rattle.track_held.proofs.FoldChosen.{only_collapsed, flipped_first}
use Rattle.track_held.proofs.held.Held.draw_together.Goals as goal

pub returns-then-are_joined-clause-tells : goal.returns-then-are_joined-clause-tells
returns-then-are_joined-clause-tells g c =
    let mesh = g.S.Surface.mesh in
    let kept = g.S.Surface.kept in
    let s = state_in mesh kept (engine_in c.args.self.now) in
    let chosen = only_collapsed s.mesh c.args.e c.fold_collapse-collapse.result c.are_joined.result c.fold_collapse-collapse.ensures c.are_joined.ensures c.if-are_joined.true in
    let t = state_in mesh kept (engine_in c.edits_as_one.new.self) in
    let old = log_in c.args.self.now in
    let new = log_in c.edits_as_one.new.self in
    let P : List Asked → Type 0 = λ asked. Writes (group_effect asked c.fold_vertex-v.result s) t old new (untold c.edits_as_one.result) in
    let Q : ℕ → Type 0 = λ v. Writes (group_effect (fold_edits s.mesh c.args.e) v s) t old new (untold c.edits_as_one.result) in
    subst Q c.fold_vertex-v.ensures (subst P chosen c.edits_as_one.ensures.tells)

pub returns-then-are_joined-clause-told : goal.returns-then-are_joined-clause-told
returns-then-are_joined-clause-told g c =
    let mesh = g.S.Surface.mesh in
    let kept = g.S.Surface.kept in
    let s = state_in mesh kept (engine_in c.args.self.now) in
    let chosen = only_collapsed s.mesh c.args.e c.fold_collapse-collapse.result c.are_joined.result c.fold_collapse-collapse.ensures c.are_joined.ensures c.if-are_joined.true in
    let P : List Asked → Type 0 = λ asked. IfOk c.edits_as_one.result (λ told. told ≡ group_told asked c.fold_vertex-v.result (opened s)) in
    let Q : ℕ → Type 0 = λ v. IfOk c.edits_as_one.result (λ told. told ≡ group_told (fold_edits s.mesh c.args.e) v (opened s)) in
    subst Q c.fold_vertex-v.ensures (subst P chosen c.edits_as_one.ensures.told)

pub returns-clause-tells : goal.returns-clause-tells
returns-clause-tells g c =
    let mesh = g.S.Surface.mesh in
    let kept = g.S.Surface.kept in
    let s = state_in mesh kept (engine_in c.args.self.now) in
    let chosen = flipped_first s.mesh c.args.e c.fold_flip-flip.result c.fold_collapse-collapse.result c.are_joined.result c.fold_flip-flip.ensures c.fold_collapse-collapse.ensures c.are_joined.ensures c.if-are_joined.false in
    let t = state_in mesh kept (engine_in c.edits_as_one-2.new.self) in
    let old = log_in c.args.self.now in
    let new = log_in c.edits_as_one-2.new.self in
    let P : List Asked → Type 0 = λ asked. Writes (group_effect asked c.fold_vertex-v.result s) t old new (untold c.edits_as_one-2.result) in
    let Q : ℕ → Type 0 = λ v. Writes (group_effect (fold_edits s.mesh c.args.e) v s) t old new (untold c.edits_as_one-2.result) in
    subst Q c.fold_vertex-v.ensures (subst P chosen c.edits_as_one-2.ensures.tells)

pub returns-clause-told : goal.returns-clause-told
returns-clause-told g c =
    let mesh = g.S.Surface.mesh in
    let kept = g.S.Surface.kept in
    let s = state_in mesh kept (engine_in c.args.self.now) in
    let chosen = flipped_first s.mesh c.args.e c.fold_flip-flip.result c.fold_collapse-collapse.result c.are_joined.result c.fold_flip-flip.ensures c.fold_collapse-collapse.ensures c.are_joined.ensures c.if-are_joined.false in
    let P : List Asked → Type 0 = λ asked. IfOk c.edits_as_one-2.result (λ told. told ≡ group_told asked c.fold_vertex-v.result (opened s)) in
    let Q : ℕ → Type 0 = λ v. IfOk c.edits_as_one-2.result (λ told. told ≡ group_told (fold_edits s.mesh c.args.e) v (opened s)) in
    subst Q c.fold_vertex-v.ensures (subst P chosen c.edits_as_one-2.ensures.told)
