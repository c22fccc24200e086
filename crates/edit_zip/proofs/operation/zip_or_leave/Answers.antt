use Rattle.std.proofs.Common.{Ok, sym, ap, subst, ◌∙◌}
use Rattle.edit_base.specs.declared.answers.Change.TheVariants.{Zip}
use Rattle.edit_base.specs.declared.answers.Edit.TheVariants.{Done}
use Rattle.edit_base.specs.Edges.{edge_of}
use Rattle.edit_zip.specs.Zip.{zip_mesh}
use Rattle.edit_zip.specs.Trying.{left_by_turns, KeepsWhereNoneIsTaken}
use Rattle.edit_zip.specs.declared.attempts.Attempt.{Attempt}
use Rattle.edit_zip.proofs.Answered.{edit_of, tried_answer}
use Rattle.edit_zip.proofs.operation.zip_or_leave.Goals as goal

pub returns-in-Taken-clause-answer : goal.returns-in-Taken-clause-answer
returns-in-Taken-clause-answer g c =
    let m = g.S.Surface.mesh c.args.mesh.now in
    let s = c.args.s.now in
    let t = c.args.t.now in
    (λ i. Done (Zip (c.s.view_is i).a (c.s.view_is i).b (c.t.view_is i).a (c.t.view_is i).b c.in-Taken.turn))
    ∙ ap (edit_of s t) (sym c.in-Taken.is ∙ c.in_ok-turn.ensures.tried) ∙ tried_answer m s t c.requires.tried

pub returns-in-Taken-clause-mesh : goal.returns-in-Taken-clause-mesh
returns-in-Taken-clause-mesh g c =
    let m = g.S.Surface.mesh c.args.mesh.now in
    let s = c.args.s.now in
    let t = c.args.t.now in
    let first = sym c.requires.tried.first.beside in
    let second = sym c.requires.tried.second.beside in
    let left = c.in_ok-turn.ensures.mesh ∙ ap (λ r. left_by_turns m s t (Ok r)) c.in-Taken.is in
    left ∙ (λ i. zip_mesh m (first i) (second i) c.in-Taken.turn)
    ∙ (λ i. zip_mesh m (edge_of m (sym c.s.view_is i).a (sym c.s.view_is i).b) (edge_of m (sym c.t.view_is i).a (sym c.t.view_is i).b) c.in-Taken.turn)

pub returns-in-Failed-clause-answer : goal.returns-in-Failed-clause-answer
returns-in-Failed-clause-answer g c =
    let m = g.S.Surface.mesh c.args.mesh.now in
    let s = c.args.s.now in
    let t = c.args.t.now in
    ap (edit_of s t) (sym c.in-Failed.is ∙ c.in_ok-turn.ensures.tried) ∙ tried_answer m s t c.requires.tried

pub returns-in-Failed-clause-kept : goal.returns-in-Failed-clause-kept
returns-in-Failed-clause-kept g c =
    let kept = g.S.Surface.kept in
    subst (λ (r : Attempt). KeepsWhereNoneIsTaken (Ok r) (kept c.try_turns.new.mesh) (kept c.args.mesh.now)) c.in-Failed.is c.in_ok-turn.ensures.kept
