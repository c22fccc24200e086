use Rattle.std.proofs.Common.{Some, refl, ap, ◌∙◌}
use Rattle.std.specs.FinMap as map
use Rattle.mesh_journal.proofs.Boxed.{held-at, held-others}
use Rattle.mesh_journal.proofs.boxes.set_box.Goals as goal

pub returns-in-Ok-clause-at : goal.returns-in-Ok-clause-at
returns-in-Ok-clause-at c = λ p at. held-at (Some c.insert.new.self) c.in-Some.grid c.insert.new.self c.args.f c.args.around p refl
    (c.in-Ok.ensures.ok ∙ ap (λ k. map.insert c.in-Some.grid k c.args.around) (c.from.ensures ∙ c.f.view_is)) at

pub returns-in-Ok-clause-others : goal.returns-in-Ok-clause-others
returns-in-Ok-clause-others c = λ q p apart h. held-others c.args.boxes.now (Some c.insert.new.self) c.in-Some.grid c.insert.new.self c.args.f c.args.around q p c.in-Some.is refl
    (c.in-Ok.ensures.ok ∙ ap (λ k. map.insert c.in-Some.grid k c.args.around) (c.from.ensures ∙ c.f.view_is)) apart h
