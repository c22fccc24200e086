use Rattle.std.proofs.Common.{ap, sym, ◌∙◌}
use Rattle.std.specs.Prelude.{slice_get}
use Rattle.std.specs.Map.{keys_of}
use Rattle.mesh_base.proofs.Ordered.{above-made}
use Rattle.mesh_plain.proofs.tables.Tables.face_after.Goals as goal

pub returns-in-Some : goal.returns-in-Some
returns-in-Some c = rw (← c.self.view_is, above-made c.args.f c.self.inside.faces.entries c.range.ensures.ordered) (sym (ap (λ s. slice_get (keys_of s) 0) (sym (c.range.ensures.between tt) ∙ c.in-Some.ensures.steps)))

pub returns-in-None : goal.returns-in-None
returns-in-None c = rw (← c.self.view_is, above-made c.args.f c.self.inside.faces.entries c.range.ensures.ordered) (sym (ap (λ s. slice_get (keys_of s) 0) (sym (c.range.ensures.between tt) ∙ c.in-None.ensures.steps.0)))
