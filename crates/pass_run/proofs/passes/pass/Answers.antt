use Rattle.std.proofs.Common.{rules, ◌≡◌, ℕ, List, Option, sym, subst}
use Rattle.mesh_base.specs.Mesh.{Mesh}
use Rattle.log_text.specs.declared.LogLine.{LogLine}
use Rattle.pass_run.specs.Said.{SaidInPart}
use Rattle.pass_run.proofs.passes.pass.Goals as goal

-- what is said to a sink that is lent is said to it as it comes back
said_to_it : {K : Type 0} (written : K → Option (List ℕ)) (from to : Mesh) (old : Option (List ℕ)) (lines : List LogLine) (back lent : K) → back ≡ lent → SaidInPart from to old (written lent) lines → SaidInPart from to old (written back) lines
said_to_it written from to old lines back lent same said = subst (λ k. SaidInPart from to old (written k) lines) (sym same) said

pub returns-in-Err-clause-said : goal.returns-in-Err-clause-said
returns-in-Err-clause-said g c = said_to_it g.K.Sink.written (g.S.Surface.mesh c.args.mesh.now) (g.S.Surface.mesh c.pass_to.new.mesh) _ _ _ c.pass_to.new.outside.out.now (search rules) c.in-Err.ensures.takes.said
