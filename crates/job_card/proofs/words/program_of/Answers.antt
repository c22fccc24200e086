use Rattle.std.proofs.Common.{eqb, ap, ◌∙◌}
use Rattle.std.specs.List.{slice_split}
use Rattle.job_card.proofs.WordLaws.{program_parts, program_finds, same_name}
use Rattle.job_card.proofs.words.program_of.Goals as goal

pub returns-in_default : goal.returns-in_default
returns-in_default c = λ v g e. c.in_default.ensures _ _ (ap (slice_split (λ b. eqb b 32)) e ∙ program_parts v g)

pub returns : goal.returns
returns c = program_finds c.args.line.now c.in-Some.name.now c.in-Some.version.now c.version_of.result c.in-Some.ensures (same_name c.in-Some.name.now c.as_slice.result.now c.ne.result c.ne.ensures c.if-ne.false ∙ c.as_slice.ensures) c.version_of.ensures
