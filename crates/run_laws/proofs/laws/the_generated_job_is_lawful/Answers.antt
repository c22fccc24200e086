use Rattle.run_laws.proofs.WholeJob.{job_told}
use Rattle.run_laws.proofs.laws.the_generated_job_is_lawful.Goals as goal

pub returns : goal.returns
returns c = record {
  ending = λ n key row. (job_told n key row).ending;
  whole = λ n key row. (job_told n key row).whole;
  steps = λ n key row. (job_told n key row).count;
}
