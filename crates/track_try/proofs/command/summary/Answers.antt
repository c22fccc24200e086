use Rattle.std.proofs.Common.{◌∙◌}
use Rattle.track_try.proofs.OfCubes.{mesh_is, shape_is}
use Rattle.track_try.proofs.command.summary.Goals as goal

pub of-requires : goal.of-requires
of-requires c = shape_is c.in_ok-job.job.mesh c.args.n c.requires c.in_ok-job.ensures.mesh

pub summary_of_run-requires-clause-mesh : goal.summary_of_run-requires-clause-mesh
summary_of_run-requires-clause-mesh c = c.in_ok-mesh.ensures.mesh ∙ mesh_is c.in_ok-job.job.mesh c.args.n c.in_ok-job.ensures.mesh

pub summary_of_run-requires-clause-steps : goal.summary_of_run-requires-clause-steps
summary_of_run-requires-clause-steps c = c.as_slice.ensures ∙ c.in_ok-job.ensures.directives
