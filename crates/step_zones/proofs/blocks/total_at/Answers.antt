use Rattle.std.proofs.Common.{ap, ◌∙◌}
use Rattle.std.specs.Prelude.{slice_index_or}
use Rattle.step_zones.specs.Totals.{no_total}
use Rattle.step_zones.proofs.Listing.{none_named}
use Rattle.step_zones.proofs.Ranked.{found_named}
use Rattle.step_zones.proofs.Summed.{read_mapped}
use Rattle.step_zones.proofs.blocks.total_at.Goals as goal

pub unreachable-requires : goal.unreachable-requires
unreachable-requires c = none_named c.args.asked.now c.args.v c.in-None.ensures c.requires.named

pub returns : goal.returns
returns c = λ f e.
    let found = c.in-Some.ensures in
    ap (λ l. slice_index_or l c.in-Some.place no_total) e ∙ read_mapped (λ s. f s.v) c.args.asked.now c.in-Some.place found.0 no_total found.1 ∙ ap f (found_named c.args.v c.args.asked.now found.0 found.2)
