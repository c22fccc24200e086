use Rattle.std.proofs.Common.{ℕ, sym, rules}
use Rattle.std.specs.Prelude.{nat_le}
use Rattle.std.proofs.lemmas.List.Sorted.{IsPartitionedBy-leb, IsPartitionPoint-from_clause}
use Rattle.obj_text.proofs.Ranks.{passing_are}
use Rattle.mesh_rename.proofs.ranks.face_rank.Goals as goal

pub returns : goal.returns
returns c =
    let p = λ (u : ℕ). nat_le u c.args.f in
    let ids = c.args.old.now in
    let point = IsPartitionPoint-from_clause p ids c.partition_point.result c.partition_point.ensures.partitioned (IsPartitionedBy-leb (λ x. x) ids c.args.f c.requires) (λ a r f' called. search rules) in
    sym (passing_are p ids c.partition_point.result point c.partition_point.ensures.bound)
