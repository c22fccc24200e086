use Rattle.std.proofs.Common.{◌≡◌, ◌+◌, ◌<◌, ◌^◌, length}
use Rattle.mesh_base.specs.Sides.{ids_where, follows, runs}
use Rattle.mesh_plain.proofs.tables.Tables.runs.Given as goal

-- the faces counted and those to come are all of them
abbrev pub invariant-loop-corners : goal.invariant-loop-corners
invariant-loop-corners l = record {
  counted : l.count + length (ids_where (λ c. follows c l.u l.v) l.corners-iterator) ≡ runs l.self l.u l.v;
  fits : runs l.self l.u l.v < 2 ^ 63;
}
