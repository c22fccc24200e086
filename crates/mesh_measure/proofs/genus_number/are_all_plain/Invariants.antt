use Rattle.std.proofs.Common.{◌≡◌, ℕ, true, take}
use Rattle.std.specs.HashMap.{IsEmpty}
use Rattle.edit_base.specs.Classes.{is_one_of}
use Rattle.mesh_measure.specs.Round.{IsPlain}
use Rattle.mesh_measure.proofs.genus_number.are_all_plain.Given as goal

-- the vertices so far are plain, and no link is left
abbrev pub invariant-loop-v : goal.invariant-loop-v
invariant-loop-v g l = record {
  plain : (u : ℕ) → is_one_of (take l.v-index l.v-items) u ≡ true → IsPlain (g.S.Surface.mesh l.mesh) u;
  empty : IsEmpty l.links;
}
