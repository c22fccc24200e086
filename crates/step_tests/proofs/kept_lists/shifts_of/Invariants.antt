use Rattle.std.proofs.Common.{◌≡◌, ◌++◌, ◌∷◌, [], map, true, drop}
use Rattle.std.specs.List.{flat_map}
use Rattle.mesh_base.specs.Shifts.{end_in_box}
use Rattle.pair_scan.specs.Solids.{SolidsRest}
use Rattle.step_tests.proofs.kept_lists.shifts_of.Given as goal

-- the shifts so far name the vertices so far, end in the box, and are none of solid vertices
abbrev pub invariant-loop-v : goal.invariant-loop-v
invariant-loop-v g l = record {
  named : map (λ s. s.v) l.by ++ flat_map (λ v. v ∷ []) (drop l.v-index l.v-items) ≡ flat_map (λ v. v ∷ []) l.v-items;
  in_box : end_in_box (g.S.Surface.mesh l.mesh) l.by ≡ true;
  solid : SolidsRest (g.S.Surface.mesh l.mesh) l.by;
}
