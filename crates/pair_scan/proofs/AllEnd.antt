-- Shifts that are looked at one after another: whether all end in the box.
use Rattle.std.proofs.Common.{◌≡◌, ℕ, ◌+◌, ◌<◌, ◌≤◌, ◌&&◌, Bool, true, false, length, get_or, drop, sym, ap, ◌∙◌}
use Rattle.grid_base.specs.declared.TheConstants.{BOX}
use Rattle.grid_base.specs.Triples.{plus}
use Rattle.grid_base.specs.Points.{displacement_of, is_within}
use Rattle.mesh_base.specs.declared.steps.ShiftOf.{ShiftOf}
use Rattle.mesh_base.specs.Mesh.{Mesh}
use Rattle.mesh_base.specs.Placements.{rest_positions}
use Rattle.mesh_base.specs.Shifts.{Shifts, end_in_box}
use Rattle.pair_scan.proofs.Lists.{rest_at, ended}

abbrev ends : Mesh → ShiftOf → Bool
ends m s = is_within BOX (plus (rest_positions m s.v) (displacement_of s.by))

next : (m : Mesh) (shifts : Shifts) (i : ℕ) (s : ShiftOf) → i < length shifts → s ≡ get_or shifts i s → end_in_box m (drop i shifts) ≡ (ends m s && end_in_box m (drop (i + 1) shifts))
next m shifts i s h at = ap (end_in_box m) (rest_at shifts i s h) ∙ ap (λ x. ends m x && end_in_box m (drop (i + 1) shifts)) (sym at)

pub ends_later : (m : Mesh) (shifts : Shifts) (i : ℕ) (s : ShiftOf) (all : Bool) → i < length shifts → s ≡ get_or shifts i s → ends m s ≡ true → end_in_box m (drop i shifts) ≡ all → end_in_box m (drop (i + 1) shifts) ≡ all
ends_later m shifts i s all h at on e = ap (λ b. b && end_in_box m (drop (i + 1) shifts)) (sym on) ∙ sym (next m shifts i s h at) ∙ e

pub ends_here : (m : Mesh) (shifts : Shifts) (i : ℕ) (s : ShiftOf) (all : Bool) → i < length shifts → s ≡ get_or shifts i s → ends m s ≡ false → end_in_box m (drop i shifts) ≡ all → all ≡ false
ends_here m shifts i s all h at off e = sym e ∙ next m shifts i s h at ∙ ap (λ b. b && end_in_box m (drop (i + 1) shifts)) off

pub ends_all : (m : Mesh) (shifts : Shifts) (i : ℕ) (all : Bool) → length shifts ≤ i → end_in_box m (drop i shifts) ≡ all → all ≡ true
ends_all m shifts i all h e = sym e ∙ ap (end_in_box m) (ended shifts i h)
