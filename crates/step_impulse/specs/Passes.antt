-- Impulse passes: an impulse on each of a list of pairs, one after another.
use Rattle.std.specs.Prelude.{◌≡◌, ℕ, ◌==◌, List, [], ◌∷◌, map, if◌then◌else◌}
use Rattle.std.specs.List.{fold}
use Rattle.grid_base.specs.Triples.{Triple}
use Rattle.mesh_base.specs.declared.ids.PairName.{PairName}
use Rattle.mesh_base.specs.Mesh.{Mesh, is_solid}
use Rattle.mesh_base.specs.Pairs.{Pair, five_ids}
use Rattle.mesh_base.specs.Placements.{rest_positions, positions}
use Rattle.mesh_base.specs.Shifts.{Shifts, with_shift, shift_at}
use Rattle.pair_scan.specs.Named.{pairs_named}
use Rattle.step_impulse.specs.Impulse.{after_impulse}

-- the shifts, with another for the vertex v
abbrev pub with_shift_of : ℕ → Triple → Shifts → Shifts
with_shift_of v t shifts = map (λ s. if s.v == v then with_shift s t else s) shifts

-- the shifts, with others for these vertices
abbrev pub with_shifts_of : List ℕ → List Triple → Shifts → Shifts
with_shifts_of (v ∷ ids) (t ∷ ts) shifts = with_shifts_of ids ts (with_shift_of v t shifts)
with_shifts_of (v ∷ ids) [] shifts = shifts
with_shifts_of [] ts shifts = shifts

-- the shifts after an impulse on a pair: its five vertices get theirs,
-- and all others keep what they have
unfoldable pub after_pair : Mesh → Shifts → Pair → Shifts
after_pair m shifts p =
    let ids = five_ids p in
    let after = after_impulse (positions (rest_positions m) p) ids (map (is_solid m) ids)
    (map (shift_at shifts) ids) in
    with_shifts_of ids after shifts

-- the shifts after a pass: the pairs in order, each on the shifts as they are by then
abbrev pub after_pass : Mesh → List Pair → Shifts → Shifts
after_pass m hits shifts = fold (after_pair m) shifts hits

-- the new shifts are the old ones after a pass over the pairs of these names
abbrev pub IsAfterPass : Mesh → List PairName → Shifts → Shifts → Type 0
IsAfterPass m names old new = new ≡ after_pass m (pairs_named m names) old
