-- Labels in a list, beside the shifts of the vertices that have them.
use Rattle.std.specs.Prelude.{ℕ, ◌≡◌, ◌+◌, ◌==◌, List, [], ◌∷◌, map, min, false, Some, slice_get, IsTrue, if◌then◌else◌}
use Rattle.std.specs.List.{fold, AllByRecursion}
use Rattle.mesh_base.specs.declared.ids.PairName.{PairName}
use Rattle.mesh_base.specs.declared.steps.ShiftOf.{ShiftOf}
use Rattle.mesh_base.specs.Mesh.{Mesh}
use Rattle.mesh_base.specs.Pairs.{five_ids}
use Rattle.mesh_base.specs.Shifts.{Shifts}
use Rattle.pair_scan.specs.Named.{pair_named}
use Rattle.step_zones.specs.Chains.{is_one_of}
use Rattle.step_zones.specs.Zones.{Labels}

-- the label of a vertex that is named, and of any other itself
abbrev pub label_by : Shifts → List ℕ → Labels
label_by (s ∷ shifts) (l ∷ labels) v = if s.v == v then l else label_by shifts labels v
label_by (s ∷ shifts) [] v = v
label_by [] labels v = v

-- the least of a list
abbrev pub least_of : List ℕ → ℕ
least_of [] = 0
least_of (l ∷ []) = l
least_of (l ∷ k ∷ labels) = min l (least_of (k ∷ labels))

-- a label, once the blocks of these labels are joined
abbrev pub relabelled : List ℕ → ℕ → ℕ
relabelled touched l = if is_one_of touched l then least_of touched else l

-- the labels, once the blocks of these vertices are joined
abbrev pub joined_in : Shifts → List ℕ → List ℕ → List ℕ
joined_in asked labels five = map (relabelled (map (label_by asked labels) five)) labels

-- the labels, once the blocks of each of these pairs are joined
abbrev pub joined_all : Mesh → Shifts → List ℕ → List PairName → List ℕ
joined_all m asked labels hits =
    fold (λ ls n. joined_in asked ls (five_ids (pair_named m n))) labels hits

-- these labels, where those at these places are joined: the first of them stands at place i
abbrev pub relabelled_at : List ℕ → List ℕ → ℕ → List ℕ → List ℕ
relabelled_at touched places i [] = []
relabelled_at touched places i (l ∷ labels) =
    (if is_one_of places i then relabelled touched l else l)
    ∷ relabelled_at touched places (i + 1) labels

-- a vertex whose place is none of these is the label of itself, and of no other
abbrev pub AreAlone : Shifts → List ℕ → List ℕ → Type 0
AreAlone asked places labels = (i : ℕ) (s : ShiftOf) → slice_get asked i ≡ Some s →
    is_one_of places i ≡ false →
    (slice_get labels i ≡ Some s.v) × ((j : ℕ) → slice_get labels j ≡ Some s.v → j ≡ i)

-- the places are those before and those of some vertices, as far as they have one
abbrev pub HasPlaces : Shifts → List ℕ → List ℕ → List ℕ → Type 0
HasPlaces asked vertices before places = (i : ℕ) (s : ShiftOf) → slice_get asked i ≡ Some s →
    is_one_of places i ≡ false →
    (is_one_of before i ≡ false) × (is_one_of vertices s.v ≡ false)

-- each label is a vertex that is named
abbrev pub AreNamed : Shifts → List ℕ → Type 0
AreNamed asked labels = AllByRecursion (λ l. IsTrue (is_one_of (map (λ s. s.v) asked) l)) labels
