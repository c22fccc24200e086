-- The zip of two edges: the openings of their faces are joined by a tube.
use Rattle.std.specs.Prelude.{ℕ, ◌+◌, ◌%◌, ◌==◌, ◌&&◌, ◌||◌, not, Bool, false, List, [], ◌∷◌}
use Rattle.std.specs.Prelude.{◌++◌, is_none, slice_index, nat_lt, ℤ, pos, ◌+ℤ◌, int_lt}
use Rattle.std.specs.Option.{option_or, option_map, option_and_then}
use Rattle.std.specs.List.{filter, find, flat_map, fold, count_by, last_or}
use Rattle.std.proofs.Common.{Option, None}
use Rattle.grid_base.specs.Triples.{Triple, minus, dot}
use Rattle.grid_base.specs.declared.Positions.{Positions}
use Rattle.mesh_base.specs.declared.ids.Corners.{Corners}
use Rattle.edit_base.specs.declared.answers.Why.{Why}
use Rattle.edit_base.specs.declared.answers.Why.TheVariants.{Doubled, Hit}
use Rattle.mesh_base.specs.Mesh.{Mesh}
use Rattle.mesh_base.specs.Placements.{rest_positions}
use Rattle.mesh_base.specs.Failing.{first_meeting}
use Rattle.edit_base.specs.Classes.{is_one_of}
use Rattle.edit_base.specs.Edges.{Edge, corners_from, without_faces, with_faces, doubles_a_face}
use Rattle.edit_base.specs.Reasons.{reason_if}

-- the ids of an edge and its two opposite vertices
abbrev pub four_ids : Edge → List ℕ
four_ids s = s.a ∷ s.b ∷ s.c ∷ s.d ∷ []

-- some number stands twice
abbrev pub repeats : List ℕ → Bool
repeats [] = false
repeats (x ∷ xs) = is_one_of xs x || repeats xs

-- some number of the first stands again after it, there or in the second
abbrev pub repeats_before : List ℕ → List ℕ → Bool
repeats_before [] ys = false
repeats_before (x ∷ xs) ys = is_one_of (xs ++ ys) x || repeats_before xs ys

-- the four turns
abbrev pub turns : List ℕ
turns = 0 ∷ 1 ∷ 2 ∷ 3 ∷ []

-- the corners round the first opening
abbrev pub first_rim : Edge → List ℕ
first_rim s = s.b ∷ s.c ∷ s.a ∷ s.d ∷ []

-- the corners round the second opening, the other way
abbrev pub second_rim : Edge → List ℕ
second_rim s = s.b ∷ s.d ∷ s.a ∷ s.c ∷ []

-- the corner at a place, counted round
abbrev pub round_at : List ℕ → ℕ → ℕ
round_at rim i = slice_index rim (i % 4)

-- the corners of the two faces at place i, in a turn
abbrev pub two_faces : List ℕ → List ℕ → ℕ → ℕ → List Corners
two_faces p r turn i =
    corners_from (round_at p i) (round_at p (i + 1)) (round_at r (i + turn))
    ∷ corners_from (round_at p (i + 1)) (round_at r (i + 1 + turn)) (round_at r (i + turn)) ∷ []

-- the four faces at the edges are dropped, and the eight of the turn are made
abbrev pub zip_mesh : Mesh → Edge → Edge → ℕ → Mesh
zip_mesh m s t turn =
    with_faces (without_faces m (s.left_face ∷ s.right_face ∷ t.left_face ∷ t.right_face ∷ []))
    (flat_map (λ i. two_faces (first_rim s) (second_rim t) turn i) turns)

-- the square of a length
abbrev pub square : Triple → ℤ
square t = dot t t

-- the sum of the squared lengths that a turn joins
abbrev pub squares : Mesh → Edge → Edge → ℕ → ℤ
squares m s t turn =
    fold (λ sum i. sum +ℤ square (minus (rest_positions m (round_at (first_rim s) i))
    (rest_positions m (round_at (second_rim t) (i + turn))))) (pos 0) turns

-- whether a turn is tried before another: the lesser sum first, then the lesser turn
abbrev pub is_before : Mesh → Edge → Edge → ℕ → ℕ → Bool
is_before m s t k l =
    int_lt (squares m s t k) (squares m s t l)
    || (not (int_lt (squares m s t l) (squares m s t k)) && nat_lt k l)

-- the turns with so many before them, of which there is one
abbrev pub turns_of_rank : Mesh → Edge → Edge → ℕ → List ℕ
turns_of_rank m s t n = filter (λ k. count_by (λ l. is_before m s t l k) turns == n) turns

-- the turns in the order in which they are tried: the one with none before
-- it, with one, with two, with three
abbrev pub tried : Mesh → Edge → Edge → List ℕ
tried m s t = flat_map (λ n. turns_of_rank m s t n) turns

-- what is wrong with a turn: it doubles a face, or its result is not clear
abbrev pub turn_reason : (Positions → Bool) → Mesh → Edge → Edge → ℕ → Option Why
turn_reason meets m s t turn =
    let result = zip_mesh m s t turn in
    option_or (reason_if (doubles_a_face result) Doubled)
    (option_map (λ p. Hit p) (first_meeting meets result (rest_positions result)))

-- the first turn with which nothing is wrong
abbrev pub taken_turn : (Positions → Bool) → Mesh → Edge → Edge → Option ℕ
taken_turn meets m s t = find (λ k. is_none (turn_reason meets m s t k)) (tried m s t)

-- what is wrong with the last turn that is tried
abbrev pub last_reason : (Positions → Bool) → Mesh → Edge → Edge → Option Why
last_reason meets m s t =
    option_and_then (λ k. turn_reason meets m s t k) (last_or None (tried m s t))
