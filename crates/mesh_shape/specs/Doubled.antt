-- Faces that are equal up to rotation, by a number that is the same for them.
use Rattle.std.specs.Prelude.{◌≡◌, ℕ, nat_eq, ◌+◌, ◌*◌, ◌^◌, ◌<◌, min, cond, Bool, Some, List}
use Rattle.std.specs.List.{position_from}
use Rattle.std.specs.HashMap.{HashMap, get}
use Rattle.mesh_base.specs.declared.ids.Corners.{Corners}
use Rattle.mesh_base.specs.Changes.{corners_of}
use Rattle.mesh_base.specs.Given.{Faces}

-- three numbers below 2^32 as one
abbrev pub rank_of : ℕ → ℕ → ℕ → ℕ
rank_of a b c = (a * 2 ^ 32 + b) * 2 ^ 32 + c

-- the least of the numbers of a face, turned or not
abbrev pub turn_key : Corners → ℕ
turn_key c =
    min (min (rank_of c.first c.second c.third) (rank_of c.second c.third c.first))
    (rank_of c.third c.first c.second)

-- the corners are below 2^32
abbrev pub HasSmallCorners : Corners → Type 0
HasSmallCorners c = (c.first < 2 ^ 32) × (c.second < 2 ^ 32) × (c.third < 2 ^ 32)

-- whether a face has the key
abbrev pub has_turn_key : ℕ → List ℕ → Bool
has_turn_key key g = nat_eq (turn_key (corners_of g)) key

-- a key has this number, and the others have theirs
abbrev pub IsSeen : {S : Type 0} → ℕ → ℕ → HashMap ℕ ℕ S → HashMap ℕ ℕ S → Type 0
IsSeen key number old new =
    (q : ℕ) → get nat_eq new q ≡ cond (nat_eq key q) (Some number) (get nat_eq old q)

-- each key has the number of the first of these faces with it, where they are numbered from k
abbrev pub HasFirsts : {S : Type 0} → HashMap ℕ ℕ S → ℕ → Faces → Type 0
HasFirsts seen k fs = (key : ℕ) → get nat_eq seen key ≡ position_from (has_turn_key key) k fs
