-- How the half-edges that leave vertices change.
use Rattle.std.specs.Prelude.{ℕ, ◌≡◌, ◌≢◌, Some}
use Rattle.std.specs.FinMap as finite
use Rattle.half_mesh.specs.Fans.{Fan, Fans, Side, Sides, side_at, put_spoke}
use Rattle.half_mesh.specs.Ground.{Ground}

-- the same with other fans
abbrev pub with_fans : Ground → Fans → Ground
with_fans g fans = record g { woven = record g.woven { fans = fans } }

-- the fan of a live vertex becomes another
abbrev pub ChangesFan : Ground → Ground → ℕ → (Fan → Fan) → Type 0
ChangesFan old new v change = (fan : Fan) → finite.get old.woven.fans v ≡ Some fan →
    new.woven.fans ≡ finite.insert old.woven.fans v (change fan)

-- the fan with this half-edge, at the place of its face
abbrev pub with_side : Fan → Side → Fan
with_side fan side =
    record fan { spokes = put_spoke (record { face = side.face; to = side.to }) fan.spokes }

-- what is buried, and how many vertices more find memory, is as it was
abbrev pub KeepsRest : Ground → Ground → Type 0
KeepsRest old new = (new.buried ≡ old.buried) × (new.seats ≡ old.seats)

-- each half-edge is as it was
abbrev pub KeepsSides : Sides → Sides → Type 0
KeepsSides old new = (key : ℕ) → side_at new key ≡ side_at old key

-- each at another key
abbrev pub KeepsOtherSides : ℕ → Sides → Sides → Type 0
KeepsOtherSides key old new = (other : ℕ) → other ≢ key → side_at new other ≡ side_at old other

-- each that is not of the face
abbrev pub KeepsSidesOutside : ℕ → Sides → Sides → Type 0
KeepsSidesOutside f old new = (key : ℕ) (side : Side) → side_at old key ≡ Some side →
    side.face ≢ f → side_at new key ≡ Some side
