-- What the stored fields of the program are.
use Rattle.std.specs.Prelude.{ℕ, ◌==◌, if◌then◌else◌, List, [], ◌∷◌, codes, ℤ, pos, neg_ℤ, int_div}
use Rattle.grid_base.specs.Triples.{Triple}
use Rattle.grid_base.specs.declared.Point.{Point}

-- their names, in the order of their numbers
abbrev pub shipped : List (List ℕ)
shipped = codes "swirl" ∷ codes "swell" ∷ codes "shrink" ∷ []

-- a 64th of a coordinate, toward zero
abbrev pub part : ℤ → ℤ
part c = int_div c (pos 64)

-- about the z axis
abbrev pub swirled : Point → Triple
swirled p = record { x = neg_ℤ (part p.y); y = part p.x; z = pos 0 }

-- away from the origin
abbrev pub swelled : Point → Triple
swelled p = record { x = part p.x; y = part p.y; z = part p.z }

-- towards the origin
abbrev pub shrunk : Point → Triple
shrunk p = record { x = neg_ℤ (part p.x); y = neg_ℤ (part p.y); z = neg_ℤ (part p.z) }

-- what the field of a number gives at a point
abbrev pub shipped_at : ℕ → Point → Triple
shipped_at which p = if which == 0 then swirled p else if which == 1 then swelled p else shrunk p
