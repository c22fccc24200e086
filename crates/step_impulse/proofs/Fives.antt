-- What five ids make.
use Rattle.std.proofs.Common.{◌≡◌, ℕ, List, [], ◌∷◌, length, map, get_or, Bool, sym, ap, ◌∙◌, arith}
use Rattle.grid_base.specs.declared.Point.{Point}
use Rattle.grid_base.specs.declared.Shift.{Shift}
use Rattle.grid_base.specs.Triples.{Triple}
use Rattle.grid_base.specs.Points.{position_of, displacement_of}
use Rattle.mesh_base.specs.Mesh.{Mesh, is_solid}
use Rattle.mesh_base.specs.Pairs.{Pair, five_ids}
use Rattle.mesh_base.specs.Placements.{rest_positions, positions, point_of}
use Rattle.mesh_base.specs.Shifts.{Shifts, shift_at}
use Rattle.mesh_base.proofs.PointOf.{position_of-point_of}
use Rattle.step_impulse.specs.Impulse.{places_of, after_impulse}
use Rattle.step_impulse.specs.Passes.{with_shifts_of, after_pair}

pub five_made : {X : Type 0} (f : ℕ → X) (ids : List ℕ) (v0 v1 v2 v3 v4 : ℕ) (x0 x1 x2 x3 x4 : X) → length ids ≡ 5
    → x0 ≡ f (get_or ids 0 v0) → x1 ≡ f (get_or ids 1 v1) → x2 ≡ f (get_or ids 2 v2) → x3 ≡ f (get_or ids 3 v3) → x4 ≡ f (get_or ids 4 v4)
    → x0 ∷ x1 ∷ x2 ∷ x3 ∷ x4 ∷ [] ≡ map f ids
five_made f [] v0 v1 v2 v3 v4 x0 x1 x2 x3 x4 n h0 h1 h2 h3 h4 = absurd (omega arith)
five_made f (a ∷ []) v0 v1 v2 v3 v4 x0 x1 x2 x3 x4 n h0 h1 h2 h3 h4 = absurd (omega arith)
five_made f (a ∷ b ∷ []) v0 v1 v2 v3 v4 x0 x1 x2 x3 x4 n h0 h1 h2 h3 h4 = absurd (omega arith)
five_made f (a ∷ b ∷ c ∷ []) v0 v1 v2 v3 v4 x0 x1 x2 x3 x4 n h0 h1 h2 h3 h4 = absurd (omega arith)
five_made f (a ∷ b ∷ c ∷ d ∷ []) v0 v1 v2 v3 v4 x0 x1 x2 x3 x4 n h0 h1 h2 h3 h4 = absurd (omega arith)
five_made f (a ∷ b ∷ c ∷ d ∷ e ∷ []) v0 v1 v2 v3 v4 x0 x1 x2 x3 x4 n h0 h1 h2 h3 h4 = λ i. h0 i ∷ h1 i ∷ h2 i ∷ h3 i ∷ h4 i ∷ []
five_made f (a ∷ b ∷ c ∷ d ∷ e ∷ g ∷ more) v0 v1 v2 v3 v4 x0 x1 x2 x3 x4 n h0 h1 h2 h3 h4 = absurd (omega arith)

stands : (m : Mesh) (p : Point) (v : ℕ) → p ≡ point_of m v → position_of p ≡ rest_positions m v
stands m p v e = ap position_of e ∙ position_of-point_of m v

pub five_stand : (m : Mesh) (ids : List ℕ) (v0 v1 v2 v3 v4 : ℕ) (p0 p1 p2 p3 p4 : Point) → length ids ≡ 5
    → p0 ≡ point_of m (get_or ids 0 v0) → p1 ≡ point_of m (get_or ids 1 v1) → p2 ≡ point_of m (get_or ids 2 v2) → p3 ≡ point_of m (get_or ids 3 v3) → p4 ≡ point_of m (get_or ids 4 v4)
    → position_of p0 ∷ position_of p1 ∷ position_of p2 ∷ position_of p3 ∷ position_of p4 ∷ [] ≡ map (rest_positions m) ids
five_stand m ids v0 v1 v2 v3 v4 p0 p1 p2 p3 p4 n h0 h1 h2 h3 h4 =
    five_made (rest_positions m) ids v0 v1 v2 v3 v4 (position_of p0) (position_of p1) (position_of p2) (position_of p3) (position_of p4) n
    (stands m p0 _ h0) (stands m p1 _ h1) (stands m p2 _ h2) (stands m p3 _ h3) (stands m p4 _ h4)

-- the five of a pair stand where the pair does
pub pair_stands : (m : Mesh) (p : Pair) (ps : List Point) → map position_of ps ≡ map (rest_positions m) (five_ids p) → places_of ps ≡ positions (rest_positions m) p
pair_stands m p [] h = cc
pair_stands m p (a ∷ []) h = cc
pair_stands m p (a ∷ b ∷ []) h = cc
pair_stands m p (a ∷ b ∷ c ∷ []) h = cc
pair_stands m p (a ∷ b ∷ c ∷ d ∷ []) h = cc
pair_stands m p (a ∷ b ∷ c ∷ d ∷ e ∷ []) h =
    let ha : position_of a ≡ rest_positions m p.name.a = cc in
    let hb : position_of b ≡ rest_positions m p.name.b = cc in
    let hc : position_of c ≡ rest_positions m p.corners.first = cc in
    let hd : position_of d ≡ rest_positions m p.corners.second = cc in
    let he : position_of e ≡ rest_positions m p.corners.third = cc in
    λ i. record { a = ha i; b = hb i; c = hc i; d = hd i; e = he i }
pair_stands m p (a ∷ b ∷ c ∷ d ∷ e ∷ f ∷ more) h = cc

-- an impulse on the five of a pair is one on the pair
pub pair_impelled : (m : Mesh) (p : Pair) (shifts after : Shifts) (ids : List ℕ) (ps : List Point) (fixed : List Bool) (old by : List Shift)
    → ids ≡ five_ids p → map position_of ps ≡ map (rest_positions m) ids → fixed ≡ map (is_solid m) ids → map displacement_of old ≡ map (shift_at shifts) ids
    → map displacement_of by ≡ after_impulse (places_of ps) ids fixed (map displacement_of old)
    → after ≡ with_shifts_of ids (map displacement_of by) shifts → after ≡ after_pair m shifts p
unfolding after_pair
pair_impelled m p shifts after ids ps fixed old by five stood marked had given put =
    let standing : map position_of ps ≡ map (rest_positions m) (five_ids p) = stood ∙ ap (map (rest_positions m)) five in
    let marks : fixed ≡ map (is_solid m) (five_ids p) = marked ∙ ap (map (is_solid m)) five in
    let shifted : map displacement_of old ≡ map (shift_at shifts) (five_ids p) = had ∙ ap (map (shift_at shifts)) five in
    put
    ∙ ap (λ ts. with_shifts_of ids ts shifts) given
    ∙ (λ i. with_shifts_of (five i) (after_impulse (pair_stands m p ps standing i) (five i) (marks i) (shifted i)) shifts)
