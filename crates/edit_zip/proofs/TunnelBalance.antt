-- The eight faces between two rims of four vertices.
use Rattle.std.proofs.Common.{◌≡◌, ◌≢◌, ℕ, ◌+◌, cond, List, [], ◌∷◌, arith}
use Rattle.std.proofs.Math.Logic.{Ne-symm}
use Rattle.std.specs.List.{AllByRecursion}
use Rattle.mesh_base.specs.declared.ids.Corners.{Corners}
use Rattle.mesh_base.specs.Mesh.{Mesh, IsLiveVertex, AreDifferent}
use Rattle.mesh_base.specs.Sides.{follows}
use Rattle.edit_base.specs.Edges.{corners_from}
use Rattle.edit_base.proofs.Arcs.{arc, other_way, round, three_arcs}
use Rattle.edit_acts.proofs.Flow.{flow}
use Rattle.edit_acts.specs.Making.{MayBeMade}

-- p0 to p3 round the one, r0 to r3 round the other, the other way
abbrev pub tunnel : ℕ → ℕ → ℕ → ℕ → ℕ → ℕ → ℕ → ℕ → List Corners
tunnel p0 p1 p2 p3 r0 r1 r2 r3 =
    corners_from p0 p1 r0 ∷ corners_from p1 r1 r0
    ∷ corners_from p1 p2 r1 ∷ corners_from p2 r2 r1
    ∷ corners_from p2 p3 r2 ∷ corners_from p3 r3 r2
    ∷ corners_from p3 p0 r3 ∷ corners_from p0 r0 r3 ∷ []

-- neighbours round a rim are different
pub record IsRim (p0 p1 p2 p3 : ℕ) : Type 0 where
  pub first : p0 ≢ p1
  pub second : p1 ≢ p2
  pub third : p2 ≢ p3
  pub fourth : p3 ≢ p0

-- the vertices of one rim are none of the other
pub record AreFar (p r0 r1 r2 r3 : ℕ) : Type 0 where
  pub first : p ≢ r0
  pub second : p ≢ r1
  pub third : p ≢ r2
  pub fourth : p ≢ r3

pub record AreAllLive (m : Mesh) (p0 p1 p2 p3 : ℕ) : Type 0 where
  pub first : IsLiveVertex m p0
  pub second : IsLiveVertex m p1
  pub third : IsLiveVertex m p2
  pub fourth : IsLiveVertex m p3

module _ (p0 p1 p2 p3 r0 r1 r2 r3 : ℕ) (p : IsRim p0 p1 p2 p3) (r : IsRim r0 r1 r2 r3) (f0 : AreFar p0 r0 r1 r2 r3) (f1 : AreFar p1 r0 r1 r2 r3) (f2 : AreFar p2 r0 r1 r2 r3) (f3 : AreFar p3 r0 r1 r2 r3) where
  of : (x y z : ℕ) → x ≢ y → y ≢ z → z ≢ x → AreDifferent (corners_from x y z)
  of x y z a b c = record { first_second = a; second_third = b; third_first = c }

  pub may_be_made : (m : Mesh) → AreAllLive m p0 p1 p2 p3 → AreAllLive m r0 r1 r2 r3 → AllByRecursion (MayBeMade m) (tunnel p0 p1 p2 p3 r0 r1 r2 r3)
  may_be_made m lp lr =
      let one : MayBeMade m (corners_from p0 p1 r0) = ((lp.first, lp.second, lr.first), of p0 p1 r0 p.first f1.first (Ne-symm f0.first)) in
      let two : MayBeMade m (corners_from p1 r1 r0) = ((lp.second, lr.second, lr.first), of p1 r1 r0 f1.second (Ne-symm r.first) (Ne-symm f1.first)) in
      let three : MayBeMade m (corners_from p1 p2 r1) = ((lp.second, lp.third, lr.second), of p1 p2 r1 p.second f2.second (Ne-symm f1.second)) in
      let four : MayBeMade m (corners_from p2 r2 r1) = ((lp.third, lr.third, lr.second), of p2 r2 r1 f2.third (Ne-symm r.second) (Ne-symm f2.second)) in
      let five : MayBeMade m (corners_from p2 p3 r2) = ((lp.third, lp.fourth, lr.third), of p2 p3 r2 p.third f3.third (Ne-symm f2.third)) in
      let six : MayBeMade m (corners_from p3 r3 r2) = ((lp.fourth, lr.fourth, lr.third), of p3 r3 r2 f3.fourth (Ne-symm r.third) (Ne-symm f3.third)) in
      let seven : MayBeMade m (corners_from p3 p0 r3) = ((lp.fourth, lp.first, lr.fourth), of p3 p0 r3 p.fourth f0.fourth (Ne-symm f3.fourth)) in
      let eight : MayBeMade m (corners_from p0 r0 r3) = ((lp.first, lr.first, lr.fourth), of p0 r0 r3 f0.first (Ne-symm r.fourth) (Ne-symm f0.fourth)) in
      (one, (two, (three, (four, (five, (six, (seven, (eight, tt))))))))

  -- ---- how often a step is made
  -- the steps along the two rims
  abbrev pub rims : ℕ → ℕ → ℕ
  rims u v = (arc p0 p1 u v + arc p1 p2 u v + arc p2 p3 u v + arc p3 p0 u v) + (arc r1 r0 u v + arc r2 r1 u v + arc r3 r2 u v + arc r0 r3 u v)

  two_ways : ℕ → ℕ → ℕ → ℕ → ℕ
  two_ways x y u v = arc x y u v + arc y x u v

  two_ways_alike : (x y u v : ℕ) → two_ways x y u v ≡ two_ways x y v u
  unfolding two_ways
  two_ways_alike x y u v = turned (arc x y u v) (arc y x u v) (arc x y v u) (arc y x v u) (other_way x y u v) (other_way y x u v)
    where
      turned : (a b c d : ℕ) → a ≡ d → b ≡ c → a + b ≡ c + d
      turned a b c d e g = omega arith

  -- and those across, each with its reverse
  across : ℕ → ℕ → ℕ
  across u v = (two_ways p1 r0 u v + two_ways p2 r1 u v + two_ways p3 r2 u v + two_ways p0 r3 u v) + (two_ways p0 r0 u v + two_ways p1 r1 u v + two_ways p2 r2 u v + two_ways p3 r3 u v)

  across_alike : (u v : ℕ) → across u v ≡ across v u
  unfolding across
  across_alike u v = λ i. (two_ways_alike p1 r0 u v i + two_ways_alike p2 r1 u v i + two_ways_alike p3 r2 u v i + two_ways_alike p0 r3 u v i) + (two_ways_alike p0 r0 u v i + two_ways_alike p1 r1 u v i + two_ways_alike p2 r2 u v i + two_ways_alike p3 r3 u v i)

  count : (x y z u v : ℕ) → x ≢ y → y ≢ z → z ≢ x → cond (follows (corners_from x y z) u v) 1 0 ≡ round x y z u v
  count x y z u v a b c = three_arcs (corners_from x y z) u v (of x y z a b c)

  tunnel_flow : (u v : ℕ) → flow (tunnel p0 p1 p2 p3 r0 r1 r2 r3) u v ≡ rims u v + across u v
  unfolding across two_ways
  tunnel_flow u v = total _ _ _ _ _ _ _ _ _ _ _ _ _ _ _ _ _ _ _ _ _ _ _ _ _ _ _ _ _ _ _ _
      (count p0 p1 r0 u v p.first f1.first (Ne-symm f0.first)) (count p1 r1 r0 u v f1.second (Ne-symm r.first) (Ne-symm f1.first))
      (count p1 p2 r1 u v p.second f2.second (Ne-symm f1.second)) (count p2 r2 r1 u v f2.third (Ne-symm r.second) (Ne-symm f2.second))
      (count p2 p3 r2 u v p.third f3.third (Ne-symm f2.third)) (count p3 r3 r2 u v f3.fourth (Ne-symm r.third) (Ne-symm f3.third))
      (count p3 p0 r3 u v p.fourth f0.fourth (Ne-symm f3.fourth)) (count p0 r0 r3 u v f0.first (Ne-symm r.fourth) (Ne-symm f0.fourth))
    where
      total : (c0 d0 c1 d1 c2 d2 c3 d3 p01 p1r0 r0p0 p1r1 r1r0 r0p1 p12 p2r1 r1p1 p2r2 r2r1 r1p2 p23 p3r2 r2p2 p3r3 r3r2 r2p3 p30 p0r3 r3p3 p0r0 r0r3 r3p0 : ℕ) →
          c0 ≡ p01 + p1r0 + r0p0 → d0 ≡ p1r1 + r1r0 + r0p1 → c1 ≡ p12 + p2r1 + r1p1 → d1 ≡ p2r2 + r2r1 + r1p2 →
          c2 ≡ p23 + p3r2 + r2p2 → d2 ≡ p3r3 + r3r2 + r2p3 → c3 ≡ p30 + p0r3 + r3p3 → d3 ≡ p0r0 + r0r3 + r3p0 →
          c0 + (d0 + (c1 + (d1 + (c2 + (d2 + (c3 + (d3 + 0)))))))
          ≡ ((p01 + p12 + p23 + p30) + (r1r0 + r2r1 + r3r2 + r0r3)) + (((p1r0 + r0p1) + (p2r1 + r1p2) + (p3r2 + r2p3) + (p0r3 + r3p0)) + ((p0r0 + r0p0) + (p1r1 + r1p1) + (p2r2 + r2p2) + (p3r3 + r3p3)))
      total c0 d0 c1 d1 c2 d2 c3 d3 p01 p1r0 r0p0 p1r1 r1r0 r0p1 p12 p2r1 r1p1 p2r2 r2r1 r1p2 p23 p3r2 r2p2 p3r3 r3r2 r2p3 p30 p0r3 r3p3 p0r0 r0r3 r3p0 a b c d e f g h = omega arith

  -- the tunnel is balanced but for its rims
  pub tunnel_balance : (u v : ℕ) → flow (tunnel p0 p1 p2 p3 r0 r1 r2 r3) u v + rims v u ≡ flow (tunnel p0 p1 p2 p3 r0 r1 r2 r3) v u + rims u v
  tunnel_balance u v = total _ _ _ _ _ _ (tunnel_flow u v) (tunnel_flow v u) (across_alike u v)
    where
      total : (f g a b x y : ℕ) → f ≡ a + x → g ≡ b + y → x ≡ y → f + b ≡ g + a
      total f g a b x y e h k = omega arith
