-- The written test of a motion: directions that keep an edge on one side of a triangle.
use Rattle.std.specs.Prelude.{◌≡◌, ℕ, zero, suc, List, [], ◌∷◌, ◌++◌, ◌⊎◌, pos, ◌<ℤ◌, ◌≤ℤ◌}
use Rattle.std.specs.List.{Any}
use Rattle.grid_base.specs.Triples.{Triple, plus, minus, times, opposite, dot, cross}
use Rattle.grid_base.specs.Meeting.{Positions, MeetAt}

-- both edge ends are strictly below all three corners, along the direction n
pub record IsBelow (n : Triple) (f : Positions) : Type 0 where
  pub ac : dot n f.a <ℤ dot n f.c
  pub ad : dot n f.a <ℤ dot n f.d
  pub ae : dot n f.a <ℤ dot n f.e
  pub bc : dot n f.b <ℤ dot n f.c
  pub bd : dot n f.b <ℤ dot n f.d
  pub be : dot n f.b <ℤ dot n f.e

-- both edge ends are at or below all three corners
pub record IsWeaklyBelow (n : Triple) (f : Positions) : Type 0 where
  pub ac : dot n f.a ≤ℤ dot n f.c
  pub ad : dot n f.a ≤ℤ dot n f.d
  pub ae : dot n f.a ≤ℤ dot n f.e
  pub bc : dot n f.b ≤ℤ dot n f.c
  pub bd : dot n f.b ≤ℤ dot n f.d
  pub be : dot n f.b ≤ℤ dot n f.e

-- both edge ends are strictly above all three corners
abbrev pub IsAbove : Triple → Positions → Type 0
IsAbove n f = IsBelow (opposite n) f

-- both edge ends are at or above all three corners
abbrev pub IsWeaklyAbove : Triple → Positions → Type 0
IsWeaklyAbove n f = IsWeaklyBelow (opposite n) f

-- the edge is below at the start and at the end, or above at both
abbrev pub KeepsApart : Positions → Positions → Triple → Type 0
KeepsApart start end n = (IsBelow n start × IsBelow n end) ⊎ (IsAbove n start × IsAbove n end)

-- the edge is weakly below at the start and below at the end, or weakly above and then above
abbrev pub TakesApart : Positions → Positions → Triple → Type 0
TakesApart start end n =
    (IsWeaklyBelow n start × IsBelow n end) ⊎ (IsWeaklyAbove n start × IsAbove n end)

-- the edge is below at the start and weakly below at the end, or above and then weakly above
abbrev pub BringsTogether : Positions → Positions → Triple → Type 0
BringsTogether start end n =
    (IsBelow n start × IsWeaklyBelow n end) ⊎ (IsAbove n start × IsWeaklyAbove n end)

-- the ten directions that five positions give
abbrev pub ten_directions : Positions → List Triple
ten_directions f =
    cross (minus f.d f.c) (minus f.e f.c)
    ∷ cross (minus f.b f.a) (minus f.d f.c) ∷ cross (minus f.b f.a) (minus f.e f.d)
    ∷ cross (minus f.b f.a) (minus f.c f.e)
    ∷ minus f.c f.a ∷ minus f.d f.a ∷ minus f.e f.a
    ∷ minus f.c f.b ∷ minus f.d f.b ∷ minus f.e f.b ∷ []

-- the directions along the axes x, y and z
abbrev pub axes : List Triple
axes =
    record { x = pos 1; y = pos 0; z = pos 0 }
    ∷ record { x = pos 0; y = pos 1; z = pos 0 }
    ∷ record { x = pos 0; y = pos 0; z = pos 1 } ∷ []

-- the 23 directions over an interval, in the order in which they are tried
abbrev pub directions : Positions → Positions → List Triple
directions start end = axes ++ ten_directions start ++ ten_directions end

-- one of them keeps the edge and the triangle apart
abbrev pub AreKeptApart : Positions → Positions → Type 0
AreKeptApart start end = Any (KeepsApart start end) (directions start end)

-- one of them takes the edge and the triangle apart
abbrev pub AreTakenApart : Positions → Positions → Type 0
AreTakenApart start end = Any (TakesApart start end) (directions start end)

-- all five positions multiplied by n
abbrev pub multiple : ℕ → Positions → Positions
multiple n f =
    record { a = times n f.a; b = times n f.b; c = times n f.c; d = times n f.d; e = times n f.e }

-- the outer positions of a half, double as its middle is
abbrev pub double : Positions → Positions
double f = multiple 2 f

-- the middle of an interval, double: the sum of its start and its end
abbrev pub middle : Positions → Positions → Positions
middle s t = record {
  a = plus s.a t.a;
  b = plus s.b t.b;
  c = plus s.c t.c;
  d = plus s.d t.d;
  e = plus s.e t.e;
}

-- Some direction keeps the edge and the triangle apart; or, where depth is left, both
-- halves of the interval are separated.
abbrev pub AreSeparated : ℕ → Positions → Positions → Type 0
AreSeparated zero start end = Any (KeepsApart start end) (directions start end)
AreSeparated (suc depth) start end =
    Any (KeepsApart start end) (directions start end)
    ⊎ (AreSeparated depth (double start) (middle start end)
    × AreSeparated depth (middle start end) (double end))

-- the five positions all move by one shift
pub record MoveTogether (start end : Positions) : Type 0 where
  pub b : minus end.b start.b ≡ minus end.a start.a
  pub c : minus end.c start.c ≡ minus end.a start.a
  pub d : minus end.d start.d ≡ minus end.a start.a
  pub e : minus end.e start.e ≡ minus end.a start.a

-- The pair is separated, or moves as one and does not meet at the start.
abbrev pub Passes : ℕ → Positions → Positions → Type 0
Passes depth start end = AreSeparated depth start end ⊎ (MoveTogether start end × ¬ (MeetAt start))

-- Some direction takes the edge and the triangle apart; or, where depth is left, the first half
-- opens and the second is separated.
abbrev pub Opens : ℕ → Positions → Positions → Type 0
Opens zero start end = Any (TakesApart start end) (directions start end)
Opens (suc depth) start end =
    Any (TakesApart start end) (directions start end)
    ⊎ (Opens depth (double start) (middle start end)
    × AreSeparated depth (middle start end) (double end))

-- The pair opens where its start and its end are exchanged.
abbrev pub Closes : ℕ → Positions → Positions → Type 0
Closes depth start end = Opens depth end start
