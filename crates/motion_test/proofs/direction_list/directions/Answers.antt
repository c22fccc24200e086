use Rattle.std.proofs.Common.{◌≡◌, ℤ, pos, List, [], ◌∷◌, length, get_or, ap, arith, rules}
use Rattle.std.specs.List.{All}
use Rattle.std.proofs.lemmas.List.Elements.{All-cons}
use Rattle.grid_base.specs.declared.TheConstants.{DIRECTION_MAX}
use Rattle.grid_base.specs.Triples.{Triple, IsWithin}
use Rattle.motion_test.proofs.direction_list.directions.Goals as goal

record Each (P : Triple → Type 0) (xs : List Triple) : Type 0 where
  all : All P xs

more : {P : Triple → Type 0} {x : Triple} {xs : List Triple} → P x → Each P xs → Each P (x ∷ xs)
more {P} {x} {xs} h each = record { all = All-cons P x xs h each.all }

-- ten directions of a list, before others
abbrev with_ten : Triple → List Triple → List Triple → List Triple
with_ten o xs rest = get_or xs 0 o ∷ get_or xs 1 o ∷ get_or xs 2 o ∷ get_or xs 3 o ∷ get_or xs 4 o ∷ get_or xs 5 o ∷ get_or xs 6 o ∷ get_or xs 7 o ∷ get_or xs 8 o ∷ get_or xs 9 o ∷ rest

each_of_ten : (P : Triple → Type 0) (o : Triple) (xs rest : List Triple) → length xs ≡ 10 → All P xs → Each P rest → Each P (with_ten o xs rest)
each_of_ten P o xs rest len h each =
    more (h 0 o (omega arith)) (more (h 1 o (omega arith)) (more (h 2 o (omega arith)) (more (h 3 o (omega arith)) (more (h 4 o (omega arith))
    (more (h 5 o (omega arith)) (more (h 6 o (omega arith)) (more (h 7 o (omega arith)) (more (h 8 o (omega arith)) (more (h 9 o (omega arith)) each)))))))))

abbrev along : ℤ → ℤ → ℤ → Triple
along x y z = record { x = x; y = y; z = z }

pub returns-clause-within : goal.returns-clause-within
returns-clause-within c =
    let P = IsWithin DIRECTION_MAX in
    let o = along (pos 0) (pos 0) (pos 0) in
    let none : Each P [] = record { all = λ k d h. absurd (omega arith) } in
    let later : Each P (with_ten o c.ten-b.result []) = each_of_ten P o c.ten-b.result [] (ap length c.ten-b.ensures.value) c.ten-b.ensures.within none in
    let both = each_of_ten P o c.ten-a.result (with_ten o c.ten-b.result []) (ap length c.ten-a.ensures.value) c.ten-a.ensures.within later in
    let x : P (along (pos 1) (pos 0) (pos 0)) = search rules in
    let y : P (along (pos 0) (pos 1) (pos 0)) = search rules in
    let z : P (along (pos 0) (pos 0) (pos 1)) = search rules in
    let found : Each P (along (pos 1) (pos 0) (pos 0) ∷ along (pos 0) (pos 1) (pos 0) ∷ along (pos 0) (pos 0) (pos 1) ∷ with_ten o c.ten-a.result (with_ten o c.ten-b.result [])) = more x (more y (more z both)) in
    found.all
