-- Where moves fit, each that is looked up does.
use Rattle.std.proofs.Common.{◌≡◌, ℕ, Bool, true, false, cond, List, [], ◌∷◌, Some, nat_eq, subst}
use Rattle.std.specs.List.{All, AllByRecursion}
use Rattle.std.proofs.lemmas.List.Elements.{recursion_from_All}
use Rattle.edit_base.specs.declared.Move.{Move}
use Rattle.edit_base.specs.Scaffold.{move_of}
use Rattle.pair_scan.specs.Moves.{MoveFits}

found_fits : (moves : List Move) (v : ℕ) (move : Move) → AllByRecursion MoveFits moves → move_of moves v ≡ Some move → MoveFits move
found_fits [] v move h e = cc
found_fits (first ∷ moves) v move h e = by_test (found_fits moves v move h.1) (nat_eq first.v v) e
  where
    by_test : (move_of moves v ≡ Some move → MoveFits move) → (b : Bool) → cond b (Some first) (move_of moves v) ≡ Some move → MoveFits move
    by_test rest true e = let same : first ≡ move = cc in subst MoveFits same h.0
    by_test rest false e = rest e

pub move_fits : (moves : List Move) (v : ℕ) (move : Move) → All MoveFits moves → move_of moves v ≡ Some move → MoveFits move
move_fits moves v move fit e = found_fits moves v move (recursion_from_All MoveFits moves fit) e
