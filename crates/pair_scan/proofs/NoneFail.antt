-- What a scan finds, and whether it is nothing.
use Rattle.std.proofs.Common.{◌≡◌, ◌==◌, Bool, true, false, List, [], ◌∷◌, ◌++◌, length, take, suc, refl, sym, ap, ◌∙◌, arith}
use Rattle.std.proofs.lemmas.Bool.{ne_eqb, false≢true}
use Rattle.mesh_base.specs.declared.ids.PairName.{PairName}
use Rattle.pair_candidates.specs.Told.{up_to}
use Rattle.pair_scan.specs.Found.{has_none, most_if, AreFound}

-- ---- a scan that is over
pub found_whole : (ends_early : Bool) (all found : List PairName) → found ≡ all → AreFound ends_early all found
found_whole ends_early all found same = record { whole = λ _. same; none = ap has_none same }

-- what is found is not all yet, and has something
pub found_early : (ends_early : Bool) (found rest all : List PairName) → ends_early ≡ true → has_none found ≡ false → found ++ rest ≡ all → AreFound ends_early all found
found_early ends_early [] rest all early some is = absurd (false≢true (sym some))
found_early ends_early (x ∷ xs) rest all early some is = record { whole = λ late. absurd (false≢true (sym late ∙ early)); none = ap has_none is }

-- a scan that ends with the first
pub found_up_to : (ends_early : Bool) (all found : List PairName) → up_to (most_if ends_early) found ≡ up_to (most_if ends_early) all → AreFound ends_early all found
found_up_to false all found same = found_whole false all found same
found_up_to true all found same = record { whole = λ late. absurd (false≢true (sym late)); none = none_of_one found ∙ ap has_none same ∙ sym (none_of_one all) }
  where
    none_of_one : (xs : List PairName) → has_none xs ≡ has_none (take 1 xs)
    none_of_one [] = refl
    none_of_one (x ∷ xs) = refl

-- ---- a list that has nothing
pub nothing : {X : Type 0} (xs : List X) → has_none xs ≡ true → xs ≡ []
nothing [] e = refl
nothing (x ∷ xs) e = absurd (false≢true e)

pub by_length : {X : Type 0} (xs : List X) → has_none xs ≡ (length xs == 0)
by_length [] = refl
by_length (x ∷ xs) = sym (ne_eqb (length (x ∷ xs)) 0 (λ none. absurd (let no : suc (length xs) ≡ 0 = none in omega arith)))
