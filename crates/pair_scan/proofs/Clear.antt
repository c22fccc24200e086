-- No pair is found exactly where the mesh is clear.
use Rattle.std.proofs.Common.{◌≡◌, ◌↔◌, Bool, true, false, cond, List, [], ◌∷◌, Option, Some, None, refl, sym, ap, subst, ◌∙◌}
use Rattle.std.specs.Prelude.{IsNone, IfSome}
use Rattle.std.specs.List.{find, AllByRecursion}
use Rattle.std.specs.Option.{option_map}
use Rattle.std.proofs.lemmas.Bool.{false≢true}
use Rattle.std.proofs.lemmas.List.Elements.{All-from_recursion, All-contains}
use Rattle.grid_base.specs.Meeting.{MeetAt}
use Rattle.grid_base.specs.declared.Positions.{Positions}
use Rattle.grid_decided.specs.Decided.{meets_exactly, meets_exactly-is_exact}
use Rattle.mesh_base.specs.declared.ids.PairName.{PairName}
use Rattle.mesh_base.specs.Mesh.{Mesh, IsSound}
use Rattle.mesh_base.specs.Pairs.{Pair, IsPair, pairs}
use Rattle.mesh_base.specs.Placements.{rest_positions, positions, IsClearMesh}
use Rattle.mesh_base.proofs.ListedPairs.{pair_listed, listed_pairs, all_weaker}
use Rattle.pair_scan.specs.Scan.{first_of, IsMeeting}

module _ {X : Type 0} (p : X → Bool) where
  none_passes : (xs : List X) → find p xs ≡ None → AllByRecursion (λ x. p x ≡ false) xs
  none_passes [] e = tt
  none_passes (x ∷ xs) e = by_test (none_passes xs) (p x) refl e
    where
      by_test : (find p xs ≡ None → AllByRecursion (λ y. p y ≡ false) xs) → (b : Bool) → p x ≡ b → cond b (Some x) (find p xs) ≡ None → (p x ≡ false) × AllByRecursion (λ y. p y ≡ false) xs
      by_test rest true t e = cc
      by_test rest false t e = (t, rest e)

  found_none : (xs : List X) → AllByRecursion (λ x. p x ≡ false) xs → find p xs ≡ None
  found_none [] h = refl
  found_none (x ∷ xs) h = ap (λ b. cond b (Some x) (find p xs)) h.0 ∙ found_none xs h.1

  -- what is found is in the list, and passes
  found_passes : (xs : List X) (x : X) → find p xs ≡ Some x → (p x ≡ true) × ((P : X → Type 0) → AllByRecursion P xs → P x)
  found_passes [] x e = cc
  found_passes (y ∷ xs) x e = by_test (found_passes xs x) (p y) refl e
    where
      by_test : (find p xs ≡ Some x → (p x ≡ true) × ((P : X → Type 0) → AllByRecursion P xs → P x)) → (b : Bool) → p y ≡ b → cond b (Some y) (find p xs) ≡ Some x → (p x ≡ true) × ((P : X → Type 0) → AllByRecursion P (y ∷ xs) → P x)
      by_test rest true t e = let same : y ≡ x = cc in (subst (λ z. p z ≡ true) same t, λ P h. subst P same h.0)
      by_test rest false t e = ((rest e).0, λ P h. (rest e).1 P h.1)

nothing : {X Y : Type 0} (f : X → Y) (o : Option X) → option_map f o ≡ None → o ≡ None
nothing f None e = refl
nothing f (Some x) e = cc

pub apart : (f : Positions) → ¬ (MeetAt f) → meets_exactly f ≡ false
apart f never = by_test (meets_exactly f) refl
  where
    by_test : (b : Bool) → meets_exactly f ≡ b → b ≡ false
    by_test true e = absurd (never ((meets_exactly-is_exact f).0 e))
    by_test false e = refl

-- whether the pair meets where the vertices stand
abbrev met : Mesh → Pair → Bool
met m p = meets_exactly (positions (rest_positions m) p)

none_is_clear : (m : Mesh) → IsSound m → first_of m (pairs m) ≡ None → IsClearMesh m
none_is_clear m sound none p is meet =
    let all_off = none_passes (met m) (pairs m) (nothing (λ q. q.name) (find (met m) (pairs m)) none) in
    let off : met m p ≡ false = All-contains (λ q. met m q ≡ false) (pairs m) p (All-from_recursion (λ q. met m q ≡ false) (pairs m) all_off) ((pair_listed m sound p).1 is) in
    false≢true (sym off ∙ (meets_exactly-is_exact (positions (rest_positions m) p)).1 meet)

clear_is_none : (m : Mesh) → IsClearMesh m → first_of m (pairs m) ≡ None
clear_is_none m clear =
    ap (option_map (λ q. q.name)) (found_none (met m) (pairs m) (all_weaker (IsPair m) (λ p. met m p ≡ false) (pairs m) (λ p is. apart (positions (rest_positions m) p) (clear p is)) (listed_pairs m)))

some_meets : (m : Mesh) (n : PairName) → first_of m (pairs m) ≡ Some n → IsMeeting m n
some_meets m n e = by_answer (find (met m) (pairs m)) refl e
  where
    named : (p : Pair) → p.name ≡ n → met m p ≡ true → IsPair m p → IsMeeting m n
    named p same passes is = subst (λ k. IsMeeting m k) same (p.corners, is, (meets_exactly-is_exact (positions (rest_positions m) p)).0 passes)

    by_answer : (o : Option Pair) → find (met m) (pairs m) ≡ o → option_map (λ q. q.name) o ≡ Some n → IsMeeting m n
    by_answer None f e = cc
    by_answer (Some p) f e =
        let found = found_passes (met m) (pairs m) p f in
        named p (cc) found.0 (found.1 (IsPair m) (listed_pairs m))

-- nothing is answered exactly where the mesh is clear
pub clear_exactly : (m : Mesh) (r : Option PairName) → IsSound m → r ≡ first_of m (pairs m) → IsNone r ↔ IsClearMesh m
clear_exactly m None sound e = (λ _. none_is_clear m sound (sym e), λ _. refl)
clear_exactly m (Some n) sound e = (λ h. absurd (false≢true (sym h)), λ clear. let other : Some n ≡ None = e ∙ clear_is_none m clear in cc)

-- what is answered is a pair that meets
pub answer_meets : (m : Mesh) (r : Option PairName) → r ≡ first_of m (pairs m) → IfSome r (IsMeeting m)
answer_meets m None e = tt
answer_meets m (Some n) e = some_meets m n (sym e)
