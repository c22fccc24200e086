-- Lists that are built item by item, and what is found in a list.
use Rattle.std.proofs.Common.{◌≡◌, ℕ, suc, ◌<◌, ◌+◌, Bool, true, false, cond, List, [], ◌∷◌, ◌++◌, Some, map, length, drop, get_or, add-one, append_assoc, refl, sym, ap, ◌∙◌}
use Rattle.std.proofs.Math.Seq.{drop-cons}
use Rattle.std.specs.List.{find}

-- one more item of a list that another is made of
pub mapped_more : {X Y : Type 0} (f : X → Y) (xs : List X) (i : ℕ) (x : X) (before after : List Y) (y : Y) (all : List Y) → i < length xs → x ≡ get_or xs i x → after ≡ before ++ y ∷ [] → y ≡ f x
    → before ++ map f (drop i xs) ≡ all → after ++ map f (drop (i + 1) xs) ≡ all
mapped_more f xs i x before after y all h at pushed is whole =
    ap (λ l. l ++ map f (drop (i + 1) xs)) pushed
    ∙ append_assoc before (y ∷ []) (map f (drop (i + 1) xs))
    ∙ ap (λ z. before ++ z ∷ map f (drop (i + 1) xs)) is
    ∙ ap (λ n. before ++ f x ∷ map f (drop n xs)) (add-one i)
    ∙ ap (λ z. before ++ f z ∷ map f (drop (suc i) xs)) at
    ∙ sym (ap (λ l. before ++ map f l) (drop-cons xs i x h))
    ∙ whole

-- what is found passes
pub found_passes : {X : Type 0} (test : X → Bool) (xs : List X) (x : X) → find test xs ≡ Some x → test x ≡ true
found_passes test [] x e = cc
found_passes {X} test (y ∷ xs) x e = by_test (found_passes test xs x) (test y) refl e
  where
    by_test : (find test xs ≡ Some x → test x ≡ true) → (b : Bool) → test y ≡ b → cond b (Some y) (find test xs) ≡ Some x → test x ≡ true
    by_test rest true t e = let same : y ≡ x = cc in ap test (sym same) ∙ t
    by_test rest false t e = rest e
