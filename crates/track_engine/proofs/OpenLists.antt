-- The innermost group, which stands at the end of the list that holds the open groups.
use Rattle.std.proofs.Common.{◌≡◌, ◌<◌, ◌+◌, ◌-◌, ◌||◌, Bool, List, [], ◌∷◌, ◌++◌, length, get_or, refl, ap, sym, ◌∙◌, arith}
use Rattle.std.specs.Prelude.{reverse, slice_set}
use Rattle.std.proofs.lemmas.List.{reverse-append, length-append}
use Rattle.track_engine.specs.declared.open_group.OpenGroup.{OpenGroup}
use Rattle.track_engine.specs.Groups.{failed_if}

-- a list with some items: those before the last, and the last
record Ends (xs : List OpenGroup) : Type 0 where
  front : List OpenGroup
  last : OpenGroup
  split : xs ≡ front ++ last ∷ []

ends_of : (x : OpenGroup) (xs : List OpenGroup) → Ends (x ∷ xs)
ends_of x [] = record { front = []; last = x; split = refl }
ends_of x (y ∷ xs) = let e = ends_of y xs in record { front = x ∷ e.front; last = e.last; split = ap (λ (l : List OpenGroup). x ∷ l) e.split }

at_end : (front : List OpenGroup) (x d : OpenGroup) → get_or (front ++ x ∷ []) (length front) d ≡ x
at_end [] x d = refl
at_end (y ∷ front) x d = at_end front x d

set_at_end : (front : List OpenGroup) (x y : OpenGroup) → slice_set (front ++ x ∷ []) (length front) y ≡ front ++ y ∷ []
set_at_end [] x y = refl
set_at_end (z ∷ front) x y = ap (λ (l : List OpenGroup). z ∷ l) (set_at_end front x y)

end_place : (xs front : List OpenGroup) (x : OpenGroup) → xs ≡ front ++ x ∷ [] → length xs - 1 ≡ length front
end_place xs front x e = let l : length xs ≡ length front + 1 = ap length e ∙ length-append front (x ∷ []) in omega arith

-- the last of the list fails, which is the first of the groups
pub last_fails : (xs : List OpenGroup) (group : OpenGroup) (now failed : Bool) → 0 < length xs → group ≡ get_or xs (length xs - 1) group → now ≡ (group.failed || failed)
    → reverse (slice_set xs (length xs - 1) (record group { failed = now })) ≡ failed_if failed (reverse xs)
last_fails [] group now failed some at is = absurd (omega arith)
last_fails (y ∷ ys) group now failed some at is =
    let xs : List OpenGroup = y ∷ ys in
    let e : Ends xs = ends_of y ys in
    let place = end_place xs e.front e.last e.split in
    let last : group ≡ e.last = at ∙ ap (λ (l : List OpenGroup). get_or l (length xs - 1) group) e.split ∙ ap (λ i. get_or (e.front ++ e.last ∷ []) i group) place ∙ at_end e.front e.last group in
    let changed : OpenGroup = record group { failed = now } in
    let same : changed ≡ record e.last { failed = e.last.failed || failed } = λ i. record (last i) { failed = (is ∙ ap (λ (g : OpenGroup). g.failed || failed) last) i } in
    ap (λ (l : List OpenGroup). reverse (slice_set l (length xs - 1) changed)) e.split
    ∙ ap (λ i. reverse (slice_set (e.front ++ e.last ∷ []) i changed)) place
    ∙ ap reverse (set_at_end e.front e.last changed)
    ∙ reverse-append e.front (changed ∷ [])
    ∙ ap (λ (g : OpenGroup). g ∷ reverse e.front) same
    ∙ sym (ap (λ (l : List OpenGroup). failed_if failed (reverse l)) e.split ∙ ap (failed_if failed) (reverse-append e.front (e.last ∷ [])))
