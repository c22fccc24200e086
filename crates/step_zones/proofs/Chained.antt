-- Two vertices have one label exactly where a chain of the pairs leads from one to the other.
use Rattle.std.proofs.Common.{◌≡◌, ℕ, ◌≤◌, ◌==◌, ◌&&◌, ◌⊎◌, inl, inr, arith, Bool, true, false, cond, List, [], ◌∷◌, refl, sym, ap, subst, ◌∙◌, ⊎_elim}
use Rattle.std.specs.List.{fold, list_any, AllByRecursion}
use Rattle.std.proofs.lemmas.Bool.{false≢true, eqb-true}
use Rattle.mesh_base.specs.Pairs.{Pair, five_ids}
use Rattle.mesh_base.proofs.Tests.{or_either, or_first, or_second, and_first, and_second, and_both}
use Rattle.step_zones.specs.Zones.{Labels, alone, least_label, is_touched, joined, labels}
use Rattle.step_zones.specs.Chains.{is_one_of, are_joined, Chain}
use Rattle.step_zones.specs.Chains.Chain.{nowhere, further}
use Rattle.step_zones.proofs.Labelled.{each_is, any_touched, first_of, later_of, of_least, joined_touched, joined_untouched}

-- ---- joined vertices have one label
keep : (at : Labels) (ps : List Pair) (u v : ℕ) → at u ≡ at v → fold joined at ps u ≡ fold joined at ps v
keep at [] u v e = e
keep at (p ∷ ps) u v e = keep (joined at p) ps u v (ap (λ l. cond (is_touched at p l) (least_label at p) l) e)

by_pair : (at : Labels) (p : Pair) (u v : ℕ) → is_one_of (five_ids p) u ≡ true → is_one_of (five_ids p) v ≡ true → joined at p u ≡ joined at p v
by_pair at p u v h k = joined_touched at p u (any_touched at (five_ids p) u h) ∙ sym (joined_touched at p v (any_touched at (five_ids p) v k))

one_label : (at : Labels) (ps : List Pair) (u v : ℕ) → are_joined ps u v ≡ true → fold joined at ps u ≡ fold joined at ps v
one_label at [] u v h = absurd (false≢true h)
one_label at (p ∷ ps) u v h = ⊎_elim
    (λ both. keep (joined at p) ps u v (by_pair at p u v (and_first (is_one_of (five_ids p) u) (is_one_of (five_ids p) v) both) (and_second (is_one_of (five_ids p) u) (is_one_of (five_ids p) v) both)))
    (λ later. one_label (joined at p) ps u v later)
    (or_either (is_one_of (five_ids p) u && is_one_of (five_ids p) v) (are_joined ps u v) h)

pub label_of_chain : (hits : List Pair) (u v : ℕ) → Chain hits u v → labels hits u ≡ labels hits v
label_of_chain hits u v nowhere = refl
label_of_chain hits u v (further {y = y} c j) = label_of_chain hits u y c ∙ one_label alone hits y v j

-- ---- chains
turned : (hits : List Pair) (u v : ℕ) → are_joined hits u v ≡ true → are_joined hits v u ≡ true
turned [] u v h = h
turned (p ∷ ps) u v h = ⊎_elim
    (λ both. or_first (is_one_of (five_ids p) v && is_one_of (five_ids p) u) (are_joined ps v u) (and_both (is_one_of (five_ids p) v) (is_one_of (five_ids p) u) (and_second (is_one_of (five_ids p) u) (is_one_of (five_ids p) v) both) (and_first (is_one_of (five_ids p) u) (is_one_of (five_ids p) v) both)))
    (λ later. or_second (is_one_of (five_ids p) v && is_one_of (five_ids p) u) (are_joined ps v u) (turned ps u v later))
    (or_either (is_one_of (five_ids p) u && is_one_of (five_ids p) v) (are_joined ps u v) h)

after : (hits : List Pair) (u v w : ℕ) → Chain hits u v → Chain hits v w → Chain hits u w
after hits u v w c nowhere = c
after hits u v w c (further {y = y} d j) = further (after hits u v y c d) j

back : (hits : List Pair) (u v : ℕ) → Chain hits u v → Chain hits v u
back hits u v nowhere = nowhere
back hits u v (further {y = y} c j) = after hits v y u (further nowhere (turned hits y v j)) (back hits u y c)

-- the pair joins any two of its five
abbrev Joins : List Pair → Pair → Type 0
Joins hits p = (u w : ℕ) → is_one_of (five_ids p) u ≡ true → is_one_of (five_ids p) w ≡ true → are_joined hits u w ≡ true

all_join : (hits ps : List Pair) → ((u w : ℕ) → are_joined ps u w ≡ true → are_joined hits u w ≡ true) → AllByRecursion (Joins hits) ps
all_join hits [] h = tt
all_join hits (p ∷ ps) h = (
  λ u w j k. h u w (or_first (is_one_of (five_ids p) u && is_one_of (five_ids p) w) (are_joined ps u w) (and_both (is_one_of (five_ids p) u) (is_one_of (five_ids p) w) j k)),
  all_join hits ps (λ u w j. h u w (or_second (is_one_of (five_ids p) u && is_one_of (five_ids p) w) (are_joined ps u w) j)),
)

-- one of the five has the label
toucher : (at : Labels) (l : ℕ) (us : List ℕ) → list_any (λ u. at u == l) us ≡ true → (u : ℕ) × (is_one_of us u ≡ true) × (at u ≡ l)
toucher at l [] h = absurd (false≢true h)
toucher at l (x ∷ us) h = ⊎_elim
    (λ e. (x, first_of x us, eqb-true (at x) l e))
    (λ k. let found = toucher at l us k in (found.0, later_of x found.0 us found.1, found.2))
    (or_either (at x == l) (list_any (λ u. at u == l) us) h)

least_of : (at : Labels) (p : Pair) → (w : ℕ) × (is_one_of (five_ids p) w ≡ true) × (at w ≡ least_label at p)
least_of at p =
    let is = each_is (five_ids p) in
    of_least (λ l. (w : ℕ) × (is_one_of (five_ids p) w ≡ true) × (at w ≡ l)) at p
    (p.name.a, is.0, refl) (p.name.b, is.1.0, refl) (p.corners.first, is.1.1.0, refl) (p.corners.second, is.1.1.1.0, refl) (p.corners.third, is.1.1.1.1.0, refl)

-- a chain leads from each vertex to its label
led_on : (hits : List Pair) (at : Labels) (p : Pair) → Joins hits p → ((v : ℕ) → Chain hits v (at v)) → (v : ℕ) → Chain hits v (joined at p v)
led_on hits at p joins led v = by_test (is_touched at p (at v)) refl
  where
    by_test : (t : Bool) → is_touched at p (at v) ≡ t → Chain hits v (joined at p v)
    by_test true e =
        let found = toucher at (at v) (five_ids p) e in
        let least = least_of at p in
        let to_label : Chain hits v (at found.0) = subst (λ l. Chain hits v l) (sym found.2) (led v) in
        let to_five : Chain hits v found.0 = after hits v (at found.0) found.0 to_label (back hits found.0 (at found.0) (led found.0)) in
        let to_least : Chain hits v least.0 = further to_five (joins found.0 least.0 found.1 least.1) in
        subst (λ l. Chain hits v l) (least.2 ∙ sym (joined_touched at p v e)) (after hits v least.0 (at least.0) to_least (led least.0))
    by_test false e = subst (λ l. Chain hits v l) (sym (joined_untouched at p v e)) (led v)

led : (hits : List Pair) (at : Labels) (ps : List Pair) → AllByRecursion (Joins hits) ps → ((v : ℕ) → Chain hits v (at v)) → (v : ℕ) → Chain hits v (fold joined at ps v)
led hits at [] all h v = h v
led hits at (p ∷ ps) all h v = led hits (joined at p) ps all.1 (led_on hits at p all.0 h) v

pub chain_of_labels : (hits : List Pair) (u v : ℕ) → labels hits u ≡ labels hits v → Chain hits u v
chain_of_labels hits u v e =
    let to : (w : ℕ) → Chain hits w (labels hits w) = led hits alone hits (all_join hits hits (λ x y j. j)) (λ x. nowhere) in
    after hits u (labels hits v) v (subst (λ l. Chain hits u l) e (to u)) (back hits v (labels hits v) (to v))

-- ---- the least vertex of a block
-- the label of a vertex is in its block
pub label_in_block : (hits : List Pair) (v : ℕ) → labels hits (labels hits v) ≡ labels hits v
label_in_block hits v = sym (label_of_chain hits v (labels hits v) (led hits alone hits (all_join hits hits (λ x y j. j)) (λ x. nowhere) v))

-- the least label is no greater than that of each of the five
least_below : (at : Labels) (p : Pair) (u : ℕ) → is_one_of (five_ids p) u ≡ true → least_label at p ≤ at u
least_below at p u is =
    by_first (or_either (p.name.a == u) (is_one_of (p.name.b ∷ p.corners.first ∷ p.corners.second ∷ p.corners.third ∷ []) u) is)
  where
    here : (w : ℕ) → (w == u) ≡ true → least_label at p ≤ at w → least_label at p ≤ at u
    here w e h = subst (λ x. least_label at p ≤ at x) (eqb-true w u e) h

    by_third : ((p.corners.third == u) ≡ true) ⊎ (is_one_of [] u ≡ true) → least_label at p ≤ at u
    by_third (inl e) = here p.corners.third e (omega arith)
    by_third (inr k) = absurd (false≢true k)

    by_second : ((p.corners.second == u) ≡ true) ⊎ (is_one_of (p.corners.third ∷ []) u ≡ true) → least_label at p ≤ at u
    by_second (inl e) = here p.corners.second e (omega arith)
    by_second (inr k) = by_third (or_either (p.corners.third == u) (is_one_of [] u) k)

    by_corner : ((p.corners.first == u) ≡ true) ⊎ (is_one_of (p.corners.second ∷ p.corners.third ∷ []) u ≡ true) → least_label at p ≤ at u
    by_corner (inl e) = here p.corners.first e (omega arith)
    by_corner (inr k) = by_second (or_either (p.corners.second == u) (is_one_of (p.corners.third ∷ []) u) k)

    by_end : ((p.name.b == u) ≡ true) ⊎ (is_one_of (p.corners.first ∷ p.corners.second ∷ p.corners.third ∷ []) u ≡ true) → least_label at p ≤ at u
    by_end (inl e) = here p.name.b e (omega arith)
    by_end (inr k) = by_corner (or_either (p.corners.first == u) (is_one_of (p.corners.second ∷ p.corners.third ∷ []) u) k)

    by_first : ((p.name.a == u) ≡ true) ⊎ (is_one_of (p.name.b ∷ p.corners.first ∷ p.corners.second ∷ p.corners.third ∷ []) u ≡ true) → least_label at p ≤ at u
    by_first (inl e) = here p.name.a e (omega arith)
    by_first (inr k) = by_end (or_either (p.name.b == u) (is_one_of (p.corners.first ∷ p.corners.second ∷ p.corners.third ∷ []) u) k)

joined_below : (at : Labels) (p : Pair) (v : ℕ) → joined at p v ≤ at v
joined_below at p v = by_test (is_touched at p (at v)) refl
  where
    by_test : (t : Bool) → is_touched at p (at v) ≡ t → joined at p v ≤ at v
    by_test true e =
        let found = toucher at (at v) (five_ids p) e in
        subst (λ l. l ≤ at v) (sym (joined_touched at p v e)) (subst (λ l. least_label at p ≤ l) found.2 (least_below at p found.0 found.1))
    by_test false e = subst (λ l. l ≤ at v) (sym (joined_untouched at p v e)) (omega arith)

all_below : (at : Labels) (ps : List Pair) (v : ℕ) → fold joined at ps v ≤ at v
all_below at [] v = omega arith
all_below at (p ∷ ps) v = let here = joined_below at p v in let rest = all_below (joined at p) ps v in omega arith

-- and no greater than the vertex
pub label_below : (hits : List Pair) (v : ℕ) → labels hits v ≤ v
label_below hits v = all_below alone hits v
