-- Certificates of which a text tells alike have one verdict.
use Rattle.std.proofs.Common.{◌≡◌, ◌⊎◌, inl, inr, ℕ, zero, suc, ◌<◌, ◌≤◌, Bool, true, false, cond, List, [], ◌∷◌, length, get_or, Some, None, refl, ap, sym, ◌∙◌, subst, arith}
use Rattle.std.specs.List.{All, AllByRecursion}
use Rattle.std.specs.Ordering.{nat_cmp, ordering_then, ordering_reverse}
use Rattle.std.specs.FinMap.{nat_cmp-IsAntisymmetric}
use Rattle.std.specs.declared.cmp.Ordering.{Ordering}
use Rattle.std.specs.declared.cmp.Ordering.TheVariants.{Less, Equal, Greater}
use Rattle.std.proofs.lemmas.Bool.{cases_lt}
use Rattle.std.proofs.lemmas.List.{length-map, get_or-map}
use Rattle.std.proofs.lemmas.List.Elements.{All-get_or, All-from_recursion, recursion_from_All}
use Rattle.std.proofs.lemmas.Option.{none-some}
use Rattle.grid_base.specs.declared.Positions.{Positions}
use Rattle.mesh_base.specs.declared.PairName.{PairName}
use Rattle.mesh_base.specs.declared.Corners.{Corners}
use Rattle.mesh_base.specs.Mesh.{Mesh}
use Rattle.mesh_base.specs.Pairs.{Pair, IsPair, name_cmp}
use Rattle.mesh_base.specs.SideList.{edge_cmp}
use Rattle.mesh_base.specs.Placements.{Motion, positions}
use Rattle.mesh_base.proofs.InOrder.{name_total}
use Rattle.motion_proof.specs.declared.Claim.{Claim}
use Rattle.motion_proof.specs.declared.Entry.{Entry}
use Rattle.motion_proof.specs.declared.Tree.{Tree}
use Rattle.motion_proof.specs.declared.Tree.TheVariants.{Leaf, Halves'}
use Rattle.motion_proof.specs.declared.Verdict.{Verdict}
use Rattle.motion_proof.specs.declared.Verdict.TheVariants.{Accepted, NoMotion, Stranger, Invalid, Missing}
use Rattle.motion_proof.specs.Acceptance.{same_name, entry_of, NamesPair, HasValidTree, IsSettled, IsAccepted}
use Rattle.motion_proof.specs.Trees.{Serves, Separates, FitsIn, IsValid, first_claim, second_claim}
use Rattle.motion_proof.specs.Verdicts.{IsFirstLacking, IsMissing, IsFirstMissing, IsVerdict}
use Rattle.grid_base.specs.Separation.{double, middle}
use Rattle.grid_base.specs.Triples.{IsWithin}
use Rattle.grid_base.specs.declared.TheConstants.{DEPTH_MAX, DIRECTION_MAX}
use Rattle.proof_text.specs.Plain.{PlainEntry}
use Rattle.proof_text.specs.Views.{tree_view, entry_view, entries_view}

-- ---- names in order

both_equal : (x y : Ordering) → ordering_then x y ≡ Equal → (x ≡ Equal) × (y ≡ Equal)
both_equal Less y e = absurd cc
both_equal Equal y e = (refl, e)
both_equal Greater y e = absurd cc

same_parts : (a b f a' b' f' : ℕ) → a ≡ a' → b ≡ b' → f ≡ f' → ◌≡◌ {A = PairName} (record { a = a; b = b; face = f }) (record { a = a'; b = b'; face = f' })
same_parts a b f a' b' f' p q r = cc

name_same : (n o : PairName) → name_cmp n o ≡ Equal → n ≡ o
name_same n o e =
    let outer = both_equal (edge_cmp (n.a, n.b) (o.a, o.b)) (nat_cmp n.face o.face) e in
    let inner = both_equal (nat_cmp n.a o.a) (nat_cmp n.b o.b) outer.0 in
    same_parts n.a n.b n.face o.a o.b o.face (nat_cmp-IsAntisymmetric n.a o.a inner.0) (nat_cmp-IsAntisymmetric n.b o.b inner.1) (nat_cmp-IsAntisymmetric n.face o.face outer.1)

-- two names of which neither comes before the other are one
pub one_name : (n o : PairName) → (name_cmp n o ≡ Less → ⊥) → (name_cmp o n ≡ Less → ⊥) → n ≡ o
one_name n o left right = by (name_cmp n o) refl
  where
    by : (x : Ordering) → name_cmp n o ≡ x → n ≡ o
    by Less e = absurd (left e)
    by Equal e = name_same n o e
    by Greater e = absurd (right (name_total.antisymm o n ∙ ap ordering_reverse e))

-- ---- trees

fits_alike : (depth : ℕ) (a b : Tree) → tree_view a ≡ tree_view b → FitsIn depth a → FitsIn depth b
fits_alike depth (Leaf n) (Leaf o) e h = let same : n ≡ o = cc in subst (IsWithin DIRECTION_MAX) same h
fits_alike depth (Leaf n) (Halves' p x q y) e h = absurd cc
fits_alike depth (Halves' p x q y) (Leaf o) e h = absurd cc
fits_alike zero (Halves' p x q y) (Halves' r z s w) e h = absurd h
fits_alike (suc depth) (Halves' p x q y) (Halves' r z s w) e h =
    let first : tree_view x ≡ tree_view z = cc in
    let second : tree_view y ≡ tree_view w = cc in
    (fits_alike depth x z first h.0, fits_alike depth y w second h.1)

separates_alike : (claim : Claim) (a b : Tree) (s t : Positions) → tree_view a ≡ tree_view b → Separates claim a s t → Separates claim b s t
separates_alike claim (Leaf n) (Leaf o) s t e h = let same : n ≡ o = cc in subst (Serves claim s t) same h
separates_alike claim (Leaf n) (Halves' p x q y) s t e h = absurd cc
separates_alike claim (Halves' p x q y) (Leaf o) s t e h = absurd cc
separates_alike claim (Halves' p x q y) (Halves' r z u w) s t e h =
    let first : tree_view x ≡ tree_view z = cc in
    let second : tree_view y ≡ tree_view w = cc in
    (separates_alike (first_claim claim) x z (double s) (middle s t) first h.0, separates_alike (second_claim claim) y w (middle s t) (double t) second h.1)

valid_alike : (claim : Claim) (a b : Tree) (s t : Positions) → tree_view a ≡ tree_view b → IsValid claim a s t → IsValid claim b s t
valid_alike claim a b s t e h = record { fits = fits_alike DEPTH_MAX a b e h.fits; separates = separates_alike claim a b s t e h.separates }

-- ---- entries

-- what holds of an entry holds of each one of which a text tells alike
abbrev pub IsOfView : (Entry → Type 0) → Type 0
IsOfView P = (e f : Entry) → entry_view e ≡ entry_view f → P e → P f

names_of_view : (m : Mesh) → IsOfView (NamesPair m)
names_of_view m e f same h =
    let name : e.pair ≡ f.pair = ap (λ (x : PlainEntry). x.pair) same in
    subst (λ n. (c : Corners) × IsPair m (record { name = n; corners = c })) name h

tree_of_view : (m : Mesh) (w : Motion) (claim : Claim) → IsOfView (HasValidTree m w claim)
tree_of_view m w claim e f same h =
    let name : e.pair ≡ f.pair = ap (λ (x : PlainEntry). x.pair) same in
    let tree : tree_view e.tree ≡ tree_view f.tree = ap (λ (x : PlainEntry). x.tree) same in
    let P : PairName → Type 0 = λ n. (c : Corners) → IsPair m (record { name = n; corners = c }) → IsValid claim e.tree (positions w.start (record { name = n; corners = c })) (positions w.end (record { name = n; corners = c })) in
    let there = subst P name h in
    λ c pair. valid_alike claim e.tree f.tree (positions w.start (record { name = f.pair; corners = c })) (positions w.end (record { name = f.pair; corners = c })) tree (there c pair)

some_view : (e : Entry) (es : List Entry) → entries_view (e ∷ es) ≡ [] → ⊥
some_view e es h = absurd cc

all_alike : (P : Entry → Type 0) → IsOfView P → (es fs : List Entry) → entries_view es ≡ entries_view fs → AllByRecursion P es → AllByRecursion P fs
all_alike P of [] [] same h = tt
all_alike P of [] (f ∷ fs) same h = absurd (some_view f fs (sym same))
all_alike P of (e ∷ es) [] same h = absurd (some_view e es same)
all_alike P of (e ∷ es) (f ∷ fs) same h =
    let first : entry_view e ≡ entry_view f = cc in
    let others : entries_view es ≡ entries_view fs = cc in
    (of e f first h.0, all_alike P of es fs others h.1)

each_alike : (P : Entry → Type 0) → IsOfView P → (es fs : List Entry) → entries_view es ≡ entries_view fs → All P es → All P fs
each_alike P of es fs same h = All-from_recursion P fs (all_alike P of es fs same (recursion_from_All P es h))

entry_alike : (es fs : List Entry) (n : PairName) → entries_view es ≡ entries_view fs → entry_of es n ≡ None → entry_of fs n ≡ None
entry_alike [] [] n same h = refl
entry_alike [] (f ∷ fs) n same h = absurd (some_view f fs (sym same))
entry_alike (e ∷ es) [] n same h = absurd (some_view e es same)
entry_alike (e ∷ es) (f ∷ fs) n same h =
    let first : entry_view e ≡ entry_view f = cc in
    let others : entries_view es ≡ entries_view fs = cc in
    let name : e.pair ≡ f.pair = ap (λ (x : PlainEntry). x.pair) first in
    by (entry_alike es fs n others) (same_name e.pair n) (ap (λ p. same_name p n) name) h
  where
    by : (entry_of es n ≡ None → entry_of fs n ≡ None) → (b : Bool) → b ≡ same_name f.pair n → cond b (Some e) (entry_of es n) ≡ None → entry_of (f ∷ fs) n ≡ None
    by rest true is h = absurd (none-some e (sym h))
    by rest false is h = ap (λ b. cond b (Some f) (entry_of fs n)) (sym is) ∙ rest h

settled_alike : (w : Motion) (es fs : List Entry) (p : Pair) → entries_view es ≡ entries_view fs → IsSettled w es p → IsSettled w fs p
settled_alike w es fs p same h = λ none. h (entry_alike fs es p.name (sym same) none)

-- ---- the first that lacks something

lacking_not_all : (P : Entry → Type 0) (es : List Entry) (n : PairName) → All P es → IsFirstLacking P es n → ⊥
lacking_not_all P es n all h = h.lacks (subst P (h.there h.entry) (All-get_or P es h.place h.entry h.inside all))

view_length : (es fs : List Entry) → entries_view es ≡ entries_view fs → length es ≡ length fs
view_length es fs same = sym (length-map es entry_view) ∙ ap length same ∙ length-map fs entry_view

view_at : (es fs : List Entry) → entries_view es ≡ entries_view fs → (k : ℕ) (d : Entry) → k < length es → entry_view (get_or es k d) ≡ entry_view (get_or fs k d)
view_at es fs same k d inside =
    let there : k < length fs = omega (arith, inside, view_length es fs same) in
    sym (get_or-map entry_view es k d (entry_view d) inside) ∙ ap (λ l. get_or l k (entry_view d)) same ∙ get_or-map entry_view fs k d (entry_view d) there

not_earlier : (P : Entry → Type 0) → IsOfView P → (es fs : List Entry) (n o : PairName) → entries_view es ≡ entries_view fs → (h : IsFirstLacking P es n) → (k : IsFirstLacking P fs o) → h.place < k.place → ⊥
not_earlier P of es fs n o same h k lt =
    h.lacks (subst P (h.there h.entry) (of (get_or fs h.place h.entry) (get_or es h.place h.entry) (sym (view_at es fs same h.place h.entry h.inside)) (k.before h.place h.entry lt)))

lacking_one : (P : Entry → Type 0) → IsOfView P → (es fs : List Entry) (n o : PairName) → entries_view es ≡ entries_view fs → IsFirstLacking P es n → IsFirstLacking P fs o → n ≡ o
lacking_one P of es fs n o same h k = by (cases_lt h.place k.place) (cases_lt k.place h.place)
  where
    by : (h.place < k.place) ⊎ (k.place ≤ h.place) → (k.place < h.place) ⊎ (h.place ≤ k.place) → n ≡ o
    by (inl lt) x = absurd (not_earlier P of es fs n o same h k lt)
    by (inr le) (inl lt) = absurd (not_earlier P of fs es o n (sym same) k h lt)
    by (inr le) (inr ge) =
        let place : h.place ≡ k.place = omega (arith, le, ge) in
        let one : entry_view h.entry ≡ entry_view k.entry =
        ap entry_view (sym (h.there h.entry)) ∙ view_at es fs same h.place h.entry h.inside ∙ ap (λ i. entry_view (get_or fs i h.entry)) place ∙ ap entry_view (k.there h.entry) in
        sym h.named ∙ ap (λ (x : PlainEntry). x.pair) one ∙ k.named

-- ---- the verdict

module _ (m : Mesh) (w : Motion) (claim : Claim) where
  missing_alike : (es fs : List Entry) (n : PairName) → entries_view es ≡ entries_view fs → ((c : Corners) → IsPair m (record { name = n; corners = c }) → IsSettled w fs (record { name = n; corners = c })) → IsMissing m w es n → ⊥
  missing_alike es fs n same settled h = h.1.1 (settled_alike w fs es (record { name = n; corners = h.0 }) (sym same) (settled h.0 h.1.0))

  accepted_alone : (es fs : List Entry) (v : Verdict) → entries_view es ≡ entries_view fs → IsAccepted m w claim es → IsVerdict m w claim fs v → Accepted ≡ v
  accepted_alone es fs Accepted same h k = refl
  accepted_alone es fs NoMotion same h k = absurd k
  accepted_alone es fs (Stranger n) same h k = absurd (lacking_not_all (NamesPair m) fs n (each_alike (NamesPair m) (names_of_view m) es fs same h.known) k)
  accepted_alone es fs (Invalid n) same h k = absurd (lacking_not_all (HasValidTree m w claim) fs n (each_alike (HasValidTree m w claim) (tree_of_view m w claim) es fs same h.valid) k.1)
  accepted_alone es fs (Missing n) same h k = absurd (missing_alike fs es n (sym same) (λ c pair. h.settled (record { name = n; corners = c }) pair) k.1.1.missing)

  stranger_alone : (es fs : List Entry) (n : PairName) (v : Verdict) → entries_view es ≡ entries_view fs → IsFirstLacking (NamesPair m) es n → IsVerdict m w claim fs v → Stranger n ≡ v
  stranger_alone es fs n Accepted same h k = sym (accepted_alone fs es (Stranger n) (sym same) k h)
  stranger_alone es fs n NoMotion same h k = absurd k
  stranger_alone es fs n (Stranger o) same h k = ap Stranger (lacking_one (NamesPair m) (names_of_view m) es fs n o same h k)
  stranger_alone es fs n (Invalid o) same h k = absurd (lacking_not_all (NamesPair m) es n (each_alike (NamesPair m) (names_of_view m) fs es (sym same) k.0) h)
  stranger_alone es fs n (Missing o) same h k = absurd (lacking_not_all (NamesPair m) es n (each_alike (NamesPair m) (names_of_view m) fs es (sym same) k.0) h)

  invalid_alone : (es fs : List Entry) (n : PairName) (v : Verdict) → entries_view es ≡ entries_view fs → IsVerdict m w claim es (Invalid n) → IsVerdict m w claim fs v → Invalid n ≡ v
  invalid_alone es fs n Accepted same h k = sym (accepted_alone fs es (Invalid n) (sym same) k h)
  invalid_alone es fs n NoMotion same h k = absurd k
  invalid_alone es fs n (Stranger o) same h k = sym (stranger_alone fs es o (Invalid n) (sym same) k h)
  invalid_alone es fs n (Invalid o) same h k = ap Invalid (lacking_one (HasValidTree m w claim) (tree_of_view m w claim) es fs n o same h.1 k.1)
  invalid_alone es fs n (Missing o) same h k = absurd (lacking_not_all (HasValidTree m w claim) es n (each_alike (HasValidTree m w claim) (tree_of_view m w claim) fs es (sym same) k.1.0) h.1)

  not_before : (es fs : List Entry) (n o : PairName) → entries_view es ≡ entries_view fs → IsFirstMissing m w es n → IsFirstMissing m w fs o → name_cmp n o ≡ Less → ⊥
  not_before es fs n o same h k less = missing_alike es fs n same (k.before n less) h.missing

  missing_alone : (es fs : List Entry) (n : PairName) (v : Verdict) → entries_view es ≡ entries_view fs → IsVerdict m w claim es (Missing n) → IsVerdict m w claim fs v → Missing n ≡ v
  missing_alone es fs n Accepted same h k = sym (accepted_alone fs es (Missing n) (sym same) k h)
  missing_alone es fs n NoMotion same h k = absurd k
  missing_alone es fs n (Stranger o) same h k = sym (stranger_alone fs es o (Missing n) (sym same) k h)
  missing_alone es fs n (Invalid o) same h k = sym (invalid_alone fs es o (Missing n) (sym same) k h)
  missing_alone es fs n (Missing o) same h k = ap Missing (one_name n o (not_before es fs n o same h.1.1 k.1.1) (not_before fs es o n (sym same) k.1.1 h.1.1))

  -- a certificate has one verdict, wherever its trees lie in memory
  pub one_verdict : (es fs : List Entry) (u v : Verdict) → entries_view es ≡ entries_view fs → IsVerdict m w claim es u → IsVerdict m w claim fs v → u ≡ v
  one_verdict es fs Accepted v same h k = accepted_alone es fs v same h k
  one_verdict es fs NoMotion v same h k = absurd h
  one_verdict es fs (Stranger n) v same h k = stranger_alone es fs n v same h k
  one_verdict es fs (Invalid n) v same h k = invalid_alone es fs n v same h k
  one_verdict es fs (Missing n) v same h k = missing_alone es fs n v same h k
