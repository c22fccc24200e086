-- Trees of boxes, as lists read from their end.
use Rattle.std.proofs.Common.{◌≡◌, ◌∙◌, ⊎_elim, ℕ, ◌+◌, ◌-◌, ◌<◌, ◌≤◌, suc, zero, Bool, true, false, cond, nat_eq, List, [], ◌∷◌, ◌++◌, length, get_or, take, drop, reverse, refl, sym, ap, subst, add-one, arith}
use Rattle.std.proofs.lemmas.Bool.{cases_Bool, false≢true, and_parts, and_from}
use Rattle.std.proofs.lemmas.List.{reverse-append, length-reverse, length-take-le}
use Rattle.std.proofs.Math.Seq.{take-suc}
use Rattle.std.proofs.Math.Nat.{sub-zero, suc-sub-suc}
use Rattle.std.specs.List.{filter}
use Rattle.std.specs.Map.{keys_of}
use Rattle.box_tree.specs.declared.labelled_box.LabelledBox.{LabelledBox}
use Rattle.box_tree.specs.declared.question.Question.{Question}
use Rattle.box_tree.specs.Labels.{is_apart}
use Rattle.box_tree.proofs.Labelled.{still_apart}
use Rattle.grid_base.specs.Extents.{overlaps}
use Rattle.box_tree.specs.declared.node.Node.{Node}
use Rattle.box_tree.specs.Found.{entries_found}
use Rattle.box_tree.specs.Nodes.{Has, AllIn, IsTree, entries, finds, items_found}
use Rattle.cell_grid.proofs.Shared.{overlap_common}

-- ---- a list from its end
module _ {A : Type 0} where
  -- the first of what is left, read from the end
  pub reverse-take-suc : (ns : List A) (i : ℕ) (d : A) → i < length ns → reverse (take (suc i) ns) ≡ get_or ns i d ∷ reverse (take i ns)
  reverse-take-suc ns i d h = ap reverse (take-suc ns i d h) ∙ reverse-append (take i ns) (get_or ns i d ∷ [])

  pub reverse-take-sub : (ns : List A) (i b : ℕ) (d : A) → i ≤ length ns → b ≤ i → reverse (take (i - b) ns) ≡ drop b (reverse (take i ns))
  reverse-take-sub ns i zero d h k = rw sub-zero refl
  reverse-take-sub ns zero (suc b) d h k = absurd (omega arith)
  reverse-take-sub ns (suc i) (suc b) d h k =
      let lt : i < length ns = omega arith in
      ap (λ (j : ℕ). reverse (take j ns)) (suc-sub-suc i b) ∙ reverse-take-sub ns i b d (omega arith) (omega arith) ∙ sym (ap (drop (suc b)) (reverse-take-suc ns i d lt))

-- ---- boxes that have others
pub Has-trans : (e f g : LabelledBox) → Has e f → Has f g → Has e g
Has-trans e f g h i = record { each = λ p k. h.each p (i.each p k); labels = λ n k. i.labels n (h.labels n k) }

pub Has-refl : (e : LabelledBox) → Has e e
Has-refl e = record { each = λ p k. k; labels = λ n k. k }

pub AllIn-trans : (e f : LabelledBox) (ns : List Node) → Has e f → AllIn f ns → AllIn e ns
AllIn-trans e f [] h i = tt
AllIn-trans e f (n ∷ ns) h i = (Has-trans e f n.bound h i.0, AllIn-trans e f ns h i.1)

pub AllIn-join : (e : LabelledBox) (b m : ℕ) (ns : List Node) → AllIn e (take b ns) → AllIn e (take (m - b) (drop b ns)) → AllIn e (take m ns)
AllIn-join e b zero ns h i = tt
AllIn-join e zero (suc m) ns h i = rw sub-zero at i
AllIn-join e (suc b) (suc m) [] h i = tt
AllIn-join e (suc b) (suc m) (n ∷ ns) h i = (h.0, AllIn-join e b m ns h.1 (rw suc-sub-suc at i))

pub IsTree-drop : (b : ℕ) (ns : List Node) → IsTree ns → IsTree (drop b ns)
IsTree-drop zero ns h = h
IsTree-drop (suc b) [] h = tt
IsTree-drop (suc b) (n ∷ ns) h = IsTree-drop b ns h.1.1

-- a question that finds a box finds each box that has it
found_above : (q : Question) (e f : LabelledBox) → Has e f → finds q f ≡ true → finds q e ≡ true
found_above q e f h met =
    let parts = and_parts (overlaps f.at q.at) (is_apart f.labels q.a q.b) met in
    let p = (overlap_common f.at q.at).0 parts.0 in
    and_from (overlaps e.at q.at) (is_apart e.labels q.a q.b) ((overlap_common e.at q.at).1 (p.0, (h.each p.0 p.1.0, p.1.1))) (still_apart e.labels f.labels q.a q.b h.labels parts.1)

-- a question that misses a box misses each that the box has
missed : (q : Question) (e f : LabelledBox) → Has e f → finds q e ≡ false → finds q f ≡ false
missed q e f h miss = ⊎_elim
    (λ yes. absurd (false≢true (sym miss ∙ found_above q e f h yes)))
    (λ no'. no')
    (cases_Bool (finds q f))

-- ---- what a question finds
module _ (q : Question) where
  -- an inner node has no item
  pub items_found-inner : (n : Node) (ns : List Node) → nat_eq n.below 0 ≡ false → items_found q (entries (n ∷ ns)) ≡ items_found q (entries ns)
  items_found-inner n ns h = ap (λ (b : Bool). items_found q (cond b ((n.item, n.bound) ∷ entries ns) (entries ns))) h

  items_found-entry : (i : ℕ) (e : LabelledBox) (es : List (ℕ × LabelledBox)) (b : Bool) → finds q e ≡ b → items_found q ((i, e) ∷ es) ≡ cond b (i ∷ items_found q es) (items_found q es)
  items_found-entry i e es true h = ap (λ (b : Bool). keys_of (cond b ((i, e) ∷ filter (λ e. finds q e.1) es) (filter (λ e. finds q e.1) es))) h
  items_found-entry i e es false h = ap (λ (b : Bool). keys_of (cond b ((i, e) ∷ filter (λ e. finds q e.1) es) (filter (λ e. finds q e.1) es))) h

  pub items_found-met : (n : Node) (ns : List Node) → nat_eq n.below 0 ≡ true → finds q n.bound ≡ true → items_found q (entries (n ∷ ns)) ≡ n.item ∷ items_found q (entries ns)
  items_found-met n ns h met = ap (λ (b : Bool). items_found q (cond b ((n.item, n.bound) ∷ entries ns) (entries ns))) h ∙ items_found-entry n.item n.bound (entries ns) true met

  either : (b : Bool) (n : Node) (ns : List Node) → finds q n.bound ≡ false → items_found q (cond b ((n.item, n.bound) ∷ entries ns) (entries ns)) ≡ items_found q (entries ns)
  either true n ns miss = items_found-entry n.item n.bound (entries ns) false miss
  either false n ns miss = refl

  pub items_found-missed : (n : Node) (ns : List Node) → finds q n.bound ≡ false → items_found q (entries (n ∷ ns)) ≡ items_found q (entries ns)
  items_found-missed n ns miss = either (nat_eq n.below 0) n ns miss

  -- nothing is found below a node that is missed
  pub items_found-skip : (e : LabelledBox) (b : ℕ) (ns : List Node) → finds q e ≡ false → AllIn e (take b ns) → items_found q (entries ns) ≡ items_found q (entries (drop b ns))
  items_found-skip e zero ns miss h = refl
  items_found-skip e (suc b) [] miss h = refl
  items_found-skip e (suc b) (n ∷ ns) miss h = items_found-missed n ns (missed q e n.bound h.0 miss) ∙ items_found-skip e b ns miss h.1

-- ---- the same with the boxes
module _ (q : Question) where
  pub found-inner : (n : Node) (ns : List Node) → nat_eq n.below 0 ≡ false → entries_found q (entries (n ∷ ns)) ≡ entries_found q (entries ns)
  found-inner n ns h = ap (λ (b : Bool). entries_found q (cond b ((n.item, n.bound) ∷ entries ns) (entries ns))) h

  found-entry : (i : ℕ) (e : LabelledBox) (es : List (ℕ × LabelledBox)) (b : Bool) → finds q e ≡ b → entries_found q ((i, e) ∷ es) ≡ cond b ((i, e) ∷ entries_found q es) (entries_found q es)
  found-entry i e es b h = ap (λ (b : Bool). cond b ((i, e) ∷ filter (λ e. finds q e.1) es) (filter (λ e. finds q e.1) es)) h

  pub found-met : (n : Node) (ns : List Node) → nat_eq n.below 0 ≡ true → finds q n.bound ≡ true → entries_found q (entries (n ∷ ns)) ≡ (n.item, n.bound) ∷ entries_found q (entries ns)
  found-met n ns h met = ap (λ (b : Bool). entries_found q (cond b ((n.item, n.bound) ∷ entries ns) (entries ns))) h ∙ found-entry n.item n.bound (entries ns) true met

  not_found : (b : Bool) (n : Node) (ns : List Node) → finds q n.bound ≡ false → entries_found q (cond b ((n.item, n.bound) ∷ entries ns) (entries ns)) ≡ entries_found q (entries ns)
  not_found true n ns miss = found-entry n.item n.bound (entries ns) false miss
  not_found false n ns miss = refl

  found-missed : (n : Node) (ns : List Node) → finds q n.bound ≡ false → entries_found q (entries (n ∷ ns)) ≡ entries_found q (entries ns)
  found-missed n ns miss = not_found (nat_eq n.below 0) n ns miss

  found-skip : (e : LabelledBox) (b : ℕ) (ns : List Node) → finds q e ≡ false → AllIn e (take b ns) → entries_found q (entries ns) ≡ entries_found q (entries (drop b ns))
  found-skip e zero ns miss h = refl
  found-skip e (suc b) [] miss h = refl
  found-skip e (suc b) (n ∷ ns) miss h = found-missed n ns (missed q e n.bound h.0 miss) ∙ found-skip e b ns miss h.1

-- ---- one step from the end
module _ (ns : List Node) (k i : ℕ) (n : Node) (one : k ≡ i + 1) (inside : i < length ns) (is : n ≡ get_or ns i n) where
  pub read_last : reverse (take k ns) ≡ n ∷ reverse (take i ns)
  read_last = ap (λ (j : ℕ). reverse (take j ns)) (one ∙ add-one i) ∙ reverse-take-suc ns i n inside ∙ ap (λ (m : Node). m ∷ reverse (take i ns)) (sym is)

  module _ (tree : IsTree (reverse (take k ns))) where
    pub read_tree : IsTree (n ∷ reverse (take i ns))
    read_tree = subst IsTree read_last tree

    below_fits : n.below ≤ length (reverse (take i ns)) → n.below ≤ i
    below_fits h = omega (arith, length-reverse (take i ns), length-take-le i ns (omega arith))

    pub below_le : n.below ≤ i
    below_le = below_fits read_tree.0

    pub read_rest : reverse (take (i - n.below) ns) ≡ drop n.below (reverse (take i ns))
    read_rest = reverse-take-sub ns i n.below n (omega arith) below_le

    pub skip_tree : IsTree (reverse (take (i - n.below) ns))
    skip_tree = subst IsTree (sym read_rest) (IsTree-drop n.below (reverse (take i ns)) read_tree.1.1)

    pub skip_meeting : (q : Question) → finds q n.bound ≡ false → items_found q (entries (reverse (take k ns))) ≡ items_found q (entries (reverse (take (i - n.below) ns)))
    skip_meeting q miss =
        ap (λ r. items_found q (entries r)) read_last
        ∙ items_found-missed q n (reverse (take i ns)) miss
        ∙ items_found-skip q n.bound n.below (reverse (take i ns)) miss read_tree.1.0
        ∙ ap (λ r. items_found q (entries r)) (sym read_rest)

    pub skip_found : (q : Question) → finds q n.bound ≡ false → entries_found q (entries (reverse (take k ns))) ≡ entries_found q (entries (reverse (take (i - n.below) ns)))
    skip_found q miss =
        ap (λ r. entries_found q (entries r)) read_last
        ∙ found-missed q n (reverse (take i ns)) miss
        ∙ found-skip q n.bound n.below (reverse (take i ns)) miss read_tree.1.0
        ∙ ap (λ r. entries_found q (entries r)) (sym read_rest)

    pub hull_step : (from : ℕ) (f : LabelledBox) → from < k → Has f n.bound → AllIn f (take (i - n.below - from) (reverse (take (i - n.below) ns))) → AllIn f (take (k - from) (reverse (take k ns)))
    hull_step from f lt has h =
        let r = reverse (take i ns) in
        let e : suc (i - from) ≡ k - from = omega arith in
        let g : i - n.below - from ≡ i - from - n.below = omega arith in
        let later : AllIn f (take (i - from - n.below) (drop n.below r)) = subst (λ (m : ℕ). AllIn f (take m (drop n.below r))) g (subst (λ (xs : List Node). AllIn f (take (i - n.below - from) xs)) read_rest h) in
        subst (λ (xs : List Node). AllIn f (take (k - from) xs)) (sym read_last)
        (subst (λ (m : ℕ). AllIn f (take m (n ∷ r))) e
        (has, AllIn-join f n.below (i - from) r (AllIn-trans f n.bound (take n.below r) has read_tree.1.0) later))

-- ---- an item put in
pub pushed : (ns xs : List Node) (n : Node) → xs ≡ ns ++ n ∷ [] → reverse xs ≡ n ∷ reverse ns
pushed ns xs n e = ap reverse e ∙ reverse-append ns (n ∷ [])

module _ (ns xs : List Node) (e : LabelledBox) (i : ℕ) (is : xs ≡ ns ++ record { bound = e; below = 0; item = i } ∷ []) where
  pub item_tree : IsTree (reverse ns) → IsTree (reverse xs)
  item_tree tree = subst IsTree (sym (pushed ns xs (record { bound = e; below = 0; item = i }) is)) (omega arith, (tt, tree))

  pub item_entries : entries (reverse xs) ≡ (i, e) ∷ entries (reverse ns)
  item_entries = ap entries (pushed ns xs (record { bound = e; below = 0; item = i }) is)
