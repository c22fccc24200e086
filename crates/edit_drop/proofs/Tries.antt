-- Edits that are tried, each in what the one before it leaves, and rounds of them.
use Rattle.std.proofs.Common.{◌≡◌, ℕ, suc, ◌+◌, ◌<◌, ◌≤◌, Bool, true, false, cond, not, List, [], ◌∷◌, ◌++◌, length, get_or, drop, refl, sym, ap, ◌∙◌, append_assoc, append-nil, add-one, arith}
use Rattle.std.proofs.Math.Seq.{drop-cons}
use Rattle.std.proofs.Math.ListN.{drop_of_length-le}
use Rattle.mesh_base.specs.Mesh.{Mesh}
use Rattle.edit_base.specs.declared.Asked.{Asked}
use Rattle.edit_base.specs.declared.Edit.{Edit}
use Rattle.edit_base.specs.declared.Edit.TheVariants.{Done, No}
use Rattle.edit_drop.specs.Drop.{collapses_from, collapses_among, answer_at, after_one, if_done, after_each, done_of, after_round, done_in_round, does_some, after_rounds, done_in_rounds}

-- the next of a list, and then the others
pub next_one : {X : Type 0} (items : List X) (i : ℕ) (e : X) → i < length items → e ≡ get_or items i e → drop i items ≡ e ∷ drop (i + 1) items
next_one items i e inside at = drop-cons items i e inside ∙ ap (λ t. t ∷ drop (suc i) items) (sym at) ∙ ap (λ n. e ∷ drop n items) (sym (add-one i))

pub next_number : (vs : List ℕ) (i : ℕ) → i < length vs → drop i vs ≡ get_or vs i 0 ∷ drop (i + 1) vs
next_number vs i inside = drop-cons vs i 0 inside ∙ ap (λ n. get_or vs i 0 ∷ drop n vs) (sym (add-one i))

-- none is left
pub none_left : {X : Type 0} (items : List X) (i : ℕ) → length items ≤ i → drop i items ≡ []
none_left items i over = drop_of_length-le items over

-- ---- the collapses of edges from some vertices
module _ (m : Mesh) (vs : List ℕ) (i : ℕ) (inside : i < length vs) where
  pub more_collapses : (total all more : List Asked) → more ≡ all ++ collapses_from m (get_or vs i 0) → all ++ collapses_among m (drop i vs) ≡ total → more ++ collapses_among m (drop (i + 1) vs) ≡ total
  more_collapses total all more adds before =
      ap (λ (l : List Asked). l ++ collapses_among m (drop (i + 1) vs)) adds
      ∙ append_assoc all (collapses_from m (get_or vs i 0)) (collapses_among m (drop (i + 1) vs))
      ∙ ap (λ (l : List ℕ). all ++ collapses_among m l) (sym (next_number vs i inside))
      ∙ before

-- ---- edits
module _ (depth : ℕ) (m : Mesh) (asked : List Asked) (i : ℕ) where
  -- one more is tried
  module _ (what : Asked) (inside : i < length asked) (is : what ≡ get_or asked i what) where
    here : drop i asked ≡ what ∷ drop (i + 1) asked
    here = next_one asked i what inside is

    pub one_more : (end next : Mesh) → next ≡ after_one depth m what → after_each depth m (drop i asked) ≡ end → after_each depth next (drop (i + 1) asked) ≡ end
    one_more end next e before = ap (λ (n : Mesh). after_each depth n (drop (i + 1) asked)) e ∙ ap (after_each depth m) (sym here) ∙ before

    pub one_more_done : (all done more : List Asked) (next : Mesh) → next ≡ after_one depth m what → more ≡ done ++ if_done what (answer_at depth m what)
        → done ++ done_of depth m (drop i asked) ≡ all → more ++ done_of depth next (drop (i + 1) asked) ≡ all
    one_more_done all done more next e adds before =
        let rest = done_of depth (after_one depth m what) (drop (i + 1) asked) in
        ap (λ (l : List Asked). l ++ done_of depth next (drop (i + 1) asked)) adds
        ∙ ap (λ (n : Mesh). (done ++ if_done what (answer_at depth m what)) ++ done_of depth n (drop (i + 1) asked)) e
        ∙ append_assoc done (if_done what (answer_at depth m what)) rest
        ∙ ap (λ (l : List Asked). done ++ done_of depth m l) (sym here)
        ∙ before

  -- none is left to try
  module _ (over : length asked ≤ i) where
    pub all_tried : (end : Mesh) → after_each depth m (drop i asked) ≡ end → m ≡ end
    all_tried end before = sym (ap (after_each depth m) (none_left asked i over)) ∙ before

    pub all_done : (all done : List Asked) → done ++ done_of depth m (drop i asked) ≡ all → done ≡ all
    all_done all done before = sym (append-nil done) ∙ ap (λ (l : List Asked). done ++ done_of depth m l) (sym (none_left asked i over)) ∙ before

-- ---- rounds
module _ (depth : ℕ) (m : Mesh) (vs : List ℕ) (i : ℕ) where
  module _ (inside : i < length vs) (next : Mesh) (e : next ≡ after_round depth vs m) where
    these : drop i vs ≡ get_or vs i 0 ∷ drop (i + 1) vs
    these = next_number vs i inside

    abbrev rest : Bool → Mesh
    rest some = cond some (after_rounds (drop (i + 1) vs) depth vs (after_round depth vs m)) (after_round depth vs m)

    pub round_more : (end : Mesh) → does_some depth vs m ≡ true → after_rounds (drop i vs) depth vs m ≡ end → after_rounds (drop (i + 1) vs) depth vs next ≡ end
    round_more end some before = ap (after_rounds (drop (i + 1) vs) depth vs) e ∙ ap rest (sym some) ∙ ap (λ (l : List ℕ). after_rounds l depth vs m) (sym these) ∙ before

    pub round_last : (end : Mesh) → does_some depth vs m ≡ false → after_rounds (drop i vs) depth vs m ≡ end → next ≡ end
    round_last end none before = e ∙ ap rest (sym none) ∙ ap (λ (l : List ℕ). after_rounds l depth vs m) (sym these) ∙ before

    abbrev then : Bool → List Asked
    then some = cond some (done_in_rounds (drop (i + 1) vs) depth vs (after_round depth vs m)) []

    pub done_more : (all done more : List Asked) → more ≡ done ++ done_in_round depth vs m → does_some depth vs m ≡ true
        → done ++ done_in_rounds (drop i vs) depth vs m ≡ all → more ++ done_in_rounds (drop (i + 1) vs) depth vs next ≡ all
    done_more all done more adds some before =
        ap (λ (l : List Asked). l ++ done_in_rounds (drop (i + 1) vs) depth vs next) adds
        ∙ ap (λ (n : Mesh). (done ++ done_in_round depth vs m) ++ done_in_rounds (drop (i + 1) vs) depth vs n) e
        ∙ append_assoc done (done_in_round depth vs m) (done_in_rounds (drop (i + 1) vs) depth vs (after_round depth vs m))
        ∙ ap (λ b. done ++ (done_in_round depth vs m ++ then b)) (sym some)
        ∙ ap (λ (l : List ℕ). done ++ done_in_rounds l depth vs m) (sym these)
        ∙ before

    pub done_last : (all done more : List Asked) → more ≡ done ++ done_in_round depth vs m → does_some depth vs m ≡ false
        → done ++ done_in_rounds (drop i vs) depth vs m ≡ all → more ≡ all
    done_last all done more adds none before =
        adds
        ∙ ap (λ (l : List Asked). done ++ l) (sym (append-nil (done_in_round depth vs m)))
        ∙ ap (λ b. done ++ (done_in_round depth vs m ++ then b)) (sym none)
        ∙ ap (λ (l : List ℕ). done ++ done_in_rounds l depth vs m) (sym these)
        ∙ before

  module _ (over : length vs ≤ i) where
    pub all_rounds : (end : Mesh) → after_rounds (drop i vs) depth vs m ≡ end → m ≡ end
    all_rounds end before = sym (ap (λ (l : List ℕ). after_rounds l depth vs m) (none_left vs i over)) ∙ before

    pub all_rounds_done : (all done : List Asked) → done ++ done_in_rounds (drop i vs) depth vs m ≡ all → done ≡ all
    all_rounds_done all done before = sym (append-nil done) ∙ ap (λ (l : List ℕ). done ++ done_in_rounds l depth vs m) (sym (none_left vs i over)) ∙ before
