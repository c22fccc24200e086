-- Entries at rising ids, put into a map one after another, make the map of all of them.
use Rattle.std.proofs.Common.{◌≡◌, ℕ, ◌+◌, ◌≤◌, ◌==◌, false, cond, List, [], ◌∷◌, ◌++◌, Some, None, sym, ap, ◌∙◌, append-nil, append_assoc, arith}
use Rattle.std.specs.Ordering.{nat_cmp}
use Rattle.std.specs.Cmp.{nat_cmp_total, unsigned_tied}
use Rattle.std.specs.FinMap as finite
use Rattle.std.specs.FinMap.{FinMap, nat_cmp-IsAntisymmetric, get-empty, get-insert, get-from_entries, from_entries_push}
use Rattle.mesh_base.proofs.Tests.{untied}

module _ {X : Type 0} where
  -- the first id is at least this, and each other is above the one before
  abbrev pub Rises : ℕ → List (ℕ × X) → Type 0
  Rises low [] = Unit {0}
  Rises low (e ∷ es) = (low ≤ e.0) × Rises (e.0 + 1) es

  -- nothing is at an id from this on
  abbrev pub IsBelow : ℕ → FinMap nat_cmp X → Type 0
  IsBelow low m = (q : ℕ) → low ≤ q → finite.get m q ≡ None

  abbrev pub inserted : FinMap nat_cmp X → List (ℕ × X) → FinMap nat_cmp X
  inserted m [] = m
  inserted m (e ∷ es) = inserted (finite.insert m e.0 e.1) es

  pub empty_below : (low : ℕ) → IsBelow low finite.empty
  empty_below low q h = get-empty nat_cmp q

  one_more : (low : ℕ) (m : FinMap nat_cmp X) (k : ℕ) (v : X) → low ≤ k → IsBelow low m → IsBelow (k + 1) (finite.insert m k v)
  one_more low m k v up none q h =
      let apart : (q == k) ≡ false = untied q k (λ e. omega (arith, e, h)) in
      get-insert nat_cmp_total m k v q ∙ ap (λ b. cond b (Some v) (finite.get m q)) (unsigned_tied q k ∙ apart) ∙ none q (omega (arith, up, h))

  pub inserted_all : (low : ℕ) (before es : List (ℕ × X)) (m : FinMap nat_cmp X) → m ≡ finite.from_entries before → IsBelow low m → Rises low es → inserted m es ≡ finite.from_entries (before ++ es)
  inserted_all low before [] m is none rises = is ∙ ap finite.from_entries (sym (append-nil before))
  inserted_all low before (e ∷ es) m is none rises =
      let new = sym (get-from_entries nat_cmp_total before e.0) ∙ ap (λ n. finite.get n e.0) (sym is) ∙ none e.0 rises.0 in
      let put = ap (λ n. finite.insert n e.0 e.1) is ∙ sym (from_entries_push nat_cmp_total nat_cmp-IsAntisymmetric before e.0 e.1 new) in
      inserted_all (e.0 + 1) (before ++ e ∷ []) es (finite.insert m e.0 e.1) put (one_more low m e.0 e.1 rises.0 none) rises.1
      ∙ ap finite.from_entries (append_assoc before (e ∷ []) es)

  -- from nothing
  pub inserted_empty : (low : ℕ) (es : List (ℕ × X)) → Rises low es → inserted finite.empty es ≡ finite.from_entries es
  inserted_empty low es rises = inserted_all low [] es finite.empty (λ i. finite.empty) (empty_below low) rises
