-- Copies of a vertex, listed one by one.
use Rattle.std.proofs.Common.{◌≡◌, ℕ, ◌+◌, ◌<◌, List, [], ◌∷◌, ◌++◌, map, drop, length, get_or, sym, ap, ◌∙◌}
use Rattle.std.proofs.lemmas.List.{append_assoc}
use Rattle.std.specs.List.{enumerate_from}
use Rattle.grid_base.specs.declared.Point.{Point}
use Rattle.pair_scan.proofs.Lists.{rest_at}
use Rattle.mesh_base.specs.Mesh.{Mesh}
use Rattle.edit_base.specs.declared.answers.CopyAt.{CopyAt}
use Rattle.edit_pinch.specs.Pinch.{fan_point}

-- what is made of the next copy goes to the end
pub next_mapped : {Y : Type 0} (f : CopyAt → Y) (copies : List CopyAt) (i : ℕ) (copy : CopyAt) (made more : List Y) → i < length copies → copy ≡ get_or copies i copy → more ≡ made ++ f copy ∷ [] →
    more ++ map f (drop (i + 1) copies) ≡ made ++ map f (drop i copies)
next_mapped f copies i copy made more below is put =
    ap (λ l. l ++ map f (drop (i + 1) copies)) put
    ∙ append_assoc made (f copy ∷ []) (map f (drop (i + 1) copies))
    ∙ ap (λ l. made ++ map f l) (sym (rest_at copies i copy below ∙ ap (λ k. k ∷ drop (i + 1) copies) (sym is)))

module _ (m : Mesh) (v : ℕ) where
  abbrev pub listed_from : ℕ → List (List ℕ) → List CopyAt
  listed_from k fans = map (λ e. record { w = e.0; at = fan_point m v e.1 }) (enumerate_from k fans)

  pub one_listed : (fans : List (List ℕ)) (i w : ℕ) (made more all : List CopyAt) (fan given : List ℕ) (at : Point) → i < length fans → fan ≡ get_or fans i fan → given ≡ fan → at ≡ fan_point m v given →
      more ≡ made ++ record { w = w; at = at } ∷ [] → made ++ listed_from w (drop i fans) ≡ all → more ++ listed_from (w + 1) (drop (i + 1) fans) ≡ all
  one_listed fans i w made more all fan given at below item same at_is more_is so_far =
      ap (λ l. l ++ listed_from (w + 1) (drop (i + 1) fans)) (more_is ∙ (λ j. made ++ record { w = w; at = (at_is ∙ ap (fan_point m v) same) j } ∷ []))
      ∙ append_assoc made (record { w = w; at = fan_point m v fan } ∷ []) (listed_from (w + 1) (drop (i + 1) fans))
      ∙ ap (λ l. made ++ listed_from w l) (ap (λ k. k ∷ drop (i + 1) fans) item ∙ sym (rest_at fans i fan below))
      ∙ so_far
