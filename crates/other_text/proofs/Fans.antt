-- The triangles of a face, corner by corner.
use Rattle.std.proofs.Common.{◌≡◌, ℕ, ◌+◌, ◌-◌, ◌<◌, suc, List, [], ◌∷◌, ◌++◌, Result, Ok, Err, refl, sym, ap, append_assoc, arith}
use Rattle.std.proofs.lemmas.List.{append-nil}
use Rattle.line_text.specs.declared.fault.TextWhy.{TextWhy}
use Rattle.line_text.specs.declared.fault.TextWhy.TheVariants.{Short}
use Rattle.line_text.specs.Faults.{◌>>=◌, at_line}
use Rattle.obj_text.specs.Obj.{fan_after}
use Rattle.other_text.specs.Rows.{corner_of, corners_of}
use Rattle.other_text.specs.RowsViews.{fan_from}

regrouped : (a b c : ℕ) (faces : List (List ℕ)) (others : Result (List ℕ) TextWhy) → ((others >>= λ cs. Ok (c ∷ cs)) >>= λ cs. Ok (faces ++ fan_after a b cs)) ≡ (others >>= λ cs. Ok ((faces ++ (a ∷ b ∷ c ∷ []) ∷ []) ++ fan_after a c cs))
regrouped a b c faces (Ok cs) = ap (λ (fs : List (List ℕ)). Ok fs) (sym (append_assoc faces ((a ∷ b ∷ c ∷ []) ∷ []) (fan_after a c cs)))
regrouped a b c faces (Err why) = refl

module _ (line a b : ℕ) (faces : List (List ℕ)) (words : List (List ℕ)) where
  more_by : (n k : ℕ) → n ≡ suc k → (word : List ℕ) (rest : List (List ℕ)) → words ≡ word ∷ rest → (c : ℕ) → corner_of word ≡ Ok c → fan_from n line a b faces words ≡ fan_from k line a c (faces ++ (a ∷ b ∷ c ∷ []) ∷ []) rest
  unfolding corners_of
  more_by n k is word rest next c e = rw (is, next, e) (ap (at_line line) (regrouped a b c faces (corners_of k rest)))

  fault_by : (n k : ℕ) → n ≡ suc k → (word : List ℕ) (rest : List (List ℕ)) → words ≡ word ∷ rest → (why : TextWhy) → corner_of word ≡ Err why → fan_from n line a b faces words ≡ Err (record { line = line; why = why })
  unfolding corners_of
  fault_by n k is word rest next why e = rw (is, next, e) refl

  short_by : (n k : ℕ) → n ≡ suc k → words ≡ [] → fan_from n line a b faces words ≡ Err (record { line = line; why = Short })
  unfolding corners_of
  short_by n k is none = rw (is, none) refl

  module _ (more i : ℕ) (lt : i < more) where
    left : more - i ≡ suc (more - (i + 1))
    left = omega arith

    pub fan_more : (word : List ℕ) (rest : List (List ℕ)) → words ≡ word ∷ rest → (c : ℕ) → corner_of word ≡ Ok c → fan_from (more - i) line a b faces words ≡ fan_from (more - (i + 1)) line a c (faces ++ (a ∷ b ∷ c ∷ []) ∷ []) rest
    fan_more = more_by (more - i) (more - (i + 1)) left

    pub fan_fault : (word : List ℕ) (rest : List (List ℕ)) → words ≡ word ∷ rest → (why : TextWhy) → corner_of word ≡ Err why → fan_from (more - i) line a b faces words ≡ Err (record { line = line; why = why })
    fan_fault = fault_by (more - i) (more - (i + 1)) left

    pub fan_short : words ≡ [] → fan_from (more - i) line a b faces words ≡ Err (record { line = line; why = Short })
    fan_short = short_by (more - i) (more - (i + 1)) left

  pub fan_end : (n : ℕ) → n ≡ 0 → fan_from n line a b faces words ≡ Ok faces
  unfolding corners_of
  fan_end n none = rw none (ap (λ (fs : List (List ℕ)). Ok fs) (append-nil faces))
