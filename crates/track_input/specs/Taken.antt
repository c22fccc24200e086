-- How the words of a command line are read.
use Rattle.std.specs.Prelude.{◌≡◌, ◌⊎◌, ℕ, List, [], ◌∷◌, ◌++◌, Option, Some, None, IfSome, codes, slice_get, All, Contains}
use Rattle.mesh_base.specs.declared.Scale.{Scale}
use Rattle.mesh_base.specs.declared.Scale.TheVariants.{Standard, Large}
use Rattle.track_input.specs.Words.{Named, named_in}

-- `--large`, or no word
abbrev pub scale_words : Scale → List (List ℕ)
scale_words Standard = []
scale_words Large = codes "--large" ∷ []

-- `--decimals N`, or no words
abbrev pub digit_words : Option (List ℕ) → List (List ℕ)
digit_words None = []
digit_words (Some digit) = codes "--decimals" ∷ digit ∷ []

-- `--large`, `--decimals N`, both or neither
abbrev pub behind : Scale → Option (List ℕ) → List (List ℕ)
behind scale digit = scale_words scale ++ digit_words digit

-- the same, and then `--only K`, or not
abbrev pub options_behind : Scale → Option (List ℕ) → Option (List ℕ) → List (List ℕ)
options_behind scale digit None = behind scale digit
options_behind scale digit (Some number) = behind scale digit ++ codes "--only" ∷ number ∷ []

-- Words are taken as a listed form with the same first word. Each word of it stands among them, and
-- `--large` where it is of large meshes; its N may be the end of a word `--decimals=N`, and its K
-- that of a word `--only=K`.
pub record AreTakenAs (words : List (List ℕ)) (named : Named) : Type 0 where
  pub form : List (List ℕ)
  pub scale : Scale
  pub digit : Option (List ℕ)
  pub number : Option (List ℕ)
  pub is_listed : named_in (form ++ options_behind scale digit number) ≡ Some named
  pub first : slice_get form 0 ≡ slice_get words 0
  pub among : All (Contains words) form
  pub large : scale ≡ Large → Contains words (codes "--large")
  pub decimals : IfSome digit (λ n. Contains words n ⊎ Contains words (codes "--decimals=" ++ n))
  pub only : IfSome number (λ k. Contains words k ⊎ Contains words (codes "--only=" ++ k))

-- THE READING of words: a command that they are listed as, or that they are taken as where they are
-- of no listed form; or no command, and then they are of no listed form.
abbrev pub IsReading : List (List ℕ) → Option Named → Type 0
IsReading words None = named_in words ≡ None
IsReading words (Some named) =
    (named_in words ≡ Some named) ⊎ ((named_in words ≡ None) × AreTakenAs words named)
