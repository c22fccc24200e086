-- How the commands walk the words of a listed form.
use Rattle.std.proofs.Common.{inl, inr, ◌≡◌, ◌≤◌, ◌∙◌, ℕ, true, false, refl, sym, ap, subst, List, [], ◌∷◌, ◌++◌, Option, Some, None, codes, not, eqb, arith, length}
use Rattle.std.specs.Prelude.{◌&&◌, Bool, IfSome, if◌then◌else◌, nat_le, nat_lt}
use Rattle.std.specs.List.{list_all}
use Rattle.std.specs.Str.{bytes_eq}
use Rattle.std.proofs.lemmas.Bool.{cases_Bool, and_parts, ne_eqb, leb-true, eqb-true}
use Rattle.clap.specs.Lexer.{long_of, short_of}
use Rattle.clap.specs.Simple.{matches_of}
use Rattle.clap.specs.Takes.{takes}
use Rattle.clap.specs.Walk.{Row, Walk, finished, first_of}
use Rattle.clap.proofs.OnLiterals.{clap_on_literals}
use Rattle.line_text.specs.Numbers.{number_within, is_digit, begins_with}
use Rattle.line_text.specs.Spellings.{spelled_number}
use Rattle.line_text.specs.declared.number.TheConstants.{DIGITS_MAX}
use Rattle.mesh_base.specs.declared.Scale.{Scale}
use Rattle.mesh_base.specs.declared.Scale.TheVariants.{Standard, Large}
use Rattle.track_input.specs.Words.{is_file_word, is_decimals}
use Rattle.track_input.specs.Taken.{behind}
use Rattle.track_input.specs.Commands.{scale_of, track_app, convert_app, try_app, log_app, verify_app, replay_app, check_app}
use Rattle.track_input.proofs.Walking.{row, behind_files, behind_digit, behind_number, start, ends_well, top, Walks, walks_on, takes_walked, matches_walked}

-- a word that begins no option
pub record IsPlainWord (w : List ℕ) : Type 0 where
  pub long : long_of w ≡ None
  pub short : short_of w ≡ None
  pub dashes : bytes_eq w (45 ∷ 45 ∷ []) ≡ false

begins_plain : (b : ℕ) (bs : List ℕ) → eqb b 45 ≡ false → IsPlainWord (b ∷ bs)
begins_plain b bs e = record { long = rw e refl; short = rw e refl; dashes = rw e refl }

pub plain_word : (w : List ℕ) → is_file_word w ≡ true → IsPlainWord w
plain_word [] h = absurd (cc)
plain_word (b ∷ bs) h = elim (cases_Bool (eqb b 45)) [
  | inl e ↦ absurd (let f : true ≡ false = sym h ∙ ap not e in cc)
  | inr e ↦ begins_plain b bs e
]

pub plain_digit : (w : List ℕ) → is_decimals w ≡ true → IsPlainWord w
plain_digit [] h = absurd (cc)
plain_digit (b ∷ []) h = begins_plain b [] (ne_eqb b 45 (λ e. let le : 48 ≤ b = leb-true 48 b (and_parts _ _ h).0 in omega arith))
plain_digit (b ∷ d ∷ bs) h = absurd (let e : length (b ∷ d ∷ bs) ≡ 1 = eqb-true _ _ (and_parts _ _ h).0 in omega (arith, e))

-- no digits are no number
no_number : (zero_first : Bool) (n : ℕ) → (if zero_first && nat_lt 1 (length {A = ℕ} []) then None else number_within DIGITS_MAX []) ≡ Some n → ⊥
no_number true n e = cc
no_number false n e = cc

-- digits begin no option
digits_plain : (b : ℕ) (bs : List ℕ) → list_all is_digit (b ∷ bs) ≡ true → IsPlainWord (b ∷ bs)
digits_plain b bs digits =
    let digit : is_digit b ≡ true = (and_parts (is_digit b) (list_all is_digit bs) digits).0 in
    let at_least : 48 ≤ b = leb-true 48 b (and_parts (nat_le 48 b) (nat_le b 57) digit).0 in
    begins_plain b bs (ne_eqb b 45 (λ e. omega (arith, e, at_least)))

-- the word of a number
pub plain_number : (w : List ℕ) (n : ℕ) → spelled_number w ≡ Some n → IsPlainWord w
plain_number [] n e = absurd (no_number (begins_with 48 []) n e)
plain_number (b ∷ bs) n e = elim (cases_Bool (begins_with 48 (b ∷ bs) && nat_lt 1 (length (b ∷ bs)))) [
  | inl zero ↦ absurd (let g = rw zero at e in cc)
  | inr fine ↦ at_digits (rw fine at e)
]
  where
    at_digits : number_within DIGITS_MAX (b ∷ bs) ≡ Some n → IsPlainWord (b ∷ bs)
    at_digits g = elim (cases_Bool (nat_le 1 (length (b ∷ bs)) && nat_le (length (b ∷ bs)) DIGITS_MAX && list_all is_digit (b ∷ bs))) [
      | inr fails ↦ absurd (let h = rw fails at g in cc)
      | inl all ↦ digits_plain b bs (and_parts (nat_le 1 (length (b ∷ bs)) && nat_le (length (b ∷ bs)) DIGITS_MAX) (list_all is_digit (b ∷ bs)) all).1
    ]

-- ---- what stands in the rows for each word

pub record FindsTrack (rows : List Row) (a b c : List ℕ) (s : Scale) (n : Option (List ℕ)) : Type 0 where
  pub mesh : first_of (codes "mesh") rows ≡ Some a
  pub steps : first_of (codes "steps") rows ≡ Some b
  pub prefix : first_of (codes "prefix") rows ≡ Some c
  pub large : scale_of (first_of (codes "large") rows) ≡ s
  pub decimals : first_of (codes "decimals") rows ≡ n

pub record FindsConvert (rows : List Row) (a b : List ℕ) (s : Scale) (n : Option (List ℕ)) : Type 0 where
  pub from : first_of (codes "from") rows ≡ Some a
  pub to : first_of (codes "to") rows ≡ Some b
  pub large : scale_of (first_of (codes "large") rows) ≡ s
  pub decimals : first_of (codes "decimals") rows ≡ n

pub record FindsLog (rows : List Row) (a b : List ℕ) (s : Scale) (n : Option (List ℕ)) : Type 0 where
  pub mesh : first_of (codes "mesh") rows ≡ Some a
  pub log : first_of (codes "log") rows ≡ Some b
  pub large : scale_of (first_of (codes "large") rows) ≡ s
  pub decimals : first_of (codes "decimals") rows ≡ n

pub record FindsVerify (rows : List Row) (a b c : List ℕ) (s : Scale) (n : Option (List ℕ)) : Type 0 where
  pub mesh : first_of (codes "mesh") rows ≡ Some a
  pub log : first_of (codes "log") rows ≡ Some b
  pub proof : first_of (codes "proof") rows ≡ Some c
  pub large : scale_of (first_of (codes "large") rows) ≡ s
  pub decimals : first_of (codes "decimals") rows ≡ n

pub record FindsReplay (rows : List Row) (a b c : List ℕ) (s : Scale) (n : Option (List ℕ)) (k : Option (List ℕ)) : Type 0 where
  pub mesh : first_of (codes "mesh") rows ≡ Some a
  pub log : first_of (codes "log") rows ≡ Some b
  pub prefix : first_of (codes "prefix") rows ≡ Some c
  pub large : scale_of (first_of (codes "large") rows) ≡ s
  pub decimals : first_of (codes "decimals") rows ≡ n
  pub only : first_of (codes "only") rows ≡ k

pub record FindsCheck (rows : List Row) (a : List ℕ) (s : Scale) (n : Option (List ℕ)) : Type 0 where
  pub mesh : first_of (codes "mesh") rows ≡ Some a
  pub large : scale_of (first_of (codes "large") rows) ≡ s
  pub decimals : first_of (codes "decimals") rows ≡ n

pub record FindsTry (rows : List Row) (a b : List ℕ) : Type 0 where
  pub cubes : first_of (codes "cubes") rows ≡ Some a
  pub key : first_of (codes "key") rows ≡ Some b

module _ (zeroth a b : List ℕ) (pa : IsPlainWord a) (pb : IsPlainWord b) where
  pub try_taken : takes try_app (zeroth ∷ a ∷ b ∷ []) ≡ true
  unfolding clap_on_literals
  try_taken = rw (pa.long, pa.short, pa.dashes, pb.long, pb.short, pb.dashes) refl

  pub try_found : FindsTry (matches_of try_app (zeroth ∷ a ∷ b ∷ [])) a b
  unfolding clap_on_literals
  try_found = rw (pa.long, pa.short, pa.dashes, pb.long, pb.short, pb.dashes) (record { cubes = refl; key = refl })

-- ---- the words of `track`

module _ (a b c : List ℕ) where
  abbrev track_rows : List Row
  track_rows = row (codes "mesh") a ∷ row (codes "steps") b ∷ []

  abbrev track_end : Scale → Option (List ℕ) → Walk
  track_end = behind_digit 4 track_rows (codes "prefix") c

  track_to_end : (s : Scale) (n : Option (List ℕ)) → IfSome n IsPlainWord → Walks track_app (behind_files 4 track_rows (codes "prefix") c) (behind s n) (track_end s n)
  unfolding clap_on_literals
  track_to_end Standard None pn = record { ends = refl; passes = refl }
  track_to_end Standard (Some n) pn = record { ends = rw (pn.long, pn.short, pn.dashes) refl; passes = rw (pn.long, pn.short, pn.dashes) refl }
  track_to_end Large None pn = record { ends = refl; passes = refl }
  track_to_end Large (Some n) pn = record { ends = rw (pn.long, pn.short, pn.dashes) refl; passes = rw (pn.long, pn.short, pn.dashes) refl }

  track_ends_well : (s : Scale) (n : Option (List ℕ)) → ends_well track_app (track_end s n) true ≡ true
  unfolding clap_on_literals
  track_ends_well Standard None = refl
  track_ends_well Standard (Some n) = refl
  track_ends_well Large None = refl
  track_ends_well Large (Some n) = refl

  track_told : (s : Scale) (n : Option (List ℕ)) → FindsTrack (finished (top track_app).rules (track_end s n).held) a b c s n
  track_told Standard None = record { mesh = refl; steps = refl; prefix = refl; large = refl; decimals = refl }
  track_told Standard (Some n) = record { mesh = refl; steps = refl; prefix = refl; large = refl; decimals = refl }
  track_told Large None = record { mesh = refl; steps = refl; prefix = refl; large = refl; decimals = refl }
  track_told Large (Some n) = record { mesh = refl; steps = refl; prefix = refl; large = refl; decimals = refl }

  module _ (pa : IsPlainWord a) (pb : IsPlainWord b) (pc : IsPlainWord c) where
    track_to_files : Walks track_app (start track_app) (a ∷ b ∷ c ∷ []) (behind_files 4 track_rows (codes "prefix") c)
    unfolding clap_on_literals
    track_to_files = record { ends = rw (pa.long, pa.short, pa.dashes) (rw (pb.long, pb.short, pb.dashes) (rw (pc.long, pc.short, pc.dashes) refl)); passes = rw (pa.long, pa.short, pa.dashes) (rw (pb.long, pb.short, pb.dashes) (rw (pc.long, pc.short, pc.dashes) refl)) }

    track_walks : (s : Scale) (n : Option (List ℕ)) → IfSome n IsPlainWord → Walks track_app (start track_app) (a ∷ b ∷ c ∷ behind s n) (track_end s n)
    track_walks s n pn = walks_on track_app _ _ _ (a ∷ b ∷ c ∷ []) (behind s n) track_to_files (track_to_end s n pn)

    pub track_taken : (zeroth : List ℕ) (s : Scale) (n : Option (List ℕ)) → IfSome n IsPlainWord → takes track_app (zeroth ∷ a ∷ b ∷ c ∷ behind s n) ≡ true
    track_taken zeroth s n pn = takes_walked track_app zeroth _ refl (track_end s n) (track_walks s n pn) (track_ends_well s n)

    pub track_found : (zeroth : List ℕ) (s : Scale) (n : Option (List ℕ)) → IfSome n IsPlainWord → FindsTrack (matches_of track_app (zeroth ∷ a ∷ b ∷ c ∷ behind s n)) a b c s n
    track_found zeroth s n pn = subst (λ (rows : List Row). FindsTrack rows a b c s n) (matches_walked track_app zeroth _ refl (track_end s n) (track_walks s n pn)) (track_told s n)

-- ---- the words of `convert`

module _ (a b : List ℕ) where
  abbrev convert_rows : List Row
  convert_rows = row (codes "from") a ∷ []

  abbrev convert_end : Scale → Option (List ℕ) → Walk
  convert_end = behind_digit 3 convert_rows (codes "to") b

  convert_to_end : (s : Scale) (n : Option (List ℕ)) → IfSome n IsPlainWord → Walks convert_app (behind_files 3 convert_rows (codes "to") b) (behind s n) (convert_end s n)
  unfolding clap_on_literals
  convert_to_end Standard None pn = record { ends = refl; passes = refl }
  convert_to_end Standard (Some n) pn = record { ends = rw (pn.long, pn.short, pn.dashes) refl; passes = rw (pn.long, pn.short, pn.dashes) refl }
  convert_to_end Large None pn = record { ends = refl; passes = refl }
  convert_to_end Large (Some n) pn = record { ends = rw (pn.long, pn.short, pn.dashes) refl; passes = rw (pn.long, pn.short, pn.dashes) refl }

  convert_ends_well : (s : Scale) (n : Option (List ℕ)) → ends_well convert_app (convert_end s n) true ≡ true
  unfolding clap_on_literals
  convert_ends_well Standard None = refl
  convert_ends_well Standard (Some n) = refl
  convert_ends_well Large None = refl
  convert_ends_well Large (Some n) = refl

  convert_told : (s : Scale) (n : Option (List ℕ)) → FindsConvert (finished (top convert_app).rules (convert_end s n).held) a b s n
  convert_told Standard None = record { from = refl; to = refl; large = refl; decimals = refl }
  convert_told Standard (Some n) = record { from = refl; to = refl; large = refl; decimals = refl }
  convert_told Large None = record { from = refl; to = refl; large = refl; decimals = refl }
  convert_told Large (Some n) = record { from = refl; to = refl; large = refl; decimals = refl }

  module _ (pa : IsPlainWord a) (pb : IsPlainWord b) where
    convert_to_files : Walks convert_app (start convert_app) (a ∷ b ∷ []) (behind_files 3 convert_rows (codes "to") b)
    unfolding clap_on_literals
    convert_to_files = record { ends = rw (pa.long, pa.short, pa.dashes) (rw (pb.long, pb.short, pb.dashes) refl); passes = rw (pa.long, pa.short, pa.dashes) (rw (pb.long, pb.short, pb.dashes) refl) }

    convert_walks : (s : Scale) (n : Option (List ℕ)) → IfSome n IsPlainWord → Walks convert_app (start convert_app) (a ∷ b ∷ behind s n) (convert_end s n)
    convert_walks s n pn = walks_on convert_app _ _ _ (a ∷ b ∷ []) (behind s n) convert_to_files (convert_to_end s n pn)

    pub convert_taken : (zeroth : List ℕ) (s : Scale) (n : Option (List ℕ)) → IfSome n IsPlainWord → takes convert_app (zeroth ∷ a ∷ b ∷ behind s n) ≡ true
    convert_taken zeroth s n pn = takes_walked convert_app zeroth _ refl (convert_end s n) (convert_walks s n pn) (convert_ends_well s n)

    pub convert_found : (zeroth : List ℕ) (s : Scale) (n : Option (List ℕ)) → IfSome n IsPlainWord → FindsConvert (matches_of convert_app (zeroth ∷ a ∷ b ∷ behind s n)) a b s n
    convert_found zeroth s n pn = subst (λ (rows : List Row). FindsConvert rows a b s n) (matches_walked convert_app zeroth _ refl (convert_end s n) (convert_walks s n pn)) (convert_told s n)

-- ---- the words of `measure` and of `prove`

module _ (name : List ℕ) (a b : List ℕ) where
  abbrev log_rows : List Row
  log_rows = row (codes "mesh") a ∷ []

  abbrev log_end : Scale → Option (List ℕ) → Walk
  log_end = behind_digit 3 log_rows (codes "log") b

  log_to_end : (s : Scale) (n : Option (List ℕ)) → IfSome n IsPlainWord → Walks (log_app name) (behind_files 3 log_rows (codes "log") b) (behind s n) (log_end s n)
  unfolding clap_on_literals
  log_to_end Standard None pn = record { ends = refl; passes = refl }
  log_to_end Standard (Some n) pn = record { ends = rw (pn.long, pn.short, pn.dashes) refl; passes = rw (pn.long, pn.short, pn.dashes) refl }
  log_to_end Large None pn = record { ends = refl; passes = refl }
  log_to_end Large (Some n) pn = record { ends = rw (pn.long, pn.short, pn.dashes) refl; passes = rw (pn.long, pn.short, pn.dashes) refl }

  log_ends_well : (s : Scale) (n : Option (List ℕ)) → ends_well (log_app name) (log_end s n) true ≡ true
  unfolding clap_on_literals
  log_ends_well Standard None = refl
  log_ends_well Standard (Some n) = refl
  log_ends_well Large None = refl
  log_ends_well Large (Some n) = refl

  log_told : (s : Scale) (n : Option (List ℕ)) → FindsLog (finished (top (log_app name)).rules (log_end s n).held) a b s n
  log_told Standard None = record { mesh = refl; log = refl; large = refl; decimals = refl }
  log_told Standard (Some n) = record { mesh = refl; log = refl; large = refl; decimals = refl }
  log_told Large None = record { mesh = refl; log = refl; large = refl; decimals = refl }
  log_told Large (Some n) = record { mesh = refl; log = refl; large = refl; decimals = refl }

  module _ (pa : IsPlainWord a) (pb : IsPlainWord b) where
    log_to_files : Walks (log_app name) (start (log_app name)) (a ∷ b ∷ []) (behind_files 3 log_rows (codes "log") b)
    unfolding clap_on_literals
    log_to_files = record { ends = rw (pa.long, pa.short, pa.dashes) (rw (pb.long, pb.short, pb.dashes) refl); passes = rw (pa.long, pa.short, pa.dashes) (rw (pb.long, pb.short, pb.dashes) refl) }

    log_walks : (s : Scale) (n : Option (List ℕ)) → IfSome n IsPlainWord → Walks (log_app name) (start (log_app name)) (a ∷ b ∷ behind s n) (log_end s n)
    log_walks s n pn = walks_on (log_app name) _ _ _ (a ∷ b ∷ []) (behind s n) log_to_files (log_to_end s n pn)

    pub log_taken : (zeroth : List ℕ) (s : Scale) (n : Option (List ℕ)) → IfSome n IsPlainWord → takes (log_app name) (zeroth ∷ a ∷ b ∷ behind s n) ≡ true
    log_taken zeroth s n pn = takes_walked (log_app name) zeroth _ refl (log_end s n) (log_walks s n pn) (log_ends_well s n)

    pub log_found : (zeroth : List ℕ) (s : Scale) (n : Option (List ℕ)) → IfSome n IsPlainWord → FindsLog (matches_of (log_app name) (zeroth ∷ a ∷ b ∷ behind s n)) a b s n
    log_found zeroth s n pn = subst (λ (rows : List Row). FindsLog rows a b s n) (matches_walked (log_app name) zeroth _ refl (log_end s n) (log_walks s n pn)) (log_told s n)

-- ---- the words of `verify`

module _ (a b c : List ℕ) where
  abbrev verify_rows : List Row
  verify_rows = row (codes "mesh") a ∷ row (codes "log") b ∷ []

  abbrev verify_end : Scale → Option (List ℕ) → Walk
  verify_end = behind_digit 4 verify_rows (codes "proof") c

  verify_to_end : (s : Scale) (n : Option (List ℕ)) → IfSome n IsPlainWord → Walks verify_app (behind_files 4 verify_rows (codes "proof") c) (behind s n) (verify_end s n)
  unfolding clap_on_literals
  verify_to_end Standard None pn = record { ends = refl; passes = refl }
  verify_to_end Standard (Some n) pn = record { ends = rw (pn.long, pn.short, pn.dashes) refl; passes = rw (pn.long, pn.short, pn.dashes) refl }
  verify_to_end Large None pn = record { ends = refl; passes = refl }
  verify_to_end Large (Some n) pn = record { ends = rw (pn.long, pn.short, pn.dashes) refl; passes = rw (pn.long, pn.short, pn.dashes) refl }

  verify_ends_well : (s : Scale) (n : Option (List ℕ)) → ends_well verify_app (verify_end s n) true ≡ true
  unfolding clap_on_literals
  verify_ends_well Standard None = refl
  verify_ends_well Standard (Some n) = refl
  verify_ends_well Large None = refl
  verify_ends_well Large (Some n) = refl

  verify_told : (s : Scale) (n : Option (List ℕ)) → FindsVerify (finished (top verify_app).rules (verify_end s n).held) a b c s n
  verify_told Standard None = record { mesh = refl; log = refl; proof = refl; large = refl; decimals = refl }
  verify_told Standard (Some n) = record { mesh = refl; log = refl; proof = refl; large = refl; decimals = refl }
  verify_told Large None = record { mesh = refl; log = refl; proof = refl; large = refl; decimals = refl }
  verify_told Large (Some n) = record { mesh = refl; log = refl; proof = refl; large = refl; decimals = refl }

  module _ (pa : IsPlainWord a) (pb : IsPlainWord b) (pc : IsPlainWord c) where
    verify_to_files : Walks verify_app (start verify_app) (a ∷ b ∷ c ∷ []) (behind_files 4 verify_rows (codes "proof") c)
    unfolding clap_on_literals
    verify_to_files = record { ends = rw (pa.long, pa.short, pa.dashes) (rw (pb.long, pb.short, pb.dashes) (rw (pc.long, pc.short, pc.dashes) refl)); passes = rw (pa.long, pa.short, pa.dashes) (rw (pb.long, pb.short, pb.dashes) (rw (pc.long, pc.short, pc.dashes) refl)) }

    verify_walks : (s : Scale) (n : Option (List ℕ)) → IfSome n IsPlainWord → Walks verify_app (start verify_app) (a ∷ b ∷ c ∷ behind s n) (verify_end s n)
    verify_walks s n pn = walks_on verify_app _ _ _ (a ∷ b ∷ c ∷ []) (behind s n) verify_to_files (verify_to_end s n pn)

    pub verify_taken : (zeroth : List ℕ) (s : Scale) (n : Option (List ℕ)) → IfSome n IsPlainWord → takes verify_app (zeroth ∷ a ∷ b ∷ c ∷ behind s n) ≡ true
    verify_taken zeroth s n pn = takes_walked verify_app zeroth _ refl (verify_end s n) (verify_walks s n pn) (verify_ends_well s n)

    pub verify_found : (zeroth : List ℕ) (s : Scale) (n : Option (List ℕ)) → IfSome n IsPlainWord → FindsVerify (matches_of verify_app (zeroth ∷ a ∷ b ∷ c ∷ behind s n)) a b c s n
    verify_found zeroth s n pn = subst (λ (rows : List Row). FindsVerify rows a b c s n) (matches_walked verify_app zeroth _ refl (verify_end s n) (verify_walks s n pn)) (verify_told s n)

-- ---- the words of `replay`

module _ (a b c : List ℕ) where
  abbrev replay_rows : List Row
  replay_rows = row (codes "mesh") a ∷ row (codes "log") b ∷ []

  abbrev replay_end : Scale → Option (List ℕ) → Walk
  replay_end = behind_digit 4 replay_rows (codes "prefix") c

  replay_to_end : (s : Scale) (n : Option (List ℕ)) → IfSome n IsPlainWord → Walks replay_app (behind_files 4 replay_rows (codes "prefix") c) (behind s n) (replay_end s n)
  unfolding clap_on_literals
  replay_to_end Standard None pn = record { ends = refl; passes = refl }
  replay_to_end Standard (Some n) pn = record { ends = rw (pn.long, pn.short, pn.dashes) refl; passes = rw (pn.long, pn.short, pn.dashes) refl }
  replay_to_end Large None pn = record { ends = refl; passes = refl }
  replay_to_end Large (Some n) pn = record { ends = rw (pn.long, pn.short, pn.dashes) refl; passes = rw (pn.long, pn.short, pn.dashes) refl }

  replay_ends_well : (s : Scale) (n : Option (List ℕ)) → ends_well replay_app (replay_end s n) true ≡ true
  unfolding clap_on_literals
  replay_ends_well Standard None = refl
  replay_ends_well Standard (Some n) = refl
  replay_ends_well Large None = refl
  replay_ends_well Large (Some n) = refl

  replay_told : (s : Scale) (n : Option (List ℕ)) → FindsReplay (finished (top replay_app).rules (replay_end s n).held) a b c s n None
  replay_told Standard None = record { mesh = refl; log = refl; prefix = refl; large = refl; decimals = refl; only = refl }
  replay_told Standard (Some n) = record { mesh = refl; log = refl; prefix = refl; large = refl; decimals = refl; only = refl }
  replay_told Large None = record { mesh = refl; log = refl; prefix = refl; large = refl; decimals = refl; only = refl }
  replay_told Large (Some n) = record { mesh = refl; log = refl; prefix = refl; large = refl; decimals = refl; only = refl }

  abbrev only_end : Scale → Option (List ℕ) → List ℕ → Walk
  only_end = behind_number 4 replay_rows (codes "prefix") c

  only_to_end : (s : Scale) (n : Option (List ℕ)) (k : List ℕ) → IsPlainWord k → Walks replay_app (replay_end s n) (codes "--only" ∷ k ∷ []) (only_end s n k)
  unfolding clap_on_literals
  only_to_end Standard None k pk = record { ends = rw (pk.long, pk.short, pk.dashes) refl; passes = rw (pk.long, pk.short, pk.dashes) refl }
  only_to_end Standard (Some n) k pk = record { ends = rw (pk.long, pk.short, pk.dashes) refl; passes = rw (pk.long, pk.short, pk.dashes) refl }
  only_to_end Large None k pk = record { ends = rw (pk.long, pk.short, pk.dashes) refl; passes = rw (pk.long, pk.short, pk.dashes) refl }
  only_to_end Large (Some n) k pk = record { ends = rw (pk.long, pk.short, pk.dashes) refl; passes = rw (pk.long, pk.short, pk.dashes) refl }

  only_ends_well : (s : Scale) (n : Option (List ℕ)) (k : List ℕ) → ends_well replay_app (only_end s n k) true ≡ true
  unfolding clap_on_literals
  only_ends_well Standard None k = refl
  only_ends_well Standard (Some n) k = refl
  only_ends_well Large None k = refl
  only_ends_well Large (Some n) k = refl

  only_told : (s : Scale) (n : Option (List ℕ)) (k : List ℕ) → FindsReplay (finished (top replay_app).rules (only_end s n k).held) a b c s n (Some k)
  only_told Standard None k = record { mesh = refl; log = refl; prefix = refl; large = refl; decimals = refl; only = refl }
  only_told Standard (Some n) k = record { mesh = refl; log = refl; prefix = refl; large = refl; decimals = refl; only = refl }
  only_told Large None k = record { mesh = refl; log = refl; prefix = refl; large = refl; decimals = refl; only = refl }
  only_told Large (Some n) k = record { mesh = refl; log = refl; prefix = refl; large = refl; decimals = refl; only = refl }

  module _ (pa : IsPlainWord a) (pb : IsPlainWord b) (pc : IsPlainWord c) where
    replay_to_files : Walks replay_app (start replay_app) (a ∷ b ∷ c ∷ []) (behind_files 4 replay_rows (codes "prefix") c)
    unfolding clap_on_literals
    replay_to_files = record { ends = rw (pa.long, pa.short, pa.dashes) (rw (pb.long, pb.short, pb.dashes) (rw (pc.long, pc.short, pc.dashes) refl)); passes = rw (pa.long, pa.short, pa.dashes) (rw (pb.long, pb.short, pb.dashes) (rw (pc.long, pc.short, pc.dashes) refl)) }

    replay_walks : (s : Scale) (n : Option (List ℕ)) → IfSome n IsPlainWord → Walks replay_app (start replay_app) (a ∷ b ∷ c ∷ behind s n) (replay_end s n)
    replay_walks s n pn = walks_on replay_app _ _ _ (a ∷ b ∷ c ∷ []) (behind s n) replay_to_files (replay_to_end s n pn)

    pub replay_taken : (zeroth : List ℕ) (s : Scale) (n : Option (List ℕ)) → IfSome n IsPlainWord → takes replay_app (zeroth ∷ a ∷ b ∷ c ∷ behind s n) ≡ true
    replay_taken zeroth s n pn = takes_walked replay_app zeroth _ refl (replay_end s n) (replay_walks s n pn) (replay_ends_well s n)

    pub replay_found : (zeroth : List ℕ) (s : Scale) (n : Option (List ℕ)) → IfSome n IsPlainWord → FindsReplay (matches_of replay_app (zeroth ∷ a ∷ b ∷ c ∷ behind s n)) a b c s n None
    replay_found zeroth s n pn = subst (λ (rows : List Row). FindsReplay rows a b c s n None) (matches_walked replay_app zeroth _ refl (replay_end s n) (replay_walks s n pn)) (replay_told s n)

    only_walks : (s : Scale) (n : Option (List ℕ)) (k : List ℕ) → IfSome n IsPlainWord → IsPlainWord k → Walks replay_app (start replay_app) (a ∷ b ∷ c ∷ behind s n ++ codes "--only" ∷ k ∷ []) (only_end s n k)
    only_walks s n k pn pk = walks_on replay_app _ _ _ (a ∷ b ∷ c ∷ behind s n) (codes "--only" ∷ k ∷ []) (replay_walks s n pn) (only_to_end s n k pk)

    pub only_taken : (zeroth : List ℕ) (s : Scale) (n : Option (List ℕ)) (k : List ℕ) → IfSome n IsPlainWord → IsPlainWord k → takes replay_app (zeroth ∷ a ∷ b ∷ c ∷ behind s n ++ codes "--only" ∷ k ∷ []) ≡ true
    only_taken zeroth s n k pn pk = takes_walked replay_app zeroth _ refl (only_end s n k) (only_walks s n k pn pk) (only_ends_well s n k)

    pub only_found : (zeroth : List ℕ) (s : Scale) (n : Option (List ℕ)) (k : List ℕ) → IfSome n IsPlainWord → IsPlainWord k → FindsReplay (matches_of replay_app (zeroth ∷ a ∷ b ∷ c ∷ behind s n ++ codes "--only" ∷ k ∷ [])) a b c s n (Some k)
    only_found zeroth s n k pn pk = subst (λ (rows : List Row). FindsReplay rows a b c s n (Some k)) (matches_walked replay_app zeroth _ refl (only_end s n k) (only_walks s n k pn pk)) (only_told s n k)

-- ---- the words of `check`

module _ (a : List ℕ) where
  abbrev check_rows : List Row
  check_rows = []

  abbrev check_end : Scale → Option (List ℕ) → Walk
  check_end = behind_digit 2 check_rows (codes "mesh") a

  check_to_end : (s : Scale) (n : Option (List ℕ)) → IfSome n IsPlainWord → Walks check_app (behind_files 2 check_rows (codes "mesh") a) (behind s n) (check_end s n)
  unfolding clap_on_literals
  check_to_end Standard None pn = record { ends = refl; passes = refl }
  check_to_end Standard (Some n) pn = record { ends = rw (pn.long, pn.short, pn.dashes) refl; passes = rw (pn.long, pn.short, pn.dashes) refl }
  check_to_end Large None pn = record { ends = refl; passes = refl }
  check_to_end Large (Some n) pn = record { ends = rw (pn.long, pn.short, pn.dashes) refl; passes = rw (pn.long, pn.short, pn.dashes) refl }

  check_ends_well : (s : Scale) (n : Option (List ℕ)) → ends_well check_app (check_end s n) true ≡ true
  unfolding clap_on_literals
  check_ends_well Standard None = refl
  check_ends_well Standard (Some n) = refl
  check_ends_well Large None = refl
  check_ends_well Large (Some n) = refl

  check_told : (s : Scale) (n : Option (List ℕ)) → FindsCheck (finished (top check_app).rules (check_end s n).held) a s n
  check_told Standard None = record { mesh = refl; large = refl; decimals = refl }
  check_told Standard (Some n) = record { mesh = refl; large = refl; decimals = refl }
  check_told Large None = record { mesh = refl; large = refl; decimals = refl }
  check_told Large (Some n) = record { mesh = refl; large = refl; decimals = refl }

  module _ (pa : IsPlainWord a) where
    check_to_files : Walks check_app (start check_app) (a ∷ []) (behind_files 2 check_rows (codes "mesh") a)
    unfolding clap_on_literals
    check_to_files = record { ends = rw (pa.long, pa.short, pa.dashes) refl; passes = rw (pa.long, pa.short, pa.dashes) refl }

    check_walks : (s : Scale) (n : Option (List ℕ)) → IfSome n IsPlainWord → Walks check_app (start check_app) (a ∷ behind s n) (check_end s n)
    check_walks s n pn = walks_on check_app _ _ _ (a ∷ []) (behind s n) check_to_files (check_to_end s n pn)

    pub check_taken : (zeroth : List ℕ) (s : Scale) (n : Option (List ℕ)) → IfSome n IsPlainWord → takes check_app (zeroth ∷ a ∷ behind s n) ≡ true
    check_taken zeroth s n pn = takes_walked check_app zeroth _ refl (check_end s n) (check_walks s n pn) (check_ends_well s n)

    pub check_found : (zeroth : List ℕ) (s : Scale) (n : Option (List ℕ)) → IfSome n IsPlainWord → FindsCheck (matches_of check_app (zeroth ∷ a ∷ behind s n)) a s n
    check_found zeroth s n pn = subst (λ (rows : List Row). FindsCheck rows a s n) (matches_walked check_app zeroth _ refl (check_end s n) (check_walks s n pn)) (check_told s n)
