-- From what a command finds to how the words are read.
use Rattle.std.proofs.Common.{String, Global, string_bytes, map, inl, inr, ◌≡◌, ◌∙◌, ◌&&◌, ◌||◌, cond, ℕ, Bool, true, false, refl, sym, ap, subst, List, [], ◌∷◌, ◌++◌, ◌-◌, ◌^◌, Option, Some, None, Result, Ok, Err, IfOk, codes}
use Rattle.std.specs.Prelude.{◌⊎◌, All, Contains, IfSome, option_map, slice_get}
use Rattle.std.specs.Option.{option_and_then}
use Rattle.std.specs.Str.{bytes_eq}
use Rattle.std.proofs.lemmas.Bool.{cases_Bool, and_parts}
use Rattle.std.proofs.lemmas.List.Elements.{All-nil, All-cons}
use Rattle.std.proofs.lemmas.List.{append-nil}
use Rattle.std.proofs.lemmas.Slice.Eq.{bytes_eq-Decides}
use Rattle.clap.specs.Words.{App, HasMatchesOf, Row, first_of, first_value, found_of, is_simple, matches_of, rows_of, takes}
use Rattle.clap.specs.declared.parser.matches.ArgMatches.{ArgMatches}
use Rattle.clap.proofs.WalkLemmas.{first_value-rows}
use Rattle.clap.specs.Simple.{built}
use Rattle.clap.specs.Walk.{Rule, takes_values}
use Rattle.line_text.specs.Spellings.{spelled_number}
use Rattle.track_input.specs.declared.command.TheConstants.{CUBES_MAX}
use Rattle.mesh_base.specs.declared.Scale.{Scale}
use Rattle.mesh_base.specs.declared.Scale.TheVariants.{Standard, Large}
use Rattle.track_input.specs.Words.{MeshName, LogNames, Named, Track, Convert, Try, Measure, Prove, Verify, Replay, Check, named_in, track_in, convert_in, try_in, log_in, verify_in, replay_in, check_in, only_in, told_in, options_in, numbers_in, scale_in, after_scale, between, number_in, decimals_in, mesh_name_of, is_file_word, is_decimals}
use Rattle.track_input.specs.Named.{named_by}
use Rattle.track_input.specs.declared.command.Command.{Command}
use Rattle.track_input.specs.Taken.{scale_words, digit_words, behind, options_behind, AreTakenAs, IsReading}
use Rattle.track_input.specs.Commands.{scale_of, Values, IsFound, IsReadBy, values_in, track_app, track_of, track_read, convert_app, convert_of, convert_read, try_app, try_of, try_read, log_app, log_of, log_read, measure_app, measure_read, prove_app, prove_read, verify_app, verify_of, verify_read, replay_app, replay_of, replay_read, check_app, check_of, check_read, app_by_name, read_by_name, IsReadExactly}
use Rattle.track_input.proofs.Walks.{IsPlainWord, plain_word, plain_digit, plain_number, try_taken, try_found, log_taken, log_found, track_taken, track_found, convert_taken, convert_found, verify_taken, verify_found, replay_taken, replay_found, only_taken, only_found, check_taken, check_found}
use Rattle.track_input.proofs.Among.{AreSafe, FoundLong, IsOption, IsSetRule, IsFlagRule, is_option, named_value, no_option, not_large, RowsFrom, rows_from, first_from, contains_here, contains_later}

-- ---- the reading

-- what a command finds of listed words
pub record Finds (read : Values → Option Named) (app : App) (words : List (List ℕ)) (x : Named) : Type 0 where
  pub taken : takes app words ≡ true
  pub found : read (values_in app words) ≡ Some x

-- listed words are found, and what is found is taken from them
pub record Serves (read : Values → Option Named) (app : App) (words : List (List ℕ)) : Type 0 where
  pub listed : (x : Named) → named_in words ≡ Some x → Finds read app words x
  pub among : (x : Named) → read (values_in app words) ≡ Some x → AreTakenAs words x

reading : (read : Values → Option Named) (app : App) (words : List (List ℕ)) → Serves read app words → (found : Option Named) → IsReadBy read app words found → IsReading words found
reading read app words serves found by = at (named_in words) refl found by
  where
    at : (o : Option Named) → named_in words ≡ o → (found : Option Named) → IsReadBy read app words found → IsReading words found
    at None is None by = is
    at None is (Some x) (inl e) = inr (is, serves.among x e)
    at None is (Some x) (inr p) = absurd (let e = p.1 in cc)
    at (Some y) is found (inl e) =
        let same : Some y ≡ found = sym (serves.listed y is).found ∙ e in
        subst (λ (f : Option Named). IsReading words f) same (inl is)
    at (Some y) is found (inr p) = absurd (p.0 (serves.listed y is).taken)

-- ---- a call of the command

module _ (read : Values → Option Named) (app same : App) (words : List (List ℕ)) (is : app ≡ same) where
  pub finds : (o : Option ArgMatches) → IsFound app words o → (m : ArgMatches) → o ≡ Some m → is_simple same ≡ true → read (first_value (found_of m)) ≡ read (λ id. first_of id (rows_of (found_of m)))
      → (named : Option Named) → named ≡ read (first_value (found_of m)) → IsReadBy read same words named
  finds o found m some simple by_rows named e =
      let has : HasMatchesOf app words m = subst (λ (f : Option ArgMatches). IsFound app words f) some found in
      let there : HasMatchesOf same words m = subst (λ (a : App). HasMatchesOf a words m) is has in
      let rows : rows_of (found_of m) ≡ matches_of same words = (there simple).0 in
      inl (ap (λ (r : List Row). read (λ id. first_of id r)) (sym rows) ∙ sym by_rows ∙ sym e)

  pub finds_none : (o : Option ArgMatches) → IsFound app words o → o ≡ None → IsReadBy read same words None
  finds_none o found none =
      let not_taken : IsFound app words None = subst (λ (f : Option ArgMatches). IsFound app words f) none found in
      inr ((λ taken. not_taken (subst (λ (a : App). takes a words ≡ true) (sym is) taken)), refl)

pub track_by_rows : (m : ArgMatches) → track_read (first_value (found_of m)) ≡ track_read (λ id. first_of id (rows_of (found_of m)))
track_by_rows m = rw (first_value-rows (found_of m) (codes "mesh"), first_value-rows (found_of m) (codes "steps"), first_value-rows (found_of m) (codes "prefix"), first_value-rows (found_of m) (codes "large"), first_value-rows (found_of m) (codes "decimals")) refl

pub try_by_rows : (m : ArgMatches) → try_read (first_value (found_of m)) ≡ try_read (λ id. first_of id (rows_of (found_of m)))
try_by_rows m = rw (first_value-rows (found_of m) (codes "cubes"), first_value-rows (found_of m) (codes "key")) refl

pub convert_by_rows : (m : ArgMatches) → convert_read (first_value (found_of m)) ≡ convert_read (λ id. first_of id (rows_of (found_of m)))
convert_by_rows m = rw (first_value-rows (found_of m) (codes "from"), first_value-rows (found_of m) (codes "to"), first_value-rows (found_of m) (codes "large"), first_value-rows (found_of m) (codes "decimals")) refl

pub measure_by_rows : (m : ArgMatches) → measure_read (first_value (found_of m)) ≡ measure_read (λ id. first_of id (rows_of (found_of m)))
measure_by_rows m = rw (first_value-rows (found_of m) (codes "mesh"), first_value-rows (found_of m) (codes "log"), first_value-rows (found_of m) (codes "large"), first_value-rows (found_of m) (codes "decimals")) refl

pub prove_by_rows : (m : ArgMatches) → prove_read (first_value (found_of m)) ≡ prove_read (λ id. first_of id (rows_of (found_of m)))
prove_by_rows m = rw (first_value-rows (found_of m) (codes "mesh"), first_value-rows (found_of m) (codes "log"), first_value-rows (found_of m) (codes "large"), first_value-rows (found_of m) (codes "decimals")) refl

pub verify_by_rows : (m : ArgMatches) → verify_read (first_value (found_of m)) ≡ verify_read (λ id. first_of id (rows_of (found_of m)))
verify_by_rows m = rw (first_value-rows (found_of m) (codes "mesh"), first_value-rows (found_of m) (codes "log"), first_value-rows (found_of m) (codes "proof"), first_value-rows (found_of m) (codes "large"), first_value-rows (found_of m) (codes "decimals")) refl

pub replay_by_rows : (m : ArgMatches) → replay_read (first_value (found_of m)) ≡ replay_read (λ id. first_of id (rows_of (found_of m)))
replay_by_rows m = rw (first_value-rows (found_of m) (codes "mesh"), first_value-rows (found_of m) (codes "log"), first_value-rows (found_of m) (codes "prefix"), first_value-rows (found_of m) (codes "large"), first_value-rows (found_of m) (codes "decimals"), first_value-rows (found_of m) (codes "only")) refl

pub check_by_rows : (m : ArgMatches) → check_read (first_value (found_of m)) ≡ check_read (λ id. first_of id (rows_of (found_of m)))
check_by_rows m = rw (first_value-rows (found_of m) (codes "mesh"), first_value-rows (found_of m) (codes "large"), first_value-rows (found_of m) (codes "decimals")) refl

-- ---- the words behind the files

-- `--large`, or none, and then others
scale_split : (words : List (List ℕ)) → scale_words (scale_in words) ++ after_scale words ≡ words
scale_split [] = refl
scale_split (w ∷ ws) = elim (cases_Bool (bytes_eq w (codes "--large"))) [
  | inl is ↦ let same : w ≡ codes "--large" = (bytes_eq-Decides w (codes "--large")).0 is in rw is (ap (λ (t : List ℕ). t ∷ ws) (sym same))
  | inr other ↦ rw other refl
]

-- `--decimals N`, or no words
pub record IsDigit (words : List (List ℕ)) : Type 0 where
  pub digit : Option (List ℕ)
  pub is : digit_words digit ≡ words
  pub plain : IfSome digit IsPlainWord

digit_of : (words : List (List ℕ)) (n : ℕ) → decimals_in words ≡ Some n → IsDigit words
digit_of [] n e = record { digit = None; is = refl; plain = tt }
digit_of (o ∷ []) n e = absurd (cc)
digit_of (o ∷ d ∷ []) n e = elim (cases_Bool (bytes_eq o (codes "--decimals") && is_decimals d)) [
  | inr fails ↦ absurd (let g = rw fails at e in cc)
  | inl all ↦
      let p = and_parts _ _ all in
      let option : o ≡ codes "--decimals" = (bytes_eq-Decides o (codes "--decimals")).0 p.0 in
      record { digit = Some d; is = ap (λ (w : List ℕ). w ∷ d ∷ []) (sym option); plain = plain_digit d p.1 }
]
digit_of (o ∷ d ∷ y ∷ ys) n e = absurd (cc)

-- what the words behind the files are
pub record IsTold (words : List (List ℕ)) : Type 0 where
  pub digit : Option (List ℕ)
  pub is : behind (scale_in words) digit ≡ words
  pub plain : IfSome digit IsPlainWord

told_of : (words : List (List ℕ)) (told : Scale × ℕ) → told_in words ≡ Some told → IsTold words
told_of words told e = at (decimals_in (after_scale words)) refl e
  where
    at : (n : Option ℕ) → decimals_in (after_scale words) ≡ n → option_map (λ n. (scale_in words, n)) n ≡ Some told → IsTold words
    at None is g = absurd (cc)
    at (Some n) is g =
        let d = digit_of (after_scale words) n is in
        record {
          digit = d.digit;
          is = ap (λ (ws : List (List ℕ)). scale_words (scale_in words) ++ ws) d.is ∙ scale_split words;
          plain = d.plain;
        }

-- what `--large` and `--decimals N` tell
pub told_behind : (scale : Scale) (digit : Option (List ℕ)) → told_in (behind scale digit) ≡ option_map (λ n. (scale, n)) (decimals_in (digit_words digit))
told_behind Standard None = refl
told_behind Standard (Some n) = refl
told_behind Large None = refl
told_behind Large (Some n) = refl

-- ---- words that are listed

track_listed : (zeroth : List ℕ) (rest : List (List ℕ)) (x : Named) → track_in rest ≡ Some x → Finds track_read track_app (zeroth ∷ rest) x
track_listed zeroth [] x e = absurd (cc)
track_listed zeroth (a ∷ []) x e = absurd (cc)
track_listed zeroth (a ∷ b ∷ []) x e = absurd (cc)
track_listed zeroth (a ∷ b ∷ c ∷ rest) x e = elim (cases_Bool (is_file_word a && (is_file_word b && is_file_word c))) [
  | inr fails ↦ absurd (let g = rw fails at e in cc)
  | inl all ↦
      let p = and_parts _ _ all in
      let q = and_parts _ _ p.1 in
      at (plain_word a p.0) (plain_word b q.0) (plain_word c q.1) (told_in rest) refl (rw all at e)
]
  where
    here : IsPlainWord a → IsPlainWord b → IsPlainWord c → (s : Scale) (n : Option (List ℕ)) → IfSome n IsPlainWord → track_in (a ∷ b ∷ c ∷ behind s n) ≡ Some x → Finds track_read track_app (zeroth ∷ a ∷ b ∷ c ∷ behind s n) x
    here pa pb pc s n pn e =
        let f = track_found a b c pa pb pc zeroth s n pn in
        record { taken = track_taken a b c pa pb pc zeroth s n pn; found = rw (f.mesh, f.steps, f.prefix, f.large, f.decimals) e }

    at : IsPlainWord a → IsPlainWord b → IsPlainWord c → (told : Option (Scale × ℕ)) → told_in rest ≡ told → option_map (λ told. Track a b c told.0 told.1) told ≡ Some x → Finds track_read track_app (zeroth ∷ a ∷ b ∷ c ∷ rest) x
    at pa pb pc None is g = absurd (cc)
    at pa pb pc (Some told) is g =
        let t = told_of rest told is in
        subst (λ (ws : List (List ℕ)). Finds track_read track_app (zeroth ∷ a ∷ b ∷ c ∷ ws) x) t.is
        (here pa pb pc (scale_in rest) t.digit t.plain (subst (λ (ws : List (List ℕ)). track_in (a ∷ b ∷ c ∷ ws) ≡ Some x) (sym t.is) e))

-- a mesh file is named by a file word
mesh_word : (word : List ℕ) (m : MeshName) → mesh_name_of word ≡ Some m → is_file_word word ≡ true
mesh_word word m e = elim (cases_Bool (is_file_word word)) [
  | inl is ↦ is
  | inr fails ↦ absurd (let g = rw fails at e in cc)
]

convert_listed : (zeroth : List ℕ) (rest : List (List ℕ)) (x : Named) → convert_in rest ≡ Some x → Finds convert_read convert_app (zeroth ∷ rest) x
convert_listed zeroth [] x e = absurd (cc)
convert_listed zeroth (a ∷ []) x e = absurd (cc)
convert_listed zeroth (a ∷ b ∷ rest) x e = at_names (mesh_name_of a) (mesh_name_of b) refl refl e
  where
    here : IsPlainWord a → IsPlainWord b → (s : Scale) (n : Option (List ℕ)) → IfSome n IsPlainWord → convert_in (a ∷ b ∷ behind s n) ≡ Some x → Finds convert_read convert_app (zeroth ∷ a ∷ b ∷ behind s n) x
    here pa pb s n pn e =
        let f = convert_found a b pa pb zeroth s n pn in
        record { taken = convert_taken a b pa pb zeroth s n pn; found = rw (f.from, f.to, f.large, f.decimals) e }

    at : (from to : MeshName) → IsPlainWord a → IsPlainWord b → (told : Option (Scale × ℕ)) → told_in rest ≡ told → option_map (λ told. Convert from to told.0 told.1) told ≡ Some x → Finds convert_read convert_app (zeroth ∷ a ∷ b ∷ rest) x
    at from to pa pb None is g = absurd (cc)
    at from to pa pb (Some told) is g =
        let t = told_of rest told is in
        subst (λ (ws : List (List ℕ)). Finds convert_read convert_app (zeroth ∷ a ∷ b ∷ ws) x) t.is
        (here pa pb (scale_in rest) t.digit t.plain (subst (λ (ws : List (List ℕ)). convert_in (a ∷ b ∷ ws) ≡ Some x) (sym t.is) e))

    at_names : (m n : Option MeshName) → mesh_name_of a ≡ m → mesh_name_of b ≡ n
        → option_and_then (λ from. option_and_then (λ to. option_map (λ told. Convert from to told.0 told.1) (told_in rest)) n) m ≡ Some x → Finds convert_read convert_app (zeroth ∷ a ∷ b ∷ rest) x
    at_names None n is_m is_n g = absurd (cc)
    at_names (Some from) None is_m is_n g = absurd (cc)
    at_names (Some from) (Some to) is_m is_n g = at from to (plain_word a (mesh_word a from is_m)) (plain_word b (mesh_word b to is_n)) (told_in rest) refl g

-- a mesh and a log are found in words that list them after the name of a command
record FindsNames (name : List ℕ) (words : List (List ℕ)) (x : LogNames) : Type 0 where
  taken : takes (log_app name) words ≡ true
  found : log_read (values_in (log_app name) words) ≡ Some x

log_listed : (name zeroth : List ℕ) (rest : List (List ℕ)) (x : LogNames) → log_in rest ≡ Some x → FindsNames name (zeroth ∷ rest) x
log_listed name zeroth [] x e = absurd (cc)
log_listed name zeroth (a ∷ []) x e = absurd (cc)
log_listed name zeroth (a ∷ b ∷ rest) x e = elim (cases_Bool (is_file_word a && is_file_word b)) [
  | inr fails ↦ absurd (let g = rw fails at e in cc)
  | inl all ↦ let p = and_parts _ _ all in at (plain_word a p.0) (plain_word b p.1) (told_in rest) refl (rw all at e)
]
  where
    here : IsPlainWord a → IsPlainWord b → (s : Scale) (n : Option (List ℕ)) → IfSome n IsPlainWord → log_in (a ∷ b ∷ behind s n) ≡ Some x → FindsNames name (zeroth ∷ a ∷ b ∷ behind s n) x
    here pa pb s n pn e =
        let f = log_found name a b pa pb zeroth s n pn in
        record { taken = log_taken name a b pa pb zeroth s n pn; found = rw (f.mesh, f.log, f.large, f.decimals) e }

    at : IsPlainWord a → IsPlainWord b → (told : Option (Scale × ℕ)) → told_in rest ≡ told → option_map (λ told. record { mesh = a; log = b; scale = told.0; decimals = told.1 }) told ≡ Some x → FindsNames name (zeroth ∷ a ∷ b ∷ rest) x
    at pa pb None is g = absurd (cc)
    at pa pb (Some told) is g =
        let t = told_of rest told is in
        subst (λ (ws : List (List ℕ)). FindsNames name (zeroth ∷ a ∷ b ∷ ws) x) t.is
        (here pa pb (scale_in rest) t.digit t.plain (subst (λ (ws : List (List ℕ)). log_in (a ∷ b ∷ ws) ≡ Some x) (sym t.is) e))

-- what a command reads of a mesh and a log
abbrev pub names_read : (LogNames → Named) → Values → Option Named
names_read make value = option_map make (log_read value)

names_listed : (name : List ℕ) (make : LogNames → Named) (zeroth : List ℕ) (rest : List (List ℕ)) (x : Named) → option_map make (log_in rest) ≡ Some x → Finds (names_read make) (log_app name) (zeroth ∷ rest) x
names_listed name make zeroth rest x e = at (log_in rest) refl e
  where
    at : (o : Option LogNames) → log_in rest ≡ o → option_map make o ≡ Some x → Finds (names_read make) (log_app name) (zeroth ∷ rest) x
    at None is g = absurd (cc)
    at (Some names) is g = let f = log_listed name zeroth rest names is in
        record { taken = f.taken; found = ap (option_map make) f.found ∙ g }

verify_listed : (zeroth : List ℕ) (rest : List (List ℕ)) (x : Named) → verify_in rest ≡ Some x → Finds verify_read verify_app (zeroth ∷ rest) x
verify_listed zeroth [] x e = absurd (cc)
verify_listed zeroth (a ∷ []) x e = absurd (cc)
verify_listed zeroth (a ∷ b ∷ []) x e = absurd (cc)
verify_listed zeroth (a ∷ b ∷ c ∷ rest) x e = elim (cases_Bool (is_file_word a && (is_file_word b && is_file_word c))) [
  | inr fails ↦ absurd (let g = rw fails at e in cc)
  | inl all ↦
      let p = and_parts _ _ all in
      let q = and_parts _ _ p.1 in
      at (plain_word a p.0) (plain_word b q.0) (plain_word c q.1) (told_in rest) refl (rw all at e)
]
  where
    here : IsPlainWord a → IsPlainWord b → IsPlainWord c → (s : Scale) (n : Option (List ℕ)) → IfSome n IsPlainWord → verify_in (a ∷ b ∷ c ∷ behind s n) ≡ Some x → Finds verify_read verify_app (zeroth ∷ a ∷ b ∷ c ∷ behind s n) x
    here pa pb pc s n pn e =
        let f = verify_found a b c pa pb pc zeroth s n pn in
        record { taken = verify_taken a b c pa pb pc zeroth s n pn; found = rw (f.mesh, f.log, f.proof, f.large, f.decimals) e }

    at : IsPlainWord a → IsPlainWord b → IsPlainWord c → (told : Option (Scale × ℕ)) → told_in rest ≡ told → option_map (λ told. Verify (record { names = record { mesh = a; log = b; scale = told.0; decimals = told.1 }; proof = c })) told ≡ Some x → Finds verify_read verify_app (zeroth ∷ a ∷ b ∷ c ∷ rest) x
    at pa pb pc None is g = absurd (cc)
    at pa pb pc (Some told) is g =
        let t = told_of rest told is in
        subst (λ (ws : List (List ℕ)). Finds verify_read verify_app (zeroth ∷ a ∷ b ∷ c ∷ ws) x) t.is
        (here pa pb pc (scale_in rest) t.digit t.plain (subst (λ (ws : List (List ℕ)). verify_in (a ∷ b ∷ c ∷ ws) ≡ Some x) (sym t.is) e))

number_word : (low high : ℕ) (word : List ℕ) (n : ℕ) → number_in low high word ≡ Some n → IsPlainWord word
number_word low high word n e = at (spelled_number word) refl e
  where
    at : (o : Option ℕ) → spelled_number word ≡ o → between low high o ≡ Some n → IsPlainWord word
    at None is g = absurd (cc)
    at (Some m) is g = plain_number word m is

try_listed : (zeroth : List ℕ) (rest : List (List ℕ)) (x : Named) → try_in rest ≡ Some x → Finds try_read try_app (zeroth ∷ rest) x
try_listed zeroth [] x e = absurd (cc)
try_listed zeroth (a ∷ []) x e = absurd (cc)
try_listed zeroth (a ∷ b ∷ y ∷ ys) x e = absurd (cc)
try_listed zeroth (a ∷ b ∷ []) x e = at (number_in 1 CUBES_MAX a) (number_in 0 (2 ^ 32 - 1) b) refl refl e
  where
    at : (m n : Option ℕ) → number_in 1 CUBES_MAX a ≡ m → number_in 0 (2 ^ 32 - 1) b ≡ n → option_and_then (λ i. option_map (λ k. Try i k) n) m ≡ Some x → Finds try_read try_app (zeroth ∷ a ∷ b ∷ []) x
    at None n is_m is_n g = absurd (cc)
    at (Some i) None is_m is_n g = absurd (cc)
    at (Some i) (Some k) is_m is_n g =
        let pa = number_word 1 CUBES_MAX a i is_m in
        let pb = number_word 0 (2 ^ 32 - 1) b k is_n in
        let f = try_found zeroth a b pa pb in
        record { taken = try_taken zeroth a b pa pb; found = rw (f.cubes, f.key) e }

check_listed : (zeroth : List ℕ) (rest : List (List ℕ)) (x : Named) → check_in rest ≡ Some x → Finds check_read check_app (zeroth ∷ rest) x
check_listed zeroth [] x e = absurd (cc)
check_listed zeroth (a ∷ rest) x e = at_name (mesh_name_of a) refl e
  where
    here : IsPlainWord a → (s : Scale) (n : Option (List ℕ)) → IfSome n IsPlainWord → check_in (a ∷ behind s n) ≡ Some x → Finds check_read check_app (zeroth ∷ a ∷ behind s n) x
    here pa s n pn e =
        let f = check_found a pa zeroth s n pn in
        record { taken = check_taken a pa zeroth s n pn; found = rw (f.mesh, f.large, f.decimals) e }

    at : (mesh : MeshName) → IsPlainWord a → (told : Option (Scale × ℕ)) → told_in rest ≡ told → option_map (λ told. Check mesh told.0 told.1) told ≡ Some x → Finds check_read check_app (zeroth ∷ a ∷ rest) x
    at mesh pa None is g = absurd (cc)
    at mesh pa (Some told) is g =
        let t = told_of rest told is in
        subst (λ (ws : List (List ℕ)). Finds check_read check_app (zeroth ∷ a ∷ ws) x) t.is
        (here pa (scale_in rest) t.digit t.plain (subst (λ (ws : List (List ℕ)). check_in (a ∷ ws) ≡ Some x) (sym t.is) e))

    at_name : (m : Option MeshName) → mesh_name_of a ≡ m → option_and_then (λ mesh. option_map (λ told. Check mesh told.0 told.1) (told_in rest)) m ≡ Some x → Finds check_read check_app (zeroth ∷ a ∷ rest) x
    at_name None is g = absurd (cc)
    at_name (Some mesh) is g = at mesh (plain_word a (mesh_word a mesh is)) (told_in rest) refl g

-- ---- the words behind the files of a replay

-- `--only K`, where there is a number, and no words else
abbrev number_words : Option (List ℕ) → List (List ℕ)
number_words None = []
number_words (Some k) = codes "--only" ∷ k ∷ []

-- `--decimals N` and `--only K`, each there or not
pub record AreNumbers (words : List (List ℕ)) : Type 0 where
  pub digit : Option (List ℕ)
  pub number : Option (List ℕ)
  pub is : digit_words digit ++ number_words number ≡ words
  pub plain_digit : IfSome digit IsPlainWord
  pub plain_number : IfSome number IsPlainWord

-- a number after its option
with_number : (words : List (List ℕ)) (o w : List ℕ) (k : ℕ) → IsDigit words → bytes_eq o (codes "--only") ≡ true → number_in 0 (2 ^ 32 - 1) w ≡ Some k → AreNumbers (words ++ o ∷ w ∷ [])
with_number words o w k d only is =
    let option : o ≡ codes "--only" = (bytes_eq-Decides o (codes "--only")).0 only in
    record {
      digit = d.digit;
      number = Some w;
      is = ap (λ (ws : List (List ℕ)). ws ++ codes "--only" ∷ w ∷ []) d.is ∙ ap (λ (t : List ℕ). words ++ t ∷ w ∷ []) (sym option);
      plain_digit = d.plain;
      plain_number = number_word 0 (2 ^ 32 - 1) w k is;
    }

-- no number
without_number : (words : List (List ℕ)) → IsDigit words → AreNumbers words
without_number words d = record { digit = d.digit; number = None; is = append-nil (digit_words d.digit) ∙ d.is; plain_digit = d.plain; plain_number = tt }

numbers_of : (words : List (List ℕ)) (told : ℕ × Option ℕ) → numbers_in words ≡ Some told → AreNumbers words
numbers_of [] told e = record { digit = None; number = None; is = refl; plain_digit = tt; plain_number = tt }
numbers_of (o ∷ []) told e = absurd (cc)
numbers_of (o ∷ w ∷ []) told e = elim (cases_Bool (bytes_eq o (codes "--only"))) [
  | inl only ↦ at_number (number_in 0 (2 ^ 32 - 1) w) refl only (rw only at e)
  | inr other ↦ at_digit (decimals_in (o ∷ w ∷ [])) refl (rw other at e)
]
  where
    at_number : (k : Option ℕ) → number_in 0 (2 ^ 32 - 1) w ≡ k → bytes_eq o (codes "--only") ≡ true → option_map (λ k. (0, Some k)) k ≡ Some told → AreNumbers (o ∷ w ∷ [])
    at_number None is only g = absurd (cc)
    at_number (Some k) is only g = with_number [] o w k (record { digit = None; is = refl; plain = tt }) only is

    at_digit : (n : Option ℕ) → decimals_in (o ∷ w ∷ []) ≡ n → option_map (λ n. (n, None)) n ≡ Some told → AreNumbers (o ∷ w ∷ [])
    at_digit None is g = absurd (cc)
    at_digit (Some n) is g = without_number (o ∷ w ∷ []) (digit_of (o ∷ w ∷ []) n is)
numbers_of (o ∷ d ∷ p ∷ []) told e = absurd (cc)
numbers_of (o ∷ d ∷ p ∷ w ∷ []) told e = both (decimals_in (o ∷ d ∷ [])) (only_in p w) refl refl e
  where
    at_only : (k : ℕ) → IsDigit (o ∷ d ∷ []) → only_in p w ≡ Some k → AreNumbers (o ∷ d ∷ p ∷ w ∷ [])
    at_only k is_d is = elim (cases_Bool (bytes_eq p (codes "--only"))) [
      | inr fails ↦ absurd (let g = rw fails at is in cc)
      | inl only ↦ with_number (o ∷ d ∷ []) p w k is_d only (rw only at is)
    ]

    both : (n k : Option ℕ) → decimals_in (o ∷ d ∷ []) ≡ n → only_in p w ≡ k → option_and_then (λ n. option_map (λ k. (n, Some k)) k) n ≡ Some told → AreNumbers (o ∷ d ∷ p ∷ w ∷ [])
    both None k is_n is_k g = absurd (cc)
    both (Some n) None is_n is_k g = absurd (cc)
    both (Some n) (Some k) is_n is_k g = at_only k (digit_of (o ∷ d ∷ []) n is_n) is_k
numbers_of (o ∷ d ∷ p ∷ w ∷ y ∷ ys) told e = absurd (cc)

-- what the words behind the files are
pub record AreOptions (words : List (List ℕ)) : Type 0 where
  pub digit : Option (List ℕ)
  pub number : Option (List ℕ)
  pub is : options_behind (scale_in words) digit number ≡ words
  pub plain_digit : IfSome digit IsPlainWord
  pub plain_number : IfSome number IsPlainWord

-- `--large`, and then the others
in_order : (scale : Scale) (digit number : Option (List ℕ)) → options_behind scale digit number ≡ scale_words scale ++ (digit_words digit ++ number_words number)
in_order Standard None None = refl
in_order Standard None (Some k) = refl
in_order Standard (Some n) None = refl
in_order Standard (Some n) (Some k) = refl
in_order Large None None = refl
in_order Large None (Some k) = refl
in_order Large (Some n) None = refl
in_order Large (Some n) (Some k) = refl

options_of : (words : List (List ℕ)) (told : Scale × ℕ × Option ℕ) → options_in words ≡ Some told → AreOptions words
options_of words told e = at (numbers_in (after_scale words)) refl e
  where
    at : (n : Option (ℕ × Option ℕ)) → numbers_in (after_scale words) ≡ n → option_map (λ told. (scale_in words, told.0, told.1)) n ≡ Some told → AreOptions words
    at None is g = absurd (cc)
    at (Some n) is g =
        let d = numbers_of (after_scale words) n is in
        record {
          digit = d.digit;
          number = d.number;
          is = in_order (scale_in words) d.digit d.number ∙ ap (λ (ws : List (List ℕ)). scale_words (scale_in words) ++ ws) d.is ∙ scale_split words;
          plain_digit = d.plain_digit;
          plain_number = d.plain_number;
        }

-- what `--large`, `--decimals N` and `--only K` tell
pub options_told : (scale : Scale) (digit number : Option (List ℕ)) → options_in (options_behind scale digit number) ≡ option_map (λ told. (scale, told.0, told.1)) (numbers_in (digit_words digit ++ number_words number))
options_told Standard None None = refl
options_told Standard None (Some k) = refl
options_told Standard (Some n) None = refl
options_told Standard (Some n) (Some k) = refl
options_told Large None None = refl
options_told Large None (Some k) = refl
options_told Large (Some n) None = refl
options_told Large (Some n) (Some k) = refl

replay_listed : (zeroth : List ℕ) (rest : List (List ℕ)) (x : Named) → replay_in rest ≡ Some x → Finds replay_read replay_app (zeroth ∷ rest) x
replay_listed zeroth [] x e = absurd (cc)
replay_listed zeroth (a ∷ []) x e = absurd (cc)
replay_listed zeroth (a ∷ b ∷ []) x e = absurd (cc)
replay_listed zeroth (a ∷ b ∷ c ∷ rest) x e = elim (cases_Bool (is_file_word a && (is_file_word b && is_file_word c))) [
  | inr fails ↦ absurd (let g = rw fails at e in cc)
  | inl all ↦
      let p = and_parts _ _ all in
      let q = and_parts _ _ p.1 in
      at (plain_word a p.0) (plain_word b q.0) (plain_word c q.1) (options_in rest) refl (rw all at e)
]
  where
    here : IsPlainWord a → IsPlainWord b → IsPlainWord c → (s : Scale) (n k : Option (List ℕ)) → IfSome n IsPlainWord → IfSome k IsPlainWord → replay_in (a ∷ b ∷ c ∷ options_behind s n k) ≡ Some x → Finds replay_read replay_app (zeroth ∷ a ∷ b ∷ c ∷ options_behind s n k) x
    here pa pb pc s n None pn pk e =
        let f = replay_found a b c pa pb pc zeroth s n pn in
        record { taken = replay_taken a b c pa pb pc zeroth s n pn; found = rw (f.mesh, f.log, f.prefix, f.large, f.decimals, f.only) e }
    here pa pb pc s n (Some k) pn pk e =
        let f = only_found a b c pa pb pc zeroth s n k pn pk in
        record { taken = only_taken a b c pa pb pc zeroth s n k pn pk; found = rw (f.mesh, f.log, f.prefix, f.large, f.decimals, f.only) e }

    at : IsPlainWord a → IsPlainWord b → IsPlainWord c → (told : Option (Scale × ℕ × Option ℕ)) → options_in rest ≡ told
        → option_map (λ told. Replay (record { names = record { mesh = a; log = b; scale = told.0; decimals = told.1 }; prefix = c; only = told.2 })) told ≡ Some x → Finds replay_read replay_app (zeroth ∷ a ∷ b ∷ c ∷ rest) x
    at pa pb pc None is g = absurd (cc)
    at pa pb pc (Some told) is g =
        let t = options_of rest told is in
        subst (λ (ws : List (List ℕ)). Finds replay_read replay_app (zeroth ∷ a ∷ b ∷ c ∷ ws) x) t.is
        (here pa pb pc (scale_in rest) t.digit t.number t.plain_digit t.plain_number (subst (λ (ws : List (List ℕ)). replay_in (a ∷ b ∷ c ∷ ws) ≡ Some x) (sym t.is) e))

-- ---- words that are taken

-- an argument of this long name is met
long_met : (words : List (List ℕ)) (rule : Rule) (id long : List ℕ) → IsOption id → IsSetRule rule → rule.id ≡ id → takes_values rule ≡ true → bytes_eq id long ≡ true → FoundLong words long (Some rule)
long_met words rule id long option set is takes_some e =
    inl (set, sym (is ∙ (bytes_eq-Decides id long).0 e), subst IsOption (sym is) option, takes_some)

-- the long name of `--large`, or that of another
flag_or_long : (words : List (List ℕ)) (rule : Rule) (long : List ℕ) → IsFlagRule rule → (b : Bool) → bytes_eq (codes "large") long ≡ b → (other : Option Rule) → FoundLong words long other → FoundLong words long (cond (b || false) (Some rule) other)
flag_or_long words rule long flag true e other found = inr (flag, sym ((bytes_eq-Decides (codes "large") long).0 e))
flag_or_long words rule long flag false e other found = found

long_found : (words : List (List ℕ)) (rule : Rule) (long : List ℕ) → IsSetRule rule → rule.id ≡ codes "decimals" → takes_values rule ≡ true → (b : Bool) → bytes_eq (codes "decimals") long ≡ b → FoundLong words long (cond (b || false) (Some rule) None)
long_found words rule long set id takes_some true e = long_met words rule (codes "decimals") long (inl refl) set id takes_some e
long_found words rule long set id takes_some false e = tt

longs_found : (words : List (List ℕ)) (first second : Rule) (long : List ℕ) → IsSetRule first → IsSetRule second → first.id ≡ codes "decimals" → second.id ≡ codes "only" → takes_values first ≡ true → takes_values second ≡ true
    → (b c : Bool) → bytes_eq (codes "decimals") long ≡ b → bytes_eq (codes "only") long ≡ c → FoundLong words long (cond (b || false) (Some first) (cond (c || false) (Some second) None))
longs_found words first second long set_first set_second is_first is_second takes_first takes_second true c e f = long_met words first (codes "decimals") long (inl refl) set_first is_first takes_first e
longs_found words first second long set_first set_second is_first is_second takes_first takes_second false true e f = long_met words second (codes "only") long (inr refl) set_second is_second takes_second f
longs_found words first second long set_first set_second is_first is_second takes_first takes_second false false e f = tt

track_is_safe : (words : List (List ℕ)) → AreSafe words (built track_app).top.rules
track_is_safe words = record {
  known = (inl (record { action = refl; missing = refl; defaults = refl; other = refl }), (inl (record { action = refl; missing = refl; defaults = refl; other = refl }), (inl (record { action = refl; missing = refl; defaults = refl; other = refl }), (inr (record { id = refl; action = refl; missing = refl; defaults = refl; index = refl; takes_none = refl }), (inl (record { action = refl; missing = refl; defaults = refl; other = refl }), tt)))));
  long = λ long. flag_or_long words _ long (record { id = refl; action = refl; missing = refl; defaults = refl; index = refl; takes_none = refl }) (bytes_eq (codes "large") long) refl _ (long_found words _ long (record { action = refl; missing = refl; defaults = refl; other = refl }) refl refl (bytes_eq (codes "decimals") long) refl);
  short = λ x. refl;
}

verify_is_safe : (words : List (List ℕ)) → AreSafe words (built verify_app).top.rules
verify_is_safe words = record {
  known = (inl (record { action = refl; missing = refl; defaults = refl; other = refl }), (inl (record { action = refl; missing = refl; defaults = refl; other = refl }), (inl (record { action = refl; missing = refl; defaults = refl; other = refl }), (inr (record { id = refl; action = refl; missing = refl; defaults = refl; index = refl; takes_none = refl }), (inl (record { action = refl; missing = refl; defaults = refl; other = refl }), tt)))));
  long = λ long. flag_or_long words _ long (record { id = refl; action = refl; missing = refl; defaults = refl; index = refl; takes_none = refl }) (bytes_eq (codes "large") long) refl _ (long_found words _ long (record { action = refl; missing = refl; defaults = refl; other = refl }) refl refl (bytes_eq (codes "decimals") long) refl);
  short = λ x. refl;
}

convert_is_safe : (words : List (List ℕ)) → AreSafe words (built convert_app).top.rules
convert_is_safe words = record {
  known = (inl (record { action = refl; missing = refl; defaults = refl; other = refl }), (inl (record { action = refl; missing = refl; defaults = refl; other = refl }), (inr (record { id = refl; action = refl; missing = refl; defaults = refl; index = refl; takes_none = refl }), (inl (record { action = refl; missing = refl; defaults = refl; other = refl }), tt))));
  long = λ long. flag_or_long words _ long (record { id = refl; action = refl; missing = refl; defaults = refl; index = refl; takes_none = refl }) (bytes_eq (codes "large") long) refl _ (long_found words _ long (record { action = refl; missing = refl; defaults = refl; other = refl }) refl refl (bytes_eq (codes "decimals") long) refl);
  short = λ x. refl;
}

log_is_safe : (name : List ℕ) (words : List (List ℕ)) → AreSafe words (built (log_app name)).top.rules
log_is_safe name words = record {
  known = (inl (record { action = refl; missing = refl; defaults = refl; other = refl }), (inl (record { action = refl; missing = refl; defaults = refl; other = refl }), (inr (record { id = refl; action = refl; missing = refl; defaults = refl; index = refl; takes_none = refl }), (inl (record { action = refl; missing = refl; defaults = refl; other = refl }), tt))));
  long = λ long. flag_or_long words _ long (record { id = refl; action = refl; missing = refl; defaults = refl; index = refl; takes_none = refl }) (bytes_eq (codes "large") long) refl _ (long_found words _ long (record { action = refl; missing = refl; defaults = refl; other = refl }) refl refl (bytes_eq (codes "decimals") long) refl);
  short = λ x. refl;
}

replay_is_safe : (words : List (List ℕ)) → AreSafe words (built replay_app).top.rules
replay_is_safe words = record {
  known = (inl (record { action = refl; missing = refl; defaults = refl; other = refl }), (inl (record { action = refl; missing = refl; defaults = refl; other = refl }), (inl (record { action = refl; missing = refl; defaults = refl; other = refl }), (inr (record { id = refl; action = refl; missing = refl; defaults = refl; index = refl; takes_none = refl }), (inl (record { action = refl; missing = refl; defaults = refl; other = refl }), (inl (record { action = refl; missing = refl; defaults = refl; other = refl }), tt))))));
  long = λ long. flag_or_long words _ long (record { id = refl; action = refl; missing = refl; defaults = refl; index = refl; takes_none = refl }) (bytes_eq (codes "large") long) refl _ (longs_found words _ _ long (record { action = refl; missing = refl; defaults = refl; other = refl }) (record { action = refl; missing = refl; defaults = refl; other = refl }) refl refl refl refl (bytes_eq (codes "decimals") long) (bytes_eq (codes "only") long) refl refl);
  short = λ x. refl;
}

check_is_safe : (words : List (List ℕ)) → AreSafe words (built check_app).top.rules
check_is_safe words = record {
  known = (inl (record { action = refl; missing = refl; defaults = refl; other = refl }), (inr (record { id = refl; action = refl; missing = refl; defaults = refl; index = refl; takes_none = refl }), (inl (record { action = refl; missing = refl; defaults = refl; other = refl }), tt)));
  long = λ long. flag_or_long words _ long (record { id = refl; action = refl; missing = refl; defaults = refl; index = refl; takes_none = refl }) (bytes_eq (codes "large") long) refl _ (long_found words _ long (record { action = refl; missing = refl; defaults = refl; other = refl }) refl refl (bytes_eq (codes "decimals") long) refl);
  short = λ x. refl;
}

try_is_safe : (words : List (List ℕ)) → AreSafe words (built try_app).top.rules
try_is_safe words = record {
  known = (inl (record { action = refl; missing = refl; defaults = refl; other = refl }), (inl (record { action = refl; missing = refl; defaults = refl; other = refl }), tt));
  long = λ long. tt;
  short = λ x. refl;
}

module _ (words : List (List ℕ)) (rows : List Row) (from : RowsFrom words rows) where
  word_among : (id v : List ℕ) → is_option id ≡ false → bytes_eq id (codes "large") ≡ false → first_of id rows ≡ Some v → Contains words v
  word_among id v other small e = elim (first_from words id rows v from e) [
    | inr flag ↦ absurd (not_large id small flag.0)
    | inl word ↦ elim word.1 [
      | inl within ↦ within
      | inr named ↦ absurd (no_option id other named.0)
    ]
  ]

  value_among : (id : List ℕ) (d : Option (List ℕ)) → bytes_eq id (codes "large") ≡ false → first_of id rows ≡ d → IfSome d (λ n. Contains words n ⊎ Contains words (named_value id n))
  value_among id None small e = tt
  value_among id (Some n) small e = elim (first_from words id rows n from e) [
    | inr flag ↦ absurd (not_large id small flag.0)
    | inl word ↦ elim word.1 [
      | inl within ↦ inl within
      | inr named ↦ inr named.1
    ]
  ]

  large_among : (f : Option (List ℕ)) → first_of (codes "large") rows ≡ f → scale_of f ≡ Large → Contains words (codes "--large")
  large_among None e is = absurd (cc)
  large_among (Some v) e is = elim (first_from words (codes "large") rows v from e) [
    | inl word ↦ absurd (word.0 refl)
    | inr flag ↦ elim flag.1 [
      | inl small ↦ absurd (let g : Standard ≡ Large = subst (λ (t : List ℕ). scale_of (Some t) ≡ Large) small is in cc)
      | inr there ↦ there
    ]
  ]

-- a word, and then others, stand among these
more : (words : List (List ℕ)) (v : List ℕ) (vs : List (List ℕ)) → Contains words v → All (Contains words) vs → All (Contains words) (v ∷ vs)
more words v vs here rest = All-cons (Contains words) v vs here rest

track_among : (rest : List (List ℕ)) (rows : List Row) → RowsFrom (codes "track" ∷ rest) rows → (x : Named) → track_read (λ id. first_of id rows) ≡ Some x → AreTakenAs (codes "track" ∷ rest) x
track_among rest rows from x e = at (first_of (codes "mesh") rows) (first_of (codes "steps") rows) (first_of (codes "prefix") rows) (first_of (codes "large") rows) (first_of (codes "decimals") rows) refl refl refl refl refl e
  where
    at : (m s p f d : Option (List ℕ)) → first_of (codes "mesh") rows ≡ m → first_of (codes "steps") rows ≡ s → first_of (codes "prefix") rows ≡ p → first_of (codes "large") rows ≡ f → first_of (codes "decimals") rows ≡ d
        → track_of m s p (scale_of f) d ≡ Some x → AreTakenAs (codes "track" ∷ rest) x
    at None s p f d em es ep elarge ed e = absurd (cc)
    at (Some a) None p f d em es ep elarge ed e = absurd (cc)
    at (Some a) (Some b) None f d em es ep elarge ed e = absurd (cc)
    at (Some a) (Some b) (Some c) f d em es ep elarge ed e =
        let words = codes "track" ∷ rest in
        let ma : Contains words a = word_among words rows from (codes "mesh") a refl refl em in
        let mb : Contains words b = word_among words rows from (codes "steps") b refl refl es in
        let mc : Contains words c = word_among words rows from (codes "prefix") c refl refl ep in
        record {
          form = codes "track" ∷ a ∷ b ∷ c ∷ [];
          scale = scale_of f;
          digit = d;
          is_listed = e;
          first = refl;
          large = large_among words rows from f elarge;
          among = more words (codes "track") (a ∷ b ∷ c ∷ []) (contains_here (codes "track") rest)
              (more words a (b ∷ c ∷ []) ma (more words b (c ∷ []) mb (more words c [] mc (All-nil (Contains words)))));
          number = None;
          decimals = value_among words rows from (codes "decimals") d refl ed;
          only = tt;
        }

convert_among : (rest : List (List ℕ)) (rows : List Row) → RowsFrom (codes "convert" ∷ rest) rows → (x : Named) → convert_read (λ id. first_of id rows) ≡ Some x → AreTakenAs (codes "convert" ∷ rest) x
convert_among rest rows from x e = at (first_of (codes "from") rows) (first_of (codes "to") rows) (first_of (codes "large") rows) (first_of (codes "decimals") rows) refl refl refl refl e
  where
    at : (f t g d : Option (List ℕ)) → first_of (codes "from") rows ≡ f → first_of (codes "to") rows ≡ t → first_of (codes "large") rows ≡ g → first_of (codes "decimals") rows ≡ d
        → convert_of f t (scale_of g) d ≡ Some x → AreTakenAs (codes "convert" ∷ rest) x
    at None t g d ef et eg ed e = absurd (cc)
    at (Some a) None g d ef et eg ed e = absurd (cc)
    at (Some a) (Some b) g d ef et eg ed e =
        let words = codes "convert" ∷ rest in
        let ma : Contains words a = word_among words rows from (codes "from") a refl refl ef in
        let mb : Contains words b = word_among words rows from (codes "to") b refl refl et in
        record {
          form = codes "convert" ∷ a ∷ b ∷ [];
          scale = scale_of g;
          digit = d;
          is_listed = e;
          first = refl;
          among = more words (codes "convert") (a ∷ b ∷ []) (contains_here (codes "convert") rest)
              (more words a (b ∷ []) ma (more words b [] mb (All-nil (Contains words))));
          number = None;
          large = large_among words rows from g eg;
          decimals = value_among words rows from (codes "decimals") d refl ed;
          only = tt;
        }

try_among : (rest : List (List ℕ)) (rows : List Row) → RowsFrom (codes "try" ∷ rest) rows → (x : Named) → try_read (λ id. first_of id rows) ≡ Some x → AreTakenAs (codes "try" ∷ rest) x
try_among rest rows from x e = at (first_of (codes "cubes") rows) (first_of (codes "key") rows) refl refl e
  where
    at : (n k : Option (List ℕ)) → first_of (codes "cubes") rows ≡ n → first_of (codes "key") rows ≡ k → try_of n k ≡ Some x → AreTakenAs (codes "try" ∷ rest) x
    at None k en ek e = absurd (cc)
    at (Some a) None en ek e = absurd (cc)
    at (Some a) (Some b) en ek e =
        let words = codes "try" ∷ rest in
        let ma : Contains words a = word_among words rows from (codes "cubes") a refl refl en in
        let mb : Contains words b = word_among words rows from (codes "key") b refl refl ek in
        record {
          form = codes "try" ∷ a ∷ b ∷ [];
          scale = Standard;
          digit = None;
          number = None;
          is_listed = e;
          first = refl;
          large = λ e. absurd (cc);
          among = more words (codes "try") (a ∷ b ∷ []) (contains_here (codes "try") rest)
              (more words a (b ∷ []) ma (more words b [] mb (All-nil (Contains words))));
          decimals = tt;
          only = tt;
        }

names_among : (name : List ℕ) (make : LogNames → Named) → ((words : List (List ℕ)) → named_in (name ∷ words) ≡ option_map make (log_in words)) → (rest : List (List ℕ)) (rows : List Row) → RowsFrom (name ∷ rest) rows
    → (x : Named) → names_read make (λ id. first_of id rows) ≡ Some x → AreTakenAs (name ∷ rest) x
names_among name make lists rest rows from x e = at (first_of (codes "mesh") rows) (first_of (codes "log") rows) (first_of (codes "large") rows) (first_of (codes "decimals") rows) refl refl refl refl e
  where
    at : (m l f d : Option (List ℕ)) → first_of (codes "mesh") rows ≡ m → first_of (codes "log") rows ≡ l → first_of (codes "large") rows ≡ f → first_of (codes "decimals") rows ≡ d
        → option_map make (log_of m l (scale_of f) d) ≡ Some x → AreTakenAs (name ∷ rest) x
    at None l f d em el elarge ed e = absurd (cc)
    at (Some a) None f d em el elarge ed e = absurd (cc)
    at (Some a) (Some b) f d em el elarge ed e =
        let words = name ∷ rest in
        let ma : Contains words a = word_among words rows from (codes "mesh") a refl refl em in
        let mb : Contains words b = word_among words rows from (codes "log") b refl refl el in
        record {
          form = name ∷ a ∷ b ∷ [];
          scale = scale_of f;
          digit = d;
          is_listed = lists (a ∷ b ∷ behind (scale_of f) d) ∙ e;
          first = refl;
          large = large_among words rows from f elarge;
          among = more words name (a ∷ b ∷ []) (contains_here name rest)
              (more words a (b ∷ []) ma (more words b [] mb (All-nil (Contains words))));
          number = None;
          decimals = value_among words rows from (codes "decimals") d refl ed;
          only = tt;
        }

verify_among : (rest : List (List ℕ)) (rows : List Row) → RowsFrom (codes "verify" ∷ rest) rows → (x : Named) → verify_read (λ id. first_of id rows) ≡ Some x → AreTakenAs (codes "verify" ∷ rest) x
verify_among rest rows from x e = at (first_of (codes "mesh") rows) (first_of (codes "log") rows) (first_of (codes "proof") rows) (first_of (codes "large") rows) (first_of (codes "decimals") rows) refl refl refl refl refl e
  where
    at : (m s p f d : Option (List ℕ)) → first_of (codes "mesh") rows ≡ m → first_of (codes "log") rows ≡ s → first_of (codes "proof") rows ≡ p → first_of (codes "large") rows ≡ f → first_of (codes "decimals") rows ≡ d
        → verify_of m s p (scale_of f) d ≡ Some x → AreTakenAs (codes "verify" ∷ rest) x
    at None s p f d em es ep elarge ed e = absurd (cc)
    at (Some a) None p f d em es ep elarge ed e = absurd (cc)
    at (Some a) (Some b) None f d em es ep elarge ed e = absurd (cc)
    at (Some a) (Some b) (Some c) f d em es ep elarge ed e =
        let words = codes "verify" ∷ rest in
        let ma : Contains words a = word_among words rows from (codes "mesh") a refl refl em in
        let mb : Contains words b = word_among words rows from (codes "log") b refl refl es in
        let mc : Contains words c = word_among words rows from (codes "proof") c refl refl ep in
        record {
          form = codes "verify" ∷ a ∷ b ∷ c ∷ [];
          scale = scale_of f;
          digit = d;
          is_listed = e;
          first = refl;
          large = large_among words rows from f elarge;
          among = more words (codes "verify") (a ∷ b ∷ c ∷ []) (contains_here (codes "verify") rest)
              (more words a (b ∷ c ∷ []) ma (more words b (c ∷ []) mb (more words c [] mc (All-nil (Contains words)))));
          number = None;
          decimals = value_among words rows from (codes "decimals") d refl ed;
          only = tt;
        }

replay_among : (rest : List (List ℕ)) (rows : List Row) → RowsFrom (codes "replay" ∷ rest) rows → (x : Named) → replay_read (λ id. first_of id rows) ≡ Some x → AreTakenAs (codes "replay" ∷ rest) x
replay_among rest rows from x e = at (first_of (codes "mesh") rows) (first_of (codes "log") rows) (first_of (codes "prefix") rows) (first_of (codes "large") rows) (first_of (codes "decimals") rows) (first_of (codes "only") rows) refl refl refl refl refl refl e
  where
    at : (m l p f d k : Option (List ℕ)) → first_of (codes "mesh") rows ≡ m → first_of (codes "log") rows ≡ l → first_of (codes "prefix") rows ≡ p → first_of (codes "large") rows ≡ f → first_of (codes "decimals") rows ≡ d → first_of (codes "only") rows ≡ k
        → replay_of m l p (scale_of f) d k ≡ Some x → AreTakenAs (codes "replay" ∷ rest) x
    at None l p f d k em el ep elarge ed ek e = absurd (cc)
    at (Some a) None p f d k em el ep elarge ed ek e = absurd (cc)
    at (Some a) (Some b) None f d k em el ep elarge ed ek e = absurd (cc)
    at (Some a) (Some b) (Some c) f d k em el ep elarge ed ek e =
        let words = codes "replay" ∷ rest in
        let ma : Contains words a = word_among words rows from (codes "mesh") a refl refl em in
        let mb : Contains words b = word_among words rows from (codes "log") b refl refl el in
        let mc : Contains words c = word_among words rows from (codes "prefix") c refl refl ep in
        record {
          form = codes "replay" ∷ a ∷ b ∷ c ∷ [];
          scale = scale_of f;
          digit = d;
          number = k;
          is_listed = e;
          first = refl;
          large = large_among words rows from f elarge;
          among = more words (codes "replay") (a ∷ b ∷ c ∷ []) (contains_here (codes "replay") rest)
              (more words a (b ∷ c ∷ []) ma (more words b (c ∷ []) mb (more words c [] mc (All-nil (Contains words)))));
          decimals = value_among words rows from (codes "decimals") d refl ed;
          only = value_among words rows from (codes "only") k refl ek;
        }

check_among : (rest : List (List ℕ)) (rows : List Row) → RowsFrom (codes "check" ∷ rest) rows → (x : Named) → check_read (λ id. first_of id rows) ≡ Some x → AreTakenAs (codes "check" ∷ rest) x
check_among rest rows from x e = at (first_of (codes "mesh") rows) (first_of (codes "large") rows) (first_of (codes "decimals") rows) refl refl refl e
  where
    at : (m f d : Option (List ℕ)) → first_of (codes "mesh") rows ≡ m → first_of (codes "large") rows ≡ f → first_of (codes "decimals") rows ≡ d → check_of m (scale_of f) d ≡ Some x → AreTakenAs (codes "check" ∷ rest) x
    at None f d em elarge ed e = absurd (cc)
    at (Some a) f d em elarge ed e =
        let words = codes "check" ∷ rest in
        let ma : Contains words a = word_among words rows from (codes "mesh") a refl refl em in
        record {
          form = codes "check" ∷ a ∷ [];
          scale = scale_of f;
          digit = d;
          number = None;
          is_listed = e;
          first = refl;
          large = large_among words rows from f elarge;
          among = more words (codes "check") (a ∷ []) (contains_here (codes "check") rest) (more words a [] ma (All-nil (Contains words)));
          decimals = value_among words rows from (codes "decimals") d refl ed;
          only = tt;
        }

-- ---- each command

track_serves : (rest : List (List ℕ)) → Serves track_read track_app (codes "track" ∷ rest)
track_serves rest = record {
  listed = λ x e. track_listed (codes "track") rest x e;
  among = λ x e. track_among rest (matches_of track_app (codes "track" ∷ rest))
      (rows_from (codes "track" ∷ rest) _ (track_is_safe (codes "track" ∷ rest)) _ rest (λ v i. contains_later (codes "track") v rest i)) x e;
}

convert_serves : (rest : List (List ℕ)) → Serves convert_read convert_app (codes "convert" ∷ rest)
convert_serves rest = record {
  listed = λ x e. convert_listed (codes "convert") rest x e;
  among = λ x e. convert_among rest (matches_of convert_app (codes "convert" ∷ rest))
      (rows_from (codes "convert" ∷ rest) _ (convert_is_safe (codes "convert" ∷ rest)) _ rest (λ v i. contains_later (codes "convert") v rest i)) x e;
}

try_serves : (rest : List (List ℕ)) → Serves try_read try_app (codes "try" ∷ rest)
try_serves rest = record {
  listed = λ x e. try_listed (codes "try") rest x e;
  among = λ x e. try_among rest (matches_of try_app (codes "try" ∷ rest))
      (rows_from (codes "try" ∷ rest) _ (try_is_safe (codes "try" ∷ rest)) _ rest (λ v i. contains_later (codes "try") v rest i)) x e;
}

names_serve : (name : List ℕ) (make : LogNames → Named) → ((words : List (List ℕ)) → named_in (name ∷ words) ≡ option_map make (log_in words)) → (rest : List (List ℕ)) → Serves (names_read make) (log_app name) (name ∷ rest)
names_serve name make lists rest = record {
  listed = λ x e. names_listed name make name rest x (sym (lists rest) ∙ e);
  among = λ x e. names_among name make lists rest (matches_of (log_app name) (name ∷ rest))
      (rows_from (name ∷ rest) _ (log_is_safe name (name ∷ rest)) _ rest (λ v i. contains_later name v rest i)) x e;
}

measure_serves : (rest : List (List ℕ)) → Serves measure_read measure_app (codes "measure" ∷ rest)
measure_serves = names_serve (codes "measure") Measure (λ words. refl)

prove_serves : (rest : List (List ℕ)) → Serves prove_read prove_app (codes "prove" ∷ rest)
prove_serves = names_serve (codes "prove") Prove (λ words. refl)

verify_serves : (rest : List (List ℕ)) → Serves verify_read verify_app (codes "verify" ∷ rest)
verify_serves rest = record {
  listed = λ x e. verify_listed (codes "verify") rest x e;
  among = λ x e. verify_among rest (matches_of verify_app (codes "verify" ∷ rest))
      (rows_from (codes "verify" ∷ rest) _ (verify_is_safe (codes "verify" ∷ rest)) _ rest (λ v i. contains_later (codes "verify") v rest i)) x e;
}

replay_serves : (rest : List (List ℕ)) → Serves replay_read replay_app (codes "replay" ∷ rest)
replay_serves rest = record {
  listed = λ x e. replay_listed (codes "replay") rest x e;
  among = λ x e. replay_among rest (matches_of replay_app (codes "replay" ∷ rest))
      (rows_from (codes "replay" ∷ rest) _ (replay_is_safe (codes "replay" ∷ rest)) _ rest (λ v i. contains_later (codes "replay") v rest i)) x e;
}

check_serves : (rest : List (List ℕ)) → Serves check_read check_app (codes "check" ∷ rest)
check_serves rest = record {
  listed = λ x e. check_listed (codes "check") rest x e;
  among = λ x e. check_among rest (matches_of check_app (codes "check" ∷ rest))
      (rows_from (codes "check" ∷ rest) _ (check_is_safe (codes "check" ∷ rest)) _ rest (λ v i. contains_later (codes "check") v rest i)) x e;
}

-- ---- the first word

-- the words begin with this name
abbrev pub BeginWith : List ℕ → List (List ℕ) → Type 0
BeginWith name words = slice_get words 0 ≡ Some name

pub begin : (name : List ℕ) (words : List (String Global)) (word : String Global) (text : List ℕ) → Some word ≡ slice_get words 0 → text ≡ string_bytes word → text ≡ name → BeginWith name (map (λ w. string_bytes w) words)
begin name [] word text first is e = absurd (cc)
begin name (w ∷ rest) word text first is e = let same : word ≡ w = cc in ap Some (ap (λ (x : String Global). string_bytes x) (sym same) ∙ sym is ∙ e)

at_name : (name : List ℕ) (read : Values → Option Named) (app : App) → ((rest : List (List ℕ)) → Serves read app (name ∷ rest)) → (words : List (List ℕ)) → BeginWith name words → (found : Option Named) → IsReadBy read app words found → IsReading words found
at_name name read app serves [] begins found by = absurd (cc)
at_name name read app serves (zeroth ∷ rest) begins found by =
    let same : zeroth ≡ name = cc in
    reading read app (zeroth ∷ rest) (subst (λ (w : List ℕ). Serves read app (w ∷ rest)) (sym same) (serves rest)) found by

module _ {E : Type 0} (words : List (List ℕ)) (r : Result (Option Command) E) where
  -- what a command reads of words that begin with its name is what the words are read as
  reads_by : (name : List ℕ) (read : Values → Option Named) (app : App) → ((rest : List (List ℕ)) → Serves read app (name ∷ rest)) → BeginWith name words → IfOk r (λ found. IsReadBy read app words (option_map named_by found)) → IfOk r (λ found. IsReading words (option_map named_by found))
  reads_by name read app serves begins = at r
    where
      at : (r : Result (Option Command) E) → IfOk r (λ found. IsReadBy read app words (option_map named_by found)) → IfOk r (λ found. IsReading words (option_map named_by found))
      at (Ok found) by = at_name name read app serves words begins (option_map named_by found) by
      at (Err e) by = tt

  pub reads_track : BeginWith (codes "track") words → IfOk r (λ found. IsReadBy track_read track_app words (option_map named_by found)) → IfOk r (λ found. IsReading words (option_map named_by found))
  reads_track = reads_by (codes "track") track_read track_app track_serves

  pub reads_convert : BeginWith (codes "convert") words → IfOk r (λ found. IsReadBy convert_read convert_app words (option_map named_by found)) → IfOk r (λ found. IsReading words (option_map named_by found))
  reads_convert = reads_by (codes "convert") convert_read convert_app convert_serves

  pub reads_try : BeginWith (codes "try") words → IfOk r (λ found. IsReadBy try_read try_app words (option_map named_by found)) → IfOk r (λ found. IsReading words (option_map named_by found))
  reads_try = reads_by (codes "try") try_read try_app try_serves

  pub reads_measure : BeginWith (codes "measure") words → IfOk r (λ found. IsReadBy measure_read measure_app words (option_map named_by found)) → IfOk r (λ found. IsReading words (option_map named_by found))
  reads_measure = reads_by (codes "measure") measure_read measure_app measure_serves

  pub reads_prove : BeginWith (codes "prove") words → IfOk r (λ found. IsReadBy prove_read prove_app words (option_map named_by found)) → IfOk r (λ found. IsReading words (option_map named_by found))
  reads_prove = reads_by (codes "prove") prove_read prove_app prove_serves

  pub reads_verify : BeginWith (codes "verify") words → IfOk r (λ found. IsReadBy verify_read verify_app words (option_map named_by found)) → IfOk r (λ found. IsReading words (option_map named_by found))
  reads_verify = reads_by (codes "verify") verify_read verify_app verify_serves

  pub reads_replay : BeginWith (codes "replay") words → IfOk r (λ found. IsReadBy replay_read replay_app words (option_map named_by found)) → IfOk r (λ found. IsReading words (option_map named_by found))
  reads_replay = reads_by (codes "replay") replay_read replay_app replay_serves

  pub reads_check : BeginWith (codes "check") words → IfOk r (λ found. IsReadBy check_read check_app words (option_map named_by found)) → IfOk r (λ found. IsReading words (option_map named_by found))
  reads_check = reads_by (codes "check") check_read check_app check_serves

differs : (word name : List ℕ) → (word ≡ name → ⊥) → bytes_eq word name ≡ false
differs word name other = elim (cases_Bool (bytes_eq word name)) [
  | inl e ↦ absurd (other ((bytes_eq-Decides word name).0 e))
  | inr e ↦ e
]

-- words that begin otherwise are of no listed form
pub unlisted : (words : List (String Global)) (word : String Global) (text : List ℕ) → Some word ≡ slice_get words 0 → text ≡ string_bytes word
    → (text ≡ codes "track" → ⊥) → (text ≡ codes "convert" → ⊥) → (text ≡ codes "try" → ⊥) → (text ≡ codes "measure" → ⊥) → (text ≡ codes "prove" → ⊥) → (text ≡ codes "verify" → ⊥) → (text ≡ codes "replay" → ⊥) → (text ≡ codes "check" → ⊥) → named_in (map (λ w. string_bytes w) words) ≡ None
unlisted [] word text first is a b c d e f g h = refl
unlisted (w ∷ rest) word text first is a b c d e f g h =
    let same : word ≡ w = cc in
    let here : text ≡ string_bytes w = is ∙ ap (λ (y : String Global). string_bytes y) same in
    rw (← here, differs text (codes "track") a, differs text (codes "convert") b, differs text (codes "try") c, differs text (codes "measure") d, differs text (codes "prove") e, differs text (codes "verify") f, differs text (codes "replay") g, differs text (codes "check") h) refl

pub unlisted_nothing : (words : List (String Global)) → slice_get words 0 ≡ None → named_in (map (λ w. string_bytes w) words) ≡ None
unlisted_nothing [] e = refl
unlisted_nothing (w ∷ rest) e = absurd (cc)

-- ---- what is read exactly

exactly : (name : List ℕ) (words : List (List ℕ)) → BeginWith name words → (named : Option Named) → IsReadBy (read_by_name name) (app_by_name name) words named → IsReadExactly words named
exactly name [] begins named by = absurd (cc)
exactly name (zeroth ∷ rest) begins named by =
    let same : zeroth ≡ name = cc in
    subst (λ (w : List ℕ). IsReadBy (read_by_name w) (app_by_name w) (zeroth ∷ rest) named) (sym same) by

-- what the command of the first word reads is what is read exactly
pub exact_by : {E : Type 0} (name : List ℕ) (words : List (List ℕ)) (r : Result (Option Command) E) → BeginWith name words → IfOk r (λ found. IsReadBy (read_by_name name) (app_by_name name) words (option_map named_by found)) → IfOk r (λ found. IsReadExactly words (option_map named_by found))
exact_by name words (Ok found) begins by = exactly name words begins (option_map named_by found) by
exact_by name words (Err e) begins by = tt

-- words that begin otherwise are read as nothing
pub exact_nothing : (words : List (String Global)) (word : String Global) (text : List ℕ) → Some word ≡ slice_get words 0 → text ≡ string_bytes word
    → (text ≡ codes "track" → ⊥) → (text ≡ codes "convert" → ⊥) → (text ≡ codes "try" → ⊥) → (text ≡ codes "measure" → ⊥) → (text ≡ codes "prove" → ⊥) → (text ≡ codes "verify" → ⊥) → (text ≡ codes "replay" → ⊥) → (text ≡ codes "check" → ⊥) → IsReadExactly (map (λ w. string_bytes w) words) None
exact_nothing [] word text first is a b c d e f g h = refl
exact_nothing (w ∷ rest) word text first is a b c d e f g h =
    let same : word ≡ w = cc in
    let here : text ≡ string_bytes w = is ∙ ap (λ (y : String Global). string_bytes y) same in
    let nothing : read_by_name text ≡ (λ value. None) =
    rw (differs text (codes "track") a, differs text (codes "convert") b, differs text (codes "try") c, differs text (codes "measure") d, differs text (codes "prove") e, differs text (codes "verify") f, differs text (codes "replay") g, differs text (codes "check") h) refl in
    let none : read_by_name (string_bytes w) ≡ (λ value. None) = subst (λ (t : List ℕ). read_by_name t ≡ (λ value. None)) here nothing in
    inl (ap (λ (read : Values → Option Named). read (values_in (app_by_name (string_bytes w)) (string_bytes w ∷ map (λ v. string_bytes v) rest))) none)
