-- The commands by which `clap` reads the words, and what is read of the values that it finds.
use Rattle.std.specs.Prelude.{◌≡◌, ◌⊎◌, ℕ, true, List, [], ◌∷◌, Option, Some, None, codes, if◌then◌else◌}
use Rattle.clap.specs.declared.builder.action.ArgAction.TheVariants.{Set, SetTrue}
use Rattle.clap.specs.declared.parser.matches.ArgMatches.{ArgMatches}
use Rattle.clap.specs.Words.{App, HasMatchesOf, Rule, first_of, matches_of, new_app, new_rule, takes, with_rule}
use Rattle.std.specs.Option.{option_map}
use Rattle.std.specs.Str.{bytes_eq}
use Rattle.mesh_base.specs.declared.Scale.{Scale}
use Rattle.mesh_base.specs.declared.Scale.TheVariants.{Standard, Large}
use Rattle.track_input.specs.Words.{LogNames, Named, Measure, Prove, track_in, convert_in, try_in, log_in, verify_in, replay_in, check_in}
use Rattle.track_input.specs.Taken.{behind, options_behind}

-- a word that has to be given
abbrev pub given_rule : List ℕ → Rule
given_rule id = record (new_rule id) { required = true; action = Some Set }

-- `--large`
abbrev pub large_rule : Rule
large_rule =
    record (new_rule (codes "large")) { long = Some (codes "large"); action = Some SetTrue }

-- `--decimals N`
abbrev pub decimals_rule : Rule
decimals_rule =
    record (new_rule (codes "decimals")) { long = Some (codes "decimals"); action = Some Set }

-- `--only K`
abbrev pub only_rule : Rule
only_rule = record (new_rule (codes "only")) { long = Some (codes "only"); action = Some Set }

-- a command without the flag for help
abbrev pub bare_app : List ℕ → App
bare_app name =
    record (new_app name) { top = record (new_app name).top { disable_help_flag = true } }

-- a command of two named words
abbrev pub pair_app : List ℕ → List ℕ → List ℕ → App
pair_app name first second =
    with_rule (with_rule (bare_app name) (given_rule first)) (given_rule second)

-- with `--large` and `--decimals N`
abbrev pub with_options : App → App
with_options app = with_rule (with_rule app large_rule) decimals_rule

-- the words of `track`
abbrev pub track_app : App
track_app =
    with_options (with_rule (pair_app (codes "track") (codes "mesh") (codes "steps"))
    (given_rule (codes "prefix")))

-- the words of `convert`
abbrev pub convert_app : App
convert_app = with_options (pair_app (codes "convert") (codes "from") (codes "to"))

-- the words of `try`
abbrev pub try_app : App
try_app = pair_app (codes "try") (codes "cubes") (codes "key")

-- the command of this name that takes a mesh and a log
abbrev pub log_app : List ℕ → App
log_app name = with_options (pair_app name (codes "mesh") (codes "log"))

-- the words of `measure`
abbrev pub measure_app : App
measure_app = log_app (codes "measure")

-- the words of `prove`
abbrev pub prove_app : App
prove_app = log_app (codes "prove")

-- the words of `verify`
abbrev pub verify_app : App
verify_app =
    with_options (with_rule (pair_app (codes "verify") (codes "mesh") (codes "log"))
    (given_rule (codes "proof")))

-- the words of `replay`
abbrev pub replay_app : App
replay_app =
    with_rule (with_options (with_rule (pair_app (codes "replay") (codes "mesh") (codes "log"))
    (given_rule (codes "prefix")))) only_rule

-- the words of `check`
abbrev pub check_app : App
check_app = with_options (with_rule (bare_app (codes "check")) (given_rule (codes "mesh")))

-- ---- what is read

-- the value of each name, if it has one
abbrev pub Values : Type 0
Values = List ℕ → Option (List ℕ)

-- the scale that the value of `--large` tells: large, where it is `true`
abbrev pub scale_of : Option (List ℕ) → Scale
scale_of None = Standard
scale_of (Some word) = if bytes_eq word (codes "true") then Large else Standard

-- what `track` reads of these values, if they are all there
abbrev pub track_of : Option (List ℕ) → Option (List ℕ) → Option (List ℕ) → Scale →
    Option (List ℕ) → Option Named
track_of (Some mesh) (Some steps) (Some prefix) scale digit =
    track_in (mesh ∷ steps ∷ prefix ∷ behind scale digit)
track_of _ _ _ scale digit = None

-- what `convert` reads of them
abbrev pub convert_of : Option (List ℕ) → Option (List ℕ) → Scale → Option (List ℕ) →
    Option Named
convert_of (Some from) (Some to) scale digit = convert_in (from ∷ to ∷ behind scale digit)
convert_of _ _ scale digit = None

-- what `try` reads of them
abbrev pub try_of : Option (List ℕ) → Option (List ℕ) → Option Named
try_of (Some cubes) (Some key) = try_in (cubes ∷ key ∷ [])
try_of _ _ = None

-- what a command that takes a mesh and a log reads of them
abbrev pub log_of : Option (List ℕ) → Option (List ℕ) → Scale → Option (List ℕ) →
    Option LogNames
log_of (Some mesh) (Some log) scale digit = log_in (mesh ∷ log ∷ behind scale digit)
log_of _ _ scale digit = None

-- what `verify` reads of them
abbrev pub verify_of : Option (List ℕ) → Option (List ℕ) → Option (List ℕ) → Scale →
    Option (List ℕ) → Option Named
verify_of (Some mesh) (Some log) (Some proof) scale digit =
    verify_in (mesh ∷ log ∷ proof ∷ behind scale digit)
verify_of _ _ _ scale digit = None

-- what `replay` reads of them
abbrev pub replay_of : Option (List ℕ) → Option (List ℕ) → Option (List ℕ) → Scale →
    Option (List ℕ) → Option (List ℕ) → Option Named
replay_of (Some mesh) (Some log) (Some prefix) scale digit number =
    replay_in (mesh ∷ log ∷ prefix ∷ options_behind scale digit number)
replay_of _ _ _ scale digit number = None

-- what `check` reads of them
abbrev pub check_of : Option (List ℕ) → Scale → Option (List ℕ) → Option Named
check_of (Some mesh) scale digit = check_in (mesh ∷ behind scale digit)
check_of _ scale digit = None

-- what `track` reads of the values that its words have by name
abbrev pub track_read : Values → Option Named
track_read value =
    track_of (value (codes "mesh")) (value (codes "steps")) (value (codes "prefix"))
    (scale_of (value (codes "large"))) (value (codes "decimals"))

-- the same of `convert`
abbrev pub convert_read : Values → Option Named
convert_read value =
    convert_of (value (codes "from")) (value (codes "to")) (scale_of (value (codes "large")))
    (value (codes "decimals"))

-- the same of `try`
abbrev pub try_read : Values → Option Named
try_read value = try_of (value (codes "cubes")) (value (codes "key"))

-- the same of a command that takes a mesh and a log
abbrev pub log_read : Values → Option LogNames
log_read value =
    log_of (value (codes "mesh")) (value (codes "log")) (scale_of (value (codes "large")))
    (value (codes "decimals"))

-- the same of `measure`
abbrev pub measure_read : Values → Option Named
measure_read value = option_map Measure (log_read value)

-- the same of `prove`
abbrev pub prove_read : Values → Option Named
prove_read value = option_map Prove (log_read value)

-- the same of `verify`
abbrev pub verify_read : Values → Option Named
verify_read value =
    verify_of (value (codes "mesh")) (value (codes "log")) (value (codes "proof"))
    (scale_of (value (codes "large"))) (value (codes "decimals"))

-- the same of `replay`
abbrev pub replay_read : Values → Option Named
replay_read value =
    replay_of (value (codes "mesh")) (value (codes "log")) (value (codes "prefix"))
    (scale_of (value (codes "large"))) (value (codes "decimals")) (value (codes "only"))

-- the same of `check`
abbrev pub check_read : Values → Option Named
check_read value =
    check_of (value (codes "mesh")) (scale_of (value (codes "large"))) (value (codes "decimals"))

-- ---- what a command finds

-- its matches, or nothing, where it does not take the words
abbrev pub IsFound : App → List (List ℕ) → Option ArgMatches → Type 0
IsFound app words (Some found) = HasMatchesOf app words found
IsFound app words None = takes app words ≡ true → ⊥

-- the value of each name that a command finds among words: its first one
abbrev pub values_in : App → List (List ℕ) → Values
values_in app words id = first_of id (matches_of app words)

-- what is read of the values that a command finds, or nothing, where it does not take the words
abbrev pub IsReadBy : (Values → Option Named) → App → List (List ℕ) → Option Named → Type 0
IsReadBy read app words named =
    (read (values_in app words) ≡ named) ⊎ ((takes app words ≡ true → ⊥) × (named ≡ None))

-- ---- by the first word

-- what is read of the values that the command of this name finds;
-- nothing, where there is no such command
abbrev pub read_by_name : List ℕ → Values → Option Named
read_by_name name =
    if bytes_eq name (codes "track") then track_read
    else if bytes_eq name (codes "convert") then convert_read
    else if bytes_eq name (codes "try") then try_read
    else if bytes_eq name (codes "measure") then measure_read
    else if bytes_eq name (codes "prove") then prove_read
    else if bytes_eq name (codes "verify") then verify_read
    else if bytes_eq name (codes "replay") then replay_read
    else if bytes_eq name (codes "check") then check_read
    else (λ value. None)

-- that command
abbrev pub app_by_name : List ℕ → App
app_by_name name =
    if bytes_eq name (codes "track") then track_app
    else if bytes_eq name (codes "convert") then convert_app
    else if bytes_eq name (codes "try") then try_app
    else if bytes_eq name (codes "measure") then measure_app
    else if bytes_eq name (codes "prove") then prove_app
    else if bytes_eq name (codes "verify") then verify_app
    else if bytes_eq name (codes "replay") then replay_app
    else if bytes_eq name (codes "check") then check_app
    else bare_app name

-- The words are read as what the command of their first word reads of the values that it finds, by
-- what `clap` says that a command finds; or as nothing, where it does not take them.
abbrev pub IsReadExactly : List (List ℕ) → Option Named → Type 0
IsReadExactly [] named = named ≡ None
IsReadExactly (first ∷ words) named =
    IsReadBy (read_by_name first) (app_by_name first) (first ∷ words) named
