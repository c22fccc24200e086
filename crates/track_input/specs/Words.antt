-- The words of a command line, and the listed forms.
use Rattle.std.specs.Prelude.{ℕ, Bool, false, List, [], ◌∷◌, length, if◌then◌else◌, ◌==◌, ◌+◌, ◌-◌, ◌^◌}
use Rattle.std.specs.Prelude.{◌&&◌, not, nat_le, Option, Some, None, codes, slice_index, slice_index_or}
use Rattle.std.specs.List.{ends_with}
use Rattle.std.specs.Option.{option_and_then, option_map}
use Rattle.std.specs.Str.{bytes_eq}
use Rattle.grid_base.specs.declared.TheConstants.{DECIMALS_MAX}
use Rattle.mesh_base.specs.declared.Scale.{Scale}
use Rattle.mesh_base.specs.declared.Scale.TheVariants.{Standard, Large}
use Rattle.line_text.specs.Spellings.{spelled_number}
use Rattle.track_input.specs.declared.command.TheConstants.{CUBES_MAX}
use Rattle.track_input.specs.declared.mesh_file.Format.{Format}
use Rattle.track_input.specs.declared.mesh_file.Format.TheVariants.{Obj, Off, Ply}

-- the name of a mesh file, and the format that its ending picks
pub record MeshName : Type 0 where
  pub name : List ℕ
  pub format : Format

-- the names of a mesh file and of the file of a log that begins with that mesh, how large both
-- may be, and the decimals
pub record LogNames : Type 0 where
  pub mesh : List ℕ
  pub log : List ℕ
  pub scale : Scale
  pub decimals : ℕ

-- the same, and the name of the file of a proof of the log's motions
pub record ProofNames : Type 0 where
  pub names : LogNames
  pub proof : List ℕ

-- the same, and the prefix under which the meshes of the log are stored, and the number of
-- the one that is, where it is one
pub record ReplayNames : Type 0 where
  pub names : LogNames
  pub prefix : List ℕ
  pub only : Option ℕ

-- what a command line asks for: of `track`, the three file words, how large meshes and texts may
-- be, and the decimals; of `convert`, the two files, and the same; of `try`, the number of cubes
-- along an edge, and the key; of `measure` and `prove`, the two files, and the same; of `verify`,
-- the three files, and the same; of `replay`, the two files, the prefix, and what is told after;
-- of `check`, the file, how large it may be, and the decimals
pub data Named : Type 0 where
  Track : (mesh : List ℕ) (steps : List ℕ) (prefix : List ℕ) (scale : Scale) (decimals : ℕ) →
      Named
  Convert : (from : MeshName) (to : MeshName) (scale : Scale) (decimals : ℕ) → Named
  Try : (cubes : ℕ) (key : ℕ) → Named
  Measure : (names : LogNames) → Named
  Prove : (names : LogNames) → Named
  Verify : (names : ProofNames) → Named
  Replay : (names : ReplayNames) → Named
  Check : (mesh : MeshName) (scale : Scale) (decimals : ℕ) → Named

-- ---- words

-- the word at a place, from 0
abbrev pub word_at : List (List ℕ) → ℕ → List ℕ
word_at words i = slice_index_or words i []

-- not empty, and without a dash in front
abbrev pub is_file_word : List ℕ → Bool
is_file_word [] = false
is_file_word (b ∷ bs) = not (b == 45)

-- the format that the ending of a name picks
abbrev pub format_of : List ℕ → Option Format
format_of name =
    if ends_with (λ a b. a == b) name (codes ".obj") then Some Obj
    else if ends_with (λ a b. a == b) name (codes ".off") then Some Off
    else if ends_with (λ a b. a == b) name (codes ".ply") then Some Ply
    else None

-- the mesh file that a word names: a file word with the ending of a format
abbrev pub mesh_name_of : List ℕ → Option MeshName
mesh_name_of word =
    if is_file_word word
    then option_map (λ format. record { name = word; format = format }) (format_of word)
    else None

-- one digit from 0 to the greatest number of decimals
abbrev pub is_decimals : List ℕ → Bool
is_decimals word =
    length word == 1
    && (nat_le 48 (slice_index word 0) && nat_le (slice_index word 0) (48 + DECIMALS_MAX))

-- the scale that the words after the files begin with: large, where the first is `--large`
abbrev pub scale_in : List (List ℕ) → Scale
scale_in [] = Standard
scale_in (word ∷ words) = if bytes_eq word (codes "--large") then Large else Standard

-- the words after it
abbrev pub after_scale : List (List ℕ) → List (List ℕ)
after_scale [] = []
after_scale (word ∷ words) = if bytes_eq word (codes "--large") then words else word ∷ words

-- the decimals that words tell: 0 where there are none, and N where they are `--decimals N`
abbrev pub decimals_in : List (List ℕ) → Option ℕ
decimals_in [] = Some 0
decimals_in (option ∷ digit ∷ []) =
    if bytes_eq option (codes "--decimals") && is_decimals digit
    then Some (slice_index digit 0 - 48)
    else None
decimals_in _ = None

-- the scale and the decimals that the words after the files tell: `--large`, `--decimals N`, both
-- in this order, or neither
abbrev pub told_in : List (List ℕ) → Option (Scale × ℕ)
told_in words = option_map (λ n. (scale_in words, n)) (decimals_in (after_scale words))

-- a number from low to high
abbrev pub between : ℕ → ℕ → Option ℕ → Option ℕ
between low high None = None
between low high (Some n) = if nat_le low n && nat_le n high then Some n else None

-- the number from low to high that digits write, with no sign and no needless zero in front
abbrev pub number_in : ℕ → ℕ → List ℕ → Option ℕ
number_in low high word = between low high (spelled_number word)

-- the number of a mesh that `--only K` tells
abbrev pub only_in : List ℕ → List ℕ → Option ℕ
only_in option number =
    if bytes_eq option (codes "--only") then number_in 0 (2 ^ 32 - 1) number else None

-- the decimals, and the number of the one mesh, that words tell: `--decimals N`, `--only K`, both
-- in this order, or neither
abbrev pub numbers_in : List (List ℕ) → Option (ℕ × Option ℕ)
numbers_in [] = Some (0, None)
numbers_in (option ∷ word ∷ []) =
    if bytes_eq option (codes "--only")
    then option_map (λ k. (0, Some k)) (number_in 0 (2 ^ 32 - 1) word)
    else option_map (λ n. (n, None)) (decimals_in (option ∷ word ∷ []))
numbers_in (option ∷ digit ∷ last ∷ number ∷ []) =
    option_and_then (λ n. option_map (λ k. (n, Some k)) (only_in last number))
    (decimals_in (option ∷ digit ∷ []))
numbers_in _ = None

-- the scale, the decimals, and the number of the one mesh, that the words after the files of
-- `replay` tell: `--large`, and then these
abbrev pub options_in : List (List ℕ) → Option (Scale × ℕ × Option ℕ)
options_in words =
    option_map (λ told. (scale_in words, told.0, told.1)) (numbers_in (after_scale words))

-- ---- listed forms

-- MESH STEPS PREFIX, the scale and the decimals
abbrev pub track_in : List (List ℕ) → Option Named
track_in (mesh ∷ steps ∷ prefix ∷ behind) =
    if is_file_word mesh && (is_file_word steps && is_file_word prefix)
    then option_map (λ told. Track mesh steps prefix told.0 told.1) (told_in behind)
    else None
track_in _ = None

-- FROM TO, the scale and the decimals
abbrev pub convert_in : List (List ℕ) → Option Named
convert_in (from ∷ to ∷ behind) =
    option_and_then (λ from.
    option_and_then (λ to. option_map (λ told. Convert from to told.0 told.1) (told_in behind))
    (mesh_name_of to)) (mesh_name_of from)
convert_in _ = None

-- N KEY
abbrev pub try_in : List (List ℕ) → Option Named
try_in (cubes ∷ key ∷ []) =
    option_and_then (λ n. option_map (λ k. Try n k) (number_in 0 (2 ^ 32 - 1) key))
    (number_in 1 CUBES_MAX cubes)
try_in _ = None

-- MESH LOG, the scale and the decimals
abbrev pub log_in : List (List ℕ) → Option LogNames
log_in (mesh ∷ log ∷ behind) =
    if is_file_word mesh && is_file_word log
    then option_map
    (λ told. record { mesh = mesh; log = log; scale = told.0; decimals = told.1 })
    (told_in behind)
    else None
log_in _ = None

-- MESH LOG PROOF, the scale and the decimals
abbrev pub verify_in : List (List ℕ) → Option Named
verify_in (mesh ∷ log ∷ proof ∷ behind) =
    if is_file_word mesh && (is_file_word log && is_file_word proof)
    then option_map
    (λ told.
    Verify (record {
      names = record { mesh = mesh; log = log; scale = told.0; decimals = told.1 };
      proof = proof;
    }))
    (told_in behind)
    else None
verify_in _ = None

-- MESH LOG PREFIX, the scale, the decimals, and the number of the one mesh
abbrev pub replay_in : List (List ℕ) → Option Named
replay_in (mesh ∷ log ∷ prefix ∷ behind) =
    if is_file_word mesh && (is_file_word log && is_file_word prefix)
    then option_map
    (λ told.
    Replay (record {
      names = record { mesh = mesh; log = log; scale = told.0; decimals = told.1 };
      prefix = prefix;
      only = told.2;
    }))
    (options_in behind)
    else None
replay_in _ = None

-- MESH, the scale and the decimals
abbrev pub check_in : List (List ℕ) → Option Named
check_in (mesh ∷ behind) =
    option_and_then
    (λ mesh. option_map (λ told. Check mesh told.0 told.1) (told_in behind)) (mesh_name_of mesh)
check_in _ = None

-- The command that listed words name: `track MESH STEPS PREFIX`, `convert FROM TO`, `measure MESH
-- LOG`, `prove MESH LOG`, `verify MESH LOG PROOF`, `replay MESH LOG PREFIX` or `check MESH`, or one
-- of these and `--large`, `--decimals N` or both in this order; `replay` too with `--only K` after
-- that; or `try N KEY`.
abbrev pub named_in : List (List ℕ) → Option Named
named_in [] = None
named_in (first ∷ words) =
    if bytes_eq first (codes "track") then track_in words
    else if bytes_eq first (codes "convert") then convert_in words
    else if bytes_eq first (codes "try") then try_in words
    else if bytes_eq first (codes "measure") then option_map Measure (log_in words)
    else if bytes_eq first (codes "prove") then option_map Prove (log_in words)
    else if bytes_eq first (codes "verify") then verify_in words
    else if bytes_eq first (codes "replay") then replay_in words
    else if bytes_eq first (codes "check") then check_in words
    else None
