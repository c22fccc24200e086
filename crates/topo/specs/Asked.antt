-- Which words ask for help, which for the help of a command, and which for the version.
use Rattle.std.specs.Prelude.{ℕ, Bool, List, length, ◌==◌, ◌&&◌, ◌||◌, codes}
use Rattle.std.specs.Str.{bytes_eq}
use Rattle.track_input.specs.Words.{word_at}

-- `--help` alone, or `-h` alone
abbrev pub is_help : List (List ℕ) → Bool
is_help words =
    length words == 1
    && (bytes_eq (word_at words 0) (codes "--help") || bytes_eq (word_at words 0) (codes "-h"))

-- the name of a command
abbrev pub is_command : List ℕ → Bool
is_command word =
    bytes_eq word (codes "track") || (bytes_eq word (codes "convert")
    || (bytes_eq word (codes "check") || (bytes_eq word (codes "measure")
    || (bytes_eq word (codes "prove") || (bytes_eq word (codes "verify")
    || (bytes_eq word (codes "replay") || bytes_eq word (codes "try")))))))

-- the name of a command and then `--help`, or the name of a command and then `-h`
abbrev pub is_command_help : List (List ℕ) → Bool
is_command_help words =
    length words == 2
    && (bytes_eq (word_at words 1) (codes "--help") || bytes_eq (word_at words 1) (codes "-h"))
    && is_command (word_at words 0)

-- `--version` alone
abbrev pub is_version : List (List ℕ) → Bool
is_version words = length words == 1 && bytes_eq (word_at words 0) (codes "--version")
