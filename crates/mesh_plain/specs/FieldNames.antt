-- What is the name of a stored field.
use Rattle.std.specs.Prelude.{ℕ, ◌≤◌, ◌&&◌, Bool, if◌then◌else◌, nat_le, List, length, Option, Some, None, IsUtf8}
use Rattle.std.specs.Str.{is_utf8}
use Rattle.mesh_plain.specs.declared.TheConstants.{FIELD_NAME_MAX}

-- a text of one byte or more, up to the limit
pub record IsFieldName (bytes : List ℕ) : Type 0 where
  pub some : 1 ≤ length bytes
  pub few : length bytes ≤ FIELD_NAME_MAX
  pub text : IsUtf8 bytes

-- whether the bytes are such a name
abbrev pub is_field_name : List ℕ → Bool
is_field_name bytes =
    nat_le 1 (length bytes) && nat_le (length bytes) FIELD_NAME_MAX && is_utf8 bytes

-- the name that the bytes are, if they are one
abbrev pub field_name_of : List ℕ → Option (List ℕ)
field_name_of bytes = if is_field_name bytes then Some bytes else None
