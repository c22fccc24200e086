-- The names of the stored fields are names.
use Rattle.std.proofs.Common.{◌≡◌, ℕ, true, List, [], ◌∷◌, length, nat_lt, nat_le, IsAscii}
use Rattle.std.specs.List.{list_all}
use Rattle.std.proofs.lemmas.Bool.{and_parts, leb-true, ltb-true}
use Rattle.std.proofs.lemmas.Str.{IsUtf8-from_ascii}
use Rattle.std.proofs.lemmas.Str.Ascii.{IsAscii-cons, IsAscii-nil}
use Rattle.mesh_plain.specs.declared.TheConstants.{FIELD_NAME_MAX}
use Rattle.mesh_plain.specs.FieldNames.{IsFieldName}

are_ascii : (bytes : List ℕ) → list_all (λ b. nat_lt b 128) bytes ≡ true → IsAscii bytes
are_ascii [] e = IsAscii-nil
are_ascii (b ∷ bytes) e =
    let parts = and_parts (nat_lt b 128) (list_all (λ b. nat_lt b 128) bytes) e in
    IsAscii-cons b bytes (ltb-true b 128 parts.0) (are_ascii bytes parts.1)

-- a short text of ASCII is a name
pub is_name : (bytes : List ℕ) → nat_le 1 (length bytes) ≡ true → nat_le (length bytes) FIELD_NAME_MAX ≡ true → list_all (λ b. nat_lt b 128) bytes ≡ true → IsFieldName bytes
is_name bytes some few ascii = record {
  some = leb-true 1 (length bytes) some;
  few = leb-true (length bytes) FIELD_NAME_MAX few;
  text = IsUtf8-from_ascii bytes (are_ascii bytes ascii);
}
