-- When bytes are the name of a field.
use Rattle.std.proofs.Common.{◌≡◌, ℕ, Bool, true, false, ◌&&◌, leb, List, length, Some, None, refl, ap, lit≤, rules}
use Rattle.std.specs.Prelude.{IsUtf8, codes}
use Rattle.std.specs.Str.{is_utf8}
use Rattle.std.proofs.lemmas.Bool.{le-leb}
use Rattle.std.proofs.lemmas.Str.{IsUtf8-from_is_utf8, is_utf8-from_IsUtf8, IsUtf8-from_ascii}
use Rattle.mesh_plain.specs.declared.TheConstants.{FIELD_NAME_MAX}
use Rattle.mesh_plain.specs.FieldNames.{IsFieldName, field_name_of}

-- what fails its last part fails
last_fails : (a b : Bool) → b ≡ false → (a && b) ≡ false
last_fails true b fails = fails
last_fails false b fails = refl

is_false : (b : Bool) → (b ≡ true → ⊥) → b ≡ false
is_false true fails = absurd (fails refl)
is_false false fails = refl

pub name_of_text : (bytes text : List ℕ) → IsFieldName bytes → text ≡ bytes → Some text ≡ field_name_of bytes
name_of_text bytes text h e = rw (le-leb 1 (length bytes) h.some, le-leb (length bytes) FIELD_NAME_MAX h.few, is_utf8-from_IsUtf8 bytes h.text) (ap Some e)

pub no_name : (bytes : List ℕ) → ¬ (IsUtf8 bytes) → None ≡ field_name_of bytes
no_name bytes fails = rw (last_fails (leb 1 (length bytes) && leb (length bytes) FIELD_NAME_MAX) (is_utf8 bytes) (is_false (is_utf8 bytes) (λ e. fails (IsUtf8-from_is_utf8 bytes e)))) refl

pub underscore : IsFieldName (codes "_")
underscore = record { some = lit≤ tt; few = lit≤ tt; text = IsUtf8-from_ascii (codes "_") (search rules) }
