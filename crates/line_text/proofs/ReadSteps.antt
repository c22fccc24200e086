-- Steps of reading, one after the other.
use Rattle.std.proofs.Common.{◌≡◌, ℕ, Bool, true, false, ◌&&◌, List, Option, Some, Result, Ok, Err, refl, sym, subst}
use Rattle.std.specs.Prelude.{if◌then◌else◌}
use Rattle.std.specs.Str.{bytes_eq}
use Rattle.std.proofs.lemmas.Bool.{and_parts}
use Rattle.std.proofs.lemmas.Slice.Eq.{bytes_eq-Decides}
use Rattle.line_text.specs.Faults.{◌>>=◌}

pub ok_same : {A E : Type 0} (a b : A) → ◌≡◌ {A = Result A E} (Ok a) (Ok b) → a ≡ b
ok_same a b e = cc

pub some_same : {A : Type 0} (a b : A) → ◌≡◌ {A = Option A} (Some a) (Some b) → a ≡ b
some_same a b e = cc

-- both steps succeeded
pub record Bound {A B E : Type 0} (read : Result A E) (f : A → Result B E) (b : B) : Type 0 where
  pub value : A
  pub first : read ≡ Ok value
  pub after : f value ≡ Ok b

pub bound : {A B E : Type 0} (read : Result A E) (f : A → Result B E) (b : B) → (read >>= f) ≡ Ok b → Bound read f b
bound (Ok a) f b h = record { value = a; first = refl; after = h }
bound (Err why) f b h = absurd (let no : ⊥ = cc in no)

pub by_test : {X P : Type 0} (t : Bool) (a b x : X) → (t ≡ true → a ≡ x → P) → (t ≡ false → b ≡ x → P) → (if t then a else b) ≡ x → P
by_test true a b x f g h = f refl h
by_test false a b x f g h = g refl h

-- which of two a word leads to
pub picked : {X : Type 0} (P : List ℕ → Type 0) (word text : List ℕ) (a b x : X) → (a ≡ x → P text) → (b ≡ x → P word) → (if bytes_eq word text then a else b) ≡ x → P word
picked P word text a b x f g h = by_test (bytes_eq word text) a b x (λ t e. let same : word ≡ text = (bytes_eq-Decides word text).0 t in subst P (sym same) (f e)) (λ t e. g e) h

-- the same, where the word leads there only under a condition
pub picked_if : {X : Type 0} (P : List ℕ → Type 0) (word text : List ℕ) (holds : Bool) (a b x : X) → (holds ≡ true → a ≡ x → P text) → (b ≡ x → P word) → (if bytes_eq word text && holds then a else b) ≡ x → P word
picked_if P word text holds a b x f g h = by_test (bytes_eq word text && holds) a b x
    (λ t e.
    let both = and_parts (bytes_eq word text) holds t in
    let same : word ≡ text = (bytes_eq-Decides word text).0 both.0 in
    subst P (sym same) (f both.1 e))
    (λ t e. g e)
    h

-- no fault is a value
pub fault_value : {A E P : Type 0} (why : E) (a : A) → ◌≡◌ {A = Result A E} (Err why) (Ok a) → P
fault_value why a h = absurd (let no : ⊥ = cc in no)
