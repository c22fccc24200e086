-- What a desk holds.
use Rattle.std.specs.Prelude.{◌≡◌, ◌≢◌, ℕ, ◌≤◌, List, length, IsSomeAnd}
use Rattle.std.specs.Ordering.{nat_cmp}
use Rattle.std.specs.Cmp.Lexicographic.{slice_cmp}
use Rattle.std.specs.FinMap.{FinMap, get, insert}
use Rattle.std.specs.declared.option.Option.{Option}
use Rattle.std.specs.declared.option.Option.TheVariants.{None, Some}

-- the bytes of each file, by its name
abbrev pub Files : Type 0
Files = FinMap (slice_cmp nat_cmp) (List ℕ)

-- the files, where the desk tells them, with these bytes under the name
abbrev pub with_file : Option Files → List ℕ → List ℕ → Option Files
with_file None name bytes = None
with_file (Some files) name bytes = Some (insert files name bytes)

-- each other name holds what it held
abbrev pub SameBut : List ℕ → Option Files → Option Files → Type 0
SameBut name None after = after ≡ None
SameBut name (Some before) None = Some before ≡ None
SameBut name (Some before) (Some after) = (q : List ℕ) → q ≢ name → get after q ≡ get before q

-- where it is told, the name holds these bytes
abbrev pub HoldsFile : Option Files → List ℕ → List ℕ → Type 0
HoldsFile None name bytes = Unit {0}
HoldsFile (Some files) name bytes = get files name ≡ Some bytes

-- where it is told, the name holds no file
abbrev pub HoldsNoFile : Option Files → List ℕ → Type 0
HoldsNoFile None name = Unit {0}
HoldsNoFile (Some files) name = get files name ≡ None

-- where it is told, the name holds a file of at least this many bytes
abbrev pub HoldsAtLeast : Option Files → List ℕ → ℕ → Type 0
HoldsAtLeast None name seen = Unit {0}
HoldsAtLeast (Some files) name seen = IsSomeAnd (get files name) (λ bytes. seen ≤ length bytes)
