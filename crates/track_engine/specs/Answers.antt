-- What the world gives to the directives of a run.
use Rattle.std.specs.Prelude.{◌≢◌, ℕ, List, [], ◌∷◌, map}
use Rattle.std.specs.List.{AllByRecursion}
use Rattle.grid_base.specs.declared.Shift.{Shift}
use Rattle.mesh_sizing.specs.declared.sizing.Want.{Want}
use Rattle.step_text.specs.declared.Directive.{Directive}
use Rattle.step_text.specs.declared.Directive.TheVariants.{Drive, Fit}
use Rattle.step_text.specs.declared.Placed.{Placed}

-- what is given to one directive: nothing, where nothing is asked or nothing is answered; that
-- there is no such field; the shifts of a field, one for each vertex; what a sizing wants of each
-- edge; or that of the first edges alone, where it answered of so many
pub data Answer : Type 0 where
  Nothing : Answer
  NoSuchField : Answer
  FieldShifts : (by : ℕ → Shift) → Answer
  Wanted : (wants : ℕ × ℕ → Want) → Answer
  WantedOfFirst : (count : ℕ) (wants : ℕ × ℕ → Want) → Answer

-- the answers to directives, one for each, in order
abbrev pub Answers : Type 0
Answers = List Answer

-- the answer to the first directive; nothing, where there are no more answers
abbrev pub first : Answers → Answer
first [] = Nothing
first (answer ∷ more) = answer

-- the answers to those after it
abbrev pub later : Answers → Answers
later [] = []
later (answer ∷ more) = more

-- what is given where no field has the name that a drive tells; to the other directives nothing is
-- given, to a pass by a sizing neither
abbrev pub without_field : Directive → Answer
without_field (Drive name) = NoSuchField
without_field _ = Nothing

-- the same to each of these directives
abbrev pub without_fields : List Placed → Answers
without_fields steps = map (λ placed. without_field placed.what) steps

-- none of them is a pass by a sizing
abbrev pub NoneFits : List Placed → Type 0
NoneFits steps = AllByRecursion (λ placed. placed.what ≢ Fit) steps
