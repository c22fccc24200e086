-- Certificates of a text that are to come, of which each is read when it is taken.
use Rattle.std.specs.Prelude.{◌≡◌, ◌≤◌, ℕ, Bool, List, [], ◌∷◌, ◌++◌, length, drop, Option, Some, None, Result, Ok, Err}
use Rattle.line_text.specs.declared.TextFault.{TextFault}
use Rattle.line_text.specs.declared.ReadFault.{ReadFault}
use Rattle.line_text.specs.Faults.{at_line, Fails}
use Rattle.proof_text.specs.declared.proof_at.ProofAt.{ProofAt}
use Rattle.proof_text.specs.declared.reader.State.{State}
use Rattle.proof_text.specs.declared.reader.ReadOn.{ReadOn}
use Rattle.proof_text.specs.Laws.{IsGood}
use Rattle.proof_text.specs.Order.{Standing, so_far, line_adds, parts_add, parts_of_text}
use Rattle.proof_text.specs.Plain.{PlainProof}
use Rattle.proof_text.specs.Views.{proof_view, proofs_view, state_view}

-- what is left of a text gives, from where it stands on
abbrev pub rest_of : Standing → List ℕ → Result (List PlainProof) TextFault
rest_of at bytes = parts_add (so_far [] at) 1 (parts_of_text bytes)

-- certificates were read
abbrev pub HasProofs : Result (List PlainProof) TextFault → Type 0
HasProofs read = (proofs : List PlainProof) × (read ≡ Ok proofs)

-- and these are they
abbrev pub proofs_in : Result (List PlainProof) TextFault → List PlainProof
proofs_in (Ok proofs) = proofs
proofs_in (Err fault) = []

-- the certificates from a place of a text on, by what the text stands in there
abbrev pub proofs_ahead : Standing → List ℕ → ℕ → List PlainProof
proofs_ahead at text place = proofs_in (rest_of at (drop place text))

-- the place is one of the text's, and no line behind it is outside the grammar
pub record IsAhead (at : Standing) (text : List ℕ) (place : ℕ) : Type 0 where
  pub inside : place ≤ length text
  pub good : IsGood [] at
  pub proofs : HasProofs (rest_of at (drop place text))

-- a text was looked through: it has certificates, or the first line outside the grammar was met
abbrev pub IsChecked : {A : Type 0} → Result A ReadFault → Result (List PlainProof) TextFault →
    Type 0
IsChecked (Ok done) read = HasProofs read
IsChecked (Err fault) read = Fails fault read

-- a line is taken, and the certificates that were whole before it are forgotten
abbrev pub PassesLine : List PlainProof → Standing → ℕ → Bool → List ℕ → Result State ReadFault →
    Type 0
PassesLine whole at number ended text (Ok state) =
    (more : List PlainProof)
    × (at_line number (line_adds (so_far whole at) ended text) ≡ Ok (so_far more (state_view state)))
PassesLine whole at number ended text (Err fault) =
    Fails fault (at_line number (line_adds (so_far whole at) ended text))

-- the first of the certificates is taken off them, or there is none
abbrev pub TakesFirst : List PlainProof → Option ProofAt → List PlainProof → Type 0
TakesFirst old None new = (old ≡ []) × (new ≡ [])
TakesFirst old (Some proof) new = old ≡ proof_view proof ∷ new

-- the next certificates from a place of a text on, and what is behind them; none at the end
pub record ReadsOn (at : Standing) (text : List ℕ) (place : ℕ) (found : ReadOn) : Type 0 where
  pub ahead : IsAhead (state_view found.state) text found.at
  pub split : proofs_ahead at text place
      ≡ proofs_view found.found ++ proofs_ahead (state_view found.state) text found.at
  pub last : found.found ≡ [] → proofs_ahead at text place ≡ []
