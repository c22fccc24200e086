-- How a job differs from its card.
use Rattle.std.specs.Prelude.{◌≡◌, ◌≢◌, ℕ, List, length, Option, MatchOption}
use Rattle.sha2.specs.Sha256.{sha256}
use Rattle.job_card.specs.declared.card.Card.{Card}
use Rattle.job_card.specs.declared.card.FileMark.{FileMark}
use Rattle.job_card.specs.declared.facts.Part.{Part}
use Rattle.job_card.specs.declared.facts.Part.TheVariants.{Decimals, Mesh, Log}
use Rattle.job_card.specs.declared.facts.Facts.{Facts}

-- the mark of these bytes: how many there are, and their digest
pub record Marks (bytes : List ℕ) (m : FileMark) : Type 0 where
  pub bytes_are : m.bytes ≡ length bytes
  pub digest_is : m.digest ≡ sha256 bytes

-- decimals, mesh and log are those of the card
abbrev pub IsAlike : Card → Facts → Type 0
IsAlike c f = (c.decimals ≡ f.decimals) × (c.mesh ≡ f.mesh) × (c.log ≡ f.log)

-- this one is another than the card's, and those before it are not
abbrev pub IsFirst : Part → Card → Facts → Type 0
IsFirst Decimals c f = c.decimals ≢ f.decimals
IsFirst Mesh c f = (c.decimals ≡ f.decimals) × (c.mesh ≢ f.mesh)
IsFirst Log c f = (c.decimals ≡ f.decimals) × (c.mesh ≡ f.mesh) × (c.log ≢ f.log)

-- the first of decimals, mesh and log that is another than the card's; none, exactly where all are
-- the card's
abbrev pub IsFirstDifference : Card → Facts → Option Part → Type 0
IsFirstDifference c f part = MatchOption part (IsAlike c f) (λ first. IsFirst first c f)
