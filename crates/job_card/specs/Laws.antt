-- Which values a card can have, and which text is that of a card.
use Rattle.std.specs.Prelude.{◌≡◌, ℕ, ◌-◌, ◌^◌, ◌<◌, ◌≤◌, List, length, take, ◌++◌}
use Rattle.hex.specs.Hex.{IsBytes}
use Rattle.grid_base.specs.declared.TheConstants.{DECIMALS_MAX}
use Rattle.job_card.specs.declared.card.Card.{Card}
use Rattle.job_card.specs.declared.card.FileMark.{FileMark}
use Rattle.job_card.specs.declared.card.Version.{Version}
use Rattle.job_card.specs.Text.{lines_of, text_of, text_of_lines}

-- each number has at most 64 bits
pub record IsVersion (v : Version) : Type 0 where
  pub major : v.major < 2 ^ 64
  pub minor : v.minor < 2 ^ 64
  pub patch : v.patch < 2 ^ 64

-- 32 bytes
pub record IsDigest (digest : List ℕ) : Type 0 where
  pub long : length digest ≡ 32
  pub bytes : IsBytes digest

-- a number of bytes of at most 64 bits, and a digest
pub record IsMark (m : FileMark) : Type 0 where
  pub bytes : m.bytes < 2 ^ 64
  pub digest : IsDigest m.digest

-- the values are in their ranges
pub record IsGood (c : Card) : Type 0 where
  pub program : IsVersion c.program
  pub decimals : c.decimals ≤ DECIMALS_MAX
  pub mesh : IsMark c.mesh
  pub steps : IsMark c.steps
  pub log : IsMark c.log

-- a text is that of a card
pub record IsCard (text : List ℕ) : Type 0 where
  pub card : Card
  pub good : IsGood card
  pub same : text ≡ text_of card

-- the first so many lines are those of a card
pub record BeginsAsCard (count : ℕ) (text : List ℕ) : Type 0 where
  pub card : Card
  pub good : IsGood card
  pub rest : List ℕ
  pub begins : text ≡ text_of_lines (take count (lines_of card)) ++ rest

-- the first line that a card does not have there: the lines before it are those of a card, and
-- no card has those and it. The eighth line is one behind the last.
pub record IsFirstBad (line : ℕ) (text : List ℕ) : Type 0 where
  pub above : 1 ≤ line
  pub below : line ≤ 8
  pub before : BeginsAsCard (line - 1) text
  pub here : line ≤ 7 → BeginsAsCard line text → ⊥
  pub none : IsCard text → ⊥

-- ---- laws

-- two cards with one text are one card
abbrev pub CardsHaveTheirText : Type 0
CardsHaveTheirText = (c d : Card) → IsGood c → IsGood d → text_of c ≡ text_of d → c ≡ d
