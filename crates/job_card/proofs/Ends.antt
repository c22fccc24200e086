-- What is read of the text of a card is the card.
use Rattle.std.proofs.Common.{◌≡◌, ℕ, List, Result, Ok, Err, sym, ap, ◌∙◌}
use Rattle.std.specs.Prelude.{MatchResult}
use Rattle.job_card.specs.declared.card.Card.{Card}
use Rattle.job_card.specs.declared.parser.CardFault.{CardFault}
use Rattle.job_card.specs.Text.{text_of}
use Rattle.job_card.specs.Laws.{IsGood, IsFirstBad}
use Rattle.job_card.proofs.WordLaws.{cards_have_their_text_lem}

pub is_again : (text : List ℕ) (result : Result Card CardFault) → MatchResult result (λ card. IsGood card × (text ≡ text_of card)) (λ f. IsFirstBad f.line text) → (card : Card) → IsGood card → text ≡ text_of card → result ≡ Ok card
is_again text (Ok found) h card g e = ap Ok (cards_have_their_text_lem found card h.0 g (sym h.1 ∙ e))
is_again text (Err f) h card g e = absurd (h.none (record { card = card; good = g; same = e }))
