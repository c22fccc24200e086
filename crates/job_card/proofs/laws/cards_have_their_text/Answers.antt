use Rattle.job_card.proofs.WordLaws.{cards_have_their_text_lem}
use Rattle.job_card.proofs.laws.cards_have_their_text.Goals as goal

pub returns : goal.returns
returns c = cards_have_their_text_lem
