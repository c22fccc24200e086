use Rattle.std.proofs.Common.{◌≡◌, ℕ, Option, Some, None, sym, ap, ◌∙◌, arith}
use Rattle.std.specs.Prelude.{decimal}
use Rattle.job_card.proofs.WordLaws.{number_word, other_bytes}
use Rattle.job_card.proofs.words.number_of.Goals as goal

pub returns-in_default : goal.returns-in_default
returns-in_default c = λ n lt e.
    let no : ◌≡◌ {A = Option ℕ} None (Some n) = c.in_default.ensures.value ∙ number_word c.args.word.now n lt e in
    cc

pub returns-then-n-from : goal.returns-then-n-from
returns-then-n-from c = λ n lt e.
    let some : ◌≡◌ {A = Option ℕ} (Some c.in-Some.n) (Some n) = c.in-Some.ensures.value ∙ number_word c.args.word.now n lt e in
    let same : c.in-Some.n ≡ n = cc in
    let over = c.if-n-from.true in
    omega (arith, over, same, lt, c.from.ensures)

pub returns-else-eq : goal.returns-else-eq
returns-else-eq c = λ n lt e.
    let some : ◌≡◌ {A = Option ℕ} (Some c.in-Some.n) (Some n) = c.in-Some.ensures.value ∙ number_word c.args.word.now n lt e in
    let same : c.in-Some.n ≡ n = cc in
    other_bytes c.as_bytes.result.now c.args.word.now c.eq.result c.eq.ensures c.if-eq.false (c.as_bytes.ensures.value ∙ c.format.ensures.text ∙ ap decimal same ∙ sym e)
