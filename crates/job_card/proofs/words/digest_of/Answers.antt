use Rattle.std.proofs.Common.{◌≡◌, true, false, sym, ap, ◌∙◌}
use Rattle.std.specs.Prelude.{is_err}
use Rattle.hex.specs.Hex.{encode_lower}
use Rattle.job_card.proofs.WordLaws.{digest_word, other_bytes, same_bytes}
use Rattle.job_card.proofs.words.digest_of.Goals as goal

pub returns-then-is_err : goal.returns-then-is_err
returns-then-is_err c = λ d g e.
    let ok = rw (digest_word c.args.word.now d g e) at c.decode_to_slice.ensures.value in
    let t : true ≡ false = c.if-is_err.ensures.value ∙ ap is_err ok.0 in
    cc

pub returns-then-eq : goal.returns-then-eq
returns-then-eq c = (
  c.hex_of-again.ensures.good,
  sym (same_bytes c.as_slice.result.now c.args.word.now c.eq.result c.eq.ensures c.if-eq.true) ∙ c.as_slice.ensures ∙ c.hex_of-again.ensures.value,
)

pub returns-else-eq : goal.returns-else-eq
returns-else-eq c = λ d g e.
    let ok = rw (digest_word c.args.word.now d g e) at c.decode_to_slice.ensures.value in
    other_bytes c.as_slice.result.now c.args.word.now c.eq.result c.eq.ensures c.if-eq.false (c.as_slice.ensures ∙ c.hex_of-again.ensures.value ∙ ap encode_lower ok.1 ∙ sym e)
