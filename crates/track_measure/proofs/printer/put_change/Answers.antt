use Rattle.std.proofs.Common.{◌≡◌, ℕ, List, [], ◌∷◌, ◌++◌, to_z, of_z, w64, ap, subst, ◌∙◌, arith}
use Rattle.std.specs.Prelude.{codes, decimal, OnOk}
use Rattle.std.specs.Fmt.{signed_decimal}
use Rattle.std.proofs.lemmas.Int.{ints}
use Rattle.line_text.specs.WrittenLines.{line_of_words}
use Rattle.track_measure.proofs.printer.put_change.Goals as goal

abbrev words : List ℕ → List ℕ → List ℕ → List (List ℕ)
words n p e = codes "change" ∷ n ∷ codes "components" ∷ p ∷ codes "euler" ∷ e ∷ []

pub returns-clause-ok : goal.returns-clause-ok
returns-clause-ok c =
    let read : to_z w64 (of_z w64 c.args.shape.euler) ≡ c.args.shape.euler = omega (arith, ints) in
    let number : c.as_bytes.result.now ≡ signed_decimal c.args.shape.euler = c.as_bytes.ensures.value ∙ c.format.ensures.text ∙ ap signed_decimal read in
    let pieces : decimal c.from.result ≡ decimal c.args.shape.components = ap decimal c.from.ensures in
    let line : decimal c.from-2.result ≡ decimal c.args.line = ap decimal c.from-2.ensures in
    subst (λ ws. OnOk c.put_line.result (c.put_line.new.into.items ≡ c.args.into.now.items ++ line_of_words ws))
    (ap (λ n. words n (decimal c.from.result) c.as_bytes.result.now) line ∙ ap (λ p. words (decimal c.args.line) p c.as_bytes.result.now) pieces ∙ ap (λ e. words (decimal c.args.line) (decimal c.args.shape.components) e) number)
    c.put_line.ensures.ok
