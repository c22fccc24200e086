use Rattle.std.proofs.Common.{eqb, sym, ap, ◌∙◌, ◌++◌, ◌∷◌}
use Rattle.std.specs.List.{slice_split, join_with_byte}
use Rattle.std.proofs.lemmas.List.Splits.{join_with_byte-slice_split}
use Rattle.job_card.proofs.Cuts.{three_same}
use Rattle.job_card.proofs.WordLaws.{version_parts}
use Rattle.job_card.proofs.words.version_of.Goals as goal

pub returns-in_default : goal.returns-in_default
returns-in_default c = λ v g e. c.in_default.ensures _ _ _ (ap (slice_split (λ b. eqb b 46)) e ∙ version_parts v g)

pub returns-in_default-number_of : goal.returns-in_default-number_of
returns-in_default-number_of c = λ v g e.
    let s = three_same _ _ _ _ _ _ (sym c.in-Some.ensures ∙ ap (slice_split (λ b. eqb b 46)) e ∙ version_parts v g) in
    c.in_default-number_of.ensures v.major g.major s.first

pub returns-in_default-number_of-2 : goal.returns-in_default-number_of-2
returns-in_default-number_of-2 c = λ v g e.
    let s = three_same _ _ _ _ _ _ (sym c.in-Some.ensures ∙ ap (slice_split (λ b. eqb b 46)) e ∙ version_parts v g) in
    c.in_default-number_of-2.ensures v.minor g.minor s.second

pub returns-in_default-number_of-3 : goal.returns-in_default-number_of-3
returns-in_default-number_of-3 c = λ v g e.
    let s = three_same _ _ _ _ _ _ (sym c.in-Some.ensures ∙ ap (slice_split (λ b. eqb b 46)) e ∙ version_parts v g) in
    c.in_default-number_of-3.ensures v.patch g.patch s.third

pub returns : goal.returns
returns c =
    let text = sym (join_with_byte-slice_split 46 c.args.word.now) ∙ ap (join_with_byte 46) c.in-Some.ensures in
    let a = c.in-Some-number_of.ensures in
    let b = c.in-Some-number_of-2.ensures in
    let d = c.in-Some-number_of-3.ensures in
    (record { major = a.0; minor = b.0; patch = d.0 }, text ∙ (λ i. a.1 i ++ 46 ∷ (b.1 i ++ 46 ∷ d.1 i)))
