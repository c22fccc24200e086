use Rattle.std.proofs.Common.{eqb, sym, ap, ◌∙◌, ◌++◌, ◌∷◌}
use Rattle.std.specs.List.{slice_split, join_with_byte}
use Rattle.std.proofs.lemmas.List.Splits.{join_with_byte-slice_split}
use Rattle.job_card.proofs.Cuts.{three_same}
use Rattle.job_card.proofs.WordLaws.{mark_parts, same_name, other_name}
use Rattle.job_card.proofs.words.mark_of.Goals as goal

pub returns-in_default : goal.returns-in_default
returns-in_default c = λ m g e. c.in_default.ensures _ _ _ (ap (slice_split (λ b. eqb b 32)) e ∙ mark_parts c.args.name.now m c.requires g)

pub returns-then-ne : goal.returns-then-ne
returns-then-ne c = λ m g e.
    let s = three_same _ _ _ _ _ _ (sym c.in-Some.ensures ∙ ap (slice_split (λ b. eqb b 32)) e ∙ mark_parts c.args.name.now m c.requires g) in
    other_name c.in-Some.first.now c.args.name.now c.ne.result c.ne.ensures c.if-ne.true s.first

pub returns-in_default-number_of : goal.returns-in_default-number_of
returns-in_default-number_of c = λ m g e.
    let s = three_same _ _ _ _ _ _ (sym c.in-Some.ensures ∙ ap (slice_split (λ b. eqb b 32)) e ∙ mark_parts c.args.name.now m c.requires g) in
    c.in_default-number_of.ensures m.bytes g.bytes s.second

pub returns-in_default-digest_of : goal.returns-in_default-digest_of
returns-in_default-digest_of c = λ m g e.
    let s = three_same _ _ _ _ _ _ (sym c.in-Some.ensures ∙ ap (slice_split (λ b. eqb b 32)) e ∙ mark_parts c.args.name.now m c.requires g) in
    c.in_default-digest_of.ensures m.digest g.digest s.third

pub returns : goal.returns
returns c =
    let text = sym (join_with_byte-slice_split 32 c.args.line.now) ∙ ap (join_with_byte 32) c.in-Some.ensures in
    let name = same_name c.in-Some.first.now c.args.name.now c.ne.result c.ne.ensures c.if-ne.false in
    let a = c.in-Some-number_of.ensures in
    let b = c.in-Some-digest_of.ensures in
    (record { bytes = a.0; digest = b.0 }, text ∙ (λ i. name i ++ 32 ∷ (a.1 i ++ 32 ∷ b.1 i)))
