use Rattle.std.proofs.Common.{◌≡◌, map, ap, sym, refl, subst, ◌∙◌, List, ℕ}
use Rattle.step_zones.specs.Ranks.{label_by, relabelled, relabelled_at, AreAlone}
use Rattle.step_zones.proofs.Ranked.{keeps_all}
use Rattle.step_zones.proofs.Alone.{all_joined, others_keep, still_alone}
use Rattle.step_zones.proofs.labels.join.Goals as goal

pub returns-else-not-are_one : goal.returns-else-not-are_one
returns-else-not-are_one c = record {
  joined = λ _.
      keeps_all c.five_labels-touched.result _ c.args.labels.now (sym c.are_one.ensures ∙ c.if-not-are_one.false)
      ∙ ap (λ ls. map (relabelled ls) c.args.labels.now) (c.five_labels-touched.ensures ∙ ap (λ (ls : List ℕ). map (label_by c.args.asked.now ls) c.args.five.now) c.as_slice.ensures);
  alone = λ _. c.requires.alone;
}

pub returns-in_ok-put_places : goal.returns-in_ok-put_places
returns-in_ok-put_places c =
    let asked = c.args.asked.now in
    let labels : List ℕ = c.args.labels.now in
    let five : List ℕ = c.args.five.now in
    let before : List ℕ = c.args.places.now.items in
    let places : List ℕ = c.put_places.new.places.items in
    let touched : List ℕ = map (label_by asked labels) five in
    let told : c.five_labels-touched.result ≡ touched = c.five_labels-touched.ensures ∙ ap (λ (ls : List ℕ). map (label_by asked ls) five) c.as_slice.ensures in
    let has = c.in_ok-put_places.ensures refl in
    let made : c.relabel.new.labels ≡ map (relabelled touched) labels =
    c.relabel.ensures
    ∙ (λ i. relabelled_at (told i) (c.as_slice-then-not-are_one.ensures.value i) 0 labels)
    ∙ all_joined touched places 0 labels (others_keep asked labels before places five c.requires.each c.requires.alone has) in
    record {
      joined = λ _. made;
      alone = λ _. subst (AreAlone asked places) (sym made) (still_alone asked labels before places five c.requires.alone has);
    }
