use Rattle.std.proofs.Common.{◌≡◌, ◌+◌, ◌∷◌, drop, sym, ap, subst, ◌∙◌, arith}
use Rattle.std.proofs.lemmas.List.{drop_more, drop_all}
use Rattle.track_run.specs.Marks.{HasMark}
use Rattle.track_run.proofs.Marking.{AreMarkedBut, passed_marked, passed_rising, all_passed}
use Rattle.track_run.proofs.surface_facts.mark_faces.Goals.{then-not-rises, else-not-rises}
use Rattle.track_run.proofs.surface_facts.mark_faces.Goals as goal

pub loop-c-preserved : goal.loop-c-preserved
loop-c-preserved c =
    let faces = c.args.faces.now in
    let i = c.loop-c.c-index in
    let d = c.c-item.result in
    let left = drop i faces in
    let next = drop (i + 1) faces in
    let step : left ≡ d ∷ next = drop_more faces i d c.loop-c-test.true ∙ ap (λ x. x ∷ next) (sym c.c-item.is) in
    elim c.if-not-rises.branch [
      | then-not-rises w ↦ subst (λ l. AreMarkedBut c.args.places faces next l.items) (sym w.marks-is)
          (passed_marked c.args.places faces left next d c.loop-c.marks.items w.put_mark.new.marks.items step
          (subst (λ k. HasMark c.loop-c.marks.items k w.put_mark.new.marks.items) w.face_place.ensures w.put_mark.ensures) c.loop-c.invariant)
      | else-not-rises w ↦ subst (λ l. AreMarkedBut c.args.places faces next l.items) (sym w.marks-is)
          (passed_rising c.args.places faces left next d c.loop-c.marks.items step (sym c.rises.ensures ∙ w.if-not-rises.false) c.loop-c.invariant)
    ]

pub returns : goal.returns
returns c =
    let faces = c.args.faces.now in
    all_passed c.args.places faces (drop c.loop-c.c-index faces) c.loop-c.marks.items (drop_all c.loop-c.c-index faces (omega (arith, c.loop-c-test.false))) c.loop-c.invariant
