use Rattle.std.proofs.Common.{◌≡◌, ◌+◌, ◌∷◌, drop, sym, ap, ◌∙◌, arith}
use Rattle.std.proofs.lemmas.List.{drop_more, drop_all}
use Rattle.track_run.proofs.FirstSides.{all_left, passed_face, none_left}
use Rattle.track_run.proofs.surface_facts.is_one_crowded.Goals as goal

pub loop-c-init : goal.loop-c-init
loop-c-init g c = all_left (g.S.Surface.mesh c.args.mesh.now) c.args.places c.args.faces.now c.args.marks.now.items c.requires.faces

pub loop-c-preserved : goal.loop-c-preserved
loop-c-preserved g c =
    let faces = c.args.faces.now in
    let i = c.loop-c.c-index in
    let d = c.c-item.result in
    let left = drop i faces in
    let next = drop (i + 1) faces in
    let step : left ≡ d ∷ next = drop_more faces i d c.loop-c-test.true ∙ ap (λ x. x ∷ next) (sym c.c-item.is) in
    passed_face (g.S.Surface.mesh c.args.mesh.now) c.args.places left next d c.loop-c.marks.items c.is_side_met_twice.new.marks.items step (c.is_side_met_twice.ensures c.if-is_side_met_twice.false) c.loop-c.invariant

pub returns : goal.returns
returns g c = λ _.
    let faces = c.args.faces.now in
    none_left (g.S.Surface.mesh c.args.mesh.now) c.args.places (drop c.loop-c.c-index faces) c.loop-c.marks.items (drop_all c.loop-c.c-index faces (omega (arith, c.loop-c-test.false))) c.loop-c.invariant
