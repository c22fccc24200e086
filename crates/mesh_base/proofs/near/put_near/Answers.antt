use Rattle.std.proofs.Common.{◌≡◌, ◌++◌, [], ◌∷◌, ℕ, Bool, true, false, cond, List, Some, refl, append_assoc, append-nil, ap, sym, ◌∙◌, arith}
use Rattle.std.specs.List.{filter}
use Rattle.std.specs.FinMap as map
use Rattle.mesh_base.specs.Near.{is_face_near}
use Rattle.mesh_base.specs.Sides.{above}
use Rattle.mesh_base.proofs.WalkSteps.{walk-start, above-step, above-end}
use Rattle.mesh_base.proofs.near.put_near.Goals as goal

one_more : (test : ℕ → Bool) (x : ℕ) (xs : List ℕ) → filter test (x ∷ []) ++ filter test xs ≡ filter test (x ∷ xs)
one_more test x xs = elim (test x) as (λ b. cond b (x ∷ []) [] ++ filter test xs ≡ cond b (x ∷ filter test xs) (filter test xs)) [ true ↦ refl | false ↦ refl ]

pub loop-f-init : goal.loop-f-init
loop-f-init g c =
    let m = g.T.FaceTable.mesh c.args.table.now in
    let start = walk-start m.faces (λ q h. (c.requires.sound.is_mesh.face_ids q h).0) in
    ap (λ into. into ++ filter (λ f. is_face_near m c.args.at.now f) (above 0 (map.keys m.faces))) c.requires.empty ∙ ap (λ ids. filter (λ f. is_face_near m c.args.at.now f) ids) start

pub loop-f-smaller : goal.loop-f-smaller
loop-f-smaller g c =
    let faces = (g.T.FaceTable.mesh c.args.table.now).faces in
    let rest = above-step faces c.loop-f.last c.f.inside.0 (sym c.in-Some.ensures ∙ ap Some (sym c.f.view_is)) in
    rw rest (omega arith)

pub loop-f-preserved : goal.loop-f-preserved
loop-f-preserved g c =
    let m = g.T.FaceTable.mesh c.args.table.now in
    let test : ℕ → Bool = λ f. is_face_near m c.args.at.now f in
    let f = c.f.inside.0 in
    let rest = above-step m.faces c.loop-f.last f (sym c.in-Some.ensures ∙ ap Some (sym c.f.view_is)) in
    let stored : c.put_if_near.new.into.items ≡ c.loop-f.into.items ++ filter test (f ∷ []) = c.in_ok-put_if_near.ensures ∙ ap (λ f. c.loop-f.into.items ++ filter test (f ∷ [])) (sym c.f.view_is) in
    ap (λ ids. ids ++ filter test (above f (map.keys m.faces))) stored
    ∙ append_assoc c.loop-f.into.items (filter test (f ∷ [])) (filter test (above f (map.keys m.faces)))
    ∙ ap (λ ids. c.loop-f.into.items ++ ids) (one_more test f (above f (map.keys m.faces)) ∙ ap (λ ids. filter test ids) (sym rest))
    ∙ c.loop-f.invariant

pub returns : goal.returns
returns g c =
    let m = g.T.FaceTable.mesh c.args.table.now in
    let test : ℕ → Bool = λ f. is_face_near m c.args.at.now f in
    let none = above-end c.loop-f.last (map.keys m.faces) (sym c.face_above.ensures ∙ c.in_default.is) in
    sym (append-nil c.loop-f.into.items) ∙ ap (λ ids. c.loop-f.into.items ++ filter test ids) (sym none) ∙ c.loop-f.invariant
