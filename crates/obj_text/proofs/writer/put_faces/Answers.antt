use Rattle.std.proofs.Common.{◌≡◌, ◌++◌, ◌+◌, ◌∷◌, [], ℕ, List, take, length, get_or, is_some, Option, Some, None, refl, ap, sym, subst, ◌∙◌, arith}
use Rattle.std.specs.List.{flat_map}
use Rattle.std.specs.FinMap as finite
use Rattle.std.proofs.lemmas.List.{take_all, take_more, flat_map_more}
use Rattle.std.specs.Option.{option_map}
use Rattle.std.specs.List.Sorted.{IsNonDecreasing}
use Rattle.mesh_base.specs.declared.Corners.{Corners}
use Rattle.mesh_base.specs.Changes.{corner_list}
use Rattle.obj_text.specs.Written.{face_line}
use Rattle.obj_text.proofs.Ranks.{keys_rise}
use Rattle.obj_text.proofs.Lookups.{text_of_found, key_is_live, text_of_all, face_found}
use Rattle.obj_text.proofs.writer.put_faces.Goals as goal

is_some-option_map : (f : Corners → List ℕ) (o : Option Corners) → is_some (option_map f o) ≡ is_some o
is_some-option_map f (Some c) = refl
is_some-option_map f None = refl

pub unwrap-corners-requires : goal.unwrap-corners-requires
unwrap-corners-requires g c =
    let faces = (g.S.Surface.mesh c.args.mesh.now).faces in
    let i = c.loop-f.f-index in
    let f = c.f-item.result in
    let here : f ≡ get_or (finite.keys faces) i f = c.f-item.is ∙ ap (λ (ids : List ℕ). get_or ids i f) c.requires.live_faces in
    ap is_some (c.corners.ensures) ∙ is_some-option_map corner_list (finite.get faces f) ∙ ap (λ (k : ℕ). is_some (finite.get faces k)) here ∙ key_is_live faces i f (omega (arith, ap length c.requires.live_faces))

pub put_face-requires : goal.put_face-requires
put_face-requires g c = record { rising = subst IsNonDecreasing (sym c.requires.live) (keys_rise (g.S.Surface.mesh c.args.mesh.now).points) }

pub loop-f-preserved : goal.loop-f-preserved
loop-f-preserved g c =
    let m = g.S.Surface.mesh c.args.mesh.now in
    let i = c.loop-f.f-index in
    let f = c.f-item.result in
    let faces = c.args.faces.now in
    let line = λ (k : ℕ). text_of_found (face_line m) (finite.get m.faces k) in
    let written : c.put_face.new.out.items ≡ c.loop-f.out.items ++ line f = c.in_ok-put_face.ensures ∙ ap (λ (t : List ℕ). c.loop-f.out.items ++ t) (face_found m c.args.ids.now (finite.get m.faces f) c.unwrap-corners.result c.requires.live (sym c.corners.ensures ∙ c.unwrap-corners.ensures)) in
    let next : take (i + 1) faces ≡ take i faces ++ f ∷ [] = take_more faces i f c.loop-f-test.true ∙ ap (λ (k : ℕ). take i faces ++ k ∷ []) (sym c.f-item.is) in
    written ∙ ap (λ (t : List ℕ). t ++ line f) c.loop-f.invariant ∙ flat_map_more line c.args.out.now.items (take i faces) f ∙ ap (λ (ids : List ℕ). c.args.out.now.items ++ flat_map line ids) (sym next)

pub returns : goal.returns
returns g c =
    let m = g.S.Surface.mesh c.args.mesh.now in
    let line = λ (f : ℕ). text_of_found (face_line m) (finite.get m.faces f) in
    let all : take c.loop-f.f-index c.args.faces.now ≡ finite.keys m.faces = take_all c.loop-f.f-index c.args.faces.now (omega arith) ∙ c.requires.live_faces in
    c.loop-f.invariant ∙ ap (λ (ids : List ℕ). c.args.out.now.items ++ flat_map line ids) all ∙ ap (λ (t : List ℕ). c.args.out.now.items ++ t) (text_of_all m.faces (face_line m))
