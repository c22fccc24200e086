use Rattle.std.proofs.Common.{◌≡◌, ◌<◌, ◌≤◌, ◌==◌, ◌++◌, ◌∷◌, [], not, length, get_or, refl, sym, ap, subst, ◌∙◌, arith}
use Rattle.std.proofs.lemmas.List.{get_or_default}
use Rattle.std.specs.List.{filter}
use Rattle.edit_pinch.specs.Pinch.{share_second}
use Rattle.edit_pinch.specs.Parting.{face_ids}
use Rattle.edit_pinch.proofs.Growing.{IsGrown, at_first, grown_on, fewer_left, is_class, none_left}
use Rattle.edit_pinch.proofs.Parted.{ids_are, cornered_still, rest_is, more_is}
use Rattle.edit_pinch.proofs.vertex_fans.gather.Goals as goal

pub loop-i-init : goal.loop-i-init
loop-i-init g c =
    let m = g.S.Surface.mesh c.args.mesh.now in
    let touch = share_second m c.args.v in
    let all = c.args.faces.now in
    let f = c.args.f in
    let left = c.in_ok-left.left in
    let others = filter (λ y. not (y == f)) all in
    let one : c.push.new.self ≡ f ∷ [] = c.in_ok-push.ensures.ok ∙ ap (λ l. l ++ f ∷ []) c.new-fan.ensures in (
      subst (λ fan. IsGrown touch all f fan (face_ids left) 0) (sym one)
          (subst (λ l. IsGrown touch all f (f ∷ []) l 0) (sym (ids_are m others left c.in_ok-left.ensures)) (at_first touch all f c.requires)),
      cornered_still m others left c.in_ok-left.ensures,
    )

pub loop-i-smaller : goal.loop-i-smaller
loop-i-smaller g c =
    let m = g.S.Surface.mesh c.args.mesh.now in
    let touch = share_second m c.args.v in
    let fan = c.loop-i.fan in
    let left = c.loop-i.left in
    let x = c.index-as_slice-i.result in
    let given = c.as_slice-in-loop-i.result.now in
    let below : c.loop-i.i < length fan = omega arith in
    let near : x ≡ get_or fan c.loop-i.i 0 = c.index-as_slice-i.is ∙ ap (λ l. get_or l c.loop-i.i x) c.as_slice.ensures ∙ get_or_default fan c.loop-i.i x 0 below in
    let rest = rest_is m c.args.v x c.corners_at-c.result c.corners_at-c.ensures left given c.as_slice-in-loop-i.ensures c.loop-i.invariant.1 c.in_ok-left-2.left c.in_ok-left-2.ensures.left in
    let more = more_is m c.args.v x c.corners_at-c.result c.corners_at-c.ensures left given c.as_slice-in-loop-i.ensures c.loop-i.invariant.1 in
    fewer_left touch c.args.faces.now c.args.f fan (face_ids left) c.loop-i.i c.loop-i.invariant.0 x (face_ids left) c.join_fan.new.fan (face_ids c.in_ok-left-2.left) near refl
    (c.in_ok-left-2.ensures.fan ∙ ap (λ l. fan ++ l) more) (ids_are m (filter (λ y. not (touch x y)) (face_ids left)) c.in_ok-left-2.left rest) below

pub loop-i-preserved : goal.loop-i-preserved
loop-i-preserved g c =
    let m = g.S.Surface.mesh c.args.mesh.now in
    let touch = share_second m c.args.v in
    let fan = c.loop-i.fan in
    let left = c.loop-i.left in
    let x = c.index-as_slice-i.result in
    let given = c.as_slice-in-loop-i.result.now in
    let below : c.loop-i.i < length fan = omega arith in
    let near : x ≡ get_or fan c.loop-i.i 0 = c.index-as_slice-i.is ∙ ap (λ l. get_or l c.loop-i.i x) c.as_slice.ensures ∙ get_or_default fan c.loop-i.i x 0 below in
    let rest = rest_is m c.args.v x c.corners_at-c.result c.corners_at-c.ensures left given c.as_slice-in-loop-i.ensures c.loop-i.invariant.1 c.in_ok-left-2.left c.in_ok-left-2.ensures.left in
    let more = more_is m c.args.v x c.corners_at-c.result c.corners_at-c.ensures left given c.as_slice-in-loop-i.ensures c.loop-i.invariant.1 in
    let kept = filter (λ y. not (touch x y)) (face_ids left) in (
      grown_on touch c.args.faces.now c.args.f fan (face_ids left) c.loop-i.i c.loop-i.invariant.0 x (face_ids left) c.join_fan.new.fan (face_ids c.in_ok-left-2.left) near refl
          (c.in_ok-left-2.ensures.fan ∙ ap (λ l. fan ++ l) more) (ids_are m kept c.in_ok-left-2.left rest) below,
      cornered_still m kept c.in_ok-left-2.left rest,
    )

pub returns-clause-found : goal.returns-clause-found
returns-clause-found g c y =
    let touch = share_second (g.S.Surface.mesh c.args.mesh.now) c.args.v in
    let end : length c.loop-i.fan ≤ c.loop-i.i = omega arith in
    is_class touch c.args.faces.now c.args.f c.loop-i.fan (face_ids c.loop-i.left) c.loop-i.i c.loop-i.invariant.0 end y

pub returns-clause-all : goal.returns-clause-all
returns-clause-all g c none y has =
    let touch = share_second (g.S.Surface.mesh c.args.mesh.now) c.args.v in
    none_left touch c.args.faces.now c.args.f c.loop-i.fan (face_ids c.loop-i.left) c.loop-i.i c.loop-i.invariant.0 (ap face_ids none) y has
