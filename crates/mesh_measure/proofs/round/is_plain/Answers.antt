use Rattle.std.proofs.Common.{◌≡◌, ◌<◌, length, get_or, sym, ap, subst, ◌∙◌, arith}
use Rattle.std.proofs.lemmas.List.{nil_from_length, get_or_default}
use Rattle.mesh_base.specs.Sides.{faces_at}
use Rattle.mesh_measure.specs.Round.{behind, AreLinks, TakesReached}
use Rattle.edit_base.proofs.Chains.{Has}
use Rattle.mesh_measure.proofs.Spreading.{had}
use Rattle.mesh_measure.proofs.Rounding.{round_plain, bare_plain}
use Rattle.mesh_measure.proofs.round.is_plain.Goals as goal

pub returns-then-count-eq0-clause-plain : goal.returns-then-count-eq0-clause-plain
returns-then-count-eq0-clause-plain g c = λ done.
    let m = g.S.Surface.mesh c.args.mesh.now in
    let items = c.faces_at.new.into.items in
    let none : length items ≡ 0 = ap length (sym c.as_slice-count.ensures.value) ∙ c.if-count-eq0.true in
    bare_plain m (g.met.S.Surface.sound c.args.mesh.now) c.args.v (sym c.in_ok-faces_at.ensures.ok ∙ nil_from_length items none)

pub returns-then-count-eq0-clause-empty : goal.returns-then-count-eq0-clause-empty
returns-then-count-eq0-clause-empty g c = λ done. c.requires

pub returns-clause-empty : goal.returns-clause-empty
returns-clause-empty g c = λ done. nil_from_length c.take_links.new.links.entries (c.is_empty.ensures.0 done)

pub returns-clause-plain : goal.returns-clause-plain
returns-clause-plain g c = λ done.
    let m = g.S.Surface.mesh c.args.mesh.now in
    let v = c.args.v in
    let links = c.put_links.new.links in
    let items = c.faces_at.new.into.items in
    let f = c.index-as_slice-0.result in
    let some : 0 < length items = (let many = ap length c.as_slice-count.ensures.value in let not_none = c.if-count-eq0.false in omega (arith, many, not_none)) in
    let f_is : f ≡ get_or items 0 0 = c.index-as_slice-0.is ∙ ap (λ l. get_or l 0 f) c.as_slice-2.ensures.value ∙ get_or_default items 0 f 0 some in
    let f_in : Has (faces_at m v) f = subst (λ x. Has (faces_at m v) x) (sym f_is) (subst (λ fs. Has fs (get_or items 0 0)) c.in_ok-faces_at.ensures.ok (had items 0 some)) in
    let are : AreLinks m v (faces_at m v) links = subst (λ fs. AreLinks m v fs links) (c.as_slice.ensures.value ∙ c.in_ok-faces_at.ensures.ok) (c.in_ok-put_links.ensures c.if-not-branch.false) in
    round_plain m (g.met.S.Surface.sound c.args.mesh.now) v links are f f_in c.take_links.new.links
    (subst (λ k. TakesReached k links c.take_links.new.links) (c.behind-first.ensures ∙ ap (λ k. behind k v) c.corners_at-c.ensures) c.take_links.ensures)
    (nil_from_length c.take_links.new.links.entries (c.is_empty.ensures.0 done))
