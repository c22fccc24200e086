use Rattle.std.proofs.Common.{◌≡◌, refl, ◌==◌, true, false, Some, None, sym, ap, subst, ◌∙◌, arith}
use Rattle.std.proofs.lemmas.Bool.Decides.{nat_tests}
use Rattle.half_mesh.specs.declared.halves.Half.{Half}
use Rattle.half_mesh.specs.Ground.{Ground}
use Rattle.id_table.specs.Stock.{Stock}
use Rattle.half_mesh.specs.declared.row.Row.{Row}
use Rattle.half_mesh.proofs.SidesAt.{side_at-woven}
use Rattle.slab.specs.Slab.{get}
use Rattle.half_mesh.specs.Fans.{Fan, without_spoke}
use Rattle.half_mesh.specs.Walks.{woven_of}
use Rattle.half_mesh.proofs.Mapped.{insert_same}
use Rattle.half_mesh.proofs.Fanned.{fan-at, no_fan, fanned-insert, woven-insert}
use Rattle.half_mesh.proofs.Detached.{found_before, detached-first, detached-later, kept-absent, kept-none, kept-nothing, past-set}
use Rattle.half_mesh.proofs.fans.Fans.unlink.Goals as goal

face_of : {h g : Half} → Some h ≡ Some g → h.face ≡ g.face
face_of {h} {g} e = let same : h ≡ g = cc in ap (λ x. x.face) same

half_of : {h g : Half} → Some h ≡ Some g → h ≡ g
half_of e = cc

pub returns-in_default-clause-fans : goal.returns-in_default-clause-fans
returns-in_default-clause-fans c = λ fan is. let none = no_fan c.self.inside.rows.live c.self.inside.halves c.args.self.now.woven c.args.v (ap (λ (x : Ground). x.woven) c.self.view_is) c.in_default.ensures in cc

pub returns-then-row-eq0-clause-fans : goal.returns-then-row-eq0-clause-fans
returns-then-row-eq0-clause-fans c = λ fan is.
    let s = c.self.inside.halves in
    let was = fan-at c.self.inside.rows.live s c.args.self.now.woven c.args.v c.in-Some.row fan (ap (λ (x : Ground). x.woven) c.self.view_is) c.in-Some.ensures is in
    let same : without_spoke fan c.args.face ≡ fan = subst (λ x. without_spoke x c.args.face ≡ x) was (kept-none s c.args.face c.in-Some.row c.if-row-eq0.true) in
    sym (insert_same c.args.self.now.woven.fans c.args.v (without_spoke fan c.args.face) (is ∙ ap Some (sym same)))

pub returns-in_default-copied-clause-fans : goal.returns-in_default-copied-clause-fans
returns-in_default-copied-clause-fans c = λ fan is.
    let s = c.self.inside.halves in
    let was = fan-at c.self.inside.rows.live s c.args.self.now.woven c.args.v c.in-Some.row fan (ap (λ (x : Ground). x.woven) c.self.view_is) c.in-Some.ensures is in
    let none : get s c.in-Some.row.first ≡ None = sym c.get-2.ensures ∙ sym c.copied.ensures ∙ c.in_default-copied.is in
    let same : without_spoke fan c.args.face ≡ fan = subst (λ x. without_spoke x c.args.face ≡ x) was (kept-nothing s c.args.face c.in-Some.row none) in
    sym (insert_same c.args.self.now.woven.fans c.args.v (without_spoke fan c.args.face) (is ∙ ap Some (sym same)))

pub invariant_of-self : goal.invariant_of-self
invariant_of-self c =
    let s = c.self.inside.halves in
    let row = c.in-Some.row in
    let first = c.in-Some-copied.first in
    let at : get s row.first ≡ Some first = sym c.get-2.ensures ∙ sym c.copied.ensures ∙ c.in-Some-copied.is in
    let same = c.if-first-face.true in
    let tested : (first.face == c.args.face) ≡ true = grind (arith, nat_tests) in
    let was = c.self.invariant c.args.v row (sym c.in-Some.ensures) in
    let d = detached-first s c.self.inside.halves c.args.v c.args.face row first was (omega arith) at tested (λ k apart. refl) in
    rw (ap (λ (x : Stock Row). x.live) c.set.ensures) (fanned-insert c.self.inside.rows.live s c.self.inside.halves c.args.v _ c.self.invariant d.fanned d.others)

pub returns-then-first-face-clause-fans : goal.returns-then-first-face-clause-fans
returns-then-first-face-clause-fans c = λ fan is.
    let s = c.self.inside.halves in
    let row = c.in-Some.row in
    let first = c.in-Some-copied.first in
    let at : get s row.first ≡ Some first = sym c.get-2.ensures ∙ sym c.copied.ensures ∙ c.in-Some-copied.is in
    let same = c.if-first-face.true in
    let tested : (first.face == c.args.face) ≡ true = grind (arith, nat_tests) in
    let was = c.self.invariant c.args.v row (sym c.in-Some.ensures) in
    let d = detached-first s c.self.inside.halves c.args.v c.args.face row first was (omega arith) at tested (λ k apart. refl) in
    let fan_is = fan-at c.self.inside.rows.live s c.args.self.now.woven c.args.v row fan (ap (λ (x : Ground). x.woven) c.self.view_is) c.in-Some.ensures is in
    rw (ap (λ (x : Stock Row). x.live) c.set.ensures) (rw (← (ap (λ (x : Ground). x.woven) c.self.view_is)) (woven-insert c.self.inside.rows.live s c.self.inside.halves c.args.v _ (without_spoke fan c.args.face) c.self.invariant (d.fan ∙ ap (λ (x : Fan). without_spoke x c.args.face) fan_is) d.others))

pub returns-in_default-before-clause-fans : goal.returns-in_default-before-clause-fans
returns-in_default-before-clause-fans c = λ fan is.
    let s = c.self.inside.halves in
    let row = c.in-Some.row in
    let first = c.in-Some-copied.first in
    let at : get s row.first ≡ Some first = sym c.get-2.ensures ∙ sym c.copied.ensures ∙ c.in-Some-copied.is in
    let other = c.if-first-face.false in
    let some = c.if-row-eq0.false in
    let tested : (first.face == c.args.face) ≡ false = grind (arith, nat_tests) in
    let was = c.self.invariant c.args.v row (sym c.in-Some.ensures) in
    let fan_is = fan-at c.self.inside.rows.live s c.args.self.now.woven c.args.v row fan (ap (λ (x : Ground). x.woven) c.self.view_is) c.in-Some.ensures is in
    let same : without_spoke fan c.args.face ≡ fan = subst (λ x. without_spoke x c.args.face ≡ x) fan_is (kept-absent s c.args.v c.args.face row first was (omega arith) at tested (sym c.before-2.ensures ∙ c.in_default-before.is)) in
    sym (insert_same c.args.self.now.woven.fans c.args.v (without_spoke fan c.args.face) (is ∙ ap Some (sym same)))

pub returns-in_default-copied-2-clause-fans : goal.returns-in_default-copied-2-clause-fans
returns-in_default-copied-2-clause-fans c = λ fan is.
    let s = c.self.inside.halves in
    let row = c.in-Some.row in
    let first = c.in-Some-copied.first in
    let at : get s row.first ≡ Some first = sym c.get-2.ensures ∙ sym c.copied.ensures ∙ c.in-Some-copied.is in
    let some = c.if-row-eq0.false in
    let was = c.self.invariant c.args.v row (sym c.in-Some.ensures) in
    let around = found_before s c.args.v c.args.face row first _ was (omega arith) at (sym c.before-2.ensures ∙ c.in-Some-before.is) in
    let none : get s c.in-Some-before.half.after ≡ None = sym c.get-3.ensures ∙ sym c.copied-2.ensures ∙ c.in_default-copied-2.is in
    let there = around.gone_there in cc

pub invariant_of-self-2 : goal.invariant_of-self-2
invariant_of-self-2 c =
    let s = c.self.inside.halves in
    let row = c.in-Some.row in
    let first = c.in-Some-copied.first in
    let at : get s row.first ≡ Some first = sym c.get-2.ensures ∙ sym c.copied.ensures ∙ c.in-Some-copied.is in
    let other = c.if-first-face.false in
    let some = c.if-row-eq0.false in
    let tested : (first.face == c.args.face) ≡ false = grind (arith, nat_tests) in
    let was = c.self.invariant c.args.v row (sym c.in-Some.ensures) in
    let d = detached-later s c.set_after.new.halves c.args.v c.args.face row first _ c.in-Some-copied-2.gone was (omega arith) at tested (sym c.before-2.ensures ∙ c.in-Some-before.is) (let around = found_before s c.args.v c.args.face row first _ was (omega arith) at (sym c.before-2.ensures ∙ c.in-Some-before.is) in
    past-set s c.set_after.new.halves (c.in-Some-before.key, c.in-Some-before.half) c.in-Some-copied-2.gone around.there (sym c.get-3.ensures ∙ sym c.copied-2.ensures ∙ c.in-Some-copied-2.is) c.set_after.ensures.resets) in
    rw (ap (λ (x : Stock Row). x.live) c.set-2.ensures) (fanned-insert c.self.inside.rows.live s c.set_after.new.halves c.args.v _ c.self.invariant d.fanned d.others)

pub returns-clause-fans : goal.returns-clause-fans
returns-clause-fans c = λ fan is.
    let s = c.self.inside.halves in
    let row = c.in-Some.row in
    let first = c.in-Some-copied.first in
    let at : get s row.first ≡ Some first = sym c.get-2.ensures ∙ sym c.copied.ensures ∙ c.in-Some-copied.is in
    let other = c.if-first-face.false in
    let some = c.if-row-eq0.false in
    let tested : (first.face == c.args.face) ≡ false = grind (arith, nat_tests) in
    let was = c.self.invariant c.args.v row (sym c.in-Some.ensures) in
    let d = detached-later s c.set_after.new.halves c.args.v c.args.face row first _ c.in-Some-copied-2.gone was (omega arith) at tested (sym c.before-2.ensures ∙ c.in-Some-before.is) (let around = found_before s c.args.v c.args.face row first _ was (omega arith) at (sym c.before-2.ensures ∙ c.in-Some-before.is) in
    past-set s c.set_after.new.halves (c.in-Some-before.key, c.in-Some-before.half) c.in-Some-copied-2.gone around.there (sym c.get-3.ensures ∙ sym c.copied-2.ensures ∙ c.in-Some-copied-2.is) c.set_after.ensures.resets) in
    let fan_is = fan-at c.self.inside.rows.live s c.args.self.now.woven c.args.v row fan (ap (λ (x : Ground). x.woven) c.self.view_is) c.in-Some.ensures is in
    rw (ap (λ (x : Stock Row). x.live) c.set-2.ensures) (rw (← (ap (λ (x : Ground). x.woven) c.self.view_is)) (woven-insert c.self.inside.rows.live s c.set_after.new.halves c.args.v _ (without_spoke fan c.args.face) c.self.invariant (d.fan ∙ ap (λ (x : Fan). without_spoke x c.args.face) fan_is) d.others))

pub returns-clause-sides : goal.returns-clause-sides
returns-clause-sides c = λ key.
    side_at-woven c.self.inside.rows.live c.set_after.new.halves (woven_of c.self.inside.rows.live c.set_after.new.halves) key refl
    ∙ c.set_after.ensures.sides key
    ∙ sym (side_at-woven c.self.inside.rows.live c.self.inside.halves c.args.self.now.woven key (ap (λ (x : Ground). x.woven) c.self.view_is))
