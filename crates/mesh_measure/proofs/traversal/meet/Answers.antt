use Rattle.std.proofs.Common.{◌≡◌, Bool, true, false, not, ap, subst, refl, sym, ◌∙◌, ◌∷◌, ◌++◌, []}
use Rattle.std.specs.Bool.{OnFalse}
use Rattle.std.proofs.lemmas.Bool.{false≢true}
use Rattle.mesh_measure.specs.Walk.{has_met, Meets}
use Rattle.mesh_measure.proofs.Meeting.{updated, unchanged, new_met, was_met, not_true, not_false}
use Rattle.mesh_measure.proofs.traversal.meet.Goals as goal

left : (b : Bool) {P : Type 0} → b ≡ false → OnFalse b P → P
left true e h = absurd (false≢true (sym e))
left false e h = h

pub returns-in_ok-push : goal.returns-in_ok-push
returns-in_ok-push c =
    let v = c.v.inside.0 in
    let old = c.args.met.now in
    let new = c.insert.new.self in
    let queue = c.args.queue.now in
    let added : not (has_met old v) ≡ true = sym c.in_ok-insert.ensures.added ∙ c.if-branch.true in
    let put : c.push.new.self ≡ queue ++ v ∷ [] = c.in_ok-push.ensures.ok ∙ ap (λ u. queue ++ u ∷ []) (sym c.v.view_is) in
    subst (λ u. Meets (u ∷ []) old new queue c.push.new.self) c.v.view_is
    (new_met v old new queue c.push.new.self (not_true (has_met old v) added) (updated v old new c.in_ok-insert.ensures.updates) put)

pub returns-else-branch : goal.returns-else-branch
returns-else-branch c =
    let v = c.v.inside.0 in
    let old = c.args.met.now in
    let new = c.insert.new.self in
    let queue = c.args.queue.now in
    let known : not (has_met old v) ≡ false = sym c.in_ok-insert.ensures.added ∙ c.if-branch.false in
    subst (λ u. Meets (u ∷ []) old new queue queue) c.v.view_is
    (was_met v old new queue queue (not_false (has_met old v) known) (unchanged old new (left c.in_ok-insert.field-0 c.if-branch.false c.in_ok-insert.ensures.unchanged)) refl)
