use Rattle.std.proofs.Common.{◌≡◌, ◌≢◌, ⊎_elim, ℕ, Bool, true, false, cond, nat_eq, IsTrue, List, Some, sym, refl, ap, subst, ◌∙◌}
use Rattle.std.proofs.lemmas.Bool.{eqb-true, eqb-false, or_left, or_right, or_cases}
use Rattle.std.specs.HashMap.{get, HashMap}
use Rattle.std.specs.Map.{lookup}
use Rattle.grid_base.specs.declared.Extent.{Extent}
use Rattle.cell_grid.specs.Bounds.{bounds_of, bounds_meet}
use Rattle.cell_grid.specs.Cells.{Touches}
use Rattle.cell_grid.specs.Filed.{has, finds, held, is_seen, CellMap, AreFiled, SetsExtent, IsSeenOver, KeepsOthers, KeepsTouched}
use Rattle.cell_grid.proofs.items.set.Goals as goal

module _ {S T : Type 0} (cell item : ℕ) (at : Extent) (old new : HashMap ℕ Extent T) (large : List ℕ) (cells : CellMap S) (sets : SetsExtent item at old new) where
  -- an item is another one, or has the new extent
  by_item : {P : Type 0} (i : ℕ) (e : Extent) → get nat_eq new i ≡ Some e → (item ≡ i → at ≡ e → P) → (i ≢ item → get nat_eq old i ≡ Some e → P) → P
  by_item {P} i e got this other = go (nat_eq item i) refl
    where
      go : (b : Bool) → nat_eq item i ≡ b → P
      go true h = let is : Some at ≡ Some e = ap (λ b. cond b (Some at) (get nat_eq old i)) (sym h) ∙ sym (sets i) ∙ got in this (eqb-true item i h) cc
      go false h = other (λ same. eqb-false item i h (sym same)) (ap (λ b. cond b (Some at) (get nat_eq old i)) (sym h) ∙ sym (sets i) ∙ got)

  filed_new : AreFiled cell old large cells → IsSeenOver cell at item large cells → AreFiled cell new large cells
  filed_new filed over = λ i e c q got t h. by_item i e got
      (λ same is. subst (λ k. IsTrue (is_seen large cells c q k)) same (over c q (subst (λ x. Touches cell x c) (sym is) t) (subst (λ x. IsTrue (bounds_meet (bounds_of x) q)) (sym is) h)))
      (λ other had. filed i e c q had t h)

  -- also where the others stay, and all that stands where the new extent is
  filed_after : (less : CellMap S) → KeepsOthers item cells less → KeepsTouched cell at cells less → AreFiled cell new large cells → AreFiled cell new large less
  filed_after less others spared filed = λ i e c q got t h. ⊎_elim
      (λ among_large. or_left (has i large) _ among_large)
      (λ at_cell. or_right (has i large) _ (by_item i e got
      (λ same is. spared c q i (subst (λ x. Touches cell x c) (sym is) t) at_cell)
      (λ other had. others c q i other at_cell)))
      (or_cases (has i large) (finds q i (held cells c)) (filed i e c q got t h))

pub returns-in_err-file-clause-filed : goal.returns-in_err-file-clause-filed
returns-in_err-file-clause-filed c = λ i e at q got t h. c.in_err-file.ensures.keeps at q i (c.requires.filed i e at q got t h)

pub returns-in_err-was-clause-filed : goal.returns-in_err-was-clause-filed
returns-in_err-was-clause-filed c = λ i e at q got t h.
    c.in_ok-file.ensures.keeps at q i (c.requires.filed i e at q (sym (ap (lookup (nat_eq i)) c.in_err-was.ensures.err) ∙ got) t h)

pub returns-in-Some-clause-filed : goal.returns-in-Some-clause-filed
returns-in-Some-clause-filed c =
    let old = c.args.items.now in
    let new = c.insert.new.self in
    let large = c.file.new.large.items in
    let sets = c.in_ok-was.ensures.updates.0 in
    filed_after c.args.cell c.args.item c.args.at.now old new large c.file.new.cells sets c.unfile_but.new.cells c.unfile_but.ensures.others c.unfile_but.ensures.spared
    (filed_new c.args.cell c.args.item c.args.at.now old new large c.file.new.cells sets
    (λ i e at q got t h. c.in_ok-file.ensures.keeps at q i (c.requires.filed i e at q got t h))
    c.in_ok-file.ensures.ok)

pub returns-in-Some-clause-ok : goal.returns-in-Some-clause-ok
returns-in-Some-clause-ok c = c.in_ok-was.ensures.updates.0

pub returns-in-None-clause-filed : goal.returns-in-None-clause-filed
returns-in-None-clause-filed c =
    filed_new c.args.cell c.args.item c.args.at.now c.args.items.now c.insert.new.self c.file.new.large.items c.file.new.cells c.in_ok-was.ensures.updates.0
    (λ i e at q got t h. c.in_ok-file.ensures.keeps at q i (c.requires.filed i e at q got t h))
    c.in_ok-file.ensures.ok

pub returns-in-None-clause-ok : goal.returns-in-None-clause-ok
returns-in-None-clause-ok c = c.in_ok-was.ensures.updates.0
