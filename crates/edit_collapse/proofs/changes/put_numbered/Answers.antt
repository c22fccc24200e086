use Rattle.std.proofs.Common.{◌≡◌, ◌<◌, ◌+◌, ◌++◌, ℕ, List, [], ◌∷◌, length, drop, get_or, refl, sym, ap, ◌∙◌, append_assoc, arith}
use Rattle.mesh_base.specs.declared.ids.Corners.{Corners}
use Rattle.edit_base.specs.Edges.{renamed}
use Rattle.edit_collapse.specs.Tried.{numbered}
use Rattle.edit_collapse.proofs.Lists.{rest_at, ended, nothing_more}
use Rattle.edit_collapse.proofs.changes.put_numbered.Goals as goal

pub loop-e-init : goal.loop-e-init
loop-e-init c = (refl, omega arith)

pub overflow_add-next : goal.overflow_add-next
overflow_add-next c =
    let few = c.requires.few in
    let below = c.loop-e.invariant.1 in
    let more = c.loop-e-test.true in
    omega (arith, few, below, more)

-- one face more has its number
numbered_at : (a b next : ℕ) (faces : List (ℕ × Corners)) (es : List (ℕ × Corners)) (i : ℕ) (x : ℕ × Corners) → i < length es → x ≡ get_or es i x →
    (faces ++ (next, renamed b a x.1) ∷ []) ++ numbered b a (next + 1) (drop (i + 1) es) ≡ faces ++ numbered b a next (drop i es)
numbered_at a b next faces es i x more is =
    append_assoc faces ((next, renamed b a x.1) ∷ []) (numbered b a (next + 1) (drop (i + 1) es))
    ∙ ap (λ (xs : List (ℕ × Corners)). faces ++ numbered b a next xs) (sym (rest_at es i x more ∙ ap (λ (y : ℕ × Corners). y ∷ drop (i + 1) es) (sym is)))

pub loop-e-preserved : goal.loop-e-preserved
loop-e-preserved c =
    let items = c.args.joining.now in
    let next = c.loop-e.next in
    let below = c.loop-e.invariant.1 in
    let made = c.in_ok-push.ensures.ok ∙ ap (λ (d : Corners). c.loop-e.faces ++ (next, d) ∷ []) c.renamed.ensures in (
      ap (λ (xs : List (ℕ × Corners)). xs ++ numbered c.args.b c.args.a (next + 1) (drop (c.loop-e.e-index + 1) items)) made
          ∙ numbered_at c.args.a c.args.b next c.loop-e.faces items c.loop-e.e-index c.e-item.result c.loop-e-test.true c.e-item.is
          ∙ c.loop-e.invariant.0,
      omega (arith, below),
    )

pub returns : goal.returns
returns c =
    sym (nothing_more c.loop-e.faces)
    ∙ ap (λ (xs : List (ℕ × Corners)). c.loop-e.faces ++ numbered c.args.b c.args.a c.loop-e.next xs) (sym (ended c.args.joining.now c.loop-e.e-index c.loop-e-test.false))
    ∙ c.loop-e.invariant.0
