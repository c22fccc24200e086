-- An entry more at the end of a journal.
use Rattle.std.proofs.Common.{◌≡◌, ℕ, ◌+◌, List, [], ◌∷◌, ◌++◌, Some, length, take, slice_get, All, refl, sym, ap, subst, ◌∙◌, arith}
use Rattle.std.proofs.lemmas.List.{take_all, take-append-le}
use Rattle.std.proofs.lemmas.List.Elements.{All-append, All-cons, All-take}
use Rattle.mesh_base.specs.Mesh.{IsSound}
use Rattle.mesh_base.specs.Kept.{BeginsWith}
use Rattle.half_mesh.specs.States.{State}
use Rattle.mesh_journal.proofs.Undone.{Undoes, marks-undone}
use Rattle.mesh_journal.specs.declared.entries.Entry.{Entry}
use Rattle.mesh_journal.specs.Entries.{undo, back, trail, CanUndo, CanUndoAll, MarksAreBuried}

pub back-more : (es : List Entry) (e : Entry) (s : State) → back (es ++ e ∷ []) s ≡ back es (undo e s)
back-more [] e s = refl
back-more (x ∷ es) e s = ap (undo x) (back-more es e s)

pub trail-more : (es : List Entry) (e : Entry) (s : State) → trail (es ++ e ∷ []) s ≡ trail es (undo e s) ++ s.mesh ∷ []
trail-more [] e s = refl
trail-more (x ∷ es) e s =
    ap (λ b. (undo x b).mesh ∷ trail (es ++ e ∷ []) s) (back-more es e s)
    ∙ ap (λ t. (undo x (back es (undo e s))).mesh ∷ t) (trail-more es e s)

pub can-more : (es : List Entry) (e : Entry) (s : State) → CanUndo e s → CanUndoAll es (undo e s) → CanUndoAll (es ++ e ∷ []) s
can-more [] e s now all = (now, tt)
can-more (x ∷ es) e s now all = (subst (CanUndo x) (sym (back-more es e s)) all.0, can-more es e s now all.1)

pub can-last : (es : List Entry) (e : Entry) (s : State) → CanUndoAll (es ++ e ∷ []) s → CanUndo e s × CanUndoAll es (undo e s)
can-last [] e s all = (all.0, tt)
can-last (x ∷ es) e s all =
    let rest = can-last es e s all.1 in
    (rest.0, (subst (CanUndo x) (back-more es e s) all.0, rest.1))

pub length-trail : (es : List Entry) (s : State) → length (trail es s) ≡ length es + 1
length-trail [] s = refl
length-trail (x ∷ es) s = let rest = length-trail es s in omega (arith, rest)

-- the last is the mesh itself
pub last-trail : (es : List Entry) (s : State) → slice_get (trail es s) (length es) ≡ Some s.mesh
last-trail [] s = refl
last-trail (x ∷ es) s = last-trail es s

-- ---- one entry more
pub record Stands (es : List Entry) (s : State) : Type 0 where
  pub undoable : CanUndoAll es s
  pub trail_sound : All IsSound (trail es s)
  pub marks_buried : MarksAreBuried s

pub all_empty : {A : Type 0} (P : A → Type 0) → All P []
all_empty P k d h = absurd (omega arith)

pub trail-pushed : (es : List Entry) (e : Entry) (new old : State) → Undoes e new old → trail (es ++ e ∷ []) new ≡ trail es old ++ new.mesh ∷ []
trail-pushed es e new old u = trail-more es e new ∙ ap (λ s. trail es s ++ new.mesh ∷ []) u.leads

pub pushed : (es : List Entry) (e : Entry) (new old : State) → Undoes e new old → IsSound new.mesh → Stands es old → Stands (es ++ e ∷ []) new
pushed es e new old u sound is = record {
  undoable = can-more es e new u.can (subst (CanUndoAll es) (sym u.leads) is.undoable);
  trail_sound = subst (All IsSound) (sym (trail-pushed es e new old u)) (All-append IsSound (trail es old) (new.mesh ∷ []) is.trail_sound (All-cons IsSound new.mesh [] sound (all_empty IsSound)));
  marks_buried = u.marks;
}

take-front : {A : Type 0} (xs ys : List A) (n : ℕ) → length xs ≡ n → take n (xs ++ ys) ≡ xs
take-front xs ys n e = take-append-le n xs ys (omega (arith, e)) ∙ take_all n xs (omega (arith, e))

pub begins-pushed : (es : List Entry) (e : Entry) (new old : State) → Undoes e new old → BeginsWith (trail (es ++ e ∷ []) new) (trail es old)
begins-pushed es e new old u = ap (take (length (trail es old))) (trail-pushed es e new old u) ∙ take-front (trail es old) (new.mesh ∷ []) (length (trail es old)) refl

-- ---- one entry less
pub trail-popped : (es : List Entry) (e : Entry) (s : State) → take (length es + 1) (trail (es ++ e ∷ []) s) ≡ trail es (undo e s)
trail-popped es e s = ap (take (length es + 1)) (trail-more es e s) ∙ take-front (trail es (undo e s)) (s.mesh ∷ []) (length es + 1) (length-trail es (undo e s))

all_front : {A : Type 0} (P : A → Type 0) (xs ys : List A) → All P (xs ++ ys) → All P xs
all_front P xs ys h = subst (All P) (take-front xs ys (length xs) refl) (All-take P (length xs) (xs ++ ys) h)

pub popped : (es : List Entry) (e : Entry) (s : State) → Stands (es ++ e ∷ []) s → CanUndo e s × Stands es (undo e s)
popped es e s is =
    let parts = can-last es e s is.undoable in (
      parts.0,
      record {
        undoable = parts.1;
        trail_sound = all_front IsSound (trail es (undo e s)) (s.mesh ∷ []) (subst (All IsSound) (trail-more es e s) is.trail_sound);
        marks_buried = marks-undone e s is.marks_buried;
      },
    )
