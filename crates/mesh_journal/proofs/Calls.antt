-- What the calls of a journal leave.
use Rattle.std.proofs.Common.{◌≡◌, ℕ, ◌+◌, List, [], ◌∷◌, ◌++◌, Some, length, take, slice_get, sym, ap, subst, ◌∙◌, arith}
use Rattle.std.proofs.lemmas.List.Elements.{All-cons}
use Rattle.mesh_base.specs.Mesh.{Mesh, IsSound}
use Rattle.mesh_base.specs.Kept.{BeginsWith, MarkHolds}
use Rattle.mesh_base.proofs.MarksHold.{slice_get-take}
use Rattle.mesh_journal.specs.declared.entries.Entry.{Entry}
use Rattle.half_mesh.specs.States.{State, AreApart, none_buried}
use Rattle.mesh_journal.specs.Entries.{trail, undo, CanUndo, MarksAreBuried}
use Rattle.mesh_journal.proofs.Undone.{Undoes, IsLawful, marks-none}
use Rattle.mesh_journal.proofs.Trails.{Stands, all_empty, pushed, begins-pushed, trail-pushed, popped, trail-popped, length-trail, last-trail}

-- what holds of the state of a mesh with a journal
pub lawful : (m : Mesh) (s : State) → m ≡ s.mesh → IsSound m → AreApart s → MarksAreBuried s → IsLawful s
lawful m s same sound apart marks = record { sound = subst IsSound same sound; apart = apart; marks = marks }

-- ---- a change, with its entry
-- the entry that was put at the end, named otherwise
pub named : {X : Type 0} (reserved items : List Entry) (entry : X → Entry) (x y : X) → items ≡ reserved ++ entry x ∷ [] → x ≡ y → items ≡ reserved ++ entry y ∷ []
named reserved items entry x y more is = more ∙ ap (λ z. reserved ++ entry z ∷ []) is

-- what it leaves, m being the new mesh
pub record IsChanged (es items : List Entry) (new old : State) (m : Mesh) : Type 0 where
  pub stands : Stands items new
  pub begins : BeginsWith (trail items new) (trail es old)
  pub grows : trail items new ≡ trail es old ++ m ∷ []

pub changed : (es reserved items : List Entry) (e : Entry) (new after old : State) (m : Mesh)
    → items ≡ reserved ++ e ∷ [] → reserved ≡ es → new ≡ after → Undoes e after old → m ≡ new.mesh → IsSound m → Stands es old
    → IsChanged es items new old m
changed es reserved items e new after old m more alike is u same sound stood =
    let at_end : items ≡ es ++ e ∷ [] = more ∙ ap (λ xs. xs ++ e ∷ []) alike in
    let undoes : Undoes e new old = subst (λ s. Undoes e s old) (sym is) u in record {
      stands = subst (λ xs. Stands xs new) (sym at_end) (pushed es e new old undoes (subst IsSound same sound) stood);
      begins = subst (λ xs. BeginsWith (trail xs new) (trail es old)) (sym at_end) (begins-pushed es e new old undoes);
      grows = ap (λ xs. trail xs new) at_end ∙ trail-pushed es e new old undoes ∙ ap (λ x. trail es old ++ x ∷ []) (sym same);
    }

-- with nothing buried and no entry
pub stands-empty : (es : List Entry) (s : State) (m : Mesh) → es ≡ [] → s ≡ record { mesh = m; buried = none_buried } → IsSound m → Stands es s
stands-empty es s m none is sound =
    subst (λ xs. Stands xs s) (sym none) (subst (Stands []) (sym is) (record {
      undoable = tt;
      trail_sound = All-cons IsSound m [] sound (all_empty IsSound);
      marks_buried = marks-none m;
    }))

-- with no entry, whatever is buried
pub stands-cleared : (es : List Entry) (s : State) (m : Mesh) → es ≡ [] → m ≡ s.mesh → MarksAreBuried s → IsSound m → Stands es s
stands-cleared es s m none same marks sound =
    subst (λ xs. Stands xs s) (sym none) (record {
      undoable = tt;
      trail_sound = All-cons IsSound s.mesh [] (subst IsSound same sound) (all_empty IsSound);
      marks_buried = marks;
    })

-- ---- one change undone
module _ (es rest : List Entry) (e : Entry) (s : State) (more : es ≡ rest ++ e ∷ []) (stood : Stands es s) where
  pub can_undo-last : CanUndo e s
  can_undo-last = (popped rest e s (subst (λ xs. Stands xs s) more stood)).0

  pub stands-undone : (new : State) → new ≡ undo e s → Stands rest new
  stands-undone new is = subst (Stands rest) (sym is) (popped rest e s (subst (λ xs. Stands xs s) more stood)).1

  pub trail-undone : (new : State) → new ≡ undo e s → length rest + 1 ≡ length es → trail rest new ≡ take (length es) (trail es s)
  trail-undone new is len =
      ap (trail rest) is ∙ sym (trail-popped rest e s)
      ∙ ap (λ n. take n (trail (rest ++ e ∷ []) s)) len
      ∙ ap (λ xs. take (length es) (trail xs s)) (sym more)

-- ---- marks
pub mark-holds : (es : List Entry) (s : State) (place : ℕ) → place ≡ length es → MarkHolds 1 (trail es s) (record { place = place; under = place + 1 })
mark-holds es s place is = record { kept_there = let l = length-trail es s in omega (arith, l, is); under_near = omega arith }

pub mark-stands : (es : List Entry) (s : State) (m : Mesh) (place : ℕ) → m ≡ s.mesh → place ≡ length es → slice_get (trail es s) place ≡ Some m
mark-stands es s m place same is = ap (slice_get (trail es s)) is ∙ last-trail es s ∙ ap Some (sym same)

-- a return, where the journal is as long as it was when the mark was made
module _ (es : List Entry) (s : State) (kept : List Mesh) (place : ℕ) (is : trail es s ≡ take (place + 1) kept) (len : length es ≡ place) where
  pub stands-returned : (m : Mesh) → m ≡ s.mesh → slice_get kept place ≡ Some m
  stands-returned m same = sym (slice_get-take (place + 1) place kept (omega arith)) ∙ ap (λ xs. slice_get xs place) (sym is) ∙ mark-stands es s m place same (sym len)
