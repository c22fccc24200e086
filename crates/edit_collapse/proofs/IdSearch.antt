-- A face sought in a list by rising ids.
use Rattle.std.proofs.Common.{◌≡◌, ℕ, Bool, true, false, cond, ◌||◌, ◌==◌, List, [], ◌∷◌, Some, None, refl}
use Rattle.std.specs.List.{find}
use Rattle.std.specs.FinMap as finite
use Rattle.std.specs.FinMap.{entries_sorted}
use Rattle.mesh_base.specs.declared.ids.Corners.{Corners}
use Rattle.mesh_base.specs.Mesh.{Mesh}
use Rattle.mesh_base.specs.Sides.{has_corner}
use Rattle.mesh_base.proofs.InOrder.{keys_sorted}
use Rattle.edit_collapse.specs.Collapse.{joined_faces}
use Rattle.edit_collapse.specs.Tried.{left_at, has_id_in, AreRising}
use Rattle.edit_collapse.proofs.Lists.{sorted_filter}

abbrev pub id_of : ℕ × Corners → ℕ
id_of e = e.0

-- a face that stands past the end
abbrev pub past : ℕ → ℕ × Corners
past v = (v, record { first = 0; second = 0; third = 0 })

pub is_there : (f : ℕ) (es : List (ℕ × Corners)) (s : ℕ × Corners) → find (λ (e : ℕ × Corners). e.0 == f) es ≡ Some s → has_id_in es f ≡ true
is_there f [] s h = cc
is_there f (e ∷ es) s h = by_test (is_there f es s) (e.0 == f) h
  where
    by_test : (find (λ (x : ℕ × Corners). x.0 == f) es ≡ Some s → has_id_in es f ≡ true) → (b : Bool) → cond b (Some e) (find (λ (x : ℕ × Corners). x.0 == f) es) ≡ Some s → (b || has_id_in es f) ≡ true
    by_test rest true h = refl
    by_test rest false h = rest h

pub is_absent : (f : ℕ) (es : List (ℕ × Corners)) → find (λ (e : ℕ × Corners). e.0 == f) es ≡ None → has_id_in es f ≡ false
is_absent f [] h = refl
is_absent f (e ∷ es) h = by_test (is_absent f es) (e.0 == f) h
  where
    by_test : (find (λ (x : ℕ × Corners). x.0 == f) es ≡ None → has_id_in es f ≡ false) → (b : Bool) → cond b (Some e) (find (λ (x : ℕ × Corners). x.0 == f) es) ≡ None → (b || has_id_in es f) ≡ false
    by_test rest true h = cc
    by_test rest false h = rest h

-- those that are left at the joined vertex have rising ids
pub left_rise : (m : Mesh) (a b : ℕ) → AreRising (left_at m a b)
left_rise m a b = keys_sorted (left_at m a b) (sorted_filter (λ e. has_corner e.1 a) (finite.entries (joined_faces m a b).faces) (entries_sorted (joined_faces m a b).faces))
