-- A walk over the faces of a mesh, which gives each its box.
use Rattle.std.proofs.Common.{◌≡◌, ◌≢◌, ℕ, true, false, ◌||◌, nat_eq, List, ◌∷◌, Option, Some, None, is_some, refl, sym, ap, subst, ◌∙◌, arith}
use Rattle.std.specs.FinMap as map
use Rattle.std.specs.FinMap.{contains_key-keys}
use Rattle.std.specs.Option.{option_map}
use Rattle.std.specs.Ordering.{nat_cmp, eq_by_cmp}
use Rattle.std.proofs.lemmas.Bool.{false≢true}
use Rattle.std.proofs.lemmas.Bool.Decides.{nat_tests}
use Rattle.grid_base.specs.Triples.{Triple}
use Rattle.cell_grid.specs.Filed.{has}
use Rattle.mesh_base.specs.declared.ids.Corners.{Corners}
use Rattle.mesh_base.specs.Mesh.{Mesh, IsSound, HasCorners}
use Rattle.mesh_base.specs.Sides.{above}
use Rattle.mesh_base.specs.Changes.{corners_of, corner_list}
use Rattle.mesh_base.proofs.WalkSteps.{walk-start}
use Rattle.half_mesh.proofs.Mapped.{tied, untied}
use Rattle.mesh_journal.specs.Boxed.{Boxes, Holds, HoldsCorners}
use Rattle.mesh_journal.proofs.Boxed.{corners-kept}
use Rattle.mesh_journal.proofs.Rising.{any_alike}

-- the corners that a look-up gave
pub corners_are : (o : Option Corners) (l : List ℕ) (d : Corners) → Some l ≡ option_map corner_list o → o ≡ Some d → corners_of l ≡ d
corners_are (Some x) l d h e =
    let is : l ≡ corner_list x = cc in
    let same : x ≡ d = cc in
    ap corners_of is ∙ same
corners_are None l d h e = cc

pub live_key : (m : Mesh) (q : ℕ) (c : Corners) → HasCorners m q c → has q (map.keys m.faces) ≡ true
live_key m q c h = sym (contains_key-keys m.faces q ∙ any_alike q (map.keys m.faces)) ∙ ap is_some h

-- none is left out at the start
pub none_passed : (o : Option Boxes) (m : Mesh) → IsSound m → (q : ℕ) (c : Corners) → HasCorners m q c → has q (above 0 (map.keys m.faces)) ≡ false → HoldsCorners o m q c
none_passed o m s q c h none =
    let start = walk-start m.faces (λ f live. (s.is_mesh.face_ids f live).0) in
    absurd (false≢true (sym none ∙ ap (has q) start ∙ live_key m q c h))

unequal : (q f : ℕ) → q ≢ f → nat_eq q f ≡ false
unequal q f h = grind (arith, nat_tests)

-- one face more
pub one_passed : (old new : Option Boxes) (m : Mesh) (f q : ℕ) (c : Corners) (rest ids : List ℕ) → rest ≡ f ∷ ids
    → ((d : Corners) → HasCorners m f d → HoldsCorners new m f d)
    → ((k : ℕ) (p : Triple) → k ≢ f → Holds old k p → Holds new k p)
    → (has q rest ≡ false → HoldsCorners old m q c)
    → HasCorners m q c → has q ids ≡ false → HoldsCorners new m q c
one_passed old new m f q c rest ids is at others before h none =
    elim (eq_by_cmp nat_cmp q f) as (λ b. eq_by_cmp nat_cmp q f ≡ b → HoldsCorners new m q c) [
      | true ↦ λ e.
          let here : q ≡ f = tied q f e in
          subst (λ k. HoldsCorners new m k c) (sym here) (at c (subst (λ k. HasCorners m k c) here h))
      | false ↦ λ e.
          let apart : q ≢ f = untied q f e in
          corners-kept old new m q c (λ t. others q t apart) (before (ap (has q) is ∙ ap (λ b. b || has q ids) (unequal q f apart) ∙ none))
    ] refl

-- a face that is not live is another
pub not_gone : (m : Mesh) (f q : ℕ) (c : Corners) → option_map corner_list (map.get m.faces f) ≡ None → HasCorners m q c → q ≢ f
not_gone m f q c none has same =
    let at : option_map corner_list (map.get m.faces q) ≡ None = ap (λ k. option_map corner_list (map.get m.faces k)) same ∙ none in
    let some : option_map corner_list (map.get m.faces q) ≡ Some (corner_list c) = ap (option_map corner_list) has in
    cc
