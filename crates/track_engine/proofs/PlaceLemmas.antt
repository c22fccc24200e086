-- Vertices that are moved one after another.
use Rattle.std.proofs.Common.{◌≡◌, ℕ, ◌<◌, ◌+◌, Bool, true, false, cond, ◌∷◌, length, drop, get_or, suc, add-one, refl, ap, sym, ◌∙◌, subst, Some}
use Rattle.std.specs.List.{fold, filter}
use Rattle.std.specs.FinMap as finite
use Rattle.std.proofs.Math.Seq.{drop-cons}
use Rattle.grid_base.specs.declared.Point.{Point}
use Rattle.grid_base.specs.Triples.{plus}
use Rattle.grid_base.specs.Points.{displacement_of, position_of, position_after, point_at}
use Rattle.grid_base.proofs.PointLaws.{point_at-position_of}
use Rattle.mesh_base.specs.declared.ShiftOf.{ShiftOf}
use Rattle.mesh_base.specs.Mesh.{Mesh}
use Rattle.mesh_base.specs.Changes.{with_point}
use Rattle.mesh_base.specs.Placements.{position_or_origin}
use Rattle.mesh_base.specs.Shifts.{Shifts, with_move}
use Rattle.track_engine.specs.Effects.{moves, moved_mesh}
use Rattle.track_engine.specs.Placing.{CanPlace, moved_one}

-- a vertex that stands at p is placed at its end
pub placed_as : (m after : Mesh) (s : ShiftOf) (p q : Point) → moves s ≡ true → Some p ≡ finite.get m.points s.v → position_of q ≡ position_after p s.by → after ≡ with_point m s.v q → after ≡ moved_one m s
placed_as m after s p q t at end e =
    e
    ∙ ap (with_point m s.v) (sym (point_at-position_of q) ∙ ap point_at end ∙ ap (λ o. point_at (plus (position_or_origin o) (displacement_of s.by))) at)
    ∙ sym (ap (λ b. cond b (with_move m s) m) t)

-- the first is moved, and then the others
moved_first : (m : Mesh) (s : ShiftOf) (shifts : Shifts) → moved_mesh m (s ∷ shifts) ≡ moved_mesh (moved_one m s) shifts
moved_first m s shifts = by_test (moves s)
  where
    by_test : (b : Bool) → fold with_move m (cond b (s ∷ filter moves shifts) (filter moves shifts)) ≡ fold with_move (cond b (with_move m s) m) (filter moves shifts)
    by_test true = refl
    by_test false = refl

module _ (m after : Mesh) (asked : Shifts) (i : ℕ) (s : ShiftOf) (h : i < length asked) (at : s ≡ get_or asked i s) (moved : after ≡ moved_one m s) where
  next : drop i asked ≡ s ∷ drop (i + 1) asked
  next = drop-cons asked i s h ∙ ap (λ t. t ∷ drop (suc i) asked) (sym at) ∙ ap (λ n. s ∷ drop n asked) (sym (add-one i))

  pub can_later : CanPlace m (drop i asked) → CanPlace after (drop (i + 1) asked)
  can_later can =
      let P : Shifts → Type 0 = λ l. CanPlace m l in
      let Q : Mesh → Type 0 = λ n. CanPlace n (drop (i + 1) asked) in
      let here = subst P next can in
      subst Q (sym moved) here.1

  pub can_here : CanPlace m (drop i asked) → CanPlace m (s ∷ drop (i + 1) asked)
  can_here can = let P : Shifts → Type 0 = λ l. CanPlace m l in subst P next can

  pub made_later : (all : Mesh) → moved_mesh m (drop i asked) ≡ all → moved_mesh after (drop (i + 1) asked) ≡ all
  made_later all e = ap (λ n. moved_mesh n (drop (i + 1) asked)) moved ∙ sym (moved_first m s (drop (i + 1) asked)) ∙ sym (ap (moved_mesh m) next) ∙ e
