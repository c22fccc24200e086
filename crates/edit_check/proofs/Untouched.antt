-- An untouched pair that does not hold two of the named vertices is as required.
use Rattle.std.proofs.Common.{◌≡◌, ℕ, ◌<◌, Bool, true, false, cond, List, [], ◌∷◌, None, slice_index_or, refl, sym, ap, subst, arith}
use Rattle.std.specs.Option.{option_map, unwrap_or}
use Rattle.grid_base.specs.declared.Positions.{Positions}
use Rattle.grid_base.specs.Meeting.{MeetAt}
use Rattle.edit_base.specs.declared.Move.{Move}
use Rattle.mesh_base.specs.Mesh.{Mesh}
use Rattle.mesh_base.specs.Pairs.{Pair}
use Rattle.mesh_base.specs.Placements.{rest_positions_doubled, positions}
use Rattle.grid_base.specs.SeparationTests.{IsExact, passes}
use Rattle.edit_base.specs.Scaffold.{Scaffold, joins_contacts, is_as_required, move_of, motion_of, motion_by, meets_contact_rule}
use Rattle.edit_check.specs.Untouched.{IsUntouched, IsClearWhereUntouched}
use Rattle.edit_check.proofs.Still.{still_passes}

pub start_stays : (m : Mesh) (moves : List Move) (v : ℕ) → move_of moves v ≡ None → (motion_by m moves).start v ≡ rest_positions_doubled m v
start_stays m moves v e = ap (λ o. unwrap_or (option_map (λ (move : Move). move.start) o) (rest_positions_doubled m v)) e

pub end_stays : (m : Mesh) (moves : List Move) (v : ℕ) → move_of moves v ≡ None → (motion_by m moves).end v ≡ rest_positions_doubled m v
end_stays m moves v e = ap (λ o. unwrap_or (option_map (λ (move : Move). move.end) o) (rest_positions_doubled m v)) e

module _ (m : Mesh) (moves : List Move) (fresh_from : ℕ) (p : Pair) (untouched : IsUntouched m moves fresh_from p) where
  still : (k : ℕ) → k < 5 → move_of moves (slice_index_or (p.name.a ∷ p.name.b ∷ p.corners.first ∷ p.corners.second ∷ p.corners.third ∷ []) k 0) ≡ None
  still k within = untouched.still k 0 within

  starts_stay : positions (motion_by m moves).start p ≡ positions (rest_positions_doubled m) p
  starts_stay = λ i. record {
    a = start_stays m moves p.name.a (still 0 (omega arith)) i;
    b = start_stays m moves p.name.b (still 1 (omega arith)) i;
    c = start_stays m moves p.corners.first (still 2 (omega arith)) i;
    d = start_stays m moves p.corners.second (still 3 (omega arith)) i;
    e = start_stays m moves p.corners.third (still 4 (omega arith)) i;
  }

  ends_stay : positions (motion_by m moves).end p ≡ positions (rest_positions_doubled m) p
  ends_stay = λ i. record {
    a = end_stays m moves p.name.a (still 0 (omega arith)) i;
    b = end_stays m moves p.name.b (still 1 (omega arith)) i;
    c = end_stays m moves p.corners.first (still 2 (omega arith)) i;
    d = end_stays m moves p.corners.second (still 3 (omega arith)) i;
    e = end_stays m moves p.corners.third (still 4 (omega arith)) i;
  }

does_not : (meets : Positions → Bool) → IsExact meets → (f : Positions) (b : Bool) → meets f ≡ b → (MeetAt f → ⊥) → b ≡ false
does_not meets exact f true e never = absurd (never ((exact f).0 e))
does_not meets exact f false e never = refl

pub untouched_is_as_required : (meets : Positions → Bool) → IsExact meets → (s : Scaffold) (fresh_from depth : ℕ) → IsClearWhereUntouched s.mesh s.moves fresh_from →
    (p : Pair) → IsUntouched s.mesh s.moves fresh_from p → joins_contacts s.together p ≡ false → is_as_required meets s depth p ≡ true
untouched_is_as_required meets exact s fresh_from depth clear p untouched apart =
    let here = positions (rest_positions_doubled s.mesh) p in
    let stays : passes meets depth here here ≡ true = still_passes meets depth here (does_not meets exact here _ refl (clear p untouched)) in
    let moved : passes meets depth (positions (motion_of s).start p) (positions (motion_of s).end p) ≡ true =
    subst (λ f. passes meets depth f (positions (motion_of s).end p) ≡ true) (sym (starts_stay s.mesh s.moves fresh_from p untouched))
    (subst (λ f. passes meets depth here f ≡ true) (sym (ends_stay s.mesh s.moves fresh_from p untouched)) stays) in
    subst (λ b. cond b (meets_contact_rule meets s.touch depth (positions (motion_of s).start p) (positions (motion_of s).end p)) (passes meets depth (positions (motion_of s).start p) (positions (motion_of s).end p)) ≡ true) (sym apart) moved
