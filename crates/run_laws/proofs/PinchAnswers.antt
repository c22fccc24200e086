-- What pinches answer is in range.
use Rattle.std.proofs.Common.{◌≡◌, ℕ, ◌+◌, ◌<◌, ◌≤◌, Bool, false, nat_lt, List, [], ◌∷◌, length, map, drop, arith}
use Rattle.std.proofs.lemmas.Bool.Decides.{nat_tests}
use Rattle.std.proofs.lemmas.List.{length-map}
use Rattle.std.proofs.lemmas.List.FromFn.{length-enumerate_from}
use Rattle.std.proofs.lemmas.List.Elements.{All-from_recursion}
use Rattle.std.specs.List.{AllByRecursion, enumerate_from}
use Rattle.grid_base.specs.declared.Positions.{Positions}
use Rattle.grid_base.specs.declared.TheConstants.{ID_MAX}
use Rattle.mesh_base.specs.Mesh.{Mesh, is_solid}
use Rattle.mesh_base.specs.Limits.{is_over_limits}
use Rattle.edit_base.specs.declared.answers.CopyAt.{CopyAt}
use Rattle.edit_base.specs.declared.answers.Why.TheVariants.{OneFan, Solid, Full}
use Rattle.edit_base.specs.declared.answers.Change.TheVariants.{Pinch}
use Rattle.edit_base.specs.declared.answers.Edit.{Edit}
use Rattle.edit_base.specs.declared.answers.Edit.TheVariants.{Done}
use Rattle.edit_base.specs.Reasons.{reason_if, hit_in}
use Rattle.edit_pinch.specs.Pinch.{fans, fan_point, pinch_scaffold, first_point, later_copies, copy_points}
use Rattle.edit_pinch.specs.Answer.{pinch_answer}
use Rattle.edit_pinch.proofs.CopySound.{pinch_is_sound}
use Rattle.edit_pinch.proofs.PinchDone.{pinched_live}
use Rattle.edit_pinch.proofs.Room.{room_at_first}
use Rattle.run_laws.specs.Names.{IsId}
use Rattle.run_laws.specs.Answers.{AnswersInRange}
use Rattle.run_laws.proofs.Names.{vertices_in_range}
use Rattle.run_laws.proofs.Reasons.{unless_first}
use Rattle.run_laws.proofs.EdgeAnswers.{unless_scaffold_hit}

-- ids that are counted up from one of the log, and pass no limit
counted_up : (m : Mesh) (v k : ℕ) (others : List (List ℕ)) → 1 ≤ k → k + length others ≤ ID_MAX + 1 → AllByRecursion (λ (c : CopyAt). IsId c.w) (map (λ e. record { w = e.0; at = fan_point m v e.1 }) (enumerate_from k others))
counted_up m v k [] first limit = tt
counted_up m v k (d ∷ ds) first limit = ((first, (omega (arith, limit))), counted_up m v (k + 1) ds (omega arith) (omega (arith, limit)))

-- two fans or more, and so a later one
some_later : (fans : List (List ℕ)) → nat_lt (length fans) 2 ≡ false → 0 < length (drop 1 fans)
some_later [] h = grind (arith, nat_tests)
some_later (d ∷ []) h = grind (arith, nat_tests)
some_later (d ∷ e ∷ fans) h = omega arith

pub pinch_in_range : (meets : Positions → Bool) (v depth : ℕ) → AnswersInRange (λ m. pinch_answer meets m v depth)
pinch_in_range meets v depth m sound closed =
    let scaffold = pinch_scaffold m v in
    let at = first_point m v in
    let copies = later_copies m v in
    let done : Edit = Done (Pinch v at copies) in
    let hits = hit_in meets scaffold depth ∷ [] in
    let fulls = reason_if (is_over_limits scaffold.mesh) Full ∷ hits in
    let solids = reason_if (is_solid m v) Solid ∷ fulls in
    unless_first (nat_lt (length (fans m v)) 2) OneFan solids done tt (λ two.
    unless_first (is_solid m v) Solid fulls done tt (λ free.
    unless_first (is_over_limits scaffold.mesh) Full hits done tt (λ fits.
    let live = pinched_live m v sound two in
    let others = drop 1 (fans m v) in
    let numbered = enumerate_from m.next_vertex others in
    let some = some_later (fans m v) two in
    let as_many = length-map {B = CopyAt} numbered (λ (e : ℕ × List ℕ). record { w = e.0; at = fan_point m v e.1 }) in
    let as_many_fans = length-enumerate_from m.next_vertex others in
    let room = room_at_first m v at sound closed live fits in
    unless_scaffold_hit meets scaffold depth done
    (pinch_is_sound m v at (copy_points copies) sound closed live fits) (
      vertices_in_range m sound v live,
      omega (arith, some, as_many, as_many_fans),
      All-from_recursion (λ (c : CopyAt). IsId c.w) copies (counted_up m v m.next_vertex others sound.limits.vertex_ids.0 room.vertex_ids),
    ))))
