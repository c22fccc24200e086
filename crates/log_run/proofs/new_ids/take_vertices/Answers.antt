use Rattle.std.proofs.Common.{◌≡◌, ℕ, List, length, ap, subst, ◌∙◌, arith}
use Rattle.std.specs.FinMap as finite
use Rattle.mesh_journal.specs.Journal.{mesh_in, kept_in}
use Rattle.mesh_ids.specs.NewIds.{MayTake, with_vertex_ids}
use Rattle.log_run.proofs.Calls.{none_open, vertices_taken}
use Rattle.log_run.proofs.new_ids.take_vertices.Goals as goal

pub returns : goal.returns
returns c =
    let m = mesh_in c.args.mesh.now in
    let kept = kept_in c.args.mesh.now in
    let at = c.args.at.now in
    let new = c.args.new.now in
    let zero : length at.marks ≡ 0 = omega (arith, c.len.ensures, c.if-len-gt0.false) in
    let none = none_open 1 m kept at c.requires zero in
    let may : MayTake (finite.len m.points) new.ids new.next = subst (λ count. MayTake count new.ids new.next) c.vertices.ensures (c.may_take.ensures.0 c.if-not-may_take.false) in
    let made = c.in_ok-taken.ensures.mesh ∙ ap (λ (ids : List ℕ). with_vertex_ids m ids new.next) c.as_slice.ensures in
    vertices_taken 1 m kept at c.requires c.if-at.false none new (mesh_in c.in_ok-taken.taken) (kept_in c.in_ok-taken.taken) may made
