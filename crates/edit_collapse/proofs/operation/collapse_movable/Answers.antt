use Rattle.std.proofs.Common.{◌≡◌, false, refl, sym, ◌∙◌}
use Rattle.grid_decided.specs.Decided.{meets_exactly}
use Rattle.mesh_base.proofs.MarksHold.{begins_itself}
use Rattle.edit_base.specs.Edges.{doubles_a_face}
use Rattle.edit_collapse.specs.Collapse.{joined_faces}
use Rattle.edit_collapse.proofs.Answered.{doubled_is_refused, full_is_refused, may_be_tried}
use Rattle.edit_collapse.proofs.operation.collapse_movable.Goals as goal

pub left_at-requires : goal.left_at-requires
left_at-requires g c = c.requires.apart

pub is_over-requires : goal.is_over-requires
is_over-requires g c = record { apart = c.requires.apart }

pub returns-then-doubled-clause-answer : goal.returns-then-doubled-clause-answer
returns-then-doubled-clause-answer g c =
    let m = g.S.Surface.mesh c.args.mesh.now in
    doubled_is_refused meets_exactly m c.args.a c.args.b c.args.depth c.requires.edge c.requires.may_move
    (sym (c.in_ok-doubled.ensures m c.args.a c.args.b (g.met.S.Surface.sound c.args.mesh.now) c.requires.apart c.in_ok-left.ensures) ∙ c.if-doubled.true)

pub returns-then-doubled-clause-mesh : goal.returns-then-doubled-clause-mesh
returns-then-doubled-clause-mesh g c = refl

pub returns-then-doubled-clause-marks : goal.returns-then-doubled-clause-marks
returns-then-doubled-clause-marks g c = begins_itself (g.S.Surface.kept c.args.mesh.now)

pub returns-then-branch-clause-answer : goal.returns-then-branch-clause-answer
returns-then-branch-clause-answer g c =
    let m = g.S.Surface.mesh c.args.mesh.now in
    let undoubled : doubles_a_face (joined_faces m c.args.a c.args.b) ≡ false =
    sym (c.in_ok-doubled.ensures m c.args.a c.args.b (g.met.S.Surface.sound c.args.mesh.now) c.requires.apart c.in_ok-left.ensures) ∙ c.if-doubled.false in
    full_is_refused meets_exactly m c.args.a c.args.b c.args.depth c.requires.edge c.requires.may_move undoubled (sym c.in_ok-is_over.ensures ∙ c.if-branch.true)

pub returns-then-branch-clause-mesh : goal.returns-then-branch-clause-mesh
returns-then-branch-clause-mesh g c = refl

pub returns-then-branch-clause-marks : goal.returns-then-branch-clause-marks
returns-then-branch-clause-marks g c = begins_itself (g.S.Surface.kept c.args.mesh.now)

pub collapse_or_leave-requires-clause-tried : goal.collapse_or_leave-requires-clause-tried
collapse_or_leave-requires-clause-tried g c =
    let m = g.S.Surface.mesh c.args.mesh.now in
    let undoubled : doubles_a_face (joined_faces m c.args.a c.args.b) ≡ false =
    sym (c.in_ok-doubled.ensures m c.args.a c.args.b (g.met.S.Surface.sound c.args.mesh.now) c.requires.apart c.in_ok-left.ensures) ∙ c.if-doubled.false in
    may_be_tried meets_exactly m c.args.a c.args.b c.args.depth c.requires.edge c.requires.may_move undoubled (sym c.in_ok-is_over.ensures ∙ c.if-branch.false)

pub returns-in_err-left-clause-marks : goal.returns-in_err-left-clause-marks
returns-in_err-left-clause-marks g c = begins_itself (g.S.Surface.kept c.args.mesh.now)

pub returns-in_err-doubled-clause-marks : goal.returns-in_err-doubled-clause-marks
returns-in_err-doubled-clause-marks g c = begins_itself (g.S.Surface.kept c.args.mesh.now)

pub returns-in_err-is_over-clause-marks : goal.returns-in_err-is_over-clause-marks
returns-in_err-is_over-clause-marks g c = begins_itself (g.S.Surface.kept c.args.mesh.now)

pub returns-clause-answer : goal.returns-clause-answer
returns-clause-answer g c = c.collapse_or_leave.ensures.answer

pub returns-clause-mesh : goal.returns-clause-mesh
returns-clause-mesh g c = c.collapse_or_leave.ensures.mesh

pub returns-clause-marks : goal.returns-clause-marks
returns-clause-marks g c = c.collapse_or_leave.ensures.marks

pub returns-clause-kept : goal.returns-clause-kept
returns-clause-kept g c = c.collapse_or_leave.ensures.kept
