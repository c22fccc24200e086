use Rattle.std.proofs.Common.{sym, ◌∙◌}
use Rattle.edit_check.specs.Sides.{side_of}
use Rattle.edit_check.proofs.FacePairs.{apart_does, shared_does, holds_up}
use Rattle.edit_check.proofs.face_pairs.side_fails.Goals as goal

pub returns-then-is_shared : goal.returns-then-is_shared
returns-then-is_shared c =
    let n = c.args.near.now in
    sym (shared_does n.terms n.faces.now n.touched.now c.args.is_own (side_of c.args.side c.args.f.now.face) c.args.g.now.face (sym c.requires ∙ c.if-is_shared.true))

pub returns-then-not-overlaps : goal.returns-then-not-overlaps
returns-then-not-overlaps c =
    let n = c.args.near.now in
    let side = side_of c.args.side c.args.f.now.face in
    let g = c.args.g.now in
    let box = c.box_of_side-bounds.result in
    sym (apart_does n.terms n.faces.now n.touched.now c.args.is_own side g.face box g.bounds (holds_up side box c.box_of_side-bounds.ensures) g.held (sym c.if-not-overlaps.ensures))
