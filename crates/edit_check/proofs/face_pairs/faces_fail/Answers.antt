use Rattle.std.proofs.Common.{sym}
use Rattle.edit_check.proofs.FacePairs.{apart_faces_do}
use Rattle.edit_check.proofs.face_pairs.faces_fail.Goals as goal

pub returns-then-not-overlaps : goal.returns-then-not-overlaps
returns-then-not-overlaps c =
    let n = c.args.near.now in
    let f = c.args.f.now in
    let g = c.args.g.now in
    sym (apart_faces_do n.terms n.faces.now n.touched.now f.face g.face f.bounds g.bounds f.held g.held (sym c.if-not-overlaps.ensures))
