use Rattle.std.proofs.Common.{◌≡◌, ◌+◌, ◌-◌, arith}
use Rattle.mesh_shape.proofs.Turns.{small_back, firsts_back, doubled_back}
use Rattle.mesh_shape.proofs.doubled.doubled_backward.Goals as goal

pub loop-i-preserved : goal.loop-i-preserved
loop-i-preserved c =
    let faces = c.args.faces.now in
    let at = c.loop-i.i in
    let some = c.loop-i-test.true in
    let is : (at - 1) + 1 ≡ at = omega arith in
    let number : c.in_ok-face_number.field-0 ≡ (at - 1) + 1 = c.in_ok-face_number.ensures in
    let inv = c.loop-i.invariant in
    record {
      within = omega arith;
      small = small_back faces at (at - 1) c.in_ok-face_number.field-0 _ is inv.within number inv.small c.in_ok-put_face.ensures.small;
      firsts = firsts_back faces at (at - 1) c.in_ok-face_number.field-0 _ is inv.within number c.loop-i.seen c.put_face.new.seen inv.firsts (c.in_ok-put_face.ensures.seen);
      found = doubled_back faces at (at - 1) c.in_ok-face_number.field-0 _ is inv.within number c.args.most c.loop-i.seen c.loop-i.list.items c.put_face.new.faults.items inv.firsts inv.small c.in_ok-put_face.ensures.small inv.found c.in_ok-put_face.ensures.faults;
    }
