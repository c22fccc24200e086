use Rattle.std.proofs.Common.{ap, length, arith}
use Rattle.pair_paths.specs.FaceBoxes.{IsFaceBoxIn}
use Rattle.pair_paths.proofs.Boxed.{AreBoxedTo, boxed_more, all_boxed}
use Rattle.pair_paths.proofs.frame_boxes.boxes_in.Goals as goal

pub loop-f-init : goal.loop-f-init
loop-f-init c = record { as_long = ap length c.in_ok-boxes.ensures.items; boxed = λ k x lt h. absurd (omega arith) }

pub loop-f-preserved : goal.loop-f-preserved
loop-f-preserved c =
    let holds = IsFaceBoxIn c.args.frame.now in
    let before : AreBoxedTo holds c.args.faces.now c.loop-f.f-index c.loop-f.boxes.items = record { as_long = c.loop-f.invariant.as_long; boxed = c.loop-f.invariant.boxed } in
    let next = boxed_more holds c.args.faces.now c.loop-f.f-index c.f-item.result c.loop-f.boxes.items c.push.new.self.items c.face_box.result c.loop-f-test.true c.f-item.is c.face_box.ensures
    c.in_ok-push.ensures.items before in
    record { as_long = next.as_long; boxed = next.boxed }

pub returns : goal.returns
returns c = all_boxed (IsFaceBoxIn c.args.frame.now) c.args.faces.now c.loop-f.f-index c.loop-f.boxes.items (omega arith) (record { as_long = c.loop-f.invariant.as_long; boxed = c.loop-f.invariant.boxed })
