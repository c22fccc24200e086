use Rattle.std.proofs.Common.{drop, sym, ap, subst, ◌∙◌}
use Rattle.std.specs.List.{zip}
use Rattle.mesh_base.specs.Changes.{with_point}
use Rattle.edit_pinch.specs.Pinch.{copy_points}
use Rattle.edit_pinch.specs.InTurn.{CopiedInTurn}
use Rattle.edit_pinch.proofs.PinchDone.{pinched_live}
use Rattle.edit_pinch.proofs.Answered.{later_are}
use Rattle.edit_pinch.proofs.Room.{pinched_in_turn}
use Rattle.edit_pinch.proofs.Scaffolded.{as_many, mesh_is}
use Rattle.edit_pinch.proofs.operation.put_parts.Goals as goal

pub apply_pinch-requires-clause-live : goal.apply_pinch-requires-clause-live
apply_pinch-requires-clause-live g c = pinched_live (g.S.Surface.mesh c.args.mesh.now) c.args.v (g.met.S.Surface.sound c.args.mesh.now) c.requires.tried.two_fans

pub apply_pinch-requires-clause-same : goal.apply_pinch-requires-clause-same
apply_pinch-requires-clause-same g c =
    as_many (g.S.Surface.mesh c.args.mesh.now) c.args.v _ c.args.at c.args.copies.now (later_are c.args.parts.now ∙ ap (drop 1) c.requires.fans) c.requires.point c.requires.copies

pub apply_pinch-requires-clause-turns : goal.apply_pinch-requires-clause-turns
apply_pinch-requires-clause-turns g c =
    let m = g.S.Surface.mesh c.args.mesh.now in
    let v = c.args.v in
    let sound = g.met.S.Surface.sound c.args.mesh.now in
    let live = pinched_live m v sound c.requires.tried.two_fans in
    subst (λ l. CopiedInTurn v (with_point m v c.args.at) (zip l (copy_points c.args.copies.now))) (sym (later_are c.args.parts.now ∙ ap (drop 1) c.requires.fans))
    (pinched_in_turn m v c.args.at sound c.requires.closed live c.requires.tried.fits (copy_points c.args.copies.now))

pub returns-clause-made : goal.returns-clause-made
returns-clause-made g c =
    c.in_ok-apply_pinch.ensures.made
    ∙ mesh_is (g.S.Surface.mesh c.args.mesh.now) c.args.v _ c.args.at c.args.copies.now (later_are c.args.parts.now ∙ ap (drop 1) c.requires.fans) c.requires.point c.requires.copies
