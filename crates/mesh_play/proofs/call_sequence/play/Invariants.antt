use Rattle.std.proofs.Common.{◌≡◌, ◌++◌, take, drop}
use Rattle.mesh_play.specs.Play.{answers_of, after_all, start_of, play_state, AreLawful, AreMarks, PlayState}
use Rattle.mesh_play.proofs.call_sequence.play.Given as goal

-- the answers so far and those to what is left are those to all, and the calls so far left what is there
abbrev pub invariant-loop-call : goal.invariant-loop-call
invariant-loop-call g l =
    let now : PlayState = play_state g.S.Surface.mesh g.S.Surface.kept l.surface l.marks.items in
    record {
      told : l.answers.items ++ answers_of now (drop l.call-index l.calls) ≡ answers_of (start_of (g.S.Surface.mesh l.fn.surface)) l.calls;
      left : after_all now (drop l.call-index l.calls) ≡ after_all (start_of (g.S.Surface.mesh l.fn.surface)) l.calls;
      lawful : AreLawful now (drop l.call-index l.calls);
      made : now ≡ after_all (start_of (g.S.Surface.mesh l.fn.surface)) (take l.call-index l.calls);
      marks : AreMarks g.S.Surface.beyond (g.S.Surface.kept l.surface) l.marks.items;
    }
