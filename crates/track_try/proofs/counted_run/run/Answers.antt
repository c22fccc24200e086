use Rattle.std.proofs.Common.{refl, Some, ap, ◌∙◌, ℕ, rules}
use Rattle.outside_io.specs.Tally.{told_to}
use Rattle.track_engine.specs.Engines.{state_in}
use Rattle.track_engine.specs.Answered.{known}
use Rattle.track_try.proofs.Ran.{has_run, told_at, ready_first, room_first}
use Rattle.track_try.proofs.counted_run.run.Goals as goal

pub follow-requires-clause-ready : goal.follow-requires-clause-ready
follow-requires-clause-ready g c =
    ready_first g.S.Surface.beyond g.S.Surface.mesh g.S.Surface.kept (g.S.Surface.mesh c.args.mesh) c.in_ok-engine.engine c.save.new.self c.in_ok-engine.ensures.state c.in_ok-engine.ensures.groups c.in-Ok-save.ensures.state c.in-Ok-save.ensures.rest.1 c.requires.good

pub follow-requires-clause-room : goal.follow-requires-clause-room
follow-requires-clause-room g c =
    room_first g.S.Surface.beyond g.S.Surface.mesh g.S.Surface.kept (g.S.Surface.mesh c.args.mesh) c.in_ok-engine.engine c.save.new.self c.in_ok-engine.ensures.state c.in_ok-engine.ensures.groups c.in-Ok-save.ensures.state c.in-Ok-save.ensures.rest.1 _ c.requires.count

pub returns-in-Ok-follow : goal.returns-in-Ok-follow
returns-in-Ok-follow g c =
    let same = c.in-Ok-follow.ensures.counts.same ∙ c.in-Ok-save.ensures.counts.same ∙ c.in-Ok.ensures.says.nothing_stored.counts.same in
    let name = ap (λ (sides : ℕ × ℕ). sides.1) same in
    told_at _ _ _ (told_to c.follow.new.outside.out.now) _ (search (rules, name))
    (has_run (g.S.Surface.mesh c.args.mesh) (state_in g.S.Surface.mesh g.S.Surface.kept c.in_ok-engine.engine) (state_in g.S.Surface.mesh g.S.Surface.kept c.save.new.self) c.in_ok-engine.ensures.state c.in-Ok-save.ensures.state
    (known g.F.Fn c.args.fields.now g.G.Fn c.args.sizing.now) c.requires.none _ c.args.steps.now c.requires.none_fits (state_in g.S.Surface.mesh g.S.Surface.kept c.follow.new.self) _ _ _ c.in-Ok-follow.ensures.follows
    (told_to c.args.told.now) (told_to c.follow.new.outside.out.now) (Some (told_to c.write_line.new.outside.out.now)) c.requires.fresh refl c.in-Ok.ensures.says.written c.in-Ok-save.ensures.saves)
