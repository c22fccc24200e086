use Rattle.std.proofs.Common.{◌<◌, refl, arith, ⊎_elim}
use Rattle.std.proofs.lemmas.Bool.{false≢true}
use Rattle.grid_base.proofs.SeparationLaws.{Opens-at_once}
use Rattle.motion_test.proofs.Rooms.{in_room, in_wide, in_arithmetic, middle_within, doubled_within, room_for_halves, Opens-open, Opens-in_halves}
use Rattle.motion_test.proofs.bisection.+opens_at.Goals as goal

pub direction_takes_apart-requires-clause-s_fits :
    goal.direction_takes_apart-requires-clause-s_fits
direction_takes_apart-requires-clause-s_fits t c = in_arithmetic c.args.small c.args.depth c.args.s.now c.requires.s_fits

pub direction_takes_apart-requires-clause-t_fits :
    goal.direction_takes_apart-requires-clause-t_fits
direction_takes_apart-requires-clause-t_fits t c = in_arithmetic c.args.small c.args.depth c.args.t.now c.requires.t_fits

pub returns-then-direction_takes_apart : goal.returns-then-direction_takes_apart
returns-then-direction_takes_apart t c = (λ _. Opens-at_once _ _ _ (c.if-direction_takes_apart.ensures.0 refl), λ _. refl)

pub middle-halfway-requires-clause-s_fits : goal.middle-halfway-requires-clause-s_fits
middle-halfway-requires-clause-s_fits t c = in_wide c.args.small c.args.depth c.args.s.now c.requires.depth_fits c.requires.s_fits

pub middle-halfway-requires-clause-t_fits : goal.middle-halfway-requires-clause-t_fits
middle-halfway-requires-clause-t_fits t c = in_wide c.args.small c.args.depth c.args.t.now c.requires.depth_fits c.requires.t_fits

pub double-requires : goal.double-requires
double-requires t c = in_wide c.args.small c.args.depth c.args.s.now c.requires.depth_fits c.requires.s_fits

pub double-requires-2 : goal.double-requires-2
double-requires-2 t c = in_wide c.args.small c.args.depth c.args.t.now c.requires.depth_fits c.requires.t_fits

pub opens_at-requires : goal.opens_at-requires
opens_at-requires t c =
    let some : 0 < c.args.depth = omega arith in
    let s_in = in_room c.args.small c.args.depth c.args.s.now c.requires.depth_fits c.requires.s_fits in
    let t_in = in_room c.args.small c.args.depth c.args.t.now c.requires.depth_fits c.requires.t_fits in
    let room = room_for_halves c.args.depth some c.requires.depth_fits in (
      omega arith,
      (
        omega arith,
        (
          rw c.double.ensures (doubled_within _ _ c.args.s.now room s_in),
          rw c.middle-halfway.ensures (middle_within _ _ c.args.s.now c.args.t.now room s_in t_in),
        ),
      ),
    )

pub separated_at-requires : goal.separated_at-requires
separated_at-requires t c =
    let some : 0 < c.args.depth = omega arith in
    let s_in = in_room c.args.small c.args.depth c.args.s.now c.requires.depth_fits c.requires.s_fits in
    let t_in = in_room c.args.small c.args.depth c.args.t.now c.requires.depth_fits c.requires.t_fits in
    let room = room_for_halves c.args.depth some c.requires.depth_fits in
    record {
      depth_fits = omega arith;
      s_fits = rw c.middle-halfway.ensures (middle_within _ _ c.args.s.now c.args.t.now room s_in t_in);
      t_fits = rw c.double-2.ensures (doubled_within _ _ c.args.t.now room t_in);
    }

pub returns-then-not-opens_at : goal.returns-then-not-opens_at
returns-then-not-opens_at t c =
    let some : 0 < c.args.depth = omega arith in
    let first = rw (c.double.ensures, c.middle-halfway.ensures) at c.if-not-opens_at.ensures in
    (λ no. absurd (false≢true no), λ yes. ⊎_elim (λ at_once. c.if-direction_takes_apart.ensures.1 at_once) (λ halves. first.1 halves.0) (Opens-open c.args.depth c.args.s.now c.args.t.now some yes))

pub returns : goal.returns
returns t c =
    let some : 0 < c.args.depth = omega arith in
    let first = rw (c.double.ensures, c.middle-halfway.ensures) at c.if-not-opens_at.ensures in
    let second = rw (c.middle-halfway.ensures, c.double-2.ensures) at c.separated_at.ensures in (
      λ yes. Opens-in_halves c.args.depth c.args.s.now c.args.t.now some (first.0 refl, second.0 yes),
      λ yes. ⊎_elim (λ at_once. absurd (false≢true (c.if-direction_takes_apart.ensures.1 at_once))) (λ halves. second.1 halves.1) (Opens-open c.args.depth c.args.s.now c.args.t.now some yes),
    )
