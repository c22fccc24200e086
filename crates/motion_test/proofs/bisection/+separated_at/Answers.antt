use Rattle.std.proofs.Common.{◌<◌, ◌-◌, refl, arith, ⊎_elim}
use Rattle.std.proofs.lemmas.Bool.{false≢true}
use Rattle.grid_base.specs.Separation.{double, middle}
use Rattle.grid_base.proofs.SeparationLaws.{AreSeparated-at_once, AreSeparated-never_meet, NeverMeet-at_end}
use Rattle.motion_test.proofs.Rooms.{in_room, in_wide, small_at, in_arithmetic, middle_within, doubled_within, room_for_halves, AreSeparated-open, AreSeparated-in_halves}
use Rattle.motion_test.proofs.bisection.+separated_at.Goals as goal

pub direction_keeps_apart-requires-clause-s_fits :
    goal.direction_keeps_apart-requires-clause-s_fits
direction_keeps_apart-requires-clause-s_fits t c = in_arithmetic c.args.small c.args.depth c.args.s.now c.requires.s_fits

pub direction_keeps_apart-requires-clause-t_fits :
    goal.direction_keeps_apart-requires-clause-t_fits
direction_keeps_apart-requires-clause-t_fits t c = in_arithmetic c.args.small c.args.depth c.args.t.now c.requires.t_fits

pub returns-then-direction_keeps_apart : goal.returns-then-direction_keeps_apart
returns-then-direction_keeps_apart t c = (λ _. AreSeparated-at_once _ _ _ (c.if-direction_keeps_apart.ensures.0 refl), λ _. refl)

pub middle-m-requires-clause-s_fits : goal.middle-m-requires-clause-s_fits
middle-m-requires-clause-s_fits t c = in_wide c.args.small c.args.depth c.args.s.now c.requires.depth_fits c.requires.s_fits

pub middle-m-requires-clause-t_fits : goal.middle-m-requires-clause-t_fits
middle-m-requires-clause-t_fits t c = in_wide c.args.small c.args.depth c.args.t.now c.requires.depth_fits c.requires.t_fits

pub double-first-requires : goal.double-first-requires
double-first-requires t c = in_wide c.args.small c.args.depth c.args.s.now c.requires.depth_fits c.requires.s_fits

pub double-last-requires : goal.double-last-requires
double-last-requires t c = in_wide c.args.small c.args.depth c.args.t.now c.requires.depth_fits c.requires.t_fits

pub separated_at-requires : goal.separated_at-requires
separated_at-requires t c =
    let some : 0 < c.args.depth = omega arith in
    let s_in = in_room c.args.small c.args.depth c.args.s.now c.requires.depth_fits c.requires.s_fits in
    let t_in = in_room c.args.small c.args.depth c.args.t.now c.requires.depth_fits c.requires.t_fits in
    let room = room_for_halves c.args.depth some c.requires.depth_fits in
    let three = c.are_three_small-halves_small in (
      omega arith,
      (
        omega arith,
        (
          small_at three.result (c.args.depth - 1) c.double-first.result three.ensures.start (rw c.double-first.ensures (doubled_within _ _ c.args.s.now room s_in)),
          small_at three.result (c.args.depth - 1) c.middle-m.result three.ensures.middle (rw c.middle-m.ensures (middle_within _ _ c.args.s.now c.args.t.now room s_in t_in)),
        ),
      ),
    )

pub separated_at-requires-2 : goal.separated_at-requires-2
separated_at-requires-2 t c =
    let some : 0 < c.args.depth = omega arith in
    let s_in = in_room c.args.small c.args.depth c.args.s.now c.requires.depth_fits c.requires.s_fits in
    let t_in = in_room c.args.small c.args.depth c.args.t.now c.requires.depth_fits c.requires.t_fits in
    let room = room_for_halves c.args.depth some c.requires.depth_fits in
    let three = c.are_three_small-halves_small in (
      omega arith,
      (
        omega arith,
        (
          small_at three.result (c.args.depth - 1) c.middle-m.result three.ensures.middle (rw c.middle-m.ensures (middle_within _ _ c.args.s.now c.args.t.now room s_in t_in)),
          small_at three.result (c.args.depth - 1) c.double-last.result three.ensures.end (rw c.double-last.ensures (doubled_within _ _ c.args.t.now room t_in)),
        ),
      ),
    )

-- what meets at the end or in the middle is not separated
pub returns-then-is_met : goal.returns-then-is_met
returns-then-is_met t c =
    let some : 0 < c.args.depth = omega arith in
    let s = c.args.s.now in
    let e = c.args.t.now in
    let meets = rw c.middle-m.ensures at c.if-is_met.ensures in (
      λ no. absurd (false≢true no),
      λ yes. ⊎_elim
          (λ at_end. absurd (NeverMeet-at_end s e (AreSeparated-never_meet c.args.depth s e yes) at_end))
          (λ halfway. ⊎_elim (λ at_once. c.if-direction_keeps_apart.ensures.1 at_once)
          (λ halves. absurd (NeverMeet-at_end (double s) (middle s e) (AreSeparated-never_meet (c.args.depth - 1) (double s) (middle s e) halves.0) halfway))
          (AreSeparated-open c.args.depth s e some yes))
          (meets refl),
    )

pub returns-then-not-separated_at : goal.returns-then-not-separated_at
returns-then-not-separated_at t c =
    let some : 0 < c.args.depth = omega arith in
    let first = rw (c.double-first.ensures, c.middle-m.ensures) at c.if-not-separated_at.ensures in
    (λ no. absurd (false≢true no), λ yes. ⊎_elim (λ at_once. c.if-direction_keeps_apart.ensures.1 at_once) (λ halves. first.1 halves.0) (AreSeparated-open c.args.depth c.args.s.now c.args.t.now some yes))

pub returns : goal.returns
returns t c =
    let some : 0 < c.args.depth = omega arith in
    let first = rw (c.double-first.ensures, c.middle-m.ensures) at c.if-not-separated_at.ensures in
    let second = rw (c.middle-m.ensures, c.double-last.ensures) at c.separated_at-2.ensures in (
      λ yes. AreSeparated-in_halves c.args.depth c.args.s.now c.args.t.now some (first.0 refl, second.0 yes),
      λ yes. ⊎_elim (λ at_once. absurd (false≢true (c.if-direction_keeps_apart.ensures.1 at_once))) (λ halves. second.1 halves.1) (AreSeparated-open c.args.depth c.args.s.now c.args.t.now some yes),
    )
