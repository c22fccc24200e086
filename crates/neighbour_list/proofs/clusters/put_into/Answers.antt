use Rattle.std.proofs.Common.{⊎_elim, inl, inr, refl}
use Rattle.neighbour_list.proofs.Growing.{face_kept}
use Rattle.neighbour_list.proofs.clusters.put_into.Goals as goal

pub returns-clause-kept : goal.returns-clause-kept
returns-clause-kept g c = λ ok d h. ⊎_elim
    (λ covered. inl covered)
    (λ face. inr (face_kept _ _ d c.put_face.ensures.kept face))
    (c.in_ok-make_room.ensures.kept refl d h)

pub returns-clause-full_at : goal.returns-clause-full_at
returns-clause-full_at g c = λ ok full last. c.in_ok-make_room.ensures.full_at refl (g.P.Paths.motion c.args.paths.now).start full last

pub returns-clause-last_at : goal.returns-clause-last_at
returns-clause-last_at g c = λ ok last. c.put_face.ensures.at (c.in_ok-make_room.ensures.last_at refl (g.P.Paths.motion c.args.paths.now).start last)
