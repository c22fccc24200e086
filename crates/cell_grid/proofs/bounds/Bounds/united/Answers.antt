use Rattle.std.proofs.Common.{Bool, true, ◌&&◌, ◌≡◌}
use Rattle.std.proofs.lemmas.Bool.{and_parts, and_from}
use Rattle.cell_grid.proofs.bounds.Bounds.united.Goals as goal

all_three : (a b c d e f : Bool) → (a ≡ true → d ≡ true) → (b ≡ true → e ≡ true) → (c ≡ true → f ≡ true) → (a && b && c) ≡ true → (d && e && f) ≡ true
all_three a b c d e f p q r h =
    let both = and_parts (a && b) c h in
    let two = and_parts a b both.0 in
    and_from (d && e) f (and_from d e (p two.0) (q two.1)) (r both.1)

pub returns-clause-first : goal.returns-clause-first
returns-clause-first c = λ q. all_three _ _ _ _ _ _ (c.united.ensures.first q.x) (c.united-2.ensures.first q.y) (c.united-3.ensures.first q.z)

pub returns-clause-second : goal.returns-clause-second
returns-clause-second c = λ q. all_three _ _ _ _ _ _ (c.united.ensures.second q.x) (c.united-2.ensures.second q.y) (c.united-3.ensures.second q.z)
