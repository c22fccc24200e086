-- Each round with a failing pair leaves fewer blocks, so there are fewer rounds than live vertices.
use Rattle.std.proofs.Common.{◌≡◌, ◌≢◌, ℕ, zero, suc, ◌+◌, ◌<◌, ◌≤◌, Bool, [], length, sym, subst, arith}
use Rattle.std.specs.List.{AllByRecursion}
use Rattle.std.specs.FinMap as finite
use Rattle.grid_base.specs.declared.Positions.{Positions}
use Rattle.grid_base.specs.SeparationTests.{IsExact}
use Rattle.mesh_base.specs.Mesh.{Mesh, IsSound}
use Rattle.mesh_base.specs.Placements.{IsClearMesh}
use Rattle.mesh_base.specs.Shifts.{Shifts, NameLive}
use Rattle.mesh_base.proofs.ListedPairs.{all_joined}
use Rattle.step_zones.specs.Zones.{alone, blocks_in}
use Rattle.step_zones.specs.Rounds.{hits_before, round_labels, round_shifts, round_hits, round_blocks}
use Rattle.step_zones.proofs.Labelled.{AreLiveFive, AreGood, alone_good, all_good, fewer_after, joined_on, blocks_at_first, some_block}
use Rattle.step_zones.proofs.Moved.{failing_live, in_two_blocks}

one_up : (n : ℕ) → n + 1 ≡ suc n
one_up n = omega arith

pub hits_live : (meets : Positions → Bool) (m : Mesh) (asked : Shifts) (depth round : ℕ) → IsSound m → AllByRecursion (AreLiveFive m) (hits_before meets m asked depth round)
unfolding hits_before round_labels round_shifts round_hits round_blocks
hits_live meets m asked depth zero sound = tt
hits_live meets m asked depth (suc round) sound =
    all_joined (AreLiveFive m) (hits_before meets m asked depth round) (round_hits meets m asked depth round)
    (hits_live meets m asked depth round sound) (failing_live meets m (round_shifts meets m asked depth round) depth sound)

pub round_good : (meets : Positions → Bool) (m : Mesh) (asked : Shifts) (depth round : ℕ) → IsSound m → AreGood m (round_labels meets m asked depth round)
unfolding hits_before round_labels round_shifts round_hits round_blocks
round_good meets m asked depth round sound = all_good m alone (hits_before meets m asked depth round) (alone_good m) (hits_live meets m asked depth round sound)

fewer_next : (meets : Positions → Bool) (m : Mesh) (asked : Shifts) (depth round : ℕ) → IsExact meets → IsSound m → IsClearMesh m → NameLive m asked
    → round_hits meets m asked depth round ≢ [] → round_blocks meets m asked depth (suc round) < round_blocks meets m asked depth round
unfolding hits_before round_labels round_shifts round_hits round_blocks
fewer_next meets m asked depth round exact sound clear named some =
    subst (λ at. blocks_in m at < round_blocks meets m asked depth round) (sym (joined_on alone (hits_before meets m asked depth round) (round_hits meets m asked depth round)))
    (fewer_after m (round_labels meets m asked depth round) (round_hits meets m asked depth round) (round_good meets m asked depth round sound)
    (failing_live meets m (round_shifts meets m asked depth round) depth sound)
    (in_two_blocks meets m asked depth (round_labels meets m asked depth round) exact sound clear named) some)

pub fewer_each_round : (meets : Positions → Bool) (m : Mesh) (asked : Shifts) (depth round : ℕ) → IsExact meets → IsSound m → IsClearMesh m → NameLive m asked
    → round_hits meets m asked depth round ≢ [] → round_blocks meets m asked depth (round + 1) < round_blocks meets m asked depth round
unfolding hits_before round_labels round_shifts round_hits round_blocks
fewer_each_round meets m asked depth round exact sound clear named some =
    subst (λ n. round_blocks meets m asked depth n < round_blocks meets m asked depth round) (sym (one_up round)) (fewer_next meets m asked depth round exact sound clear named some)

pub blocks_left : (meets : Positions → Bool) (m : Mesh) (asked : Shifts) (depth round : ℕ) → IsExact meets → IsSound m → IsClearMesh m → NameLive m asked
    → ((before : ℕ) → before < round → round_hits meets m asked depth before ≢ []) → round_blocks meets m asked depth round + round ≤ length (finite.keys m.points)
unfolding hits_before round_labels round_shifts round_hits round_blocks
blocks_left meets m asked depth zero exact sound clear named each = let e = blocks_at_first (finite.keys m.points) in omega arith
blocks_left meets m asked depth (suc round) exact sound clear named each =
    let earlier = blocks_left meets m asked depth round exact sound clear named (λ q h. each q (omega arith)) in
    let fewer = fewer_next meets m asked depth round exact sound clear named (each round (omega arith)) in
    omega arith

pub few_rounds : (meets : Positions → Bool) (m : Mesh) (asked : Shifts) (depth round : ℕ) → IsExact meets → IsSound m → IsClearMesh m → NameLive m asked
    → finite.keys m.points ≢ [] → ((before : ℕ) → before < round → round_hits meets m asked depth before ≢ []) → round < length (finite.keys m.points)
unfolding hits_before round_labels round_shifts round_hits round_blocks
few_rounds meets m asked depth round exact sound clear named some each =
    let left = blocks_left meets m asked depth round exact sound clear named each in
    let one = some_block m (round_labels meets m asked depth round) (round_good meets m asked depth round sound) some in
    omega arith
