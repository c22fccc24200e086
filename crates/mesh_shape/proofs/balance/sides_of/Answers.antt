use Rattle.std.proofs.Common.{◌≡◌, ℕ, ◌+◌, ◌<◌, ◌≤◌, ◌&&◌, Bool, true, false, cond, List, length, take, get_or, nat_lt, if◌then◌else◌, refl, sym, ap, subst, ◌∙◌, arith}
use Rattle.std.specs.List.{count_by}
use Rattle.std.proofs.Math.Seq.{take-length}
use Rattle.std.proofs.lemmas.List.Sums.{count_by_more_yes, count_by_more_no}
use Rattle.mesh_base.specs.Sides.{follows}
use Rattle.mesh_base.specs.Given.{Faces}
use Rattle.mesh_base.specs.Changes.{corners_of}
use Rattle.mesh_shape.specs.Shape.{runs_in}
use Rattle.mesh_shape.specs.Balance.{times, HasRuns, AddsRuns}
use Rattle.mesh_shape.proofs.balance.sides_of.Goals as goal

one_more : (test : List ℕ → Bool) (faces : Faces) (i : ℕ) (d : List ℕ) → i < length faces → (b : Bool) → test (get_or faces i d) ≡ b → count_by test (take (i + 1) faces) ≡ count_by test (take i faces) + cond b 1 0
one_more test faces i d h true e = count_by_more_yes test faces i d h e
one_more test faces i d h false e = count_by_more_no test faces i d h e ∙ omega arith

where_less : (less named : Bool) (old new before after : ℕ) → new ≡ old + cond (less && named) 1 0 → old ≡ (if less then before else 0) → after ≡ before + cond named 1 0 → new ≡ (if less then after else 0)
where_less true named old new before after adds had more = adds ∙ ap (λ n. n + cond named 1 0) had ∙ sym more
where_less false named old new before after adds had more = adds ∙ ap (λ n. n + 0) had

-- with the runs of one face more, the list has those of the faces up to it
with_next : (test : List ℕ → ℕ → ℕ → Bool) (faces : Faces) (i : ℕ) (d : List ℕ) (old new : List (ℕ × ℕ)) → i < length faces → HasRuns old (λ u v. count_by (λ f. test f u v) (take i faces)) → AddsRuns old new (test (get_or faces i d)) → HasRuns new (λ u v. count_by (λ f. test f u v) (take (i + 1) faces))
with_next test faces i d old new h had adds = λ u v.
    where_less (nat_lt u v) (test (get_or faces i d) u v) (times old u v) (times new u v) _ _ (adds u v) (had u v) (one_more (λ f. test f u v) faces i d h (test (get_or faces i d) u v) refl)

all_taken : (faces : Faces) (i : ℕ) → i ≤ length faces → length faces ≤ i → take i faces ≡ faces
all_taken faces i h k = let same : i ≡ length faces = omega arith in ap (λ n. take n faces) same ∙ take-length faces

pub loop-f-preserved : goal.loop-f-preserved
loop-f-preserved c =
    let faces = c.args.faces.now in
    let i = c.loop-f.f-index in
    record {
      up = with_next (λ f u v. follows (corners_of f) u v) faces i _ c.loop-f.sides.up.items c.put_sides.new.sides.up.items c.loop-f-test.true c.loop-f.invariant.up (c.in_ok-put_sides.ensures.up refl);
      down = with_next (λ f u v. follows (corners_of f) v u) faces i _ c.loop-f.sides.down.items c.put_sides.new.sides.down.items c.loop-f-test.true c.loop-f.invariant.down (c.in_ok-put_sides.ensures.down refl);
      small_up = c.in_ok-put_sides.ensures.small_up refl c.loop-f.invariant.small_up;
      small_down = c.in_ok-put_sides.ensures.small_down refl c.loop-f.invariant.small_down;
    }

pub returns-clause-up : goal.returns-clause-up
returns-clause-up c = subst (λ faces. HasRuns c.loop-f.sides.up.items (λ u v. runs_in faces u v)) (all_taken c.args.faces.now c.loop-f.f-index c.loop-f.auto.f-index-end c.loop-f-test.false) c.loop-f.invariant.up

pub returns-clause-down : goal.returns-clause-down
returns-clause-down c = subst (λ faces. HasRuns c.loop-f.sides.down.items (λ u v. runs_in faces v u)) (all_taken c.args.faces.now c.loop-f.f-index c.loop-f.auto.f-index-end c.loop-f-test.false) c.loop-f.invariant.down

pub returns-clause-small_up : goal.returns-clause-small_up
returns-clause-small_up c = c.loop-f.invariant.small_up

pub returns-clause-small_down : goal.returns-clause-small_down
returns-clause-small_down c = c.loop-f.invariant.small_down
