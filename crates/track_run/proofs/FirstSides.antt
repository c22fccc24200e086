-- Sides that run up, each met for the first time.
use Rattle.std.proofs.Common.{◌≡◌, ℕ, suc, ◌+◌, ◌≤◌, ◌<◌, Bool, true, false, cond, ◌&&◌, ◌||◌, ◌==◌, List, [], ◌∷◌, length, map, nat_lt, ⊎_elim, refl, sym, ap, subst, ◌∙◌, arith}
use Rattle.std.proofs.lemmas.Bool.{false≢true, eqb-true}
use Rattle.std.proofs.lemmas.Bool.Decides.{nat_tests}
use Rattle.std.specs.List.{filter}
use Rattle.std.specs.FinMap as finite
use Rattle.mesh_base.specs.declared.ids.Corners.{Corners}
use Rattle.mesh_base.specs.Mesh.{Mesh}
use Rattle.mesh_base.specs.Sides.{follows, runs, ids_where}
use Rattle.mesh_base.proofs.Tests.{and_first, and_second, or_either}
use Rattle.track_run.specs.Surface.{crowded_edges, each_corners, runs_up_twice}
use Rattle.track_run.specs.Marks.{is_marked, HasMark, side_place, IsMet, AreMet}
use Rattle.track_run.proofs.SurfaceSteps.{none_crowded}

unmarked : (a b : Bool) → (a ≡ true → b ≡ true) → b ≡ false → a ≡ false
unmarked true b kept h = sym (kept refl) ∙ h
unmarked false b kept h = refl

not_up : (u v : ℕ) → v ≤ u → nat_lt u v ≡ false
not_up u v down = grind (arith, nat_tests)

one_and : (n : ℕ) → suc n ≡ 1 + n
one_and n = omega arith

none_and : (n : ℕ) → n ≡ 0 + n
none_and n = omega arith

module _ (m : Mesh) (places : ℕ) where
  -- ---- a side
  pub met_again : (marks : List Bool) (u v : ℕ) → runs_up_twice m u v ≡ false → IsMet m places marks u v marks
  met_again marks u v none = record {
    first = λ up. absurd (false≢true (sym none ∙ up));
    put = λ up. absurd (false≢true (sym none ∙ up));
    kept = λ k h. h;
  }

  pub met_down : (marks : List Bool) (u v : ℕ) → v ≤ u → IsMet m places marks u v marks
  met_down marks u v down = met_again marks u v (ap (λ b. b && nat_lt 1 (runs m u v)) (not_up u v down))

  pub met_first : (old new : List Bool) (u v k : ℕ) → k ≡ side_place places u v → is_marked old k ≡ false → HasMark old k new → IsMet m places old u v new
  met_first old new u v k at none mark = record {
    first = λ up. ap (is_marked old) (sym at) ∙ none;
    put = λ up. ap (is_marked new) (sym at) ∙ mark.put;
    kept = mark.kept;
  }

  -- ---- the three of a face
  module _ (t0 t1 t2 t3 : List Bool) (c : Corners) (a : IsMet m places t0 c.first c.second t1) (b : IsMet m places t1 c.second c.third t2) (d : IsMet m places t2 c.third c.first t3) where
    abbrev Side : ℕ → ℕ → Type 0
    Side u v = runs_up_twice m u v ≡ true → (is_marked t0 (side_place places u v) ≡ false) × (is_marked t3 (side_place places u v) ≡ true)

    side_at : (x y u v : ℕ) → (x == u && y == v) ≡ true → Side x y → Side u v
    side_at x y u v h s =
        subst (λ j. Side j v) (eqb-true x u (and_first (x == u) (y == v) h))
        (subst (λ j. Side x j) (eqb-true y v (and_second (x == u) (y == v) h)) s)

    one : Side c.first c.second
    one up = let k = side_place places c.first c.second in (a.first up, d.kept k (b.kept k (a.put up)))

    two : Side c.second c.third
    two up = let k = side_place places c.second c.third in (unmarked (is_marked t0 k) (is_marked t1 k) (a.kept k) (b.first up), d.kept k (b.put up))

    three : Side c.third c.first
    three up = let k = side_place places c.third c.first in
        (unmarked (is_marked t0 k) (is_marked t1 k) (a.kept k) (unmarked (is_marked t1 k) (is_marked t2 k) (b.kept k) (d.first up)), d.put up)

    each : (u v : ℕ) → follows c u v ≡ true → Side u v
    each u v f = ⊎_elim
        (λ first_two. ⊎_elim (λ h. side_at c.first c.second u v h one) (λ h. side_at c.second c.third u v h two)
        (or_either (c.first == u && c.second == v) (c.second == u && c.third == v) first_two))
        (λ h. side_at c.third c.first u v h three)
        (or_either ((c.first == u && c.second == v) || (c.second == u && c.third == v)) (c.third == u && c.first == v) f)

    pub all_met : AreMet m places t0 c t3
    all_met = record {
      first = λ u v f up. (each u v f up).0;
      put = λ u v f up. (each u v f up).1;
      kept = λ k h. d.kept k (b.kept k (a.kept k h));
    }

  -- ---- face by face
  -- how many of the faces run along the side
  abbrev pub along : ℕ → ℕ → List Corners → ℕ
  along u v faces = length (filter (λ d. follows d u v) faces)

  -- where more than one runs up along a side, all but those that are left are one, which is marked
  abbrev pub AreFirstBut : List Corners → List Bool → Type 0
  AreFirstBut left marks = (u v : ℕ) → runs_up_twice m u v ≡ true → runs m u v ≤ along u v left + cond {A = ℕ} (is_marked marks (side_place places u v)) 1 0

  one_more : (u v : ℕ) (d : Corners) (next : List Corners) → along u v (d ∷ next) ≡ cond {A = ℕ} (follows d u v) 1 0 + along u v next
  one_more u v d next = by_test (follows d u v)
    where
      by_test : (b : Bool) → length (cond b (d ∷ filter (λ x. follows x u v) next) (filter (λ x. follows x u v) next)) ≡ cond {A = ℕ} b 1 0 + along u v next
      by_test true = one_and (along u v next)
      by_test false = none_and (along u v next)

  no_less : (a b : Bool) → (a ≡ true → b ≡ true) → cond {A = ℕ} a 1 0 ≤ cond {A = ℕ} b 1 0
  no_less true b kept = let is : cond {A = ℕ} b 1 0 ≡ 1 = ap (λ t. cond {A = ℕ} t 1 0) (kept refl) in omega (arith, is)
  no_less false b kept = omega arith

  pub passed_face : (left next : List Corners) (d : Corners) (old new : List Bool) → left ≡ d ∷ next → AreMet m places old d new → AreFirstBut left old → AreFirstBut next new
  passed_face left next d old new step met h u v up = by_test (follows d u v) refl
    where
      k : ℕ
      k = side_place places u v

      bound : runs m u v ≤ (cond {A = ℕ} (follows d u v) 1 0 + along u v next) + cond {A = ℕ} (is_marked old k) 1 0
      bound = subst (λ n. runs m u v ≤ n + cond {A = ℕ} (is_marked old k) 1 0) (ap (along u v) step ∙ one_more u v d next) (h u v up)

      by_test : (b : Bool) → follows d u v ≡ b → runs m u v ≤ along u v next + cond {A = ℕ} (is_marked new k) 1 0
      by_test true is =
          let here : cond {A = ℕ} (follows d u v) 1 0 ≡ 1 = ap (λ t. cond {A = ℕ} t 1 0) is in
          let before : cond {A = ℕ} (is_marked old k) 1 0 ≡ 0 = ap (λ t. cond {A = ℕ} t 1 0) (met.first u v is up) in
          let after : cond {A = ℕ} (is_marked new k) 1 0 ≡ 1 = ap (λ t. cond {A = ℕ} t 1 0) (met.put u v is up) in
          omega (arith, bound, here, before, after)
      by_test false is =
          let here : cond {A = ℕ} (follows d u v) 1 0 ≡ 0 = ap (λ t. cond {A = ℕ} t 1 0) is in
          omega (arith, bound, here, no_less (is_marked old k) (is_marked new k) (met.kept k))

  listed : (u v : ℕ) (es : List (ℕ × Corners)) → length (ids_where (λ d. follows d u v) es) ≡ along u v (map (λ e. e.1) es)
  listed u v [] = refl
  listed u v (e ∷ es) = by_test (follows e.1 u v) (listed u v es)
    where
      by_test : (b : Bool) → length (ids_where (λ d. follows d u v) es) ≡ along u v (map (λ x. x.1) es) →
          length (map (λ x. x.0) (cond b (e ∷ filter (λ x. follows x.1 u v) es) (filter (λ x. follows x.1 u v) es)))
          ≡ length (cond b (e.1 ∷ filter (λ x. follows x u v) (map (λ x. x.1) es)) (filter (λ x. follows x u v) (map (λ x. x.1) es)))
      by_test true rest = ap suc rest
      by_test false rest = rest

  pub all_left : (faces : List Corners) (marks : List Bool) → faces ≡ each_corners m → AreFirstBut faces marks
  all_left faces marks all u v up =
      let whole : runs m u v ≡ along u v faces = listed u v (finite.entries m.faces) ∙ ap (along u v) (sym all) in
      omega (arith, whole)

  pub none_left : (left : List Corners) (marks : List Bool) → left ≡ [] → AreFirstBut left marks → crowded_edges m ≡ 0
  none_left left marks end h = none_crowded m (λ u v. by_test u v (runs_up_twice m u v) refl)
    where
      at_most : (b : Bool) → cond {A = ℕ} b 1 0 ≤ 1
      at_most true = omega arith
      at_most false = omega arith

      above_one : (n : ℕ) → nat_lt 1 n ≡ true → 1 < n
      above_one n is = grind (arith, nat_tests)

      by_test : (u v : ℕ) (b : Bool) → runs_up_twice m u v ≡ b → b ≡ false
      by_test u v true up =
          let few = h u v up in
          let zero : along u v left ≡ 0 = ap (along u v) end in
          let many = above_one (runs m u v) (and_second (nat_lt u v) (nat_lt 1 (runs m u v)) up) in
          absurd (omega (arith, few, zero, many, at_most (is_marked marks (side_place places u v))))
      by_test u v false up = refl
