-- A ring of sides that is made for a face, and one that is taken out.
use Rattle.std.proofs.Common.{◌≡◌, ◌≢◌, ⊎_elim, ℕ, ◌==◌, ◌||◌, Bool, true, false, cond, List, [], ◌∷◌, ◌++◌, Option, Some, None, IsSome, refl, sym, ap, subst, ◌∙◌, arith}
use Rattle.std.proofs.lemmas.Bool.{cases_eq}
use Rattle.std.proofs.lemmas.Bool.Decides.{nat_tests}
use Rattle.std.specs.Option.{option_map}
use Rattle.std.specs.Ordering.{nat_cmp, eq_by_cmp}
use Rattle.std.specs.Cmp.{nat_cmp_total, eq_by_cmp_equiv}
use Rattle.std.specs.FinMap as finite
use Rattle.mesh_base.specs.declared.ids.Corners.{Corners}
use Rattle.mesh_base.specs.Mesh.{AreDifferent}
use Rattle.mesh_base.specs.Sides.{has_corner}
use Rattle.mesh_base.proofs.Finite.{live_stays}
use Rattle.half_mesh.specs.Fans.{put_spoke, Spoke, Fan, Fans, Side, Sides, Woven, side_at, spokes_at, with_spoke, without, without_spoke}
use Rattle.half_mesh.specs.Vertices.{vertices_in}
use Rattle.half_mesh.specs.Tied.{HasRing, spoke_in}
use Rattle.half_mesh.proofs.Mapped.{insert_same, tied}
use Rattle.half_mesh.proofs.Vertices.{vertices-insert, get-vertices}
use Rattle.half_mesh.proofs.TiedLaws.{spokes_at-insert, spokes_at-got}

pub got_some : {X : Type 0} (o : Option X) → IsSome o → (x : X) × (o ≡ Some x)
got_some None e = cc
got_some (Some x) e = (x, refl)

eq_same : (v : ℕ) → eq_by_cmp nat_cmp v v ≡ true
eq_same v = (eq_by_cmp_equiv nat_cmp_total).refl v

not_tied : (q k : ℕ) → q ≢ k → eq_by_cmp nat_cmp q k ≡ false
not_tied q k apart = elim (eq_by_cmp nat_cmp q k) as (λ b. eq_by_cmp nat_cmp q k ≡ b → b ≡ false) [ true ↦ λ e. absurd (apart (tied q k e)) | false ↦ λ e. refl ] refl

-- the fan of one vertex has other spokes, and all else stays
pub record HasSpokes (old new : Fans) (v : ℕ) (spokes : List Spoke) : Type 0 where
  pub here : spokes_at new v ≡ spokes
  pub others : (q : ℕ) → q ≢ v → spokes_at new q ≡ spokes_at old q
  pub vertices : vertices_in new ≡ vertices_in old
  pub live : (q : ℕ) → IsSome (finite.get old q) → IsSome (finite.get new q)

has_spokes : (old : Fans) (v : ℕ) (fan : Fan) (spokes : List Spoke) → finite.get old v ≡ Some fan → HasSpokes old (finite.insert old v (record { vertex = fan.vertex; spokes = spokes })) v spokes
has_spokes old v fan spokes there =
    let other : Fan = record { vertex = fan.vertex; spokes = spokes } in
    record {
      here = spokes_at-insert old v other v ∙ ap (λ b. cond b spokes (spokes_at old v)) (eq_same v);
      others = λ q apart. spokes_at-insert old v other q ∙ ap (λ b. cond b spokes (spokes_at old q)) (not_tied q v apart);
      vertices = vertices-insert old v other ∙ insert_same (vertices_in old) v fan.vertex (get-vertices old v ∙ ap (option_map (λ (x : Fan). x.vertex)) there);
      live = live_stays old v other;
    }

pub has-with_spoke : (old new : Fans) (v : ℕ) (s : Spoke) → ((fan : Fan) → finite.get old v ≡ Some fan → new ≡ finite.insert old v (with_spoke fan s)) → IsSome (finite.get old v) → HasSpokes old new v (s ∷ spokes_at old v)
has-with_spoke old new v s is live =
    let at = got_some (finite.get old v) live in
    let spokes = ap (λ ss. s ∷ ss) (sym (spokes_at-got old v at.0 at.1)) in
    subst (HasSpokes old new v) spokes (subst (λ m. HasSpokes old m v (s ∷ at.0.spokes)) (sym (is at.0 at.1)) (has_spokes old v at.0 (s ∷ at.0.spokes) at.1))

pub has-without_spoke : (old new : Fans) (v f : ℕ) → ((fan : Fan) → finite.get old v ≡ Some fan → new ≡ finite.insert old v (without_spoke fan f)) → IsSome (finite.get old v) → HasSpokes old new v (without f (spokes_at old v))
has-without_spoke old new v f is live =
    let at = got_some (finite.get old v) live in
    let spokes = ap (without f) (sym (spokes_at-got old v at.0 at.1)) in
    subst (HasSpokes old new v) spokes (subst (λ m. HasSpokes old m v (without f at.0.spokes)) (sym (is at.0 at.1)) (has_spokes old v at.0 (without f at.0.spokes) at.1))

pub has-put_spoke : (old new : Fans) (v : ℕ) (s : Spoke) → ((fan : Fan) → finite.get old v ≡ Some fan → new ≡ finite.insert old v (record fan { spokes = put_spoke s fan.spokes })) → IsSome (finite.get old v) → HasSpokes old new v (put_spoke s (spokes_at old v))
has-put_spoke old new v s is live =
    let at = got_some (finite.get old v) live in
    let spokes = ap (put_spoke s) (sym (spokes_at-got old v at.0 at.1)) in
    subst (HasSpokes old new v) spokes (subst (λ m. HasSpokes old m v (put_spoke s at.0.spokes)) (sym (is at.0 at.1)) (has_spokes old v at.0 (put_spoke s at.0.spokes) at.1))

-- what a face is to each of its corners
ring_test : ℕ → Corners → Bool → Bool → Bool → List Spoke
ring_test f c x y z = cond (x || y || z) (record { face = f; to = cond x c.second (cond y c.third c.first) } ∷ []) []

in_tests : (v f : ℕ) (c : Corners) (x y z : Bool) → (c.first == v) ≡ x → (c.second == v) ≡ y → (c.third == v) ≡ z → spoke_in v (f, c) ≡ ring_test f c x y z
unfolding ring_test
in_tests v f c x y z p q r = ap (λ b. ring_test f c b (c.second == v) (c.third == v)) p ∙ ap (λ b. ring_test f c x b (c.third == v)) q ∙ ap (λ b. ring_test f c x y b) r

same_test : (a v : ℕ) → v ≡ a → (a == v) ≡ true
same_test a v e = grind (arith, nat_tests)

differ_test : (a v : ℕ) → v ≢ a → (a == v) ≡ false
differ_test a v h = grind (arith, nat_tests)

pub spoke_in-first : (v f : ℕ) (c : Corners) → v ≡ c.first → spoke_in v (f, c) ≡ record { face = f; to = c.second } ∷ []
unfolding ring_test
spoke_in-first v f c e = in_tests v f c true (c.second == v) (c.third == v) (same_test c.first v e) refl refl

pub spoke_in-second : (v f : ℕ) (c : Corners) → AreDifferent c → v ≡ c.second → spoke_in v (f, c) ≡ record { face = f; to = c.third } ∷ []
unfolding ring_test
spoke_in-second v f c d e = in_tests v f c false true (c.third == v) (differ_test c.first v (λ same. d.first_second (sym same ∙ e))) (same_test c.second v e) refl

pub spoke_in-third : (v f : ℕ) (c : Corners) → AreDifferent c → v ≡ c.third → spoke_in v (f, c) ≡ record { face = f; to = c.first } ∷ []
unfolding ring_test
spoke_in-third v f c d e = in_tests v f c false false true (differ_test c.first v (λ same. d.third_first (sym e ∙ same))) (differ_test c.second v (λ same. d.second_third (sym same ∙ e))) (same_test c.third v e)

pub spoke_in-none : (v f : ℕ) (c : Corners) → v ≢ c.first → v ≢ c.second → v ≢ c.third → spoke_in v (f, c) ≡ []
unfolding ring_test
spoke_in-none v f c p q r = in_tests v f c false false false (differ_test c.first v p) (differ_test c.second v q) (differ_test c.third v r)

pub no_corner : (v : ℕ) (c : Corners) → v ≢ c.first → v ≢ c.second → v ≢ c.third → has_corner c v ≡ false
no_corner v c p q r =
    ap (λ b. b || (c.second == v) || (c.third == v)) (differ_test c.first v p) ∙ ap (λ b. b || (c.third == v)) (differ_test c.second v q) ∙ differ_test c.third v r

-- a half-edge more
pub record Attaches (old new : Woven) (v to f next key : ℕ) : Type 0 where
  pub spoke : HasSpokes old.fans new.fans v (record { face = f; to = to } ∷ spokes_at old.fans v)
  pub fresh : side_at old.sides key ≡ None
  pub side : side_at new.sides key ≡ Some (record { origin = v; to = to; face = f; next = next })
  pub sides : (k : ℕ) → k ≢ key → side_at new.sides k ≡ side_at old.sides k

-- what is there is at no vacant key
apart_from : (sides : Sides) (k key : ℕ) (side : Side) → side_at sides k ≡ Some side → side_at sides key ≡ None → k ≢ key
apart_from sides k key side there none same = let at = ap (side_at sides) same in cc

-- three half-edges make the ring of a face, once the third is joined to the first
pub ring-made : (w0 w1 w2 w3 w4 : Woven) (f : ℕ) (c : Corners) (first second third : ℕ) → AreDifferent c
    → Attaches w0 w1 c.third c.first f 0 third → Attaches w1 w2 c.second c.third f third second → Attaches w2 w3 c.first c.second f second first
    → w4.fans ≡ w3.fans
    → ((side : Side) → side_at w3.sides third ≡ Some side → side_at w4.sides third ≡ Some (record side { next = first }))
    → ((k : ℕ) → k ≢ third → side_at w4.sides k ≡ side_at w3.sides k)
    → HasRing w0 w4 f c first
ring-made w0 w1 w2 w3 w4 f c first second third d a b e fans joined others =
    let third_second : third ≢ second = apart_from w1.sides third second _ a.side b.fresh in
    let third_2 = b.sides third third_second ∙ a.side in
    let third_first : third ≢ first = apart_from w2.sides third first _ third_2 e.fresh in
    let second_first : second ≢ first = apart_from w2.sides second first _ b.side e.fresh in
    record {
      ring = record {
        second = second;
        third = third;
        at_first = others first (λ same. third_first (sym same)) ∙ e.side;
        at_second = others second (λ same. third_second (sym same)) ∙ e.sides second second_first ∙ b.side;
        at_third = joined _ (e.sides third third_first ∙ third_2);
      };
      sides = λ k side there.
          let not_third : k ≢ third = apart_from w0.sides k third side there a.fresh in
          let at_1 = a.sides k not_third ∙ there in
          let not_second : k ≢ second = apart_from w1.sides k second side at_1 b.fresh in
          let at_2 = b.sides k not_second ∙ at_1 in
          let not_first : k ≢ first = apart_from w2.sides k first side at_2 e.fresh in
          others k not_third ∙ e.sides k not_first ∙ at_2;
      spokes = λ v. ap (λ m. spokes_at m v) fans ∙ ⊎_elim
          (λ is. subst (λ q. spokes_at w3.fans q ≡ spokes_at w3.fans q) (sym is) refl
          ∙ ap (spokes_at w3.fans) is ∙ e.spoke.here
          ∙ ap (λ ss. record { face = f; to = c.second } ∷ ss) (b.spoke.others c.first d.first_second ∙ a.spoke.others c.first (λ same. d.third_first (sym same)))
          ∙ ap (λ q. record { face = f; to = c.second } ∷ spokes_at w0.fans q) (sym is)
          ∙ ap (λ ss. ss ++ spokes_at w0.fans v) (sym (spoke_in-first v f c is)))
          (λ not_first. e.spoke.others v not_first ∙ ⊎_elim
          (λ is. ap (spokes_at w2.fans) is ∙ b.spoke.here
          ∙ ap (λ ss. record { face = f; to = c.third } ∷ ss) (a.spoke.others c.second d.second_third)
          ∙ ap (λ q. record { face = f; to = c.third } ∷ spokes_at w0.fans q) (sym is)
          ∙ ap (λ ss. ss ++ spokes_at w0.fans v) (sym (spoke_in-second v f c d is)))
          (λ not_second. b.spoke.others v not_second ∙ ⊎_elim
          (λ is. ap (spokes_at w1.fans) is ∙ a.spoke.here
          ∙ ap (λ q. record { face = f; to = c.first } ∷ spokes_at w0.fans q) (sym is)
          ∙ ap (λ ss. ss ++ spokes_at w0.fans v) (sym (spoke_in-third v f c d is)))
          (λ not_third. a.spoke.others v not_third ∙ ap (λ ss. ss ++ spokes_at w0.fans v) (sym (spoke_in-none v f c not_first not_second not_third)))
          (cases_eq v c.third))
          (cases_eq v c.second))
          (cases_eq v c.first);
      vertices = ap vertices_in fans ∙ e.spoke.vertices ∙ b.spoke.vertices ∙ a.spoke.vertices;
    }
