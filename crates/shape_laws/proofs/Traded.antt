-- How many edges a mesh has of which some come and some go.
use Rattle.std.proofs.Common.{◌≡◌, ◌≢◌, ◌⊎◌, ℕ, ◌+◌, ◌<◌, List, [], ◌∷◌, ◌++◌, map, refl, length, length-append, inl, inr, ⊎_elim, sym, subst, pos, ◌+ℤ◌, ◌-ℤ◌, arith}
use Rattle.std.proofs.lemmas.Int.{ints}
use Rattle.std.specs.List.{AllByRecursion}
use Rattle.mesh_base.specs.Mesh.{Mesh, IsSound}
use Rattle.mesh_base.specs.Pairs.{edges}
use Rattle.shape_laws.proofs.Lists.{In, AllDiffer, same_length}
use Rattle.shape_laws.proofs.Numbers.{at_in}
use Rattle.shape_laws.proofs.Listed.{AreSided, edge_in, in_edge, edges_differ}

-- ---- lists behind one another
pub in_first : {X : Type 0} (xs ys : List X) (x : X) → In xs x → In (xs ++ ys) x
in_first [] ys x i = absurd i
in_first (z ∷ zs) ys x i = ⊎_elim (λ e. inl e) (λ j. inr (in_first zs ys x j)) i

pub in_second : {X : Type 0} (xs ys : List X) (x : X) → In ys x → In (xs ++ ys) x
in_second [] ys x i = i
in_second (z ∷ zs) ys x i = inr (in_second zs ys x i)

pub in_either : {X : Type 0} (xs ys : List X) (x : X) → In (xs ++ ys) x → In xs x ⊎ In ys x
in_either [] ys x i = inr i
in_either {X} (z ∷ zs) ys x i = ⊎_elim (λ e. inl (inl e)) (λ j. behind (in_either zs ys x j)) i
  where
    behind : In zs x ⊎ In ys x → In (z ∷ zs) x ⊎ In ys x
    behind r = ⊎_elim (λ k. inl (inr k)) (λ k. inr k) r

pub differ_joined : {X : Type 0} (xs ys : List X) → AllDiffer xs → AllDiffer ys → ((x : X) → In xs x → In ys x → ⊥) → AllDiffer (xs ++ ys)
differ_joined [] ys h h' apart = h'
differ_joined (z ∷ zs) ys h h' apart = (
  λ i. ⊎_elim (λ j. h.0 j) (λ j. apart z (inl refl) j) (in_either zs ys z i),
  differ_joined zs ys h.1 h' (λ x i j. apart x (inr i) j),
)

in_mapped : {X Y : Type 0} (f : X → Y) (xs : List X) (y : Y) → In (map f xs) y → (x : X) × In xs x × (f x ≡ y)
in_mapped f [] y i = absurd i
in_mapped {X} {Y} f (z ∷ zs) y i = ⊎_elim (λ e. (z, inl refl, e)) (λ j. behind (in_mapped f zs y j)) i
  where
    behind : (x : X) × In zs x × (f x ≡ y) → (x : X) × In (z ∷ zs) x × (f x ≡ y)
    behind r = (r.0, inr r.1, r.2)

pub differ_mapped : {X Y : Type 0} (f : X → Y) (xs : List X) → ((x y : X) → f x ≡ f y → x ≡ y) → AllDiffer xs → AllDiffer (map f xs)
differ_mapped f [] one h = tt
differ_mapped f (z ∷ zs) one h = (λ i. let found = in_mapped f zs (f z) i in h.0 (subst (In zs) (one found.0 z found.2) found.1), differ_mapped f zs one h.1)

-- ---- pairs
-- u and v are x and y, in some order
abbrev pub ArePair : ℕ → ℕ → ℕ → ℕ → Type 0
ArePair x y u v = ((x ≡ u) × (y ≡ v)) ⊎ ((y ≡ u) × (x ≡ v))

pub pair_turned : (x y u v : ℕ) → ArePair x y u v → ArePair x y v u
pair_turned x y u v is = ⊎_elim (λ e. inr (e.1, e.0)) (λ e. inl (e.1, e.0)) is

-- what are sides of faces in some order are so in the other
pub sided_to_pair : (m : Mesh) (x y u v : ℕ) → ArePair x y u v → AreSided m x y → AreSided m u v
sided_to_pair m x y u v is sided = ⊎_elim
    (λ e. subst (λ p. AreSided m p v) e.0 (subst (AreSided m x) e.1 sided))
    (λ e. turned (subst (λ p. AreSided m p u) e.1 (subst (AreSided m x) e.0 sided)))
    is
  where
    turned : AreSided m v u → AreSided m u v
    turned h = ⊎_elim (λ a. inr a) (λ b. inl b) h

pub sided_from_pair : (m : Mesh) (x y u v : ℕ) → ArePair x y u v → AreSided m u v → AreSided m x y
sided_from_pair m x y u v is sided = sided_to_pair m u v x y (⊎_elim (λ e. inl (sym e.0, sym e.1)) (λ e. inr (sym e.1, sym e.0)) is) sided

-- u and v are those of one of the pairs
abbrev pub AreOneOf : List (ℕ × ℕ) → ℕ → ℕ → Type 0
AreOneOf [] u v = ⊥
AreOneOf (p ∷ ps) u v = ArePair p.0 p.1 u v ⊎ AreOneOf ps u v

-- turned round
pub one_turned : (ps : List (ℕ × ℕ)) (u v : ℕ) → AreOneOf ps u v → AreOneOf ps v u
one_turned [] u v h = absurd h
one_turned (p ∷ ps) u v h = ⊎_elim (λ is. inl (pair_turned p.0 p.1 u v is)) (λ rest. inr (one_turned ps u v rest)) h

-- where one of the two is neither x nor y
pub never_first : (x y u v : ℕ) → (x ≢ u) × (y ≢ u) → ArePair x y u v → ⊥
never_first x y u v apart is = ⊎_elim (λ e. apart.0 e.0) (λ e. apart.1 e.0) is

pub never_second : (x y u v : ℕ) → (x ≢ v) × (y ≢ v) → ArePair x y u v → ⊥
never_second x y u v apart is = ⊎_elim (λ e. apart.1 e.1) (λ e. apart.0 e.1) is

-- the pairs, the smaller first, are edges of one mesh and none of the other
abbrev pub AreOnlyOf : Mesh → Mesh → List (ℕ × ℕ) → Type 0
AreOnlyOf m n ps = AllByRecursion (λ p. (p.0 < p.1) × AreSided m p.0 p.1 × (AreSided n p.0 p.1 → ⊥)) ps

same_pair : (x y u v : ℕ) → x < y → u < v → ArePair x y u v → ◌≡◌ {A = ℕ × ℕ} (x, y) (u, v)
same_pair x y u v less less' is = ⊎_elim (λ e. λ i. (e.0 i, e.1 i)) (λ e. let a = e.0 in let b = e.1 in absurd (omega (arith, a, b))) is

one_of : (m n : Mesh) (ps : List (ℕ × ℕ)) (u v : ℕ) → AreOnlyOf m n ps → u < v → AreOneOf ps u v → In ps (u, v)
one_of m n [] u v all less is = absurd is
one_of m n (p ∷ ps) u v all less is = ⊎_elim (λ here. inl (same_pair p.0 p.1 u v (all.0).0 less here)) (λ behind. inr (one_of m n ps u v all.1 less behind)) is

-- Edges that go, and edges that come, and each other edge stays.
pub record AreTraded (m n : Mesh) (gone came : List (ℕ × ℕ)) : Type 0 where
  pub of_old : (u v : ℕ) → AreSided m u v → AreOneOf gone u v ⊎ AreSided n u v
  pub of_new : (u v : ℕ) → AreSided n u v → AreOneOf came u v ⊎ AreSided m u v
  pub all_gone : AreOnlyOf m n gone
  pub all_came : AreOnlyOf n m came
  pub gone_differ : AllDiffer gone
  pub came_differ : AllDiffer came

module _ (m n : Mesh) (gone came : List (ℕ × ℕ)) (sound : IsSound m) (sound' : IsSound n)
    (all_gone : AreOnlyOf m n gone) (of_new : (u v : ℕ) → AreSided n u v → AreOneOf came u v ⊎ AreSided m u v) (all_came : AreOnlyOf n m came) where
  -- those that go, with those that are there then, are among those that come and those that were
  among : (e : ℕ × ℕ) → In (gone ++ edges n) e → In (came ++ edges m) e
  among e i = ⊎_elim
      (λ j.
      let at = at_in (λ p. (p.0 < p.1) × AreSided m p.0 p.1 × (AreSided n p.0 p.1 → ⊥)) gone e all_gone j in
      in_second came (edges m) e (edge_in m sound e.0 e.1 at.0 at.1))
      (λ j.
      let at = in_edge n sound' e.0 e.1 j in
      ⊎_elim
      (λ new. in_first came (edges m) e (one_of n m came e.0 e.1 all_came at.0 new))
      (λ old. in_second came (edges m) e (edge_in m sound e.0 e.1 at.0 old))
      (of_new e.0 e.1 at.1))
      (in_either gone (edges n) e i)

  apart : (e : ℕ × ℕ) → In gone e → In (edges n) e → ⊥
  apart e i j =
      let at = at_in (λ p. (p.0 < p.1) × AreSided m p.0 p.1 × (AreSided n p.0 p.1 → ⊥)) gone e all_gone i in
      at.2 (in_edge n sound' e.0 e.1 j).1

pub edges_traded : (m n : Mesh) (gone came : List (ℕ × ℕ)) → IsSound m → IsSound n → AreTraded m n gone came → length gone + length (edges n) ≡ length came + length (edges m)
edges_traded m n gone came sound sound' h =
    let all = same_length (gone ++ edges n) (came ++ edges m)
    (differ_joined gone (edges n) h.gone_differ (edges_differ n) (apart m n gone came sound sound' h.all_gone h.of_new h.all_came))
    (differ_joined came (edges m) h.came_differ (edges_differ m) (apart n m came gone sound' sound h.all_came h.of_old h.all_gone))
    (among m n gone came sound sound' h.all_gone h.of_new h.all_came)
    (among n m came gone sound' sound h.all_came h.of_old h.all_gone) in
    omega (arith, all, length-append gone (edges n), length-append came (edges m))

-- ---- the Euler number
pub balanced : (v e f v' e' f' : ℕ) → v' + f' + e ≡ v + f + e' → pos v' -ℤ pos e' +ℤ pos f' ≡ pos v -ℤ pos e +ℤ pos f
balanced v e f v' e' f' h = omega (arith, ints)
