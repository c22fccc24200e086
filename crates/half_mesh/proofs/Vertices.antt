-- Where vertices stand and which are solid, after one change.
use Rattle.std.proofs.Common.{◌≡◌, ℕ, Bool, true, false, cond, Option, Some, None, is_some, refl, sym, ap, ◌∙◌}
use Rattle.std.specs.Option.{option_map}
use Rattle.std.specs.Ordering.{nat_cmp, eq_by_cmp, is_eq}
use Rattle.std.specs.Cmp.{nat_cmp_total}
use Rattle.std.specs.FinMap as finite
use Rattle.std.specs.FinMap.{nat_cmp-IsAntisymmetric, same_map, get-insert, get-remove, get-empty, get-retain_keys}
use Rattle.half_mesh.specs.declared.row.Vertex.{Vertex}
use Rattle.half_mesh.specs.Fans.{Fan, Fans}
use Rattle.half_mesh.specs.Mapped.{map_values}
use Rattle.half_mesh.specs.States.{with_some, carry}
use Rattle.half_mesh.specs.Vertices.{VertexMap, vertices_in, points_in, is_marked, solid_in}
use Rattle.half_mesh.proofs.Mapped.{get-map_values, map_values-insert, insert_same, keys-map_values, len-map_values, tied}

-- the mark that a vertex gives, if it is there and solid
mark_of : Option Vertex → Option (Unit {0})
mark_of None = None
mark_of (Some x) = cond x.solid (Some tt) None

kept_mark : (o : Option Vertex) → cond (is_marked o) (option_map (λ (x : Vertex). tt) o) None ≡ mark_of o
unfolding mark_of
kept_mark None = refl
kept_mark (Some x) = refl

get-solid : (m : VertexMap) (q : ℕ) → finite.get (solid_in m) q ≡ mark_of (finite.get m q)
get-solid m q =
    get-retain_keys (map_values (λ (x : Vertex). tt) m) (λ v. is_marked (finite.get m v)) q (λ x e. ap (λ k. is_marked (finite.get m k)) (sym (tied q x (ap is_eq e))))
    ∙ ap (λ o. cond (is_marked (finite.get m q)) o None) (get-map_values (λ (x : Vertex). tt) m q)
    ∙ kept_mark (finite.get m q)

-- a vertex is solid where it is there, and marked
pub solid-at : (m : VertexMap) (q : ℕ) → is_some (finite.get (solid_in m) q) ≡ is_marked (finite.get m q)
unfolding mark_of
solid-at m q = ap is_some (get-solid m q) ∙ seen (finite.get m q)
  where
    seen : (o : Option Vertex) → is_some (mark_of o) ≡ is_marked o
    seen None = refl
    seen (Some x) = elim x.solid as (λ b. is_some (cond b (Some (tt {0})) None) ≡ b) [ true ↦ refl | false ↦ refl ]

pub solid-empty : solid_in (finite.empty {X = Vertex} {R = nat_cmp}) ≡ finite.empty
unfolding mark_of
solid-empty = same_map nat_cmp_total nat_cmp-IsAntisymmetric _ _ (λ q. get-solid finite.empty q ∙ none q)
  where
    none : (q : ℕ) → mark_of (finite.get (finite.empty {X = Vertex} {R = nat_cmp}) q) ≡ finite.get (finite.empty {X = Unit {0}} {R = nat_cmp}) q
    none q = rw (get-empty, get-empty) refl

-- another vertex with the mark of the old one, or a new one that is not solid
pub solid-kept : (m : VertexMap) (k : ℕ) (x : Vertex) → x.solid ≡ is_marked (finite.get m k) → solid_in (finite.insert m k x) ≡ solid_in m
unfolding mark_of
solid-kept m k x same = same_map nat_cmp_total nat_cmp-IsAntisymmetric _ _ (λ q.
    get-solid (finite.insert m k x) q
    ∙ ap mark_of (get-insert nat_cmp_total m k x q)
    ∙ by_key q (eq_by_cmp nat_cmp q k) refl
    ∙ sym (get-solid m q))
  where
    alike : (o : Option Vertex) → x.solid ≡ is_marked o → cond x.solid (Some tt) None ≡ mark_of o
    alike None e = ap (λ b. cond b (Some tt) None) e
    alike (Some y) e = ap (λ b. cond b (Some tt) None) e

    by_key : (q : ℕ) (b : Bool) → eq_by_cmp nat_cmp q k ≡ b → mark_of (cond b (Some x) (finite.get m q)) ≡ mark_of (finite.get m q)
    by_key q true e = alike (finite.get m q) (same ∙ ap (λ j. is_marked (finite.get m j)) (sym (tied q k e)))
    by_key q false e = refl

pub solid-made : (m : VertexMap) (k : ℕ) (x : Vertex) → x.solid ≡ true → solid_in (finite.insert m k x) ≡ finite.insert (solid_in m) k tt
unfolding mark_of
solid-made m k x is = same_map nat_cmp_total nat_cmp-IsAntisymmetric _ _ (λ q.
    get-solid (finite.insert m k x) q
    ∙ ap mark_of (get-insert nat_cmp_total m k x q)
    ∙ by_key q (eq_by_cmp nat_cmp q k)
    ∙ sym (get-insert nat_cmp_total (solid_in m) k tt q))
  where
    by_key : (q : ℕ) (b : Bool) → mark_of (cond b (Some x) (finite.get m q)) ≡ cond b (Some tt) (finite.get (solid_in m) q)
    by_key q true = ap (λ b. cond b (Some tt) None) is
    by_key q false = sym (get-solid m q)

pub solid-unmade : (m : VertexMap) (k : ℕ) (x : Vertex) → x.solid ≡ false → solid_in (finite.insert m k x) ≡ finite.remove (solid_in m) k
unfolding mark_of
solid-unmade m k x is = same_map nat_cmp_total nat_cmp-IsAntisymmetric _ _ (λ q.
    get-solid (finite.insert m k x) q
    ∙ ap mark_of (get-insert nat_cmp_total m k x q)
    ∙ by_key q (eq_by_cmp nat_cmp q k)
    ∙ sym (get-remove nat_cmp_total (solid_in m) k q))
  where
    by_key : (q : ℕ) (b : Bool) → mark_of (cond b (Some x) (finite.get m q)) ≡ cond b None (finite.get (solid_in m) q)
    by_key q true = ap (λ b. cond b (Some tt) None) is
    by_key q false = sym (get-solid m q)

pub solid-remove : (m : VertexMap) (k : ℕ) → solid_in (finite.remove m k) ≡ finite.remove (solid_in m) k
unfolding mark_of
solid-remove m k = same_map nat_cmp_total nat_cmp-IsAntisymmetric _ _ (λ q.
    get-solid (finite.remove m k) q
    ∙ ap mark_of (get-remove nat_cmp_total m k q)
    ∙ by_key q (eq_by_cmp nat_cmp q k)
    ∙ sym (get-remove nat_cmp_total (solid_in m) k q))
  where
    by_key : (q : ℕ) (b : Bool) → mark_of (cond b None (finite.get m q)) ≡ cond b None (finite.get (solid_in m) q)
    by_key q true = refl
    by_key q false = sym (get-solid m q)

-- a vertex of another map where there is none: its mark is carried
pub solid-carry : (from m : VertexMap) (k : ℕ) (x : Vertex) → finite.get from k ≡ Some x → finite.get m k ≡ None → solid_in (finite.insert m k x) ≡ carry (solid_in from) (solid_in m) k
unfolding mark_of
solid-carry from m k x there none = by_mark x.solid refl
  where
    by_mark : (b : Bool) → x.solid ≡ b → solid_in (finite.insert m k x) ≡ carry (solid_in from) (solid_in m) k
    by_mark true e = solid-made m k x e ∙ sym (ap (with_some (solid_in m) k) (get-solid from k ∙ ap mark_of there ∙ ap (λ b. cond b (Some tt) None) e))
    by_mark false e = solid-kept m k x (e ∙ sym (ap is_marked none)) ∙ sym (ap (with_some (solid_in m) k) (get-solid from k ∙ ap mark_of there ∙ ap (λ b. cond b (Some tt) None) e))

-- ---- points
pub points-insert : (m : VertexMap) (k : ℕ) (x : Vertex) → points_in (finite.insert m k x) ≡ finite.insert (points_in m) k x.point
points-insert m k x = map_values-insert (λ (y : Vertex). y.point) (λ (y : Vertex). y.point) m k x x.point refl (λ q z apart there. refl)

pub points-kept : (m : VertexMap) (k : ℕ) (x y : Vertex) → finite.get m k ≡ Some x → y.point ≡ x.point → points_in (finite.insert m k y) ≡ points_in m
points-kept m k x y there same =
    points-insert m k y
    ∙ ap (finite.insert (points_in m) k) same
    ∙ insert_same (points_in m) k x.point (get-map_values (λ (z : Vertex). z.point) m k ∙ ap (option_map (λ (z : Vertex). z.point)) there)

-- ---- the vertices of fans
pub vertices-insert : (fans : Fans) (k : ℕ) (fan : Fan) → vertices_in (finite.insert fans k fan) ≡ finite.insert (vertices_in fans) k fan.vertex
vertices-insert fans k fan = map_values-insert (λ (x : Fan). x.vertex) (λ (x : Fan). x.vertex) fans k fan fan.vertex refl (λ q z apart there. refl)

pub get-vertices : (fans : Fans) (q : ℕ) → finite.get (vertices_in fans) q ≡ option_map (λ (x : Fan). x.vertex) (finite.get fans q)
get-vertices fans q = get-map_values (λ (x : Fan). x.vertex) fans q

pub get-points : (fans : Fans) (q : ℕ) → finite.get (points_in (vertices_in fans)) q ≡ option_map (λ (x : Fan). x.vertex.point) (finite.get fans q)
get-points fans q = get-map_values (λ (x : Vertex). x.point) (vertices_in fans) q ∙ ap (option_map (λ (x : Vertex). x.point)) (get-vertices fans q) ∙ both (finite.get fans q)
  where
    both : (o : Option Fan) → option_map (λ (x : Vertex). x.point) (option_map (λ (x : Fan). x.vertex) o) ≡ option_map (λ (x : Fan). x.vertex.point) o
    both None = refl
    both (Some x) = refl

pub keys-points : (fans : Fans) → finite.keys (points_in (vertices_in fans)) ≡ finite.keys fans
keys-points fans = keys-map_values (λ (x : Vertex). x.point) (vertices_in fans) ∙ keys-map_values (λ (x : Fan). x.vertex) fans

pub len-points : (fans : Fans) → finite.len (points_in (vertices_in fans)) ≡ finite.len fans
len-points fans = len-map_values (λ (x : Vertex). x.point) (vertices_in fans) ∙ len-map_values (λ (x : Fan). x.vertex) fans

-- ---- a vertex by its point
some_vertex : (o : Option Vertex) → is_some (option_map (λ (x : Vertex). x.point) o) ≡ true → (x : Vertex) × (o ≡ Some x)
some_vertex None h = cc
some_vertex (Some x) h = (x, refl)

pub vertex_there : (m : VertexMap) (v : ℕ) → is_some (finite.get (points_in m) v) ≡ true → (x : Vertex) × (finite.get m v ≡ Some x)
vertex_there m v h = some_vertex (finite.get m v) (ap is_some (sym (get-map_values (λ (x : Vertex). x.point) m v)) ∙ h)

none_vertex : (o : Option Vertex) → (is_some (option_map (λ (x : Vertex). x.point) o) ≡ true → ⊥) → o ≡ None
none_vertex None h = refl
none_vertex (Some x) h = absurd (h refl)

pub no_vertex : (m : VertexMap) (v : ℕ) → (is_some (finite.get (points_in m) v) ≡ true → ⊥) → finite.get m v ≡ None
no_vertex m v h = none_vertex (finite.get m v) (λ some. h (ap is_some (get-map_values (λ (x : Vertex). x.point) m v) ∙ some))

pub point-there : (m : VertexMap) (v : ℕ) (x : Vertex) → finite.get m v ≡ Some x → finite.get (points_in m) v ≡ Some x.point
point-there m v x there = get-map_values (λ (y : Vertex). y.point) m v ∙ ap (option_map (λ (y : Vertex). y.point)) there
