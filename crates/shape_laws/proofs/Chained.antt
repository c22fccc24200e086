-- Chains of vertices along faces. A mesh to which the chains of another lead, and back, is in as many pieces.
use Rattle.std.proofs.Common.{◌≡◌, ◌⊎◌, ℕ, ◌≤◌, Bool, true, List, length, ⊎_elim, sym, ap, subst, arith, is_some}
use Rattle.std.specs.FinMap as finite
use Rattle.mesh_base.specs.declared.ids.Corners.{Corners}
use Rattle.mesh_base.specs.Mesh.{Mesh, HasCorners}
use Rattle.mesh_base.specs.Sides.{has_corner}
use Rattle.mesh_base.specs.Changes.{corner_list}
use Rattle.mesh_base.proofs.Listed.{at_live}
use Rattle.edit_base.specs.Classes.{Linked, class_of}
use Rattle.edit_base.specs.Edges.{corners_at}
use Rattle.edit_base.proofs.Chains.{Has, each_is_one, has_contained, contains_had, any_found, any_of, is_linked, linked_has}
use Rattle.mesh_measure.specs.Shape.{share_vertex, components}
use Rattle.mesh_measure.proofs.Around.{listed_corner, corner_listed, corners_there}
use Rattle.mesh_measure.proofs.Classing.{key_there, keys_differ, share_both}
use Rattle.shape_laws.proofs.Classed.{no_more_classes}

-- some face has these corners
abbrev pub Holds : Mesh → Corners → Type 0
Holds m c = (f : ℕ) × HasCorners m f c

-- some face has the vertex
abbrev pub IsFaced : Mesh → ℕ → Type 0
IsFaced m v = (c : Corners) × Holds m c × (has_corner c v ≡ true)

-- some face has both vertices
abbrev pub ShareFace : Mesh → ℕ → ℕ → Type 0
ShareFace m u v = (c : Corners) × Holds m c × (has_corner c u ≡ true) × (has_corner c v ≡ true)

-- faces lead from one vertex to another
pub data Chain (m : Mesh) : ℕ → ℕ → Type 0 where
  here : {u : ℕ} → Chain m u u
  further : {u v w : ℕ} → Chain m u v → ShareFace m v w → Chain m u w

pub one_face : (m : Mesh) (c : Corners) (u v : ℕ) → Holds m c → has_corner c u ≡ true → has_corner c v ≡ true → Chain m u v
one_face m c u v there at_u at_v = Chain.further Chain.here (c, there, at_u, at_v)

pub joined : (m : Mesh) (u v w : ℕ) → Chain m u v → Chain m v w → Chain m u w
joined m u v _ l Chain.here = l
joined m u v _ l (Chain.further {v = p} {w = w} k share) = Chain.further (joined m u v p l k) share

pub turned_back : (m : Mesh) (u v : ℕ) → Chain m u v → Chain m v u
turned_back m u _ Chain.here = Chain.here
turned_back m u _ (Chain.further {v = p} {w = w} k share) = joined m w p u (one_face m share.0 w p share.1 share.3 share.2) (turned_back m u p k)

-- ---- chains from mesh to mesh
-- Each face of the one mesh is one of the other, or its vertices are led to a hub there; and no vertex of the other is led elsewhere.
pub record LeadsInto (m n : Mesh) (hub : ℕ) (to : ℕ → ℕ) : Type 0 where
  pub each : (c : Corners) → Holds m c → ((v : ℕ) → has_corner c v ≡ true → Chain n (to v) hub) ⊎ Holds n c
  pub still : (v : ℕ) → IsFaced n v → to v ≡ v

module _ (m n : Mesh) (hub : ℕ) (to : ℕ → ℕ) (into : LeadsInto m n hub to) where
  led : (u v : ℕ) → ShareFace m u v → Chain n (to u) (to v)
  led u v share = ⊎_elim
      (λ gone. joined n (to u) hub (to v) (gone u share.2) (turned_back n (to v) hub (gone v share.3)))
      (λ there.
      let at_u = into.still u (share.0, there, share.2) in
      let at_v = into.still v (share.0, there, share.3) in
      subst (λ x. Chain n x (to v)) (sym at_u) (subst (λ x. Chain n u x) (sym at_v) (one_face n share.0 u v there share.2 share.3)))
      (into.each share.0 share.1)

  along : (u v : ℕ) → Chain m u v → Chain n (to u) (to v)
  along u _ Chain.here = Chain.here
  along u _ (Chain.further {v = p} {w = w} k share) = joined n (to u) (to p) (to w) (along u p k) (led p w share)

  pub kept : (u v : ℕ) → IsFaced n u → IsFaced n v → Chain m u v → Chain n u v
  kept u v at_u at_v chain = subst (λ x. Chain n x v) (into.still u at_u) (subst (λ x. Chain n (to u) x) (into.still v at_v) (along u v chain))

-- ---- faces in one class
module _ (m : Mesh) where
  abbrev all : List ℕ
  all = finite.keys m.faces

  abbrev touch : ℕ → ℕ → Bool
  touch = share_vertex m

  there_key : (f : ℕ) (c : Corners) → HasCorners m f c → Has all f
  there_key f c h = at_live (Has all) m.faces f (each_is_one all) (ap is_some h)

  share_of : (f g u : ℕ) → has_corner (corners_at m f) u ≡ true → has_corner (corners_at m g) u ≡ true → touch f g ≡ true
  share_of f g u at_f at_g = any_of (λ w. has_corner (corners_at m g) w) (corner_list (corners_at m f)) u (listed_corner (corners_at m f) u at_f) at_g

  shared : (f g : ℕ) → touch f g ≡ true → (u : ℕ) × (has_corner (corners_at m f) u ≡ true) × (has_corner (corners_at m g) u ≡ true)
  shared f g h =
      let found = any_found (λ w. has_corner (corners_at m g) w) (corner_list (corners_at m f)) h in
      (found.0, corner_listed (corners_at m f) found.0 found.1, found.2)

  holds_key : (f : ℕ) → Has all f → Holds m (corners_at m f)
  holds_key f has = (f, key_there m f has)

  linked_chain : (x y u v : ℕ) → Has all x → Linked touch all x y → has_corner (corners_at m x) u ≡ true → has_corner (corners_at m y) v ≡ true → Chain m u v
  linked_chain x _ u v x_in Linked.itself at_u at_v = one_face m (corners_at m x) u v (holds_key x x_in) at_u at_v
  linked_chain x _ u v x_in (Linked.further {y = z} {z = y} l there step) at_u at_v =
      let p = shared z y step in
      Chain.further (linked_chain x z u p.0 x_in l at_u p.1) (corners_at m y, holds_key y (has_contained all y there), p.2, at_v)

  module _ (x u : ℕ) (x_in : Has all x) (at_u : has_corner (corners_at m x) u ≡ true) where
    chain_linked : (v : ℕ) → Chain m u v → (y : ℕ) × Has all y × Linked touch all x y × (has_corner (corners_at m y) v ≡ true)
    chain_linked _ Chain.here = (x, x_in, Linked.itself, at_u)
    chain_linked _ (Chain.further {v = p} {w = w} k share) =
        let before = chain_linked p k in
        let f = (share.1).0 in
        let same = corners_there m f share.0 (share.1).1 in
        let f_in = there_key f share.0 (share.1).1 in
        let at_p : has_corner (corners_at m f) p ≡ true = subst (λ c. has_corner c p ≡ true) (sym same) share.2 in
        let at_w : has_corner (corners_at m f) w ≡ true = subst (λ c. has_corner c w ≡ true) (sym same) share.3 in
        (f, f_in, Linked.further before.2 (contains_had all f f_in) (share_of before.0 f p before.3 at_p), at_w)

    pub one_class : (y v : ℕ) → Has all y → has_corner (corners_at m y) v ≡ true → Chain m u v → Has (class_of touch all x) y
    one_class y v y_in at_v chain =
        let z = chain_linked v chain in
        linked_has touch all x y x_in (Linked.further z.2 (contains_had all y y_in) (share_of z.0 y v z.3 at_v))

-- ---- pieces
-- Each face of the one mesh has a vertex that has a face in the other, and chains of the other are chains of the one.
pub record IsMetBy (m n : Mesh) : Type 0 where
  pub meets : (c : Corners) → Holds m c → (v : ℕ) × (has_corner c v ≡ true) × IsFaced n v
  pub chains : (u v : ℕ) → IsFaced m u → IsFaced m v → Chain n u v → Chain m u v

module _ (m n : Mesh) (met : IsMetBy m n) where
  -- two faces have a vertex in common
  abbrev Meet : ℕ → ℕ → Type 0
  Meet f g = (v : ℕ) × (has_corner (corners_at m f) v ≡ true) × (has_corner (corners_at n g) v ≡ true)

  each : (x : ℕ) → Has (finite.keys m.faces) x → (z : ℕ) × Has (finite.keys n.faces) z × Meet x z
  each x x_in =
      let found = met.meets (corners_at m x) (holds_key m x x_in) in
      let face = found.2 in
      let g = (face.1).0 in
      let same = corners_there n g face.0 (face.1).1 in
      (g, there_key n g face.0 (face.1).1, (found.0, found.1, subst (λ c. has_corner c found.0 ≡ true) (sym same) face.2))

  back : (x y z w : ℕ) → Has (finite.keys m.faces) x → Has (finite.keys m.faces) y → Has (finite.keys n.faces) z → Has (finite.keys n.faces) w → Meet x z → Meet y w → Has (class_of (share_vertex n) (finite.keys n.faces) z) w → Has (class_of (share_vertex m) (finite.keys m.faces) x) y
  back x y z w x_in y_in z_in w_in p q has =
      let linked = (is_linked (share_vertex n) (finite.keys n.faces) z (length (finite.keys n.faces)) w has).1 in
      let chain = linked_chain n z w p.0 q.0 z_in linked p.2 q.2 in
      one_class m x p.0 x_in p.1 y q.0 y_in q.1
      (met.chains p.0 q.0 (corners_at m x, holds_key m x x_in, p.1) (corners_at m y, holds_key m y y_in, q.1) chain)

  pub no_more_pieces : components m ≤ components n
  no_more_pieces = no_more_classes (share_vertex m) (share_vertex n) (finite.keys m.faces) (finite.keys n.faces) (share_both m) (share_both n) (keys_differ m) Meet each back

-- where each leads into the other, they are in as many pieces
pub same_pieces : (m n : Mesh) (hub hub' : ℕ) (to from : ℕ → ℕ) → LeadsInto m n hub to → LeadsInto n m hub' from → ((c : Corners) → Holds m c → (v : ℕ) × (has_corner c v ≡ true) × IsFaced n v) → ((c : Corners) → Holds n c → (v : ℕ) × (has_corner c v ≡ true) × IsFaced m v) → components n ≡ components m
same_pieces m n hub hub' to from into out meets meets' =
    let one = no_more_pieces m n (record { meets = meets; chains = kept n m hub' from out }) in
    let two = no_more_pieces n m (record { meets = meets'; chains = kept m n hub to into }) in
    omega (arith, one, two)
