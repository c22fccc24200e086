-- Fans and faces that are tied: what they tell, and how they stay tied as vertices change.
use Rattle.std.proofs.Common.{◌≡◌, ℕ, ◌-◌, ◌<◌, Bool, true, false, cond, List, [], ◌∷◌, Option, Some, None, is_some, length, reverse, slice_get, refl, sym, ap, ◌∙◌, arith}
use Rattle.std.proofs.lemmas.List.{length-reverse, get_or-reverse}
use Rattle.std.proofs.lemmas.Option.{slice_get-get_or}
use Rattle.std.specs.Option.{option_map}
use Rattle.std.specs.Ordering.{nat_cmp, eq_by_cmp}
use Rattle.std.specs.Cmp.{nat_cmp_total}
use Rattle.std.specs.FinMap as finite
use Rattle.std.specs.FinMap.{get-insert, get-remove, get-empty, len-entries, len-empty}
use Rattle.mesh_base.specs.declared.ids.Corners.{Corners}
use Rattle.mesh_base.specs.Mesh.{Mesh, IsSound, IsLiveVertex, IsLiveFace, AreDifferent}
use Rattle.mesh_base.specs.Sides.{faces_running, faces_at}
use Rattle.half_mesh.specs.Fans.{Spoke, Fan, Fans, Woven, spokes_at, spokes_to, faces_of}
use Rattle.half_mesh.specs.Mapped.{map_values}
use Rattle.half_mesh.specs.Tied.{Keys, corners_at, faces_in, woven_mesh, falling_spokes, AreTied}
use Rattle.half_mesh.proofs.Mapped.{get-map_values, map_values-empty, tied}
use Rattle.half_mesh.proofs.Vertices.{get-points}
use Rattle.half_mesh.proofs.Falling.{all_entries, running-falling_spokes, faces_at-falling_spokes}
use Rattle.mesh_base.specs.declared.limits.Limits.{Limits}

-- lists that are read from their end
pub nth-reverse : (xs : List ℕ) (n : ℕ) → n < length xs → slice_get xs (length xs - 1 - n) ≡ slice_get (reverse xs) n
nth-reverse xs n h =
    let long = length-reverse xs in
    let back : length xs - 1 - n < length xs = omega arith in
    slice_get-get_or xs (length xs - 1 - n) 0 back
    ∙ ap Some (sym (get_or-reverse xs n 0 h))
    ∙ sym (slice_get-get_or (reverse xs) n 0 (omega arith))

-- the faces of a mesh that is tied
pub running-tied : (w : Woven) (keys : Keys) (l : Limits) (nv nf : ℕ) (m : Mesh) (u v : ℕ) → woven_mesh w keys l nv nf ≡ m → AreTied w keys → IsSound m → reverse (faces_of (spokes_to v (spokes_at w.fans u))) ≡ faces_running m u v
running-tied w keys l nv nf m u v view t sound =
    let faces : faces_in w.sides keys ≡ m.faces = ap (λ x. x.faces) view in
    ap (λ ss. reverse (faces_of (spokes_to v ss))) (t.spokes u ∙ ap (λ x. falling_spokes u (finite.entries x)) faces)
    ∙ running-falling_spokes u v (finite.entries m.faces) (all_entries (λ q c. AreDifferent c) m.faces sound.is_mesh.different_corners)

pub at-tied : (w : Woven) (keys : Keys) (l : Limits) (nv nf : ℕ) (m : Mesh) (v : ℕ) → woven_mesh w keys l nv nf ≡ m → AreTied w keys → reverse (faces_of (spokes_at w.fans v)) ≡ faces_at m v
at-tied w keys l nv nf m v view t =
    let faces : faces_in w.sides keys ≡ m.faces = ap (λ x. x.faces) view in
    ap (λ ss. reverse (faces_of ss)) (t.spokes v ∙ ap (λ x. falling_spokes v (finite.entries x)) faces)
    ∙ faces_at-falling_spokes v (finite.entries m.faces)

length-faces_of : (spokes : List Spoke) → length (faces_of spokes) ≡ length spokes
length-faces_of [] = refl
length-faces_of (s ∷ rest) = let r = length-faces_of rest in omega arith

pub length-running : (spokes : List Spoke) (running : List ℕ) → reverse (faces_of spokes) ≡ running → length spokes ≡ length running
length-running spokes running e = let a = length-faces_of spokes in let b = length-reverse (faces_of spokes) in let c = ap length e in omega arith

pub nth-running : (spokes : List Spoke) (running : List ℕ) (n : ℕ) → reverse (faces_of spokes) ≡ running → n < length spokes → slice_get (faces_of spokes) (length spokes - 1 - n) ≡ slice_get running n
nth-running spokes running n e h =
    let long = length-faces_of spokes in
    ap (λ k. slice_get (faces_of spokes) (k - 1 - n)) (sym long)
    ∙ nth-reverse (faces_of spokes) n (omega arith)
    ∙ ap (λ xs. slice_get xs n) e

-- the spokes of a vertex after one fan is another
pub spokes_at-insert : (fans : Fans) (k : ℕ) (fan : Fan) (v : ℕ) → spokes_at (finite.insert fans k fan) v ≡ cond (eq_by_cmp nat_cmp v k) fan.spokes (spokes_at fans v)
spokes_at-insert fans k fan v =
    ap (λ o. elim o [ None ↦ [] | Some x ↦ x.spokes ]) (get-insert nat_cmp_total fans k fan v)
    ∙ elim (eq_by_cmp nat_cmp v k) as (λ b. ◌≡◌ {A = List Spoke} (elim (cond b (Some fan) (finite.get fans v)) [ None ↦ [] | Some x ↦ x.spokes ]) (cond b fan.spokes (spokes_at fans v))) [ true ↦ refl | false ↦ refl ]

pub spokes_at-got : (fans : Fans) (v : ℕ) (fan : Fan) → finite.get fans v ≡ Some fan → spokes_at fans v ≡ fan.spokes
spokes_at-got fans v fan is = ap (λ o. elim o [ None ↦ [] | Some x ↦ x.spokes ]) is

-- a fan with the same spokes
pub tied-fan : (w : Woven) (keys : Keys) (k : ℕ) (fan : Fan) → AreTied w keys → fan.spokes ≡ spokes_at w.fans k → AreTied (record w { fans = finite.insert w.fans k fan }) keys
tied-fan w keys k fan t same = record {
  rings = λ f key is. let r = t.rings f key is in record { second = r.second; third = r.third; at_first = r.at_first; at_second = r.at_second; at_third = r.at_third };
  spokes = λ v. spokes_at-insert w.fans k fan v ∙ by_key v (eq_by_cmp nat_cmp v k) refl ∙ t.spokes v;
}
  where
    by_key : (v : ℕ) (b : Bool) → eq_by_cmp nat_cmp v k ≡ b → cond b fan.spokes (spokes_at w.fans v) ≡ spokes_at w.fans v
    by_key v true e = same ∙ ap (spokes_at w.fans) (sym (tied v k e))
    by_key v false e = refl

-- a live vertex has a fan
some_fan : (o : Option Fan) → is_some (option_map (λ (x : Fan). x.vertex.point) o) ≡ true → (fan : Fan) × (o ≡ Some fan)
some_fan None e = cc
some_fan (Some fan) e = (fan, refl)

pub live_fan : (w : Woven) (keys : Keys) (l : Limits) (nv nf : ℕ) (m : Mesh) (v : ℕ) → woven_mesh w keys l nv nf ≡ m → IsLiveVertex m v → (fan : Fan) × (finite.get w.fans v ≡ Some fan)
live_fan w keys l nv nf m v view live =
    some_fan (finite.get w.fans v) (ap is_some (sym (get-points w.fans v) ∙ ap (λ x. finite.get x.points v) view) ∙ live)

none_fan : (o : Option Fan) → (is_some (option_map (λ (x : Fan). x.vertex.point) o) ≡ true → ⊥) → o ≡ None
none_fan None e = refl
none_fan (Some fan) e = absurd (e refl)

pub dead_fan : (w : Woven) (keys : Keys) (l : Limits) (nv nf : ℕ) (m : Mesh) (v : ℕ) → woven_mesh w keys l nv nf ≡ m → (IsLiveVertex m v → ⊥) → finite.get w.fans v ≡ None
dead_fan w keys l nv nf m v view dead =
    none_fan (finite.get w.fans v) (λ some. dead (ap is_some (sym (ap (λ x. finite.get x.points v) view) ∙ get-points w.fans v) ∙ some))

-- a face that is not live has no key
pub dead_key : (w : Woven) (keys : Keys) (l : Limits) (nv nf : ℕ) (m : Mesh) (f : ℕ) → woven_mesh w keys l nv nf ≡ m → (IsLiveFace m f → ⊥) → finite.get keys f ≡ None
dead_key w keys l nv nf m f view dead = seen (finite.get keys f) (λ some. dead (ap is_some (sym (ap (λ x. finite.get x.faces f) view) ∙ get-map_values (corners_at w.sides) keys f) ∙ some))
  where
    seen : (o : Option ℕ) → (is_some (option_map (corners_at w.sides) o) ≡ true → ⊥) → o ≡ None
    seen None e = refl
    seen (Some k) e = absurd (e refl)

-- one that is not live has no spoke
pub dead_spokes : (w : Woven) (keys : Keys) (l : Limits) (nv nf : ℕ) (m : Mesh) (v : ℕ) → woven_mesh w keys l nv nf ≡ m → (IsLiveVertex m v → ⊥) → spokes_at w.fans v ≡ []
dead_spokes w keys l nv nf m v view dead =
    ap (λ o. elim o [ None ↦ [] | Some x ↦ x.spokes ])
    (none_fan (finite.get w.fans v) (λ some. dead (ap is_some (sym (ap (λ x. finite.get x.points v) view) ∙ get-points w.fans v) ∙ some)))

no_items : {X : Type 0} (xs : List X) → length xs ≡ 0 → xs ≡ []
no_items [] e = refl
no_items (x ∷ xs) e = absurd (omega arith)

entries-empty : (X : Type 0) → finite.entries (finite.empty {X = X} {R = nat_cmp}) ≡ []
entries-empty X = no_items _ (sym (len-entries (finite.empty {X = X} {R = nat_cmp})) ∙ len-empty nat_cmp X)

pub tied-empty : (w : Woven) (keys : Keys) → w.fans ≡ finite.empty → keys ≡ finite.empty → AreTied w keys
tied-empty w keys no_fans no_keys = record {
  rings = λ f key is. let e : finite.get (finite.empty {X = ℕ} {R = nat_cmp}) f ≡ None = get-empty nat_cmp f in let n = ap (λ m. finite.get m f) no_keys in cc;
  spokes = λ v.
      let none : finite.get (finite.empty {X = Fan} {R = nat_cmp}) v ≡ None = get-empty nat_cmp v in
      let left : spokes_at w.fans v ≡ [] = ap (λ o. elim o [ None ↦ [] | Some x ↦ x.spokes ]) (ap (λ m. finite.get m v) no_fans ∙ none) in
      left ∙ sym (ap (λ m. falling_spokes v (finite.entries m)) (ap (map_values (corners_at w.sides)) no_keys ∙ map_values-empty (corners_at w.sides)) ∙ ap (falling_spokes v) (entries-empty Corners));
}

no_faces : (spokes : List Spoke) → reverse (faces_of spokes) ≡ [] → spokes ≡ []
no_faces spokes e =
    let a = length-faces_of spokes in
    let b = length-reverse (faces_of spokes) in
    let c = ap length e in
    no_items spokes (omega arith)

spokes_at-remove : (fans : Fans) (k v : ℕ) → spokes_at (finite.remove fans k) v ≡ cond (eq_by_cmp nat_cmp v k) [] (spokes_at fans v)
spokes_at-remove fans k v =
    ap (λ o. elim o [ None ↦ [] | Some x ↦ x.spokes ]) (get-remove nat_cmp_total fans k v)
    ∙ elim (eq_by_cmp nat_cmp v k) as (λ b. ◌≡◌ {A = List Spoke} (elim (cond b None (finite.get fans v)) [ None ↦ [] | Some x ↦ x.spokes ]) (cond b [] (spokes_at fans v))) [ true ↦ refl | false ↦ refl ]

-- a vertex that no half-edge leaves goes
pub tied-bare : (w : Woven) (keys : Keys) (k : ℕ) → AreTied w keys → reverse (faces_of (spokes_at w.fans k)) ≡ [] → AreTied (record w { fans = finite.remove w.fans k }) keys
tied-bare w keys k t none = record {
  rings = λ f key is. let r = t.rings f key is in record { second = r.second; third = r.third; at_first = r.at_first; at_second = r.at_second; at_third = r.at_third };
  spokes = λ v. spokes_at-remove w.fans k v ∙ by_key v (eq_by_cmp nat_cmp v k) refl ∙ t.spokes v;
}
  where
    by_key : (v : ℕ) (b : Bool) → eq_by_cmp nat_cmp v k ≡ b → cond b [] (spokes_at w.fans v) ≡ spokes_at w.fans v
    by_key v true e = sym (ap (spokes_at w.fans) (tied v k e) ∙ no_faces (spokes_at w.fans k) none)
    by_key v false e = refl
