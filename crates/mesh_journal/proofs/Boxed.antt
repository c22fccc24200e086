-- What boxes hold after a change.
use Rattle.std.proofs.Common.{◌≡◌, ◌≢◌, ℕ, true, false, Option, Some, None, refl, sym, ap, subst, ◌∙◌, ⊎_elim}
use Rattle.std.specs.FinMap as map
use Rattle.std.specs.Ordering.{nat_cmp, eq_by_cmp}
use Rattle.grid_base.specs.declared.Extent.{Extent}
use Rattle.grid_base.specs.Triples.{Triple}
use Rattle.grid_base.specs.Extents.{IsIn}
use Rattle.mesh_base.specs.declared.ids.Corners.{Corners}
use Rattle.mesh_base.specs.Mesh.{Mesh}
use Rattle.mesh_base.proofs.Finite.{live_inserted, live_stays, live_but_removed, got_after_insert, got_after_remove}
use Rattle.half_mesh.proofs.Mapped.{tied, untied}
use Rattle.mesh_journal.specs.Boxed.{Boxes, IsBoxedAt, Holds, IsAround, HoldsCorners, AreBoxed}
use Rattle.half_mesh.proofs.Rings.{got_some}
use Rattle.mesh_journal.proofs.Maps.{get_here}

pub same_some : {X : Type 0} (x y : X) → Some x ≡ Some y → x ≡ y
same_some x y h = cc

pub held-none : (o : Option Boxes) (f : ℕ) (p : Triple) → o ≡ None → Holds o f p
held-none o f p none b is = cc

-- what is known of some boxes holds of those
pub held-some : (o : Option Boxes) (b : Boxes) (f : ℕ) (p : Triple) → o ≡ Some b → IsBoxedAt b f p → Holds o f p
held-some o b f p is at c other = subst (λ x. IsBoxedAt x f p) (same_some b c (sym is ∙ other)) at

-- ---- a box is set
set-at : (b : Boxes) (f : ℕ) (e : Extent) (p : Triple) → IsIn e p → IsBoxedAt (map.insert b f e) f p
set-at b f e p at = record {
  there = live_inserted b f e;
  around = λ d h. subst (λ x. IsIn x p) (same_some e d (sym (get_here b f e) ∙ h)) at;
}

set-others : (b : Boxes) (f : ℕ) (e : Extent) (q : ℕ) (p : Triple) → q ≢ f → IsBoxedAt b q p → IsBoxedAt (map.insert b f e) q p
set-others b f e q p apart is = record {
  there = live_stays b f e q is.there;
  around = λ d h. ⊎_elim (λ s. absurd (apart s.0)) (λ old. is.around d old) (got_after_insert b f e q d h);
}

pub held-at : (new : Option Boxes) (b c : Boxes) (f : ℕ) (e : Extent) (p : Triple) → new ≡ Some c → c ≡ map.insert b f e → IsIn e p → Holds new f p
held-at new b c f e p some is at = held-some new (map.insert b f e) f p (some ∙ ap Some is) (set-at b f e p at)

pub held-others : (old new : Option Boxes) (b c : Boxes) (f : ℕ) (e : Extent) (q : ℕ) (p : Triple) → old ≡ Some b → new ≡ Some c → c ≡ map.insert b f e → q ≢ f → Holds old q p → Holds new q p
held-others old new b c f e q p was some is apart h = held-some new (map.insert b f e) q p (some ∙ ap Some is) (set-others b f e q p apart (h b was))

-- ---- a box is made wider
pub held-wider : (old new : Option Boxes) (b : Boxes) (f : ℕ) (e : Extent) → old ≡ Some b
    → ((d : Extent) (t : Triple) → map.get b f ≡ Some d → IsIn d t → IsIn e t)
    → ((t : Triple) → IsIn e t → Holds new f t)
    → ((q : ℕ) (t : Triple) → q ≢ f → Holds old q t → Holds new q t)
    → (q : ℕ) (t : Triple) → Holds old q t → Holds new q t
held-wider old new b f e was wider at others q t h =
    elim (eq_by_cmp nat_cmp q f) as (λ x. eq_by_cmp nat_cmp q f ≡ x → Holds new q t) [
      | true ↦ λ same.
          let here : q ≡ f = tied q f same in
          let is : IsBoxedAt b f t = subst (λ k. IsBoxedAt b k t) here (h b was) in
          let (d, got) = got_some (map.get b f) is.there in
          subst (λ k. Holds new k t) (sym here) (at t (wider d t got (is.around d got)))
      | false ↦ λ apart. others q t (untied q f apart) h
    ] refl

-- ---- a box is taken out
pub held-without : (old new : Option Boxes) (b c : Boxes) (f q : ℕ) (p : Triple) → old ≡ Some b → new ≡ Some c → c ≡ map.remove b f → q ≢ f → Holds old q p → Holds new q p
held-without old new b c f q p was some is apart h =
    let at = h b was in
    held-some new (map.remove b f) q p (some ∙ ap Some is) (record {
      there = live_but_removed b f q apart at.there;
      around = λ d g. at.around d (got_after_remove b f q d g).1;
    })

-- ---- corners
pub corners-kept : (old new : Option Boxes) (m : Mesh) (f : ℕ) (c : Corners) → ((t : Triple) → Holds old f t → Holds new f t) → HoldsCorners old m f c → HoldsCorners new m f c
corners-kept old new m f c keeps h = record { first = keeps _ h.first; second = keeps _ h.second; third = keeps _ h.third }

pub corners-around : (new : Option Boxes) (m : Mesh) (f : ℕ) (c : Corners) (e : Extent) → ((t : Triple) → IsIn e t → Holds new f t) → IsAround e m c → HoldsCorners new m f c
corners-around new m f c e at is = record { first = at _ is.first; second = at _ is.second; third = at _ is.third }

-- ---- no boxes
pub none_boxed : (o : Option Boxes) (m : Mesh) → o ≡ None → AreBoxed o m
none_boxed o m none f c has = record { first = held-none o f _ none; second = held-none o f _ none; third = held-none o f _ none }
