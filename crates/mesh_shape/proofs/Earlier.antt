-- The parts before the one that a fault denies hold.
use Rattle.std.proofs.Common.{◌≡◌, ℕ, ◌<◌, ◌≤◌, List, Option, Some, None, length, nat_lt, if◌then◌else◌, option_map, refl, subst, ◌∙◌, arith}
use Rattle.std.specs.Option.{option_or}
use Rattle.grid_base.specs.declared.Point.{Point}
use Rattle.mesh_base.specs.declared.limits.Scale.{Scale}
use Rattle.mesh_base.specs.Limits.{limits_of}
use Rattle.mesh_base.specs.declared.faults.ShapeFault.{ShapeFault}
use Rattle.mesh_base.specs.declared.faults.ShapeFault.TheVariants.{TooManyVertices, TooManyFaces, NoVertex, Repeated, Doubled, Unbalanced}
use Rattle.mesh_base.specs.Given.{Faces, mesh_under}
use Rattle.mesh_shape.specs.Shape.{no_vertex_from, repeated_from, doubled_from, first_unbalanced, fault_but_balance, shape_fault, Denied, part_of}
use Rattle.mesh_shape.proofs.Lists.{none_mapped, not_tested, few_vertices, few_faces, corners_live, corners_different, faces_different, HaveNoFault, no_fault_but_balance}
use Rattle.mesh_shape.proofs.Faults.{tested, mapped}

-- an answer that is of a part up to n leaves a later one to what comes after
later : (x y : Option ShapeFault) (fault : ShapeFault) (n : ℕ) → ((e : ShapeFault) → x ≡ Some e → part_of e ≤ n) → n < part_of fault → option_or x y ≡ Some fault → (x ≡ None) × (y ≡ Some fault)
later None y fault n early h is = (refl, is)
later (Some e) y fault n early h is = absurd (let same : e ≡ fault = cc in let low = subst (λ f. part_of f ≤ n) same (early e refl) in omega (arith, low))

-- ---- the parts but balance, in order
abbrev vertices_fault : Scale → ℕ → Option ShapeFault
vertices_fault scale n = if nat_lt (limits_of scale).vertices n then Some (TooManyVertices n) else None

abbrev faces_fault : Scale → Faces → Option ShapeFault
faces_fault scale fs = if nat_lt (limits_of scale).faces (length fs) then Some (TooManyFaces (length fs)) else None

abbrev corners_fault : ℕ → Faces → Option ShapeFault
corners_fault n fs = option_map (λ p. NoVertex p.0 p.1) (no_vertex_from n 1 fs)

abbrev repeated_fault : Faces → Option ShapeFault
repeated_fault fs = option_map (λ face. Repeated face) (repeated_from 1 fs)

abbrev doubled_fault : Faces → Option ShapeFault
doubled_fault fs = option_map (λ p. Doubled p.0 p.1) (doubled_from 1 fs)

abbrev from_repeated : Faces → Option ShapeFault
from_repeated fs = option_or (repeated_fault fs) (doubled_fault fs)

abbrev from_corners : ℕ → Faces → Option ShapeFault
from_corners n fs = option_or (corners_fault n fs) (from_repeated fs)

abbrev from_faces : Scale → ℕ → Faces → Option ShapeFault
from_faces scale n fs = option_or (faces_fault scale fs) (from_corners n fs)

module _ (scale : Scale) (ps : List Point) (fs : Faces) where
  vertices_first : (e : ShapeFault) → vertices_fault scale (length ps) ≡ Some e → part_of e ≤ 1
  vertices_first e is = let t = tested (nat_lt (limits_of scale).vertices (length ps)) _ e is in subst (λ f. part_of f ≤ 1) t.1 (omega arith)

  faces_second : (e : ShapeFault) → faces_fault scale fs ≡ Some e → part_of e ≤ 2
  faces_second e is = let t = tested (nat_lt (limits_of scale).faces (length fs)) _ e is in subst (λ f. part_of f ≤ 2) t.1 (omega arith)

  corners_third : (e : ShapeFault) → corners_fault (length ps) fs ≡ Some e → part_of e ≤ 3
  corners_third e is = let t = mapped _ (no_vertex_from (length ps) 1 fs) e is in subst (λ f. part_of f ≤ 3) t.2 (omega arith)

  repeated_fourth : (e : ShapeFault) → repeated_fault fs ≡ Some e → part_of e ≤ 4
  repeated_fourth e is = let t = mapped _ (repeated_from 1 fs) e is in subst (λ f. part_of f ≤ 4) t.2 (omega arith)

  doubled_fifth : (e : ShapeFault) → doubled_fault fs ≡ Some e → part_of e ≤ 5
  doubled_fifth e is = let t = mapped _ (doubled_from 1 fs) e is in subst (λ f. part_of f ≤ 5) t.2 (omega arith)

  part_small : (f : ShapeFault) → part_of f ≤ 6
  part_small (TooManyVertices count) = omega arith
  part_small (TooManyFaces count) = omega arith
  part_small (NoVertex face corner) = omega arith
  part_small (Repeated face) = omega arith
  part_small (Doubled first second) = omega arith
  part_small (Unbalanced from to) = omega arith

  -- all parts but balance, where none of them fails
  hold_but_balance : HaveNoFault scale (length ps) fs → (g : ShapeFault) → part_of g < 6 → Denied g (mesh_under scale ps fs)
  hold_but_balance none (TooManyVertices count) h = few_vertices scale ps fs none.vertices
  hold_but_balance none (TooManyFaces count) h = few_faces scale ps fs none.faces
  hold_but_balance none (NoVertex face corner) h = corners_live scale ps fs none.corners
  hold_but_balance none (Repeated face) h = corners_different scale ps fs none.once
  hold_but_balance none (Doubled first second) h = faces_different scale ps fs none.single
  hold_but_balance none (Unbalanced from to) h = absurd (omega arith)

  module _ (fault : ShapeFault) (is : fault_but_balance scale (length ps) fs ≡ Some fault) where
    after_vertices : 1 < part_of fault → (vertices_fault scale (length ps) ≡ None) × (from_faces scale (length ps) fs ≡ Some fault)
    after_vertices h = later (vertices_fault scale (length ps)) (from_faces scale (length ps) fs) fault 1 vertices_first h is

    after_faces : 2 < part_of fault → (faces_fault scale fs ≡ None) × (from_corners (length ps) fs ≡ Some fault)
    after_faces h = later (faces_fault scale fs) (from_corners (length ps) fs) fault 2 faces_second h (after_vertices (omega arith)).1

    after_corners : 3 < part_of fault → (corners_fault (length ps) fs ≡ None) × (from_repeated fs ≡ Some fault)
    after_corners h = later (corners_fault (length ps) fs) (from_repeated fs) fault 3 corners_third h (after_faces (omega arith)).1

    after_repeated : 4 < part_of fault → (repeated_fault fs ≡ None) × (doubled_fault fs ≡ Some fault)
    after_repeated h = later (repeated_fault fs) (doubled_fault fs) fault 4 repeated_fourth h (after_corners (omega arith)).1

    hold_before : (g : ShapeFault) → part_of g < part_of fault → Denied g (mesh_under scale ps fs)
    hold_before (TooManyVertices count) h = few_vertices scale ps fs (not_tested _ _ (after_vertices h).0)
    hold_before (TooManyFaces count) h = few_faces scale ps fs (not_tested _ _ (after_faces h).0)
    hold_before (NoVertex face corner) h = corners_live scale ps fs (none_mapped _ _ (after_corners h).0)
    hold_before (Repeated face) h = corners_different scale ps fs (none_mapped _ _ (after_repeated h).0)
    hold_before (Doubled first second) h = absurd (let last = doubled_fifth fault (after_repeated (omega arith)).1 in omega (arith, last))
    hold_before (Unbalanced from to) h = absurd (let last = part_small fault in omega (arith, last))

  pub earlier_hold : (fault : ShapeFault) → shape_fault scale (length ps) fs ≡ Some fault → (g : ShapeFault) → part_of g < part_of fault → Denied g (mesh_under scale ps fs)
  earlier_hold fault is g h = by_balance (fault_but_balance scale (length ps) fs) refl is
    where
      by_balance : (o : Option ShapeFault) → fault_but_balance scale (length ps) fs ≡ o → option_or o (option_map (λ p. Unbalanced p.0 p.1) (first_unbalanced (length ps) fs)) ≡ Some fault → Denied g (mesh_under scale ps fs)
      by_balance None none e = hold_but_balance (no_fault_but_balance scale (length ps) fs none) g (let last = part_small fault in omega (arith, last))
      by_balance (Some f) some e = hold_before fault (some ∙ e) g h
