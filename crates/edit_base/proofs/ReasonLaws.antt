-- Where an edit is done no reason holds; and the edge of an edge's ends is that edge.
use Rattle.std.proofs.Common.{◌≡◌, ◌≢◌, ℕ, Bool, true, false, ◌||◌, min, max, List, ◌∷◌, Option, Some, None, refl, sym, arith}
use Rattle.std.proofs.lemmas.Bool.{false≢true}
use Rattle.edit_base.specs.declared.answers.Why.{Why}
use Rattle.edit_base.specs.declared.answers.Change.{Change}
use Rattle.edit_base.specs.declared.answers.Edit.TheVariants.{Done}
use Rattle.mesh_base.specs.Mesh.{Mesh}
use Rattle.edit_base.specs.Reasons.{reason_if, first_reason, done_unless}
use Rattle.edit_base.specs.Edges.{Edge, edge_of, corners_at, opposite_vertex, face_running}

pub done_is : (reason : Option Why) (change done : Change) → done_unless reason change ≡ Done done → (reason ≡ None) × (change ≡ done)
done_is (Some why) change done e = absurd cc
done_is None change done e = (refl, cc)

pub none_first : (reason : Option Why) (reasons : List (Option Why)) → first_reason (reason ∷ reasons) ≡ None → (reason ≡ None) × (first_reason reasons ≡ None)
none_first (Some why) reasons e = absurd cc
none_first None reasons e = (refl, e)

pub does_not_hold : (b : Bool) (why : Why) → reason_if b why ≡ None → b ≡ false
does_not_hold true why e = absurd cc
does_not_hold false why e = refl

pub first_false : (a b : Bool) → (a || b) ≡ false → a ≡ false
first_false true b e = e
first_false false b e = refl

pub second_false : (a b : Bool) → (a || b) ≡ false → b ≡ false
second_false true b e = absurd (false≢true (sym e))
second_false false b e = e

-- ---- the edge of an edge's ends is that edge
ordered_min : (u v : ℕ) → min (min u v) (max u v) ≡ min u v
ordered_min u v = omega arith

ordered_max : (u v : ℕ) → max (min u v) (max u v) ≡ max u v
ordered_max u v = omega arith

-- an edge by its ends in order
abbrev pub edge_between : Mesh → ℕ → ℕ → Edge
edge_between m a b = record {
  a = a;
  b = b;
  c = opposite_vertex (corners_at m (face_running m a b)) a b;
  d = opposite_vertex (corners_at m (face_running m b a)) b a;
  left_face = face_running m a b;
  right_face = face_running m b a;
}

pub edge_again : (m : Mesh) (u v : ℕ) → edge_of m (min u v) (max u v) ≡ edge_of m u v
edge_again m u v = λ i. edge_between m (ordered_min u v i) (ordered_max u v i)
