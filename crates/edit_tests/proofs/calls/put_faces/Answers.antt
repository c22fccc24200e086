use Rattle.std.proofs.Common.{◌≡◌, ◌≤◌, ◌+◌, [], ◌∷◌, refl, sym, subst, arith}
use Rattle.mesh_base.specs.declared.ids.Corners.{Corners}
use Rattle.mesh_base.specs.Mesh.{Mesh}
use Rattle.mesh_base.specs.Changes.{corners_of, with_face}
use Rattle.edit_check.specs.Agreeing.{AgreesWhereOld}
use Rattle.edit_check.proofs.Premise.{old_of_made}
use Rattle.edit_tests.proofs.calls.put_faces.Goals as goal

-- so does the mesh with one face more
one_more : (old new made : Mesh) (k : Corners) → made ≡ with_face new k → AgreesWhereOld old new [] × old.next_face ≤ new.next_face → AgreesWhereOld old made [] × old.next_face ≤ made.next_face
one_more old new made k is so = subst (λ n. AgreesWhereOld old n [] × old.next_face ≤ n.next_face) (sym is) (
  record {
    faces = λ f c there below. so.0.faces f c (old_of_made new (k ∷ []) f c there (omega (arith, below, so.1))) below;
    points = λ v below rests. so.0.points v below rests;
  },
  omega (arith, so.1),
)

pub loop-c-init : goal.loop-c-init
loop-c-init g c = (record { faces = λ f k there below. there; points = λ v below rests. refl }, omega arith)

pub loop-c-preserved : goal.loop-c-preserved
loop-c-preserved g c =
    let mesh = g.S.Surface.mesh in
    one_more (mesh c.args.mesh.now) (mesh c.loop-c.mesh) (mesh c.put_face.new.mesh) (corners_of c.c-item.result) c.in_ok-put_face.ensures c.loop-c.invariant
