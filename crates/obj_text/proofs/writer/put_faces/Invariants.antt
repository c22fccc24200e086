use Rattle.std.proofs.Common.{◌≡◌, ◌++◌, take}
use Rattle.std.specs.List.{flat_map}
use Rattle.std.specs.FinMap as finite
use Rattle.obj_text.specs.Written.{face_line}
use Rattle.obj_text.proofs.Lookups.{text_of_found}
use Rattle.obj_text.proofs.writer.put_faces.Given as goal

abbrev pub invariant-loop-f : goal.invariant-loop-f
invariant-loop-f g l = let m = g.S.Surface.mesh l.mesh in l.out.items ≡ l.initial.out.items ++ flat_map (λ f. text_of_found (face_line m) (finite.get m.faces f)) (take l.f-index l.faces)
