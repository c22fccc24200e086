use Rattle.std.proofs.Common.{◌≡◌, ◌++◌, take}
use Rattle.std.specs.List.{flat_map}
use Rattle.line_text.specs.WrittenLines.{line_of_words}
use Rattle.other_text.specs.OffWritten.{face_words}
use Rattle.other_text.proofs.off_writer.put_faces.Given as goal

abbrev pub invariant-loop-f : goal.invariant-loop-f
invariant-loop-f l = l.out.items ≡ l.initial.out.items ++ flat_map (λ f. line_of_words (face_words f)) (take l.f-index l.faces)
