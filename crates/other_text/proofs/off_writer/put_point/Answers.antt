use Rattle.std.proofs.Common.{◌≡◌, ◌++◌, ◌∷◌, [], append_assoc, rules, FitsSigned, w32}
use Rattle.std.proofs.lemmas.Int.{to_z-of_z}
use Rattle.line_text.specs.Numbers.{fixed_text}
use Rattle.other_text.proofs.off_writer.put_point.Goals as goal

pub returns : goal.returns
returns c =
    let x : FitsSigned w32 c.args.p.x = search rules in
    let y : FitsSigned w32 c.args.p.y = search rules in
    let z : FitsSigned w32 c.args.p.z = search rules in
    let d = c.args.decimals in
    let old = c.args.out.now.items in
    let e1 : c.put_coordinate.new.out.items ≡ old ++ fixed_text d c.args.p.x ++ 32 ∷ [] = rw to_z-of_z at c.in_ok-put_coordinate.ensures.ok in
    let e2 : c.put_coordinate-2.new.out.items ≡ c.put_coordinate.new.out.items ++ fixed_text d c.args.p.y ++ 32 ∷ [] = rw to_z-of_z at c.in_ok-put_coordinate-2.ensures.ok in
    let e3 : c.put_coordinate-3.new.out.items ≡ c.put_coordinate-2.new.out.items ++ fixed_text d c.args.p.z ++ 10 ∷ [] = rw to_z-of_z at c.in_ok-put_coordinate-3.ensures.ok in
    rw (e3, e2, e1) (simp append_assoc)
