use Rattle.std.proofs.Common.{◌≡◌, ℕ, List, [], ◌∷◌, ◌++◌, length, map, sym, ap, ◌∙◌, append_assoc}
use Rattle.std.specs.Prelude.{codes, decimal}
use Rattle.std.proofs.lemmas.List.{length-map}
use Rattle.grid_base.specs.Points.{position_of}
use Rattle.line_text.specs.WrittenLines.{line_of_words}
use Rattle.obj_text.specs.Views.{lists_view}
use Rattle.other_text.specs.OffWritten.{rows_text}
use Rattle.other_text.proofs.ply_writer.ply_of.Goals as goal

chained : (o0 o1 o2 o3 o4 o5 o6 o7 o8 o9 o10 a b c d e f g h i r : List ℕ) → o0 ≡ [] → o1 ≡ o0 ++ a → o2 ≡ o1 ++ b → o3 ≡ o2 ++ c → o4 ≡ o3 ++ d → o5 ≡ o4 ++ e → o6 ≡ o5 ++ f → o7 ≡ o6 ++ g → o8 ≡ o7 ++ h → o9 ≡ o8 ++ i → o10 ≡ o9 ++ r → o10 ≡ a ++ (b ++ (c ++ (d ++ (e ++ (f ++ (g ++ (h ++ (i ++ r))))))))
chained o0 o1 o2 o3 o4 o5 o6 o7 o8 o9 o10 a b c d e f g h i r h0 h1 h2 h3 h4 h5 h6 h7 h8 h9 h10 = rw (h10, h9, h8, h7, h6, h5, h4, h3, h2, h1, h0) (simp append_assoc)

pub returns : goal.returns
returns c =
    let v = length (map position_of c.args.lists.now.points) in
    let f = length c.args.lists.now.faces in
    let start : c.new-out.result.items ≡ [] = c.new-out.ensures.items in
    let points : c.len-points.result ≡ v = c.len-points.ensures ∙ sym (length-map c.args.lists.now.points position_of) in
    let faces : c.len-faces.result ≡ f = c.len-faces.ensures in
    let e1 : c.put_line.new.into.items ≡ c.new-out.result.items ++ line_of_words (codes "ply" ∷ []) = c.in_ok-put_line.ensures.ok in
    let e2 : c.put_line-2.new.into.items ≡ c.put_line.new.into.items ++ line_of_words (codes "format" ∷ codes "ascii" ∷ codes "1.0" ∷ []) = c.in_ok-put_line-2.ensures.ok in
    let e3 : c.put_line-3.new.into.items ≡ c.put_line-2.new.into.items ++ line_of_words (codes "element" ∷ codes "vertex" ∷ decimal v ∷ []) = c.in_ok-put_line-3.ensures.ok ∙ ap (λ (k : ℕ). c.put_line-2.new.into.items ++ line_of_words (codes "element" ∷ codes "vertex" ∷ decimal k ∷ [])) points in
    let e4 : c.put_line-4.new.into.items ≡ c.put_line-3.new.into.items ++ line_of_words (codes "property" ∷ codes "double" ∷ codes "x" ∷ []) = c.in_ok-put_line-4.ensures.ok in
    let e5 : c.put_line-5.new.into.items ≡ c.put_line-4.new.into.items ++ line_of_words (codes "property" ∷ codes "double" ∷ codes "y" ∷ []) = c.in_ok-put_line-5.ensures.ok in
    let e6 : c.put_line-6.new.into.items ≡ c.put_line-5.new.into.items ++ line_of_words (codes "property" ∷ codes "double" ∷ codes "z" ∷ []) = c.in_ok-put_line-6.ensures.ok in
    let e7 : c.put_line-7.new.into.items ≡ c.put_line-6.new.into.items ++ line_of_words (codes "element" ∷ codes "face" ∷ decimal f ∷ []) = c.in_ok-put_line-7.ensures.ok ∙ ap (λ (k : ℕ). c.put_line-6.new.into.items ++ line_of_words (codes "element" ∷ codes "face" ∷ decimal k ∷ [])) faces in
    let e8 : c.put_line-8.new.into.items ≡ c.put_line-7.new.into.items ++ line_of_words (codes "property" ∷ codes "list" ∷ codes "uchar" ∷ codes "int" ∷ codes "vertex_indices" ∷ []) = c.in_ok-put_line-8.ensures.ok in
    let e9 : c.put_line-9.new.into.items ≡ c.put_line-8.new.into.items ++ line_of_words (codes "end_header" ∷ []) = c.in_ok-put_line-9.ensures.ok in
    let e10 : c.put_rows.new.out.items ≡ c.put_line-9.new.into.items ++ rows_text c.args.decimals (lists_view c.args.lists.now) = c.in_ok-put_rows.ensures in
    chained c.new-out.result.items c.put_line.new.into.items c.put_line-2.new.into.items c.put_line-3.new.into.items c.put_line-4.new.into.items c.put_line-5.new.into.items c.put_line-6.new.into.items c.put_line-7.new.into.items c.put_line-8.new.into.items c.put_line-9.new.into.items c.put_rows.new.out.items (line_of_words (codes "ply" ∷ [])) (line_of_words (codes "format" ∷ codes "ascii" ∷ codes "1.0" ∷ [])) (line_of_words (codes "element" ∷ codes "vertex" ∷ decimal v ∷ [])) (line_of_words (codes "property" ∷ codes "double" ∷ codes "x" ∷ [])) (line_of_words (codes "property" ∷ codes "double" ∷ codes "y" ∷ [])) (line_of_words (codes "property" ∷ codes "double" ∷ codes "z" ∷ [])) (line_of_words (codes "element" ∷ codes "face" ∷ decimal f ∷ [])) (line_of_words (codes "property" ∷ codes "list" ∷ codes "uchar" ∷ codes "int" ∷ codes "vertex_indices" ∷ [])) (line_of_words (codes "end_header" ∷ [])) (rows_text c.args.decimals (lists_view c.args.lists.now)) start e1 e2 e3 e4 e5 e6 e7 e8 e9 e10
