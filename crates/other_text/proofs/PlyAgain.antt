-- Lists of good shape that are written as PLY are read again.
use Rattle.std.proofs.Common.{◌≡◌, ℕ, ◌-◌, ◌^◌, ◌<◌, ◌≤◌, Bool, true, false, eqb, List, [], ◌∷◌, ◌++◌, length, map, Ok, refl, ap, ◌∙◌, arith, Some}
use Rattle.std.specs.Prelude.{codes, decimal}
use Rattle.std.specs.List.{AllByRecursion, flat_map}
use Rattle.std.proofs.lemmas.Bool.{ne_eqb}
use Rattle.std.proofs.lemmas.List.{length-map}
use Rattle.std.proofs.lemmas.List.Folds.{flat_map-map}
use Rattle.grid_base.specs.declared.TheConstants.{VERTICES_MAX, FACES_MAX, DECIMALS_MAX}
use Rattle.grid_base.specs.declared.Point.{Point}
use Rattle.grid_base.specs.Points.{position_of}
use Rattle.mesh_base.specs.declared.limits.Scale.{Scale}
use Rattle.mesh_base.specs.Limits.{limits_of}
use Rattle.mesh_base.proofs.MeshLaws.{few_vertices_of, few_faces_of}
use Rattle.mesh_shape.specs.Shape.{HasNoFault, fault_but_balance}
use Rattle.mesh_shape.proofs.Lists.{none_of, few, no_fault_but_balance}
use Rattle.line_text.specs.Texts.{numbered_lines}
use Rattle.line_text.specs.Numbers.{fixed_text}
use Rattle.line_text.specs.Fields.{count_is}
use Rattle.line_text.specs.WrittenLines.{line_of_words}
use Rattle.line_text.proofs.WrittenAgain.{IsSpelled, tests_spell}
use Rattle.other_text.specs.declared.ply_head.Role.{Role}
use Rattle.other_text.specs.declared.ply_head.Role.TheVariants.{X, Y, Z}
use Rattle.other_text.specs.declared.ply_parser.NextLine.{NextLine}
use Rattle.other_text.specs.declared.ply_parser.NextLine.TheVariants.{Format, Vertices, Properties, Corners, Others, Rows}
use Rattle.obj_text.specs.Obj.{Lists}
use Rattle.other_text.specs.Lines.{lines_add}
use Rattle.other_text.specs.Ply.{Progress, start, name_of, format_of, element_of, property_of, corners_named, is_end, placed, coordinates_of, point_of, role_adds, property_adds, other_adds, row_adds, wanted_adds, words_add, end_gives, lists_of}
use Rattle.other_text.specs.Rows.{has_words, sized_ring_of, face_of}
use Rattle.other_text.specs.OffWritten.{point_words, face_words}
use Rattle.other_text.specs.PlyWritten.{ply_text}
use Rattle.other_text.specs.Laws.{PlyIsRead}
use Rattle.other_text.proofs.LinesAgain.{line_adds}
use Rattle.other_text.proofs.ListsAgain.{PointAdds, FaceAdds, nothing, rows_add}
use Rattle.other_text.proofs.RowsAgain.{coordinate_again, count_again, three_again, ring_again, spelled_count, IsCorner}

abbrev all_roles : List Role
all_roles = X ∷ Y ∷ Z ∷ []

-- within the rows
abbrev rows_from : ℕ → ℕ → Lists → Progress
rows_from v f lists = record { wanted = Rows; roles = all_roles; x_stands = true; y_stands = true; z_stands = true; extra = 0; points_left = v; faces_left = f; lists = lists }

-- within the head
abbrev head_at : NextLine → List Role → Bool → Bool → Bool → ℕ → ℕ → Progress
head_at wanted roles x y z v f = record { wanted = wanted; roles = roles; x_stands = x; y_stands = y; z_stands = z; extra = 0; points_left = v; faces_left = f; lists = nothing }

-- ---- points

module _ (decimals : ℕ) (places : decimals ≤ DECIMALS_MAX) (count : ℕ) where
  three_words : (a b c : List ℕ) → count_is 3 (a ∷ b ∷ c ∷ []) ≡ Ok tt
  unfolding count_is
  three_words a b c = refl

  point_again : (p : Point) → point_of decimals all_roles (point_words decimals (position_of p)) ≡ Ok (position_of p)
  unfolding point_of coordinates_of placed
  point_again p = rw (three_words (fixed_text decimals p.x) (fixed_text decimals p.y) (fixed_text decimals p.z), coordinate_again decimals places p.x p.in_box.x_fits, coordinate_again decimals places p.y p.in_box.y_fits, coordinate_again decimals places p.z p.in_box.z_fits) refl

  point_adds : (p : Point) → PointAdds (words_add decimals) rows_from decimals count p
  unfolding words_add wanted_adds row_adds
  point_adds p ps lists =
      let some : eqb (length (p ∷ ps)) 0 ≡ false = ne_eqb _ _ (omega arith) in
      let one_less : length (p ∷ ps) - 1 ≡ length ps = omega arith in
      rw (some, point_again p, one_less) refl

-- ---- faces

four_words : (a b c : List ℕ) → count_is 3 (a ∷ b ∷ c ∷ []) ≡ Ok tt
unfolding count_is
four_words a b c = refl

face_again : (a b c : ℕ) → IsCorner a → IsCorner b → IsCorner c → face_of (Some 0) (face_words (a ∷ b ∷ c ∷ [])) ≡ Ok (a ∷ b ∷ c ∷ [])
unfolding face_of sized_ring_of has_words
face_again a b c i j k = rw (three_again, four_words (decimal (a - 1)) (decimal (b - 1)) (decimal (c - 1))) (ring_again a b c i j k)

face_adds : (decimals a b c : ℕ) → IsCorner a → IsCorner b → IsCorner c → FaceAdds (words_add decimals) rows_from decimals a b c
unfolding words_add wanted_adds row_adds
face_adds decimals a b c i j k fs lists =
    let some : eqb (length ((a ∷ b ∷ c ∷ []) ∷ fs)) 0 ≡ false = ne_eqb _ _ (omega arith) in
    let one_less : length ((a ∷ b ∷ c ∷ []) ∷ fs) - 1 ≡ length fs = omega arith in
    rw (some, face_again a b c i j k, one_less) refl

-- ---- the head

module _ (decimals v f : ℕ) (few_v : v < 10 ^ 10) (few_f : f < 10 ^ 10) where
  name_adds : words_add decimals start (codes "ply" ∷ []) ≡ Ok (head_at Format [] false false false 0 0)
  unfolding words_add wanted_adds name_of
  name_adds = refl

  format_adds : words_add decimals (head_at Format [] false false false 0 0) (codes "format" ∷ codes "ascii" ∷ codes "1.0" ∷ []) ≡ Ok (head_at Vertices [] false false false 0 0)
  unfolding words_add wanted_adds format_of
  format_adds = refl

  vertices_add : words_add decimals (head_at Vertices [] false false false 0 0) (codes "element" ∷ codes "vertex" ∷ decimal v ∷ []) ≡ Ok (head_at Properties [] false false false v 0)
  unfolding words_add wanted_adds element_of
  vertices_add = rw (count_again v few_v) refl

  x_adds : words_add decimals (head_at Properties [] false false false v 0) (codes "property" ∷ codes "double" ∷ codes "x" ∷ []) ≡ Ok (head_at Properties (X ∷ []) true false false v 0)
  unfolding words_add wanted_adds property_adds property_of role_adds
  x_adds = refl

  y_adds : words_add decimals (head_at Properties (X ∷ []) true false false v 0) (codes "property" ∷ codes "double" ∷ codes "y" ∷ []) ≡ Ok (head_at Properties (X ∷ Y ∷ []) true true false v 0)
  unfolding words_add wanted_adds property_adds property_of role_adds
  y_adds = refl

  z_adds : words_add decimals (head_at Properties (X ∷ Y ∷ []) true true false v 0) (codes "property" ∷ codes "double" ∷ codes "z" ∷ []) ≡ Ok (head_at Properties all_roles true true true v 0)
  unfolding words_add wanted_adds property_adds property_of role_adds
  z_adds = refl

  faces_add : words_add decimals (head_at Properties all_roles true true true v 0) (codes "element" ∷ codes "face" ∷ decimal f ∷ []) ≡ Ok (head_at Corners all_roles true true true v f)
  unfolding words_add wanted_adds property_adds element_of
  faces_add = rw (count_again f few_f) refl

  corners_add : words_add decimals (head_at Corners all_roles true true true v f) (codes "property" ∷ codes "list" ∷ codes "uchar" ∷ codes "int" ∷ codes "vertex_indices" ∷ []) ≡ Ok (head_at Others all_roles true true true v f)
  unfolding words_add wanted_adds corners_named
  corners_add = refl

  end_adds : words_add decimals (head_at Others all_roles true true true v f) (codes "end_header" ∷ []) ≡ Ok (head_at Rows all_roles true true true v f)
  unfolding words_add wanted_adds other_adds is_end
  end_adds = refl

  abbrev head_before : List ℕ → List ℕ
  head_before rest =
      line_of_words (codes "ply" ∷ [])
      ++ (line_of_words (codes "format" ∷ codes "ascii" ∷ codes "1.0" ∷ [])
      ++ (line_of_words (codes "element" ∷ codes "vertex" ∷ decimal v ∷ [])
      ++ (line_of_words (codes "property" ∷ codes "double" ∷ codes "x" ∷ [])
      ++ (line_of_words (codes "property" ∷ codes "double" ∷ codes "y" ∷ [])
      ++ (line_of_words (codes "property" ∷ codes "double" ∷ codes "z" ∷ [])
      ++ (line_of_words (codes "element" ∷ codes "face" ∷ decimal f ∷ [])
      ++ (line_of_words (codes "property" ∷ codes "list" ∷ codes "uchar" ∷ codes "int" ∷ codes "vertex_indices" ∷ [])
      ++ (line_of_words (codes "end_header" ∷ []) ++ rest))))))))

  spelled_property : (name : List ℕ) → IsSpelled name → AllByRecursion IsSpelled (codes "property" ∷ codes "double" ∷ name ∷ [])
  spelled_property name h = (tests_spell (codes "property") (omega arith) refl refl refl, (tests_spell (codes "double") (omega arith) refl refl refl, (h, tt)))

  head_adds : (rest : List ℕ) → lines_add (words_add decimals) start (numbered_lines 1 (head_before rest)) ≡ lines_add (words_add decimals) (head_at Rows all_roles true true true v f) (numbered_lines 10 rest)
  head_adds rest =
      let r9 : List ℕ = line_of_words (codes "end_header" ∷ []) ++ rest in
      let r8 : List ℕ = line_of_words (codes "property" ∷ codes "list" ∷ codes "uchar" ∷ codes "int" ∷ codes "vertex_indices" ∷ []) ++ r9 in
      let r7 : List ℕ = line_of_words (codes "element" ∷ codes "face" ∷ decimal f ∷ []) ++ r8 in
      let r6 : List ℕ = line_of_words (codes "property" ∷ codes "double" ∷ codes "z" ∷ []) ++ r7 in
      let r5 : List ℕ = line_of_words (codes "property" ∷ codes "double" ∷ codes "y" ∷ []) ++ r6 in
      let r4 : List ℕ = line_of_words (codes "property" ∷ codes "double" ∷ codes "x" ∷ []) ++ r5 in
      let r3 : List ℕ = line_of_words (codes "element" ∷ codes "vertex" ∷ decimal v ∷ []) ++ r4 in
      let r2 : List ℕ = line_of_words (codes "format" ∷ codes "ascii" ∷ codes "1.0" ∷ []) ++ r3 in
      let element : IsSpelled (codes "element") = tests_spell (codes "element") (omega arith) refl refl refl in
      line_adds (words_add decimals) start (head_at Format [] false false false 0 0) (codes "ply") [] 1 r2 (tests_spell (codes "ply") (omega arith) refl refl refl, tt) name_adds
      ∙ line_adds (words_add decimals) (head_at Format [] false false false 0 0) (head_at Vertices [] false false false 0 0) (codes "format") (codes "ascii" ∷ codes "1.0" ∷ []) 2 r3 (tests_spell (codes "format") (omega arith) refl refl refl, (tests_spell (codes "ascii") (omega arith) refl refl refl, (tests_spell (codes "1.0") (omega arith) refl refl refl, tt))) format_adds
      ∙ line_adds (words_add decimals) (head_at Vertices [] false false false 0 0) (head_at Properties [] false false false v 0) (codes "element") (codes "vertex" ∷ decimal v ∷ []) 3 r4 (element, (tests_spell (codes "vertex") (omega arith) refl refl refl, (spelled_count v (omega arith), tt))) vertices_add
      ∙ line_adds (words_add decimals) (head_at Properties [] false false false v 0) (head_at Properties (X ∷ []) true false false v 0) (codes "property") (codes "double" ∷ codes "x" ∷ []) 4 r5 (spelled_property (codes "x") (tests_spell (codes "x") (omega arith) refl refl refl)) x_adds
      ∙ line_adds (words_add decimals) (head_at Properties (X ∷ []) true false false v 0) (head_at Properties (X ∷ Y ∷ []) true true false v 0) (codes "property") (codes "double" ∷ codes "y" ∷ []) 5 r6 (spelled_property (codes "y") (tests_spell (codes "y") (omega arith) refl refl refl)) y_adds
      ∙ line_adds (words_add decimals) (head_at Properties (X ∷ Y ∷ []) true true false v 0) (head_at Properties all_roles true true true v 0) (codes "property") (codes "double" ∷ codes "z" ∷ []) 6 r7 (spelled_property (codes "z") (tests_spell (codes "z") (omega arith) refl refl refl)) z_adds
      ∙ line_adds (words_add decimals) (head_at Properties all_roles true true true v 0) (head_at Corners all_roles true true true v f) (codes "element") (codes "face" ∷ decimal f ∷ []) 7 r8 (element, (tests_spell (codes "face") (omega arith) refl refl refl, (spelled_count f (omega arith), tt))) faces_add
      ∙ line_adds (words_add decimals) (head_at Corners all_roles true true true v f) (head_at Others all_roles true true true v f) (codes "property") (codes "list" ∷ codes "uchar" ∷ codes "int" ∷ codes "vertex_indices" ∷ []) 8 r9 (tests_spell (codes "property") (omega arith) refl refl refl, (tests_spell (codes "list") (omega arith) refl refl refl, (tests_spell (codes "uchar") (omega arith) refl refl refl, (tests_spell (codes "int") (omega arith) refl refl refl, (tests_spell (codes "vertex_indices") (omega arith) refl refl refl, tt))))) corners_add
      ∙ line_adds (words_add decimals) (head_at Others all_roles true true true v f) (head_at Rows all_roles true true true v f) (codes "end_header") [] 9 rest (tests_spell (codes "end_header") (omega arith) refl refl refl, tt) end_adds

done_gives : (n : ℕ) (lists : Lists) → end_gives n (rows_from 0 0 lists) ≡ Ok lists
unfolding end_gives
done_gives n lists = refl

-- ---- the whole text

whole : (scale : Scale) (points : List Point) (faces : List (List ℕ)) (decimals : ℕ) → HasNoFault scale points faces → AllByRecursion (λ f. length f ≡ 3) faces → decimals ≤ DECIMALS_MAX → lines_add (words_add decimals) start (numbered_lines 1 (ply_text decimals (record { points = map position_of points; faces = faces }))) ≡ Ok (rows_from 0 0 (record { points = map position_of points; faces = faces }))
whole scale points faces decimals good sizes places =
    let none_wrong = no_fault_but_balance scale (length points) faces (none_of (fault_but_balance scale (length points) faces) _ good).0 in
    let few_points : length points ≤ VERTICES_MAX = omega (arith, few (limits_of scale).vertices (length points) none_wrong.vertices, few_vertices_of scale) in
    let few_faces : length faces ≤ FACES_MAX = omega (arith, few (limits_of scale).faces (length faces) none_wrong.faces, few_faces_of scale) in
    let v = length points in
    let f = length faces in
    let few_v : v < 10 ^ 10 = omega arith in
    let few_f : f < 10 ^ 10 = omega arith in
    let lists : Lists = record { points = map position_of points; faces = faces } in
    let faces_text = flat_map (λ c. line_of_words (face_words c)) faces in
    let rows = flat_map (λ p. line_of_words (point_words decimals (position_of p))) points ++ faces_text in
    let same : length (map position_of points) ≡ v = length-map points position_of in
    let few_same : length (map position_of points) < 10 ^ 10 = omega arith in
    let text : ply_text decimals lists ≡ head_before decimals (length (map position_of points)) f few_same few_f rows = ap (λ (t : List ℕ). head_before decimals (length (map position_of points)) f few_same few_f (t ++ faces_text)) (flat_map-map (λ p. line_of_words (point_words decimals p)) position_of points) in
    ap (λ (t : List ℕ). lines_add (words_add decimals) start (numbered_lines 1 t)) text
    ∙ head_adds decimals (length (map position_of points)) f few_same few_f rows
    ∙ ap (λ (k : ℕ). lines_add (words_add decimals) (rows_from k f nothing) (numbered_lines 10 rows)) same
    ∙ rows_add (words_add decimals) rows_from decimals places points faces 10 (point_adds decimals places f) (face_adds decimals) few_points sizes none_wrong.corners

pub ply_is_read_lem : PlyIsRead
unfolding lists_of
ply_is_read_lem scale points faces decimals good sizes places = rw (whole scale points faces decimals good sizes places) (done_gives _ (record { points = map position_of points; faces = faces }))
