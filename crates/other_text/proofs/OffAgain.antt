-- Lists of good shape that are written as OFF are read again.
use Rattle.std.proofs.Common.{◌≡◌, ℕ, ◌-◌, ◌^◌, ◌<◌, ◌≤◌, false, eqb, List, [], ◌∷◌, ◌++◌, length, map, Ok, refl, ap, ◌∙◌, arith}
use Rattle.std.specs.Prelude.{codes, decimal}
use Rattle.std.specs.List.{AllByRecursion, flat_map}
use Rattle.std.proofs.lemmas.Bool.{ne_eqb}
use Rattle.std.proofs.lemmas.List.{length-map}
use Rattle.std.proofs.lemmas.List.Folds.{flat_map-map}
use Rattle.grid_base.specs.declared.TheConstants.{VERTICES_MAX, FACES_MAX, DECIMALS_MAX}
use Rattle.grid_base.specs.declared.Point.{Point}
use Rattle.grid_base.specs.Points.{position_of}
use Rattle.mesh_base.specs.declared.limits.Scale.{Scale}
use Rattle.mesh_base.specs.Limits.{limits_of}
use Rattle.mesh_base.proofs.MeshLaws.{few_vertices_of, few_faces_of}
use Rattle.mesh_shape.specs.Shape.{HasNoFault, fault_but_balance}
use Rattle.mesh_shape.proofs.Lists.{none_of, few, no_fault_but_balance}
use Rattle.line_text.specs.Texts.{numbered_lines}
use Rattle.line_text.specs.WrittenLines.{line_of_words}
use Rattle.line_text.proofs.WrittenAgain.{IsSpelled, tests_spell}
use Rattle.other_text.specs.declared.off_parser.NextLine.TheVariants.{Counts, Rows}
use Rattle.obj_text.specs.Obj.{Lists}
use Rattle.other_text.specs.Off.{Progress, start, name_of, counts_of, row_adds, wanted_adds, words_add, end_gives, lists_of}
use Rattle.other_text.specs.Lines.{lines_add}
use Rattle.other_text.specs.OffWritten.{point_words, face_words, rows_text, off_text}
use Rattle.other_text.specs.Laws.{OffIsRead}
use Rattle.other_text.proofs.LinesAgain.{line_adds}
use Rattle.other_text.proofs.ListsAgain.{PointAdds, FaceAdds, nothing, rows_add}
use Rattle.other_text.proofs.RowsAgain.{point_again, count_again, face_again, spelled_count, IsCorner}

-- within the rows
abbrev rows_from : ℕ → ℕ → Lists → Progress
rows_from v f lists = record { wanted = Rows; points_left = v; faces_left = f; lists = lists }

-- ---- points

module _ (decimals : ℕ) (places : decimals ≤ DECIMALS_MAX) (count : ℕ) where
  point_adds : (p : Point) → PointAdds (words_add decimals) rows_from decimals count p
  unfolding words_add wanted_adds row_adds
  point_adds p ps lists =
      let some : eqb (length (p ∷ ps)) 0 ≡ false = ne_eqb _ _ (omega arith) in
      let one_less : length (p ∷ ps) - 1 ≡ length ps = omega arith in
      rw (some, point_again decimals places p, one_less) refl

-- ---- faces

face_adds : (decimals a b c : ℕ) → IsCorner a → IsCorner b → IsCorner c → FaceAdds (words_add decimals) rows_from decimals a b c
unfolding words_add wanted_adds row_adds
face_adds decimals a b c i j k fs lists =
    let some : eqb (length ((a ∷ b ∷ c ∷ []) ∷ fs)) 0 ≡ false = ne_eqb _ _ (omega arith) in
    let one_less : length ((a ∷ b ∷ c ∷ []) ∷ fs) - 1 ≡ length fs = omega arith in
    rw (some, face_again a b c i j k, one_less) refl

-- ---- the first two lines

name_adds : (decimals : ℕ) → words_add decimals start (codes "OFF" ∷ []) ≡ Ok (record { wanted = Counts; points_left = 0; faces_left = 0; lists = nothing })
unfolding words_add wanted_adds name_of
name_adds decimals = refl

counts_add : (decimals v f : ℕ) → v < 10 ^ 10 → f < 10 ^ 10 → words_add decimals (record { wanted = Counts; points_left = 0; faces_left = 0; lists = nothing }) (decimal v ∷ decimal f ∷ codes "0" ∷ []) ≡ Ok (rows_from v f nothing)
unfolding words_add wanted_adds counts_of
counts_add decimals v f few_v few_f = rw (count_again v few_v, count_again f few_f) refl

done_gives : (n : ℕ) (lists : Lists) → end_gives n (rows_from 0 0 lists) ≡ Ok lists
unfolding end_gives
done_gives n lists = refl

-- ---- the whole text

whole : (scale : Scale) (points : List Point) (faces : List (List ℕ)) (decimals : ℕ) → HasNoFault scale points faces → AllByRecursion (λ f. length f ≡ 3) faces → decimals ≤ DECIMALS_MAX → lines_add (words_add decimals) start (numbered_lines 1 (off_text decimals (record { points = map position_of points; faces = faces }))) ≡ Ok (rows_from 0 0 (record { points = map position_of points; faces = faces }))
whole scale points faces decimals good sizes places =
    let none_wrong = no_fault_but_balance scale (length points) faces (none_of (fault_but_balance scale (length points) faces) _ good).0 in
    let few_points : length points ≤ VERTICES_MAX = omega (arith, few (limits_of scale).vertices (length points) none_wrong.vertices, few_vertices_of scale) in
    let few_faces : length faces ≤ FACES_MAX = omega (arith, few (limits_of scale).faces (length faces) none_wrong.faces, few_faces_of scale) in
    let v = length points in
    let f = length faces in
    let lists : Lists = record { points = map position_of points; faces = faces } in
    let counted : Progress = record { wanted = Counts; points_left = 0; faces_left = 0; lists = nothing } in
    let name = line_of_words (codes "OFF" ∷ []) in
    let counts = line_of_words (decimal v ∷ decimal f ∷ codes "0" ∷ []) in
    let faces_text = flat_map (λ c. line_of_words (face_words c)) faces in
    let rows = flat_map (λ p. line_of_words (point_words decimals (position_of p))) points ++ faces_text in
    let text : off_text decimals lists ≡ name ++ (counts ++ rows) = ap (λ (k : ℕ). name ++ (line_of_words (decimal k ∷ decimal f ∷ codes "0" ∷ []) ++ rows_text decimals lists)) (length-map points position_of) ∙ ap (λ (t : List ℕ). name ++ (counts ++ (t ++ faces_text))) (flat_map-map (λ p. line_of_words (point_words decimals p)) position_of points) in
    let spelled_name : AllByRecursion IsSpelled (codes "OFF" ∷ []) = (tests_spell (codes "OFF") (omega arith) refl refl refl, tt) in
    let spelled_counts : AllByRecursion IsSpelled (decimal v ∷ decimal f ∷ codes "0" ∷ []) = (spelled_count v (omega arith), (spelled_count f (omega arith), (tests_spell (codes "0") (omega arith) refl refl refl, tt))) in
    ap (λ (t : List ℕ). lines_add (words_add decimals) start (numbered_lines 1 t)) text
    ∙ line_adds (words_add decimals) start counted (codes "OFF") [] 1 (counts ++ rows) spelled_name (name_adds decimals)
    ∙ line_adds (words_add decimals) counted (rows_from v f nothing) (decimal v) (decimal f ∷ codes "0" ∷ []) 2 rows spelled_counts (counts_add decimals v f (omega arith) (omega arith))
    ∙ rows_add (words_add decimals) rows_from decimals places points faces 3 (point_adds decimals places f) (face_adds decimals) few_points sizes none_wrong.corners

pub off_is_read_lem : OffIsRead
unfolding lists_of
off_is_read_lem scale points faces decimals good sizes places = rw (whole scale points faces decimals good sizes places) (done_gives _ (record { points = map position_of points; faces = faces }))
