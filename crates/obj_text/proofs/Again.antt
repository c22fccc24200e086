-- A written mesh is read again.
use Rattle.std.proofs.Common.{◌≡◌, ℕ, ◌+◌, ◌^◌, ◌<◌, ◌≤◌, true, false, eqb, ltb, leb, List, [], ◌∷◌, ◌++◌, length, get_or, map, Some, Ok, refl, sym, ap, ◌∙◌, arith, append_assoc}
use Rattle.std.specs.Prelude.{codes, decimal, ℤ, unsigned_abs}
use Rattle.std.specs.List.{AllByRecursion, enumerate_from, flat_map, list_all, slice_split}
use Rattle.std.specs.Ordering.{nat_cmp}
use Rattle.std.specs.FinMap as finite
use Rattle.std.specs.FinMap.{get-entries, entries_sorted}
use Rattle.std.specs.FinMap.Entries.{find}
use Rattle.std.specs.Str.Lines.{lines}
use Rattle.std.proofs.lemmas.Bool.{and_parts, leb-true, ne_eqb, lt-ltb}
use Rattle.std.proofs.lemmas.Fmt.{first_decimal}
use Rattle.std.proofs.lemmas.List.{append-nil}
use Rattle.std.proofs.lemmas.List.Elements.{All-from_recursion}
use Rattle.std.proofs.lemmas.List.Splits.{slice_split_none}
use Rattle.grid_base.specs.declared.TheConstants.{BOX, DECIMALS_MAX}
use Rattle.grid_base.specs.declared.Point.{Point}
use Rattle.grid_base.specs.Points.{position_of}
use Rattle.mesh_base.specs.declared.Corners.{Corners}
use Rattle.mesh_base.specs.Mesh.{Mesh, IsSound, AreLive, HasCorners}
use Rattle.mesh_base.proofs.Listed.{each_found}
use Rattle.line_text.specs.Texts.{numbered_lines}
use Rattle.line_text.specs.Numbers.{fixed_text, is_digit}
use Rattle.line_text.specs.Fields.{coordinate_of}
use Rattle.line_text.specs.WrittenLines.{line_of_words, body_of_words}
use Rattle.line_text.proofs.Decimals.{Writes-decimal, number_within-decimal}
use Rattle.line_text.proofs.FixedAgain.{fixed_is_read_lem, fixed_is_word, decimal_is_word}
use Rattle.line_text.proofs.WrittenAgain.{IsSpelled, number_is_spelled, letters_are_spelled, words_again, first_line_again, not_continued}
use Rattle.obj_text.specs.Obj.{Lists, corner_of, corners_of, point_of, face_of, words_add, line_adds, lines_add}
use Rattle.obj_text.specs.Written.{rank, ranks, faces_text}
use Rattle.obj_text.specs.Laws.{WrittenIsRead}
use Rattle.obj_text.proofs.RankBounds.{rank_is_some, rank_is_few}

-- ---- lines that each add an item

module _ {X : Type 0} (decimals : ℕ) (first : List ℕ) (others : X → List (List ℕ)) (with_item : Lists → X → Lists) where
  -- the line of the item is cut into its words again, and they add the item
  pub record Adds (x : X) : Type 0 where
    pub spelled : AllByRecursion IsSpelled (first ∷ others x)
    pub adds : (lists : Lists) → words_add decimals lists (first ∷ others x) ≡ Ok (with_item lists x)

  abbrev pub lists_after : Lists → List X → Lists
  lists_after lists [] = lists
  lists_after lists (x ∷ xs) = lists_after (with_item lists x) xs

  one_adds : (lists : Lists) (x : X) → Adds x → line_adds decimals lists (body_of_words (first ∷ others x)) ≡ Ok (with_item lists x)
  unfolding line_adds
  one_adds lists x h = rw (not_continued first (others x) h.spelled, words_again first (others x) h.spelled) (h.adds lists)

  pub items_add : (items : List X) → AllByRecursion Adds items → (lists : Lists) (n : ℕ) (rest : List ℕ) → lines_add decimals lists (numbered_lines n (flat_map (λ x. line_of_words (first ∷ others x)) items ++ rest)) ≡ lines_add decimals (lists_after lists items) (numbered_lines (n + length items) rest)
  items_add [] h lists n rest = ap (λ (k : ℕ). lines_add decimals lists (numbered_lines k rest)) (omega arith)
  items_add (x ∷ items) h lists n rest =
      let more = flat_map (λ y. line_of_words (first ∷ others y)) items ++ rest in
      let body = body_of_words (first ∷ others x) in
      let cut : lines (flat_map (λ y. line_of_words (first ∷ others y)) (x ∷ items) ++ rest) ≡ body ∷ lines more = ap lines (append_assoc (line_of_words (first ∷ others x)) (flat_map (λ y. line_of_words (first ∷ others y)) items) rest) ∙ first_line_again first (others x) more h.0.spelled in
      let start : numbered_lines n (flat_map (λ y. line_of_words (first ∷ others y)) (x ∷ items) ++ rest) ≡ (n, body) ∷ numbered_lines (n + 1) more = ap (enumerate_from n) cut in
      rw (start, one_adds lists x h.0) (items_add items h.1 (with_item lists x) (n + 1) rest ∙ ap (λ (k : ℕ). lines_add decimals (lists_after (with_item lists x) items) (numbered_lines k rest)) (omega arith))

-- ---- a vertex

module _ (decimals : ℕ) (places : decimals ≤ DECIMALS_MAX) where
  coordinate_again : (z : ℤ) → unsigned_abs z ≤ BOX → coordinate_of decimals (fixed_text decimals z) ≡ Ok z
  unfolding coordinate_of
  coordinate_again z small = rw (fixed_is_read_lem decimals z places small) refl

  abbrev vertex_words : ℕ × Point → List (List ℕ)
  vertex_words e = fixed_text decimals e.1.x ∷ fixed_text decimals e.1.y ∷ fixed_text decimals e.1.z ∷ []

  abbrev with_vertex : Lists → ℕ × Point → Lists
  with_vertex lists e = record { points = lists.points ++ position_of e.1 ∷ []; faces = lists.faces }

  vertex_adds : (lists : Lists) (e : ℕ × Point) → words_add decimals lists (codes "v" ∷ vertex_words e) ≡ Ok (with_vertex lists e)
  unfolding words_add point_of
  vertex_adds lists e = rw (coordinate_again e.1.x e.1.in_box.x_fits, coordinate_again e.1.y e.1.in_box.y_fits, coordinate_again e.1.z e.1.in_box.z_fits) refl

  spelled_coordinate : (z : ℤ) → unsigned_abs z ≤ BOX → IsSpelled (fixed_text decimals z)
  spelled_coordinate z small = number_is_spelled (fixed_text decimals z) (fixed_is_word decimals z small)

  each_vertex_adds : (es : List (ℕ × Point)) → AllByRecursion (Adds decimals (codes "v") vertex_words with_vertex) es
  each_vertex_adds [] = tt
  each_vertex_adds (e ∷ es) = (
    record {
      spelled = (letters_are_spelled (codes "v") (omega arith) refl, (spelled_coordinate e.1.x e.1.in_box.x_fits, (spelled_coordinate e.1.y e.1.in_box.y_fits, (spelled_coordinate e.1.z e.1.in_box.z_fits, tt))));
      adds = λ lists. vertex_adds lists e;
    },
    each_vertex_adds es,
  )

  vertices_after : (lists : Lists) (es : List (ℕ × Point)) → lists_after decimals (codes "v") vertex_words with_vertex lists es ≡ record { points = lists.points ++ map (λ e. position_of e.1) es; faces = lists.faces }
  vertices_after lists [] = ap (λ ps. record { points = ps; faces = lists.faces }) (sym (append-nil lists.points))
  vertices_after lists (e ∷ es) = vertices_after (with_vertex lists e) es ∙ ap (λ ps. record { points = ps; faces = lists.faces }) (append_assoc lists.points (position_of e.1 ∷ []) (map (λ x. position_of x.1) es))

-- ---- a face

without_slash : (ds : List ℕ) → list_all is_digit ds ≡ true → AllByRecursion (λ b. eqb b 47 ≡ false) ds
without_slash [] h = tt
without_slash (d ∷ ds) h =
    let p = and_parts (is_digit d) (list_all is_digit ds) h in
    let q = and_parts (leb 48 d) (leb d 57) p.0 in
    (ne_eqb d 47 (let low : 48 ≤ d = leb-true 48 d q.0 in omega (arith, low)), without_slash ds p.1)

corner_again : (read r : ℕ) → 1 ≤ r → r < 2 ^ 32 → corner_of read (decimal r) ≡ Ok r
unfolding corner_of
corner_again read r low high =
    let lt : r < 2 ^ 64 = omega arith in
    let whole : slice_split (λ b. eqb b 47) (decimal r) ≡ decimal r ∷ [] = slice_split_none (λ b. eqb b 47) (decimal r) (All-from_recursion (λ b. eqb b 47 ≡ false) (decimal r) (without_slash (decimal r) (Writes-decimal r lt).digits)) in
    let unsigned : eqb (get_or (decimal r) 0 0) 45 ≡ false = ne_eqb _ _ (let f = first_decimal r (omega arith) lt in omega (arith, f)) in
    let found = number_within-decimal 10 r (omega arith) (omega arith) lt in
    let some : eqb r 0 ≡ false = ne_eqb _ _ (omega arith) in
    let small : ltb r (2 ^ 32) ≡ true = lt-ltb _ _ high in
    rw (whole, unsigned, found, some, small) refl

module _ (m : Mesh) (sound : IsSound m) (decimals : ℕ) where
  abbrev face_words : ℕ × Corners → List (List ℕ)
  face_words e = map decimal (ranks m e.1)

  abbrev with_face : Lists → ℕ × Corners → Lists
  with_face lists e = record { points = lists.points; faces = lists.faces ++ ranks m e.1 ∷ [] }

  rank_again : (read v : ℕ) → 1 ≤ rank m v → corner_of read (decimal (rank m v)) ≡ Ok (rank m v)
  rank_again read v some = corner_again read (rank m v) some (omega (arith, rank_is_few m v sound))

  face_adds : (lists : Lists) (e : ℕ × Corners) → AreLive m e.1 → words_add decimals lists (codes "f" ∷ face_words e) ≡ Ok (with_face lists e)
  unfolding words_add face_of corners_of
  face_adds lists e live =
      let read = length lists.points in
      rw (rank_again read e.1.first (rank_is_some m e.1.first live.0), rank_again read e.1.second (rank_is_some m e.1.second live.1), rank_again read e.1.third (rank_is_some m e.1.third live.2)) refl

  spelled_rank : (v : ℕ) → IsSpelled (decimal (rank m v))
  spelled_rank v = number_is_spelled (decimal (rank m v)) (decimal_is_word (rank m v) (omega (arith, rank_is_few m v sound)))

  each_face_adds : (es : List (ℕ × Corners)) → AllByRecursion (λ e. find nat_cmp e.0 (finite.entries m.faces) ≡ Some e.1) es → AllByRecursion (Adds decimals (codes "f") face_words with_face) es
  each_face_adds [] h = tt
  each_face_adds (e ∷ es) h =
      let there : HasCorners m e.0 e.1 = get-entries m.faces e.0 ∙ h.0 in (
        record {
          spelled = (letters_are_spelled (codes "f") (omega arith) refl, (spelled_rank e.1.first, (spelled_rank e.1.second, (spelled_rank e.1.third, tt))));
          adds = λ lists. face_adds lists e (sound.is_mesh.live_corners e.0 e.1 there);
        },
        each_face_adds es h.1,
      )

  faces_after : (lists : Lists) (es : List (ℕ × Corners)) → lists_after decimals (codes "f") face_words with_face lists es ≡ record { points = lists.points; faces = lists.faces ++ map (λ e. ranks m e.1) es }
  faces_after lists [] = ap (λ fs. record { points = lists.points; faces = fs }) (sym (append-nil lists.faces))
  faces_after lists (e ∷ es) = faces_after (with_face lists e) es ∙ ap (λ fs. record { points = lists.points; faces = fs }) (append_assoc lists.faces (ranks m e.1 ∷ []) (map (λ x. ranks m x.1) es))

-- ---- the whole text

pub written_is_read_lem : WrittenIsRead
written_is_read_lem m decimals sound places =
    let vertices = finite.entries m.points in
    let faces = finite.entries m.faces in
    let none : Lists = record { points = []; faces = [] } in
    let some : Lists = record { points = map (λ e. position_of e.1) vertices; faces = [] } in
    let count = 1 + length vertices in
    let first = items_add decimals (codes "v") (vertex_words decimals places) (with_vertex decimals places) vertices (each_vertex_adds decimals places vertices) none 1 (faces_text m) in
    let second = items_add decimals (codes "f") (face_words m sound decimals) (with_face m sound decimals) faces (each_face_adds m sound decimals faces (each_found faces (entries_sorted m.faces))) some count [] in
    first ∙ ap (λ (lists : Lists). lines_add decimals lists (numbered_lines count (faces_text m))) (vertices_after decimals places none vertices)
    ∙ ap (λ (text : List ℕ). lines_add decimals some (numbered_lines count text)) (sym (append-nil (faces_text m)))
    ∙ second ∙ ap (λ (lists : Lists). Ok lists) (faces_after m sound decimals some faces)
