-- Written rows add their points and faces, whichever the format, where a row of each does.
use Rattle.std.proofs.Common.{◌≡◌, ℕ, ◌+◌, ◌-◌, ◌≤◌, List, [], ◌∷◌, ◌++◌, length, map, None, Result, Ok, sym, ap, ◌∙◌, arith, append_assoc}
use Rattle.std.specs.Prelude.{codes, decimal}
use Rattle.std.specs.List.{AllByRecursion, flat_map}
use Rattle.std.proofs.lemmas.List.{append-nil}
use Rattle.grid_base.specs.declared.TheConstants.{VERTICES_MAX, DECIMALS_MAX}
use Rattle.grid_base.specs.declared.Point.{Point}
use Rattle.grid_base.specs.Points.{position_of}
use Rattle.mesh_base.specs.Changes as changes
use Rattle.mesh_shape.specs.Shape.{no_vertex_from, bad_corner}
use Rattle.mesh_shape.proofs.Lists.{none_of, none_mapped, all_vertices, between}
use Rattle.line_text.specs.declared.fault.TextWhy.{TextWhy}
use Rattle.line_text.specs.Texts.{numbered_lines}
use Rattle.line_text.specs.Numbers.{fixed_text}
use Rattle.line_text.specs.WrittenLines.{line_of_words}
use Rattle.obj_text.specs.Obj.{Lists}
use Rattle.other_text.specs.Lines.{lines_add}
use Rattle.other_text.specs.OffWritten.{point_words, face_words}
use Rattle.other_text.proofs.LinesAgain.{Adds, lists_after, items_add}
use Rattle.other_text.proofs.RowsAgain.{spelled_point, spelled_face, IsCorner}

-- no points and no faces
abbrev pub nothing : Lists
nothing = record { points = []; faces = [] }

-- the lists with one point more
abbrev pub with_point : Lists → Point → Lists
with_point lists p = record { points = lists.points ++ position_of p ∷ []; faces = lists.faces }

-- the lists with one face more
abbrev pub with_face : Lists → List ℕ → Lists
with_face lists f = record { points = lists.points; faces = lists.faces ++ f ∷ [] }

-- a reader of rows: `at v f lists` is within them, where so many points and faces are left, and these lists are read
module _ {P : Type 0} (words_add : P → List (List ℕ) → Result P TextWhy) (at : ℕ → ℕ → Lists → P) (decimals : ℕ) where
  -- the words of a point's row add it
  abbrev pub PointAdds : ℕ → Point → Type 0
  PointAdds f p = (ps : List Point) (lists : Lists) → words_add (at (length (p ∷ ps)) f lists) (point_words decimals (position_of p)) ≡ Ok (at (length ps) f (with_point lists p))

  -- the words of a face's row add it
  abbrev pub FaceAdds : ℕ → ℕ → ℕ → Type 0
  FaceAdds a b c = (fs : List (List ℕ)) (lists : Lists) → words_add (at 0 (length ((a ∷ b ∷ c ∷ []) ∷ fs)) lists) (face_words (a ∷ b ∷ c ∷ [])) ≡ Ok (at 0 (length fs) (with_face lists (a ∷ b ∷ c ∷ [])))

  -- ---- points

  module _ (places : decimals ≤ DECIMALS_MAX) (f : ℕ) (point_adds : (p : Point) → PointAdds f p) where
    abbrev point_first : Point → List ℕ
    point_first p = fixed_text decimals p.x

    abbrev point_others : Point → List (List ℕ)
    point_others p = fixed_text decimals p.y ∷ fixed_text decimals p.z ∷ []

    abbrev at_points : List Point → Lists → P
    at_points ps lists = at (length ps) f lists

    each_point_adds : (ps : List Point) → AllByRecursion (Adds words_add point_first point_others at_points with_point) ps
    each_point_adds [] = tt
    each_point_adds (p ∷ ps) = (record { spelled = spelled_point decimals places p; adds = point_adds p }, each_point_adds ps)

    points_after : (lists : Lists) (ps : List Point) → lists_after words_add point_first point_others at_points with_point lists ps ≡ record { points = lists.points ++ map position_of ps; faces = lists.faces }
    points_after lists [] = ap (λ ps. record { points = ps; faces = lists.faces }) (sym (append-nil lists.points))
    points_after lists (p ∷ ps) = points_after (with_point lists p) ps ∙ ap (λ xs. record { points = xs; faces = lists.faces }) (append_assoc lists.points (position_of p ∷ []) (map position_of ps))

  -- ---- faces

  module _ (face_adds : (a b c : ℕ) → IsCorner a → IsCorner b → IsCorner c → FaceAdds a b c) where
    abbrev face_others : List ℕ → List (List ℕ)
    face_others corners = map (λ c. decimal (c - 1)) corners

    abbrev at_faces : List (List ℕ) → Lists → P
    at_faces fs lists = at 0 (length fs) lists

    abbrev RowAdds : List ℕ → Type 0
    RowAdds = Adds words_add (λ f. codes "3") face_others at_faces with_face

    module _ (n : ℕ) (small : n ≤ VERTICES_MAX) where
      three : (f : List ℕ) → length f ≡ 3 → bad_corner n (changes.corners_of f) ≡ None → RowAdds f
      three [] h good = absurd (omega arith)
      three (a ∷ []) h good = absurd (omega arith)
      three (a ∷ b ∷ []) h good = absurd (omega arith)
      three (a ∷ b ∷ c ∷ d ∷ more) h good = absurd (omega arith)
      three (a ∷ b ∷ c ∷ []) h good =
          let all = all_vertices n (changes.corners_of (a ∷ b ∷ c ∷ [])) good in
          let i = between n a all.0 in
          let j = between n b all.1 in
          let k = between n c all.2 in
          let ca : IsCorner a = record { low = i.0; high = omega arith } in
          let cb : IsCorner b = record { low = j.0; high = omega arith } in
          let cc' : IsCorner c = record { low = k.0; high = omega arith } in
          record { spelled = spelled_face a b c ca cb cc'; adds = face_adds a b c ca cb cc' }

      each_face_adds : (m : ℕ) (fs : List (List ℕ)) → AllByRecursion (λ f. length f ≡ 3) fs → no_vertex_from n m fs ≡ None → AllByRecursion RowAdds fs
      each_face_adds m [] sizes h = tt
      each_face_adds m (f ∷ fs) sizes h =
          let parts = none_of _ (no_vertex_from n (m + 1) fs) h in
          (three f sizes.0 (none_mapped _ _ parts.0), each_face_adds (m + 1) fs sizes.1 parts.1)

    faces_after : (lists : Lists) (fs : List (List ℕ)) → lists_after words_add (λ f. codes "3") face_others at_faces with_face lists fs ≡ record { points = lists.points; faces = lists.faces ++ fs }
    faces_after lists [] = ap (λ fs. record { points = lists.points; faces = fs }) (sym (append-nil lists.faces))
    faces_after lists (f ∷ fs) = faces_after (with_face lists f) fs ∙ ap (λ xs. record { points = lists.points; faces = xs }) (append_assoc lists.faces (f ∷ []) fs)

  -- ---- all rows

  -- the rows, from this line on, add the points and then the faces
  pub rows_add : (places : decimals ≤ DECIMALS_MAX) (points : List Point) (faces : List (List ℕ)) (n : ℕ)
      → ((p : Point) → PointAdds (length faces) p) → ((a b c : ℕ) → IsCorner a → IsCorner b → IsCorner c → FaceAdds a b c)
      → length points ≤ VERTICES_MAX → AllByRecursion (λ f. length f ≡ 3) faces → no_vertex_from (length points) 1 faces ≡ None
      → lines_add words_add (at (length points) (length faces) nothing) (numbered_lines n (flat_map (λ p. line_of_words (point_words decimals (position_of p))) points ++ flat_map (λ c. line_of_words (face_words c)) faces))
      ≡ Ok (at 0 0 (record { points = map position_of points; faces = faces }))
  rows_add places points faces n point_adds face_adds few_points sizes corners =
      let v = length points in
      let f = length faces in
      let placed : Lists = record { points = map position_of points; faces = [] } in
      let faces_text = flat_map (λ c. line_of_words (face_words c)) faces in
      items_add words_add (point_first places f point_adds) (point_others places f point_adds) (at_points places f point_adds) with_point points (each_point_adds places f point_adds points) nothing n faces_text
      ∙ ap (λ (l : Lists). lines_add words_add (at 0 f l) (numbered_lines (n + v) faces_text)) (points_after places f point_adds nothing points)
      ∙ ap (λ (t : List ℕ). lines_add words_add (at 0 f placed) (numbered_lines (n + v) t)) (sym (append-nil faces_text))
      ∙ items_add words_add (λ c. codes "3") (face_others face_adds) (at_faces face_adds) with_face faces (each_face_adds face_adds v few_points 1 faces sizes corners) placed (n + v) []
      ∙ ap (λ (l : Lists). Ok (at 0 0 l)) (faces_after face_adds placed faces)
