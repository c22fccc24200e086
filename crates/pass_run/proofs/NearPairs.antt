-- A pass over pairs of edges loses nothing where it leaves out those that are not near.
use Rattle.std.proofs.Common.{Bool, true, false, cond, ◌≡◌, ℕ, ◌+◌, ◌*◌, ◌<◌, ◌&&◌, not, int_le, List, [], ◌∷◌, ◌++◌, refl, ap, sym, ◌∙◌, subst, map, length, drop, get_or, Option, Some, None}
use Rattle.std.specs.List.{filter, flat_map}
use Rattle.std.specs.Option.{option_map_or}
use Rattle.grid_base.specs.Triples.{minus}
use Rattle.mesh_base.specs.Mesh.{Mesh}
use Rattle.mesh_base.specs.Pairs.{edges}
use Rattle.edit_base.specs.declared.answers.Why.{Why}
use Rattle.edit_base.specs.declared.answers.Change.{Change}
use Rattle.edit_base.specs.declared.answers.Change.TheVariants.{Zip}
use Rattle.edit_base.specs.declared.Asked.{Asked}
use Rattle.edit_base.specs.declared.Edit.TheVariants.{Done, No}
use Rattle.edit_base.specs.declared.PassKind.{PassKind}
use Rattle.edit_base.specs.declared.PassKind.TheVariants as kinds
use Rattle.edit_base.specs.Clauses.{mesh_after}
use Rattle.edit_any.specs.Dispatch.{edited}
use Rattle.edit_zip.specs.Answer.{is_zip_ready}
use Rattle.edit_base.specs.Edges.{Edge, edge_of, without_faces, exact_mid}
use Rattle.edit_zip.specs.Zip.{zip_mesh, two_faces, first_rim, second_rim, turns}
use Rattle.edit_acts.proofs.Changed.{points-with_faces, points-without_faces}
use Rattle.log_text.specs.declared.LogLine.{LogLine}
use Rattle.std.proofs.lemmas.Bool.{not-false}
use Rattle.edit_zip.specs.Zip.{square}
use Rattle.pass_run.specs.Candidates.{candidates, is_due, zip_of, with_later, squared}
use Rattle.pass_run.specs.MidpointCells.{share_an_end}
use Rattle.pass_run.specs.Near.{is_near, may_be_due, near_zips}
use Rattle.pass_run.proofs.EndShared.{shared_not_ready}
use Rattle.log_replay.specs.Replay.{at_mesh, mesh_after_lines}
use Rattle.pass_run.specs.PassLines.{PassRules, exactly, answer_by, lines_asked, mesh_asked, lines_of, mesh_from, ends, lines_from, mesh_after_all}
use Rattle.pass_run.specs.declared.terms.PassTerms.{PassTerms}
use Rattle.pass_run.specs.Said.{LeadTo}
use Rattle.pass_run.proofs.FarApart.{far_apart}
use Rattle.pass_run.proofs.Asking.{lines_make, leads_there, lines_then, next_one}

-- ---- what is never due
module _ (rules : PassRules) {X : Type 0} (ask : X → Asked) (Keeps : Mesh → Type 0) (p : X → Bool)
    (stays : (m : Mesh) (x : X) → Keeps m → Keeps (mesh_from rules m (ask x)))
    (never : (m : Mesh) (x : X) → Keeps m → p x ≡ false → rules.choice m (ask x) ≡ None) where
  abbrev lines : Mesh → List Asked → List LogLine
  lines m all = lines_from rules m all

  -- leaving it out changes no line
  pub lines_of_due : (m : Mesh) → Keeps m → (xs : List X) → lines_from rules m (map ask xs) ≡ lines_from rules m (map ask (filter p xs))
  lines_of_due m keeps [] = refl
  lines_of_due m keeps (x ∷ xs) = by_test (p x) refl (λ n k. lines_of_due n k xs)
    where
      nothing : (b : Bool) → cond (b && false) [] (lines m (map ask xs)) ≡ lines m (map ask xs)
      nothing true = refl
      nothing false = refl

      by_test : (b : Bool) → p x ≡ b → ((n : Mesh) → Keeps n → lines n (map ask xs) ≡ lines n (map ask (filter p xs)))
          → lines m (ask x ∷ map ask xs) ≡ lines m (map ask (cond b (x ∷ filter p xs) (filter p xs)))
      by_test true e rest = ap (λ l. lines_of rules m (ask x) ++ cond (ends rules.grouped (lines_of rules m (ask x))) [] l) (rest (mesh_from rules m (ask x)) (stays m x keeps))
      by_test false e rest = skipped (rules.choice m (ask x)) (never m x keeps e)
        where
          skipped : (call : Option Asked) → call ≡ None →
              (let here = lines_asked (answer_by rules m) call in
              here ++ cond (ends rules.grouped here) [] (lines (mesh_asked (answer_by rules m) m call) (map ask xs))) ≡ lines m (map ask (filter p xs))
          skipped None h = nothing rules.grouped ∙ rest m keeps
          skipped (Some what) h = cc

-- ---- a zip moves nothing
zip_mesh_points : (m : Mesh) (s t : Edge) (turn : ℕ) → (zip_mesh m s t turn).points ≡ m.points
zip_mesh_points m s t turn = points-with_faces (without_faces m (s.left_face ∷ s.right_face ∷ t.left_face ∷ t.right_face ∷ [])) (flat_map (λ i. two_faces (first_rim s) (second_rim t) turn i) turns) ∙ points-without_faces m (s.left_face ∷ s.right_face ∷ t.left_face ∷ t.right_face ∷ [])

left_points : (m : Mesh) (reason : Option Why) (turn : Option ℕ) (make : ℕ → Change) (otherwise : Why) → ((k : ℕ) → (edited m (make k)).points ≡ m.points)
    → (mesh_after edited m (option_map_or (λ why. No why) reason (option_map_or (λ k. Done (make k)) turn (No otherwise)))).points ≡ m.points
left_points m (Some why) turn make otherwise same = refl
left_points m None None make otherwise same = refl
left_points m None (Some k) make otherwise same = same k

pub zip_keeps_points : (rules : PassRules) (m : Mesh) (e f : ℕ × ℕ) → (mesh_after edited m (answer_by rules m (zip_of e f))).points ≡ m.points
zip_keeps_points rules m e f = left_points m _ _ (λ turn. Zip (edge_of m e.0 e.1).a (edge_of m e.0 e.1).b (edge_of m f.0 f.1).a (edge_of m f.0 f.1).b turn) _ (λ k. zip_mesh_points m (again e) (again f) k)
  where
    again : ℕ × ℕ → Edge
    again g = edge_of m (edge_of m g.0 g.1).a (edge_of m g.0 g.1).b

one_keeps_points : (terms : PassTerms) (m : Mesh) (e f : ℕ × ℕ) → (mesh_from (exactly terms) m (zip_of e f)).points ≡ m.points
one_keeps_points terms m e f = by_test (is_due m terms.kind (zip_of e f))
  where
    by_test : (b : Bool) → (mesh_asked (answer_by (exactly terms) m) m (cond b (Some (zip_of e f)) None)).points ≡ m.points
    by_test true = zip_keeps_points (exactly terms) m e f
    by_test false = refl

pub all_keep_points : (terms : PassTerms) (m : Mesh) (e : ℕ × ℕ) (fs : List (ℕ × ℕ)) → (mesh_after_all (exactly terms) m (map (zip_of e) fs)).points ≡ m.points
all_keep_points terms m e [] = refl
all_keep_points terms m e (f ∷ fs) = by_test (ends terms.grouped (lines_of (exactly terms) m (zip_of e f))) (all_keep_points terms next e fs)
  where
    next : Mesh
    next = mesh_from (exactly terms) m (zip_of e f)

    by_test : (b : Bool) → (mesh_after_all (exactly terms) next (map (zip_of e) fs)).points ≡ next.points → (cond b next (mesh_after_all (exactly terms) next (map (zip_of e) fs))).points ≡ m.points
    by_test true h = one_keeps_points terms m e f
    by_test false h = h ∙ one_keeps_points terms m e f

-- ---- near or not
near_by_points : (m n : Mesh) (within : ℕ) (e f : ℕ × ℕ) → n.points ≡ m.points → may_be_due n within e f ≡ may_be_due m within e f
near_by_points m n within e f same = ap (λ ps. may_be_due (record m { points = ps }) within e f) same

off_is_not_due : (terms : PassTerms) (within : ℕ) → terms.kind ≡ kinds.Zip within → (m : Mesh) (e f : ℕ × ℕ) → is_near m within e f ≡ false → is_due m terms.kind (zip_of e f) ≡ false
off_is_not_due terms within zips m e f off =
    ap (λ k. is_due m k (zip_of e f)) zips
    ∙ and_false (is_zip_ready m e.0 e.1 f.0 f.1) (far_apart (minus (exact_mid m e.0 e.1) (exact_mid m f.0 f.1)) (2 * within) off)
  where
    and_false : (a : Bool) {b : Bool} → b ≡ false → (a && b) ≡ false
    and_false true h = h
    and_false false h = refl

-- ---- the pairs of one edge, and then those of the others
first_then : (e : ℕ × ℕ) (es : List (ℕ × ℕ)) (rest : List ((ℕ × ℕ) × (ℕ × ℕ))) → map (λ p. zip_of p.0 p.1) (map (λ f. (e, f)) es ++ rest) ≡ map (zip_of e) es ++ map (λ p. zip_of p.0 p.1) rest
first_then e [] rest = refl
first_then e (f ∷ es) rest = ap (λ l. zip_of e f ∷ l) (first_then e es rest)

-- what is left to ask of pairs of these edges
abbrev pub pairs_left : PassRules → Mesh → List (ℕ × ℕ) → List LogLine
pairs_left rules m es = lines_from rules m (map (λ p. zip_of p.0 p.1) (with_later es))

-- what is not near, or shares an end, is never asked in a pass that zips
never_due : (terms : PassTerms) (within : ℕ) → terms.kind ≡ kinds.Zip within → (m : Mesh) (e f : ℕ × ℕ) → may_be_due m within e f ≡ false → is_due m terms.kind (zip_of e f) ≡ false
never_due terms within zips m e f off = by_test (is_near m within e f) refl off
  where
    by_test : (b : Bool) → is_near m within e f ≡ b → (b && not (share_an_end e f)) ≡ false → is_due m terms.kind (zip_of e f) ≡ false
    by_test false near h = off_is_not_due terms within zips m e f near
    by_test true near h =
        ap (λ k. is_due m k (zip_of e f)) zips
        ∙ ap (λ b. b && int_le (square (minus (exact_mid m e.0 e.1) (exact_mid m f.0 f.1))) (squared (2 * within))) (shared_not_ready m e f (not-false (share_an_end e f) h))

never_asked : (terms : PassTerms) (within : ℕ) → terms.kind ≡ kinds.Zip within → (m : Mesh) (e f : ℕ × ℕ) → may_be_due m within e f ≡ false → (exactly terms).choice m (zip_of e f) ≡ None
never_asked terms within zips m e f off = ap (λ b. cond b (Some (zip_of e f)) None) (never_due terms within zips m e f off)

module _ (terms : PassTerms) (within : ℕ) (zips : terms.kind ≡ kinds.Zip within) where
  abbrev rules : PassRules
  rules = exactly terms

  near_lines : (m : Mesh) (e : ℕ × ℕ) (es : List (ℕ × ℕ)) → lines_from rules m (map (zip_of e) es) ≡ lines_from rules m (near_zips m within e es)
  near_lines m e es = lines_of_due rules (zip_of e) (λ n. n.points ≡ m.points) (may_be_due m within e)
      (λ n f same. one_keeps_points terms n e f ∙ same)
      (λ n f same off. never_asked terms within zips n e f (near_by_points m n within e f same ∙ off))
      m refl es

  -- the lines of its near pairs, and then those of the later edges
  pairs_next : (m : Mesh) (items : List (ℕ × ℕ)) (i : ℕ) (e : ℕ × ℕ) → i < length items → e ≡ get_or items i e → (let here = lines_from rules m (near_zips m within e (drop (i + 1) items)) in
      pairs_left rules m (drop i items) ≡ here ++ cond (ends rules.grouped here) [] (pairs_left rules (mesh_after_lines m here) (drop (i + 1) items)))
  pairs_next m items i e inside at =
      let es = drop (i + 1) items in
      let later = map (λ p. zip_of p.0 p.1) (with_later es) in
      ap (pairs_left rules m) (next_one items i e inside at)
      ∙ ap (lines_from rules m) (first_then e es (with_later es))
      ∙ lines_then rules m (map (zip_of e) es) later
      ∙ ap (λ n. lines_from rules m (map (zip_of e) es) ++ cond (ends rules.grouped (lines_from rules m (map (zip_of e) es))) [] (lines_from rules n later)) (sym (ap (λ r. r.mesh) (lines_make rules (at_mesh m) (map (zip_of e) es))))
      ∙ ap (λ l. l ++ cond (ends rules.grouped l) [] (lines_from rules (mesh_after_lines m l) later)) (near_lines m e es)

  -- the same of a list of them
  pub pairs_here : (m : Mesh) (items : List (ℕ × ℕ)) (i : ℕ) (e : ℕ × ℕ) → i < length items → e ≡ get_or items i e → (all : List Asked) → all ≡ near_zips m within e (drop (i + 1) items) → (let here = lines_from rules m all in
      pairs_left rules m (drop i items) ≡ here ++ cond (ends rules.grouped here) [] (pairs_left rules (mesh_after_lines m here) (drop (i + 1) items)))
  pairs_here m items i e inside at all is =
      let P : List Asked → Type 0 = λ l. pairs_left rules m (drop i items) ≡ lines_from rules m l
      ++ cond (ends rules.grouped (lines_from rules m l)) [] (pairs_left rules (mesh_after_lines m (lines_from rules m l)) (drop (i + 1) items)) in
      subst P (sym is) (pairs_next m items i e inside at)

-- and its points stay
pub points_stay : (terms : PassTerms) (within : ℕ) (m next : Mesh) (items : List (ℕ × ℕ)) (e : ℕ × ℕ) (all : List Asked) → all ≡ near_zips m within e items → LeadTo (lines_from (exactly terms) m all) m next → next.points ≡ m.points
points_stay terms within m next items e all is leads =
    ap (λ n. n.points) (leads_there m (mesh_after_all (exactly terms) m all) (lines_from (exactly terms) m all) next (lines_make (exactly terms) (at_mesh m) all) leads)
    ∙ ap (λ l. (mesh_after_all (exactly terms) m l).points) is
    ∙ all_keep_points terms m e (filter (may_be_due m within e) items)

-- all pairs are left
pub all_pairs_left : (rules : PassRules) (kind : PassKind) (within : ℕ) → kind ≡ kinds.Zip within → (m : Mesh) (items : List (ℕ × ℕ)) → items ≡ edges m → pairs_left rules m items ≡ lines_from rules m (candidates m kind)
all_pairs_left rules kind within zips m items all = ap (pairs_left rules m) all ∙ ap (λ k. lines_from rules m (candidates m k)) (sym zips)
