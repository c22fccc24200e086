-- Each line is read exactly from its words.
use Rattle.std.proofs.Common.{◌≡◌, ℕ, ◌<◌, ◌≤◌, ◌^◌, ◌==◌, Bool, true, false, List, [], ◌∷◌, length, Option, Some, None, Result, Ok, Err, refl, sym, ap, subst, ◌∙◌, arith, lit<}
use Rattle.std.specs.Prelude.{decimal, codes, if◌then◌else◌}
use Rattle.std.proofs.lemmas.Bool.{eqb-true, eq-eqb}
use Rattle.grid_base.specs.declared.TheConstants.{ID_MAX, HALVINGS_MAX}
use Rattle.line_text.specs.declared.TextWhy.{TextWhy}
use Rattle.line_text.specs.declared.TextWhy.TheVariants as why
use Rattle.line_text.specs.Faults.{◌>>=◌}
use Rattle.mesh_base.specs.declared.FileWord.{FileWord}
use Rattle.mesh_base.specs.declared.How.{How}
use Rattle.mesh_base.specs.declared.How.TheVariants.{Whole, Impulse, Zones, Halved, Zero}
use Rattle.mesh_base.specs.declared.Scale.{Scale}
use Rattle.mesh_base.specs.declared.ShapeFault.{ShapeFault}
use Rattle.mesh_base.specs.declared.ShapeFault.TheVariants as shape
use Rattle.mesh_base.specs.declared.UseWhy.{UseWhy}
use Rattle.mesh_base.specs.declared.UseWhy.TheVariants as using
use Rattle.mesh_base.specs.Limits.{limits_of}
use Rattle.log_text.specs.declared.TheConstants.{COUNT_MAX, SEEN_MAX, CORNER_MAX, PASSES_MAX, IDS_VERSION}
use Rattle.log_text.specs.declared.LogLine.{LogLine}
use Rattle.log_text.specs.declared.LogLine.TheVariants as line
use Rattle.log_text.specs.declared.Refusal.{Refusal}
use Rattle.log_text.specs.declared.Refusal.TheVariants as refusal
use Rattle.line_text.specs.Spellings.{spelled_number, spelled_from, spelled_at, count_with_end}
use Rattle.log_read.specs.Fields.{Reader, both}
use Rattle.log_text.specs.Lines.{line_words, file_word, kept_word, how_words, shape_words, use_words, refusal_words}
use Rattle.log_read.specs.Values.{is_later, whole, without_more_words, shift_of_at}
use Rattle.log_read.specs.Reading.{rounds_most, first_of, mesh_of, step_of, hit_of, move_of, moved_of, or_unknown, file_of, refused, long_of, missing_of, shape_of, use_numbers, use_line, why_of_use, use_of, refused_of, solid_of, close_of, plain_of, line_of}
use Rattle.log_read.specs.EditLines.{edit_of}
use Rattle.edit_base.specs.declared.Change.TheVariants as change
use Rattle.log_read.specs.Laws.{IsFrom, IsHowInRange, IsShapeInRange, IsWhyOf, IsFileOfVersion, IsUseInRange, IsRefusalInRange, IsInRange, IsUseOfVersion, IsRefusalOfVersion, IsOfVersion}
use Rattle.line_text.proofs.ReadSteps.{bound, ok_same, picked, picked_if, fault_value}
use Rattle.log_read.proofs.LineForms.{IsSpelling, again, spelled, alone_again, alone_spelled, number_of, one_again, one_spelled, Two, two_again, two_spelled, pair_again, pair_spelled, fault_again, fault_spelled}
use Rattle.log_read.proofs.EditLineSpellings.{pass_again, fit_again, split_again, flip_again, collapse_again, zip_again, no_again, block_again, new_ids_again, pinch_again, edit_back, block_back, new_ids_back, pinch_back}
use Rattle.log_read.proofs.Scales.{small_vertices, small_faces, small_rounds}
use Rattle.log_read.proofs.Exactness.{IsExact, count_with_end-length, count_with_end-of_read, word_number-decimal, word_number-some}
use Rattle.log_read.proofs.Spellings.{three_numbers, shift_of_at-exact, shift_of_words, file_of-word, file_of-some}

-- ---- what is printed is read

use_again : (make : ℕ → UseWhy) (at v : ℕ) → IsFrom 1 COUNT_MAX at → IsFrom 1 ID_MAX v → (use_numbers true (decimal at) (decimal v ∷ []) >>= λ n. refused (refusal.StepUse n.0 (make n.1))) ≡ Ok (line.Refused (refusal.StepUse at (make v)))
unfolding use_numbers
use_again make at v a b =
    let c = count_with_end-length 1 (decimal v ∷ []) refl in
    let n = word_number-decimal 1 COUNT_MAX at a.0 a.1 (lit< tt) in
    let m = (number_of 1 ID_MAX (lit< tt)).of_written v [] b in
    rw (c, n, m) refl

field_again : (at : ℕ) → IsFrom 1 COUNT_MAX at → (use_line true (decimal at) [] >>= λ n. refused (refusal.StepUse n using.NoField)) ≡ Ok (line.Refused (refusal.StepUse at using.NoField))
unfolding use_line
field_again at a =
    let c = count_with_end-length 0 [] refl in
    let n = word_number-decimal 1 COUNT_MAX at a.0 a.1 (lit< tt) in
    rw (c, n) refl

moved_again : (scale : Scale) (how : How) → IsHowInRange scale how → moved_of scale true (how_words how) ≡ Ok (line.Moved how)
unfolding moved_of
moved_again scale Whole r = alone_again (line.Moved Whole)
moved_again scale (Impulse n) r = one_again 1 PASSES_MAX (lit< tt) (λ n. line.Moved (Impulse n)) n r
moved_again scale (Zones n) r = one_again 1 (rounds_most scale) (small_rounds scale) (λ n. line.Moved (Zones n)) n r
moved_again scale (Halved n) r = one_again 1 HALVINGS_MAX (lit< tt) (λ n. line.Moved (Halved n)) n r
moved_again scale Zero r = alone_again (line.Moved Zero)

shape_again : (fault : ShapeFault) → IsShapeInRange fault → shape_of true (shape_words fault) ≡ Ok (line.Refused (refusal.Shape fault))
unfolding shape_of
shape_again (shape.TooManyVertices n) r = one_again 0 SEEN_MAX (lit< tt) (λ n. line.Refused (refusal.Shape (shape.TooManyVertices n))) n (omega arith, r)
shape_again (shape.TooManyFaces n) r = one_again 0 SEEN_MAX (lit< tt) (λ n. line.Refused (refusal.Shape (shape.TooManyFaces n))) n (omega arith, r)
shape_again (shape.NoVertex face corner) r = two_again 1 COUNT_MAX 1 CORNER_MAX (lit< tt) (lit< tt) (λ n. line.Refused (refusal.Shape (shape.NoVertex n.0 n.1))) (face, corner) r
shape_again (shape.Repeated face) r = one_again 1 COUNT_MAX (lit< tt) (λ n. line.Refused (refusal.Shape (shape.Repeated n))) face r
shape_again (shape.Doubled first second) r = two_again 1 COUNT_MAX 1 COUNT_MAX (lit< tt) (lit< tt) (λ n. line.Refused (refusal.Shape (shape.Doubled n.0 n.1))) (first, second) r
shape_again (shape.Unbalanced from to) r = two_again 1 COUNT_MAX 1 COUNT_MAX (lit< tt) (lit< tt) (λ n. line.Refused (refusal.Shape (shape.Unbalanced n.0 n.1))) (from, to) r

long_again : (version : ℕ) (name : FileWord) (seen : ℕ) → seen ≤ SEEN_MAX → IsFileOfVersion version name → long_of version true (file_word name ∷ decimal seen ∷ []) ≡ Ok (line.Refused (refusal.Long name seen))
unfolding long_of
long_again version name seen r o = rw (file_of-word version name o) (one_again 0 SEEN_MAX (lit< tt) (λ n. line.Refused (refusal.Long name n)) seen (omega arith, r))

missing_again : (version : ℕ) (name : FileWord) → IsFileOfVersion version name → missing_of version true (file_word name ∷ []) ≡ Ok (line.Refused (refusal.Missing name))
unfolding missing_of
missing_again version name o = rw (file_of-word version name o) (alone_again (line.Refused (refusal.Missing name)))

used_again : (version at : ℕ) (w : UseWhy) → IsRefusalInRange (refusal.StepUse at w) → IsUseOfVersion version w → use_of version true (decimal at ∷ use_words w) ≡ Ok (line.Refused (refusal.StepUse at w))
unfolding use_of why_of_use
used_again version at (using.NoVertex v) r o = use_again using.NoVertex at v r.0 r.1
used_again version at (using.ShiftRange v) r o = use_again using.ShiftRange at v r.0 r.1
used_again version at (using.Box v) r o = use_again using.Box at v r.0 r.1
used_again version at using.NoField r o = field_again at r.0
used_again version at (using.Solid v) r o = rw o (use_again using.Solid at v r.0 r.1)

refused_again : (version : ℕ) (w : Refusal) → IsRefusalInRange w → IsRefusalOfVersion version w → refused_of version true (refusal_words w) ≡ Ok (line.Refused w)
unfolding refused_of
refused_again version (refusal.Long name seen) r o = long_again version name seen r o
refused_again version (refusal.Missing name) r o = missing_again version name o
refused_again version (refusal.Mesh fault) r o = fault_again false (λ f. line.Refused (refusal.Mesh f)) fault r
refused_again version (refusal.Shape fault) r o = shape_again fault r
refused_again version (refusal.Meets pair) r o = pair_again (λ p. line.Refused (refusal.Meets p)) pair r
refused_again version (refusal.Steps fault) r o = fault_again (is_later version) (λ f. line.Refused (refusal.Steps f)) fault (r.0, o)
refused_again version (refusal.StepUse at w) r o = used_again version at w r o

solid_again : (v : ℕ) → IsFrom 1 ID_MAX v → solid_of true (decimal v ∷ []) ≡ Ok (line.Solid v)
unfolding solid_of
solid_again v r = one_again 1 ID_MAX (lit< tt) line.Solid v r

close_again : (kept : Bool) → close_of true (kept_word kept ∷ []) ≡ Ok (line.Close kept)
unfolding close_of
close_again true = alone_again (line.Close true)
close_again false = alone_again (line.Close false)

abbrev Three : Type 0
Three = ℕ × (ℕ × ℕ)

abbrev three : Three → List (List ℕ)
three p = decimal p.0 ∷ decimal p.1.0 ∷ decimal p.1.1 ∷ []

abbrev MeshFits : Scale → Three → Type 0
MeshFits scale p = IsFrom 0 COUNT_MAX p.0 × (IsFrom 0 (limits_of scale).vertices p.1.0 × IsFrom 0 (limits_of scale).faces p.1.1)

abbrev mesh_reader : Scale → Reader Three
mesh_reader scale = both (spelled_at 0 COUNT_MAX) (both (spelled_at 0 (limits_of scale).vertices) (spelled_at 0 (limits_of scale).faces))

mesh_exact : (scale : Scale) → IsExact (mesh_reader scale) three (MeshFits scale)
mesh_exact scale = three_numbers 0 COUNT_MAX 0 (limits_of scale).vertices 0 (limits_of scale).faces (lit< tt) (small_vertices scale) (small_faces scale)

abbrev mesh_made : Three → LogLine
mesh_made p = line.Mesh p.0 p.1.0 p.1.1

mesh_again : (scale : Scale) (k v f : ℕ) → IsInRange scale (line.Mesh k v f) → mesh_of scale true (decimal k ∷ decimal v ∷ decimal f ∷ []) ≡ Ok (line.Mesh k v f)
unfolding mesh_of
mesh_again scale k v f r = again (mesh_reader scale) three (MeshFits scale) (mesh_exact scale) 3 (λ p. refl) mesh_made (k, (v, f)) ((omega arith, r.0), ((omega arith, r.1), (omega arith, r.2)))

-- the words of a line in range are read as the line
pub printed_is_read : (scale : Scale) (version : ℕ) → version < 2 ^ 8 → (l : LogLine) → IsInRange scale l → IsOfVersion version l → line_of scale version true (line_words l) ≡ Ok l
unfolding line_of plain_of first_of step_of hit_of move_of edit_of
printed_is_read scale version small (line.First v) r e = one_again version version (omega arith) line.First v (omega (arith, e), omega (arith, e))
printed_is_read scale version small (line.Mesh k v f) r e = mesh_again scale k v f r
printed_is_read scale version small (line.Step k) r e = one_again 1 COUNT_MAX (lit< tt) line.Step k r
printed_is_read scale version small (line.Hit pair) r e = pair_again line.Hit pair r
printed_is_read scale version small (line.Block ids) r e = block_again ids r
printed_is_read scale version small (line.Move s) r e = again shift_of_at shift_of_words (λ s. IsFrom 1 ID_MAX s.v) shift_of_at-exact 4 (λ s. refl) line.Move s r
printed_is_read scale version small (line.Moved how) r e = moved_again scale how r
printed_is_read scale version small (line.Pass kind) r e = pass_again version kind r
printed_is_read scale version small line.PassFit r e = fit_again version e
printed_is_read scale version small (line.Did (change.Split a b w at)) r e = split_again a b w at r
printed_is_read scale version small (line.Did (change.Flip a b)) r e = flip_again a b r
printed_is_read scale version small (line.Did (change.Collapse a b at)) r e = collapse_again a b at r
printed_is_read scale version small (line.Did (change.Zip a b e f turn)) r h = zip_again a b e f turn r
printed_is_read scale version small (line.Did (change.Pinch v at copies)) r e = pinch_again v at copies r
printed_is_read scale version small (line.No what w) r e = no_again version what w (r.0, (r.1, e))
printed_is_read scale version small (line.Refused w) r e = refused_again version w r e
printed_is_read scale version small (line.Vertices new) r e = rw (eq-eqb version IDS_VERSION e, new_ids_again new r) refl
printed_is_read scale version small (line.Faces new) r e = rw (eq-eqb version IDS_VERSION e, new_ids_again new r) refl
printed_is_read scale version small (line.Solid v) r e = rw e (solid_again v r)
printed_is_read scale version small line.Group r e = rw e (alone_again line.Group)
printed_is_read scale version small (line.Close kept) r e = rw e (close_again kept)
printed_is_read scale version small line.End r e = alone_again line.End

-- ---- what is read is spelled so

first_back : (scale : Scale) (version : ℕ) → version < 2 ^ 8 → (ended : Bool) (words : List (List ℕ)) (l : LogLine) → first_of version ended words ≡ Ok l → IsSpelling scale version ended (codes "topo" ∷ words) l
unfolding first_of
first_back scale version small ended [] l h = fault_value why.Short l h
first_back scale version small ended (name ∷ words) l h = picked (λ w. IsSpelling scale version ended (codes "topo" ∷ w ∷ words) l) name (codes "log") _ _ (Ok l) (one_spelled scale version version version (omega (arith, small)) line.First (codes "topo" ∷ codes "log" ∷ []) (λ v r. (refl, tt, omega (arith, r))) ended words l) (fault_value why.Unknown l) h

moved_back : (scale : Scale) (version : ℕ) (ended : Bool) (words : List (List ℕ)) (l : LogLine) → moved_of scale ended words ≡ Ok l → IsSpelling scale version ended (codes "moved" ∷ words) l
unfolding moved_of
moved_back scale version ended [] l h = fault_value why.Short l h
moved_back scale version ended (how ∷ words) l h =
    let P : List ℕ → Type 0 = λ w. IsSpelling scale version ended (codes "moved" ∷ w ∷ words) l in
    picked P how (codes "whole") _ _ (Ok l) (alone_spelled scale version (codes "moved" ∷ codes "whole" ∷ []) ended (line.Moved Whole) words l refl tt tt)
    (picked P how (codes "impulse") _ _ (Ok l) (one_spelled scale version 1 PASSES_MAX (lit< tt) (λ n. line.Moved (Impulse n)) (codes "moved" ∷ codes "impulse" ∷ []) (λ n r. (refl, r, tt)) ended words l)
    (picked P how (codes "zones") _ _ (Ok l) (one_spelled scale version 1 (rounds_most scale) (small_rounds scale) (λ n. line.Moved (Zones n)) (codes "moved" ∷ codes "zones" ∷ []) (λ n r. (refl, r, tt)) ended words l)
    (picked P how (codes "halved") _ _ (Ok l) (one_spelled scale version 1 HALVINGS_MAX (lit< tt) (λ n. line.Moved (Halved n)) (codes "moved" ∷ codes "halved" ∷ []) (λ n r. (refl, r, tt)) ended words l)
    (picked P how (codes "zero") _ _ (Ok l) (alone_spelled scale version (codes "moved" ∷ codes "zero" ∷ []) ended (line.Moved Zero) words l refl tt tt)
    (fault_value why.Unknown l)))))
    h

or_unknown-some : {A : Type 0} (o : Option A) (a : A) → or_unknown o ≡ Ok a → o ≡ Some a
or_unknown-some None a h = fault_value why.Unknown a h
or_unknown-some (Some b) a h = ap Some (ok_same b a h)

long_back : (scale : Scale) (version : ℕ) (ended : Bool) (words : List (List ℕ)) (l : LogLine) → long_of version ended words ≡ Ok l → IsSpelling scale version ended (codes "refused" ∷ codes "long" ∷ words) l
unfolding long_of
long_back scale version ended [] l h = fault_value why.Short l h
long_back scale version ended (word ∷ words) l h =
    let b = bound (or_unknown (file_of version word)) (λ (name : FileWord). whole ended 1 (spelled_at 0 SEEN_MAX) words >>= λ seen. refused (refusal.Long name seen)) l h in
    let named = file_of-some version word b.value (or_unknown-some (file_of version word) b.value b.first) in
    subst (λ (w : List ℕ). IsSpelling scale version ended (codes "refused" ∷ codes "long" ∷ w ∷ words) l) (sym named.0)
    (one_spelled scale version 0 SEEN_MAX (lit< tt) (λ n. line.Refused (refusal.Long b.value n)) (codes "refused" ∷ codes "long" ∷ file_word b.value ∷ []) (λ n r. (refl, r.1, named.1)) ended words l b.after)

missing_back : (scale : Scale) (version : ℕ) (ended : Bool) (words : List (List ℕ)) (l : LogLine) → missing_of version ended words ≡ Ok l → IsSpelling scale version ended (codes "refused" ∷ codes "missing" ∷ words) l
unfolding missing_of
missing_back scale version ended [] l h = fault_value why.Short l h
missing_back scale version ended (word ∷ words) l h =
    let b = bound (or_unknown (file_of version word)) (λ (name : FileWord). without_more_words ended (line.Refused (refusal.Missing name)) words) l h in
    let named = file_of-some version word b.value (or_unknown-some (file_of version word) b.value b.first) in
    subst (λ (w : List ℕ). IsSpelling scale version ended (codes "refused" ∷ codes "missing" ∷ w ∷ words) l) (sym named.0)
    (alone_spelled scale version (codes "refused" ∷ codes "missing" ∷ file_word b.value ∷ []) ended (line.Refused (refusal.Missing b.value)) words l refl tt named.1 b.after)

shape_back : (scale : Scale) (version : ℕ) (ended : Bool) (words : List (List ℕ)) (l : LogLine) → shape_of ended words ≡ Ok l → IsSpelling scale version ended (codes "refused" ∷ codes "shape" ∷ words) l
unfolding shape_of
shape_back scale version ended [] l h = fault_value why.Short l h
shape_back scale version ended (word ∷ words) l h =
    let P : List ℕ → Type 0 = λ w. IsSpelling scale version ended (codes "refused" ∷ codes "shape" ∷ w ∷ words) l in
    let front : List ℕ → List (List ℕ) = λ w. codes "refused" ∷ codes "shape" ∷ w ∷ [] in
    picked P word (codes "vertices") _ _ (Ok l) (one_spelled scale version 0 SEEN_MAX (lit< tt) (λ n. line.Refused (refusal.Shape (shape.TooManyVertices n))) (front (codes "vertices")) (λ n r. (refl, r.1, tt)) ended words l)
    (picked P word (codes "faces") _ _ (Ok l) (one_spelled scale version 0 SEEN_MAX (lit< tt) (λ n. line.Refused (refusal.Shape (shape.TooManyFaces n))) (front (codes "faces")) (λ n r. (refl, r.1, tt)) ended words l)
    (picked P word (codes "corner") _ _ (Ok l) (two_spelled scale version 1 COUNT_MAX 1 CORNER_MAX (lit< tt) (lit< tt) (λ n. line.Refused (refusal.Shape (shape.NoVertex n.0 n.1))) (front (codes "corner")) (λ n r. (refl, r, tt)) ended words l)
    (picked P word (codes "repeated") _ _ (Ok l) (one_spelled scale version 1 COUNT_MAX (lit< tt) (λ n. line.Refused (refusal.Shape (shape.Repeated n))) (front (codes "repeated")) (λ n r. (refl, r, tt)) ended words l)
    (picked P word (codes "doubled") _ _ (Ok l) (two_spelled scale version 1 COUNT_MAX 1 COUNT_MAX (lit< tt) (lit< tt) (λ n. line.Refused (refusal.Shape (shape.Doubled n.0 n.1))) (front (codes "doubled")) (λ n r. (refl, r, tt)) ended words l)
    (picked P word (codes "unbalanced") _ _ (Ok l) (two_spelled scale version 1 COUNT_MAX 1 COUNT_MAX (lit< tt) (lit< tt) (λ n. line.Refused (refusal.Shape (shape.Unbalanced n.0 n.1))) (front (codes "unbalanced")) (λ n r. (refl, r, tt)) ended words l)
    (fault_value why.Unknown l))))))
    h

-- the words of a refused directive, whose line's number stands before the reason
record UseSpelled (ended : Bool) (at : List ℕ) (words : List (List ℕ)) (n : Two) : Type 0 where
  has_end : ended ≡ true
  at_is : at ≡ decimal n.0
  words_are : words ≡ decimal n.1 ∷ []
  at_fits : IsFrom 1 COUNT_MAX n.0
  fits : IsFrom 1 ID_MAX n.1

nothing : (ws : List (List ℕ)) → length ws ≡ 0 → ws ≡ []
nothing [] e = refl
nothing (w ∷ ws) e = absurd (omega (arith, e))

use_numbers-of_read : (ended : Bool) (at : List ℕ) (words : List (List ℕ)) (n : Two) → use_numbers ended at words ≡ Ok n → UseSpelled ended at words n
unfolding use_numbers
use_numbers-of_read ended at words n h =
    let c = bound (count_with_end ended 1 words) (λ (u : Unit {0}). spelled_from 1 COUNT_MAX (spelled_number at) >>= λ number. spelled_at 1 ID_MAX words >>= λ v. Ok (number, v.0)) n h in
    let k = bound (spelled_from 1 COUNT_MAX (spelled_number at)) (λ (number : ℕ). spelled_at 1 ID_MAX words >>= λ v. Ok (number, v.0)) n c.after in
    let v = bound (spelled_at 1 ID_MAX words) (λ (v : ℕ × List (List ℕ)). Ok (k.value, v.0)) n k.after in
    let counted = count_with_end-of_read ended 1 words c.value c.first in
    let at_is = word_number-some 1 COUNT_MAX k.value at (lit< tt) k.first in
    let found = (number_of 1 ID_MAX (lit< tt)).of_read words v.value.0 v.value.1 v.first in
    let rest : v.value.1 ≡ [] = nothing v.value.1 (omega (arith, ap length found.0, counted.1)) in
    let here : UseSpelled ended at words (k.value, v.value.0) = record { has_end = counted.0; at_is = at_is.0; words_are = found.0 ∙ ap (λ (t : List (List ℕ)). decimal v.value.0 ∷ t) rest; at_fits = (at_is.1, at_is.2); fits = found.1 } in
    subst (UseSpelled ended at words) (ok_same (k.value, v.value.0) n v.after) here

use_spelled : (scale : Scale) (version : ℕ) (make : ℕ → UseWhy) (word : List ℕ) → ((v : ℕ) → use_words (make v) ≡ word ∷ decimal v ∷ []) → ((v : ℕ) → IsFrom 1 ID_MAX v → IsUseInRange (make v)) → ((v : ℕ) → IsUseOfVersion version (make v)) → (ended : Bool) (at : List ℕ) (words : List (List ℕ)) (l : LogLine) → (use_numbers ended at words >>= λ n. refused (refusal.StepUse n.0 (make n.1))) ≡ Ok l → IsSpelling scale version ended (codes "refused" ∷ codes "use" ∷ at ∷ word ∷ words) l
use_spelled scale version make word same fits of ended at words l h =
    let b = bound (use_numbers ended at words) (λ (n : Two). refused (refusal.StepUse n.0 (make n.1))) l h in
    let u = use_numbers-of_read ended at words b.value b.first in
    let ws : line_words (line.Refused (refusal.StepUse b.value.0 (make b.value.1))) ≡ codes "refused" ∷ codes "use" ∷ at ∷ word ∷ words =
    ap (λ (t : List (List ℕ)). codes "refused" ∷ codes "use" ∷ decimal b.value.0 ∷ t) (same b.value.1) ∙ ap (λ (t : List (List ℕ)). codes "refused" ∷ codes "use" ∷ decimal b.value.0 ∷ word ∷ t) (sym u.words_are) ∙ ap (λ (t : List ℕ). codes "refused" ∷ codes "use" ∷ t ∷ word ∷ words) (sym u.at_is) in
    let here : IsSpelling scale version ended (codes "refused" ∷ codes "use" ∷ at ∷ word ∷ words) (line.Refused (refusal.StepUse b.value.0 (make b.value.1))) = record { has_end = u.has_end; same = ws; fits = (u.at_fits, fits b.value.1 u.fits); of_version = of b.value.1 } in
    subst (IsSpelling scale version ended (codes "refused" ∷ codes "use" ∷ at ∷ word ∷ words)) (ok_same (line.Refused (refusal.StepUse b.value.0 (make b.value.1))) l b.after) here

field_spelled : (scale : Scale) (version : ℕ) (ended : Bool) (at : List ℕ) (words : List (List ℕ)) (l : LogLine) → (use_line ended at words >>= λ n. refused (refusal.StepUse n using.NoField)) ≡ Ok l → IsSpelling scale version ended (codes "refused" ∷ codes "use" ∷ at ∷ codes "field" ∷ words) l
unfolding use_line
field_spelled scale version ended at words l h =
    let b = bound (use_line ended at words) (λ (n : ℕ). refused (refusal.StepUse n using.NoField)) l h in
    let c = bound (count_with_end ended 0 words) (λ (u : Unit {0}). spelled_from 1 COUNT_MAX (spelled_number at)) b.value b.first in
    let counted = count_with_end-of_read ended 0 words c.value c.first in
    let at_is = word_number-some 1 COUNT_MAX b.value at (lit< tt) c.after in
    let none : words ≡ [] = nothing words counted.1 in
    let ws : line_words (line.Refused (refusal.StepUse b.value using.NoField)) ≡ codes "refused" ∷ codes "use" ∷ at ∷ codes "field" ∷ words =
    ap (λ (t : List (List ℕ)). codes "refused" ∷ codes "use" ∷ decimal b.value ∷ codes "field" ∷ t) (sym none) ∙ ap (λ (t : List ℕ). codes "refused" ∷ codes "use" ∷ t ∷ codes "field" ∷ words) (sym at_is.0) in
    let here : IsSpelling scale version ended (codes "refused" ∷ codes "use" ∷ at ∷ codes "field" ∷ words) (line.Refused (refusal.StepUse b.value using.NoField)) = record { has_end = counted.0; same = ws; fits = ((at_is.1, at_is.2), tt); of_version = tt } in
    subst (IsSpelling scale version ended (codes "refused" ∷ codes "use" ∷ at ∷ codes "field" ∷ words)) (ok_same (line.Refused (refusal.StepUse b.value using.NoField)) l b.after) here

misspelt : {P : Type 0} (ended : Bool) (l : LogLine) → ◌≡◌ {A = Result LogLine TextWhy} (if ended then Err why.Number else Err why.Short) (Ok l) → P
misspelt true l h = fault_value why.Number l h
misspelt false l h = fault_value why.Short l h

use_back : (scale : Scale) (version : ℕ) (ended : Bool) (words : List (List ℕ)) (l : LogLine) → use_of version ended words ≡ Ok l → IsSpelling scale version ended (codes "refused" ∷ codes "use" ∷ words) l
unfolding use_of why_of_use
use_back scale version ended [] l h = fault_value why.Short l h
use_back scale version ended (at ∷ []) l h = fault_value why.Short l h
use_back scale version ended (at ∷ word ∷ words) l h =
    let P : List ℕ → Type 0 = λ w. IsSpelling scale version ended (codes "refused" ∷ codes "use" ∷ at ∷ w ∷ words) l in
    picked P word (codes "vertex") _ _ (Ok l) (use_spelled scale version using.NoVertex (codes "vertex") (λ v. refl) (λ v r. r) (λ v. tt) ended at words l)
    (picked P word (codes "range") _ _ (Ok l) (use_spelled scale version using.ShiftRange (codes "range") (λ v. refl) (λ v r. r) (λ v. tt) ended at words l)
    (picked P word (codes "box") _ _ (Ok l) (use_spelled scale version using.Box (codes "box") (λ v. refl) (λ v r. r) (λ v. tt) ended at words l)
    (picked P word (codes "field") _ _ (Ok l) (field_spelled scale version ended at words l)
    (picked_if P word (codes "solid") (is_later version) _ _ (Ok l) (λ t. use_spelled scale version using.Solid (codes "solid") (λ v. refl) (λ v r. r) (λ v. t) ended at words l)
    (misspelt ended l)))))
    h

-- a reason with or without groups
any_groups : (groups : Bool) (w : TextWhy) → IsWhyOf groups w → IsWhyOf true w
any_groups groups why.Nesting r = refl
any_groups groups why.Order r = r
any_groups groups _ r = tt

refused_back : (scale : Scale) (version : ℕ) (ended : Bool) (words : List (List ℕ)) (l : LogLine) → refused_of version ended words ≡ Ok l → IsSpelling scale version ended (codes "refused" ∷ words) l
unfolding refused_of
refused_back scale version ended [] l h = fault_value why.Short l h
refused_back scale version ended (word ∷ words) l h =
    let P : List ℕ → Type 0 = λ w. IsSpelling scale version ended (codes "refused" ∷ w ∷ words) l in
    picked P word (codes "long") _ _ (Ok l) (long_back scale version ended words l)
    (picked P word (codes "missing") _ _ (Ok l) (missing_back scale version ended words l)
    (picked P word (codes "mesh") _ _ (Ok l) (fault_spelled scale version false (λ f. line.Refused (refusal.Mesh f)) (codes "refused" ∷ codes "mesh" ∷ []) (λ f r. (refl, r, tt)) ended words l)
    (picked P word (codes "shape") _ _ (Ok l) (shape_back scale version ended words l)
    (picked P word (codes "meets") _ _ (Ok l) (pair_spelled scale version (λ p. line.Refused (refusal.Meets p)) (codes "refused" ∷ codes "meets" ∷ []) (λ p r. (refl, r, tt)) ended words l)
    (picked P word (codes "steps") _ _ (Ok l) (fault_spelled scale version (is_later version) (λ f. line.Refused (refusal.Steps f)) (codes "refused" ∷ codes "steps" ∷ []) (λ f r. (refl, (r.0, any_groups (is_later version) f.why r.1), r.1)) ended words l)
    (picked P word (codes "use") _ _ (Ok l) (use_back scale version ended words l)
    (fault_value why.Unknown l)))))))
    h

mesh_back : (scale : Scale) (version : ℕ) (ended : Bool) (words : List (List ℕ)) (l : LogLine) → mesh_of scale ended words ≡ Ok l → IsSpelling scale version ended (codes "mesh" ∷ words) l
unfolding mesh_of
mesh_back scale version ended words l h = spelled (mesh_reader scale) three (MeshFits scale) (mesh_exact scale) 3 (λ p. refl) mesh_made scale version (codes "mesh" ∷ []) (λ p r. (refl, (r.0.1, r.1.0.1, r.1.1.1), tt)) ended words l h

close_back : (scale : Scale) (version : ℕ) → is_later version ≡ true → (ended : Bool) (words : List (List ℕ)) (l : LogLine) → close_of ended words ≡ Ok l → IsSpelling scale version ended (codes "close" ∷ words) l
unfolding close_of
close_back scale version e ended [] l h = fault_value why.Short l h
close_back scale version e ended (word ∷ words) l h =
    let P : List ℕ → Type 0 = λ w. IsSpelling scale version ended (codes "close" ∷ w ∷ words) l in
    picked P word (codes "kept") _ _ (Ok l) (alone_spelled scale version (codes "close" ∷ codes "kept" ∷ []) ended (line.Close true) words l refl tt e)
    (picked P word (codes "undone") _ _ (Ok l) (alone_spelled scale version (codes "close" ∷ codes "undone" ∷ []) ended (line.Close false) words l refl tt e)
    (fault_value why.Unknown l))
    h

plain_back : (scale : Scale) (version : ℕ) → version < 2 ^ 8 → (ended : Bool) (first : List ℕ) (words : List (List ℕ)) (l : LogLine) → plain_of scale version ended first words ≡ Ok l → IsSpelling scale version ended (first ∷ words) l
unfolding plain_of step_of hit_of move_of solid_of
plain_back scale version small ended first words l h =
    let P : List ℕ → Type 0 = λ w. IsSpelling scale version ended (w ∷ words) l in
    picked P first (codes "topo") _ _ (Ok l) (first_back scale version small ended words l)
    (picked P first (codes "mesh") _ _ (Ok l) (mesh_back scale version ended words l)
    (picked P first (codes "step") _ _ (Ok l) (one_spelled scale version 1 COUNT_MAX (lit< tt) line.Step (codes "step" ∷ []) (λ n r. (refl, r, tt)) ended words l)
    (picked P first (codes "hit") _ _ (Ok l) (pair_spelled scale version line.Hit (codes "hit" ∷ []) (λ p r. (refl, r, tt)) ended words l)
    (picked P first (codes "move") _ _ (Ok l) (spelled shift_of_at shift_of_words (λ s. IsFrom 1 ID_MAX s.v) shift_of_at-exact 4 (λ s. refl) line.Move scale version (codes "move" ∷ []) (λ s r. (refl, r, tt)) ended words l)
    (picked P first (codes "moved") _ _ (Ok l) (moved_back scale version ended words l)
    (picked P first (codes "refused") _ _ (Ok l) (refused_back scale version ended words l)
    (picked P first (codes "end") _ _ (Ok l) (alone_spelled scale version (codes "end" ∷ []) ended line.End words l refl tt tt)
    (picked_if P first (codes "solid") (is_later version) _ _ (Ok l) (λ t. one_spelled scale version 1 ID_MAX (lit< tt) line.Solid (codes "solid" ∷ []) (λ n r. (refl, r, t)) ended words l)
    (picked_if P first (codes "group") (is_later version) _ _ (Ok l) (λ t. alone_spelled scale version (codes "group" ∷ []) ended line.Group words l refl tt (t))
    (picked_if P first (codes "close") (is_later version) _ _ (Ok l) (λ t. close_back scale version (t) ended words l)
    (edit_back scale version ended first words l)))))))))))
    h

-- what words are read as is the line that they spell
pub read_is_spelled : (scale : Scale) (version : ℕ) → version < 2 ^ 8 → (ended : Bool) (words : List (List ℕ)) (l : LogLine) → line_of scale version ended words ≡ Ok l → IsSpelling scale version ended words l
unfolding line_of
read_is_spelled scale version small ended [] l h = fault_value why.Unknown l h
read_is_spelled scale version small ended (first ∷ words) l h =
    let P : List ℕ → Type 0 = λ w. IsSpelling scale version ended (w ∷ words) l in
    picked P first (codes "block") _ _ (Ok l) (block_back scale version ended words l)
    (picked P first (codes "pinch") _ _ (Ok l) (pinch_back scale version ended words l)
    (picked_if P first (codes "vertices") (version == IDS_VERSION) _ _ (Ok l) (λ t. new_ids_back scale version (codes "vertices") line.Vertices (λ new. refl) (λ new r. r) (λ new. eqb-true version IDS_VERSION t) ended words l)
    (picked_if P first (codes "faces") (version == IDS_VERSION) _ _ (Ok l) (λ t. new_ids_back scale version (codes "faces") line.Faces (λ new. refl) (λ new r. r) (λ new. eqb-true version IDS_VERSION t) ended words l)
    (plain_back scale version small ended first words l))))
    h
