-- The words of a line hold no space and no LF, so a line is cut into them again.
use Rattle.std.proofs.Common.{◌≡◌, ℕ, ◌+◌, ◌-◌, ◌<◌, ◌≤◌, ◌^◌, Bool, true, false, eqb, leb, ltb, List, [], ◌∷◌, ◌++◌, length, ℤ, pos, negsuc, suc, refl, ap, ◌∙◌, arith, lit<}
use Rattle.std.specs.Prelude.{decimal, codes, map, unsigned_abs, All}
use Rattle.std.specs.Fmt.{signed_decimal}
use Rattle.std.specs.List.{list_all, AllByRecursion, join_with_byte}
use Rattle.std.proofs.lemmas.Bool.{and_parts, leb-true, ltb-true, ne_eqb}
use Rattle.std.proofs.lemmas.List.Elements.{All-from_recursion, recursion_from_All}
use Rattle.std.proofs.lemmas.List.Splits.{slice_split_at, slice_split_none}
use Rattle.edit_base.specs.declared.Asked.{Asked}
use Rattle.edit_base.specs.declared.Asked.TheVariants as asked
use Rattle.edit_base.specs.declared.Change.{Change}
use Rattle.edit_base.specs.declared.Change.TheVariants as change
use Rattle.edit_base.specs.declared.CopyAt.{CopyAt}
use Rattle.edit_base.specs.declared.PassKind.{PassKind}
use Rattle.edit_base.specs.declared.PassKind.TheVariants as pass
use Rattle.edit_base.specs.declared.Why.{Why}
use Rattle.edit_base.specs.declared.Why.TheVariants as reason
use Rattle.grid_base.specs.declared.TheConstants.{BOX, ID_MAX, SHIFT_MAX, HALVINGS_MAX, LENGTH_MAX}
use Rattle.grid_base.specs.declared.grid.Point.{Point}
use Rattle.line_text.specs.declared.TextWhy.{TextWhy}
use Rattle.line_text.specs.declared.TextWhy.TheVariants as why
use Rattle.line_text.specs.Numbers.{is_digit}
use Rattle.line_text.proofs.Decimals.{Writes-decimal_wide}
use Rattle.mesh_base.specs.declared.FileWord.{FileWord}
use Rattle.mesh_base.specs.declared.FileWord.TheVariants as file
use Rattle.mesh_base.specs.declared.How.{How}
use Rattle.mesh_base.specs.declared.How.TheVariants.{Whole, Impulse, Zones, Halved, Zero}
use Rattle.mesh_base.specs.declared.PairName.{PairName}
use Rattle.mesh_base.specs.declared.Scale.{Scale}
use Rattle.mesh_base.specs.declared.ShapeFault.{ShapeFault}
use Rattle.mesh_base.specs.declared.ShapeFault.TheVariants as shape
use Rattle.mesh_base.specs.declared.UseWhy.{UseWhy}
use Rattle.mesh_base.specs.declared.UseWhy.TheVariants as using
use Rattle.log_text.specs.declared.TheConstants.{COUNT_MAX, SEEN_MAX, CORNER_MAX, PASSES_MAX}
use Rattle.log_text.specs.declared.LogLine.{LogLine}
use Rattle.log_text.specs.declared.LogLine.TheVariants as line
use Rattle.log_text.specs.declared.NewIds.{NewIds}
use Rattle.log_text.specs.declared.Refusal.{Refusal}
use Rattle.log_text.specs.declared.Refusal.TheVariants as refusal
use Rattle.log_text.specs.Lines.{line_words, new_ids_words, file_word, kept_word, why_word, pair_words, how_words, shape_words, use_words, refusal_words, pass_words, point_words, place_words, places_words, change_words, asked_words, reason_words}
use Rattle.line_text.specs.Spellings.{spaced_words}
use Rattle.mesh_base.proofs.MeshLaws.{few_vertices_of, few_faces_of}
use Rattle.log_read.specs.Reading.{rounds_most}
use Rattle.log_read.specs.Laws.{IsFrom, IsPairInRange, IsHowInRange, IsShapeInRange, IsUseInRange, IsRefusalInRange, IsEdgeInRange, AreRisingTo, AreNewIds, IsPassInRange, IsChangeInRange, IsAskedInRange, IsReasonInRange, IsInRange, IsOfVersion}
use Rattle.log_read.proofs.Scales.{small_rounds}

-- each byte is above that of a space
abbrev pub IsGraphic : List ℕ → Type 0
IsGraphic word = AllByRecursion (λ b. 32 < b) word

abbrev pub AreGraphic : List (List ℕ) → Type 0
AreGraphic words = AllByRecursion IsGraphic words

-- of fixed words a test computes
pub text : (word : List ℕ) → list_all (λ b. ltb 32 b) word ≡ true → IsGraphic word
text [] h = tt
text (b ∷ word) h = let p = and_parts (ltb 32 b) (list_all (λ b. ltb 32 b) word) h in (ltb-true 32 b p.0, text word p.1)

digits : (ds : List ℕ) → list_all is_digit ds ≡ true → IsGraphic ds
digits [] h = tt
digits (d ∷ ds) h =
    let p = and_parts (is_digit d) (list_all is_digit ds) h in
    let q = and_parts (leb 48 d) (leb d 57) p.0 in
    ((let low : 48 ≤ d = leb-true 48 d q.0 in omega (arith, low)), digits ds p.1)

number_wide : (n : ℕ) → n < 10 ^ 64 → IsGraphic (decimal n)
number_wide n lt = digits (decimal n) (Writes-decimal_wide n lt).digits

number : (n : ℕ) → n < 2 ^ 64 → IsGraphic (decimal n)
number n lt = number_wide n (omega (arith, lt))

up_to : (low high n : ℕ) → high < 2 ^ 64 → IsFrom low high n → IsGraphic (decimal n)
up_to low high n small r = number n (omega (arith, r.1))

pub component : (most : ℕ) (z : ℤ) → most < 10 ^ 38 → unsigned_abs z ≤ most → IsGraphic (signed_decimal z)
component most (pos n) small h = number_wide n (omega (arith, h, small))
component most (negsuc n) small h = (omega arith, number_wide (suc n) (omega (arith, h, small)))

shift_part : (z : ℤ) → unsigned_abs z ≤ SHIFT_MAX → IsGraphic (signed_decimal z)
shift_part z h = component SHIFT_MAX z (lit< tt) h

coordinate : (z : ℤ) → unsigned_abs z ≤ BOX → IsGraphic (signed_decimal z)
coordinate z h = component BOX z (lit< tt) h

id : (n : ℕ) → IsFrom 1 ID_MAX n → IsGraphic (decimal n)
id n r = up_to 1 ID_MAX n (lit< tt) r

pub count : (n : ℕ) → IsFrom 1 COUNT_MAX n → IsGraphic (decimal n)
count n r = up_to 1 COUNT_MAX n (lit< tt) r

seen : (n : ℕ) → n ≤ SEEN_MAX → IsGraphic (decimal n)
seen n r = number n (omega (arith, r))

file_graphic : (f : FileWord) → IsGraphic (file_word f)
file_graphic file.Mesh = text (codes "mesh") refl
file_graphic file.Steps = text (codes "steps") refl
file_graphic file.Log = text (codes "log") refl
file_graphic file.Proof = text (codes "proof") refl

why_graphic : (w : TextWhy) → IsGraphic (why_word w)
why_graphic why.Number = text (codes "number") refl
why_graphic why.Corner = text (codes "corner") refl
why_graphic why.Range = text (codes "range") refl
why_graphic why.Short = text (codes "short") refl
why_graphic why.Long = text (codes "long") refl
why_graphic why.Unknown = text (codes "unknown") refl
why_graphic why.Continuation = text (codes "continuation") refl
why_graphic why.Nesting = text (codes "nesting") refl
why_graphic why.Order = text (codes "order") refl

pub pair_graphic : (p : PairName) → IsPairInRange p → AreGraphic (pair_words p)
pair_graphic p r = (id p.a r.a, (id p.b r.b, (id p.face r.face, tt)))

how_graphic : (scale : Scale) (how : How) → IsHowInRange scale how → AreGraphic (how_words how)
how_graphic scale Whole r = (text (codes "whole") refl, tt)
how_graphic scale (Impulse n) r = (text (codes "impulse") refl, (up_to 1 PASSES_MAX n (lit< tt) r, tt))
how_graphic scale (Zones n) r = (text (codes "zones") refl, (up_to 1 (rounds_most scale) n (small_rounds scale) r, tt))
how_graphic scale (Halved n) r = (text (codes "halved") refl, (up_to 1 HALVINGS_MAX n (lit< tt) r, tt))
how_graphic scale Zero r = (text (codes "zero") refl, tt)

shape_graphic : (fault : ShapeFault) → IsShapeInRange fault → AreGraphic (shape_words fault)
shape_graphic (shape.TooManyVertices n) r = (text (codes "vertices") refl, (seen n r, tt))
shape_graphic (shape.TooManyFaces n) r = (text (codes "faces") refl, (seen n r, tt))
shape_graphic (shape.NoVertex face corner) r = (text (codes "corner") refl, (count face r.0, (up_to 1 CORNER_MAX corner (lit< tt) r.1, tt)))
shape_graphic (shape.Repeated face) r = (text (codes "repeated") refl, (count face r, tt))
shape_graphic (shape.Doubled first second) r = (text (codes "doubled") refl, (count first r.0, (count second r.1, tt)))
shape_graphic (shape.Unbalanced from to) r = (text (codes "unbalanced") refl, (count from r.0, (count to r.1, tt)))

use_graphic : (w : UseWhy) → IsUseInRange w → AreGraphic (use_words w)
use_graphic (using.NoVertex v) r = (text (codes "vertex") refl, (id v r, tt))
use_graphic (using.ShiftRange v) r = (text (codes "range") refl, (id v r, tt))
use_graphic (using.Box v) r = (text (codes "box") refl, (id v r, tt))
use_graphic using.NoField r = (text (codes "field") refl, tt)
use_graphic (using.Solid v) r = (text (codes "solid") refl, (id v r, tt))

refusal_graphic : (w : Refusal) → IsRefusalInRange w → AreGraphic (refusal_words w)
refusal_graphic (refusal.Long name n) r = (text (codes "long") refl, (file_graphic name, (seen n r, tt)))
refusal_graphic (refusal.Missing name) r = (text (codes "missing") refl, (file_graphic name, tt))
refusal_graphic (refusal.Mesh fault) r = (text (codes "mesh") refl, (count fault.line r.0, (why_graphic fault.why, tt)))
refusal_graphic (refusal.Shape fault) r = (text (codes "shape") refl, shape_graphic fault r)
refusal_graphic (refusal.Meets pair) r = (text (codes "meets") refl, pair_graphic pair r)
refusal_graphic (refusal.Steps fault) r = (text (codes "steps") refl, (count fault.line r.0, (why_graphic fault.why, tt)))
refusal_graphic (refusal.StepUse at w) r = (text (codes "use") refl, (count at r.0, use_graphic w r.1))

graphic-append : (xs ys : List (List ℕ)) → AreGraphic xs → AreGraphic ys → AreGraphic (xs ++ ys)
graphic-append [] ys p q = q
graphic-append (x ∷ xs) ys p q = (p.0, graphic-append xs ys p.1 q)

ids_graphic : (most low : ℕ) (ids : List ℕ) → most < 2 ^ 64 → AreRisingTo most low ids → AreGraphic (map decimal ids)
ids_graphic most low [] small r = tt
ids_graphic most low (v ∷ ids) small r = (up_to low most v small r.0, ids_graphic most (v + 1) ids small r.1)

new_ids_graphic : (new : NewIds) → AreNewIds new → AreGraphic (new_ids_words new)
new_ids_graphic new r = (up_to 1 (ID_MAX + 1) new.next (lit< tt) r.next, ids_graphic (new.next - 1) 1 new.ids (omega (arith, r.next.1)) r.ids)

length_graphic : (n : ℕ) → n ≤ LENGTH_MAX → IsGraphic (decimal n)
length_graphic n r = number n (omega (arith, r))

pass_graphic : (kind : PassKind) → IsPassInRange kind → AreGraphic (pass_words kind)
pass_graphic (pass.Split n) r = (text (codes "split") refl, (length_graphic n r, tt))
pass_graphic (pass.Collapse n) r = (text (codes "collapse") refl, (length_graphic n r, tt))
pass_graphic pass.Flip r = (text (codes "flip") refl, tt)
pass_graphic (pass.Zip n) r = (text (codes "zip") refl, (length_graphic n r, tt))
pass_graphic pass.Pinch r = (text (codes "pinch") refl, tt)

point_graphic : (p : Point) → AreGraphic (point_words p)
point_graphic p = (coordinate p.x p.in_box.x_fits, (coordinate p.y p.in_box.y_fits, (coordinate p.z p.in_box.z_fits, tt)))

places_graphic : (places : List CopyAt) → AllByRecursion (λ c. IsFrom 1 ID_MAX c.w) places → AreGraphic (places_words places)
places_graphic [] r = tt
places_graphic (c ∷ cs) r = graphic-append (place_words c) (places_words cs) (id c.w r.0, point_graphic c.at) (places_graphic cs r.1)

larger : (a b : ℕ) → IsEdgeInRange a b → IsGraphic (decimal b)
larger a b r = up_to (a + 1) ID_MAX b (lit< tt) r.1

change_graphic : (done : Change) → IsChangeInRange done → AreGraphic (change_words done)
change_graphic (change.Split a b w at) r = (text (codes "split") refl, (id a r.0.0, (larger a b r.0, (id w r.1, point_graphic at))))
change_graphic (change.Flip a b) r = (text (codes "flip") refl, (id a r.0, (larger a b r, tt)))
change_graphic (change.Collapse a b at) r = (text (codes "collapse") refl, (id a r.0, (larger a b r, point_graphic at)))
change_graphic (change.Zip a b e f turn) r = (text (codes "zip") refl, (id a r.0.0, (larger a b r.0, (id e r.1.0, (larger e f r.1, (number turn (omega (arith, r.2)), tt))))))
change_graphic (change.Pinch v at copies) r = (text (codes "pinch") refl, places_graphic (record { w = v; at = at } ∷ copies) (r.0, recursion_from_All (λ c. IsFrom 1 ID_MAX c.w) copies r.2))

asked_graphic : (what : Asked) → IsAskedInRange what → AreGraphic (asked_words what)
asked_graphic (asked.Split a b) r = (text (codes "split") refl, (id a r.0, (larger a b r, tt)))
asked_graphic (asked.Flip a b) r = (text (codes "flip") refl, (id a r.0, (larger a b r, tt)))
asked_graphic (asked.Collapse a b) r = (text (codes "collapse") refl, (id a r.0, (larger a b r, tt)))
asked_graphic (asked.Zip a b e f) r = (text (codes "zip") refl, (id a r.0.0, (larger a b r.0, (id e r.1.0, (larger e f r.1, tt)))))
asked_graphic (asked.Pinch v) r = (text (codes "pinch") refl, (id v r, tt))

reason_graphic : (w : Why) → IsReasonInRange w → AreGraphic (reason_words w)
reason_graphic reason.NoEdge r = (text (codes "noedge") refl, tt)
reason_graphic reason.Crowded r = (text (codes "crowded") refl, tt)
reason_graphic reason.Edge r = (text (codes "edge") refl, tt)
reason_graphic reason.Shared r = (text (codes "shared") refl, tt)
reason_graphic reason.Full r = (text (codes "full") refl, tt)
reason_graphic reason.Doubled r = (text (codes "doubled") refl, tt)
reason_graphic reason.OneFan r = (text (codes "onefan") refl, tt)
reason_graphic (reason.Hit pair) r = (text (codes "hit") refl, pair_graphic pair r)
reason_graphic reason.Solid r = (text (codes "solid") refl, tt)

kept_graphic : (kept : Bool) → IsGraphic (kept_word kept)
kept_graphic true = text (codes "kept") refl
kept_graphic false = text (codes "undone") refl

pub line_graphic : (scale : Scale) (version : ℕ) → version < 2 ^ 8 → (l : LogLine) → IsInRange scale l → IsOfVersion version l → AreGraphic (line_words l)
line_graphic scale version small (line.First v) r e = (text (codes "topo") refl, (text (codes "log") refl, (number v (omega (arith, e)), tt)))
line_graphic scale version small (line.Mesh k v f) r e = (text (codes "mesh") refl, (number k (omega (arith, r.0)), (number v (omega (arith, r.1, few_vertices_of scale)), (number f (omega (arith, r.2, few_faces_of scale)), tt))))
line_graphic scale version small (line.Step k) r e = (text (codes "step") refl, (count k r, tt))
line_graphic scale version small (line.Hit pair) r e = (text (codes "hit") refl, pair_graphic pair r)
line_graphic scale version small (line.Block ids) r e = (text (codes "block") refl, ids_graphic ID_MAX 1 ids (lit< tt) r.1)
line_graphic scale version small (line.Move s) r e = (text (codes "move") refl, (id s.v r, (shift_part s.by.x s.by.in_range.x_fits, (shift_part s.by.y s.by.in_range.y_fits, (shift_part s.by.z s.by.in_range.z_fits, tt)))))
line_graphic scale version small (line.Moved how) r e = (text (codes "moved") refl, how_graphic scale how r)
line_graphic scale version small (line.Pass kind) r e = (text (codes "pass") refl, pass_graphic kind r)
line_graphic scale version small line.PassFit r e = (text (codes "pass") refl, (text (codes "fit") refl, tt))
line_graphic scale version small (line.Did done) r e = change_graphic done r
line_graphic scale version small (line.No what w) r e = (text (codes "no") refl, graphic-append (asked_words what) (reason_words w) (asked_graphic what r.0) (reason_graphic w r.1))
line_graphic scale version small (line.Refused w) r e = (text (codes "refused") refl, refusal_graphic w r)
line_graphic scale version small (line.Vertices new) r e = (text (codes "vertices") refl, new_ids_graphic new r)
line_graphic scale version small (line.Faces new) r e = (text (codes "faces") refl, new_ids_graphic new r)
line_graphic scale version small (line.Solid v) r e = (text (codes "solid") refl, (id v r, tt))
line_graphic scale version small line.Group r e = (text (codes "group") refl, tt)
line_graphic scale version small (line.Close kept) r e = (text (codes "close") refl, (kept_graphic kept, tt))
line_graphic scale version small line.End r e = (text (codes "end") refl, tt)

-- ---- words that are joined are cut again

no_space : (word : List ℕ) → IsGraphic word → AllByRecursion (λ b. eqb b 32 ≡ false) word
no_space [] h = tt
no_space (b ∷ word) h = (ne_eqb b 32 (let low : 32 < b = h.0 in omega (arith, low)), no_space word h.1)

cut_again : (word : List ℕ) (words : List (List ℕ)) → AreGraphic (word ∷ words) → spaced_words (join_with_byte 32 (word ∷ words)) ≡ word ∷ words
cut_again word [] h = slice_split_none (λ b. eqb b 32) word (All-from_recursion (λ b. eqb b 32 ≡ false) word (no_space word h.0))
cut_again word (next ∷ words) h = slice_split_at (λ b. eqb b 32) word 32 (join_with_byte 32 (next ∷ words)) (All-from_recursion (λ b. eqb b 32 ≡ false) word (no_space word h.0)) refl ∙ ap (λ ws. word ∷ ws) (cut_again next words h.1)

pub words_again : (words : List (List ℕ)) → 0 < length words → AreGraphic words → spaced_words (join_with_byte 32 words) ≡ words
words_again [] some h = absurd (omega arith)
words_again (word ∷ words) some h = cut_again word words h

some_change : (done : Change) → 0 < length (change_words done)
some_change (change.Split a b w at) = omega arith
some_change (change.Flip a b) = omega arith
some_change (change.Collapse a b at) = omega arith
some_change (change.Zip a b e f turn) = omega arith
some_change (change.Pinch v at copies) = omega arith

pub some_words : (l : LogLine) → 0 < length (line_words l)
some_words (line.First v) = omega arith
some_words (line.Mesh k v f) = omega arith
some_words (line.Step k) = omega arith
some_words (line.Hit pair) = omega arith
some_words (line.Block ids) = omega arith
some_words (line.Move s) = omega arith
some_words (line.Moved how) = omega arith
some_words (line.Pass kind) = omega arith
some_words line.PassFit = omega arith
some_words (line.Did done) = some_change done
some_words (line.No what w) = omega arith
some_words (line.Refused w) = omega arith
some_words (line.Vertices new) = omega arith
some_words (line.Faces new) = omega arith
some_words (line.Solid v) = omega arith
some_words line.Group = omega arith
some_words (line.Close kept) = omega arith
some_words line.End = omega arith

-- ---- no LF

abbrev HasNoEnd : List ℕ → Type 0
HasNoEnd bytes = AllByRecursion (λ b. ¬ (b ≡ 10)) bytes

no_end : (word : List ℕ) → IsGraphic word → HasNoEnd word
no_end [] h = tt
no_end (b ∷ word) h = ((λ e. let low : 32 < b = h.0 in omega (arith, low, e)), no_end word h.1)

no_end-append : (xs ys : List ℕ) → HasNoEnd xs → HasNoEnd ys → HasNoEnd (xs ++ ys)
no_end-append [] ys p q = q
no_end-append (x ∷ xs) ys p q = (p.0, no_end-append xs ys p.1 q)

pub joined_no_end : (words : List (List ℕ)) → AreGraphic words → HasNoEnd (join_with_byte 32 words)
joined_no_end [] h = tt
joined_no_end (word ∷ []) h = no_end word h.0
joined_no_end (word ∷ next ∷ words) h = no_end-append word (32 ∷ join_with_byte 32 (next ∷ words)) (no_end word h.0) ((λ e. omega (arith, e)), joined_no_end (next ∷ words) h.1)

not_end : (bytes : List ℕ) → HasNoEnd bytes → AllByRecursion (λ b. eqb b 10 ≡ false) bytes
not_end [] h = tt
not_end (b ∷ bytes) h = (ne_eqb b 10 h.0, not_end bytes h.1)

pub has_no_end : (words : List (List ℕ)) → AreGraphic words → All (λ b. ¬ (b ≡ 10)) (join_with_byte 32 words)
has_no_end words h = All-from_recursion (λ b. ¬ (b ≡ 10)) (join_with_byte 32 words) (joined_no_end words h)

pub is_no_end : (words : List (List ℕ)) → AreGraphic words → All (λ b. eqb b 10 ≡ false) (join_with_byte 32 words)
is_no_end words h = All-from_recursion (λ b. eqb b 10 ≡ false) (join_with_byte 32 words) (not_end (join_with_byte 32 words) (joined_no_end words h))
