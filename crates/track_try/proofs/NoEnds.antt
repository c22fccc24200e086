-- No line's spelling has LF in it, whatever the line's values are.
use Rattle.std.proofs.Common.{◌≡◌, ℕ, zero, suc, ◌+◌, ◌/◌, ◌%◌, Bool, true, false, ◌==◌, not, if◌then◌else◌, List, [], ◌∷◌, ◌++◌, ℤ, pos, negsuc, refl, sym, arith}
use Rattle.std.specs.Prelude.{decimal, codes, map, nat_lt}
use Rattle.std.specs.Fmt.{digit_glyph, digits_onto, digits}
use Rattle.std.specs.Fmt.{signed_decimal}
use Rattle.std.specs.List.{list_all, AllByRecursion, join_with_byte}
use Rattle.std.proofs.lemmas.Bool.{and_parts, ne_eqb}
use Rattle.edit_base.specs.declared.Asked.{Asked}
use Rattle.edit_base.specs.declared.Asked.TheVariants as asked
use Rattle.edit_base.specs.declared.Change.{Change}
use Rattle.edit_base.specs.declared.Change.TheVariants as change
use Rattle.edit_base.specs.declared.CopyAt.{CopyAt}
use Rattle.edit_base.specs.declared.PassKind.{PassKind}
use Rattle.edit_base.specs.declared.PassKind.TheVariants as pass
use Rattle.edit_base.specs.declared.Why.{Why}
use Rattle.edit_base.specs.declared.Why.TheVariants as reason
use Rattle.grid_base.specs.declared.grid.Point.{Point}
use Rattle.line_text.specs.declared.TextWhy.{TextWhy}
use Rattle.line_text.specs.declared.TextWhy.TheVariants as why
use Rattle.mesh_base.specs.declared.FileWord.{FileWord}
use Rattle.mesh_base.specs.declared.FileWord.TheVariants as file
use Rattle.mesh_base.specs.declared.How.{How}
use Rattle.mesh_base.specs.declared.How.TheVariants.{Whole, Impulse, Zones, Halved, Zero}
use Rattle.mesh_base.specs.declared.PairName.{PairName}
use Rattle.mesh_base.specs.declared.ShapeFault.{ShapeFault}
use Rattle.mesh_base.specs.declared.ShapeFault.TheVariants as shape
use Rattle.mesh_base.specs.declared.UseWhy.{UseWhy}
use Rattle.mesh_base.specs.declared.UseWhy.TheVariants as using
use Rattle.log_text.specs.declared.log_line.LogLine.{LogLine}
use Rattle.log_text.specs.declared.log_line.LogLine.TheVariants as line
use Rattle.log_text.specs.declared.log_line.Refusal.{Refusal}
use Rattle.log_text.specs.declared.log_line.Refusal.TheVariants as refusal
use Rattle.log_text.specs.Lines.{line_words, body_of, file_word, kept_word, why_word, pair_words, how_words, shape_words, use_words, refusal_words, pass_words, point_words, place_words, places_words, change_words, asked_words, reason_words}

-- no byte of it is LF
abbrev pub HasNoEnd : List ℕ → Type 0
HasNoEnd bytes = AllByRecursion (λ b. (b == 10) ≡ false) bytes

abbrev pub HaveNoEnd : List (List ℕ) → Type 0
HaveNoEnd words = AllByRecursion HasNoEnd words

-- ---- words

no_end : (b : Bool) → not b ≡ true → b ≡ false
no_end true h = sym h
no_end false h = refl

-- of fixed words a test computes
pub text : (word : List ℕ) → list_all (λ b. not (b == 10)) word ≡ true → HasNoEnd word
text [] h = tt
text (b ∷ word) h = let p = and_parts (not (b == 10)) (list_all (λ b. not (b == 10)) word) h in (no_end (b == 10) p.0, text word p.1)

glyph : (d : ℕ) → (digit_glyph false d == 10) ≡ false
glyph d = elim (nat_lt d 10) as (λ v. ((if v then 48 + d else 87 + d) == 10) ≡ false) [ true ↦ ne_eqb (48 + d) 10 (λ e. omega (arith, e)) | false ↦ ne_eqb (87 + d) 10 (λ e. omega (arith, e)) ]

onto : (k n : ℕ) (acc : List ℕ) → HasNoEnd acc → HasNoEnd (digits_onto k 10 false n acc)
onto zero n acc h = h
onto (suc k) n acc h =
    elim (n / 10 == 0) as (λ v. HasNoEnd (if v then digit_glyph false (n % 10) ∷ acc else digits_onto k 10 false (n / 10) (digit_glyph false (n % 10) ∷ acc)))
    [ true ↦ (glyph (n % 10), h) | false ↦ onto k (n / 10) (digit_glyph false (n % 10) ∷ acc) (glyph (n % 10), h) ]

pub number : (n : ℕ) → HasNoEnd (decimal n)
unfolding digits
number n = onto 64 n [] tt

signed : (z : ℤ) → HasNoEnd (signed_decimal z)
signed (pos n) = number n
signed (negsuc n) = (refl, number (suc n))

-- ---- the words of a line

file_part : (f : FileWord) → HasNoEnd (file_word f)
file_part file.Mesh = text (codes "mesh") refl
file_part file.Steps = text (codes "steps") refl
file_part file.Log = text (codes "log") refl
file_part file.Proof = text (codes "proof") refl

why_part : (w : TextWhy) → HasNoEnd (why_word w)
why_part why.Number = text (codes "number") refl
why_part why.Corner = text (codes "corner") refl
why_part why.Range = text (codes "range") refl
why_part why.Short = text (codes "short") refl
why_part why.Long = text (codes "long") refl
why_part why.Unknown = text (codes "unknown") refl
why_part why.Continuation = text (codes "continuation") refl
why_part why.Nesting = text (codes "nesting") refl
why_part why.Order = text (codes "order") refl

kept_part : (kept : Bool) → HasNoEnd (kept_word kept)
kept_part true = text (codes "kept") refl
kept_part false = text (codes "undone") refl

pair_parts : (p : PairName) → HaveNoEnd (pair_words p)
pair_parts p = (number p.a, (number p.b, (number p.face, tt)))

how_parts : (how : How) → HaveNoEnd (how_words how)
how_parts Whole = (text (codes "whole") refl, tt)
how_parts (Impulse n) = (text (codes "impulse") refl, (number n, tt))
how_parts (Zones n) = (text (codes "zones") refl, (number n, tt))
how_parts (Halved n) = (text (codes "halved") refl, (number n, tt))
how_parts Zero = (text (codes "zero") refl, tt)

shape_parts : (fault : ShapeFault) → HaveNoEnd (shape_words fault)
shape_parts (shape.TooManyVertices n) = (text (codes "vertices") refl, (number n, tt))
shape_parts (shape.TooManyFaces n) = (text (codes "faces") refl, (number n, tt))
shape_parts (shape.NoVertex face corner) = (text (codes "corner") refl, (number face, (number corner, tt)))
shape_parts (shape.Repeated face) = (text (codes "repeated") refl, (number face, tt))
shape_parts (shape.Doubled first second) = (text (codes "doubled") refl, (number first, (number second, tt)))
shape_parts (shape.Unbalanced from to) = (text (codes "unbalanced") refl, (number from, (number to, tt)))

use_parts : (w : UseWhy) → HaveNoEnd (use_words w)
use_parts (using.NoVertex v) = (text (codes "vertex") refl, (number v, tt))
use_parts (using.ShiftRange v) = (text (codes "range") refl, (number v, tt))
use_parts (using.Box v) = (text (codes "box") refl, (number v, tt))
use_parts using.NoField = (text (codes "field") refl, tt)
use_parts (using.Solid v) = (text (codes "solid") refl, (number v, tt))

refusal_parts : (w : Refusal) → HaveNoEnd (refusal_words w)
refusal_parts (refusal.Long name n) = (text (codes "long") refl, (file_part name, (number n, tt)))
refusal_parts (refusal.Missing name) = (text (codes "missing") refl, (file_part name, tt))
refusal_parts (refusal.Mesh fault) = (text (codes "mesh") refl, (number fault.line, (why_part fault.why, tt)))
refusal_parts (refusal.Shape fault) = (text (codes "shape") refl, shape_parts fault)
refusal_parts (refusal.Meets pair) = (text (codes "meets") refl, pair_parts pair)
refusal_parts (refusal.Steps fault) = (text (codes "steps") refl, (number fault.line, (why_part fault.why, tt)))
refusal_parts (refusal.StepUse at w) = (text (codes "use") refl, (number at, use_parts w))

parts-append : (xs ys : List (List ℕ)) → HaveNoEnd xs → HaveNoEnd ys → HaveNoEnd (xs ++ ys)
parts-append [] ys p q = q
parts-append (x ∷ xs) ys p q = (p.0, parts-append xs ys p.1 q)

ids_parts : (ids : List ℕ) → HaveNoEnd (map decimal ids)
ids_parts [] = tt
ids_parts (v ∷ ids) = (number v, ids_parts ids)

pass_parts : (kind : PassKind) → HaveNoEnd (pass_words kind)
pass_parts (pass.Split n) = (text (codes "split") refl, (number n, tt))
pass_parts (pass.Collapse n) = (text (codes "collapse") refl, (number n, tt))
pass_parts pass.Flip = (text (codes "flip") refl, tt)
pass_parts (pass.Zip n) = (text (codes "zip") refl, (number n, tt))
pass_parts pass.Pinch = (text (codes "pinch") refl, tt)

pub point_parts : (p : Point) → HaveNoEnd (point_words p)
point_parts p = (signed p.x, (signed p.y, (signed p.z, tt)))

places_parts : (places : List CopyAt) → HaveNoEnd (places_words places)
places_parts [] = tt
places_parts (c ∷ cs) = parts-append (place_words c) (places_words cs) (number c.w, point_parts c.at) (places_parts cs)

change_parts : (done : Change) → HaveNoEnd (change_words done)
change_parts (change.Split a b w at) = (text (codes "split") refl, (number a, (number b, (number w, point_parts at))))
change_parts (change.Flip a b) = (text (codes "flip") refl, (number a, (number b, tt)))
change_parts (change.Collapse a b at) = (text (codes "collapse") refl, (number a, (number b, point_parts at)))
change_parts (change.Zip a b e f turn) = (text (codes "zip") refl, (number a, (number b, (number e, (number f, (number turn, tt))))))
change_parts (change.Pinch v at copies) = (text (codes "pinch") refl, places_parts (record { w = v; at = at } ∷ copies))

asked_parts : (what : Asked) → HaveNoEnd (asked_words what)
asked_parts (asked.Split a b) = (text (codes "split") refl, (number a, (number b, tt)))
asked_parts (asked.Flip a b) = (text (codes "flip") refl, (number a, (number b, tt)))
asked_parts (asked.Collapse a b) = (text (codes "collapse") refl, (number a, (number b, tt)))
asked_parts (asked.Zip a b e f) = (text (codes "zip") refl, (number a, (number b, (number e, (number f, tt)))))
asked_parts (asked.Pinch v) = (text (codes "pinch") refl, (number v, tt))

reason_parts : (w : Why) → HaveNoEnd (reason_words w)
reason_parts reason.NoEdge = (text (codes "noedge") refl, tt)
reason_parts reason.Crowded = (text (codes "crowded") refl, tt)
reason_parts reason.Edge = (text (codes "edge") refl, tt)
reason_parts reason.Shared = (text (codes "shared") refl, tt)
reason_parts reason.Full = (text (codes "full") refl, tt)
reason_parts reason.Doubled = (text (codes "doubled") refl, tt)
reason_parts reason.OneFan = (text (codes "onefan") refl, tt)
reason_parts (reason.Hit pair) = (text (codes "hit") refl, pair_parts pair)
reason_parts reason.Solid = (text (codes "solid") refl, tt)

line_parts : (l : LogLine) → HaveNoEnd (line_words l)
line_parts (line.First v) = (text (codes "topo") refl, (text (codes "log") refl, (number v, tt)))
line_parts (line.Mesh k v f) = (text (codes "mesh") refl, (number k, (number v, (number f, tt))))
line_parts (line.Step k) = (text (codes "step") refl, (number k, tt))
line_parts (line.Vertices new) = (text (codes "vertices") refl, ids_parts (new.next ∷ new.ids))
line_parts (line.Faces new) = (text (codes "faces") refl, ids_parts (new.next ∷ new.ids))
line_parts (line.Solid v) = (text (codes "solid") refl, (number v, tt))
line_parts (line.Hit pair) = (text (codes "hit") refl, pair_parts pair)
line_parts (line.Block ids) = (text (codes "block") refl, ids_parts ids)
line_parts (line.Move s) = (text (codes "move") refl, (number s.v, (signed s.by.x, (signed s.by.y, (signed s.by.z, tt)))))
line_parts (line.Moved how) = (text (codes "moved") refl, how_parts how)
line_parts (line.Pass kind) = (text (codes "pass") refl, pass_parts kind)
line_parts line.PassFit = (text (codes "pass") refl, (text (codes "fit") refl, tt))
line_parts (line.Did done) = change_parts done
line_parts (line.No what w) = (text (codes "no") refl, parts-append (asked_words what) (reason_words w) (asked_parts what) (reason_parts w))
line_parts line.Group = (text (codes "group") refl, tt)
line_parts (line.Close kept) = (text (codes "close") refl, (kept_part kept, tt))
line_parts (line.Refused w) = (text (codes "refused") refl, refusal_parts w)
line_parts line.End = (text (codes "end") refl, tt)

-- ---- the words, one after another

no_end-append : (xs ys : List ℕ) → HasNoEnd xs → HasNoEnd ys → HasNoEnd (xs ++ ys)
no_end-append [] ys p q = q
no_end-append (x ∷ xs) ys p q = (p.0, no_end-append xs ys p.1 q)

joined : (words : List (List ℕ)) → HaveNoEnd words → HasNoEnd (join_with_byte 32 words)
joined [] h = tt
joined (word ∷ []) h = h.0
joined (word ∷ next ∷ words) h = no_end-append word (32 ∷ join_with_byte 32 (next ∷ words)) h.0 (refl, joined (next ∷ words) h.1)

pub body_has_no_end : (l : LogLine) → HasNoEnd (body_of l)
body_has_no_end l = joined (line_words l) (line_parts l)
