-- The lines of a card, and texts that begin with lines.
use Rattle.std.proofs.Common.{◌≡◌, ℕ, zero, suc, ◌+◌, ◌-◌, ◌^◌, ◌<◌, ◌≤◌, eqb, List, [], ◌∷◌, ◌++◌, length, get_or, take, drop, replicate, refl, sym, ap, ◌∙◌, arith, lit<, append_assoc}
use Rattle.std.specs.Prelude.{codes, decimal}
use Rattle.std.specs.List.{AllByRecursion, slice_split, join_with_byte}
use Rattle.std.proofs.lemmas.List.{append-nil, take_more, length-take-le}
use Rattle.std.proofs.lemmas.List.Splits.{join_with_byte-slice_split, length-slice_split}
use Rattle.grid_base.specs.declared.TheConstants.{DECIMALS_MAX}
use Rattle.hex.specs.Hex.{IsBytes, encode_lower}
use Rattle.job_card.specs.declared.card.Card.{Card}
use Rattle.job_card.specs.declared.card.FileMark.{FileMark}
use Rattle.job_card.specs.declared.card.Version.{Version}
use Rattle.job_card.specs.Text.{version_text, mark_line, lines_of, text_of_lines, text_of}
use Rattle.job_card.specs.Laws.{IsVersion, IsMark, IsGood, IsCard, BeginsAsCard, IsFirstBad}
use Rattle.job_card.specs.Reading.{line_of, TakesLine}
use Rattle.job_card.proofs.Cuts.{IsOver, fixed_over, over-append, over-less, decimal_over, hex_over, first_cut}

abbrev pub AreLines : List (List ℕ) → Type 0
AreLines lines = AllByRecursion (λ line. IsOver 10 line) lines

number_over : (n : ℕ) → n < 2 ^ 64 → IsOver 10 (decimal n)
number_over n lt = over-less 10 46 (decimal n) (lit< tt) (decimal_over n lt)

version_over : (v : Version) → IsVersion v → IsOver 10 (version_text v)
version_over v g =
    over-append 10 (decimal v.major) (46 ∷ (decimal v.minor ++ 46 ∷ decimal v.patch)) (number_over v.major g.major)
    (lit< tt, over-append 10 (decimal v.minor) (46 ∷ decimal v.patch) (number_over v.minor g.minor) (lit< tt, number_over v.patch g.patch))

mark_over : (name : List ℕ) (m : FileMark) → IsOver 10 name → IsMark m → IsOver 10 (mark_line name m)
mark_over name m p g =
    over-append 10 name (32 ∷ (decimal m.bytes ++ 32 ∷ encode_lower m.digest)) p
    (lit< tt, over-append 10 (decimal m.bytes) (32 ∷ encode_lower m.digest) (number_over m.bytes g.bytes) (lit< tt, over-less 10 46 (encode_lower m.digest) (lit< tt) (hex_over m.digest g.digest.bytes)))

small : (n : ℕ) → n ≤ DECIMALS_MAX → n < 2 ^ 64
small n le = omega (arith, le)

-- no line of a card has LF in it
pub lines_over : (c : Card) → IsGood c → AreLines (lines_of c)
lines_over c g =
    let program = over-append 10 (codes "program") (32 ∷ version_text c.program) (fixed_over 10 (codes "program") refl) (lit< tt, version_over c.program g.program) in
    let decimals = over-append 10 (codes "decimals") (32 ∷ decimal c.decimals) (fixed_over 10 (codes "decimals") refl) (lit< tt, number_over c.decimals (small c.decimals g.decimals)) in
    let mesh = mark_over (codes "mesh") c.mesh (fixed_over 10 (codes "mesh") refl) g.mesh in
    let steps = mark_over (codes "steps") c.steps (fixed_over 10 (codes "steps") refl) g.steps in
    let log = mark_over (codes "log") c.log (fixed_over 10 (codes "log") refl) g.log in
    (fixed_over 10 (codes "topo card 1") refl, (program, (decimals, (mesh, (steps, (log, (fixed_over 10 (codes "end") refl, tt)))))))

pub take_lines : (k : ℕ) (lines : List (List ℕ)) → AreLines lines → AreLines (take k lines)
take_lines zero lines h = tt
take_lines (suc k) [] h = tt
take_lines (suc k) (line ∷ lines) h = (h.0, take_lines k lines h.1)

-- ---- texts that begin with lines

-- one line and what follows it
pub record LineSame (x y u v : List ℕ) : Type 0 where
  pub line : x ≡ y
  pub rest : u ≡ v

pub one_line : (x y u v : List ℕ) → IsOver 10 x → IsOver 10 y → x ++ 10 ∷ u ≡ y ++ 10 ∷ v → LineSame x y u v
one_line x y u v p q h =
    let cut = λ (t : List ℕ). slice_split (λ b. eqb b 10) t in
    let e : x ∷ cut u ≡ y ∷ cut v = sym (first_cut 10 x u p) ∙ ap cut h ∙ first_cut 10 y v q in
    let f : x ≡ y = cc in
    let g : cut u ≡ cut v = cc in
    record {
      line = f;
      rest = sym (join_with_byte-slice_split 10 u) ∙ ap (join_with_byte 10) g ∙ join_with_byte-slice_split 10 v;
    }

pub record LinesSame (xs ys : List (List ℕ)) (u v : List ℕ) : Type 0 where
  pub lines : xs ≡ ys
  pub rest : u ≡ v

pub same_lines : (xs ys : List (List ℕ)) (u v : List ℕ) → length xs ≡ length ys → AreLines xs → AreLines ys → text_of_lines xs ++ u ≡ text_of_lines ys ++ v → LinesSame xs ys u v
same_lines [] [] u v l p q h = record { lines = refl; rest = h }
same_lines [] (y ∷ ys) u v l p q h = absurd (omega (arith, l))
same_lines (x ∷ xs) [] u v l p q h = absurd (omega (arith, l))
same_lines (x ∷ xs) (y ∷ ys) u v l p q h =
    let e : x ++ 10 ∷ (text_of_lines xs ++ u) ≡ y ++ 10 ∷ (text_of_lines ys ++ v) = sym (append_assoc x (10 ∷ text_of_lines xs) u) ∙ h ∙ append_assoc y (10 ∷ text_of_lines ys) v in
    let one = one_line x y (text_of_lines xs ++ u) (text_of_lines ys ++ v) p.0 q.0 e in
    let more = same_lines xs ys u v (omega (arith, l)) p.1 q.1 one.rest in
    record { lines = ap (λ (z : List ℕ). z ∷ xs) one.line ∙ ap (λ (zs : List (List ℕ)). y ∷ zs) more.lines; rest = more.rest }

pub text_of_lines-push : (xs : List (List ℕ)) (y : List ℕ) → text_of_lines (xs ++ y ∷ []) ≡ text_of_lines xs ++ (y ++ 10 ∷ [])
text_of_lines-push [] y = refl
text_of_lines-push (x ∷ xs) y = ap (λ (t : List ℕ). x ++ 10 ∷ t) (text_of_lines-push xs y) ∙ sym (append_assoc x (10 ∷ text_of_lines xs) (y ++ 10 ∷ []))

-- ---- what is read so far

-- the lines before this index are those of the card, and this is what follows them
pub record SoFar (text : List ℕ) (k : ℕ) (card : Card) (rest : List ℕ) : Type 0 where
  pub good : IsGood card
  pub same : text ≡ text_of_lines (take k (lines_of card)) ++ rest

-- one more line of a card that has the lines before it
next_text : (k : ℕ) (c : Card) (rest : List ℕ) → k < 7 → text_of_lines (take (k + 1) (lines_of c)) ++ rest ≡ text_of_lines (take k (lines_of c)) ++ (get_or (lines_of c) k [] ++ 10 ∷ rest)
next_text k c rest lt =
    ap (λ (ls : List (List ℕ)). text_of_lines ls ++ rest) (take_more (lines_of c) k [] lt)
    ∙ ap (λ (t : List ℕ). t ++ rest) (text_of_lines-push (take k (lines_of c)) (get_or (lines_of c) k []))
    ∙ nested (text_of_lines (take k (lines_of c))) (get_or (lines_of c) k []) rest
  where
    nested : (t l r : List ℕ) → (t ++ (l ++ 10 ∷ [])) ++ r ≡ t ++ (l ++ 10 ∷ r)
    nested t l r = simp append_assoc

long : (k : ℕ) (c : Card) → k < 7 → length (take k (lines_of c)) ≡ k
long k c lt = length-take-le k (lines_of c) (omega (arith, lt))

parts : (n : ℕ) (ls : List (List ℕ)) → text_of_lines ls ≡ text_of_lines (take n ls) ++ text_of_lines (drop n ls)
parts zero ls = refl
parts (suc n) [] = refl
parts (suc n) (l ∷ ls) = ap (λ (t : List ℕ). l ++ 10 ∷ t) (parts n ls) ∙ sym (append_assoc l (10 ∷ text_of_lines (take n ls)) (text_of_lines (drop n ls)))

line_over : (n : ℕ) (ls : List (List ℕ)) → AreLines ls → IsOver 10 (get_or ls n [])
line_over zero [] g = tt
line_over (suc n) [] g = tt
line_over zero (l ∷ ls) g = g.0
line_over (suc n) (l ∷ ls) g = line_over n ls g.1

joined_more : (x : List ℕ) (ps : List (List ℕ)) → 0 < length ps → join_with_byte 10 (x ∷ ps) ≡ x ++ 10 ∷ join_with_byte 10 ps
joined_more x [] h = absurd (omega arith)
joined_more x (p ∷ ps) h = refl

-- a text that is cut is its first line, LF and what follows
pub cut_text : (rest front behind : List ℕ) → slice_split (λ b. eqb b 10) rest ≡ front ∷ slice_split (λ b. eqb b 10) behind → rest ≡ front ++ 10 ∷ behind
cut_text rest front behind e =
    sym (join_with_byte-slice_split 10 rest)
    ∙ ap (join_with_byte 10) e
    ∙ joined_more front (slice_split (λ b. eqb b 10) behind) (omega (arith, length-slice_split (λ b. eqb b 10) behind))
    ∙ ap (λ (t : List ℕ). front ++ 10 ∷ t) (join_with_byte-slice_split 10 behind)

module _ (text : List ℕ) (k : ℕ) (card : Card) (rest : List ℕ) (h : SoFar text k card rest) (lt : k < 7) where
  pub SoFar-more : (line behind : List ℕ) (new : Card) → rest ≡ line ++ 10 ∷ behind → TakesLine (k + 1) line card new → SoFar text (k + 1) new behind
  SoFar-more line behind new e t =
      let at : k + 1 - 1 ≡ k = omega arith in
      let before : take k (lines_of new) ≡ take k (lines_of card) = rw at at t.before in
      let here : line ≡ get_or (lines_of new) k [] = rw at at t.here in
      record {
        good = t.good h.good;
        same = h.same
            ∙ ap (λ (ls : List (List ℕ)). text_of_lines ls ++ rest) (sym before)
            ∙ ap (λ (r : List ℕ). text_of_lines (take k (lines_of new)) ++ r) (e ∙ ap (λ (l : List ℕ). l ++ 10 ∷ behind) here)
            ∙ sym (next_text k new behind lt);
      }

  -- a card that has one more line has the same lines before it
  other_rest : (b : BeginsAsCard (k + 1) text) → rest ≡ get_or (lines_of b.card) k [] ++ 10 ∷ b.rest
  other_rest b =
      let same : text_of_lines (take k (lines_of card)) ++ rest ≡ text_of_lines (take k (lines_of b.card)) ++ (get_or (lines_of b.card) k [] ++ 10 ∷ b.rest) = sym h.same ∙ b.begins ∙ next_text k b.card b.rest lt in
      (same_lines (take k (lines_of card)) (take k (lines_of b.card)) rest (get_or (lines_of b.card) k [] ++ 10 ∷ b.rest) (long k card lt ∙ sym (long k b.card lt)) (take_lines k (lines_of card) (lines_over card h.good)) (take_lines k (lines_of b.card) (lines_over b.card b.good)) same).rest

  -- a text that is that of a card begins with one more line of it
  begins_more : IsCard text → BeginsAsCard (k + 1) text
  begins_more c = record { card = c.card; good = c.good; rest = text_of_lines (drop (k + 1) (lines_of c.card)); begins = c.same ∙ parts (k + 1) (lines_of c.card) }

  -- no card has one more line, so this line is the first bad one
  pub bad_here : (BeginsAsCard (k + 1) text → ⊥) → IsFirstBad (k + 1) text
  bad_here never =
      let at : k + 1 - 1 ≡ k = omega arith in
      let before : BeginsAsCard k text = record { card = card; good = h.good; rest = rest; begins = h.same } in
      record { above = omega arith; below = omega (arith, lt); before = rw at before; here = λ _. never; none = λ c. never (begins_more c) }

  -- where no LF follows
  pub no_end : (front : List ℕ) → slice_split (λ b. eqb b 10) rest ≡ front ∷ [] → BeginsAsCard (k + 1) text → ⊥
  no_end front one b =
      let line = get_or (lines_of b.card) k [] in
      let over : IsOver 10 line = line_over k (lines_of b.card) (lines_over b.card b.good) in
      let cut : front ∷ [] ≡ line ∷ slice_split (λ b. eqb b 10) b.rest = sym one ∙ ap (λ (t : List ℕ). slice_split (λ b. eqb b 10) t) (other_rest b) ∙ first_cut 10 line b.rest over in
      let short : 1 ≡ suc (length (slice_split (λ b. eqb b 10) b.rest)) = ap length cut in
      absurd (omega (arith, short, length-slice_split (λ b. eqb b 10) b.rest))

  -- where the line is none of a card
  pub no_line : (front behind : List ℕ) → slice_split (λ b. eqb b 10) rest ≡ front ∷ slice_split (λ b. eqb b 10) behind → ((c : Card) → IsGood c → front ≡ line_of (k + 1) c → ⊥) → BeginsAsCard (k + 1) text → ⊥
  no_line front behind e never b =
      let at : k + 1 - 1 ≡ k = omega arith in
      let line = get_or (lines_of b.card) k [] in
      let over : IsOver 10 line = line_over k (lines_of b.card) (lines_over b.card b.good) in
      let cut : front ∷ slice_split (λ b. eqb b 10) behind ≡ line ∷ slice_split (λ b. eqb b 10) b.rest = sym e ∙ ap (λ (t : List ℕ). slice_split (λ b. eqb b 10) t) (other_rest b) ∙ first_cut 10 line b.rest over in
      let same : front ≡ line = cc in
      never b.card b.good (rw at same)

-- ---- the end

pub ended : (text : List ℕ) (card : Card) (rest : List ℕ) → SoFar text 7 card rest → rest ≡ [] → text ≡ text_of card
ended text card rest h e = h.same ∙ ap (λ (r : List ℕ). text_of card ++ r) e ∙ append-nil (text_of card)

pub too_long : (text : List ℕ) (card : Card) (rest : List ℕ) → SoFar text 7 card rest → (rest ≡ [] → ⊥) → IsFirstBad 8 text
too_long text card rest h some = record {
  above = lit< tt;
  below = omega arith;
  before = record { card = card; good = h.good; rest = rest; begins = h.same };
  here = λ le. absurd (omega (arith, le));
  none = λ c.
      let same : text_of_lines (lines_of card) ++ rest ≡ text_of_lines (lines_of c.card) ++ [] = sym h.same ∙ c.same ∙ sym (append-nil (text_of c.card)) in
      some (same_lines (lines_of card) (lines_of c.card) rest [] refl (lines_over card h.good) (lines_over c.card c.good) same).rest;
}

-- ---- a card of no job

zeros : (n : ℕ) → IsBytes (replicate n 0)
zeros zero zero = lit< tt
zeros zero (suc i) = lit< tt
zeros (suc n) zero = lit< tt
zeros (suc n) (suc i) = zeros n i

pub no_mark_good : IsMark (record { bytes = 0; digest = replicate 32 0 })
no_mark_good = record { bytes = lit< tt; digest = record { long = refl; bytes = zeros 32 } }
