-- What reading a mesh text gives: few points and faces, or a reason that a mesh text may have, at one of its lines.
use Rattle.std.proofs.Common.{◌≡◌, ℕ, suc, ◌+◌, ◌-◌, ◌*◌, ◌<◌, ◌≤◌, ◌==◌, Bool, true, false, not, cond, nat_lt, nat_le, List, [], ◌∷◌, ◌++◌, length, take, Option, Some, None, Result, Ok, Err, ℤ, subst, arith}
use Rattle.std.specs.Prelude.{slice_index, codes}
use Rattle.std.specs.List.{AllByRecursion, filter, slice_split, onto_first, enumerate_from, prefix_len}
use Rattle.std.specs.Str.{bytes_eq}
use Rattle.std.specs.Str.Lines.{lines, lines_of_parts, strip_carriage_return}
use Rattle.std.proofs.lemmas.List.{length-append, length-take}
use Rattle.std.proofs.lemmas.List.Splits.{length-slice_split}
use Rattle.std.proofs.lemmas.List.Sums.{length-filter, count_by-le-length}
use Rattle.std.proofs.lemmas.List.FromFn.{length-enumerate_from}
use Rattle.grid_base.specs.Triples.{Triple}
use Rattle.line_text.specs.declared.fault.TextWhy.{TextWhy}
use Rattle.line_text.specs.declared.fault.TextWhy.TheVariants.{Corner, Long, Unknown, Continuation}
use Rattle.line_text.specs.declared.fault.TextFault.{TextFault}
use Rattle.line_text.specs.declared.number.NumberWhy.{NumberWhy}
use Rattle.line_text.specs.declared.number.NumberWhy.TheVariants as number
use Rattle.line_text.specs.Faults.{◌>>=◌, at_line}
use Rattle.line_text.specs.Fields.{coordinate_of, coordinate_or_why}
use Rattle.line_text.specs.Numbers.{grid_number_of}
use Rattle.line_text.specs.Texts.{is_blank, is_comment, words_of}
use Rattle.line_text.proofs.LineCuts.{few_lines}
use Rattle.obj_text.specs.Obj.{corner_parts, vertex_number, corner_of, corners_of, fan, fan_after, point_of, face_of, Lists, is_skipped, words_add, is_continued, line_adds, lines_add, lists_of}
use Rattle.log_read.specs.Laws.{IsFrom, IsWhyOf}

-- a value of this kind, or a reason that a text without groups may have
abbrev Reads : {X : Type 0} → (X → Type 0) → Result X TextWhy → Type 0
Reads P (Ok x) = P x
Reads P (Err why) = IsWhyOf false why

abbrev Any : {X : Type 0} → X → Type 0
Any x = Unit {0}

then_reads : {X Y : Type 0} (P : X → Type 0) (Q : Y → Type 0) (read : Result X TextWhy) (next : X → Result Y TextWhy) → Reads P read → ((x : X) → P x → Reads Q (next x)) → Reads Q (read >>= next)
then_reads P Q (Ok x) next h more = more x h
then_reads P Q (Err why) next h more = h

either_reads : {X : Type 0} (P : X → Type 0) (b : Bool) (x y : Result X TextWhy) → Reads P x → Reads P y → Reads P (cond b x y)
either_reads P true x y h k = h
either_reads P false x y h k = k

-- ---- words
coordinate_reads : (decimals : ℕ) (word : List ℕ) → Reads Any (coordinate_of decimals word)
unfolding coordinate_of
coordinate_reads decimals word = by_number (grid_number_of decimals word)
  where
    by_number : (r : Result ℤ NumberWhy) → Reads Any (coordinate_or_why r)
    by_number (Ok n) = tt
    by_number (Err number.Form) = tt
    by_number (Err number.Range) = tt

corner_reads : (read : ℕ) (word : List ℕ) → Reads Any (corner_of read word)
unfolding corner_of
corner_reads read word = by_parts (corner_parts (slice_split (λ b. b == 47) word))
  where
    by_parts : (o : Option (Bool × ℕ)) → Reads Any (vertex_number read o)
    by_parts None = tt
    by_parts (Some i) = either_reads Any (i.1 == 0) (Err Corner) _ tt
        (either_reads Any i.0 _ _ (either_reads Any (nat_le i.1 read) (Ok (read + 1 - i.1)) (Err Corner) tt tt) (either_reads Any (nat_lt i.1 4294967296) (Ok i.1) (Err Corner) tt tt))

-- no more numbers than so many
abbrev AreFew : {X : Type 0} → ℕ → List X → Type 0
AreFew n xs = length xs ≤ n

corners_read : (read : ℕ) (words : List (List ℕ)) → Reads (AreFew (length words)) (corners_of read words)
unfolding corners_of
corners_read read [] = let none : 0 ≤ 0 = omega arith in none
corners_read read (word ∷ words) =
    then_reads Any (AreFew (suc (length words))) (corner_of read word) (λ corner. corners_of read words >>= λ corners. Ok (corner ∷ corners)) (corner_reads read word)
    (λ corner _. then_reads (AreFew (length words)) (AreFew (suc (length words))) (corners_of read words) (λ corners. Ok (corner ∷ corners)) (corners_read read words)
    (λ corners few. one_more (length corners) (length words) few))
  where
    one_more : (a b : ℕ) → a ≤ b → suc a ≤ suc b
    one_more a b h = omega arith

point_reads : (decimals : ℕ) (words : List (List ℕ)) → Reads Any (point_of decimals words)
unfolding point_of
point_reads decimals [] = tt
point_reads decimals (x ∷ []) = tt
point_reads decimals (x ∷ y ∷ []) = tt
point_reads decimals (x ∷ y ∷ z ∷ others) = either_reads Any (nat_lt 4 (length others)) (Err Long) _ tt
    (then_reads Any Any (coordinate_of decimals x) (λ a. coordinate_of decimals y >>= λ b. coordinate_of decimals z >>= λ c. Ok (point a b c)) (coordinate_reads decimals x)
    (λ a _. then_reads Any Any (coordinate_of decimals y) (λ b. coordinate_of decimals z >>= λ c. Ok (point a b c)) (coordinate_reads decimals y)
    (λ b _. then_reads Any Any (coordinate_of decimals z) (λ c. Ok (point a b c)) (coordinate_reads decimals z) (λ c _. tt))))
  where
    point : ℤ → ℤ → ℤ → Triple
    point a b c = record { x = a; y = b; z = c }

face_reads : (read : ℕ) (words : List (List ℕ)) → Reads (AreFew (length words)) (face_of read words)
unfolding face_of
face_reads read [] = tt
face_reads read (a ∷ []) = tt
face_reads read (a ∷ b ∷ []) = tt
face_reads read (a ∷ b ∷ c ∷ others) = corners_read read (a ∷ b ∷ c ∷ others)

few_after : (a b : ℕ) (corners : List ℕ) → length (fan_after a b corners) ≤ length corners
few_after a b [] = omega arith
few_after a b (c ∷ corners) = let rest = few_after a c corners in omega arith

few_in_fan : (corners : List ℕ) → length (fan corners) ≤ length corners
few_in_fan [] = omega arith
few_in_fan (a ∷ []) = omega arith
few_in_fan (a ∷ b ∷ corners) = let rest = few_after a b corners in omega arith

-- ---- lines

-- one point more at most, and so many faces
record AddsFew (before : Lists) (count : ℕ) (more : Lists) : Type 0 where
  pub points : length more.points ≤ length before.points + 1
  pub faces : length more.faces ≤ length before.faces + count

none_added : (before : Lists) (count : ℕ) → AddsFew before count before
none_added before count = record { points = omega arith; faces = omega arith }

words_read : (decimals : ℕ) (lists : Lists) (words : List (List ℕ)) → Reads (AddsFew lists (length words)) (words_add decimals lists words)
unfolding words_add
words_read decimals lists [] = none_added lists 0
words_read decimals lists (first ∷ words) =
    either_reads (AddsFew lists (suc (length words))) (bytes_eq first (codes "v")) _ _
    (then_reads Any (AddsFew lists (suc (length words))) (point_of decimals words) (λ point. Ok (record { points = lists.points ++ point ∷ []; faces = lists.faces })) (point_reads decimals words) (λ point _. one_point point))
    (either_reads (AddsFew lists (suc (length words))) (bytes_eq first (codes "f")) _ _
    (then_reads (AreFew (length words)) (AddsFew lists (suc (length words))) (face_of (length lists.points) words) (λ corners. Ok (record { points = lists.points; faces = lists.faces ++ fan corners })) (face_reads (length lists.points) words) some_faces)
    (either_reads (AddsFew lists (suc (length words))) (is_skipped first) (Ok lists) (Err Unknown) (none_added lists (suc (length words))) tt))
  where
    one_point : (point : Triple) → AddsFew lists (suc (length words)) (record { points = lists.points ++ point ∷ []; faces = lists.faces })
    one_point point = record { points = omega (arith, length-append lists.points (point ∷ [])); faces = omega arith }

    some_faces : (corners : List ℕ) → AreFew (length words) corners → AddsFew lists (suc (length words)) (record { points = lists.points; faces = lists.faces ++ fan corners })
    some_faces corners few = record { points = omega arith; faces = omega (arith, length-append lists.faces (fan corners), few_in_fan corners, few) }

few_words : (line : List ℕ) → length (words_of line) ≤ length line + 1
unfolding words_of
few_words line =
    let parts = slice_split is_blank line in
    let full : List ℕ → Bool = λ word. not (length word == 0) in
    let a = length-take (prefix_len (λ word. not (is_comment word)) (filter full parts)) (filter full parts) in
    let b = length-filter full parts in
    let c = count_by-le-length full parts in
    let d = length-slice_split is_blank line in
    let e = count_by-le-length is_blank line in
    omega (arith, a, b, c, d, e)

line_reads : (decimals most : ℕ) (lists : Lists) (line : List ℕ) → length line ≤ most → Reads (AddsFew lists (most + 1)) (line_adds decimals lists line)
unfolding line_adds
line_reads decimals most lists line short = either_reads (AddsFew lists (most + 1)) (is_continued line) (Err Continuation) _ tt (more_read (words_add decimals lists (words_of line)) (words_read decimals lists (words_of line)))
  where
    more_read : (r : Result Lists TextWhy) → Reads (AddsFew lists (length (words_of line))) r → Reads (AddsFew lists (most + 1)) r
    more_read (Ok more) h = let a = h.points in let b = h.faces in record { points = a; faces = omega (arith, b, few_words line, short) }
    more_read (Err why) h = h

-- ---- the lines of a text are no longer than the text
abbrev AreShort : ℕ → List (List ℕ) → Type 0
AreShort most parts = AllByRecursion (λ part. length part ≤ most) parts

still_short : (n m : ℕ) (parts : List (List ℕ)) → n ≤ m → AreShort n parts → AreShort m parts
still_short n m [] few h = tt
still_short n m (part ∷ parts) few h = let first = h.0 in (omega arith, still_short n m parts few h.1)

parts_short : (test : ℕ → Bool) (xs : List ℕ) → AreShort (length xs) (slice_split test xs)
parts_short test [] = (omega arith, tt)
parts_short test (x ∷ xs) = by_test (test x) (slice_split test xs) (parts_short test xs)
  where
    by_test : (b : Bool) (parts : List (List ℕ)) → AreShort (length xs) parts → AreShort (suc (length xs)) (cond b ([] ∷ parts) (onto_first x parts))
    by_test true parts h = (omega arith, still_short (length xs) (suc (length xs)) parts (omega arith) h)
    by_test false [] h = (omega arith, tt)
    by_test false (part ∷ parts) h = let first = h.0 in (omega arith, still_short (length xs) (suc (length xs)) parts (omega arith) h.1)

stripped_short : (n : ℕ) (part : List ℕ) → length part ≤ n → length (strip_carriage_return part) ≤ n
stripped_short n part h = by_test (slice_index part (length part - 1) == 13)
  where
    by_test : (b : Bool) → length (cond b (take (length part - 1) part) part) ≤ n
    by_test true = omega (arith, length-take (length part - 1) part)
    by_test false = h

lines_short : (n : ℕ) (parts : List (List ℕ)) → AreShort n parts → AreShort n (lines_of_parts parts)
lines_short n [] h = tt
lines_short n (part ∷ []) h = by_test (length part == 0)
  where
    by_test : (b : Bool) → AreShort n (cond b [] (part ∷ []))
    by_test true = tt
    by_test false = h
lines_short n (part ∷ next ∷ more) h = (stripped_short n part h.0, lines_short n (next ∷ more) h.1)

-- ---- all lines

-- lists that so many lines gave, or a fault at one of the lines from a number on
record GivesFew (before : Lists) (count most : ℕ) (more : Lists) : Type 0 where
  pub points : length more.points ≤ length before.points + count
  pub faces : length more.faces ≤ length before.faces + count * (most + 1)

record IsAtLine (first count : ℕ) (fault : TextFault) : Type 0 where
  pub low : first ≤ fault.line
  pub high : fault.line < first + count
  pub why : IsWhyOf false fault.why

abbrev ReadsLines : Lists → ℕ → ℕ → ℕ → Result Lists TextFault → Type 0
ReadsLines before first count most (Ok more) = GivesFew before count most more
ReadsLines before first count most (Err fault) = IsAtLine first count fault

one_then : (before more : Lists) (first count most : ℕ) (r : Result Lists TextFault) → AddsFew before (most + 1) more → ReadsLines more (first + 1) count most r → ReadsLines before first (suc count) most r
one_then before more first count most (Ok last) one rest =
    let a = one.points in
    let b = one.faces in
    let c = rest.points in
    let d = rest.faces in
    record { points = omega (arith, a, c); faces = one_more (length before.faces) (length more.faces) (length last.faces) count most b d }
  where
    one_more : (x y z k m : ℕ) → y ≤ x + (m + 1) → z ≤ y + k * (m + 1) → z ≤ x + suc k * (m + 1)
    one_more x y z k m h l = omega arith
one_then before more first count most (Err fault) one rest = let a = rest.low in let b = rest.high in record { low = omega (arith, a); high = omega (arith, b); why = rest.why }

lines_read : (decimals most first : ℕ) (lists : Lists) (rest : List (List ℕ)) → AreShort most rest → ReadsLines lists first (length rest) most (lines_add decimals lists (enumerate_from first rest))
lines_read decimals most first lists [] short = record { points = omega arith; faces = omega arith }
lines_read decimals most first lists (line ∷ rest) short = by_line (line_adds decimals lists line) (line_reads decimals most lists line short.0) (λ more. lines_read decimals most (first + 1) more rest short.1)
  where
    by_line : (r : Result Lists TextWhy) → Reads (AddsFew lists (most + 1)) r → ((more : Lists) → ReadsLines more (first + 1) (length rest) most (lines_add decimals more (enumerate_from (first + 1) rest)))
        → ReadsLines lists first (suc (length rest)) most (at_line first r >>= λ more. lines_add decimals more (enumerate_from (first + 1) rest))
    by_line (Ok more) one later = one_then lists more first (length rest) most (lines_add decimals more (enumerate_from (first + 1) rest)) one (later more)
    by_line (Err why) h later = record { low = omega arith; high = omega arith; why = h }

abbrev none : Lists
none = record { points = []; faces = [] }

text_read : (decimals : ℕ) (bytes : List ℕ) → ReadsLines none 1 (length (lines bytes)) (length bytes) (lists_of decimals bytes)
text_read decimals bytes = lines_read decimals (length bytes) 1 none (lines bytes) (lines_short (length bytes) (slice_split (λ b. b == 10) bytes) (parts_short (λ b. b == 10) bytes))

pub line_count : (bytes : List ℕ) → length (lines bytes) ≤ length bytes
line_count bytes = let numbered = length-enumerate_from 1 (lines bytes) in omega (arith, few_lines 1 bytes, numbered)

-- a fault is at one of the lines, of which there are no more than bytes
pub fault_at_line : (decimals : ℕ) (bytes : List ℕ) (fault : TextFault) → lists_of decimals bytes ≡ Err fault → IsFrom 1 (length bytes) fault.line × IsWhyOf false fault.why
fault_at_line decimals bytes fault e =
    let at = subst (ReadsLines none 1 (length (lines bytes)) (length bytes)) e (text_read decimals bytes) in
    let low = at.low in
    let high = at.high in
    ((low, omega (arith, high, line_count bytes)), at.why)

-- lists have no more points and faces than this
pub few_given : (decimals : ℕ) (bytes : List ℕ) (lists : Lists) → lists_of decimals bytes ≡ Ok lists → (length lists.points ≤ length bytes) × (length lists.faces ≤ length (lines bytes) * (length bytes + 1))
few_given decimals bytes lists e =
    let few = subst (ReadsLines none 1 (length (lines bytes)) (length bytes)) e (text_read decimals bytes) in
    let points = few.points in
    let faces = few.faces in
    (omega (arith, points, line_count bytes), omega (arith, faces))
