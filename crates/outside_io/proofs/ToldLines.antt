-- The lines of a text with more bytes at its end.
use Rattle.std.proofs.Common.{◌≡◌, ℕ, zero, suc, ◌+◌, ◌<◌, ◌≤◌, ◌≢◌, Bool, true, false, ◌==◌, ◌&&◌, if◌then◌else◌, List, [], ◌∷◌, ◌++◌, length, take, count_by, nat_eq, refl, sym, ap, ◌∙◌, arith}
use Rattle.std.proofs.Common.{cond, set, append-nil, length-append, length-take, add-one}
use Rattle.std.proofs.Math.Seq.{length-take-le, take_all, take-append-le, take-suc-set}
use Rattle.std.proofs.lemmas.Bool.{ne_eqb}
use Rattle.std.proofs.lemmas.List.Sums.{sum_by-append}
use Rattle.std.specs.Str.{bytes_eq}
use Rattle.outside_io.specs.ToldLines.{LF, ended_behind, open_behind, ended_lines, open_line, lines_in, capped}

-- the lines of two texts, one behind the other
pub ended-append : (front xs ys : List ℕ) → ended_behind front (xs ++ ys) ≡ ended_behind front xs ++ ended_behind (open_behind front xs) ys
ended-append front [] ys = refl
ended-append front (b ∷ xs) ys =
    elim (b == LF) as (λ v. (if v then front ∷ ended_behind [] (xs ++ ys) else ended_behind (front ++ b ∷ []) (xs ++ ys)) ≡ (if v then front ∷ ended_behind [] xs else ended_behind (front ++ b ∷ []) xs) ++ ended_behind (if v then open_behind [] xs else open_behind (front ++ b ∷ []) xs) ys)
    [ true ↦ ap (λ ls. front ∷ ls) (ended-append [] xs ys) | false ↦ ended-append (front ++ b ∷ []) xs ys ]

pub open-append : (front xs ys : List ℕ) → open_behind front (xs ++ ys) ≡ open_behind (open_behind front xs) ys
open-append front [] ys = refl
open-append front (b ∷ xs) ys =
    elim (b == LF) as (λ v. (if v then open_behind [] (xs ++ ys) else open_behind (front ++ b ∷ []) (xs ++ ys)) ≡ open_behind (if v then open_behind [] xs else open_behind (front ++ b ∷ []) xs) ys)
    [ true ↦ open-append [] xs ys | false ↦ open-append (front ++ b ∷ []) xs ys ]

-- what stands still at its end stands still with more
pub capped-more : (n k : ℕ) → capped (capped n + k) ≡ capped (n + k)
capped-more n k = omega arith

-- a line ends
pub ended-LF : (text : List ℕ) → ended_lines (text ++ LF ∷ []) ≡ ended_lines text ++ open_line text ∷ []
ended-LF text = ended-append [] text (LF ∷ [])

pub open-LF : (text : List ℕ) → open_line (text ++ LF ∷ []) ≡ []
open-LF text = open-append [] text (LF ∷ [])

-- a line goes on
pub ended-other : (text : List ℕ) (b : ℕ) → b ≢ LF → ended_lines (text ++ b ∷ []) ≡ ended_lines text
ended-other text b other = ended-append [] text (b ∷ []) ∙ rw (ne_eqb b LF other) (append-nil (ended_lines text))

pub open-other : (text : List ℕ) (b : ℕ) → b ≢ LF → open_line (text ++ b ∷ []) ≡ open_line text ++ b ∷ []
open-other text b other = open-append [] text (b ∷ []) ∙ rw (ne_eqb b LF other)

-- a text that is short is told by the first bytes of another
pub eq-take : (n : ℕ) (xs s : List ℕ) → length s < n → bytes_eq (take n xs) s ≡ bytes_eq xs s
eq-take zero xs s h = absurd (omega arith)
eq-take (suc n) [] [] h = refl
eq-take (suc n) [] (y ∷ s) h = refl
eq-take (suc n) (x ∷ xs) [] h = refl
eq-take (suc n) (x ∷ xs) (y ∷ s) h = ap (λ v. nat_eq x y && v) (eq-take n xs s (omega arith))

-- one more of a kind, behind others
pub count-more : (p : List ℕ → Bool) (lines : List (List ℕ)) (line : List ℕ) → count_by p (lines ++ line ∷ []) ≡ count_by p lines + (if p line then 1 else 0)
count-more p lines line = sum_by-append (λ l. cond (p l) 1 0) lines (line ∷ []) ∙ elim (p line) as (λ v. count_by p lines + (0 + cond v 1 0) ≡ count_by p lines + (if v then 1 else 0)) [ true ↦ omega arith | false ↦ omega arith ]

-- a line ends, and is counted
pub counts-LF : (p : List ℕ → Bool) (text : List ℕ) → capped (capped (count_by p (ended_lines text)) + (if p (open_line text) then 1 else 0)) ≡ capped (count_by p (ended_lines (text ++ LF ∷ [])))
counts-LF p text = rw (ended-LF text, count-more p (ended_lines text) (open_line text)) (capped-more (count_by p (ended_lines text)) (if p (open_line text) then 1 else 0))

pub counts-lines : (text : List ℕ) → capped (capped (lines_in text) + 1) ≡ capped (lines_in (text ++ LF ∷ []))
counts-lines text = rw (ended-LF text, length-append (ended_lines text) (open_line text ∷ [])) (capped-more (length (ended_lines text)) 1)

-- the kept bytes of the open line with one more
pub kept-more : (line front : List ℕ) (len b : ℕ) → length front ≡ 12 → len < 12 → take len front ≡ take 12 line → take (len + 1) (set front len b) ≡ take 12 (line ++ b ∷ [])
kept-more line front len b size below same =
    let kept : length (take len front) ≡ len = length-take-le len front (omega arith) in
    let short : length line ≡ len = omega (arith, length-take 12 line, sym (ap length same) ∙ kept) in
    let whole : take len front ≡ line = same ∙ take_all 12 line (omega arith) in
    let more : take (suc len) (set front len b) ≡ take len front ++ b ∷ [] = take-suc-set front len b (omega arith) in
    let all : take 12 (line ++ b ∷ []) ≡ line ++ b ∷ [] = take_all 12 (line ++ b ∷ []) (omega (arith, length-append line (b ∷ []))) in
    rw add-one (more ∙ ap (λ l. l ++ b ∷ []) whole ∙ sym all)

-- and where so many are kept already
pub kept-full : (line front : List ℕ) (len b : ℕ) → length front ≡ 12 → len ≤ 12 → 12 ≤ len → take len front ≡ take 12 line → take len front ≡ take 12 (line ++ b ∷ [])
kept-full line front len b size at_most least same =
    let kept : length (take len front) ≡ len = length-take-le len front (omega arith) in
    let long : 12 ≤ length line = omega (arith, length-take 12 line, sym (ap length same) ∙ kept) in
    same ∙ sym (take-append-le 12 line (b ∷ []) long)
