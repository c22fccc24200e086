-- A text of which one certificate after another is read.
use Rattle.std.proofs.Common.{◌≡◌, ℕ, zero, suc, ◌+◌, ◌-◌, ◌<◌, ◌≤◌, Bool, true, false, eqb, ltb, List, [], ◌∷◌, ◌++◌, append-nil, append_assoc, length, drop, Option, Some, None, Result, Ok, Err, refl, sym, ap, ◌∙◌, subst, arith}
use Rattle.std.specs.Prelude.{if◌then◌else◌}
use Rattle.std.specs.List.{join_with_byte}
use Rattle.std.proofs.lemmas.Bool.{false≢true}
use Rattle.std.proofs.lemmas.List.{length-append, drop-drop, drop_all}
use Rattle.std.proofs.lemmas.List.Splits.{join_with_byte-slice_split}
use Rattle.grid_base.specs.declared.TheConstants.{DEPTH_MAX}
use Rattle.line_text.specs.declared.TextWhy.{TextWhy}
use Rattle.line_text.specs.declared.TextWhy.TheVariants as why
use Rattle.line_text.specs.declared.TextFault.{TextFault}
use Rattle.line_text.specs.declared.ReadFault.{ReadFault}
use Rattle.line_text.specs.declared.ReadFault.TheVariants as faults
use Rattle.line_text.specs.Faults.{◌>>=◌, at_line, Fails, Gives}
use Rattle.line_text.specs.Spellings.{spaced_words}
use Rattle.line_text.proofs.ReadSteps.{bound, ok_same, by_test, fault_value}
use Rattle.proof_text.specs.declared.proof_line.ProofLine.{ProofLine}
use Rattle.proof_text.specs.declared.proof_line.ProofLine.TheVariants as line
use Rattle.proof_text.specs.declared.proof_at.ProofAt.{ProofAt}
use Rattle.proof_text.specs.declared.reader.State.{State}
use Rattle.proof_text.specs.declared.reader.State.TheVariants.{Ended}
use Rattle.proof_text.specs.Views.{proofs_view, state_view}
use Rattle.proof_text.specs.Plain.{PlainTree, leaf, halves, PlainProof}
use Rattle.proof_text.specs.Reading.{line_of}
use Rattle.proof_text.specs.Order.{Above, Standing, start, head, within, open_at, ended, SoFar, so_far, begun, follows, put, take_line, or_order, line_adds, closed, parts_add, parts_of_text, proofs_of}
use Rattle.proof_text.specs.Laws.{AreProofs, IsGood}
use Rattle.proof_text.specs.Ahead.{rest_of, HasProofs, proofs_in, proofs_ahead, IsAhead, IsChecked, PassesLine, ReadsOn}
use Rattle.proof_text.proofs.LineReads.{read_is_spelled}
use Rattle.proof_text.proofs.SoFarLaws.{proof_alone, no_proofs}
use Rattle.proof_text.proofs.TextLaws.{some_parts, parts_more, at_line-ok, proofs_are_their_texts_lem}
use Rattle.proof_text.proofs.TextParts.{PartsLeft, PartsLeft-more, PartsLeft-fails, good_line}

-- ---- certificates that are whole before a line do not change what it does

-- the same with further certificates before the whole ones
abbrev onto : {E : Type 0} → List PlainProof → Result SoFar E → Result SoFar E
onto pre (Ok s) = Ok (so_far (pre ++ s.whole) s.at)
onto pre (Err e) = Err e

taken_if : (pre whole more : List PlainProof) (at : Standing) (t : Bool) → pre ++ whole ≡ more → or_order (if t then Some (so_far more at) else None) ≡ onto pre (or_order (if t then Some (so_far whole at) else None))
taken_if pre whole more at true e = ap (λ (w : List PlainProof). Ok (so_far w at)) (sym e)
taken_if pre whole more at false e = refl

taken_onto : (pre whole : List PlainProof) (at : Standing) (l : ProofLine) → or_order (take_line (pre ++ whole) at l) ≡ onto pre (or_order (take_line whole at l))
taken_onto pre whole start line.First = refl
taken_onto pre whole start (line.Motion n claim) = refl
taken_onto pre whole start (line.Pair pair) = refl
taken_onto pre whole start (line.Dir n) = refl
taken_onto pre whole start line.Half = refl
taken_onto pre whole start line.End = refl
taken_onto pre whole head line.First = refl
taken_onto pre whole head (line.Motion n claim) = refl
taken_onto pre whole head (line.Pair pair) = refl
taken_onto pre whole head (line.Dir n) = refl
taken_onto pre whole head line.Half = refl
taken_onto pre whole head line.End = refl
taken_onto pre whole (within p) line.First = refl
taken_onto pre whole (within p) (line.Motion n claim) = taken_if pre (whole ++ p ∷ []) ((pre ++ whole) ++ p ∷ []) (within (begun n claim)) (ltb p.line n) (sym (append_assoc pre whole (p ∷ [])))
taken_onto pre whole (within p) (line.Pair pair) = taken_if pre whole (pre ++ whole) (open_at p pair []) (follows p.entries pair) refl
taken_onto pre whole (within p) (line.Dir n) = refl
taken_onto pre whole (within p) line.Half = refl
taken_onto pre whole (within p) line.End = ap (λ (w : List PlainProof). Ok (so_far w ended)) (append_assoc pre whole (p ∷ []))
taken_onto pre whole (open_at p pair above) line.First = refl
taken_onto pre whole (open_at p pair above) (line.Motion n claim) = refl
taken_onto pre whole (open_at p pair above) (line.Pair other) = refl
taken_onto pre whole (open_at p pair above) (line.Dir n) = refl
taken_onto pre whole (open_at p pair above) line.Half = taken_if pre whole (pre ++ whole) (open_at p pair (None ∷ above)) (ltb (length above) DEPTH_MAX) refl
taken_onto pre whole (open_at p pair above) line.End = refl
taken_onto pre whole ended line.First = refl
taken_onto pre whole ended (line.Motion n claim) = refl
taken_onto pre whole ended (line.Pair pair) = refl
taken_onto pre whole ended (line.Dir n) = refl
taken_onto pre whole ended line.Half = refl
taken_onto pre whole ended line.End = refl

line_onto : (pre whole : List PlainProof) (at : Standing) (read : Result ProofLine TextWhy) → (read >>= λ l. or_order (take_line (pre ++ whole) at l)) ≡ onto pre (read >>= λ l. or_order (take_line whole at l))
line_onto pre whole at (Ok l) = taken_onto pre whole at l
line_onto pre whole at (Err w) = refl

-- ---- one line

onto_ok : (n : ℕ) (pre : List PlainProof) (read : Result SoFar TextWhy) (more : SoFar) → at_line n (onto pre read) ≡ Ok more → (s : SoFar) × ((read ≡ Ok s) × (so_far (pre ++ s.whole) s.at ≡ more))
onto_ok n pre (Ok s) more h = (s, (refl, ok_same (so_far (pre ++ s.whole) s.at) more h))
onto_ok n pre (Err w) more h = fault_value (record { line = n; why = w }) more h

onto_passes : (n : ℕ) (pre : List PlainProof) (read : Result SoFar TextWhy) (s : SoFar) → at_line n read ≡ Ok s → at_line n (onto pre read) ≡ Ok (so_far (pre ++ s.whole) s.at)
onto_passes n pre (Ok r) s h = ap (λ (s : SoFar). Ok (so_far (pre ++ s.whole) s.at)) (ok_same r s h)
onto_passes n pre (Err w) s h = fault_value (record { line = n; why = w }) s h

onto_fails : (n : ℕ) (pre : List PlainProof) (read : Result SoFar TextWhy) (fault : ReadFault) → Fails fault (at_line n read) → Fails fault (at_line n (onto pre read))
onto_fails n pre read faults.NoMemory h = tt
onto_fails n pre (Ok r) (faults.Text f) h = absurd (let no : ⊥ = cc in no)
onto_fails n pre (Err w) (faults.Text f) h = ap (λ (f : TextFault). Err f) (let e : record { line = n; why = w } ≡ f = cc in e)

module _ (whole : List PlainProof) (at : Standing) (number : ℕ) (ended_is : Bool) (text : List ℕ) where
  here : line_adds (so_far whole at) ended_is text ≡ onto whole (line_adds (so_far [] at) ended_is text)
  here =
      ap (λ (w : List PlainProof). line_adds (so_far w at) ended_is text) (sym (append-nil whole))
      ∙ line_onto whole [] at (line_of ended_is (spaced_words text))

  -- a line that was taken where no certificate is whole is taken behind any
  pub passes : (s : SoFar) → at_line number (line_adds (so_far [] at) ended_is text) ≡ Ok s → at_line number (line_adds (so_far whole at) ended_is text) ≡ Ok (so_far (whole ++ s.whole) s.at)
  passes s h = ap (at_line number) here ∙ onto_passes number whole (line_adds (so_far [] at) ended_is text) s h

  pub passes_not : (fault : ReadFault) → Fails fault (at_line number (line_adds (so_far [] at) ended_is text)) → Fails fault (at_line number (line_adds (so_far whole at) ended_is text))
  passes_not fault h =
      let P : Result SoFar TextWhy → Type 0 = λ r. Fails fault (at_line number r) in
      subst P (sym here) (onto_fails number whole (line_adds (so_far [] at) ended_is text) fault h)

-- ---- what is left behind certificates

record Behind (pre whole : List PlainProof) (at : Standing) (number : ℕ) (parts : List (List ℕ)) (ps : List PlainProof) : Type 0 where
  tail : List PlainProof
  is : ps ≡ pre ++ tail
  read : parts_add (so_far whole at) number parts ≡ Ok tail

closed_behind : (n m : ℕ) (pre whole : List PlainProof) (at : Standing) (ps : List PlainProof) → closed n (pre ++ whole) at ≡ Ok ps → (tail : List PlainProof) × ((ps ≡ pre ++ tail) × (closed m whole at ≡ Ok tail))
closed_behind n m pre whole start ps h = fault_value (record { line = n; why = why.Order }) ps h
closed_behind n m pre whole head ps h = fault_value (record { line = n; why = why.Order }) ps h
closed_behind n m pre whole (within p) ps h = fault_value (record { line = n; why = why.Order }) ps h
closed_behind n m pre whole (open_at p pair above) ps h = fault_value (record { line = n; why = why.Order }) ps h
closed_behind n m pre whole ended ps h = (whole, (sym (ok_same (pre ++ whole) ps h), refl))

behind : (n m : ℕ) (pre whole : List PlainProof) (at : Standing) (parts : List (List ℕ)) (ps : List PlainProof) → parts_add (so_far (pre ++ whole) at) n parts ≡ Ok ps → Behind pre whole at m parts ps
behind n m pre whole at [] ps h = let c = closed_behind n m pre whole at ps h in record { tail = c.0; is = c.1.0; read = c.1.1 }
behind n m pre whole at (last ∷ []) ps h = by_test (eqb (length last) 0) (closed n (pre ++ whole) at) (at_line n (line_adds (so_far (pre ++ whole) at) false last) >>= λ more. closed (n + 1) more.whole more.at) (Ok ps)
    (λ t e. let c = closed_behind n m pre whole at ps e in record { tail = c.0; is = c.1.0; read = rw t c.1.1 })
    (λ t e.
    let d = bound (at_line n (line_adds (so_far (pre ++ whole) at) false last)) (λ (more : SoFar). closed (n + 1) more.whole more.at) ps e in
    let o = onto_ok n pre (line_adds (so_far whole at) false last) d.value (ap (at_line n) (sym (line_onto pre whole at (line_of false (spaced_words last)))) ∙ d.first) in
    let c = closed_behind (n + 1) (m + 1) pre o.0.whole o.0.at ps (ap (λ (s : SoFar). closed (n + 1) s.whole s.at) o.1.1 ∙ d.after) in
    record { tail = c.0; is = c.1.0; read = rw t (ap (λ (r : Result SoFar TextWhy). at_line m r >>= λ more. closed (m + 1) more.whole more.at) o.1.0 ∙ c.1.1) })
    h
behind n m pre whole at (part ∷ next ∷ parts) ps h =
    let d = bound (at_line n (line_adds (so_far (pre ++ whole) at) true part)) (λ (more : SoFar). parts_add more (n + 1) (next ∷ parts)) ps h in
    let o = onto_ok n pre (line_adds (so_far whole at) true part) d.value (ap (at_line n) (sym (line_onto pre whole at (line_of true (spaced_words part)))) ∙ d.first) in
    let i = behind (n + 1) (m + 1) pre o.0.whole o.0.at (next ∷ parts) ps (ap (λ (s : SoFar). parts_add s (n + 1) (next ∷ parts)) o.1.1 ∙ d.after) in
    record {
      tail = i.tail;
      is = i.is;
      read = ap (λ (r : Result SoFar TextWhy). at_line m r >>= λ more. parts_add more (m + 1) (next ∷ parts)) o.1.0 ∙ i.read;
    }

-- ---- the first pass over a text

pub passes_line : (whole : List PlainProof) (at : Standing) (number : ℕ) (ended_is : Bool) (text : List ℕ) (none found : List ProofAt) → none ≡ [] → (r : Result State ReadFault)
    → Gives (λ s. so_far (proofs_view found) (state_view s)) r (at_line number (line_adds (so_far (proofs_view none) at) ended_is text)) → PassesLine whole at number ended_is text r
passes_line whole at number ended_is text none found is (Ok state) h =
    let P : List ProofAt → Type 0 = λ l. at_line number (line_adds (so_far (proofs_view l) at) ended_is text) ≡ Ok (so_far (proofs_view found) (state_view state)) in
    (whole ++ proofs_view found, passes whole at number ended_is text (so_far (proofs_view found) (state_view state)) (subst P is h))
passes_line whole at number ended_is text none found is (Err fault) h =
    let P : List ProofAt → Type 0 = λ l. Fails fault (at_line number (line_adds (so_far (proofs_view l) at) ended_is text)) in
    passes_not whole at number ended_is text fault (subst P is h)

-- what was read of a text stays in order where certificates are forgotten
no_more : (at : Standing) (whole : List PlainProof) → IsGood whole at → IsGood [] at
no_more start whole h = refl
no_more head whole h = refl
no_more (within p) whole h = proof_alone whole p h
no_more (open_at p pair above) whole h = (proof_alone whole p h.0, h.1)
no_more ended whole h = no_proofs

-- the certificates so far, and what the whole text gives
abbrev pub Checking : List ℕ → Standing → ℕ → List ℕ → Type 0
Checking bytes at number rest = (whole : List PlainProof) × PartsLeft bytes (so_far whole at) number rest

pub checking_good : (bytes : List ℕ) (at : Standing) (number : ℕ) (rest : List ℕ) → Checking bytes at number rest → IsGood [] at
checking_good bytes at number rest h = no_more at h.0 h.1.good

module _ (bytes : List ℕ) (at : Standing) (number : ℕ) (rest part next : List ℕ) (cut : parts_of_text rest ≡ part ∷ parts_of_text next) (h : Checking bytes at number rest) where
  pub checking_more : (state : State) → ((whole : List PlainProof) → PassesLine whole at number true part (Ok state)) → Checking bytes (state_view state) (number + 1) next
  checking_more state p =
      let m = p h.0 in
      (m.0, PartsLeft-more bytes (so_far h.0 at) number rest part next cut h.1 (so_far m.0 (state_view state)) m.1)

  pub checking_fails : (fault : ReadFault) → ((whole : List PlainProof) → PassesLine whole at number true part (Err fault)) → Fails fault (proofs_of bytes)
  checking_fails fault p = PartsLeft-fails bytes (so_far h.0 at) number rest part next cut h.1 fault (p h.0)

pub checked_last : (whole : List PlainProof) (at : Standing) (last : List ℕ) (number : ℕ) → eqb (length last) 0 ≡ false → (state : State) → PassesLine whole at number false last (Ok state)
    → (r : Result (Unit {0}) ReadFault) → ((more : List PlainProof) → IsChecked r (closed (number + 1) more (state_view state))) → IsChecked r (parts_add (so_far whole at) number (last ∷ []))
checked_last whole at last number t state p r h =
    let e : parts_add (so_far whole at) number (last ∷ []) ≡ closed (number + 1) p.0 (state_view state) =
    rw t (ap (λ (x : Result SoFar TextFault). x >>= λ more. closed (number + 1) more.whole more.at) p.1) in
    subst (λ (x : Result (List PlainProof) TextFault). IsChecked r x) (sym e) (h p.0)

-- ---- one certificate after another

parted : (part : List ℕ) (parts : List (List ℕ)) → 0 < length parts → join_with_byte 10 (part ∷ parts) ≡ part ++ 10 ∷ join_with_byte 10 parts
parted part [] h = absurd (omega arith)
parted part (next ∷ parts) h = refl

cut_text : (rest part next : List ℕ) → parts_of_text rest ≡ part ∷ parts_of_text next → rest ≡ part ++ 10 ∷ next
cut_text rest part next cut =
    sym (join_with_byte-slice_split 10 rest)
    ∙ ap (join_with_byte 10) cut
    ∙ parted part (parts_of_text next) (some_parts next)
    ∙ ap (λ (t : List ℕ). part ++ 10 ∷ t) (join_with_byte-slice_split 10 next)

drop_past : (part next : List ℕ) → drop (suc (length part)) (part ++ 10 ∷ next) ≡ next
drop_past [] next = refl
drop_past (x ∷ part) next = drop_past part next

-- a text ends with these bytes
pub record EndsWith (text rest : List ℕ) : Type 0 where
  pub fits : length rest ≤ length text
  pub is : drop (length text - length rest) text ≡ rest

ends_from : (text rest : List ℕ) (place : ℕ) → rest ≡ drop place text → length rest + place ≡ length text → EndsWith text rest
ends_from text rest place is long =
    let same : length text - length rest ≡ place = omega (arith, long) in
    record { fits = omega (arith, long); is = ap (λ n. drop n text) same ∙ sym is }

ends_behind : (text rest part next : List ℕ) → parts_of_text rest ≡ part ∷ parts_of_text next → EndsWith text rest → EndsWith text next
ends_behind text rest part next cut h =
    let long : length rest ≡ suc (length part) + length next = omega (arith, ap length (cut_text rest part next cut), length-append part (10 ∷ next)) in
    let same : length text - length next ≡ (length text - length rest) + suc (length part) = omega (arith, long, h.fits) in
    record {
      fits = omega (arith, long, h.fits);
      is = ap (λ n. drop n text) same
          ∙ sym (drop-drop (suc (length part)) (length text - length rest) text)
          ∙ ap (drop (suc (length part))) (h.is ∙ cut_text rest part next cut)
          ∙ drop_past part next;
    }

-- no certificate is whole yet
pub record Reading (text : List ℕ) (first : Standing) (place : ℕ) (found : List ProofAt) (at : Standing) (rest : List ℕ) : Type 0 where
  pub none : found ≡ []
  pub ends : EndsWith text rest
  pub good : IsGood [] at
  pub proofs : HasProofs (rest_of at rest)
  pub same : proofs_ahead first text place ≡ proofs_in (rest_of at rest)

pub reading_first : (text rest : List ℕ) (at : Standing) (place : ℕ) (found : List ProofAt) → found ≡ [] → rest ≡ drop place text → length rest + place ≡ length text → IsAhead at text place → Reading text at place found at rest
reading_first text rest at place found none is long h =
    record {
      none = none;
      ends = ends_from text rest place is long;
      good = h.good;
      proofs = subst (λ (r : List ℕ). HasProofs (rest_of at r)) (sym is) h.proofs;
      same = ap (λ (r : List ℕ). proofs_in (rest_of at r)) (sym is);
    }

-- one more line is taken
record Step (at : Standing) (rest : List ℕ) (more : SoFar) (next : List ℕ) : Type 0 where
  good : IsGood [] more.at
  proofs : HasProofs (rest_of more.at next)
  same : proofs_in (rest_of at rest) ≡ more.whole ++ proofs_in (rest_of more.at next)

one_step : (at : Standing) (rest part next : List ℕ) → parts_of_text rest ≡ part ∷ parts_of_text next → IsGood [] at → HasProofs (rest_of at rest) → (more : SoFar) → at_line 1 (line_adds (so_far [] at) true part) ≡ Ok more → Step at rest more next
one_step at rest part next cut good h more e =
    let there : parts_add more 2 (parts_of_text next) ≡ Ok h.0 =
    sym (
    ap (parts_add (so_far [] at) 1) cut
    ∙ parts_more (so_far [] at) 1 part (parts_of_text next) (some_parts next)
    ∙ ap (λ (r : Result SoFar TextFault). r >>= λ more. parts_add more (1 + 1) (parts_of_text next)) e)
    ∙ h.1 in
    let b = behind 2 1 more.whole [] more.at (parts_of_text next) h.0 (ap (λ (w : List PlainProof). parts_add (so_far w more.at) 2 (parts_of_text next)) (append-nil more.whole) ∙ there) in
    record {
      good = no_more more.at more.whole (good_line (so_far [] at) 1 part more good e);
      proofs = (b.tail, b.read);
      same = ap proofs_in h.1 ∙ b.is ∙ ap (λ (l : List PlainProof). more.whole ++ l) (sym (ap proofs_in b.read));
    }

-- at the end of a text nothing is ahead
pub ended_ahead : (text : List ℕ) (place : ℕ) → place ≡ length text → IsAhead ended text place
ended_ahead text place e =
    let none : drop place text ≡ [] = drop_all place text (omega (arith, e)) in
    record {
      inside = omega (arith, e);
      good = no_proofs;
      proofs = subst (λ (r : List ℕ). HasProofs (rest_of ended r)) (sym none) ([], refl);
    }

-- what was looked through is in order
pub good_ahead : (none : List ProofAt) (text : List ℕ) → none ≡ [] → HasProofs (proofs_of text) → AreProofs (proofs_view none ++ proofs_ahead start text 0)
good_ahead none text is h =
    let P : List ProofAt → Type 0 = λ l. AreProofs (proofs_view l ++ proofs_ahead start text 0) in
    subst P (sym is) (subst AreProofs (sym (ap proofs_in h.1)) ((proofs_are_their_texts_lem text h.0).0 h.1).0)

closed_none : (number : ℕ) (at : Standing) (ps : List PlainProof) → closed number [] at ≡ Ok ps → ps ≡ []
closed_none number start ps h = fault_value (record { line = number; why = why.Order }) ps h
closed_none number head ps h = fault_value (record { line = number; why = why.Order }) ps h
closed_none number (within p) ps h = fault_value (record { line = number; why = why.Order }) ps h
closed_none number (open_at p pair above) ps h = fault_value (record { line = number; why = why.Order }) ps h
closed_none number ended ps h = sym (ok_same [] ps h)

last_none : (at : Standing) (last : List ℕ) (ps : List PlainProof) → parts_add (so_far [] at) 1 (last ∷ []) ≡ Ok ps → ps ≡ []
last_none at last ps h = by_test (eqb (length last) 0) (closed 1 [] at) (at_line 1 (line_adds (so_far [] at) false last) >>= λ more. closed (1 + 1) more.whole more.at) (Ok ps)
    (λ t e. closed_none 1 at ps e)
    (λ t e.
    let d = bound (at_line 1 (line_adds (so_far [] at) false last)) (λ (more : SoFar). closed (1 + 1) more.whole more.at) ps e in
    let a = at_line-ok 1 (line_adds (so_far [] at) false last) d.value d.first in
    let b = bound (line_of false (spaced_words last)) (λ (l : ProofLine). or_order (take_line [] at l)) d.value a in
    let s = read_is_spelled false (spaced_words last) b.value b.first in
    absurd (false≢true s.has_end))
    h

none_in : (l : List ProofAt) → length l ≤ 0 → l ≡ []
none_in [] h = refl
none_in (p ∷ l) h = absurd (omega (arith, h))

module _ (text : List ℕ) (first : Standing) (place : ℕ) (found : List ProofAt) (at : Standing) (rest : List ℕ) (h : Reading text first place found at rest) where
  -- the text ends here
  module _ (part : List ℕ) (cut : parts_of_text rest ≡ part ∷ []) where
    nothing_left : proofs_ahead first text place ≡ []
    nothing_left =
        h.same
        ∙ ap proofs_in h.proofs.1
        ∙ last_none at part h.proofs.0 (ap (parts_add (so_far [] at) 1) (sym cut) ∙ h.proofs.1)

    nothing_found : proofs_view found ++ proofs_ahead ended text (length text) ≡ []
    nothing_found =
        ap (λ (l : List ProofAt). proofs_view l ++ proofs_ahead ended text (length text)) h.none
        ∙ ap (λ (r : List ℕ). proofs_in (rest_of ended r)) (drop_all (length text) text (omega arith))

    pub read_nothing : ReadsOn first text place (record { found = found; state = Ended; at = length text })
    read_nothing = record { ahead = ended_ahead text (length text) refl; split = nothing_left ∙ sym nothing_found; last = λ e. nothing_left }

  -- one more line is taken
  module _ (part next : List ℕ) (cut : parts_of_text rest ≡ part ∷ parts_of_text next) (more : List ProofAt) (state : State) (e : at_line 1 (line_adds (so_far (proofs_view found) at) true part) ≡ Ok (so_far (proofs_view more) (state_view state))) where
    stepped : Step at rest (so_far (proofs_view more) (state_view state)) next
    stepped =
        let P : List ProofAt → Type 0 = λ l. at_line 1 (line_adds (so_far (proofs_view l) at) true part) ≡ Ok (so_far (proofs_view more) (state_view state)) in
        one_step at rest part next cut h.good h.proofs (so_far (proofs_view more) (state_view state)) (subst P h.none e)

    ends : EndsWith text next
    ends = ends_behind text rest part next cut h.ends

    pub next_fits : length next ≤ length text
    next_fits = ends.fits

    pub read_more : length more ≤ 0 → Reading text first place more (state_view state) next
    read_more few = record {
      none = none_in more few;
      ends = ends;
      good = stepped.good;
      proofs = stepped.proofs;
      same = h.same ∙ stepped.same ∙ ap (λ (l : List ProofAt). proofs_view l ++ proofs_in (rest_of (state_view state) next)) (none_in more few);
    }

    pub read_some : 0 < length more → ReadsOn first text place (record { found = more; state = state; at = length text - length next })
    read_some some = record {
      ahead = record {
        inside = omega arith;
        good = stepped.good;
        proofs = subst (λ (r : List ℕ). HasProofs (rest_of (state_view state) r)) (sym ends.is) stepped.proofs;
      };
      split = h.same ∙ stepped.same ∙ ap (λ (r : List ℕ). proofs_view more ++ proofs_in (rest_of (state_view state) r)) (sym ends.is);
      last = λ none. absurd (omega (arith, some, ap length none));
    }
