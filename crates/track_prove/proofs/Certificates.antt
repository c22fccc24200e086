-- Certificates in order of their lines, taken one after another.
use Rattle.std.proofs.Common.{◌≡◌, ◌⊎◌, inl, inr, ℕ, suc, ◌+◌, ◌<◌, ◌≤◌, Bool, true, false, List, [], ◌∷◌, ◌++◌, append_assoc, append-nil, length, get_or, Option, Some, None, refl, ap, sym, ◌∙◌, subst, arith, eqb, ltb, cond}
use Rattle.std.specs.Prelude.{◌==◌, nat_lt, if◌then◌else◌, map, option_map}
use Rattle.std.specs.List.{find, AllByRecursion}
use Rattle.std.specs.List.Sorted.{IsStrictlySortedBy}
use Rattle.std.specs.Ordering.{nat_cmp}
use Rattle.std.specs.declared.cmp.Ordering.TheVariants.{Less}
use Rattle.std.proofs.lemmas.Bool.{eqb-true, eq-eqb, lt-ltb, ltb-true, le-ltb}
use Rattle.std.proofs.lemmas.Bool.Decides.{eqb_tells}
use Rattle.std.proofs.lemmas.List.{length-append}
use Rattle.std.proofs.lemmas.List.Elements.{recursion_from_All}
use Rattle.edit_base.specs.Scaffold.{Scaffold}
use Rattle.motion_proof.specs.declared.Verdict.TheVariants.{Accepted, NoMotion}
use Rattle.proof_text.specs.Laws.{AreProofs, IsProof}
use Rattle.proof_text.specs.Plain.{PlainProof}
use Rattle.proof_text.proofs.Sorted.{nat_less_is}
use Rattle.log_run.specs.Motions.{one_motion}
use Rattle.track_prove.specs.Verifying.{proof_at, beyond, FoundOf}
use Rattle.track_prove.specs.Taking.{front_at, behind}

-- ---- numbers that are alike or not

apart : (m n : ℕ) → (m ≡ n → ⊥) → eqb m n ≡ false
apart m n ne = by (eqb_tells m n)
  where
    by : ((eqb m n ≡ true) × (m ≡ n)) ⊎ ((eqb m n ≡ false) × (m ≡ n → ⊥)) → eqb m n ≡ false
    by (inl h) = absurd (ne h.1)
    by (inr h) = h.0

-- ---- the order

-- the lines of certificates are at most this number
abbrev pub AreUpTo : ℕ → List PlainProof → Type 0
AreUpTo n [] = Unit {0}
AreUpTo n (p ∷ ps) = (p.line ≤ n) × AreUpTo n ps

-- the lines rise from above this number
abbrev pub RiseFrom : ℕ → List PlainProof → Type 0
RiseFrom n [] = Unit {0}
RiseFrom n (p ∷ ps) = (n < p.line) × RiseFrom p.line ps

rise_behind_first : (p : PlainProof) (ps : List PlainProof) → IsStrictlySortedBy nat_cmp (map (λ q. q.line) (p ∷ ps)) → RiseFrom p.line ps
unfolding IsStrictlySortedBy
rise_behind_first p [] h = tt
rise_behind_first p (q ∷ ps) h = (ltb-true p.line q.line (nat_less_is p.line q.line h.0.0), rise_behind_first q ps h.1)

rise_all : (ps : List PlainProof) → AllByRecursion IsProof ps → IsStrictlySortedBy nat_cmp (map (λ q. q.line) ps) → RiseFrom 0 ps
rise_all [] each rise = tt
rise_all (p ∷ ps) each rise = (omega (arith, each.0.line.0), rise_behind_first p ps rise)

pub proofs_rise : (ps : List PlainProof) → AreProofs ps → RiseFrom 0 ps
proofs_rise ps h = rise_all ps (recursion_from_All IsProof ps h.each) h.rise

up_to_more : (m n : ℕ) (ps : List PlainProof) → m ≤ n → AreUpTo m ps → AreUpTo n ps
up_to_more m n [] le h = tt
up_to_more m n (p ∷ ps) le h = (omega (arith, le, h.0), up_to_more m n ps le h.1)

up_to_both : (n : ℕ) (ps qs : List PlainProof) → AreUpTo n ps → AreUpTo n qs → AreUpTo n (ps ++ qs)
up_to_both n [] qs h k = k
up_to_both n (p ∷ ps) qs h k = (h.0, up_to_both n ps qs h.1 k)

-- ---- what is sought in them

find_used : (used rest : List PlainProof) (m n : ℕ) → m < n → AreUpTo m used → proof_at (used ++ rest) n ≡ proof_at rest n
find_used [] rest m n lt h = refl
find_used (p ∷ used) rest m n lt h =
    ap (λ b. cond b (Some p) (proof_at (used ++ rest) n)) (apart p.line n (λ e. omega (arith, e, lt, h.0))) ∙ find_used used rest m n lt h.1

none_above : (k n : ℕ) (ps : List PlainProof) → n ≤ k → RiseFrom k ps → proof_at ps n ≡ None
none_above k n [] le h = refl
none_above k n (p ∷ ps) le h =
    ap (λ b. cond b (Some p) (proof_at ps n)) (apart p.line n (λ e. omega (arith, e, le, h.0))) ∙ none_above p.line n ps (omega (arith, le, h.0)) h.1

either : (b : Bool) (p : PlainProof) (x : Option PlainProof) → x ≡ None → cond b (Some p) x ≡ (if b then Some p else None)
either true p x none = refl
either false p x none = none

find_front : (rest : List PlainProof) (m : ℕ) → RiseFrom m rest → proof_at rest (m + 1) ≡ front_at rest (m + 1)
find_front [] m h = refl
find_front (p ∷ ps) m h = either (eqb p.line (m + 1)) p (proof_at ps (m + 1)) (none_above p.line (m + 1) ps (omega (arith, h.0)) h.1)

-- the certificate of the next line is in front
pub proof_in_front : (all used rest : List PlainProof) (m : ℕ) → used ++ rest ≡ all → AreUpTo m used → RiseFrom m rest → proof_at all (m + 1) ≡ front_at rest (m + 1)
proof_in_front all used rest m split before rise =
    ap (λ l. proof_at l (m + 1)) (sym split) ∙ find_used used rest m (m + 1) (omega arith) before ∙ find_front rest m rise

-- ---- the one in front is taken

abbrev pub one_proof : Option PlainProof → List PlainProof
one_proof None = []
one_proof (Some p) = p ∷ []

split_by : (b : Bool) (p : PlainProof) (ps : List PlainProof) → one_proof (if b then Some p else None) ++ (if b then ps else p ∷ ps) ≡ p ∷ ps
split_by true p ps = refl
split_by false p ps = refl

pub front_split : (rest : List PlainProof) (n : ℕ) → one_proof (front_at rest n) ++ behind rest n ≡ rest
front_split [] n = refl
front_split (p ∷ ps) n = split_by (eqb p.line n) p ps

up_by : (b : Bool) (p : PlainProof) (n : ℕ) → (b ≡ true → p.line ≤ n) → AreUpTo n (one_proof (if b then Some p else None))
up_by true p n le = (le refl, tt)
up_by false p n le = tt

equal_below : (m n : ℕ) → m ≡ n → m ≤ n
equal_below m n e = omega (arith, e)

pub front_up : (rest : List PlainProof) (n : ℕ) → AreUpTo n (one_proof (front_at rest n))
front_up [] n = tt
front_up (p ∷ ps) n = up_by (eqb p.line n) p n (λ e. equal_below p.line n (eqb-true p.line n e))

pub used_up : (used rest : List PlainProof) (m : ℕ) → AreUpTo m used → AreUpTo (m + 1) (used ++ one_proof (front_at rest (m + 1)))
used_up used rest m before = up_to_both (m + 1) used (one_proof (front_at rest (m + 1))) (up_to_more m (m + 1) used (omega arith) before) (front_up rest (m + 1))

rise_by : (b : Bool) (p : PlainProof) (ps : List PlainProof) (n : ℕ) → (b ≡ true → RiseFrom n ps) → (b ≡ false → n < p.line) → RiseFrom p.line ps → RiseFrom n (if b then ps else p ∷ ps)
rise_by true p ps n same more h = same refl
rise_by false p ps n same more h = (more refl, h)

above_next : (m k : ℕ) → m < k → eqb k (m + 1) ≡ false → m + 1 < k
above_next m k lt e = by (eqb_tells k (m + 1))
  where
    by : ((eqb k (m + 1) ≡ true) × (k ≡ m + 1)) ⊎ ((eqb k (m + 1) ≡ false) × (k ≡ m + 1 → ⊥)) → m + 1 < k
    by (inl h) = absurd cc
    by (inr h) = let ne : k ≡ m + 1 → ⊥ = h.1 in omega arith

pub rise_behind : (rest : List PlainProof) (m : ℕ) → RiseFrom m rest → RiseFrom (m + 1) (behind rest (m + 1))
rise_behind [] m h = tt
rise_behind (p ∷ ps) m h =
    rise_by (eqb p.line (m + 1)) p ps (m + 1) (λ e. subst (λ n. RiseFrom n ps) (eqb-true p.line (m + 1) e) h.1) (λ e. above_next m p.line h.0 e) h.1

not_accepted : Accepted ≡ NoMotion → ⊥
not_accepted e = absurd cc

-- so many motions as certificates
pub as_many : (number : ℕ) (motion : Option Scaffold) (p : Option PlainProof) → FoundOf motion p Accepted → length (one_motion number motion) ≡ length (one_proof p)
as_many number None None found = refl
as_many number None (Some p) found = absurd (not_accepted found)
as_many number (Some motion) None found = absurd (not_accepted found)
as_many number (Some motion) (Some p) found = refl

-- ---- behind the log

beyond_used : (used rest : List PlainProof) (n : ℕ) → AreUpTo n used → beyond n (used ++ rest) ≡ beyond n rest
beyond_used [] rest n h = refl
beyond_used (p ∷ used) rest n h =
    ap (λ b. option_map (λ q. q.line) (cond b (Some p) (find (λ q. nat_lt n q.line) (used ++ rest)))) (le-ltb n p.line h.0) ∙ beyond_used used rest n h.1

pub none_beyond : (all used : List PlainProof) (n : ℕ) → used ++ [] ≡ all → AreUpTo n used → beyond n all ≡ None
none_beyond all used n split before = ap (beyond n) (sym split) ∙ beyond_used used [] n before

pub first_beyond : (all used rest : List PlainProof) (p : PlainProof) (n : ℕ) → used ++ p ∷ rest ≡ all → AreUpTo n used → n < p.line → beyond n all ≡ Some p.line
first_beyond all used rest p n split before lt =
    ap (beyond n) (sym split) ∙ beyond_used used (p ∷ rest) n before ∙ ap (λ b. option_map (λ q. q.line) (cond b (Some p) (find (λ q. nat_lt n q.line) rest))) (lt-ltb n p.line lt)
