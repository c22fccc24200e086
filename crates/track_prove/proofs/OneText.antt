-- The text of an ending is one.
use Rattle.std.proofs.Common.{◌≡◌, ℕ, true, List, [], ◌∷◌, map, Option, Some, None, Result, Ok, Err, refl, ap, sym, ◌∙◌, subst, ⊎_elim, slice_index_or, arith}
use Rattle.std.specs.List.{AllByRecursion, filter}
use Rattle.std.proofs.lemmas.Bool.{cases_lt}
use Rattle.std.proofs.lemmas.List.Elements.{recursion_from_All}
use Rattle.grid_base.specs.declared.TheConstants.{DEPTH_MAX}
use Rattle.grid_base.specs.declared.Positions.{Positions}
use Rattle.grid_base.specs.Separation.{directions, double, middle}
use Rattle.grid_base.specs.Triples.{Triple}
use Rattle.mesh_base.specs.declared.Corners.{Corners}
use Rattle.mesh_base.specs.declared.PairName.{PairName}
use Rattle.mesh_base.specs.Mesh.{Mesh}
use Rattle.mesh_base.specs.Pairs.{Pair, IsPair, pairs}
use Rattle.mesh_base.specs.Placements.{Motion, positions}
use Rattle.mesh_base.proofs.ListedPairs.{listed_pairs, all_mapped, all_filtered, all_weaker}
use Rattle.edit_base.specs.Scaffold.{motion_of}
use Rattle.edit_scaffold.specs.Made.{claim_of}
use Rattle.motion_proof.specs.declared.Claim.{Claim}
use Rattle.motion_proof.specs.declared.Entry.{Entry}
use Rattle.motion_proof.specs.declared.Tree.{Tree}
use Rattle.motion_proof.specs.declared.Tree.TheVariants.{Leaf, Halves'}
use Rattle.motion_proof.specs.Trees.{Serves, IsFirst, IsByRule, IsMadeTree, first_claim, second_claim}
use Rattle.motion_proof.specs.Needs.{pair_needs, needing}
use Rattle.motion_proof.specs.Making.{HasTreeByRule, AreByRule}
use Rattle.proof_text.specs.declared.ProofAt.{ProofAt}
use Rattle.proof_text.specs.Lines.{text_of}
use Rattle.proof_text.specs.Plain.{PlainTree, leaf, halves}
use Rattle.proof_text.specs.Views.{tree_view, entry_view, entries_view, proof_view, proofs_view}
use Rattle.log_run.specs.Motions.{MotionAt, motions_of}
use Rattle.track_log.specs.declared.refusal.LogRefusal.{LogRefusal}
use Rattle.track_log.specs.LogJob.{LogInput}
use Rattle.track_prove.specs.Proving.{IsProofOf, AreProofsOf, IsProvedText, ProveEnds}
use Rattle.track_prove.specs.Verifying.{ProofInput, verify_text, VerifyEnds}
use Rattle.track_prove.proofs.Endings.{one_proved, one_verified}

-- ---- the rule makes one tree, but for where it lies in memory

first_one : (P : Triple → Type 0) (ns : List Triple) (n o : Triple) → IsFirst P ns n → IsFirst P ns o → n ≡ o
first_one P ns n o h k = ⊎_elim
    (λ less. absurd (k.before h.place n less (subst P (sym (h.there n)) h.has)))
    (λ past. ⊎_elim
    (λ more. absurd (h.before k.place o more (subst P (sym (k.there o)) k.has)))
    (λ other.
    let same : h.place ≡ k.place = omega arith in
    sym (h.there n) ∙ ap (λ i. slice_index_or ns i n) same ∙ k.there n)
    (cases_lt k.place h.place))
    (cases_lt h.place k.place)

same_halves : (a b c d : PlainTree) → a ≡ c → b ≡ d → halves a b ≡ halves c d
same_halves a b c d p q = ap (λ x. halves x b) p ∙ ap (halves c) q

tree_one : (claim : Claim) (a b : Tree) (s t : Positions) → IsByRule claim a s t → IsByRule claim b s t → tree_view a ≡ tree_view b
tree_one claim (Leaf n) (Leaf o) s t h k = ap leaf (first_one (Serves claim s t) (directions s t) n o h k)
tree_one claim (Leaf n) (Halves' p x q y) s t h k = absurd (k.0 (h.place, n, h.inside, h.there n, h.has))
tree_one claim (Halves' p x q y) (Leaf o) s t h k = absurd (h.0 (k.place, o, k.inside, k.there o, k.has))
tree_one claim (Halves' p x q y) (Halves' r z u v) s t h k =
    same_halves (tree_view x) (tree_view y) (tree_view z) (tree_view v)
    (tree_one (first_claim claim) x z (double s) (middle s t) h.1 k.1)
    (tree_one (second_claim claim) y v (middle s t) (double t) h.2 k.2)

-- ---- so the certificate of a motion is one

module _ (m : Mesh) (w : Motion) (claim : Claim) where
  abbrev IsNamed : PairName → Type 0
  IsNamed n = (c : Corners) × IsPair m (record { name = n; corners = c })

  all_named : AllByRecursion IsNamed (needing m w)
  all_named = all_mapped IsNamed (λ (p : Pair). p.name) (filter (pair_needs w) (pairs m))
      (all_filtered (λ (p : Pair). IsNamed p.name) (pair_needs w) (pairs m)
      (all_weaker (IsPair m) (λ p. pair_needs w p ≡ true → IsNamed p.name) (pairs m) (λ p is needs. (p.corners, is)) (listed_pairs m)))

  same_entry : (e f : Entry) → e.pair ≡ f.pair → tree_view e.tree ≡ tree_view f.tree → entry_view e ≡ entry_view f
  same_entry e f p q = cc

  entry_one : (e f : Entry) → e.pair ≡ f.pair → IsNamed e.pair → HasTreeByRule m w claim e → HasTreeByRule m w claim f → entry_view e ≡ entry_view f
  entry_one e f name named h k =
      let c = named.0 in
      let s = positions w.start (record { name = e.pair; corners = c }) in
      let t = positions w.end (record { name = e.pair; corners = c }) in
      let Rule : PairName → Type 0 = λ n. (c : Corners) → IsPair m (record { name = n; corners = c }) →
      IsMadeTree claim DEPTH_MAX (positions w.start (record { name = n; corners = c })) (positions w.end (record { name = n; corners = c })) f.tree in
      let there = subst Rule (sym name) k in
      same_entry e f name (tree_one claim e.tree f.tree s t (h c named.1).rule (there c named.1).rule)

  entries_one : (es fs : List Entry) → map (λ (e : Entry). e.pair) es ≡ map (λ (e : Entry). e.pair) fs → AllByRecursion IsNamed (map (λ (e : Entry). e.pair) es)
      → AllByRecursion (HasTreeByRule m w claim) es → AllByRecursion (HasTreeByRule m w claim) fs → entries_view es ≡ entries_view fs
  entries_one [] [] same named h k = refl
  entries_one [] (f ∷ fs) same named h k = absurd cc
  entries_one (e ∷ es) [] same named h k = absurd cc
  entries_one (e ∷ es) (f ∷ fs) same named h k =
      let name : e.pair ≡ f.pair = cc in
      let others : map (λ (e : Entry). e.pair) es ≡ map (λ (e : Entry). e.pair) fs = cc in
      ap (λ v. v ∷ entries_view es) (entry_one e f name named.0 h.0 k.0) ∙ ap (λ vs. entry_view f ∷ vs) (entries_one es fs others named.1 h.1 k.1)

  ruled_one : (es fs : List Entry) → AreByRule m w claim es → AreByRule m w claim fs → entries_view es ≡ entries_view fs
  ruled_one es fs h k = entries_one es fs (h.needed ∙ sym k.needed) (subst (AllByRecursion IsNamed) (sym h.needed) all_named)
      (recursion_from_All (HasTreeByRule m w claim) es h.ruled) (recursion_from_All (HasTreeByRule m w claim) fs k.ruled)

-- ---- and with it the text

same_proof : (p q : ProofAt) → p.line ≡ q.line → p.proof.claim ≡ q.proof.claim → entries_view p.proof.entries ≡ entries_view q.proof.entries → proof_view p ≡ proof_view q
same_proof p q line claim entries = cc

proof_one : (at : MotionAt) (p q : ProofAt) → IsProofOf at p → IsProofOf at q → proof_view p ≡ proof_view q
proof_one at p q h k = same_proof p q (h.line ∙ sym k.line) (h.claim ∙ sym k.claim)
    (ruled_one at.motion.mesh (motion_of at.motion) (claim_of at.motion.touch) p.proof.entries q.proof.entries h.ruled k.ruled)

proofs_one : (motions : List MotionAt) (ps qs : List ProofAt) → AreProofsOf motions ps → AreProofsOf motions qs → proofs_view ps ≡ proofs_view qs
proofs_one [] [] [] h k = refl
proofs_one [] [] (q ∷ qs) h k = absurd k
proofs_one [] (p ∷ ps) qs h k = absurd h
proofs_one (at ∷ motions) [] qs h k = absurd h
proofs_one (at ∷ motions) (p ∷ ps) [] h k = absurd k
proofs_one (at ∷ motions) (p ∷ ps) (q ∷ qs) h k =
    ap (λ v. v ∷ proofs_view ps) (proof_one at p q h.0 k.0) ∙ ap (λ vs. proof_view q ∷ vs) (proofs_one motions ps qs h.1 k.1)

text_one : (input : LogInput) (ending : Option LogRefusal) (t u : List ℕ) → IsProvedText input ending t → IsProvedText input ending u → t ≡ u
text_one input None t u h k = h.text_is ∙ ap text_of (proofs_one (motions_of input.mesh input.lines) h.proofs k.proofs h.are k.are) ∙ sym k.text_is
text_one input (Some why) t u h k = h ∙ sym k

pub one_proof : (input : Result LogInput LogRefusal) (a b : Option LogRefusal) (t u : List ℕ) → ProveEnds input a t → ProveEnds input b u → t ≡ u
one_proof (Err why) a b t u h k = h.1 ∙ sym k.1
one_proof (Ok input) a b t u h k =
    let same : a ≡ b = one_proved (Ok input) a b t u h k in
    text_one input b t u (subst (λ e. IsProvedText input e t) same h.1) k.1

pub one_verdict_text : (input : Result ProofInput LogRefusal) (a b : Option LogRefusal) (t u : List ℕ) → VerifyEnds input a t → VerifyEnds input b u → t ≡ u
one_verdict_text (Err why) a b t u h k = h.1 ∙ sym k.1
one_verdict_text (Ok input) a b t u h k = h.1 ∙ ap (verify_text input.log) (one_verified (Ok input) a b t u h k) ∙ sym k.1
