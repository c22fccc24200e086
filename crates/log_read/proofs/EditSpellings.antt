-- The values of the lines that tell of edits are read exactly.
use Rattle.std.proofs.Common.{◌≡◌, ℕ, ◌+◌, List, [], ◌∷◌, ◌++◌, Option, Some, None, Result, Ok, ℤ, refl, sym, ap, subst, lit<}
use Rattle.std.specs.Prelude.{decimal, codes}
use Rattle.std.specs.Fmt.{signed_decimal}
use Rattle.std.proofs.lemmas.Bool.{eqb-true}
use Rattle.edit_base.specs.declared.CopyAt.{CopyAt}
use Rattle.edit_base.specs.declared.Why.{Why}
use Rattle.edit_base.specs.declared.Why.TheVariants as reason
use Rattle.grid_base.specs.declared.TheConstants.{BOX, ID_MAX}
use Rattle.grid_base.specs.declared.grid.Point.{Point}
use Rattle.grid_base.specs.Triples.{Triple}
use Rattle.grid_base.specs.Points.{point_at}
use Rattle.grid_base.proofs.PointLaws.{point_at-position_of, position_of-point_at}
use Rattle.line_text.specs.declared.TextWhy.{TextWhy}
use Rattle.line_text.specs.Faults.{◌>>=◌}
use Rattle.line_text.specs.Spellings.{spelled_at, spelled_signed_at}
use Rattle.mesh_base.specs.declared.PairName.{PairName}
use Rattle.log_read.specs.Fields.{both, or_number}
use Rattle.log_text.specs.Lines.{point_words, place_words, reason_words}
use Rattle.log_text.specs.declared.TheConstants.{VERSION}
use Rattle.log_read.specs.Values.{is_later, pair_at, edge_at, position_at, place_at, reason_of, reason_at}
use Rattle.log_read.specs.Laws.{IsFrom, IsEdgeInRange, IsReasonInRange, IsReasonOfVersion}
use Rattle.line_text.proofs.ReadSteps.{bound, ok_same, some_same, picked, picked_if}
use Rattle.log_read.proofs.Exactness.{IsExact, or_number-some, spelled_at-exact, in_turn-exact, made-exact}
use Rattle.log_read.proofs.Spellings.{one, both-exact, components, AreWithin, pair_at-exact}

-- ---- edges

abbrev pub Edge : Type 0
Edge = ℕ × ℕ

abbrev pub edge_words : Edge → List (List ℕ)
edge_words e = decimal e.0 ∷ decimal e.1 ∷ []

abbrev pub EdgeFits : Edge → Type 0
EdgeFits e = IsEdgeInRange e.0 e.1

pub edge_at-exact : IsExact edge_at edge_words EdgeFits
unfolding edge_at
edge_at-exact = in_turn-exact (spelled_at 1 ID_MAX) (λ a. spelled_at (a + 1) ID_MAX) one (λ a. one) (IsFrom 1 ID_MAX) (λ a. IsFrom (a + 1) ID_MAX) (spelled_at-exact 1 ID_MAX (lit< tt)) (λ a. spelled_at-exact (a + 1) ID_MAX (lit< tt))

-- ---- points

abbrev triple_of : ℤ × (ℤ × ℤ) → Triple
triple_of p = record { x = p.0; y = p.1.0; z = p.1.1 }

abbrev triple_words : Triple → List (List ℕ)
triple_words t = signed_decimal t.x ∷ signed_decimal t.y ∷ signed_decimal t.z ∷ []

abbrev parts_of_point : Point → ℤ × (ℤ × ℤ)
parts_of_point p = (p.x, (p.y, p.z))

pub position_at-exact : IsExact position_at point_words (λ p. Unit {0})
unfolding position_at
position_at-exact = made-exact (both (spelled_signed_at BOX) (both (spelled_signed_at BOX) (spelled_signed_at BOX))) (λ p. signed_decimal p.0 ∷ signed_decimal p.1.0 ∷ signed_decimal p.1.1 ∷ []) (AreWithin BOX) point_words (λ p. Unit {0}) (λ p. point_at (triple_of p)) parts_of_point (components BOX (lit< tt))
    (λ p h. (ap triple_words (position_of-point_at (triple_of p) (record { x_fits = h.0; y_fits = h.1.0; z_fits = h.1.1 })), tt))
    (λ p u. (point_at-position_of p, (p.in_box.x_fits, (p.in_box.y_fits, p.in_box.z_fits))))

abbrev pub PlaceFits : CopyAt → Type 0
PlaceFits c = IsFrom 1 ID_MAX c.w

pub place_at-exact : IsExact place_at place_words PlaceFits
unfolding place_at
place_at-exact = made-exact (both (spelled_at 1 ID_MAX) position_at) (λ p. decimal p.0 ∷ point_words p.1) (λ p. IsFrom 1 ID_MAX p.0 × Unit {0}) place_words PlaceFits (λ (p : ℕ × Point). record { w = p.0; at = p.1 }) (λ c. (c.w, c.at)) (both-exact (spelled_at 1 ID_MAX) position_at one point_words (IsFrom 1 ID_MAX) (λ p. Unit {0}) (spelled_at-exact 1 ID_MAX (lit< tt)) position_at-exact)
    (λ p h. (refl, h.0))
    (λ c h. (refl, (h, tt)))

-- ---- reasons

abbrev pub ReasonFits : ℕ → Why → Type 0
ReasonFits version w = IsReasonInRange w × IsReasonOfVersion version w

-- a reason of one word
pub reason_of-some : (version : ℕ) (word : List ℕ) (w : Why) → reason_of version word ≡ Some w → (word ∷ [] ≡ reason_words w) × ReasonFits version w
unfolding reason_of
reason_of-some version word w h =
    let P : List ℕ → Type 0 = λ t. (t ∷ [] ≡ reason_words w) × ReasonFits version w in
    let Q : List ℕ → Why → Type 0 = λ t v. (t ∷ [] ≡ reason_words v) × ReasonFits version v in
    let here : (v : Why) (t : List ℕ) → Q t v → ◌≡◌ {A = Option Why} (Some v) (Some w) → P t = λ v t q e. subst (Q t) (some_same v w e) q in
    picked P word (codes "noedge") (Some reason.NoEdge) _ (Some w) (here reason.NoEdge (codes "noedge") (refl, (tt, tt)))
    (picked P word (codes "crowded") (Some reason.Crowded) _ (Some w) (here reason.Crowded (codes "crowded") (refl, (tt, tt)))
    (picked P word (codes "edge") (Some reason.Edge) _ (Some w) (here reason.Edge (codes "edge") (refl, (tt, tt)))
    (picked P word (codes "shared") (Some reason.Shared) _ (Some w) (here reason.Shared (codes "shared") (refl, (tt, tt)))
    (picked P word (codes "full") (Some reason.Full) _ (Some w) (here reason.Full (codes "full") (refl, (tt, tt)))
    (picked P word (codes "doubled") (Some reason.Doubled) _ (Some w) (here reason.Doubled (codes "doubled") (refl, (tt, tt)))
    (picked P word (codes "onefan") (Some reason.OneFan) _ (Some w) (here reason.OneFan (codes "onefan") (refl, (tt, tt)))
    (picked_if P word (codes "solid") (is_later version) (Some reason.Solid) None (Some w) (λ t. here reason.Solid (codes "solid") (refl, (tt, t)))
    (λ e. absurd (let no : ⊥ = cc in no)))))))))
    h

abbrev Found : Type 0
Found = Why × List (List ℕ)

reason_at-of_read : (version : ℕ) (words : List (List ℕ)) (w : Why) (rest : List (List ℕ)) → reason_at version words ≡ Ok (w, rest) → (words ≡ reason_words w ++ rest) × ReasonFits version w
unfolding reason_at
reason_at-of_read version [] w rest h = absurd (let no : ⊥ = cc in no)
reason_at-of_read version (word ∷ words) w rest h =
    let P : List ℕ → Type 0 = λ t. (t ∷ words ≡ reason_words w ++ rest) × ReasonFits version w in
    picked P word (codes "hit") (pair_at words >>= λ pair. Ok (reason.Hit pair.0, pair.1)) (or_number (reason_of version word) >>= λ found. Ok (found, words)) (Ok (w, rest))
    (λ e.
    let b = bound (pair_at words) (λ (pair : PairName × List (List ℕ)). Ok (reason.Hit pair.0, pair.1)) (w, rest) e in
    let same : ◌≡◌ {A = Found} (reason.Hit b.value.0, b.value.1) (w, rest) = ok_same (reason.Hit b.value.0, b.value.1) (w, rest) b.after in
    let of_read = pair_at-exact.of_read words b.value.0 b.value.1 b.first in
    let Q : Found → Type 0 = λ f. (codes "hit" ∷ words ≡ reason_words f.0 ++ f.1) × ReasonFits version f.0 in
    subst Q same (ap (λ (t : List (List ℕ)). codes "hit" ∷ t) of_read.0, (of_read.1, tt)))
    (λ e.
    let b = bound (or_number (reason_of version word)) (λ (found : Why). Ok (found, words)) (w, rest) e in
    let same : ◌≡◌ {A = Found} (b.value, words) (w, rest) = ok_same (b.value, words) (w, rest) b.after in
    let some = reason_of-some version word b.value (or_number-some (reason_of version word) b.value b.first) in
    let Q : Found → Type 0 = λ f. (word ∷ words ≡ reason_words f.0 ++ f.1) × ReasonFits version f.0 in
    subst Q same (ap (λ (t : List (List ℕ)). t ++ words) some.0, some.1))
    h

reason_at-of_written : (version : ℕ) (w : Why) (words : List (List ℕ)) → ReasonFits version w → reason_at version (reason_words w ++ words) ≡ Ok (w, words)
unfolding reason_at reason_of
reason_at-of_written version reason.NoEdge words r = refl
reason_at-of_written version reason.Crowded words r = refl
reason_at-of_written version reason.Edge words r = refl
reason_at-of_written version reason.Shared words r = refl
reason_at-of_written version reason.Full words r = refl
reason_at-of_written version reason.Doubled words r = refl
reason_at-of_written version reason.OneFan words r = refl
reason_at-of_written version (reason.Hit pair) words r = ap (λ (found : Result (PairName × List (List ℕ)) TextWhy). found >>= λ pair. Ok (reason.Hit pair.0, pair.1)) (pair_at-exact.of_written pair words r.0)
reason_at-of_written version reason.Solid words r = rw r.1 refl

pub reason_at-exact : (version : ℕ) → IsExact (reason_at version) reason_words (ReasonFits version)
reason_at-exact version = record { of_written = reason_at-of_written version; of_read = reason_at-of_read version }
