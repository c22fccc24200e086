-- The lines that tell of blocks, passes and edits are read exactly from their words.
use Rattle.std.proofs.Common.{◌≡◌, ℕ, ◌+◌, ◌-◌, ◌<◌, ◌≤◌, ◌^◌, Bool, true, List, [], ◌∷◌, ◌++◌, length, drop, map, Result, Ok, refl, sym, ap, subst, ◌∙◌, arith, lit<, append_assoc}
use Rattle.std.specs.Prelude.{decimal, codes}
use Rattle.std.proofs.lemmas.List.{append-nil, length-map}
use Rattle.std.proofs.lemmas.List.Elements.{All-from_recursion, recursion_from_All}
use Rattle.edit_base.specs.declared.Asked.{Asked}
use Rattle.edit_base.specs.declared.Asked.TheVariants as asked
use Rattle.edit_base.specs.declared.Change.TheVariants as change
use Rattle.edit_base.specs.declared.CopyAt.{CopyAt}
use Rattle.edit_base.specs.declared.PassKind.{PassKind}
use Rattle.edit_base.specs.declared.PassKind.TheVariants as pass
use Rattle.edit_base.specs.declared.Why.{Why}
use Rattle.edit_base.specs.declared.Why.TheVariants as reason
use Rattle.grid_base.specs.declared.TheConstants.{ID_MAX, LENGTH_MAX}
use Rattle.grid_base.specs.declared.grid.Point.{Point}
use Rattle.line_text.specs.declared.TextWhy.{TextWhy}
use Rattle.line_text.specs.declared.TextWhy.TheVariants as why
use Rattle.line_text.specs.Faults.{◌>>=◌}
use Rattle.line_text.specs.Spellings.{spelled_at, count_with_end}
use Rattle.mesh_base.specs.declared.Scale.{Scale}
use Rattle.log_text.specs.declared.TheConstants.{TURN_MAX}
use Rattle.log_text.specs.declared.LogLine.{LogLine}
use Rattle.log_text.specs.declared.LogLine.TheVariants as line
use Rattle.log_text.specs.declared.NewIds.{NewIds}
use Rattle.log_read.specs.Fields.{Reader, both}
use Rattle.log_text.specs.Lines.{line_words, new_ids_words, pair_words, point_words, place_words, places_words, pass_words, asked_words, reason_words}
use Rattle.log_read.specs.Values.{is_later, edge_at, position_at, place_at, reason_of, reason_at}
use Rattle.log_read.specs.EditLines.{pass_of, split_of, flip_of, collapse_of, zip_of, reason_with_end, asked_of, no_of, edit_of, at_least, ids_add, block_of, next_of, new_ids_of, places_add, first_place, pinch_of}
use Rattle.log_read.specs.Laws.{IsFrom, IsEdgeInRange, AreRising, AreNewIds, IsInRange, IsOfVersion, IsPassInRange, IsChangeInRange, IsAskedInRange, IsReasonOfVersion}
use Rattle.line_text.proofs.ReadSteps.{bound, ok_same, picked, picked_if, fault_value}
use Rattle.log_read.proofs.Exactness.{IsExact, count_with_end-length, count_with_end-of_read, spelled_at-exact}
use Rattle.log_read.proofs.Spellings.{both-exact, one}
use Rattle.log_read.proofs.EditSpellings.{Edge, edge_words, EdgeFits, edge_at-exact, position_at-exact, PlaceFits, place_at-exact, ReasonFits, reason_at-exact}
use Rattle.log_read.proofs.Lists.{at_least-length, at_least-of_read, ids_add-of_read, ids_add-of_written, places_add-of_read, places_add-of_written, first_place-of_read, first_place-of_written}
use Rattle.log_read.proofs.LineForms.{IsSpelling, again, spelled, alone_again, alone_spelled, one_again, one_spelled}

-- ---- passes

pub pass_again : (version : ℕ) (kind : PassKind) → IsPassInRange kind → pass_of version true (pass_words kind) ≡ Ok (line.Pass kind)
unfolding pass_of
pass_again version (pass.Split n) r = one_again 0 LENGTH_MAX (lit< tt) (λ n. line.Pass (pass.Split n)) n (omega arith, r)
pass_again version (pass.Collapse n) r = one_again 0 LENGTH_MAX (lit< tt) (λ n. line.Pass (pass.Collapse n)) n (omega arith, r)
pass_again version pass.Flip r = alone_again (line.Pass pass.Flip)
pass_again version (pass.Zip n) r = one_again 0 LENGTH_MAX (lit< tt) (λ n. line.Pass (pass.Zip n)) n (omega arith, r)
pass_again version pass.Pinch r = alone_again (line.Pass pass.Pinch)

pub fit_again : (version : ℕ) → is_later version ≡ true → pass_of version true (codes "fit" ∷ []) ≡ Ok line.PassFit
unfolding pass_of
fit_again version e = rw e (alone_again line.PassFit)

pass_back : (scale : Scale) (version : ℕ) (ended : Bool) (words : List (List ℕ)) (l : LogLine) → pass_of version ended words ≡ Ok l → IsSpelling scale version ended (codes "pass" ∷ words) l
unfolding pass_of
pass_back scale version ended [] l h = fault_value why.Short l h
pass_back scale version ended (kind ∷ words) l h =
    let P : List ℕ → Type 0 = λ w. IsSpelling scale version ended (codes "pass" ∷ w ∷ words) l in
    let front : List ℕ → List (List ℕ) = λ w. codes "pass" ∷ w ∷ [] in
    picked P kind (codes "split") _ _ (Ok l) (one_spelled scale version 0 LENGTH_MAX (lit< tt) (λ n. line.Pass (pass.Split n)) (front (codes "split")) (λ n r. (refl, r.1, tt)) ended words l)
    (picked P kind (codes "collapse") _ _ (Ok l) (one_spelled scale version 0 LENGTH_MAX (lit< tt) (λ n. line.Pass (pass.Collapse n)) (front (codes "collapse")) (λ n r. (refl, r.1, tt)) ended words l)
    (picked P kind (codes "flip") _ _ (Ok l) (alone_spelled scale version (front (codes "flip")) ended (line.Pass pass.Flip) words l refl tt tt)
    (picked P kind (codes "zip") _ _ (Ok l) (one_spelled scale version 0 LENGTH_MAX (lit< tt) (λ n. line.Pass (pass.Zip n)) (front (codes "zip")) (λ n r. (refl, r.1, tt)) ended words l)
    (picked P kind (codes "pinch") _ _ (Ok l) (alone_spelled scale version (front (codes "pinch")) ended (line.Pass pass.Pinch) words l refl tt tt)
    (picked_if P kind (codes "fit") (is_later version) _ _ (Ok l) (λ t. alone_spelled scale version (front (codes "fit")) ended line.PassFit words l refl tt (t))
    (fault_value why.Unknown l))))))
    h

-- ---- edits that are done

abbrev Ends : Type 0
Ends = Edge × CopyAt

split_exact : IsExact (both edge_at place_at) (λ (s : Ends). edge_words s.0 ++ place_words s.1) (λ s. EdgeFits s.0 × PlaceFits s.1)
split_exact = both-exact edge_at place_at edge_words place_words EdgeFits PlaceFits edge_at-exact place_at-exact

abbrev split_made : Ends → LogLine
split_made s = line.Did (change.Split s.0.0 s.0.1 s.1.w s.1.at)

abbrev flip_made : Edge → LogLine
flip_made e = line.Did (change.Flip e.0 e.1)

collapse_exact : IsExact (both edge_at position_at) (λ (c : Edge × Point). edge_words c.0 ++ point_words c.1) (λ c. EdgeFits c.0 × Unit {0})
collapse_exact = both-exact edge_at position_at edge_words point_words EdgeFits (λ p. Unit {0}) edge_at-exact position_at-exact

abbrev collapse_made : Edge × Point → LogLine
collapse_made c = line.Did (change.Collapse c.0.0 c.0.1 c.1)

abbrev Turned : Type 0
Turned = Edge × (Edge × ℕ)

zip_exact : IsExact (both edge_at (both edge_at (spelled_at 0 TURN_MAX))) (λ (z : Turned). edge_words z.0 ++ (edge_words z.1.0 ++ one z.1.1)) (λ z. EdgeFits z.0 × (EdgeFits z.1.0 × IsFrom 0 TURN_MAX z.1.1))
zip_exact = both-exact edge_at (both edge_at (spelled_at 0 TURN_MAX)) edge_words (λ p. edge_words p.0 ++ one p.1) EdgeFits (λ p. EdgeFits p.0 × IsFrom 0 TURN_MAX p.1) edge_at-exact (both-exact edge_at (spelled_at 0 TURN_MAX) edge_words one EdgeFits (IsFrom 0 TURN_MAX) edge_at-exact (spelled_at-exact 0 TURN_MAX (lit< tt)))

abbrev zip_made : Turned → LogLine
zip_made z = line.Did (change.Zip z.0.0 z.0.1 z.1.0.0 z.1.0.1 z.1.1)

pub split_again : (a b w : ℕ) (at : Point) → IsChangeInRange (change.Split a b w at) → split_of true (decimal a ∷ decimal b ∷ decimal w ∷ point_words at) ≡ Ok (line.Did (change.Split a b w at))
unfolding split_of
split_again a b w at r = again (both edge_at place_at) (λ (s : Ends). edge_words s.0 ++ place_words s.1) (λ s. EdgeFits s.0 × PlaceFits s.1) split_exact 6 (λ s. refl) split_made ((a, b), record { w = w; at = at }) r

pub flip_again : (a b : ℕ) → IsEdgeInRange a b → flip_of true (decimal a ∷ decimal b ∷ []) ≡ Ok (line.Did (change.Flip a b))
unfolding flip_of
flip_again a b r = again edge_at edge_words EdgeFits edge_at-exact 2 (λ e. refl) flip_made (a, b) r

pub collapse_again : (a b : ℕ) (at : Point) → IsEdgeInRange a b → collapse_of true (decimal a ∷ decimal b ∷ point_words at) ≡ Ok (line.Did (change.Collapse a b at))
unfolding collapse_of
collapse_again a b at r = again (both edge_at position_at) (λ (c : Edge × Point). edge_words c.0 ++ point_words c.1) (λ c. EdgeFits c.0 × Unit {0}) collapse_exact 5 (λ c. refl) collapse_made ((a, b), at) (r, tt)

pub zip_again : (a b e f turn : ℕ) → IsChangeInRange (change.Zip a b e f turn) → zip_of true (decimal a ∷ decimal b ∷ decimal e ∷ decimal f ∷ decimal turn ∷ []) ≡ Ok (line.Did (change.Zip a b e f turn))
unfolding zip_of
zip_again a b e f turn r = again (both edge_at (both edge_at (spelled_at 0 TURN_MAX))) (λ (z : Turned). edge_words z.0 ++ (edge_words z.1.0 ++ one z.1.1)) (λ z. EdgeFits z.0 × (EdgeFits z.1.0 × IsFrom 0 TURN_MAX z.1.1)) zip_exact 5 (λ z. refl) zip_made ((a, b), ((e, f), turn)) (r.0, (r.1, (omega arith, r.2)))

split_back : (scale : Scale) (version : ℕ) (ended : Bool) (words : List (List ℕ)) (l : LogLine) → split_of ended words ≡ Ok l → IsSpelling scale version ended (codes "split" ∷ words) l
unfolding split_of
split_back scale version ended words l h = spelled (both edge_at place_at) (λ (s : Ends). edge_words s.0 ++ place_words s.1) (λ s. EdgeFits s.0 × PlaceFits s.1) split_exact 6 (λ s. refl) split_made scale version (codes "split" ∷ []) (λ s r. (refl, r, tt)) ended words l h

flip_back : (scale : Scale) (version : ℕ) (ended : Bool) (words : List (List ℕ)) (l : LogLine) → flip_of ended words ≡ Ok l → IsSpelling scale version ended (codes "flip" ∷ words) l
unfolding flip_of
flip_back scale version ended words l h = spelled edge_at edge_words EdgeFits edge_at-exact 2 (λ e. refl) flip_made scale version (codes "flip" ∷ []) (λ e r. (refl, r, tt)) ended words l h

collapse_back : (scale : Scale) (version : ℕ) (ended : Bool) (words : List (List ℕ)) (l : LogLine) → collapse_of ended words ≡ Ok l → IsSpelling scale version ended (codes "collapse" ∷ words) l
unfolding collapse_of
collapse_back scale version ended words l h = spelled (both edge_at position_at) (λ (c : Edge × Point). edge_words c.0 ++ point_words c.1) (λ c. EdgeFits c.0 × Unit {0}) collapse_exact 5 (λ c. refl) collapse_made scale version (codes "collapse" ∷ []) (λ c r. (refl, r.0, tt)) ended words l h

zip_back : (scale : Scale) (version : ℕ) (ended : Bool) (words : List (List ℕ)) (l : LogLine) → zip_of ended words ≡ Ok l → IsSpelling scale version ended (codes "zip" ∷ words) l
unfolding zip_of
zip_back scale version ended words l h = spelled (both edge_at (both edge_at (spelled_at 0 TURN_MAX))) (λ (z : Turned). edge_words z.0 ++ (edge_words z.1.0 ++ one z.1.1)) (λ z. EdgeFits z.0 × (EdgeFits z.1.0 × IsFrom 0 TURN_MAX z.1.1)) zip_exact 5 (λ z. refl) zip_made scale version (codes "zip" ∷ []) (λ z r. (refl, (r.0, r.1.0, r.1.1.1), tt)) ended words l h

-- ---- edits that are not done

reason_with_end-of_written : (version : ℕ) (w : Why) → IsReasonOfVersion version w → reason_with_end version true (reason_words w) ≡ Ok tt
unfolding reason_with_end reason_of
reason_with_end-of_written version reason.NoEdge o = count_with_end-length 0 [] refl
reason_with_end-of_written version reason.Crowded o = count_with_end-length 0 [] refl
reason_with_end-of_written version reason.Edge o = count_with_end-length 0 [] refl
reason_with_end-of_written version reason.Shared o = count_with_end-length 0 [] refl
reason_with_end-of_written version reason.Full o = count_with_end-length 0 [] refl
reason_with_end-of_written version reason.Doubled o = count_with_end-length 0 [] refl
reason_with_end-of_written version reason.OneFan o = count_with_end-length 0 [] refl
reason_with_end-of_written version (reason.Hit pair) o = count_with_end-length 3 (pair_words pair) refl
reason_with_end-of_written version reason.Solid o = rw o (count_with_end-length 0 [] refl)

nothing : (ws : List (List ℕ)) → length ws ≡ 0 → ws ≡ []
nothing [] e = refl
nothing (w ∷ ws) e = absurd (omega (arith, e))

one_word : (ended : Bool) (rest : List (List ℕ)) (u : Unit {0}) → count_with_end ended 0 rest ≡ Ok u → (ended ≡ true) × (rest ≡ [])
one_word ended rest u h = let c = count_with_end-of_read ended 0 rest u h in (c.0, nothing rest c.1)

reason_with_end-of_read : (version : ℕ) (w : Why) → IsReasonOfVersion version w → (ended : Bool) (rest : List (List ℕ)) (u : Unit {0}) → reason_with_end version ended (reason_words w ++ rest) ≡ Ok u → (ended ≡ true) × (rest ≡ [])
unfolding reason_with_end reason_of
reason_with_end-of_read version reason.NoEdge o ended rest u h = one_word ended rest u h
reason_with_end-of_read version reason.Crowded o ended rest u h = one_word ended rest u h
reason_with_end-of_read version reason.Edge o ended rest u h = one_word ended rest u h
reason_with_end-of_read version reason.Shared o ended rest u h = one_word ended rest u h
reason_with_end-of_read version reason.Full o ended rest u h = one_word ended rest u h
reason_with_end-of_read version reason.Doubled o ended rest u h = one_word ended rest u h
reason_with_end-of_read version reason.OneFan o ended rest u h = one_word ended rest u h
reason_with_end-of_read version (reason.Hit pair) o ended rest u h = let c = count_with_end-of_read ended 3 (pair_words pair ++ rest) u h in (c.0, nothing rest (omega (arith, c.1)))
reason_with_end-of_read version reason.Solid o ended rest u h = one_word ended rest u (rw o at h)

drop_front : (xs ys : List (List ℕ)) → drop (length xs) (xs ++ ys) ≡ ys
drop_front [] ys = refl
drop_front (x ∷ xs) ys = drop_front xs ys

module _ {A : Type 0} (version count : ℕ) (read : Reader A) (wa : A → List (List ℕ)) (R : A → Type 0) (f : IsExact read wa R) (long : (a : A) → length (wa a) ≡ count) where
  abbrev Pair : Type 0
  Pair = A × Why

  with_reason-exact : IsExact (both read (reason_at version)) (λ (p : Pair). wa p.0 ++ reason_words p.1) (λ p. R p.0 × ReasonFits version p.1)
  with_reason-exact = both-exact read (reason_at version) wa reason_words R (ReasonFits version) f (reason_at-exact version)

  behind : (a : A) (words : List (List ℕ)) → drop count (wa a ++ words) ≡ words
  behind a words = ap (λ n. drop n (wa a ++ words)) (sym (long a)) ∙ drop_front (wa a) words

  asked_again : (a : A) (w : Why) → R a → ReasonFits version w → asked_of version true count read (wa a ++ reason_words w) ≡ Ok (a, w)
  unfolding asked_of
  asked_again a w r q =
      let counted : reason_with_end version true (drop count (wa a ++ reason_words w)) ≡ Ok tt = ap (reason_with_end version true) (behind a (reason_words w)) ∙ reason_with_end-of_written version w q.1 in
      let found : both read (reason_at version) (wa a ++ reason_words w) ≡ Ok ((a, w), []) = ap (both read (reason_at version)) (sym (append-nil (wa a ++ reason_words w))) ∙ with_reason-exact.of_written (a, w) [] (r, q) in
      rw (counted, found) refl

  record AskedSpelled (ended : Bool) (words : List (List ℕ)) (p : Pair) : Type 0 where
    has_end : ended ≡ true
    same : words ≡ wa p.0 ++ reason_words p.1
    fits : R p.0
    reason_fits : ReasonFits version p.1

  asked_back : (ended : Bool) (words : List (List ℕ)) (p : Pair) → asked_of version ended count read words ≡ Ok p → AskedSpelled ended words p
  unfolding asked_of
  asked_back ended words p h =
      let c = bound (reason_with_end version ended (drop count words)) (λ (u : Unit {0}). both read (reason_at version) words >>= λ found. Ok found.0) p h in
      let x = bound (both read (reason_at version) words) (λ (found : Pair × List (List ℕ)). Ok found.0) p c.after in
      let b = with_reason-exact.of_read words x.value.0 x.value.1 x.first in
      let front = wa x.value.0.0 in
      let reason = reason_words x.value.0.1 in
      let cut : drop count words ≡ reason ++ x.value.1 = ap (drop count) (b.0 ∙ append_assoc front reason x.value.1) ∙ behind x.value.0.0 (reason ++ x.value.1) in
      let n = reason_with_end-of_read version x.value.0.1 b.1.1.1 ended x.value.1 c.value (ap (reason_with_end version ended) (sym cut) ∙ c.first) in
      let here : AskedSpelled ended words x.value.0 = record { has_end = n.0; same = b.0 ∙ ap (λ (t : List (List ℕ)). (front ++ reason) ++ t) n.1 ∙ append-nil (front ++ reason); fits = b.1.0; reason_fits = b.1.1 } in
      subst (AskedSpelled ended words) (ok_same x.value.0 p x.after) here

  no_spelled : (scale : Scale) (make : A → Asked) (word : List ℕ) → ((a : A) → asked_words (make a) ≡ word ∷ wa a) → ((a : A) → R a → IsAskedInRange (make a)) → (ended : Bool) (words : List (List ℕ)) (l : LogLine) → (asked_of version ended count read words >>= λ n. Ok (line.No (make n.0) n.1)) ≡ Ok l → IsSpelling scale version ended (codes "no" ∷ word ∷ words) l
  no_spelled scale make word asked_is in_range ended words l h =
      let b = bound (asked_of version ended count read words) (λ (n : Pair). Ok (line.No (make n.0) n.1)) l h in
      let s = asked_back ended words b.value b.first in
      let reason = reason_words b.value.1 in
      let same : line_words (line.No (make b.value.0) b.value.1) ≡ codes "no" ∷ word ∷ words =
      ap (λ (t : List (List ℕ)). codes "no" ∷ (t ++ reason)) (asked_is b.value.0) ∙ ap (λ (t : List (List ℕ)). codes "no" ∷ word ∷ t) (sym s.same) in
      let here : IsSpelling scale version ended (codes "no" ∷ word ∷ words) (line.No (make b.value.0) b.value.1) = record { has_end = s.has_end; same = same; fits = (in_range b.value.0 s.fits, s.reason_fits.0); of_version = s.reason_fits.1 } in
      subst (IsSpelling scale version ended (codes "no" ∷ word ∷ words)) (ok_same (line.No (make b.value.0) b.value.1) l b.after) here

abbrev Edges : Type 0
Edges = Edge × Edge

abbrev edges_words : Edges → List (List ℕ)
edges_words e = edge_words e.0 ++ edge_words e.1

abbrev EdgesFit : Edges → Type 0
EdgesFit e = EdgeFits e.0 × EdgeFits e.1

edges_exact : IsExact (both edge_at edge_at) edges_words EdgesFit
edges_exact = both-exact edge_at edge_at edge_words edge_words EdgeFits EdgeFits edge_at-exact edge_at-exact

vertex_exact : IsExact (spelled_at 1 ID_MAX) one (IsFrom 1 ID_MAX)
vertex_exact = spelled_at-exact 1 ID_MAX (lit< tt)

abbrev no_line : {A : Type 0} → (A → Asked) → Result (A × Why) TextWhy → Result LogLine TextWhy
no_line make found = found >>= λ n. Ok (line.No (make n.0) n.1)

pub no_again : (version : ℕ) (what : Asked) (w : Why) → IsAskedInRange what × ReasonFits version w → no_of version true (asked_words what ++ reason_words w) ≡ Ok (line.No what w)
unfolding no_of
no_again version (asked.Split a b) w r = ap (no_line (λ (e : Edge). asked.Split e.0 e.1)) (asked_again version 2 edge_at edge_words EdgeFits edge_at-exact (λ e. refl) (a, b) w r.0 r.1)
no_again version (asked.Flip a b) w r = ap (no_line (λ (e : Edge). asked.Flip e.0 e.1)) (asked_again version 2 edge_at edge_words EdgeFits edge_at-exact (λ e. refl) (a, b) w r.0 r.1)
no_again version (asked.Collapse a b) w r = ap (no_line (λ (e : Edge). asked.Collapse e.0 e.1)) (asked_again version 2 edge_at edge_words EdgeFits edge_at-exact (λ e. refl) (a, b) w r.0 r.1)
no_again version (asked.Zip a b e f) w r = ap (no_line (λ (p : Edges). asked.Zip p.0.0 p.0.1 p.1.0 p.1.1)) (asked_again version 4 (both edge_at edge_at) edges_words EdgesFit edges_exact (λ e. refl) ((a, b), (e, f)) w r.0 r.1)
no_again version (asked.Pinch v) w r = ap (no_line asked.Pinch) (asked_again version 1 (spelled_at 1 ID_MAX) one (IsFrom 1 ID_MAX) vertex_exact (λ v. refl) v w r.0 r.1)

no_back : (scale : Scale) (version : ℕ) (ended : Bool) (words : List (List ℕ)) (l : LogLine) → no_of version ended words ≡ Ok l → IsSpelling scale version ended (codes "no" ∷ words) l
unfolding no_of
no_back scale version ended [] l h = fault_value why.Short l h
no_back scale version ended (edit ∷ words) l h =
    let P : List ℕ → Type 0 = λ w. IsSpelling scale version ended (codes "no" ∷ w ∷ words) l in
    picked P edit (codes "split") _ _ (Ok l) (no_spelled version 2 edge_at edge_words EdgeFits edge_at-exact (λ e. refl) scale (λ (e : Edge). asked.Split e.0 e.1) (codes "split") (λ e. refl) (λ e r. r) ended words l)
    (picked P edit (codes "flip") _ _ (Ok l) (no_spelled version 2 edge_at edge_words EdgeFits edge_at-exact (λ e. refl) scale (λ (e : Edge). asked.Flip e.0 e.1) (codes "flip") (λ e. refl) (λ e r. r) ended words l)
    (picked P edit (codes "collapse") _ _ (Ok l) (no_spelled version 2 edge_at edge_words EdgeFits edge_at-exact (λ e. refl) scale (λ (e : Edge). asked.Collapse e.0 e.1) (codes "collapse") (λ e. refl) (λ e r. r) ended words l)
    (picked P edit (codes "zip") _ _ (Ok l) (no_spelled version 4 (both edge_at edge_at) edges_words EdgesFit edges_exact (λ e. refl) scale (λ (p : Edges). asked.Zip p.0.0 p.0.1 p.1.0 p.1.1) (codes "zip") (λ e. refl) (λ e r. r) ended words l)
    (picked P edit (codes "pinch") _ _ (Ok l) (no_spelled version 1 (spelled_at 1 ID_MAX) one (IsFrom 1 ID_MAX) vertex_exact (λ v. refl) scale asked.Pinch (codes "pinch") (λ v. refl) (λ v r. r) ended words l)
    (fault_value why.Unknown l)))))
    h

-- ---- lines by their first word

pub edit_back : (scale : Scale) (version : ℕ) (ended : Bool) (first : List ℕ) (words : List (List ℕ)) (l : LogLine) → edit_of version ended first words ≡ Ok l → IsSpelling scale version ended (first ∷ words) l
unfolding edit_of
edit_back scale version ended first words l h =
    let P : List ℕ → Type 0 = λ w. IsSpelling scale version ended (w ∷ words) l in
    picked P first (codes "pass") _ _ (Ok l) (pass_back scale version ended words l)
    (picked P first (codes "split") _ _ (Ok l) (split_back scale version ended words l)
    (picked P first (codes "flip") _ _ (Ok l) (flip_back scale version ended words l)
    (picked P first (codes "collapse") _ _ (Ok l) (collapse_back scale version ended words l)
    (picked P first (codes "zip") _ _ (Ok l) (zip_back scale version ended words l)
    (picked P first (codes "no") _ _ (Ok l) (no_back scale version ended words l)
    (fault_value why.Unknown l))))))
    h

-- ---- blocks

pub block_again : (ids : List ℕ) → (2 ≤ length ids) × AreRising 1 ids → block_of true (map decimal ids) ≡ Ok (line.Block ids)
unfolding block_of
block_again ids r = rw (at_least-length 2 (map decimal ids) (omega (arith, length-map ids decimal, r.0)), ids_add-of_written ID_MAX (lit< tt) [] 1 ids r.1) refl

pub block_back : (scale : Scale) (version : ℕ) (ended : Bool) (words : List (List ℕ)) (l : LogLine) → block_of ended words ≡ Ok l → IsSpelling scale version ended (codes "block" ∷ words) l
unfolding block_of
block_back scale version ended words l h =
    let c = bound (at_least ended 2 words) (λ (u : Unit {0}). ids_add ID_MAX [] 1 words >>= λ ids. Ok (line.Block ids)) l h in
    let b = bound (ids_add ID_MAX [] 1 words) (λ (ids : List ℕ). Ok (line.Block ids)) l c.after in
    let n = at_least-of_read ended 2 words c.value c.first in
    let i = ids_add-of_read ID_MAX (lit< tt) [] 1 words b.value b.first in
    let long : 2 ≤ length i.more = omega (arith, ap length i.same, length-map i.more decimal, n.1) in
    let here : IsSpelling scale version ended (codes "block" ∷ words) (line.Block i.more) = record { has_end = n.0; same = ap (λ (t : List (List ℕ)). codes "block" ∷ t) (sym i.same); fits = (long, i.rising); of_version = tt } in
    subst (IsSpelling scale version ended (codes "block" ∷ words)) (ap line.Block (sym i.all) ∙ ok_same (line.Block b.value) l b.after) here

-- ---- new ids

pub new_ids_again : (new : NewIds) → AreNewIds new → new_ids_of true (new_ids_words new) ≡ Ok new
unfolding new_ids_of next_of
new_ids_again new r =
    let many = at_least-length 1 (new_ids_words new) (omega arith) in
    let next = (spelled_at-exact 1 (ID_MAX + 1) (lit< tt)).of_written new.next (map decimal new.ids) r.next in
    let small : new.next - 1 < 2 ^ 64 = omega (arith, r.next.1) in
    rw (many, next, ids_add-of_written (new.next - 1) small [] 1 new.ids r.ids) refl

-- and what is read is spelled so
pub record NewIdsRead (ended : Bool) (words : List (List ℕ)) (new : NewIds) : Type 0 where
  pub has_end : ended ≡ true
  pub same : new_ids_words new ≡ words
  pub fits : AreNewIds new

abbrev made : ℕ → List ℕ → NewIds
made next ids = record { next = next; ids = ids }

new_ids_read : (ended : Bool) (words : List (List ℕ)) (new : NewIds) → new_ids_of ended words ≡ Ok new → NewIdsRead ended words new
unfolding new_ids_of next_of
new_ids_read ended words new h =
    let x = bound (at_least ended 1 words >>= λ (u : Unit {0}). spelled_at 1 (ID_MAX + 1) words) (λ (next : ℕ × List (List ℕ)). ids_add (next.0 - 1) [] 1 next.1 >>= λ ids. Ok (made next.0 ids)) new h in
    let c = bound (at_least ended 1 words) (λ (u : Unit {0}). spelled_at 1 (ID_MAX + 1) words) x.value x.first in
    let n = at_least-of_read ended 1 words c.value c.first in
    let s = (spelled_at-exact 1 (ID_MAX + 1) (lit< tt)).of_read words x.value.0 x.value.1 c.after in
    let y = bound (ids_add (x.value.0 - 1) [] 1 x.value.1) (λ (ids : List ℕ). Ok (made x.value.0 ids)) new x.after in
    let i = ids_add-of_read (x.value.0 - 1) (omega (arith, s.1.1)) [] 1 x.value.1 y.value y.first in
    let here : NewIdsRead ended words (made x.value.0 i.more) = record { has_end = n.0; same = ap (λ (t : List (List ℕ)). decimal x.value.0 ∷ t) (sym i.same) ∙ sym s.0; fits = record { next = s.1; ids = i.rising } } in
    subst (NewIdsRead ended words) (ap (made x.value.0) (sym i.all) ∙ ok_same (made x.value.0 y.value) new y.after) here

pub new_ids_back : (scale : Scale) (version : ℕ) (name : List ℕ) (make : NewIds → LogLine) → ((new : NewIds) → line_words (make new) ≡ name ∷ new_ids_words new) → ((new : NewIds) → AreNewIds new → IsInRange scale (make new)) → ((new : NewIds) → IsOfVersion version (make new))
    → (ended : Bool) (words : List (List ℕ)) (l : LogLine) → (new_ids_of ended words >>= λ new. Ok (make new)) ≡ Ok l → IsSpelling scale version ended (name ∷ words) l
new_ids_back scale version name make named fits of ended words l h =
    let b = bound (new_ids_of ended words) (λ (new : NewIds). Ok (make new)) l h in
    let n = new_ids_read ended words b.value b.first in
    let here : IsSpelling scale version ended (name ∷ words) (make b.value) = record { has_end = n.has_end; same = named b.value ∙ ap (λ (t : List (List ℕ)). name ∷ t) n.same; fits = fits b.value n.fits; of_version = of b.value } in
    subst (IsSpelling scale version ended (name ∷ words)) (ok_same (make b.value) l b.after) here

-- ---- pinches

abbrev Fits : CopyAt → Type 0
Fits c = IsFrom 1 ID_MAX c.w

abbrev place : ℕ → Point → CopyAt
place v at = record { w = v; at = at }

abbrev pinch_with : CopyAt → List CopyAt → LogLine
pinch_with first copies = line.Did (change.Pinch first.w first.at copies)

pub pinch_again : (v : ℕ) (at : Point) (copies : List CopyAt) → IsChangeInRange (change.Pinch v at copies) → pinch_of true (places_words (place v at ∷ copies)) ≡ Ok (line.Did (change.Pinch v at copies))
unfolding pinch_of
pinch_again v at copies r =
    ap (λ (found : Result (CopyAt × List (List ℕ)) TextWhy). found >>= λ first. places_add [] first.1 >>= λ copies. Ok (pinch_with first.0 copies)) (first_place-of_written (place v at) copies r.0 r.1)
    ∙ ap (λ (found : Result (List CopyAt) TextWhy). found >>= λ copies. Ok (pinch_with (place v at) copies)) (places_add-of_written [] copies (recursion_from_All Fits copies r.2))

some_places : (places : List CopyAt) → 0 < length (places_words places) → 0 < length places
some_places [] some = absurd (omega arith)
some_places (place ∷ places) some = omega arith

pub pinch_back : (scale : Scale) (version : ℕ) (ended : Bool) (words : List (List ℕ)) (l : LogLine) → pinch_of ended words ≡ Ok l → IsSpelling scale version ended (codes "pinch" ∷ words) l
unfolding pinch_of
pinch_back scale version ended words l h =
    let x = bound (first_place ended words) (λ (first : CopyAt × List (List ℕ)). places_add [] first.1 >>= λ copies. Ok (pinch_with first.0 copies)) l h in
    let y = bound (places_add [] x.value.1) (λ (copies : List CopyAt). Ok (pinch_with x.value.0 copies)) l x.after in
    let f = first_place-of_read ended words x.value.0 x.value.1 x.first in
    let p = places_add-of_read [] x.value.1 y.value y.first in
    let some : 0 < length p.more = some_places p.more (omega (arith, f.some, ap length p.same)) in
    let same : places_words (x.value.0 ∷ p.more) ≡ words = sym (f.same ∙ ap (λ (t : List (List ℕ)). place_words x.value.0 ++ t) p.same) in
    let here : IsSpelling scale version ended (codes "pinch" ∷ words) (pinch_with x.value.0 p.more) = record { has_end = f.has_end; same = ap (λ (t : List (List ℕ)). codes "pinch" ∷ t) same; fits = (f.fits, some, All-from_recursion Fits p.more p.fit); of_version = tt } in
    subst (IsSpelling scale version ended (codes "pinch" ∷ words)) (ap (pinch_with x.value.0) (sym p.all) ∙ ok_same (pinch_with x.value.0 y.value) l y.after) here
