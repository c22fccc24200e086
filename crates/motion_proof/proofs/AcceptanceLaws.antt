-- What an accepted certificate says of the motion.
use Rattle.std.proofs.Common.{◌≡◌, ℕ, ◌==◌, ◌&&◌, Bool, true, false, cond, Option, Some, None, List, [], ◌∷◌, inl, inr, refl, sym, subst, arith}
use Rattle.std.specs.List.{All, AllByRecursion, find}
use Rattle.std.proofs.lemmas.List.Elements.{recursion_from_All}
use Rattle.std.proofs.lemmas.Bool.{eqb-true, false≢true}
use Rattle.std.proofs.lemmas.Option.{none-some}
use Rattle.mesh_base.proofs.ListLaws.{found_passes}
use Rattle.mesh_base.specs.declared.ids.Corners.{Corners}
use Rattle.grid_base.specs.declared.Positions.{Positions}
use Rattle.grid_base.specs.Motion.{NeverMeet}
use Rattle.grid_base.proofs.MeetingLaws.{MoveTogether-never_meet}
use Rattle.mesh_base.specs.declared.ids.PairName.{PairName}
use Rattle.mesh_base.specs.Mesh.{Mesh}
use Rattle.mesh_base.specs.Pairs.{Pair, IsPair}
use Rattle.mesh_base.specs.Placements.{Motion, positions}
use Rattle.motion_proof.specs.declared.certificate.Claim.{Claim}
use Rattle.motion_proof.specs.declared.certificate.Claim.TheVariants.{Along, After, Before}
use Rattle.motion_proof.specs.declared.certificate.Entry.{Entry}
use Rattle.motion_proof.specs.Trees.{NeverMeetAs, IsValid}
use Rattle.motion_proof.specs.Needs.{NeedsNone}
use Rattle.motion_proof.specs.Acceptance.{IsClearAs, same_name, entry_of, HasValidTree, IsAccepted}
use Rattle.grid_base.proofs.SeparationLaws.{KeepsApart-never_meet}
use Rattle.motion_proof.proofs.TreeLaws.{IsValid-never_meet}

-- ---- a pair that needs no entry
NeedsNone-never_meet : (s t : Positions) → NeedsNone s t → NeverMeet s t
NeedsNone-never_meet s t (inl h) = MoveTogether-never_meet s t h.0 h.1
NeedsNone-never_meet s t (inr h) = KeepsApart-never_meet s t h.1 h.4

NeverMeet-as : (claim : Claim) (s t : Positions) → NeverMeet s t → NeverMeetAs claim s t
NeverMeet-as Along s t h = h
NeverMeet-as After s t h = λ p q some within w. h p q (omega arith) within w
NeverMeet-as Before s t h = λ p q below w. h p q (omega arith) (omega arith) w

-- ---- a pair that has one
and_both : (a b : Bool) → (a && b) ≡ true → (a ≡ true) × (b ≡ true)
and_both true b h = (refl, h)
and_both false b h = absurd (false≢true h)

same_parts : (a b f a' b' f' : ℕ) → a ≡ a' → b ≡ b' → f ≡ f' →
    ◌≡◌ {A = PairName} (record { a = a; b = b; face = f }) (record { a = a'; b = b'; face = f' })
same_parts a b f a' b' f' p q r = cc

pub named : (n o : PairName) → same_name n o ≡ true → n ≡ o
named n o h =
    let outer = and_both (n.a == o.a && n.b == o.b) (n.face == o.face) h in
    let inner = and_both (n.a == o.a) (n.b == o.b) outer.0 in
    same_parts n.a n.b n.face o.a o.b o.face (eqb-true _ _ inner.0) (eqb-true _ _ inner.1) (eqb-true _ _ outer.1)

found_all : {X : Type 0} (P : X → Type 0) (test : X → Bool) (xs : List X) (x : X) → AllByRecursion P xs → find test xs ≡ Some x → P x
found_all P test [] x all is = absurd (none-some x is)
found_all P test (y ∷ ys) x all is = by_test (found_all P test ys x all.1) (test y) is
  where
    by_test : (find test ys ≡ Some x → P x) → (b : Bool) → cond b (Some y) (find test ys) ≡ Some x → P x
    by_test rest true is = let same : y ≡ x = cc in subst P same all.0
    by_test rest false is = rest is

Valid-of_entry : (m : Mesh) (w : Motion) (claim : Claim) (entries : List Entry) (p : Pair) → All (HasValidTree m w claim) entries → IsPair m p → (e : Entry) → entry_of entries p.name ≡ Some e → IsValid claim e.tree (positions w.start p) (positions w.end p)
Valid-of_entry m w claim entries p valid pair e is =
    let has : HasValidTree m w claim e = found_all (HasValidTree m w claim) (λ x. same_name x.pair p.name) entries e (recursion_from_All (HasValidTree m w claim) entries valid) is in
    let name : e.pair ≡ p.name = named e.pair p.name (found_passes (λ x. same_name x.pair p.name) entries e is) in
    of_name e.pair (sym name) pair has
  where
    of_name : (n : PairName) → p.name ≡ n → IsPair m p → ((c : Corners) → IsPair m (record { name = n; corners = c }) → IsValid claim e.tree (positions w.start (record { name = n; corners = c })) (positions w.end (record { name = n; corners = c }))) → IsValid claim e.tree (positions w.start p) (positions w.end p)
    of_name n same pair has = subst (λ k. ((c : Corners) → IsPair m (record { name = k; corners = c }) → IsValid claim e.tree (positions w.start (record { name = k; corners = c })) (positions w.end (record { name = k; corners = c }))) → IsValid claim e.tree (positions w.start p) (positions w.end p)) same (λ here. here p.corners pair) has

-- ---- each pair
pair-never_meets : (m : Mesh) (w : Motion) (claim : Claim) (entries : List Entry) → IsAccepted m w claim entries → (p : Pair) → IsPair m p → NeverMeetAs claim (positions w.start p) (positions w.end p)
pair-never_meets m w claim entries h p pair = by_entry (entry_of entries p.name) refl
  where
    by_entry : (found : Option Entry) → entry_of entries p.name ≡ found → NeverMeetAs claim (positions w.start p) (positions w.end p)
    by_entry (Some e) is = IsValid-never_meet claim e.tree (positions w.start p) (positions w.end p) (Valid-of_entry m w claim entries p h.valid pair e is)
    by_entry None is = NeverMeet-as claim (positions w.start p) (positions w.end p) (NeedsNone-never_meet (positions w.start p) (positions w.end p) (h.settled p pair is))

clear_from_pairs : (m : Mesh) (w : Motion) (claim : Claim) → ((p : Pair) → IsPair m p → NeverMeetAs claim (positions w.start p) (positions w.end p)) → IsClearAs claim m w
clear_from_pairs m w Along h = λ p q some within pair is. h pair is p q some within
clear_from_pairs m w After h = λ p q some within pair is. h pair is p q some within
clear_from_pairs m w Before h = λ p q below pair is. h pair is p q below

pub IsAccepted-clear : (m : Mesh) (w : Motion) (claim : Claim) (entries : List Entry) → IsAccepted m w claim entries → IsClearAs claim m w
IsAccepted-clear m w claim entries h = clear_from_pairs m w claim (pair-never_meets m w claim entries h)
