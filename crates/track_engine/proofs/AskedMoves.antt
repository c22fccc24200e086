-- Whether a list that names some vertices asks one of a mesh to move.
use Rattle.std.proofs.Common.{◌≡◌, ℕ, suc, ◌<◌, ◌≤◌, ◌==◌, ◌&&◌, ◌||◌, Bool, true, false, cond, not, List, [], ◌∷◌, map, length, drop, get_or, is_some, Option, Some, None, refl, ap, sym, ◌∙◌, subst}
use Rattle.std.proofs.Math.Seq.{drop-cons}
use Rattle.std.proofs.lemmas.List.{at_drop_all}
use Rattle.std.specs.Option.{unwrap_or}
use Rattle.std.specs.List.{AllByRecursion, list_any}
use Rattle.std.specs.FinMap as finite
use Rattle.std.proofs.lemmas.Bool.{false≢true}
use Rattle.mesh_base.specs.declared.ShiftOf.{ShiftOf}
use Rattle.mesh_base.specs.Mesh.{Mesh, IsLiveVertex, is_solid}
use Rattle.mesh_base.specs.Shifts.{Shifts}
use Rattle.mesh_base.proofs.ListedPairs.{all_weaker}
use Rattle.track_engine.specs.State.{still_at, asked_of, still_asked, asked_in}
use Rattle.track_engine.specs.Effects.{moves}
use Rattle.track_engine.specs.Shifting.{asks, stirs}
use Rattle.track_engine.proofs.AskedLists.{Rises, each_is_found, found_named}
use Rattle.track_engine.proofs.AskedLemmas.{live_keys, asked_free, found_live}

-- ---- tests that hold of one

or_true : (b : Bool) → (b || true) ≡ true
or_true true = refl
or_true false = refl

-- of what is found by its id
any_found : (test : ShiftOf → Bool) (v : ℕ) (asked : Shifts) (s : ShiftOf) → asked_of v asked ≡ Some s → test s ≡ true → list_any test asked ≡ true
any_found test v [] s e holds = cc
any_found test v (t ∷ rest) s e holds = by_test (any_found test v rest s) (t.v == v) e
  where
    by_test : (asked_of v rest ≡ Some s → test s ≡ true → list_any test rest ≡ true) → (b : Bool) → cond b (Some t) (asked_of v rest) ≡ Some s → (test t || list_any test rest) ≡ true
    by_test others true h = let this : t ≡ s = cc in ap (λ b. b || list_any test rest) (ap test this ∙ holds)
    by_test others false h = ap (λ b. test t || b) (others h holds) ∙ or_true (test t)

-- and of none, where none is found
none_found : (test : ShiftOf → Bool) (asked those : Shifts) → AllByRecursion (λ s. asked_of s.v asked ≡ Some s) those → ((s : ShiftOf) → asked_of s.v asked ≡ Some s → test s ≡ false) → list_any test those ≡ false
none_found test asked [] found fails = refl
none_found test asked (s ∷ those) found fails = ap (λ b. b || list_any test those) (fails s found.0) ∙ none_found test asked those found.1 fails

-- of ids
none_of : (test : ShiftOf → Bool) (f : ℕ → ShiftOf) (ids : List ℕ) → AllByRecursion (λ v. test (f v) ≡ false) ids → list_any test (map f ids) ≡ false
none_of test f [] fails = refl
none_of test f (v ∷ ids) fails = ap (λ b. b || list_any test (map f ids)) fails.0 ∙ none_of test f ids fails.1

-- of the one at which a search stands, and of none where it is at the end
pub any_here : (test : ShiftOf → Bool) (asked : Shifts) (i : ℕ) (s : ShiftOf) → i < length asked → s ≡ get_or asked i s → test s ≡ true → list_any test (drop i asked) ≡ list_any test asked → list_any test asked ≡ true
any_here test asked i s within at holds same =
    sym same
    ∙ ap (list_any test) (drop-cons asked i s within)
    ∙ ap (λ (t : ShiftOf). test t || list_any test (drop (suc i) asked)) (sym at)
    ∙ ap (λ b. b || list_any test (drop (suc i) asked)) holds

pub none_left : (test : ShiftOf → Bool) (asked : Shifts) (i : ℕ) → length asked ≤ i → list_any test (drop i asked) ≡ list_any test asked → list_any test asked ≡ false
none_left test asked i beyond same = sym same ∙ at_drop_all (list_any test) asked i beyond

-- ---- shifts that move their vertices

no_motion : (v : ℕ) → moves (still_at v) ≡ false
no_motion v = refl

-- one that lives and is not solid is asked to move by what names it
stirs_live : (m : Mesh) (s : ShiftOf) → IsLiveVertex m s.v → is_solid m s.v ≡ false → stirs m s ≡ moves s
stirs_live m s live free =
    ap (λ b. moves s && (b && not (is_solid m s.v))) live ∙ ap (λ b. moves s && not b) free ∙ and_true (moves s)
  where
    and_true : (b : Bool) → (b && true) ≡ b
    and_true true = refl
    and_true false = refl

module _ (m : Mesh) (asked : Shifts) (rises : Rises asked) where
  -- where the list asks no one to move
  module _ (calm : list_any (stirs m) asked ≡ false) where
    still_named : (v : ℕ) → IsLiveVertex m v → is_solid m v ≡ false → (o : Option ShiftOf) → asked_of v asked ≡ o → moves (unwrap_or o (still_at v)) ≡ false
    still_named v live free None e = no_motion v
    still_named v live free (Some s) e = by_test (moves s) refl
      where
        named : s.v ≡ v
        named = found_named v asked s e

        by_test : (b : Bool) → moves s ≡ b → moves s ≡ false
        by_test false is = is
        by_test true is =
            let P : ℕ → Type 0 = λ k. IsLiveVertex m k in
            let yes = stirs_live m s (subst P (sym named) live) (ap (is_solid m) named ∙ free) ∙ is in
            absurd (false≢true (sym calm ∙ any_found (stirs m) v asked s e yes))

    no_one : (v : ℕ) → IsLiveVertex m v → moves (still_asked m asked v) ≡ false
    no_one v live = by_solid (is_solid m v) refl
      where
        by_solid : (b : Bool) → is_solid m v ≡ b → moves (still_asked m asked v) ≡ false
        by_solid true e = ap (λ b. moves (cond b (still_at v) (unwrap_or (asked_of v asked) (still_at v)))) e ∙ no_motion v
        by_solid false e = ap moves (asked_free m asked v e) ∙ still_named v live e (asked_of v asked) refl

    no_asks : asks (asked_in m asked) ≡ false
    no_asks = none_of moves (still_asked m asked) (finite.keys m.points) (all_weaker (IsLiveVertex m) (λ v. moves (still_asked m asked v) ≡ false) (finite.keys m.points) no_one (live_keys m))

  -- where no one is asked to move
  module _ (calm : asks (asked_in m asked) ≡ false) where
    no_stir : (s : ShiftOf) → asked_of s.v asked ≡ Some s → stirs m s ≡ false
    no_stir s found = by_live (is_some (finite.get m.points s.v)) refl (is_solid m s.v) refl
      where
        and_false : (b : Bool) → (b && false) ≡ false
        and_false true = refl
        and_false false = refl

        by_live : (b : Bool) → is_some (finite.get m.points s.v) ≡ b → (c : Bool) → is_solid m s.v ≡ c → stirs m s ≡ false
        by_live false e c f = ap (λ b. moves s && (b && not (is_solid m s.v))) e ∙ and_false (moves s)
        by_live true e true f = ap (λ b. moves s && (b && not (is_solid m s.v))) e ∙ ap (λ b. moves s && not b) f ∙ and_false (moves s)
        by_live true e false f = stirs_live m s e f ∙ by_test (moves s) refl
          where
            here : still_asked m asked s.v ≡ s
            here = asked_free m asked s.v f ∙ ap (λ (o : Option ShiftOf). unwrap_or o (still_at s.v)) found

            by_test : (b : Bool) → moves s ≡ b → moves s ≡ false
            by_test false is = is
            by_test true is = absurd (false≢true (sym calm ∙ any_found moves s.v (asked_in m asked) s (found_live m asked s.v e ∙ ap Some here) is))

    no_stirs : list_any (stirs m) asked ≡ false
    no_stirs = none_found (stirs m) asked asked (each_is_found asked rises) no_stir

  -- so one is asked to move where the list asks one
  pub asks_as : asks (asked_in m asked) ≡ list_any (stirs m) asked
  asks_as = by_test (list_any (stirs m) asked) refl (asks (asked_in m asked)) refl
    where
      by_test : (a : Bool) → list_any (stirs m) asked ≡ a → (b : Bool) → asks (asked_in m asked) ≡ b → asks (asked_in m asked) ≡ list_any (stirs m) asked
      by_test false e b f = no_asks e ∙ sym e
      by_test true e true f = f ∙ sym e
      by_test true e false f = f ∙ sym (no_stirs f)

-- the same, of the list as it is looked at
pub asks_among : (m : Mesh) (asked items : Shifts) → items ≡ asked → Rises asked → asks (asked_in m asked) ≡ list_any (stirs m) items
asks_among m asked items same rises = asks_as m asked rises ∙ ap (list_any (stirs m)) (sym same)
