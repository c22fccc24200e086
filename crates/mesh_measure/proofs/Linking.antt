-- Links between the corners of the faces at a vertex are put, one after another, and taken away along the way on which they lead.
use Rattle.std.proofs.Common.{◌≡◌, ◌⊎◌, ℕ, nat_eq, ◌+◌, ◌<◌, Bool, true, false, cond, ◌==◌, List, [], ◌∷◌, ◌++◌, length, get_or, take, Some, None, ⊎_elim, inl, inr, refl, sym, ap, subst, ◌∙◌}
use Rattle.std.proofs.lemmas.Bool.{false≢true, eqb-true}
use Rattle.std.proofs.lemmas.List.{take_more}
use Rattle.std.proofs.lemmas.List.Folds.{list_any-append}
use Rattle.std.specs.HashMap.{HashMap, IsEmpty}
use Rattle.std.specs.Map.{lookup}
use Rattle.mesh_base.specs.Mesh.{Mesh}
use Rattle.mesh_base.proofs.Tests.{or_either}
use Rattle.edit_base.specs.Classes.{is_one_of}
use Rattle.edit_base.specs.Edges.{corners_at}
use Rattle.edit_base.proofs.Chains.{Has, either_first, either_second, equal_itself}
use Rattle.mesh_measure.specs.Round.{behind, before, link, AddsLink, AreLinks, LeadOn, TakesReached}

-- ---- nothing is linked
pub nothing : {S : Type 0} (links : HashMap ℕ ℕ S) → IsEmpty links → (u w : ℕ) → link links u ≡ Some w → ⊥
nothing links empty u w e =
    let none : link links u ≡ None = ap (λ es. lookup (nat_eq u) es) empty in
    let wrong : None ≡ Some w = sym none ∙ e in
    cc

pub links_none : {S : Type 0} (m : Mesh) (v : ℕ) (links : HashMap ℕ ℕ S) → IsEmpty links → AreLinks m v [] links
links_none m v links empty = record {
  each = λ f has. absurd (false≢true has);
  only = λ u w e. absurd (nothing links empty u w e);
  apart = λ f g has. absurd (false≢true has);
}

-- ---- one more face
not_so : (b : Bool) → (b ≡ true → ⊥) → b ≡ false
not_so true h = absurd (h refl)
not_so false h = refl

some_same : (a b : ℕ) → Some a ≡ Some b → a ≡ b
some_same a b e = cc

pub one_longer : (xs : List ℕ) (i x : ℕ) → i < length xs → x ≡ get_or xs i x → take (i + 1) xs ≡ take i xs ++ x ∷ []
one_longer xs i x low is = take_more xs i x low ∙ ap (λ y. take i xs ++ y ∷ []) (sym is)

pub old_or_last : (xs : List ℕ) (x y : ℕ) → Has (xs ++ x ∷ []) y → Has xs y ⊎ (x ≡ y)
old_or_last xs x y has = ⊎_elim
    (λ early. inl early)
    (λ late. ⊎_elim (λ e. inr (eqb-true x y e)) (λ none. absurd (false≢true none)) (or_either (x == y) false late))
    (or_either (is_one_of xs y) (is_one_of (x ∷ []) y) (sym (list_any-append (λ z. z == y) xs (x ∷ [])) ∙ has))

in_front : (xs : List ℕ) (x y : ℕ) → Has xs y → Has (xs ++ x ∷ []) y
in_front xs x y has = list_any-append (λ z. z == y) xs (x ∷ []) ∙ either_first (is_one_of xs y) (is_one_of (x ∷ []) y) has

at_end : (xs : List ℕ) (x : ℕ) → Has (xs ++ x ∷ []) x
at_end xs x = list_any-append (λ z. z == x) xs (x ∷ []) ∙ either_second (is_one_of xs x) (is_one_of (x ∷ []) x) (either_first (x == x) false (equal_itself x))

module _ {S : Type 0} (m : Mesh) (v : ℕ) (faces : List ℕ) (f : ℕ) (old new : HashMap ℕ ℕ S) (l : AreLinks m v faces old) (a : AddsLink (behind (corners_at m f) v) (before (corners_at m f) v) old new) where
  abbrev from : ℕ → ℕ
  from g = behind (corners_at m g) v

  abbrev to : ℕ → ℕ
  to g = before (corners_at m g) v

  -- a face that was there is linked elsewhere
  elsewhere : (g : ℕ) → Has faces g → from g ≡ from f → ⊥
  elsewhere g has same =
      let there : link old (from f) ≡ Some (to g) = ap (link old) (sym same) ∙ l.each g has in
      let wrong : None ≡ Some (to g) = sym a.fresh ∙ there in
      cc

  other : (g : ℕ) → Has faces g → nat_eq (from f) (from g) ≡ false
  other g has = not_so (nat_eq (from f) (from g)) (λ t. elsewhere g has (sym (eqb-true (from f) (from g) t)))

  kept : (g : ℕ) → Has faces g → link new (from g) ≡ Some (to g)
  kept g has = a.now (from g) ∙ ap (λ b. cond b (Some (to f)) (link old (from g))) (other g has) ∙ l.each g has

  here : link new (from f) ≡ Some (to f)
  here = a.now (from f) ∙ ap (λ b. cond b (Some (to f)) (link old (from f))) (equal_itself (from f))

  by_key : (u w : ℕ) (b : Bool) → nat_eq (from f) u ≡ b → cond b (Some (to f)) (link old u) ≡ Some w → (g : ℕ) × Has (faces ++ f ∷ []) g × (from g ≡ u) × (to g ≡ w)
  by_key u w true t e = (f, at_end faces f, eqb-true (from f) u t, some_same (to f) w e)
  by_key u w false t e = let h = l.only u w e in (h.0, in_front faces f h.0 h.1, h.2, h.3)

  pub links_more : AreLinks m v (faces ++ f ∷ []) new
  links_more = record {
    each = λ g has. ⊎_elim (λ was. kept g was) (λ is. subst (λ h. link new (from h) ≡ Some (to h)) is here) (old_or_last faces f g has);
    only = λ u w e. by_key u w (nat_eq (from f) u) refl (sym (a.now u) ∙ e);
    apart = λ g h at_g at_h same. ⊎_elim
        (λ g_was. ⊎_elim
        (λ h_was. l.apart g h g_was h_was same)
        (λ h_is. absurd (elsewhere g g_was (same ∙ ap from (sym h_is))))
        (old_or_last faces f h at_h))
        (λ g_is. ⊎_elim
        (λ h_was. absurd (elsewhere h h_was (sym same ∙ ap from (sym g_is))))
        (λ h_is. sym g_is ∙ h_is)
        (old_or_last faces f h at_h))
        (old_or_last faces f g at_g);
  }

-- ---- links are taken away
-- Links were taken away, one after another, and the last of them led to this vertex.
pub record IsTaking {S : Type 0} (first : ℕ) (old now : HashMap ℕ ℕ S) (at : ℕ) : Type 0 where
  pub reached : LeadOn (link old) first at
  pub gone : TakesReached first old now
  pub kept : (u w : ℕ) → link now u ≡ Some w → link old u ≡ Some w

pub taking_none : {S : Type 0} (first : ℕ) (old : HashMap ℕ ℕ S) → IsTaking first old old first
taking_none first old = record { reached = LeadOn.here; gone = λ u w e. inl e; kept = λ u w e. e }

module _ {S : Type 0} (first : ℕ) (old now next : HashMap ℕ ℕ S) (at to : ℕ) (t : IsTaking first old now at) (is : link now at ≡ Some to) (h : (u : ℕ) → link next u ≡ cond (nat_eq at u) None (link now u)) where
  gone_or_here : (u w : ℕ) (b : Bool) → nat_eq at u ≡ b → link now u ≡ Some w → (link next u ≡ Some w) ⊎ LeadOn (link old) first u
  gone_or_here u w true k e = inr (subst (LeadOn (link old) first) (eqb-true at u k) t.reached)
  gone_or_here u w false k e = inl (h u ∙ ap (λ b. cond b None (link now u)) k ∙ e)

  still : (u w : ℕ) (b : Bool) → nat_eq at u ≡ b → cond b None (link now u) ≡ Some w → link now u ≡ Some w
  still u w true k e = cc
  still u w false k e = e

  pub taking_on : IsTaking first old next to
  taking_on = record {
    reached = LeadOn.further t.reached (t.kept at to is);
    gone = λ u w e. ⊎_elim (λ there. gone_or_here u w (nat_eq at u) refl there) (λ leads. inr leads) (t.gone u w e);
    kept = λ u w e. t.kept u w (still u w (nat_eq at u) refl (sym (h u) ∙ e));
  }

pub taken_all : {S : Type 0} (first : ℕ) (old now next : HashMap ℕ ℕ S) (at : ℕ) → IsTaking first old now at → next.entries ≡ now.entries → TakesReached first old next
taken_all first old now next at t same = λ u w e. ⊎_elim (λ there. inl (ap (lookup (nat_eq u)) same ∙ there)) (λ leads. inr leads) (t.gone u w e)
