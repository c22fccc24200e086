-- The edits that are asked to close a fold, and what its closing is, by what is found of its edge.
use Rattle.std.proofs.Common.{◌≡◌, ℕ, Bool, true, false, cond, min, max, [], ◌∷◌, Some, None, sym, ap, ◌∙◌}
use Rattle.mesh_base.specs.Mesh.{Mesh}
use Rattle.mesh_base.specs.Pairs.{is_edge}
use Rattle.edit_base.specs.declared.Asked.{Asked}
use Rattle.edit_base.specs.declared.Asked.TheVariants as asked
use Rattle.edit_base.specs.declared.Why.{Why}
use Rattle.edit_base.specs.Edges.{Edge, edge_of}
use Rattle.track_engine.specs.State.{State}
use Rattle.track_engine.specs.Effects.{Proceeds, opened}
use Rattle.track_held.specs.Folds.{fold_why, fold_collapse, fold_edits, fold_vertex}
use Rattle.track_held.specs.Folding.{group_effect, group_told, unless_why, told_unless_why, fold_effect, fold_told}

-- the corners opposite the edge are an edge already
pub only_collapsed : (m : Mesh) (e : Edge) (collapse : Asked) (joined : Bool) → collapse ≡ fold_collapse e → joined ≡ is_edge m (min e.c e.d) (max e.c e.d) → joined ≡ true → collapse ∷ [] ≡ fold_edits m e
only_collapsed m e collapse joined same is on =
    ap (λ (x : Asked). x ∷ []) same
    ∙ ap (λ (b : Bool). cond b (fold_collapse e ∷ []) (asked.Flip e.a e.b ∷ fold_collapse e ∷ [])) (sym on ∙ is)

-- or are not
pub flipped_first : (m : Mesh) (e : Edge) (flip collapse : Asked) (joined : Bool) → flip ≡ asked.Flip e.a e.b → collapse ≡ fold_collapse e → joined ≡ is_edge m (min e.c e.d) (max e.c e.d) → joined ≡ false → flip ∷ collapse ∷ [] ≡ fold_edits m e
flipped_first m e flip collapse joined flips same is off =
    ap (λ (x : Asked). x ∷ collapse ∷ []) flips
    ∙ ap (λ (x : Asked). asked.Flip e.a e.b ∷ x ∷ []) same
    ∙ ap (λ (b : Bool). cond b (fold_collapse e ∷ []) (asked.Flip e.a e.b ∷ fold_collapse e ∷ [])) (sym off ∙ is)

module _ (a b : ℕ) (s : State) where
  abbrev here : Edge
  here = edge_of s.mesh a b

  pub fold_is_group : (e : Edge) → e ≡ edge_of s.mesh a b → fold_why s.mesh (edge_of s.mesh a b) ≡ None → group_effect (fold_edits s.mesh e) (fold_vertex e) s ≡ fold_effect a b s
  fold_is_group e is none =
      ap (λ (x : Edge). group_effect (fold_edits s.mesh x) (fold_vertex x) s) is
      ∙ ap (λ o. unless_why o (group_effect (fold_edits s.mesh here) (fold_vertex here) s) s) (sym none)

  pub fold_tells_group : (e : Edge) → e ≡ edge_of s.mesh a b → fold_why s.mesh (edge_of s.mesh a b) ≡ None → group_told (fold_edits s.mesh e) (fold_vertex e) (opened s) ≡ fold_told a b s
  fold_tells_group e is none =
      ap (λ (x : Edge). group_told (fold_edits s.mesh x) (fold_vertex x) (opened s)) is
      ∙ ap (λ o. told_unless_why o (group_told (fold_edits s.mesh here) (fold_vertex here) (opened s))) (sym none)

  pub no_fold_is_nothing : (why : Why) → fold_why s.mesh (edge_of s.mesh a b) ≡ Some why → fold_effect a b s ≡ Proceeds [] s
  no_fold_is_nothing why is = ap (λ o. unless_why o (group_effect (fold_edits s.mesh here) (fold_vertex here) s) s) is
