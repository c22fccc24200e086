-- Kept meshes, as the list of copies grows.
use Rattle.std.proofs.Common.{◌≡◌, ◌++◌, ◌∷◌, [], List, Bool, true, false, cond, ap, ◌∙◌}
use Rattle.std.proofs.lemmas.List.{map-append}
use Rattle.half_mesh.specs.States.{Ledger, meshes_of}

-- one more, where it was stored
pub meshes-stored : (b : Bool) (xs ys : List Ledger) (x : Ledger) → ys ≡ cond b (xs ++ x ∷ []) xs → meshes_of ys ≡ cond b (meshes_of xs ++ x.state.mesh ∷ []) (meshes_of xs)
meshes-stored true xs ys x e = ap meshes_of e ∙ map-append (λ (l : Ledger). l.state.mesh) xs (x ∷ [])
meshes-stored false xs ys x e = ap meshes_of e
