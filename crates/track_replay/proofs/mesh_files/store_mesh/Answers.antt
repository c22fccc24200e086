use Rattle.std.proofs.Common.{List, ℕ, ◌∙◌, subst}
use Rattle.std.proofs.lemmas.Result.{err_from_is_err_and}
use Rattle.outside_io.specs.Outside.{Stores}
use Rattle.track_engine.specs.Saved.{file_name}
use Rattle.track_replay.proofs.Storings.{store_unremembered}
use Rattle.track_replay.proofs.mesh_files.store_mesh.Goals as goal

pub returns-in_err-text : goal.returns-in_err-text
returns-in_err-text g c =
    let p = err_from_is_err_and c.from_residual.result c.from_residual.ensures.1 in
    rw (p.1, p.2) (store_unremembered _ _ (g.O.Outside.around c.args.outside.now))

pub returns-in_err-name : goal.returns-in_err-name
returns-in_err-name g c =
    let p = err_from_is_err_and c.from_residual-in_err-name.result c.from_residual-in_err-name.ensures.1 in
    rw (p.1, p.2) (store_unremembered _ _ (g.O.Outside.around c.args.outside.now))

pub returns : goal.returns
returns g c =
    let a = g.O.Outside.around c.args.outside.now in
    let b = g.O.Outside.around c.store.new.self in
    let P : List ℕ → Type 0 = λ name. Stores name c.deref-2.result.now a b c.store.result in
    let Q : List ℕ → Type 0 = λ text. Stores (file_name c.args.to.prefix.now c.args.k) text a b c.store.result in
    subst Q (c.deref-2.ensures.value ∙ c.in_ok-text.ensures) (subst P (c.deref.ensures ∙ c.in_ok-name.ensures) c.store.ensures)
