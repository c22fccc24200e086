use Rattle.std.proofs.Common.{◌++◌, ◌∙◌, ap, ℕ}
use Rattle.std.specs.List.{filter}
use Rattle.mesh_base.specs.Near.{is_face_near}
use Rattle.cell_grid.proofs.Held.{on_ok}
use Rattle.mesh_journal.proofs.Rising.{near_found}
use Rattle.mesh_journal.proofs.near.put_found.Goals as goal

pub returns : goal.returns
returns g c =
    let m = g.T.FaceTable.mesh c.args.table.now in
    let at = c.args.at.now in
    let test : ℕ → _ = λ f. is_face_near m at f in
    on_ok c.put_near.result (λ h. h ∙ ap (λ xs. xs ++ filter test c.deref.result.now) c.requires.empty ∙ ap (λ xs. filter test xs) c.deref.ensures.value ∙ near_found c.args.grid.now m at c.requires.boxed c.near.new.into.items c.in_ok-near.ensures.rising c.in_ok-near.ensures.all) c.put_near.ensures
