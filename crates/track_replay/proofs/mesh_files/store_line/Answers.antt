use Rattle.std.proofs.Common.{Err, subst}
use Rattle.std.proofs.lemmas.Result.{err_from_is_err_and}
use Rattle.mesh_base.specs.Mesh.{Mesh}
use Rattle.obj_text.specs.Written.{mesh_text}
use Rattle.outside_io.specs.Outside.{Stores}
use Rattle.track_engine.specs.Saved.{file_name}
use Rattle.track_engine.specs.Targets.{target_of}
use Rattle.track_replay.specs.Wanted.{wanted_at}
use Rattle.track_replay.proofs.Storings.{one_stopped}
use Rattle.track_replay.proofs.WantedLines.{wanted_yes}
use Rattle.track_replay.proofs.mesh_files.store_line.Goals as goal

pub returns-in_err-store_mesh-in-Mesh : goal.returns-in_err-store_mesh-in-Mesh
returns-in_err-store_mesh-in-Mesh g c =
    let p = err_from_is_err_and c.from_residual.result c.from_residual.ensures.1 in
    let a = g.O.Outside.around c.args.outside.now in
    let b = g.O.Outside.around c.store_mesh.new.outside in
    let r = c.args.run.now.replay in
    let name = file_name c.args.to.prefix.now c.in-Mesh.k in
    let stop = c.in_err-store_mesh-in-Mesh.field-0.0 in
    let P : Mesh → Type 0 = λ m. Stores name (mesh_text c.args.to.decimals m) a b (Err stop) in
    rw (p.1, p.2) (one_stopped name (mesh_text c.args.to.decimals r.mesh) a b (wanted_at c.args.only (target_of c.args.to) r c.args.line.now)
    (wanted_yes c.args.only (target_of c.args.to) r c.args.line.now c.in-Mesh.k c.in-Mesh.vertices c.in-Mesh.faces c.in-Mesh.is c.is_wanted.result c.is_wanted.ensures c.if-is_wanted.true)
    stop (subst P c.mesh.ensures c.in_err-store_mesh-in-Mesh.ensures))
