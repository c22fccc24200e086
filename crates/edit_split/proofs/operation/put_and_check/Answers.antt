use Rattle.std.proofs.Common.{◌≡◌, false, [], ◌∷◌, sym, ap, subst, ◌∙◌}
use Rattle.std.specs.Prelude.{IfOk, OnOk, Result, Ok, Err}
use Rattle.grid_base.specs.declared.Point.{Point}
use Rattle.grid_base.specs.Points.{position_of}
use Rattle.grid_base.specs.Triples.{times}
use Rattle.grid_decided.specs.Decided.{meets_exactly}
use Rattle.mesh_base.specs.Limits.{is_over_limits}
use Rattle.edit_base.specs.declared.Move.{Move}
use Rattle.edit_base.specs.declared.scaffold.Touch.TheVariants.{Never}
use Rattle.edit_base.specs.Edges.{Edge, exact_mid}
use Rattle.edit_base.specs.Scaffold.{first_failing}
use Rattle.edit_check.specs.Checking.{scaffold_by}
use Rattle.edit_split.specs.Split.{split_mesh, split_scaffold}
use Rattle.edit_split.proofs.SplitPremise.{split_may_be_checked}
use Rattle.edit_split.proofs.operation.put_and_check.Goals as goal

-- what holds holds where an answer is Ok
on_ok : {A E P : Type 0} (result : Result A E) → P → OnOk result P
on_ok (Ok value) p = p
on_ok (Err fault) p = tt

pub check-requires-clause-clear : goal.check-requires-clause-clear
check-requires-clause-clear g c =
    let m = g.S.Surface.mesh c.args.mesh.now in
    let way : Move = record { v = c.next_vertex.result; start = c.exact_mid.result; end = c.doubled.result } in
    split_may_be_checked m (g.S.Surface.mesh c.apply_split.new.mesh) c.args.e.now c.args.at (way ∷ []) c.next_face-fresh_from.result (g.met.S.Surface.sound c.args.mesh.now) c.requires.clear c.in_ok-apply_split.ensures.made c.next_face-fresh_from.ensures

pub apply_split-requires-clause-edge : goal.apply_split-requires-clause-edge
apply_split-requires-clause-edge g c = c.requires.tried.edge

pub apply_split-requires-clause-fits : goal.apply_split-requires-clause-fits
apply_split-requires-clause-fits g c =
    let m = g.S.Surface.mesh c.args.mesh.now in
    subst (λ (at : Point). is_over_limits (split_mesh m c.args.e.now at) ≡ false) (sym c.requires.point) c.requires.tried.fits

pub returns-clause-made : goal.returns-clause-made
returns-clause-made g c = on_ok c.check.result c.in_ok-apply_split.ensures.made

pub returns-clause-first : goal.returns-clause-first
returns-clause-first g c =
    let m = g.S.Surface.mesh c.args.mesh.now in
    let e = c.args.e.now in
    let way : Move = record { v = c.next_vertex.result; start = c.exact_mid.result; end = c.doubled.result } in
    let put = c.in_ok-apply_split.ensures.made ∙ ap (split_mesh m e) c.requires.point in
    let start = c.exact_mid.ensures.value ∙ ap (λ (s : Edge). exact_mid m s.a s.b) c.e.view_is in
    let end = c.doubled.ensures.value ∙ ap (λ (at : Point). times 2 (position_of at)) c.requires.point in
    let same : scaffold_by (g.S.Surface.mesh c.apply_split.new.mesh) (way ∷ []) Never [] ≡ split_scaffold m e =
    λ i. record { mesh = put i; moves = record { v = c.next_vertex.ensures i; start = start i; end = end i } ∷ []; touch = Never; together = [] } in
    subst (λ s. IfOk c.check.result (λ found. found ≡ first_failing meets_exactly s c.args.depth)) same c.check.ensures.first
