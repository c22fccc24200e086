use Rattle.std.proofs.Common.{◌≡◌, ◌++◌, ℕ, List, take, sym, ap, ◌∙◌, arith}
use Rattle.std.specs.List.{flat_map}
use Rattle.std.proofs.lemmas.List.{take_all}
use Rattle.std.proofs.lemmas.List.Folds.{flat_map-map}
use Rattle.grid_base.specs.declared.Point.{Point}
use Rattle.grid_base.specs.Points.{position_of}
use Rattle.obj_text.specs.ListsWritten.{point_line}
use Rattle.obj_text.proofs.LinesOfItems.{line_of_item}
use Rattle.obj_text.proofs.list_writer.put_points.Goals as goal

pub returns : goal.returns
returns c =
    let all : take c.loop-p.p-index c.args.points.now ≡ c.args.points.now = take_all c.loop-p.p-index c.args.points.now (omega arith) in
    c.loop-p.invariant ∙ ap (λ (ps : List Point). c.args.out.now.items ++ flat_map (λ p. point_line c.args.decimals (position_of p)) ps) all ∙ ap (λ (t : List ℕ). c.args.out.now.items ++ t) (sym (flat_map-map (λ p. point_line c.args.decimals p) position_of c.args.points.now))

pub loop-p-preserved : goal.loop-p-preserved
loop-p-preserved c = line_of_item (λ p. point_line c.args.decimals (position_of p)) _ _ _ c.args.points.now c.loop-p.p-index c.p-item.result c.p-item.is c.loop-p-test.true c.loop-p.invariant c.in_ok-put_vertex.ensures
