use Rattle.std.proofs.Common.{◌≡◌, ℕ, List, [], ◌∷◌, ◌++◌, map, ap, subst, sym, ◌∙◌}
use Rattle.std.specs.FinMap as finite
use Rattle.grid_base.specs.declared.TheConstants.{BOX}
use Rattle.grid_base.specs.Triples.{plus}
use Rattle.grid_base.specs.Points.{displacement_of, is_within}
use Rattle.mesh_base.specs.declared.ShiftOf.{ShiftOf}
use Rattle.mesh_base.specs.Mesh.{is_solid}
use Rattle.mesh_base.specs.Placements.{rest_positions}
use Rattle.mesh_base.specs.Shifts.{end_in_box}
use Rattle.pair_scan.specs.Solids.{SolidsRest}
use Rattle.pair_scan.proofs.Lists.{made_all, made_more, each_once}
use Rattle.step_choose.proofs.SolidTests.{names_more, ends_more, rests_more}
use Rattle.step_tests.proofs.kept_lists.shifts_of.Goals as goal

pub loop-v-preserved : goal.loop-v-preserved
loop-v-preserved g c =
    let m = g.S.Surface.mesh c.args.mesh.now in
    let items : List ℕ = c.as_slice-v-items.result.now in
    let pushed : c.push.new.self ≡ c.loop-v.by ++ c.shift_of.result ∷ [] = c.in_ok-push.ensures.ok in
    record {
      named = made_more (λ v. v ∷ []) items c.loop-v.v-index c.v-item.result (map (λ (s : ShiftOf). s.v) c.loop-v.by) (map (λ (s : ShiftOf). s.v) c.push.new.self) _ c.loop-v-test.true
          (ap (map (λ (s : ShiftOf). s.v)) pushed ∙ names_more c.loop-v.by c.shift_of.result ∙ ap (λ v. map (λ (s : ShiftOf). s.v) c.loop-v.by ++ v ∷ []) (c.shift_of.ensures.named ∙ c.v-item.is)) c.loop-v.invariant.named;
      in_box = ap (end_in_box m) pushed ∙ ends_more m c.loop-v.by c.shift_of.result c.loop-v.invariant.in_box (ap (λ v. is_within BOX (plus (rest_positions m v) (displacement_of c.shift_of.result.by))) c.shift_of.ensures.named ∙ c.shift_of.ensures.in_box);
      solid = subst (SolidsRest m) (sym pushed) (rests_more m c.loop-v.by c.shift_of.result (λ is. c.shift_of.ensures.solid (ap (is_solid m) (sym c.shift_of.ensures.named) ∙ is)) c.loop-v.invariant.solid);
    }

pub returns-clause-named : goal.returns-clause-named
returns-clause-named g c =
    let items = c.as_slice-v-items.result.now in
    let all : items ≡ finite.keys (g.S.Surface.mesh c.args.mesh.now).points = c.as_slice-v-items.ensures ∙ c.in_ok-ids.ensures in
    sym (made_all (λ v. v ∷ []) items c.loop-v.v-index (map (λ s. s.v) c.loop-v.by) c.loop-v-test.false) ∙ c.loop-v.invariant.named ∙ each_once items ∙ all
