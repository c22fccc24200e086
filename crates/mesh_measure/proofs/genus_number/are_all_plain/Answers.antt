use Rattle.std.proofs.Common.{◌≡◌, ◌≤◌, length, sym, subst, ◌∙◌, arith}
use Rattle.std.proofs.lemmas.Bool.{false≢true}
use Rattle.std.proofs.lemmas.List.{take_all}
use Rattle.std.specs.FinMap as map
use Rattle.edit_base.proofs.Chains.{Has}
use Rattle.mesh_measure.proofs.Rounding.{plain_on, none_singular}
use Rattle.mesh_measure.proofs.genus_number.are_all_plain.Goals as goal

pub loop-v-init : goal.loop-v-init
loop-v-init g c = record { plain = λ u has. absurd (false≢true has); empty = c.new-links.ensures.empty }

pub is_plain-requires : goal.is_plain-requires
is_plain-requires g c = c.loop-v.invariant.empty

pub loop-v-preserved : goal.loop-v-preserved
loop-v-preserved g c =
    let yes = c.if-not-branch.false in
    record {
      plain = plain_on (g.S.Surface.mesh c.args.mesh.now) c.as_slice-v-items.result.now c.loop-v.v-index c.v-item.result c.loop-v-test.true c.v-item.is c.loop-v.invariant.plain (c.in_ok-is_plain.ensures.plain yes);
      empty = c.in_ok-is_plain.ensures.empty yes;
    }

pub returns : goal.returns
returns g c = λ done.
    let m = g.S.Surface.mesh c.args.mesh.now in
    let items : c.as_slice-v-items.result.now ≡ map.keys m.points = c.as_slice-v-items.ensures ∙ c.in_ok-vertices.ensures in
    let end : length c.as_slice-v-items.result.now ≤ c.loop-v.v-index = omega arith in
    none_singular m (g.met.S.Surface.sound c.args.mesh.now)
    (λ u has. c.loop-v.invariant.plain u (subst (λ l. Has l u) (sym (take_all c.loop-v.v-index c.as_slice-v-items.result.now end ∙ items)) has))
