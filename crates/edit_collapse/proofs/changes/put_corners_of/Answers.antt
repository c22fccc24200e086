use Rattle.std.proofs.Common.{◌≡◌, ◌++◌, [], ℕ, List, sym, ap, subst, ◌∙◌}
use Rattle.std.specs.Prelude.{OnOk}
use Rattle.std.specs.Option.{option_map, unwrap_or}
use Rattle.mesh_base.specs.Changes.{corner_list}
use Rattle.edit_collapse.specs.Tried.{corners_if_live}
use Rattle.edit_collapse.proofs.Lists.{nothing_more}
use Rattle.edit_collapse.proofs.Spent.{listed_corners}
use Rattle.edit_collapse.proofs.changes.put_corners_of.Goals as goal

pub returns-in-Some : goal.returns-in-Some
returns-in-Some g c =
    let m = g.S.Surface.mesh c.args.mesh.now in
    let found = listed_corners _ c.in-Some.list (sym c.in-Some.is ∙ c.corners.ensures) in
    let is : corner_list c.of.result ≡ corners_if_live m c.args.f = ap corner_list (c.of.ensures ∙ found.2) ∙ sym (ap (λ o. unwrap_or (option_map corner_list o) []) found.1) in
    subst (λ (l : List ℕ). OnOk c.put_corners.result (c.put_corners.new.near ≡ c.args.near.now ++ l)) is c.put_corners.ensures

pub returns-in-None : goal.returns-in-None
returns-in-None g c =
    sym (nothing_more c.args.near.now)
    ∙ ap (λ l. c.args.near.now ++ l) (sym (ap (λ o. unwrap_or o []) (sym c.corners.ensures ∙ c.in-None.is)))
