use Rattle.std.proofs.Common.{◌++◌, ◌∙◌, List, ap, sym, subst}
use Rattle.grid_base.specs.declared.TheConstants.{HALF_MAX}
use Rattle.grid_base.specs.Triples.{IsWithin}
use Rattle.edit_base.specs.declared.Asked.{Asked}
use Rattle.pass_run.specs.Near.{later_zips}
use Rattle.pass_run.proofs.NearPlaces.{mid_fits, near_places}
use Rattle.pass_run.proofs.near_edges.near_pairs.Goals as goal

pub places_wanted-requires-clause-own : goal.places_wanted-requires-clause-own
places_wanted-requires-clause-own g c = subst (IsWithin HALF_MAX) (sym c.requires.own) (mid_fits (g.S.Surface.mesh c.args.mesh.now) c.args.turn.now.edge.0 c.args.turn.now.edge.1)

pub returns : goal.returns
returns g c =
    let m = g.S.Surface.mesh c.args.mesh.now in
    let t = c.args.turn.now in
    let made = λ (l : List Asked). l ++ later_zips m t.within t.edges.now t.place t.edge c.as_slice.result.now in
    c.in_ok-put_later.ensures ∙ ap made c.new-asked.ensures
    ∙ ap (later_zips m t.within t.edges.now t.place t.edge) c.as_slice.ensures.value
    ∙ near_places m t c.requires.midpoints c.requires.own c.places_wanted.new.found.items c.in_ok-places_wanted.ensures.order c.in_ok-places_wanted.ensures.wanted
