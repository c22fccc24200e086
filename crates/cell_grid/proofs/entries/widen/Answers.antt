use Rattle.cell_grid.proofs.Held.{placed, keeps-set, found-set}
use Rattle.cell_grid.proofs.entries.widen.Goals as goal

pub returns-clause-found : goal.returns-clause-found
returns-clause-found c =
    let ks = c.args.list.now.items in
    let at = placed ks c.args.n c.args.k.item c.index.result.now c.requires c.index.ensures in
    found-set c.index.result.now (record { item = c.args.k.item; around = c.united-around.result }) ks c.args.n at.0 c.args.k.around c.united-around.ensures.second

pub returns-clause-keeps : goal.returns-clause-keeps
returns-clause-keeps c =
    let ks = c.args.list.now.items in
    let at = placed ks c.args.n c.args.k.item c.index.result.now c.requires c.index.ensures in
    keeps-set c.index.result.now (record { item = c.args.k.item; around = c.united-around.result }) ks c.args.n at.0 at.1 c.united-around.ensures.first
