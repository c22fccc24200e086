use Rattle.std.proofs.Common.{ap, ◌∙◌, string_bytes}
use Rattle.std.specs.FinMap.{insert}
use Rattle.outside_io.specs.Shelf.{files_of}
use Rattle.outside_io.proofs.Shelves.{files_insert}
use Rattle.outside_io.proofs.shelf.insert_file.Goals as goal

pub returns-clause-ok : goal.returns-clause-ok
returns-clause-ok c =
    files_insert c.args.files.now c.insert.new.self (string_bytes c.in_ok-name.name) c.in_ok-bytes.bytes c.in_ok-insert.ensures.updates
    ∙ ap (λ n. insert (files_of c.args.files.now) n c.in_ok-bytes.bytes.items) c.in_ok-name.ensures.ok
    ∙ ap (insert (files_of c.args.files.now) c.args.name.now) c.in_ok-bytes.ensures.items
