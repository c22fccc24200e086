use Rattle.std.proofs.Common.{◌≡◌, ap, ◌∙◌}
use Rattle.std.proofs.lemmas.Result.{on_ok_weaker}
use Rattle.proof_text.specs.Plain.{halves}
use Rattle.proof_text.specs.Views.{tree_view}
use Rattle.proof_text.proofs.Putting.{halves_text}
use Rattle.proof_text.proofs.printer.+put_tree.Goals as goal

pub returns-in_ok-put_tree-in-Halves : goal.returns-in_ok-put_tree-in-Halves
returns-in_ok-put_tree-in-Halves t c =
    let whole : tree_view c.args.tree.now ≡ halves (tree_view c.deref.result.now) (tree_view c.deref-in-Halves.result.now) = ap tree_view c.in-Halves.is ∙ (cc (c.deref.ensures, c.deref-in-Halves.ensures)) in
    rw whole (on_ok_weaker c.put_tree-in-Halves.result (halves_text c.args.into.now.items c.put_words.new.into.items c.put_tree.new.into.items c.put_tree-in-Halves.new.into.items (tree_view c.deref.result.now) (tree_view c.deref-in-Halves.result.now) c.in_ok-put_words-in-Halves.ensures c.in_ok-put_tree-in-Halves.ensures) c.put_tree-in-Halves.ensures)
