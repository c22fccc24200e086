use Rattle.std.proofs.Common.{◌≡◌, [], ◌∷◌, ◌++◌, ◌∙◌, ℕ, List, ap, subst}
use Rattle.std.proofs.lemmas.Result.{err_from_is_err_and}
use Rattle.log_text.specs.Lines.{text_of_line}
use Rattle.outside_io.specs.Outside.{Puts}
use Rattle.log_write.proofs.SaidLines.{says_nothing, says_put}
use Rattle.log_write.proofs.writer.write_line.Goals as goal

pub returns-in_default-clause-says : goal.returns-in_default-clause-says
returns-in_default-clause-says g c = says_nothing (c.args.line.now ∷ []) (g.O.Outside.around c.args.outside.now)

pub returns-in_err-print_line-clause-says : goal.returns-in_err-print_line-clause-says
returns-in_err-print_line-clause-says g c =
    let p = err_from_is_err_and c.from_residual.result c.from_residual.ensures.1 in
    rw (p.1, p.2) (says_nothing (c.args.line.now ∷ []) (g.O.Outside.around c.args.outside.now))

pub returns-clause-says : goal.returns-clause-says
returns-clause-says g c =
    let whole : c.print_line.new.into.items ≡ text_of_line c.args.line.now = c.in_ok-print_line.ensures.ok ∙ ap (λ l. l ++ text_of_line c.args.line.now) c.in-Ok.ensures.items in
    let P : List ℕ → Type 0 = λ t. Puts t (g.O.Outside.around c.args.outside.now) (g.O.Outside.around c.put.new.self) c.put.result in
    says_put c.args.line.now _ _ c.put.result (subst P (c.deref.ensures.value ∙ whole) c.put.ensures)
