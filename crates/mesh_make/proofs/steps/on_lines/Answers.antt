use Rattle.std.proofs.Common.{◌≡◌, ◌+◌, ◌++◌, ◌∷◌, [], List, length, sym, ap, ◌∙◌, arith}
use Rattle.std.proofs.lemmas.List.{length-append}
use Rattle.step_text.specs.declared.Placed.{Placed}
use Rattle.mesh_make.proofs.Growing.{on_lines_more}
use Rattle.mesh_make.proofs.steps.on_lines.Goals as goal

pub loop-what-preserved : goal.loop-what-preserved
loop-what-preserved c =
    let done = c.loop-what.yielded in
    let what = c.in-Some.what in
    let line = c.loop-what.line + 1 in
    let is : line ≡ length done + 1 = omega (arith, c.loop-what.invariant.line_is) in
    record {
      line_is = omega (arith, is, length-append done (what ∷ []));
      placed = c.in_ok-push.ensures.ok
          ∙ ap (λ (ds : List Placed). ds ++ record { line = line; what = what } ∷ []) c.loop-what.invariant.placed
          ∙ sym (on_lines_more done what line is);
    }
