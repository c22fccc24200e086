use Rattle.std.proofs.Common.{◌≡◌, ℕ, ◌+◌, ◌-◌, ◌<◌, ◌++◌, ◌∷◌, [], length, get_or, IsTrue, ap, sym, subst, ◌∙◌, arith}
use Rattle.std.proofs.lemmas.Bool.{false≢true}
use Rattle.cell_grid.specs.Filed.{has}
use Rattle.pass_run.specs.MidpointCells.{bucket_of, cell_at, is_wanted, last_below}
use Rattle.pass_run.proofs.Chains.{start_end, start_chain, start_none, after_end, after_chain, after_finds, has_pushed, has_before}
use Rattle.pass_run.proofs.midpoint_cells.look_in.Goals as goal
use Rattle.pass_run.proofs.midpoint_cells.look_in.Goals.{then-is_wanted+in_ok-push, else-is_wanted}

pub loop-next-init : goal.loop-next-init
loop-next-init c =
    let cells = c.args.cells.now in
    let middles = c.args.turn.now.middles.now in
    let bucket : ℕ → ℕ = λ j. bucket_of cells.buckets (cell_at cells.size middles j) in
    let h = c.args.bucket in
    let is : c.link-next.result ≡ last_below bucket h (length middles) = c.link-next.ensures ∙ ap (λ l. get_or l h 0) c.as_slice.ensures.value ∙ c.requires.cells.chains.last_of h c.requires.bucket in
    record {
      end = start_end bucket h (length middles) c.link-next.result is;
      chain = start_chain bucket h (length middles) c.link-next.result is;
      finds = λ j le lt wanted of. absurd (start_none bucket h (length middles) c.link-next.result is j le lt of);
      keeps = λ k had. had;
    }

pub loop-next-smaller : goal.loop-next-smaller
loop-next-smaller c =
    let cells = c.args.cells.now in
    let middles = c.args.turn.now.middles.now in
    let bucket : ℕ → ℕ = λ j. bucket_of cells.buckets (cell_at cells.size middles j) in
    let next = c.loop-next.next in
    let k = next - 1 in
    let is : next ≡ k + 1 = omega (arith, c.loop-next-test.true) in
    let low : k < length middles = omega (arith, is, c.loop-next.invariant.end) in
    let follows = c.link-next-in-loop-next.ensures ∙ ap (λ l. get_or l k 0) c.as_slice-in-loop-next.ensures.value ∙ c.requires.cells.chains.before_of k low in
    let le = after_end bucket c.args.bucket (length middles) next k c.link-next-in-loop-next.result is c.loop-next.invariant.chain follows in
    omega (arith, le, is)

pub loop-next-preserved : goal.loop-next-preserved
loop-next-preserved c =
    let cells = c.args.cells.now in
    let turn = c.args.turn.now in
    let middles = turn.middles.now in
    let bucket : ℕ → ℕ = λ j. bucket_of cells.buckets (cell_at cells.size middles j) in
    let h = c.args.bucket in
    let next = c.loop-next.next in
    let k = next - 1 in
    let after = c.link-next-in-loop-next.result in
    let old = c.loop-next.found.items in
    let here = c.loop-next.invariant in
    let is : next ≡ k + 1 = omega (arith, c.loop-next-test.true) in
    let low : k < length middles = omega (arith, is, here.end) in
    let follows = c.link-next-in-loop-next.ensures ∙ ap (λ l. get_or l k 0) c.as_slice-in-loop-next.ensures.value ∙ c.requires.cells.chains.before_of k low in
    let le = after_end bucket h (length middles) next k after is here.chain follows in
    let step = after_finds bucket h (length middles) next k after is here.chain follows (λ j. IsTrue (is_wanted turn j)) in
    elim c.if-is_wanted.branch [
      | then-is_wanted+in_ok-push w ↦
          let new : w.push.new.self.items ≡ old ++ k ∷ [] = w.in_ok-push.ensures.items in
          rw (w.found-is) (record {
            end = omega (arith, le, low);
            chain = after_chain bucket h (length middles) next k after is here.chain follows;
            finds = step (λ j. IsTrue (has j w.push.new.self.items))
                (λ j high below wanted of. subst (λ l. IsTrue (has j l)) (sym new) (has_before old k j (here.finds j high below wanted of)))
                (λ wanted. subst (λ l. IsTrue (has k l)) (sym new) (has_pushed old k));
            keeps = λ j had. subst (λ l. IsTrue (has j l)) (sym new) (has_before old k j (here.keeps j had));
          })
      | else-is_wanted w ↦
          rw (w.found-is) (record {
            end = omega (arith, le, low);
            chain = after_chain bucket h (length middles) next k after is here.chain follows;
            finds = step (λ j. IsTrue (has j old)) here.finds (λ wanted. absurd (false≢true (sym (sym c.is_wanted.ensures ∙ w.if-is_wanted.false) ∙ wanted)));
            keeps = here.keeps;
          })
    ]
