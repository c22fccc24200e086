use Rattle.std.proofs.Common.{ℕ, List, [], ◌∷◌, ◌++◌, Ok, Err, subst}
use Rattle.std.proofs.lemmas.Result.{err_from_is_err_and}
use Rattle.mesh_base.specs.declared.ShiftOf.{ShiftOf}
use Rattle.log_text.specs.declared.LogLine.{LogLine}
use Rattle.log_text.specs.declared.LogLine.TheVariants.{Moved}
use Rattle.log_write.specs.Written.{Says}
use Rattle.log_write.proofs.SaidLines.{says_then, says_part}
use Rattle.track_engine.specs.Effects.{block_lines, move_lines}
use Rattle.track_engine.proofs.step_lines.say_way.Goals as goal

pub returns-in_err-say_blocks : goal.returns-in_err-say_blocks
returns-in_err-say_blocks g c =
    let p = err_from_is_err_and c.from_residual.result c.from_residual.ensures.1 in
    let way : List LogLine = move_lines c.args.choice.now.taken ++ Moved c.args.choice.now.how ∷ [] in
    let P : List (List ℕ) → Type 0 = λ blocks. Says {T = Unit {0}} (block_lines blocks) (g.O.Outside.around c.args.outside.now) (g.O.Outside.around c.say_blocks.new.outside) (Err c.in_err-say_blocks.field-0.0) in
    rw (p.1, p.2) (says_part (block_lines c.args.choice.now.blocks) way _ _ _ (subst P c.as_slice.ensures c.in_err-say_blocks.ensures))

pub returns-in_err-say_moves : goal.returns-in_err-say_moves
returns-in_err-say_moves g c =
    let p = err_from_is_err_and c.from_residual-in_err-say_moves.result c.from_residual-in_err-say_moves.ensures.1 in
    let moved : List LogLine = Moved c.args.choice.now.how ∷ [] in
    let P : List ShiftOf → Type 0 = λ taken. Says {T = Unit {0}} (move_lines taken) (g.O.Outside.around c.say_blocks.new.outside) (g.O.Outside.around c.say_moves.new.outside) (Err c.in_err-say_moves.field-0.0) in
    let Q : List (List ℕ) → Type 0 = λ blocks. Says {T = Unit {0}} (block_lines blocks) (g.O.Outside.around c.args.outside.now) (g.O.Outside.around c.say_blocks.new.outside) (Ok c.in_ok-say_blocks.field-0) in
    rw (p.1, p.2) (says_then (block_lines c.args.choice.now.blocks) (move_lines c.args.choice.now.taken ++ moved) _ _ _ _ _ (subst Q c.as_slice.ensures c.in_ok-say_blocks.ensures)
    (says_part (move_lines c.args.choice.now.taken) moved _ _ _ (subst P c.as_slice-2.ensures c.in_err-say_moves.ensures)))

pub returns-in_err-tell : goal.returns-in_err-tell
returns-in_err-tell g c =
    let p = err_from_is_err_and c.from_residual-in_err-tell.result c.from_residual-in_err-tell.ensures.1 in
    let moved : List LogLine = Moved c.args.choice.now.how ∷ [] in
    let P : List ShiftOf → Type 0 = λ taken. Says {T = Unit {0}} (move_lines taken) (g.O.Outside.around c.say_blocks.new.outside) (g.O.Outside.around c.say_moves.new.outside) (Ok c.in_ok-say_moves.field-0) in
    let Q : List (List ℕ) → Type 0 = λ blocks. Says {T = Unit {0}} (block_lines blocks) (g.O.Outside.around c.args.outside.now) (g.O.Outside.around c.say_blocks.new.outside) (Ok c.in_ok-say_blocks.field-0) in
    rw (p.1, p.2) (says_then (block_lines c.args.choice.now.blocks) (move_lines c.args.choice.now.taken ++ moved) _ _ _ _ _ (subst Q c.as_slice.ensures c.in_ok-say_blocks.ensures)
    (says_then (move_lines c.args.choice.now.taken) moved _ _ _ _ _ (subst P c.as_slice-2.ensures c.in_ok-say_moves.ensures) c.in_err-tell.ensures.says))

pub returns : goal.returns
returns g c =
    let moved : List LogLine = Moved c.args.choice.now.how ∷ [] in
    let P : List ShiftOf → Type 0 = λ taken. Says {T = Unit {0}} (move_lines taken) (g.O.Outside.around c.say_blocks.new.outside) (g.O.Outside.around c.say_moves.new.outside) (Ok c.in_ok-say_moves.field-0) in
    let Q : List (List ℕ) → Type 0 = λ blocks. Says {T = Unit {0}} (block_lines blocks) (g.O.Outside.around c.args.outside.now) (g.O.Outside.around c.say_blocks.new.outside) (Ok c.in_ok-say_blocks.field-0) in
    says_then (block_lines c.args.choice.now.blocks) (move_lines c.args.choice.now.taken ++ moved) _ _ _ _ _ (subst Q c.as_slice.ensures c.in_ok-say_blocks.ensures)
    (says_then (move_lines c.args.choice.now.taken) moved _ _ _ _ _ (subst P c.as_slice-2.ensures c.in_ok-say_moves.ensures) c.in_ok-tell.ensures.says)
