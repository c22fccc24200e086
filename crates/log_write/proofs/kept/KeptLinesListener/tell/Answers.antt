use Rattle.log_write.proofs.Keeping.{kept_says, nothing_kept}
use Rattle.log_write.proofs.kept.KeptLinesListener.tell.Goals as goal

pub returns-in-Ok-clause-says : goal.returns-in-Ok-clause-says
returns-in-Ok-clause-says c =
    let old = c.args.self.now in
    let new = c.add.new.self in
    kept_says old.keeps new.keeps old.lines.items new.lines.items c.args.line.now old.faults new.faults c.add.ensures.keeps c.in-Ok.ensures.ok c.add.ensures.faults

pub returns-in-Err-clause-says : goal.returns-in-Err-clause-says
returns-in-Err-clause-says c =
    let old = c.args.self.now in
    let new = c.add.new.self in
    nothing_kept old.keeps new.keeps old.lines.items new.lines.items c.args.line.now old.faults new.faults c.add.ensures.keeps c.in-Err.ensures.err c.add.ensures.faults
