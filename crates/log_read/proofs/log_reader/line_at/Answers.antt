use Rattle.log_read.proofs.LinesAhead.{fits_in, parses_first}
use Rattle.log_read.proofs.log_reader.line_at.Goals as goal

pub returns-in-Some : goal.returns-in-Some
returns-in-Some c = parses_first c.args.text.now c.split_at.result.1.now c.cut_at.result.0.now c.in-Some.next.now c.args.at c.split_at.ensures.back c.split_at.ensures.back_len (rw c.in-Some.is at c.cut_at.ensures) c.args.scale c.args.version c.in_ok-line.line c.requires c.in_ok-line.ensures

pub overflow_sub-result : goal.overflow_sub-result
overflow_sub-result c = fits_in c.args.text.now c.split_at.result.1.now c.cut_at.result.0.now c.in-Some.next.now c.args.at c.split_at.ensures.back c.split_at.ensures.back_len (rw c.in-Some.is at c.cut_at.ensures)
