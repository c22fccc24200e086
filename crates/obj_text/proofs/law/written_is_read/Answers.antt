use Rattle.obj_text.proofs.Again.{written_is_read_lem}
use Rattle.obj_text.proofs.law.written_is_read.Goals as goal

pub returns : goal.returns
returns c = written_is_read_lem
