-- What an edit answers is in the log's ranges.
use Rattle.edit_base.specs.declared.answers.Edit.{Edit}
use Rattle.edit_base.specs.declared.answers.Edit.TheVariants.{Done, No}
use Rattle.mesh_base.specs.Mesh.{Mesh, IsSound}
use Rattle.mesh_base.specs.Sides.{IsClosed}
use Rattle.edit_base.specs.Laws.{Answer}
use Rattle.log_read.specs.Laws.{IsChangeInRange, IsReasonInRange}

-- the change that is done, or the reason against it
abbrev pub IsAnswerInRange : Edit → Type 0
IsAnswerInRange (Done change) = IsChangeInRange change
IsAnswerInRange (No why) = IsReasonInRange why

-- what the edit answers of any sound and closed mesh is in range
abbrev pub AnswersInRange : Answer → Type 0
AnswersInRange answer = (m : Mesh) → IsSound m → IsClosed m → IsAnswerInRange (answer m)
