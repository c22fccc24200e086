-- Whatever edit is asked for, what it answers is in range.
use Rattle.std.proofs.Common.{ℕ, Bool}
use Rattle.grid_base.specs.declared.Positions.{Positions}
use Rattle.edit_base.specs.declared.Asked.{Asked}
use Rattle.edit_base.specs.declared.Asked.TheVariants.{Split, Flip, Collapse, Zip, Pinch}
use Rattle.edit_any.specs.Dispatch.{answer_to}
use Rattle.run_laws.specs.Answers.{AnswersInRange}
use Rattle.run_laws.proofs.EdgeAnswers.{split_in_range, flip_in_range, collapse_in_range}
use Rattle.run_laws.proofs.ZipAnswers.{zip_in_range}
use Rattle.run_laws.proofs.PinchAnswers.{pinch_in_range}

pub answer_in_range : (meets : Positions → Bool) (depth : ℕ) (what : Asked) → AnswersInRange (λ m. answer_to meets m depth what)
answer_in_range meets depth (Split a b) = split_in_range meets a b depth
answer_in_range meets depth (Flip a b) = flip_in_range meets a b depth
answer_in_range meets depth (Collapse a b) = collapse_in_range meets a b depth
answer_in_range meets depth (Zip a b e f) = zip_in_range meets a b e f
answer_in_range meets depth (Pinch v) = pinch_in_range meets v depth
