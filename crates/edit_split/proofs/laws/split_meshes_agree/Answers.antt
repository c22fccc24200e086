use Rattle.edit_split.proofs.SplitPremise.{split_changed}
use Rattle.edit_split.proofs.laws.split_meshes_agree.Goals as goal

pub returns : goal.returns
returns c = split_changed
