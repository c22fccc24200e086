use Rattle.line_text.specs.Remaining.{parts_left}
use Rattle.log_read.proofs.Lists.{first_place-of_read}
use Rattle.log_read.proofs.listed.pinch.Goals as goal

pub places-requires : goal.places-requires
places-requires c = (first_place-of_read c.args.ended (parts_left c.args.words) _ (parts_left c.first_place.new.words) c.in-Ok.ensures).whole
