use Rattle.std.proofs.Common.{rules, ◌<◌, ap, length, arith}
use Rattle.line_text.specs.Faults.{at_line}
use Rattle.line_text.specs.Remaining.{parts_left}
use Rattle.log_read.proofs.Lists.{place_cut, PlacesLeft-more, PlacesLeft-fault}
use Rattle.log_read.proofs.listed.places.Goals as goal

pub loop-words-smaller : goal.loop-words-smaller
loop-words-smaller c =
    let cut = place_cut (parts_left c.loop-words.words) c.in-Ok.place (parts_left c.place_at.new.words) c.in-Ok.ensures in
    omega (arith, ap length cut)

pub loop-words-preserved : goal.loop-words-preserved
loop-words-preserved c = rw c.in_ok-push-in-Ok.ensures.ok (PlacesLeft-more c.loop-words.places (parts_left c.loop-words.words) (parts_left c.args.words) c.in-Ok.place (parts_left c.place_at.new.words) c.in-Ok.ensures c.loop-words.invariant)

pub returns-in-Err : goal.returns-in-Err
returns-in-Err c =
    let some : 0 < length (parts_left c.loop-words.words) = search rules in
    ap (at_line c.args.number) (PlacesLeft-fault c.loop-words.places (parts_left c.loop-words.words) (parts_left c.args.words) c.in-Err.why some c.in-Err.ensures c.loop-words.invariant)
