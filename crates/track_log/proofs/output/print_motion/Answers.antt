use Rattle.track_log.proofs.output.print_motion.Goals as goal

pub returns-in-Accepted : goal.returns-in-Accepted
returns-in-Accepted c = record { ok = rw c.in-Accepted.is c.print_word.ensures.ok }

pub returns-in-NoMotion : goal.returns-in-NoMotion
returns-in-NoMotion c = record { ok = rw c.in-NoMotion.is c.print_word-in-NoMotion.ensures.ok }

pub returns-in-Stranger : goal.returns-in-Stranger
returns-in-Stranger c = record { ok = rw c.in-Stranger.is c.print_pair.ensures.ok }

pub returns-in-Invalid : goal.returns-in-Invalid
returns-in-Invalid c = record { ok = rw c.in-Invalid.is c.print_pair-in-Invalid.ensures.ok }

pub returns-in-Missing : goal.returns-in-Missing
returns-in-Missing c = record { ok = rw c.in-Missing.is c.print_pair-in-Missing.ensures.ok }
