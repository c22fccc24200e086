use Rattle.std.proofs.Common.{codes}
use Rattle.track_input.proofs.Readings.{begin, reads_track, reads_convert, reads_try, reads_measure, reads_prove, reads_verify, reads_replay, reads_check, unlisted, exact_by, exact_nothing}
use Rattle.track_input.proofs.command.command_of.Goals as goal

pub returns-in-track-clause-read : goal.returns-in-track-clause-read
returns-in-track-clause-read c = reads_track _ c.track_in.result (begin (codes "track") c.args.words.now c.in-Some.first.now c.as_str.result.now c.in-Some.ensures.value c.as_str.ensures.value c.in-track.is) c.track_in.ensures.read

pub returns-in-convert-clause-read : goal.returns-in-convert-clause-read
returns-in-convert-clause-read c = reads_convert _ c.convert_in.result (begin (codes "convert") c.args.words.now c.in-Some.first.now c.as_str.result.now c.in-Some.ensures.value c.as_str.ensures.value c.in-convert.is) c.convert_in.ensures.read

pub returns-in-try-clause-read : goal.returns-in-try-clause-read
returns-in-try-clause-read c = reads_try _ c.try_in.result (begin (codes "try") c.args.words.now c.in-Some.first.now c.as_str.result.now c.in-Some.ensures.value c.as_str.ensures.value c.in-try.is) c.try_in.ensures.read

pub returns-in-measure-clause-read : goal.returns-in-measure-clause-read
returns-in-measure-clause-read c = reads_measure _ c.measure_in.result (begin (codes "measure") c.args.words.now c.in-Some.first.now c.as_str.result.now c.in-Some.ensures.value c.as_str.ensures.value c.in-measure.is) c.measure_in.ensures.read

pub returns-in-prove-clause-read : goal.returns-in-prove-clause-read
returns-in-prove-clause-read c = reads_prove _ c.prove_in.result (begin (codes "prove") c.args.words.now c.in-Some.first.now c.as_str.result.now c.in-Some.ensures.value c.as_str.ensures.value c.in-prove.is) c.prove_in.ensures.read

pub returns-in-verify-clause-read : goal.returns-in-verify-clause-read
returns-in-verify-clause-read c = reads_verify _ c.verify_in.result (begin (codes "verify") c.args.words.now c.in-Some.first.now c.as_str.result.now c.in-Some.ensures.value c.as_str.ensures.value c.in-verify.is) c.verify_in.ensures.read

pub returns-in-replay-clause-read : goal.returns-in-replay-clause-read
returns-in-replay-clause-read c = reads_replay _ c.replay_in.result (begin (codes "replay") c.args.words.now c.in-Some.first.now c.as_str.result.now c.in-Some.ensures.value c.as_str.ensures.value c.in-replay.is) c.replay_in.ensures.read

pub returns-in-check-clause-read : goal.returns-in-check-clause-read
returns-in-check-clause-read c = reads_check _ c.check_in.result (begin (codes "check") c.args.words.now c.in-Some.first.now c.as_str.result.now c.in-Some.ensures.value c.as_str.ensures.value c.in-check.is) c.check_in.ensures.read

pub returns-in_default-as_str-clause-read : goal.returns-in_default-as_str-clause-read
returns-in_default-as_str-clause-read c =
    unlisted c.args.words.now c.in-Some.first.now c.as_str.result.now c.in-Some.ensures.value c.as_str.ensures.value c.in_default-as_str.not-track c.in_default-as_str.not-convert c.in_default-as_str.not-try c.in_default-as_str.not-measure c.in_default-as_str.not-prove c.in_default-as_str.not-verify c.in_default-as_str.not-replay c.in_default-as_str.not-check

pub returns-in-track-clause-exact : goal.returns-in-track-clause-exact
returns-in-track-clause-exact c = exact_by (codes "track") _ c.track_in.result (begin (codes "track") c.args.words.now c.in-Some.first.now c.as_str.result.now c.in-Some.ensures.value c.as_str.ensures.value c.in-track.is) c.track_in.ensures.read

pub returns-in-convert-clause-exact : goal.returns-in-convert-clause-exact
returns-in-convert-clause-exact c = exact_by (codes "convert") _ c.convert_in.result (begin (codes "convert") c.args.words.now c.in-Some.first.now c.as_str.result.now c.in-Some.ensures.value c.as_str.ensures.value c.in-convert.is) c.convert_in.ensures.read

pub returns-in-try-clause-exact : goal.returns-in-try-clause-exact
returns-in-try-clause-exact c = exact_by (codes "try") _ c.try_in.result (begin (codes "try") c.args.words.now c.in-Some.first.now c.as_str.result.now c.in-Some.ensures.value c.as_str.ensures.value c.in-try.is) c.try_in.ensures.read

pub returns-in-measure-clause-exact : goal.returns-in-measure-clause-exact
returns-in-measure-clause-exact c = exact_by (codes "measure") _ c.measure_in.result (begin (codes "measure") c.args.words.now c.in-Some.first.now c.as_str.result.now c.in-Some.ensures.value c.as_str.ensures.value c.in-measure.is) c.measure_in.ensures.read

pub returns-in-prove-clause-exact : goal.returns-in-prove-clause-exact
returns-in-prove-clause-exact c = exact_by (codes "prove") _ c.prove_in.result (begin (codes "prove") c.args.words.now c.in-Some.first.now c.as_str.result.now c.in-Some.ensures.value c.as_str.ensures.value c.in-prove.is) c.prove_in.ensures.read

pub returns-in-verify-clause-exact : goal.returns-in-verify-clause-exact
returns-in-verify-clause-exact c = exact_by (codes "verify") _ c.verify_in.result (begin (codes "verify") c.args.words.now c.in-Some.first.now c.as_str.result.now c.in-Some.ensures.value c.as_str.ensures.value c.in-verify.is) c.verify_in.ensures.read

pub returns-in-replay-clause-exact : goal.returns-in-replay-clause-exact
returns-in-replay-clause-exact c = exact_by (codes "replay") _ c.replay_in.result (begin (codes "replay") c.args.words.now c.in-Some.first.now c.as_str.result.now c.in-Some.ensures.value c.as_str.ensures.value c.in-replay.is) c.replay_in.ensures.read

pub returns-in-check-clause-exact : goal.returns-in-check-clause-exact
returns-in-check-clause-exact c = exact_by (codes "check") _ c.check_in.result (begin (codes "check") c.args.words.now c.in-Some.first.now c.as_str.result.now c.in-Some.ensures.value c.as_str.ensures.value c.in-check.is) c.check_in.ensures.read

pub returns-in_default-as_str-clause-exact : goal.returns-in_default-as_str-clause-exact
returns-in_default-as_str-clause-exact c =
    exact_nothing c.args.words.now c.in-Some.first.now c.as_str.result.now c.in-Some.ensures.value c.as_str.ensures.value c.in_default-as_str.not-track c.in_default-as_str.not-convert c.in_default-as_str.not-try c.in_default-as_str.not-measure c.in_default-as_str.not-prove c.in_default-as_str.not-verify c.in_default-as_str.not-replay c.in_default-as_str.not-check
