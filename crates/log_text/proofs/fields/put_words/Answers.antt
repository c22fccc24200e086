use Rattle.std.proofs.Common.{◌<◌, map, length, arith}
use Rattle.std.proofs.lemmas.List.{length-map}
use Rattle.line_text.specs.WrittenLines.{word_of}
use Rattle.log_text.proofs.LineLaws.{line_of_words-join}
use Rattle.log_text.proofs.fields.put_words.Goals as goal

pub returns-clause-ok : goal.returns-clause-ok
returns-clause-ok c =
    let lt : 0 < length (map word_of c.args.fields.now) = omega (arith, length-map c.args.fields.now word_of, c.requires) in
    rw (line_of_words-join (map word_of c.args.fields.now) lt) at c.put_line.ensures.ok
