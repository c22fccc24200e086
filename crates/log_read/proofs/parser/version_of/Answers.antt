use Rattle.std.proofs.Common.{sym, ◌∙◌}
use Rattle.line_text.specs.Pieces.{parts_of}
use Rattle.log_read.proofs.LogParts.{version_named, version_numbered, version_other}
use Rattle.log_read.proofs.parser.version_of.Goals as goal

pub returns-then-is_word : goal.returns-then-is_word
returns-then-is_word c = version_named c.args.bytes.now c.cut_at.result.0.now (parts_of 10 c.cut_at.result.1) c.cut_at.ensures (sym c.is_word.ensures ∙ c.if-is_word.true)

pub returns-then-is_word-2 : goal.returns-then-is_word-2
returns-then-is_word-2 c = version_numbered c.args.bytes.now c.cut_at.result.0.now (parts_of 10 c.cut_at.result.1) c.cut_at.ensures (sym c.is_word.ensures ∙ c.if-is_word.false) (sym c.is_word-2.ensures ∙ c.if-is_word-2.true)

pub returns : goal.returns
returns c = version_other c.args.bytes.now c.cut_at.result.0.now (parts_of 10 c.cut_at.result.1) c.cut_at.ensures (sym c.is_word.ensures ∙ c.if-is_word.false) (sym c.is_word-2.ensures ∙ c.if-is_word-2.false)
