use Rattle.std.proofs.Common.{[]}
use Rattle.line_text.specs.declared.fields.Field.{Field}
use Rattle.line_text.specs.declared.fields.Field.TheVariants.{Text}
use Rattle.line_text.proofs.WordPuts.{Put-last, Put-more}
use Rattle.line_text.proofs.fields.put_line.Goals as goal
use Rattle.line_text.proofs.fields.put_line.Goals.{then-i-fields, else-i-fields}

abbrev none : Field
none = Text (record { ref_ptr = (0, 0); now = [] })

pub loop-i-preserved : goal.loop-i-preserved
loop-i-preserved c =
    let start = c.args.into.now.items in
    let fields = c.args.fields.now in
    rw c.in-Ok.ensures.ok (elim c.if-i-fields.branch [
      | then-i-fields w ↦ rw w.end-is (Put-last start fields c.loop-i.i c.loop-i.into.items none c.loop-i-test.true c.loop-i.invariant w.if-i-fields.true)
      | else-i-fields w ↦ rw w.end-is (Put-more start fields c.loop-i.i c.loop-i.into.items none c.loop-i-test.true c.loop-i.invariant w.if-i-fields.false)
    ])
