use Rattle.std.proofs.Common.{◌≡◌, ◌-◌, get_or, length, refl, sym, ◌∙◌, arith, rules}
use Rattle.line_text.proofs.Fronts.{FrontSoFar-more, FrontSoFar-room, FrontSoFar-whole, FrontSoFar-within, FrontSoFar-ends, no_front}
use Rattle.line_text.proofs.front_number.front_number.Goals as goal

pub overflow_mul-n : goal.overflow_mul-n
overflow_mul-n c = let r = FrontSoFar-room c.args.text.now c.loop-i.i c.loop-i.n c.loop-i.invariant in omega (arith, r)

pub overflow_add-n : goal.overflow_add-n
overflow_add-n c = let r = FrontSoFar-room c.args.text.now c.loop-i.i c.loop-i.n c.loop-i.invariant in omega (arith, r)

pub returns-then-is_blank : goal.returns-then-is_blank
returns-then-is_blank c =
    let text = c.args.text.now in
    let h = c.loop-i.invariant in
    record {
      value = λ some. FrontSoFar-within text c.loop-i.i c.loop-i.n some h;
      ends = FrontSoFar-ends text c.loop-i.i c.loop-i.n (λ lt. sym c.is_blank.ensures ∙ c.if-is_blank.true) h;
      within = omega (arith, h.within);
      below = FrontSoFar-room text c.loop-i.i c.loop-i.n h;
    }

pub loop-i-init : goal.loop-i-init
loop-i-init c = no_front c.args.text.now

pub loop-i-preserved : goal.loop-i-preserved
loop-i-preserved c =
    let text = c.args.text.now in
    let digit : c.from.result ≡ get_or text c.loop-i.i 0 - 48 = search rules in
    rw digit (FrontSoFar-more text c.loop-i.i c.loop-i.n (get_or text c.loop-i.i 0) c.loop-i-test.true refl (omega arith) (omega arith) (omega arith) c.loop-i.invariant)

pub returns : goal.returns
returns c =
    let text = c.args.text.now in
    let h = FrontSoFar-whole text c.loop-i.i c.loop-i.n c.loop-i-test.false c.loop-i.invariant in
    record {
      value = λ some. FrontSoFar-within text (length text) c.loop-i.n some h;
      ends = FrontSoFar-ends text (length text) c.loop-i.n (λ lt. absurd (omega arith)) h;
      within = omega arith;
      below = FrontSoFar-room text (length text) c.loop-i.n h;
    }
