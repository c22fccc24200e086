use Rattle.std.proofs.Common.{Some, refl, ap, ◌∙◌, arith, rules}
use Rattle.topo_library.proofs.numbered_tracker.put_numbered.Goals as goal

pub returns-in-Ok-new : goal.returns-in-Ok-new
returns-in-Ok-new c = record {
  made = λ _. (
    c.in-Ok.ensures.none refl,
    record {
      tracker = record { held = c.in-Ok.held };
      holds = c.give.ensures ∙ ap Some c.in-Ok-new.ensures.ok;
      state = c.in-Ok.ensures.state;
      valid = c.in-Ok.ensures.valid refl;
      goes_on = c.in-Ok.ensures.goes_on;
      lines = c.in-Ok.ensures.lines;
      keeps_on = c.in-Ok.ensures.keeps;
    },
  );
  refused = λ h. absurd (omega (arith, h));
  crowded = λ many. absurd (c.in-Ok.ensures.crowded many);
  none = λ h. absurd (h refl);
  fault = λ _. refl;
  among = search rules;
}
