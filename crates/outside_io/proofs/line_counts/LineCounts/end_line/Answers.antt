-- The tests of the kept bytes are those of the line, and a line more has ended.
use Rattle.std.proofs.Common.{◌≡◌, ◌+◌, if◌then◌else◌, take, nat_eq, codes, sym, ap, ◌∙◌, lit<, lit≤}
use Rattle.std.specs.Str.{bytes_eq}
use Rattle.std.specs.List.{starts_with}
use Rattle.std.proofs.Math.Seq.{take-take}
use Rattle.outside_io.specs.ToldLines.{tells_step, tells_whole_step, tells_split, open_line, capped, steps_in, whole_steps_in, splits_in}
use Rattle.outside_io.proofs.ToldLines.{eq-take, counts-LF, counts-lines, open-LF}
use Rattle.outside_io.proofs.line_counts.LineCounts.end_line.Goals as goal

pub returns : goal.returns
returns c text are =
    let step : c.starts_with-is_step.result ≡ tells_step (open_line text) =
    c.starts_with-is_step.ensures.value ∙ ap (λ l. starts_with nat_eq l (codes "step ")) are.4
    ∙ ap (bytes_eq (codes "step ")) (take-take 5 12 (open_line text) (lit≤ tt)) in
    let whole : c.eq-is_whole_step.result ≡ tells_whole_step (open_line text) =
    c.eq-is_whole_step.ensures ∙ ap (bytes_eq (take c.args.self.now.len c.args.self.now.front)) c.as_slice.ensures
    ∙ ap (λ l. bytes_eq l (codes "moved whole")) are.4 ∙ eq-take 12 (open_line text) (codes "moved whole") (lit< tt) in
    let split : c.starts_with-is_split.result ≡ tells_split (open_line text) =
    c.starts_with-is_split.ensures.value ∙ ap (λ l. starts_with nat_eq l (codes "split ")) are.4
    ∙ ap (bytes_eq (codes "split ")) (take-take 6 12 (open_line text) (lit≤ tt)) in (
      c.counted-self.ensures ∙ ap (λ n. capped (n + 1)) are.0 ∙ counts-lines text,
      c.counted-self-2.ensures ∙ ap (λ n. capped (n + (if c.starts_with-is_step.result then 1 else 0))) are.1
          ∙ ap (λ v. capped (capped (steps_in text) + (if v then 1 else 0))) step ∙ counts-LF tells_step text,
      c.counted-self-3.ensures ∙ ap (λ n. capped (n + (if c.eq-is_whole_step.result then 1 else 0))) are.2
          ∙ ap (λ v. capped (capped (whole_steps_in text) + (if v then 1 else 0))) whole ∙ counts-LF tells_whole_step text,
      c.counted-self-4.ensures ∙ ap (λ n. capped (n + (if c.starts_with-is_split.result then 1 else 0))) are.3
          ∙ ap (λ v. capped (capped (splits_in text) + (if v then 1 else 0))) split ∙ counts-LF tells_split text,
      sym (ap (take 12) (open-LF text)),
    )
