-- Lines that are kept as values are told.
use Rattle.std.proofs.Common.{◌≡◌, ◌<◌, ◌+◌, ℕ, suc, Bool, true, false, List, [], ◌∷◌, ◌++◌, length, take, get_or, Ok, Err, refl, ap, sym, ◌∙◌, append-nil, arith}
use Rattle.std.proofs.Math.Seq.{take-suc}
use Rattle.std.specs.declared.option.Option.TheVariants.{Some}
use Rattle.log_text.specs.Lines.{text_of_line, text_of_lines}
use Rattle.log_text.specs.declared.LogLine.{LogLine}
use Rattle.log_text.proofs.LineLaws.{text_of_lines-append}
use Rattle.outside_io.specs.declared.stop.Stop.TheVariants.{NoMemory}
use Rattle.outside_io.specs.Sink.{appended}
use Rattle.outside_io.proofs.Outsides.{nothing_done}
use Rattle.log_write.specs.Written.{Says}
use Rattle.log_write.specs.Kept.{text_where, around_of}
use Rattle.log_write.proofs.SaidLines.{says_nothing}

suc_is : (n : ℕ) → suc n ≡ n + 1
suc_is n = omega arith

-- the text of lines and one more
text_more : (kept : Bool) (lines : List LogLine) (line : LogLine) → text_where kept (lines ++ line ∷ []) ≡ appended (text_where kept lines) (text_of_lines (line ∷ []))
text_more true lines line = ap Some (text_of_lines-append lines (line ∷ []))
text_more false lines line = refl

-- a line is kept
pub kept_says : (kept still : Bool) (lines more : List LogLine) (line : LogLine) (faults later : ℕ) → still ≡ kept → more ≡ lines ++ line ∷ [] → later ≡ faults →
    Says {T = Unit {0}} (line ∷ []) (around_of kept lines faults) (around_of still more later) (Ok tt)
kept_says kept still lines more line faults later same is so =
    let all = nothing_done (around_of kept lines faults) tt in
    rw (same, so) (record {
      written = ap (text_where kept) is ∙ text_more kept lines line;
      nothing_stored = record {
        files = refl;
        desk = refl;
        no_desk = all.no_desk;
        counts = record {
          same = refl;
          causes = record {
            desk = all.counts.causes.desk;
            out = all.counts.causes.out;
            desk_fault = all.counts.causes.desk_fault;
            sink_fault = all.counts.causes.sink_fault;
          };
        };
      };
    })

-- nothing of a line is kept
pub nothing_kept : (kept still : Bool) (lines left : List LogLine) (line : LogLine) (faults later : ℕ) → still ≡ kept → left ≡ lines → later ≡ faults →
    Says {T = Unit {0}} (line ∷ []) (around_of kept lines faults) (around_of still left later) (Err NoMemory)
nothing_kept kept still lines left line faults later same is so = rw (same, is, so) (says_nothing (line ∷ []) (around_of kept lines faults))

-- the text of the first of some lines, and then that of the next
pub printed_more : (lines : List LogLine) (n : ℕ) (line : LogLine) (old new : List ℕ) → n < length lines → line ≡ get_or lines n line → old ≡ text_of_lines (take n lines) →
    new ≡ old ++ text_of_line line → new ≡ text_of_lines (take (n + 1) lines)
printed_more lines n line old new within is first more =
    more ∙ ap (λ t. t ++ text_of_line line) first ∙ ap (λ t. text_of_lines (take n lines) ++ t) (sym (append-nil (text_of_line line))) ∙ sym (text_of_lines-append (take n lines) (line ∷ []))
    ∙ ap (λ l. text_of_lines (take n lines ++ l ∷ [])) is ∙ ap text_of_lines (sym (take-suc lines n line within)) ∙ ap (λ k. text_of_lines (take k lines)) (suc_is n)
