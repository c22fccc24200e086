-- Lines that are written one after another, and the mesh to which they lead.
use Rattle.std.proofs.Common.{◌≡◌, ℕ, suc, ◌+◌, ◌&&◌, ◌||◌, Bool, true, false, cond, nat_lt, ◌⊎◌, inl, inr, List, [], ◌∷◌, ◌++◌, refl, ap, sym, ◌∙◌, append_assoc, append-nil, length, take, length-append, arith}
use Rattle.std.proofs.lemmas.List.Elements.{filter-append}
use Rattle.std.proofs.lemmas.Bool.Decides.{nat_tests}
use Rattle.std.specs.List.{filter, list_any}
use Rattle.std.specs.declared.option.Option.{Option}
use Rattle.mesh_base.specs.Mesh.{Mesh}
use Rattle.log_text.specs.Lines.{text_of_lines, text_of_line}
use Rattle.log_text.specs.declared.LogLine.{LogLine}
use Rattle.log_replay.specs.Replay.{after, at_mesh}
use Rattle.log_replay.proofs.Replaying.{after_then}
use Rattle.log_write.proofs.WrittenLines.{written_nothing, written_part, part_then, part_more}
use Rattle.outside_io.specs.Sink.{appended, AppendsPart}
use Rattle.pass_run.specs.PassLines.{is_done, is_refused, ends, done_in, refused_in}
use Rattle.pass_run.specs.Said.{LeadTo, SaidInPart}

pub done_in-append : (xs ys : List LogLine) → done_in (xs ++ ys) ≡ done_in xs + done_in ys
done_in-append xs ys = ap length (filter-append is_done xs ys) ∙ length-append (filter is_done xs) (filter is_done ys)

pub refused_in-append : (xs ys : List LogLine) → refused_in (xs ++ ys) ≡ refused_in xs + refused_in ys
refused_in-append xs ys = ap length (filter-append is_refused xs ys) ∙ length-append (filter is_refused xs) (filter is_refused ys)

-- no line leads nowhere else
pub lead_nowhere : (from to : Mesh) → to ≡ from → LeadTo [] from to
lead_nowhere from to same = ap at_mesh (sym same)

-- where some lines lead, and then others
pub lead_then : (from mid to : Mesh) (xs ys : List LogLine) → LeadTo xs from mid → LeadTo ys mid to → LeadTo (xs ++ ys) from to
lead_then from mid to xs ys p q = after_then (at_mesh from) (at_mesh mid) (at_mesh to) xs ys p q

-- nothing of some lines, and the mesh as it was
pub said_nothing : (from to : Mesh) (old new : Option (List ℕ)) (lines : List LogLine) → to ≡ from → new ≡ old → SaidInPart from to old new lines
said_nothing from to old new lines kept same = record { text = written_nothing old new lines same; mesh = inl (lead_nowhere from to kept) }

-- a part of one line, and the mesh to which it leads
pub said_part : (from to : Mesh) (old new : Option (List ℕ)) (line : LogLine) → LeadTo (line ∷ []) from to → AppendsPart old new (text_of_line line) → SaidInPart from to old new (line ∷ [])
said_part from to old new line leads part = record { text = written_part old new line part; mesh = inr leads }

lead_in_part_then : (from mid to : Mesh) (xs done rest : List LogLine) → LeadTo xs from mid
    → LeadTo done mid to ⊎ LeadTo (done ++ take 1 rest) mid to
    → LeadTo (xs ++ done) from to ⊎ LeadTo ((xs ++ done) ++ take 1 rest) from to
lead_in_part_then from mid to xs done rest p (inl e) = inl (lead_then from mid to xs done p e)
lead_in_part_then from mid to xs done rest p (inr e) = inr (ap (after (at_mesh from)) (append_assoc xs done (take 1 rest)) ∙ lead_then from mid to xs (done ++ take 1 rest) p e)

-- a part of some lines after others
pub said_part_then : (from mid to : Mesh) (a b c : Option (List ℕ)) (xs ys : List LogLine) → LeadTo xs from mid → b ≡ appended a (text_of_lines xs) → SaidInPart mid to b c ys → SaidInPart from to a c (xs ++ ys)
said_part_then from mid to a b c xs ys leads p s = record { text = part_then a b c xs ys p s.text; mesh = lead_in_part_then from mid to xs s.text.done s.text.rest leads s.mesh }

lead_in_part_more : (from to : Mesh) (done rest more : List LogLine)
    → LeadTo done from to ⊎ LeadTo (done ++ take 1 rest) from to
    → LeadTo done from to ⊎ LeadTo (done ++ take 1 (rest ++ more)) from to
lead_in_part_more from to done rest more (inl e) = inl e
lead_in_part_more from to done [] more (inr e) = inl (ap (after (at_mesh from)) (sym (append-nil done)) ∙ e)
lead_in_part_more from to done (line ∷ rest) more (inr e) = inr e

-- a part of some lines is a part of more
pub said_part_more : (from to : Mesh) (a b : Option (List ℕ)) (xs ys : List LogLine) → SaidInPart from to a b xs → SaidInPart from to a b (xs ++ ys)
said_part_more from to a b xs ys s = record { text = part_more a b xs ys s.text; mesh = lead_in_part_more from to s.text.done s.text.rest ys s.mesh }

-- ---- where a pass ends
pub none_ends : (grouped : Bool) → ends grouped [] ≡ false
none_ends true = refl
none_ends false = refl

any_then : (xs ys : List LogLine) → list_any is_refused (xs ++ ys) ≡ (list_any is_refused xs || list_any is_refused ys)
any_then [] ys = refl
any_then (x ∷ xs) ys = by_test (is_refused x) (any_then xs ys)
  where
    by_test : (b : Bool) → list_any is_refused (xs ++ ys) ≡ (list_any is_refused xs || list_any is_refused ys) → (b || list_any is_refused (xs ++ ys)) ≡ ((b || list_any is_refused xs) || list_any is_refused ys)
    by_test true e = refl
    by_test false e = e

-- lines that end nothing leave it to those after them
pub ends_then : (grouped : Bool) (xs ys : List LogLine) → ends grouped xs ≡ false → ends grouped (xs ++ ys) ≡ ends grouped ys
ends_then true xs ys e = any_then xs ys ∙ ap (λ b. b || list_any is_refused ys) e
ends_then false xs ys e = refl

some_lines : (n : ℕ) → true ≡ nat_lt 0 (suc n)
some_lines n = grind (arith, nat_tests)

-- a pass ends where it has refused something
pub ends_by_count : (grouped : Bool) (lines : List LogLine) → ends grouped lines ≡ (grouped && nat_lt 0 (refused_in lines))
ends_by_count grouped lines = ap (λ b. grouped && b) (counted lines)
  where
    counted : (lines : List LogLine) → list_any is_refused lines ≡ nat_lt 0 (refused_in lines)
    counted [] = refl
    counted (line ∷ lines) = by_test (is_refused line) (counted lines)
      where
        by_test : (b : Bool) → list_any is_refused lines ≡ nat_lt 0 (refused_in lines) → (b || list_any is_refused lines) ≡ nat_lt 0 (length (cond b (line ∷ filter is_refused lines) (filter is_refused lines)))
        by_test true e = some_lines (length (filter is_refused lines))
        by_test false e = e
