-- Where a pass stands after some of its lines.
use Rattle.std.proofs.Common.{◌≡◌, ◌+◌, ◌&&◌, Bool, true, false, cond, nat_lt, inl, List, [], ◌∷◌, ◌++◌, length, Result, Ok, Err, subst, refl, ap, sym, ◌∙◌, append_assoc, append-nil}
use Rattle.std.specs.List.{filter}
use Rattle.std.specs.Result.{OnOk}
use Rattle.mesh_base.specs.Mesh.{Mesh}
use Rattle.mesh_base.specs.Sides.{IsClosed}
use Rattle.mesh_base.specs.Placements.{IsClearMesh}
use Rattle.mesh_base.specs.Kept.{BeginsWith}
use Rattle.mesh_base.proofs.MarksHold.{begins_itself, begins_along}
use Rattle.log_text.specs.Lines.{text_of_lines, text_of_line}
use Rattle.log_text.specs.declared.LogLine.{LogLine}
use Rattle.log_replay.specs.Replay.{after, at_mesh, mesh_after_lines}
use Rattle.log_write.proofs.WrittenLines.{begun_nothing, written_then}
use Rattle.outside_io.specs.declared.stop.Stop.{Stop}
use Rattle.outside_io.specs.declared.stop.Stop.TheVariants.{NoMemory}
use Rattle.outside_io.specs.Outside.{StoresNothing}
use Rattle.outside_io.specs.Sink.{appended, AppendsPart}
use Rattle.outside_io.proofs.Outsides.{nothing_unremembered, nothing_done, nothing_then, nothing_whole}
use Rattle.outside_io.proofs.Written.{appended-nil}
use Rattle.pass_run.specs.declared.passes.PassCount.{PassCount}
use Rattle.pass_run.specs.PassLines.{is_done, is_refused, ends, done_in, refused_in}
use Rattle.pass_run.specs.Results.{Stage, written_at, Keeps, PassResult}
use Rattle.pass_run.specs.Said.{LeadTo, SaidInPart}
use Rattle.pass_run.proofs.Asking.{leads_there}
use Rattle.pass_run.proofs.SaidLines.{done_in-append, refused_in-append, lead_then, said_nothing, said_part, said_part_then, said_part_more, none_ends, ends_then, ends_by_count}

-- ---- what stays

-- the mesh stays, and the desk is left alone
pub still_kept : {T : Type 0} (old new : Stage) (r : Result T Stop) → new.mesh ≡ old.mesh → new.kept ≡ old.kept → IsClosed old.mesh → IsClearMesh old.mesh → StoresNothing old.around new.around r → Keeps old new r
still_kept old new r mesh kept closed clear nothing = record {
  closed = subst IsClosed (sym mesh) closed;
  clear = subst IsClearMesh (sym mesh) clear;
  marks = subst (λ l. BeginsWith l old.kept) (sym kept) (begins_itself old.kept);
  nothing_stored = nothing;
}

-- one part after another
pub keeps_then : {T U : Type 0} (a b c : Stage) (p : Result T Stop) (q : Result U Stop) → Keeps a b p → Keeps b c q → Keeps a c q
keeps_then a b c p q x y = record {
  closed = y.closed;
  clear = y.clear;
  marks = begins_along c.kept b.kept a.kept y.marks x.marks;
  nothing_stored = nothing_then a.around b.around c.around p q x.nothing_stored y.nothing_stored;
}

-- by another answer that is no stop
pub keeps_whole : {T U : Type 0} (a b : Stage) (p : Result T Stop) (y : U) → Keeps a b p → Keeps a b (Ok y)
keeps_whole a b p y x = record { closed = x.closed; clear = x.clear; marks = x.marks; nothing_stored = nothing_whole a.around b.around p y x.nothing_stored }

-- ---- what one part of a pass leaves

-- memory was wanting before the first line
pub wanting : (lines : List LogLine) (old new : Stage) → new.mesh ≡ old.mesh → new.around ≡ old.around → IsClosed new.mesh → IsClearMesh new.mesh → BeginsWith new.kept old.kept → PassResult lines old new (Err NoMemory)
wanting lines old new kept same closed clear marks = record {
  said = said_nothing old.mesh new.mesh (written_at old) (written_at new) lines kept (ap (λ a. a.world.holds.written) same);
  done = tt;
  refused = tt;
  keeps = record {
    closed = closed;
    clear = clear;
    marks = marks;
    nothing_stored = subst (λ a. StoresNothing {T = PassCount} old.around a (Err NoMemory)) (sym same) (nothing_unremembered {T = PassCount} old.around);
  };
}

-- and nothing was done
pub nothing_yet : (lines : List LogLine) (s : Stage) → IsClosed s.mesh → IsClearMesh s.mesh → PassResult lines s s (Err NoMemory)
nothing_yet lines s closed clear = wanting lines s s refl refl closed clear (begins_itself s.kept)

-- there is one line, and it is written
pub one_said : (lines : List LogLine) (line : LogLine) (old new : Stage) (count : PassCount) → lines ≡ line ∷ [] → LeadTo lines old.mesh new.mesh → written_at new ≡ appended (written_at old) (text_of_lines (line ∷ []))
    → count.done ≡ done_in (line ∷ []) → count.refused ≡ refused_in (line ∷ []) → Keeps old new (Ok count) → PassResult lines old new (Ok count)
one_said lines line old new count one leads whole done refused keeps = record {
  said = (leads, whole ∙ ap (λ l. appended (written_at old) (text_of_lines l)) (sym one));
  done = done ∙ ap done_in (sym one);
  refused = refused ∙ ap refused_in (sym one);
  keeps = keeps;
}

-- the first line is written in part
pub first_in_part : (line : LogLine) (more : List LogLine) (old new : Stage) (stop : Stop) → LeadTo (line ∷ []) old.mesh new.mesh → AppendsPart (written_at old) (written_at new) (text_of_line line)
    → Keeps {T = PassCount} old new (Err stop) → PassResult (line ∷ more) old new (Err stop)
first_in_part line more old new stop leads part keeps = record {
  said = said_part_more old.mesh new.mesh (written_at old) (written_at new) (line ∷ []) more (said_part old.mesh new.mesh (written_at old) (written_at new) line leads part);
  done = tt;
  refused = tt;
  keeps = keeps;
}

-- there is one line, and it is written in part
pub one_in_part : (lines : List LogLine) (line : LogLine) (old new : Stage) (stop : Stop) → lines ≡ line ∷ [] → LeadTo lines old.mesh new.mesh → AppendsPart (written_at old) (written_at new) (text_of_line line)
    → Keeps {T = PassCount} old new (Err stop) → PassResult lines old new (Err stop)
one_in_part lines line old new stop one leads part keeps =
    let P : List LogLine → Type 0 = λ l. LeadTo l old.mesh new.mesh in
    let Q : List LogLine → Type 0 = λ l. PassResult l old new (Err stop) in
    subst Q (sym one) (first_in_part line [] old new stop (subst P one leads) part keeps)

-- the first line is written and is of no edit, and then the others are said
pub first_said : {T : Type 0} (line : LogLine) (more : List LogLine) (a b c : Stage) (x : T) (r : Result PassCount Stop) → LeadTo (line ∷ []) a.mesh b.mesh → is_done line ≡ false → is_refused line ≡ false
    → written_at b ≡ appended (written_at a) (text_of_lines (line ∷ [])) → Keeps a b (Ok x) → PassResult more b c r → PassResult (line ∷ more) a c r
first_said line more a b c x (Ok count) leads no_edit no_refusal whole keeps r = record {
  said = (lead_then a.mesh b.mesh c.mesh (line ∷ []) more leads r.said.0, written_then (written_at a) (written_at b) (written_at c) (line ∷ []) more whole r.said.1);
  done = r.done ∙ sym (ap (λ b. length (cond b (line ∷ filter is_done more) (filter is_done more))) no_edit);
  refused = r.refused ∙ sym (ap (λ b. length (cond b (line ∷ filter is_refused more) (filter is_refused more))) no_refusal);
  keeps = keeps_then a b c (Ok x) (Ok count) keeps r.keeps;
}
first_said line more a b c x (Err stop) leads no_edit no_refusal whole keeps r = record {
  said = said_part_then a.mesh b.mesh c.mesh (written_at a) (written_at b) (written_at c) (line ∷ []) more leads whole r.said;
  done = tt;
  refused = tt;
  keeps = keeps_then a b c (Ok x) (Err stop) keeps r.keeps;
}

-- where all lines are said that make this mesh, that is the mesh
pub leads_to : (lines : List LogLine) (end : Mesh) (old new : Stage) (r : Result PassCount Stop) → after (at_mesh old.mesh) lines ≡ at_mesh end → PassResult lines old new r → OnOk r (new.mesh ≡ end)
leads_to lines end old new (Ok count) made result = leads_there old.mesh end lines new.mesh made result.said.0
leads_to lines end old new (Err stop) made result = tt

-- ---- some of the lines

-- Some of the lines are written and counted, and lead to the mesh. Unless they end the pass, the rest is left.
pub record SoFar (from now : Stage) (grouped : Bool) (rest all : List LogLine) (count : PassCount) : Type 0 where
  pub said : List LogLine
  pub whole : said ++ cond (ends grouped said) [] rest ≡ all
  pub leads : LeadTo said from.mesh now.mesh
  pub written : written_at now ≡ appended (written_at from) (text_of_lines said)
  pub done : count.done ≡ done_in said
  pub refused : count.refused ≡ refused_in said
  pub keeps : Keeps from now (Ok count)

-- none is written yet
pub so_far_none : (s : Stage) (grouped : Bool) (rest all : List LogLine) (count : PassCount) → rest ≡ all → IsClosed s.mesh → IsClearMesh s.mesh → count.done ≡ 0 → count.refused ≡ 0 → SoFar s s grouped rest all count
so_far_none s grouped rest all count same closed clear done refused = record {
  said = [];
  whole = ap (λ b. cond b [] rest) (none_ends grouped) ∙ same;
  leads = refl;
  written = sym (appended-nil (written_at s));
  done = done;
  refused = refused;
  keeps = still_kept s s (Ok count) refl refl closed clear (nothing_done s.around count);
}

module _ (from now : Stage) (grouped : Bool) (rest all : List LogLine) (count : PassCount) (s : SoFar from now grouped rest all count) where
  still_going : (b : Bool) → (grouped && nat_lt 0 count.refused) ≡ b → ends grouped s.said ≡ b
  still_going b over = ends_by_count grouped s.said ∙ ap (λ n. grouped && nat_lt 0 n) (sym s.refused) ∙ over

  all_said : s.said ≡ all → PassResult all from now (Ok count)
  all_said same = record {
    said = (let P : List LogLine → Type 0 = λ l. LeadTo l from.mesh now.mesh in subst P same s.leads, s.written ∙ ap (λ l. appended (written_at from) (text_of_lines l)) same);
    done = s.done ∙ ap done_in same;
    refused = s.refused ∙ ap refused_in same;
    keeps = s.keeps;
  }

  -- they have ended the pass
  pub so_far_over : (grouped && nat_lt 0 count.refused) ≡ true → PassResult all from now (Ok count)
  so_far_over over = all_said (sym (append-nil s.said) ∙ ap (λ b. s.said ++ cond b [] rest) (sym (still_going true over)) ∙ s.whole)

  -- no more is left
  pub so_far_all : rest ≡ [] → PassResult all from now (Ok count)
  so_far_all none = all_said (sym (append-nil s.said) ∙ ap (λ l. s.said ++ l) (sym (nothing (ends grouped s.said))) ∙ ap (λ l. s.said ++ cond (ends grouped s.said) [] l) (sym none) ∙ s.whole)
    where
      nothing : (b : Bool) → cond {A = List LogLine} b [] [] ≡ []
      nothing true = refl
      nothing false = refl

  -- memory is wanting before the next
  pub so_far_wanting : PassResult all from now (Err NoMemory)
  so_far_wanting = record {
    said = record {
      text = record { done = s.said; rest = cond (ends grouped s.said) [] rest; split = sym s.whole; part = []; begun = begun_nothing (cond (ends grouped s.said) [] rest); written = s.written ∙ ap (appended (written_at from)) (sym (append-nil (text_of_lines s.said))) };
      mesh = inl s.leads;
    };
    done = tt;
    refused = tt;
    keeps = keeps_then from now now (Ok count) (Err NoMemory) s.keeps (still_kept now now (Err NoMemory) refl refl s.keeps.closed s.keeps.clear (nothing_unremembered now.around));
  }

-- A step of a loop says the next lines. `rest` tells what is left from a mesh on.
module _ (from now next : Stage) (grouped : Bool) (left xs all : List LogLine) (rest : Mesh → List LogLine) (count : PassCount)
    (split : left ≡ xs ++ cond (ends grouped xs) [] (rest (mesh_after_lines now.mesh xs))) (s : SoFar from now grouped left all count) (over : (grouped && nat_lt 0 count.refused) ≡ false) where
  abbrev others : List LogLine
  others = cond (ends grouped xs) [] (rest (mesh_after_lines now.mesh xs))

  going : ends grouped s.said ≡ false
  going = still_going from now grouped left all count s false over

  all_is : s.said ++ (xs ++ others) ≡ all
  all_is = ap (λ l. s.said ++ l) (sym split) ∙ ap (λ b. s.said ++ cond b [] left) (sym going) ∙ s.whole

  whole_more : (s.said ++ xs) ++ cond (ends grouped (s.said ++ xs)) [] (rest (mesh_after_lines now.mesh xs)) ≡ all
  whole_more =
      ap (λ b. (s.said ++ xs) ++ cond b [] (rest (mesh_after_lines now.mesh xs))) (ends_then grouped s.said xs going)
      ∙ append_assoc s.said xs others ∙ all_is

  -- they are written and counted
  pub step_done : (more counted : PassCount) → PassResult xs now next (Ok more) → counted.done ≡ count.done + more.done → counted.refused ≡ count.refused + more.refused → SoFar from next grouped (rest next.mesh) all counted
  step_done more counted r done refused = record {
    said = s.said ++ xs;
    whole = ap (λ n. (s.said ++ xs) ++ cond (ends grouped (s.said ++ xs)) [] (rest n)) (sym (ap (λ q. q.mesh) r.said.0)) ∙ whole_more;
    leads = lead_then from.mesh now.mesh next.mesh s.said xs s.leads r.said.0;
    written = written_then (written_at from) (written_at now) (written_at next) s.said xs s.written r.said.1;
    done = done ∙ ap (λ n. n + more.done) s.done ∙ ap (λ n. done_in s.said + n) r.done ∙ sym (done_in-append s.said xs);
    refused = refused ∙ ap (λ n. n + more.refused) s.refused ∙ ap (λ n. refused_in s.said + n) r.refused ∙ sym (refused_in-append s.said xs);
    keeps = keeps_whole from next (Ok more) counted (keeps_then from now next (Ok count) (Ok more) s.keeps r.keeps);
  }

  -- they are written in part
  pub step_in_part : (stop : Stop) → PassResult xs now next (Err stop) → PassResult all from next (Err stop)
  step_in_part stop r =
      let P : List LogLine → Type 0 = λ l. SaidInPart from.mesh next.mesh (written_at from) (written_at next) l in
      record {
        said = subst P all_is (said_part_then from.mesh now.mesh next.mesh (written_at from) (written_at now) (written_at next) s.said (xs ++ others) s.leads s.written (said_part_more now.mesh next.mesh (written_at now) (written_at next) xs others r.said));
        done = tt;
        refused = tt;
        keeps = keeps_then from now next (Ok count) (Err stop) s.keeps r.keeps;
      }
