-- The files of lines whose meshes are stored.
use Rattle.std.proofs.Common.{◌≡◌, ℕ, ◌≤◌, Bool, true, false, List, [], ◌∷◌, ◌++◌, append_assoc, append-nil, length, Option, None, refl, ap, sym, ◌∙◌, arith}
use Rattle.std.specs.Prelude.{if◌then◌else◌}
use Rattle.std.proofs.lemmas.List.{length-append}
use Rattle.obj_text.specs.Written.{mesh_text}
use Rattle.log_text.specs.declared.LogLine.{LogLine}
use Rattle.log_text.specs.declared.LogLine.TheVariants.{Mesh as MeshLine}
use Rattle.log_replay.specs.Replay.{Replay, replayed, after}
use Rattle.track_engine.specs.Saved.{Target, file_name, file_at, files_of}
use Rattle.track_replay.specs.Wanted.{NamedTexts, is_wanted, wanted_at, wanted_of}

module _ (only : Option ℕ) (to : Target) where
  -- ---- one line

  -- a line that tells of a mesh leaves the replay
  pub same_behind : (r : Replay) (line : LogLine) → wanted_at only to (replayed r line) line ≡ wanted_at only to r line
  same_behind r (MeshLine k vertices faces) = refl
  same_behind r _ = refl

  -- a line that tells of a mesh that is stored
  pub wanted_yes : (r : Replay) (line : LogLine) (k vertices faces : ℕ) → line ≡ MeshLine k vertices faces → (wanted : Bool) → wanted ≡ is_wanted only k → wanted ≡ true
      → wanted_at only to r line ≡ (file_name to.prefix k, mesh_text to.decimals r.mesh) ∷ []
  wanted_yes r line k vertices faces is wanted wanted_is is_so =
      let file : NamedTexts = (file_name to.prefix k, mesh_text to.decimals r.mesh) ∷ [] in
      ap (wanted_at only to r) is ∙ ap (λ (b : Bool). if b then file else []) (sym wanted_is ∙ is_so)

  one_or_none : (b : Bool) (file : List ℕ × List ℕ) → length (if b then file ∷ [] else []) ≤ 1
  one_or_none true file = omega arith
  one_or_none false file = omega arith

  at_most_one : (r : Replay) (line : LogLine) → length (wanted_at only to r line) ≤ 1
  at_most_one r (MeshLine k vertices faces) = one_or_none (is_wanted only k) (file_name to.prefix k, mesh_text to.decimals r.mesh)
  at_most_one r _ = omega arith

  -- ---- lines

  -- no more are stored than there are lines
  pub wanted_few : (r : Replay) (lines : List LogLine) → length (wanted_of only to r lines) ≤ length lines
  wanted_few r [] = omega arith
  wanted_few r (x ∷ lines) =
      omega (arith, at_most_one r x, wanted_few (replayed r x) lines, length-append (wanted_at only to r x) (wanted_of only to (replayed r x) lines))

  pub wanted_then : (r : Replay) (xs ys : List LogLine) → wanted_of only to r (xs ++ ys) ≡ wanted_of only to r xs ++ wanted_of only to (after r xs) ys
  wanted_then r [] ys = refl
  wanted_then r (x ∷ xs) ys =
      ap (λ (l : NamedTexts). wanted_at only to r x ++ l) (wanted_then (replayed r x) xs ys)
      ∙ sym (append_assoc (wanted_at only to r x) (wanted_of only to (replayed r x) xs) (wanted_of only to (after (replayed r x) xs) ys))

  pub wanted_one_more : (r : Replay) (front : List LogLine) (line : LogLine) → wanted_of only to r (front ++ line ∷ []) ≡ wanted_of only to r front ++ wanted_at only to (after r front) line
  wanted_one_more r front line =
      wanted_then r front (line ∷ []) ∙ ap (λ (l : NamedTexts). wanted_of only to r front ++ l) (append-nil (wanted_at only to (after r front) line))

-- ---- where no number is given

each_at : (to : Target) (r : Replay) (line : LogLine) → wanted_at None to r line ≡ file_at to r line
each_at to r (MeshLine k vertices faces) = refl
each_at to r _ = refl

pub each_wanted : (to : Target) (r : Replay) (lines : List LogLine) → wanted_of None to r lines ≡ files_of to r lines
each_wanted to r [] = refl
each_wanted to r (x ∷ lines) =
    ap (λ (l : NamedTexts). l ++ wanted_of None to (replayed r x) lines) (each_at to r x) ∙ ap (λ (l : NamedTexts). file_at to r x ++ l) (each_wanted to (replayed r x) lines)
