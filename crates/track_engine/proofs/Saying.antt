-- The lines of shifts, of pairs and of blocks, told one after another.
use Rattle.std.proofs.Common.{suc, Bool, true, false, cond, map, get_or, ◌≡◌, ◌≤◌, ℕ, ◌<◌, List, [], ◌∷◌, ◌++◌, subst, refl, ap, sym, ◌∙◌, length, drop, ◌+◌, add-one, Result, Ok, Err}
use Rattle.std.proofs.Math.Seq.{drop-cons}
use Rattle.std.proofs.lemmas.List.{drop_all}
use Rattle.std.specs.List.{filter}
use Rattle.mesh_base.specs.declared.ShiftOf.{ShiftOf}
use Rattle.log_text.specs.declared.LogLine.{LogLine}
use Rattle.log_text.specs.declared.LogLine.TheVariants.{Move}
use Rattle.log_write.specs.Written.{Says}
use Rattle.log_write.proofs.SaidLines.{SaysSoFar, says_none, so_far_more, so_far_part, so_far_all}
use Rattle.outside_io.specs.Outside.{Around}
use Rattle.outside_io.specs.declared.stop.Stop.{Stop}
use Rattle.track_engine.specs.Effects.{moves, move_lines}

-- the line of a shift that is not zero, and none of another
move_line : (s : ShiftOf) (b : Bool) → moves s ≡ b → move_lines (s ∷ []) ≡ cond b (Move s ∷ []) []
move_line s b e = ap (λ t. map (λ (r : ShiftOf). Move r) (cond t (s ∷ []) [])) e ∙ by_test b
  where
    by_test : (b : Bool) → map (λ (r : ShiftOf). Move r) (cond b (s ∷ []) []) ≡ cond b (Move s ∷ []) []
    by_test true = refl
    by_test false = refl

module _ (old now new : Around) (asked : List ShiftOf) (i : ℕ) (s : ShiftOf) (all : List LogLine) (h : i < length asked) (at : s ≡ get_or asked i s) where
  moves_left : move_lines (drop i asked) ≡ move_lines (s ∷ []) ++ move_lines (drop (i + 1) asked)
  moves_left =
      ap move_lines (drop-cons asked i s h)
      ∙ ap (λ t. move_lines (t ∷ drop (suc i) asked)) (sym at)
      ∙ ap (λ n. move_lines (s ∷ drop n asked)) (sym (add-one i))
      ∙ by_test (moves s)
    where
      by_test : (b : Bool) → map (λ (r : ShiftOf). Move r) (cond b (s ∷ filter moves (drop (i + 1) asked)) (filter moves (drop (i + 1) asked))) ≡ map (λ (r : ShiftOf). Move r) (cond b (s ∷ []) []) ++ move_lines (drop (i + 1) asked)
      by_test true = refl
      by_test false = refl

  here : SaysSoFar old now (move_lines (drop i asked)) all → SaysSoFar old now (move_lines (s ∷ []) ++ move_lines (drop (i + 1) asked)) all
  here said = let P : List LogLine → Type 0 = λ l. SaysSoFar old now l all in subst P moves_left said

  pub moves_more : (u : Unit {0}) → SaysSoFar old now (move_lines (drop i asked)) all → Says (move_lines (s ∷ [])) now new (Ok u) → SaysSoFar old new (move_lines (drop (i + 1) asked)) all
  moves_more u said p = so_far_more old now new (move_lines (s ∷ [])) _ all u (here said) p

  pub moves_part : (stop : Stop) → SaysSoFar old now (move_lines (drop i asked)) all → Says {T = Unit {0}} (move_lines (s ∷ [])) now new (Err stop) → Says {T = Unit {0}} all old new (Err stop)
  moves_part stop said p = so_far_part old now new (move_lines (s ∷ [])) _ all stop (here said) p

-- all shifts have their lines
pub moves_all : (old now : Around) (asked : List ShiftOf) (i : ℕ) (all : List LogLine) → length asked ≤ i → SaysSoFar old now (move_lines (drop i asked)) all → Says {T = Unit {0}} all old now (Ok tt)
moves_all old now asked i all h said = let P : List ShiftOf → Type 0 = λ l. SaysSoFar old now (move_lines l) all in so_far_all old now all tt (subst P (drop_all i asked h) said)

pub none_said : (a : Around) (s : ShiftOf) → moves s ≡ false → Says {T = Unit {0}} (move_lines (s ∷ [])) a a (Ok tt)
none_said a s e = let P : List LogLine → Type 0 = λ l. Says {T = Unit {0}} l a a (Ok tt) in subst P (sym (move_line s false e)) (says_none a tt)

pub move_said : (old new : Around) (s : ShiftOf) (r : Result (Unit {0}) Stop) → moves s ≡ true → Says (Move s ∷ []) old new r → Says (move_lines (s ∷ [])) old new r
move_said old new s r e said = let P : List LogLine → Type 0 = λ l. Says l old new r in subst P (sym (move_line s true e)) said

-- ---- a line for each item
module _ {X : Type 0} (line : X → LogLine) (old now new : Around) (xs : List X) (i : ℕ) (x : X) (all : List LogLine) (h : i < length xs) (at : x ≡ get_or xs i x) where
  lines_left : map line (drop i xs) ≡ line x ∷ map line (drop (i + 1) xs)
  lines_left =
      ap (map line) (drop-cons xs i x h)
      ∙ ap (λ t. map line (t ∷ drop (suc i) xs)) (sym at)
      ∙ ap (λ n. map line (x ∷ drop n xs)) (sym (add-one i))

  line_next : SaysSoFar old now (map line (drop i xs)) all → SaysSoFar old now (line x ∷ map line (drop (i + 1) xs)) all
  line_next said = let P : List LogLine → Type 0 = λ l. SaysSoFar old now l all in subst P lines_left said

  pub lines_more : (u : Unit {0}) → SaysSoFar old now (map line (drop i xs)) all → Says (line x ∷ []) now new (Ok u) → SaysSoFar old new (map line (drop (i + 1) xs)) all
  lines_more u said w = so_far_more old now new (line x ∷ []) (map line (drop (i + 1) xs)) all u (line_next said) w

  pub lines_part : (stop : Stop) → SaysSoFar old now (map line (drop i xs)) all → Says {T = Unit {0}} (line x ∷ []) now new (Err stop) → Says {T = Unit {0}} all old new (Err stop)
  lines_part stop said part = so_far_part old now new (line x ∷ []) (map line (drop (i + 1) xs)) all stop (line_next said) part

-- all items have their lines
pub lines_all : {X : Type 0} (line : X → LogLine) (old now : Around) (xs : List X) (i : ℕ) (all : List LogLine) → length xs ≤ i → SaysSoFar old now (map line (drop i xs)) all → Says {T = Unit {0}} all old now (Ok tt)
lines_all {X = X} line old now xs i all h said = let P : List X → Type 0 = λ l. SaysSoFar old now (map line l) all in so_far_all old now all tt (subst P (drop_all i xs h) said)
