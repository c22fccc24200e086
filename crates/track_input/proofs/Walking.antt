-- How a command walks words in parts: over those of the files, and then over those behind them.
use Rattle.std.proofs.Common.{◌≡◌, ◌∙◌, ℕ, Bool, true, false, refl, sym, ap, List, [], ◌∷◌, ◌++◌, Option, Some, None, codes}
use Rattle.std.specs.Prelude.{◌&&◌, fold, is_some}
use Rattle.std.specs.List.{list_all}
use Rattle.std.proofs.lemmas.Bool.{and_parts}
use Rattle.std.proofs.lemmas.List.Sums.{fold-append}
use Rattle.clap.specs.Walk.{Text, Row, Walk, Names, idle, walked, walk_from, nothing_held, finished, rows_after}
use Rattle.clap.specs.Simple.{App, Shape, built, names_of, entered, is_simple, matches_of, argument_words}
use Rattle.clap.specs.Takes.{takes, built_takes, walk_passes, turn_passes, settle_passes, default_passes, is_valid, entered_passes}
use Rattle.clap.specs.declared.builder.value_parser.Reading.TheVariants.{AsWritten}
use Rattle.clap.specs.declared.parser.matches.ValueSource.TheVariants.{CommandLine}
use Rattle.mesh_base.specs.declared.Scale.{Scale}
use Rattle.mesh_base.specs.declared.Scale.TheVariants.{Standard, Large}

-- a walk passes over words, if it does over the first of them and then over the others
passes_on : (s : Shape) (names : Names) (w : Walk) (xs ys : List Text) → walk_passes s names w xs ≡ true → walk_passes s names w (xs ++ ys) ≡ walk_passes s names (fold (walked s.rules names) w xs) ys
unfolding walk_passes
passes_on s names w [] ys h = refl
passes_on s names w (x ∷ xs) ys h =
    let p = and_parts (turn_passes s names w x) (walk_passes s names (walked s.rules names w x) xs) h in
    ap (λ (b : Bool). b && walk_passes s names (walked s.rules names w x) (xs ++ ys)) p.0 ∙ passes_on s names (walked s.rules names w x) xs ys p.1

-- ---- where a walk stands

-- what is told for an argument with this value
abbrev pub row : Text → Text → Row
row id v = record { id = id; values = v ∷ []; count = None; source = Some CommandLine; reading = AsWritten }

-- between two words: what is told so far, and the argument whose value came last
abbrev pub standing : ℕ → List Row → Option (Text × List Text) → Walk
standing position rows pending = record {
  held = record { rows = rows; pending = pending; skip = 0 };
  waiting = idle;
  position = position;
  is_trailing = false;
  stopped = None;
}

-- what is told for `--large`
abbrev pub large_rows : Scale → List Row
large_rows Standard = []
large_rows Large = row (codes "large") (codes "true") ∷ []

-- behind the files, the last of them this value
abbrev pub behind_files : ℕ → List Row → Text → Text → Walk
behind_files position rows id v = standing position rows (Some (id, v ∷ []))

-- behind `--large`, `--decimals N`, both or neither
abbrev pub behind_digit : ℕ → List Row → Text → Text → Scale → Option Text → Walk
behind_digit position rows id v Standard None = behind_files position rows id v
behind_digit position rows id v Large None = standing position (rows ++ row id v ∷ large_rows Large) None
behind_digit position rows id v scale (Some n) = standing position (rows ++ row id v ∷ large_rows scale) (Some (codes "decimals", n ∷ []))

-- what is told for `--decimals N`
abbrev pub digit_rows : Option Text → List Row
digit_rows None = []
digit_rows (Some n) = row (codes "decimals") n ∷ []

-- behind these and `--only K`
abbrev pub behind_number : ℕ → List Row → Text → Text → Scale → Option Text → Text → Walk
behind_number position rows id v scale digit k = standing position (rows ++ row id v ∷ large_rows scale ++ digit_rows digit) (Some (codes "only", k ∷ []))

-- ---- a walk in parts

module _ (app : App) where
  abbrev pub top : Shape
  top = (built app).top

  abbrev pub names : Names
  names = names_of (built app)

  abbrev pub start : Walk
  start = walk_from nothing_held

  -- whether the command takes words over which the walk ends so, as it passes over them
  abbrev pub ends_well : Walk → Bool → Bool
  ends_well w passes =
      is_simple app && (entered_passes (built app) w.stopped
      && (passes && (settle_passes top.rules top.args_override_self w.held
      && (list_all default_passes top.rules && is_valid top (finished top.rules w.held) (is_some (entered (built app) w.stopped))))))

  -- the walk passes over words, and ends so
  pub record Walks (from : Walk) (words : List Text) (to : Walk) : Type 0 where
    pub ends : fold (walked top.rules names) from words ≡ to
    pub passes : walk_passes top names from words ≡ true

  pub walks_on : (from between to : Walk) (xs ys : List Text) → Walks from xs between → Walks between ys to → Walks from (xs ++ ys) to
  walks_on from between to xs ys first second = record {
    ends = fold-append (walked top.rules names) from xs ys ∙ ap (λ (w : Walk). fold (walked top.rules names) w ys) first.ends ∙ second.ends;
    passes = passes_on top names from xs ys first.passes ∙ ap (λ (w : Walk). walk_passes top names w ys) first.ends ∙ second.passes;
  }

  module _ (zeroth : Text) (words : List Text) (behind_name : argument_words app (zeroth ∷ words) ≡ words) (to : Walk) (walks : Walks start words to) where
    pub takes_walked : ends_well to true ≡ true → takes app (zeroth ∷ words) ≡ true
    takes_walked well =
        ap (λ (ws : List Text). is_simple app && built_takes (built app) nothing_held ws) behind_name
        ∙ ap (λ (w : Walk). ends_well w (walk_passes top names start words)) walks.ends ∙ ap (λ (p : Bool). ends_well to p) walks.passes ∙ well

    pub matches_walked : finished top.rules to.held ≡ matches_of app (zeroth ∷ words)
    matches_walked = ap (λ (w : Walk). finished top.rules w.held) (sym walks.ends) ∙ ap (λ (ws : List Text). rows_after top.rules names ws) (sym behind_name)
