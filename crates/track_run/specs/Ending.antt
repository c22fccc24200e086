-- How the directives of a run ended that were all done.
use Rattle.std.specs.Prelude.{◌≡◌, ◌==◌, Bool, true, false, List, [], ◌∷◌, length, IfSome}
use Rattle.outside_io.specs.declared.Ending.{Ending}
use Rattle.step_text.specs.declared.Directive.{Directive}
use Rattle.step_text.specs.declared.Directive.TheVariants as directive
use Rattle.step_text.specs.declared.Placed.{Placed}
use Rattle.track_engine.specs.Shifting.{asks}
use Rattle.track_engine.specs.State.{State}
use Rattle.track_run.specs.Surface.{surface_facts}

-- whether something is moved or edited that no stored mesh has, after a directive
abbrev pub unsaved_after : Bool → Directive → Bool
unsaved_after was directive.Step = true
unsaved_after was (directive.Pass kind) = true
unsaved_after was directive.Fit = true
unsaved_after was directive.Save = false
unsaved_after was other = was

-- the same after directives
abbrev pub unsaved_after_all : Bool → List Placed → Bool
unsaved_after_all was [] = was
unsaved_after_all was (placed ∷ rest) = unsaved_after_all (unsaved_after was placed.what) rest

-- whether something is moved or edited after the last mesh is saved
abbrev pub is_unsaved : List Placed → Bool
is_unsaved steps = unsaved_after_all false steps

-- whether the mesh is the one that was stored last, after a directive; a group that is closed may be
-- taken back
abbrev pub stored_after : Bool → Directive → Bool
stored_after was directive.Step = false
stored_after was (directive.Pass kind) = false
stored_after was directive.Fit = false
stored_after was directive.Close = false
stored_after was directive.Save = true
stored_after was other = was

-- the same after directives
abbrev pub stored_after_all : Bool → List Placed → Bool
stored_after_all was [] = was
stored_after_all was (placed ∷ rest) = stored_after_all (stored_after was placed.what) rest

-- whether the mesh that directives leave is the one that was stored last: mesh 0 is stored before them
abbrev pub is_stored : List Placed → Bool
is_stored steps = stored_after_all true steps

-- of directives that were done, and led to a state; of a surface only what is so of its mesh is
-- told, and only where that was stored last
pub record IsEndingOf (steps : List Placed) (s : State) (ending : Ending) : Type 0 where
  pub is_empty : ending.is_empty ≡ (length steps == 0)
  pub is_unsaved : ending.is_unsaved ≡ is_unsaved steps
  pub asks_in_vain : ending.asks_in_vain ≡ asks s.asked
  pub stored : IfSome ending.surface (λ facts. is_stored steps ≡ true)
  pub surface : IfSome ending.surface (λ facts. facts ≡ surface_facts s.mesh)
