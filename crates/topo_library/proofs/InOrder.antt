-- Shifts are asked one after another.
use Rattle.std.proofs.Common.{◌≡◌, ◌<◌, ℕ, ◌+◌, List, length, drop, get_or, sym, subst, inr}
use Rattle.std.proofs.lemmas.List.{drop_more}
use Rattle.step_text.specs.declared.Directive.{Directive}
use Rattle.track_held.specs.declared.given.NamedPoint.{NamedPoint}
use Rattle.track_held.specs.Asking.{CanBeAsked, shift_directive}
use Rattle.topo_library.specs.declared.fault.TopoFault.{TopoFault}
use Rattle.topo_library.specs.declared.tracker.Tracker.{Tracker}
use Rattle.topo_library.specs.Codes.{HasDone, HasShiftedEach}

module _ (rows : List NamedPoint) (i : ℕ) (d : NamedPoint) (h : i < length rows) (s mid t : Tracker) (before between after : TopoFault) (what : Directive) (one code : ℕ) where
  -- the next one is done, and what is left behind it comes to this
  pub after_one : CanBeAsked (get_or rows i d) × (what ≡ shift_directive (get_or rows i d)) → HasDone what s mid before between one → one ≡ 0 → HasShiftedEach (drop (i + 1) rows) mid t between after code → HasShiftedEach (drop i rows) s t before after code
  after_one asked done whole rest =
      let P : List NamedPoint → Type 0 = λ l. HasShiftedEach l s t before after code in
      let Q : Directive → Type 0 = λ w. HasDone w s mid before between 0 in
      let R : ℕ → Type 0 = λ n. HasDone what s mid before between n in
      subst P (sym (drop_more rows i d h)) (inr (inr (asked.0, (mid, between, subst Q asked.1 (subst R whole done), rest))))
