-- `seal` hands the box's memory on.
use Rattle.std.proofs.Common.{[], ◌∷◌, refl, Some}
use Rattle.std.proofs.raw_atomic.Walks.{proved}
use Rattle.std.proofs.alloc.Calls.{Goes-blank}
use base.Logic.{id⊢}
use base.Fml.{ftrue}
use contract.Running.{tables}
use types.Kit.{‵, ◌⊛◌, ◌$◌, ◌∵◌, !, qed, done, move, keep, use1, split, join, fjoin, suffices}
use types.Run.{enter, of_opd, fld, stop, no_more, and_then, returns}
use types.ByLocal.{alloc_all, pass_all, free_all, look_at, get, get_in, sets}
use types.Part.{agg, sub, whole}
use denote.Exit.{yes}
use denote.RattleType.{RattleType}
use denote.RawPtr.{rawptr_Lawful}
use denote.Signature.{plain}
use denote.Steps.{nothing}
use denote.Struct.OwningLaws.{tells, val, vals, lawful}
use denote.Triple.Walked.{Stays, walk_of, says, stay_dropped, ends_at}
use Rattle.std.specs.contracts.alloc.Global.{the_row as Glob}
use Rattle.std.specs.contracts.impls.GlobalAllocator.TheImpl.{ghosts}
use Rattle.std.proofs.alloc.Global.TheLaws as glob-laws
use Rattle.topo_library.specs.contracts.tracker.Tracker.{the_row as Tracker}
use Rattle.topo_library.proofs.tracker.Tracker.TheLaws as tracker-laws
use Rattle.topo_library.specs.contracts.loose.LooseBox as loose
use Rattle.topo_library.proofs.loose.LooseBox.TheLaws as loose-laws
use Rattle.topo_library.specs.contracts.owned.OwnedTracker as owned
use Rattle.topo_library.specs.contracts.owned.seal as f
use Rattle.topo_library.proofs.owned.seal.Statement.{statement}
use Rattle.topo_library.proofs.owned.seal.Code as code

abbrev From : RattleType
From = loose.the_row Tracker Glob ghosts

abbrev stayed : Stays f.ended.signature.params f.ended.kept
stayed = (stay_dropped _ yes, tt)

pub seal_spec : {M : Type 1} → statement M
seal_spec 𝓤 𝓛 𝓜 𝓡 wired =
    let c = f.clauses 𝓛 𝓜.mem 𝓡.returns in let W = walk_of 𝓛 f.ended stayed c in let 𝓣 = tables 𝓤 𝓛.H 𝓜 𝓡 𝓡.env in
    let L = loose-laws.the_laws Tracker Glob ghosts tracker-laws.the_row_laws glob-laws.the_row_laws glob-laws.the_told in
    proved 𝓛 f.ended stayed c 𝓜 𝓡 (Goes-blank 𝓛 0 (plain (λ _. From)) yes (λ κs x w. tt), tt)
    f.Key.name code.function (code.unfolded 𝓤 𝓛.H 𝓜 𝓡 wired)
    (λ κs. (vals (loose.the_type Tracker Glob ghosts) L, tt)) (λ κs. (tells (loose.the_type Tracker Glob ghosts) L, tt)) (λ κs qs bounds a _ are.
    let v = a.0 in let w = val (loose.the_type Tracker Glob ghosts) L v in
    let to : owned.the_row.Denot = record { at = v.ptr; alloc = v.alloc; value = Some v.value } in
    let y : W.Ghost = ((κs, qs, bounds, a, (w ∷ [], tt)), tt) in
    let typed = (lawful (loose.the_type Tracker Glob ghosts) L 𝓛).typed v (w ∷ []) are.0 in
    let at_typed = (rawptr_Lawful 𝓛).typed v.ptr _ refl in
    qed 𝓛 ((‵ ftrue ⊛ ‵ (From.own_val v (w ∷ [])) ⊛ ‵ ftrue) ∷ ‵ ftrue ∷ []) ∵ split ! $ move ! (1 ∷ []) $ split ! $
    -- [what the pointer owns; nothing; nothing; nothing]
    enter ! _ _ _ _ _ $ alloc_all ! (λ l. pass_all ! refl (typed.0, tt) $
    sets ! (of_opd ! (get_in ! (fld ! refl (stop !)) (sub ! 0 refl (whole !)))) refl at_typed.0 $
    sets ! (of_opd ! (get_in ! (fld ! refl (stop !)) (sub ! 1 refl (whole !)))) refl (tt, ((tt, tt), tt)) $
    sets ! (of_opd ! (get ! refl)) refl at_typed.0 $
    sets ! (agg ! (and_then ! (get ! refl) (and_then ! (get ! refl) (no_more !)))) refl typed.0 $
    returns ! (look_at ! 0 refl) $ free_all ! refl $ keep ! (0 ∷ []) $
    use1 𝓛 (‵ (owned.the_row.own_val to (w ∷ []))) (id⊢ 𝓤 _) $
    suffices ! _ (ends_at 𝓛 f.ended stayed c y w to (tt, tt) (tt, tt)) $ says ! refl $
    nothing ! $ nothing ! $ fjoin ! $ join ! $ nothing ! $ join ! $ done !))
