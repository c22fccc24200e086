-- `unseal` takes the box's memory back.
use Rattle.std.proofs.Common.{◌≡◌, [], ◌∷◌, refl, sym, Option, Some, None, IsSome, true≢false}
use Rattle.std.proofs.raw_atomic.Walks.{proved}
use Rattle.std.proofs.alloc.Calls.{Goes-blank}
use base.Logic.{id⊢}
use base.Fml.{ftrue}
use contract.Monad.{fact}
use contract.Running.{tables}
use types.Kit.{‵, raw, ◌⊛◌, ◌$◌, ◌∵◌, !, qed, done, move, keep, use1, split, join, fsplit, fjoin, rewrite, suffices}
use types.Run.{enter, of_opd, fld, stop, no_more, and_then, returns}
use types.ByLocal.{alloc_all, pass_all, free_all, look_at, get, get_in, sets}
use types.Part.{agg, sub, whole}
use denote.Exit.{yes}
use denote.RattleType.{RattleType}
use denote.RawPtr.{rawptr_Lawful}
use denote.Signature.{plain}
use denote.Steps.{nothing, heard}
use denote.Struct.OwningLaws.{tells, val, vals, lawful}
use denote.Triple.Walked.{Stays, walk_of, says, stay_dropped, ends_at}
use Rattle.std.specs.contracts.alloc.Global.{the_row as Glob}
use Rattle.std.specs.contracts.impls.GlobalAllocator.TheImpl.{ghosts}
use Rattle.topo_library.specs.contracts.tracker.Tracker.{the_row as Tracker}
use Rattle.topo_library.specs.contracts.loose.LooseBox as loose
use Rattle.topo_library.proofs.owned.OwnedTracker.TheLaws as owned-laws
use Rattle.topo_library.specs.Owned.{owned_owns}
use Rattle.topo_library.specs.contracts.owned.OwnedTracker as owned
use Rattle.topo_library.specs.contracts.owned.unseal as f
use Rattle.topo_library.proofs.owned.unseal.Statement.{statement}
use Rattle.topo_library.proofs.owned.unseal.Code as code

abbrev To : RattleType
To = loose.the_row Tracker Glob ghosts

abbrev stayed : Stays f.ended.signature.params f.ended.kept
stayed = (stay_dropped _ yes, tt)

with_some {ℓ} : {X : Type 0} {R : Type ℓ} (o : Option X) → IsSome o → ((x : X) → o ≡ Some x → R) → R
with_some (Some x) s k = k x refl
with_some None s k = absurd (true≢false (sym s))

pub unseal_spec : {M : Type 1} → statement M
unseal_spec 𝓤 𝓛 𝓜 𝓡 wired =
    let c = f.clauses 𝓛 𝓜.mem 𝓡.returns in let W = walk_of 𝓛 f.ended stayed c in let 𝓣 = tables 𝓤 𝓛.H 𝓜 𝓡 𝓡.env in
    let L = owned-laws.the_laws in let From : RattleType = owned.the_row in
    proved 𝓛 f.ended stayed c 𝓜 𝓡 (Goes-blank 𝓛 0 (plain (λ _. From)) yes (λ κs x w. tt), tt)
    f.Key.name code.function (code.unfolded 𝓤 𝓛.H 𝓜 𝓡 wired)
    (λ κs. (vals owned.the_type L, tt)) (λ κs. (tells owned.the_type L, tt)) (λ κs qs bounds a _ are.
    let v = a.0 in let w = val owned.the_type L v in
    let y : W.Ghost = ((κs, qs, bounds, a, (w ∷ [], tt)), tt) in
    let typed = (lawful owned.the_type L 𝓛).typed v (w ∷ []) are.0 in
    let at_typed = (rawptr_Lawful 𝓛).typed v.at _ refl in
    qed 𝓛 ((‵ ftrue ⊛ ‵ (From.own_val v (w ∷ [])) ⊛ ‵ ftrue) ∷ raw (fact 𝓤 (IsSome v.value)) ∷ []) ∵ move ! (1 ∷ []) $ heard ! (IsSome v.value) (λ some.
    with_some v.value some (λ x e.
    let to : To.Denot = record { ptr = v.at; alloc = v.alloc; value = x } in
    split ! $ move ! (1 ∷ []) $ split ! $ fsplit ! $ move ! (1 ∷ []) $ rewrite ! 0 (λ (o : Option Tracker.Denot). ‵ (owned_owns v.alloc v.at o)) e refl $ move ! (1 ∷ []) $ fjoin ! $
    -- [what the pointer owns; nothing; nothing]
    enter ! _ _ _ _ _ $ alloc_all ! (λ l. pass_all ! refl (typed.0, tt) $
    sets ! (of_opd ! (get_in ! (fld ! refl (stop !)) (sub ! 0 refl (whole !)))) refl at_typed.0 $
    sets ! (of_opd ! (get_in ! (fld ! refl (stop !)) (sub ! 1 refl (whole !)))) refl (tt, ((tt, tt), tt)) $
    sets ! (of_opd ! (get ! refl)) refl at_typed.0 $
    sets ! (agg ! (and_then ! (get ! refl) (and_then ! (get ! refl) (no_more !)))) refl typed.0 $
    returns ! (look_at ! 0 refl) $ free_all ! refl $ keep ! (0 ∷ []) $
    use1 𝓛 (‵ (To.own_val to (w ∷ []))) (id⊢ 𝓤 _) $
    suffices ! _ (ends_at 𝓛 f.ended stayed c y w to (tt, tt) (tt, tt)) $ says ! (sym e) $
    nothing ! $ nothing ! $ fjoin ! $ join ! $ nothing ! $ join ! $ done !))))
