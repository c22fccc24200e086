-- `nothing` is a pointer to nothing.
use Rattle.std.proofs.Common.{List, [], ◌∷◌, refl, lit<, None, w64}
use Rattle.std.proofs.raw_atomic.Walks.{proved}
use base.Fml.{ftrue}
use mir.Val.{Val, vint, vstruct, vcons, vnil}
use contract.Running.{tables}
use types.Kit.{‵, ◌⊛◌, ◌$◌, ◌∵◌, !, qed, done, move, keep, split, join, fjoin, fpack, feq_i, suffices}
use types.Run.{enter, lit, no_more, and_then, returns}
use types.ByLocal.{alloc_all, pass_all, free_all, look_at, get, sets}
use types.Part.{agg}
use denote.Exit.{yes}
use denote.RattleType.{Valss}
use denote.RawPtr.{null_ptr}
use denote.Signature.{plain}
use denote.Steps.{nothing}
use denote.Struct.Struct.{within}
use denote.Struct.Owning.{fields, shape}
use denote.Struct.Values.{intos}
use denote.Triple.Walked.{Stays, walk_of, says, stay_dropped, Goes-dropped, ends_at}
use Rattle.std.specs.contracts.alloc.Global.{the_row as Glob}
use Rattle.std.proofs.alloc.Global.TheLaws as glob-laws
use Rattle.topo_library.specs.contracts.owned.OwnedTracker as owned
use Rattle.topo_library.specs.contracts.owned.nothing as f
use Rattle.topo_library.proofs.owned.nothing.Statement.{statement}
use Rattle.topo_library.proofs.owned.nothing.Code as code

abbrev stayed : Stays f.ended.signature.params f.ended.kept
stayed = (stay_dropped _ yes, tt)

pub nothing_spec : {M : Type 1} → statement M
nothing_spec 𝓤 𝓛 𝓜 𝓡 wired =
    let c = f.clauses 𝓛 𝓜.mem 𝓡.returns in let W = walk_of 𝓛 f.ended stayed c in let 𝓣 = tables 𝓤 𝓛.H 𝓜 𝓡 𝓡.env in
    proved 𝓛 f.ended stayed c 𝓜 𝓡 (Goes-dropped 𝓛 0 (plain (λ _. Glob)) yes (λ κs x w. refl), tt)
    f.Key.name code.function (code.unfolded 𝓤 𝓛.H 𝓜 𝓡 wired)
    (λ κs. ((λ d. glob-laws.lowered d ∷ []), tt)) (λ κs. (glob-laws.lowers.val_is, tt)) (λ κs qs bounds a _ are.
    let v = a.0 in let h : Val = glob-laws.lowered v in let w : Val = vstruct (vcons (vint w64 0) (vcons h vnil)) in
    let to : owned.the_row.Denot = record { at = null_ptr; alloc = v; value = None } in
    let y : W.Ghost = ((κs, qs, bounds, a, (h ∷ [], tt)), tt) in
    qed 𝓛 ((‵ ftrue ⊛ ‵ (Glob.own_val v (h ∷ [])) ⊛ ‵ ftrue) ∷ ‵ ftrue ∷ []) ∵ split ! $ move ! (1 ∷ []) $ split ! $
    -- [what the handle owns; nothing; nothing; nothing]
    enter ! _ _ _ _ _ $ alloc_all ! (λ l. pass_all ! refl ((tt, ((tt, tt), tt)), tt) $
    sets ! (agg ! (and_then ! (lit ! tt) (and_then ! (get ! refl) (no_more !)))) refl (tt, (record { fits = lit< tt }, (((tt, tt), tt), tt))) $
    returns ! (look_at ! 0 refl) $ free_all ! refl $ keep ! (0 ∷ []) $
    nothing ! $ move ! (1 ∷ 0 ∷ []) $ fjoin ! $ feq_i ! (List Val) (vint w64 0 ∷ []) (vint w64 0 ∷ []) refl $ fjoin ! $ feq_i ! (List Val) (w ∷ []) (w ∷ []) refl $ fjoin ! $
    fpack ! (Valss (fields owned.the_type)) (within (shape owned.the_type) (intos owned.struct.parts (owned.struct.as_values to)) (w ∷ [])) (vint w64 0 ∷ [], (h ∷ [], tt)) $ nothing ! $ move ! (1 ∷ 0 ∷ []) $ fjoin ! $
    suffices ! _ (ends_at 𝓛 f.ended stayed c y w to (tt, tt) (tt, tt)) $ says ! refl $
    nothing ! $ nothing ! $ fjoin ! $ join ! $ nothing ! $ join ! $ done !))
