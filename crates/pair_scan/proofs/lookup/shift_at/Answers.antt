use Rattle.std.proofs.Common.{◌≡◌, ℕ, ap, arith, refl, subst, sym}
use Rattle.std.specs.Option.{option_map}
use Rattle.std.specs.Ordering.{nat_cmp}
use Rattle.std.specs.declared.cmp.Ordering.TheVariants.{Equal}
use Rattle.std.proofs.lemmas.Bool.{eqb-true}
use Rattle.std.proofs.lemmas.Bool.Decides.{nat_tests}
use Rattle.mesh_base.specs.declared.ShiftOf.{ShiftOf}
use Rattle.pair_scan.proofs.IdSearch.{found_at}
use Rattle.pair_scan.proofs.ShiftSearch.{id_of, past}
use Rattle.pair_scan.proofs.lookup.shift_at.Goals as goal

equal_ids : (k v : ℕ) → k ≡ v → nat_cmp k v ≡ Equal
equal_ids k v h = grind (arith, nat_tests)

pub returns-then-eq : goal.returns-then-eq
returns-then-eq c =
    let s = c.in-Some.s.now in
    let v = c.args.v in
    let at = c.in-Some.ensures.lookup in
    let same = equal_ids s.v v (eqb-true s.v v (sym c.if-eq.ensures)) in
    sym (ap (option_map (λ (x : ShiftOf). x.by)) (found_at id_of past (λ x. refl) c.args.by.now v c.requires.rising c.args.place s
    (λ d. subst (λ (x : ShiftOf). nat_cmp x.v v ≡ Equal) (at.3.1 d) same) at.3.0 at.1))
