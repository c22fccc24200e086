use Rattle.std.proofs.Common.{◌≡◌, ◌≢◌, ℕ, ◌==◌, Bool, true, false, Option, is_some, not, sym, ap, ◌∙◌, arith}
use Rattle.std.specs.FinMap.{get}
use Rattle.std.proofs.lemmas.Bool.Decides.{nat_tests}
use Rattle.mesh_play.proofs.FreshFaces.{fresh_where_none_runs}
use Rattle.edit_tests.proofs.calls.is_fresh.Goals as goal

differ : (a b : ℕ) → (a == b) ≡ false → a ≢ b
differ a b h e = grind (arith, nat_tests)

zero_of : (a : ℕ) → (a == 0) ≡ true → a ≡ 0
zero_of a h = grind (arith, nat_tests)

there : {X : Type 0} (o found : Option X) (b : Bool) → found ≡ o → is_some found ≡ not b → b ≡ false → is_some o ≡ true
there o found b e h false_b = ap is_some (sym e) ∙ h ∙ ap not false_b

pub returns : goal.returns
returns g c = λ none.
    let points = (g.S.Surface.mesh c.args.surface.now).points in
    fresh_where_none_runs (g.S.Surface.mesh c.args.surface.now) (record { first = c.args.a; second = c.args.b; third = c.args.c }) (
      there (get points c.args.a) c.point.result c.is_none.result c.point.ensures c.is_none.ensures c.if-is_none.false,
      there (get points c.args.b) c.point-2.result c.is_none-2.result c.point-2.ensures c.is_none-2.ensures c.if-is_none-2.false,
      there (get points c.args.c) c.point-3.result c.is_none-3.result c.point-3.ensures c.is_none-3.ensures c.if-is_none-3.false,
    )
    (record {
      first_second = differ c.args.a c.args.b (sym c.eq.ensures ∙ c.if-eq.false);
      second_third = differ c.args.b c.args.c (sym c.eq-2.ensures ∙ c.if-eq-2.false);
      third_first = differ c.args.c c.args.a (sym c.eq-3.ensures ∙ c.if-eq-3.false);
    })
    (sym c.runs.ensures ∙ zero_of c.runs.result none)
