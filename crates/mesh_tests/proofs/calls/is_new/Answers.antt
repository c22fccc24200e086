use Rattle.std.proofs.Common.{◌≡◌, ℕ, ◌==◌, ◌&&◌, ◌||◌, true, false, arith}
use Rattle.std.proofs.lemmas.Bool.Decides.{nat_tests}
use Rattle.mesh_base.specs.declared.ids.Corners.{Corners}
use Rattle.mesh_base.specs.Mesh.{Mesh, HasCorners, turned, equal_up_to_rotation}
use Rattle.mesh_base.specs.Changes.{IsFresh}
use Rattle.mesh_tests.proofs.calls.is_new.Goals as goal

-- which corner is first does not matter
turned_back : (d c : Corners) → equal_up_to_rotation d (turned c) ≡ false → equal_up_to_rotation d c ≡ false
turned_back d c h = grind (arith, nat_tests)

fresh_turned_back : (m : Mesh) (c : Corners) → IsFresh m (turned c) → IsFresh m c
fresh_turned_back m c is = record {
  live = (is.live.2, is.live.0, is.live.1);
  different = record { first_second = is.different.third_first; second_third = is.different.first_second; third_first = is.different.second_third };
  new = λ f d has. turned_back d c (is.new f d has);
}

pub returns : goal.returns
returns g c = λ yes. fresh_turned_back (g.S.Surface.mesh c.args.surface.now) (record { first = c.args.a; second = c.args.b; third = c.args.c }) (c.is_fresh.ensures yes)
