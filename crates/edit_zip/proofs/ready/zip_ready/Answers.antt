use Rattle.std.proofs.Common.{◌≡◌, Bool, true, false, not, ◌||◌, ◌&&◌, ◌++◌, refl, sym, ap, ◌∙◌}
use Rattle.mesh_base.specs.Pairs.{is_edge, is_crowded}
use Rattle.edit_base.specs.Edges.{Edge, edge_of}
use Rattle.edit_zip.specs.Zip.{four_ids, repeats}
use Rattle.edit_zip.proofs.ready.zip_ready.Goals as goal

-- ready, by its tests
abbrev ready : (first second crowded crowded' shared : Bool) → Bool
ready first second crowded crowded' shared = not (not first || not second || crowded || crowded' || shared)

no_edge : (p q x y z : Bool) → false ≡ (p && q) → false ≡ ready p q x y z
no_edge true true x y z h = absurd cc
no_edge true false x y z h = refl
no_edge false q x y z h = refl

crowded : (p q x y z : Bool) → (x || y) ≡ true → false ≡ ready p q x y z
crowded true true true y z h = refl
crowded true true false true z h = refl
crowded true true false false z h = absurd cc
crowded true false x y z h = refl
crowded false q x y z h = refl

uncrowded : (p q x y z : Bool) → true ≡ (p && q) → (x || y) ≡ false → not z ≡ ready p q x y z
uncrowded true true true y z e h = absurd cc
uncrowded true true false true z e h = absurd cc
uncrowded true true false false z e h = refl
uncrowded true false x y z e h = absurd cc
uncrowded false q x y z e h = absurd cc

pub returns-in-None : goal.returns-in-None
returns-in-None g c =
    let m = g.S.Surface.mesh c.args.mesh.now in
    let s : Edge = edge_of m c.args.a c.args.b in
    let t : Edge = edge_of m c.args.e c.args.f in
    no_edge (is_edge m s.a s.b) (is_edge m t.a t.b) (is_crowded m s.a s.b) (is_crowded m t.a t.b) (repeats (four_ids s ++ four_ids t)) c.in-None.ensures.some

pub returns-then-not-are_crowded : goal.returns-then-not-are_crowded
returns-then-not-are_crowded g c =
    let m = g.S.Surface.mesh c.args.mesh.now in
    let s : Edge = edge_of m c.args.a c.args.b in
    let t : Edge = edge_of m c.args.e c.args.f in
    let first = c.in-Some.ensures.first in
    let second = c.in-Some.ensures.second in
    let none : (is_crowded m s.a s.b || is_crowded m t.a t.b) ≡ false = sym (λ i. is_crowded m (first i).a (first i).b || is_crowded m (second i).a (second i).b) ∙ sym c.are_crowded.ensures ∙ c.if-not-are_crowded.true in
    ap not c.are_shared.ensures ∙ (λ i. not (repeats (four_ids (first i) ++ four_ids (second i))))
    ∙ uncrowded (is_edge m s.a s.b) (is_edge m t.a t.b) (is_crowded m s.a s.b) (is_crowded m t.a t.b) (repeats (four_ids s ++ four_ids t)) c.in-Some.ensures.some none

pub returns-else-not-are_crowded : goal.returns-else-not-are_crowded
returns-else-not-are_crowded g c =
    let m = g.S.Surface.mesh c.args.mesh.now in
    let s : Edge = edge_of m c.args.a c.args.b in
    let t : Edge = edge_of m c.args.e c.args.f in
    let first = c.in-Some.ensures.first in
    let second = c.in-Some.ensures.second in
    let some : (is_crowded m s.a s.b || is_crowded m t.a t.b) ≡ true = sym (λ i. is_crowded m (first i).a (first i).b || is_crowded m (second i).a (second i).b) ∙ sym c.are_crowded.ensures ∙ c.if-not-are_crowded.false in
    ap not c.if-not-are_crowded.false
    ∙ crowded (is_edge m s.a s.b) (is_edge m t.a t.b) (is_crowded m s.a s.b) (is_crowded m t.a t.b) (repeats (four_ids s ++ four_ids t)) some
