use Rattle.std.proofs.Common.{◌≡◌, ℕ, ◌+◌, ◌-◌, ◌<◌, List, Some, All, length, take, slice_get, get_or, refl, sym, ap, subst, ◌∙◌, arith}
use Rattle.std.proofs.lemmas.List.{take-map, take-take, length-map, get_or-map}
use Rattle.std.proofs.lemmas.List.Elements.{All-take}
use Rattle.std.proofs.lemmas.Option.{slice_get_read, slice_get-map}
use Rattle.std.specs.Option.{option_map}
use Rattle.mesh_base.specs.Mesh.{IsSound}
use Rattle.mesh_base.proofs.MarksHold.{slice_get-take, begins_itself}
use Rattle.mesh_base.specs.Kept.{BeginsWith}
use Rattle.half_mesh.specs.States.{Ledger, State, AreApart, HasNone, none_buried, meshes_of, NoneBuried}
use Rattle.half_mesh.proofs.StateLaws.{apart-none, none_is}
use Rattle.half_mesh.proofs.half.HalfMeshSurface.back_to.Goals as goal

is_read : {x y : Ledger} → Some x ≡ Some y → x ≡ y
is_read e = cc

-- the last of what is left, after the first cut
last_is : (xs : List Ledger) (n : ℕ) (x : Ledger) → x ≡ get_or xs n x → n < length xs → slice_get xs n ≡ Some x
last_is xs n x is inside = slice_get_read xs (length xs) n x refl inside is

front_sound : (n : ℕ) (xs : List Ledger) → All IsSound (meshes_of xs) → All IsSound (meshes_of (take n xs))
front_sound n xs all = subst (All IsSound) (take-map (λ (l : Ledger). l.state.mesh) n xs) (All-take IsSound n (meshes_of xs) all)

front_none : (n : ℕ) (xs : List Ledger) → NoneBuried xs → NoneBuried (take n xs)
front_none n xs all = All-take (λ (l : Ledger). HasNone l.state.buried) n xs all

one_sound : (xs : List Ledger) (n : ℕ) (x : Ledger) → All IsSound (meshes_of xs) → n < length xs → x ≡ get_or xs n x → IsSound x.state.mesh
one_sound xs n x all inside read =
    let long = length-map xs (λ (l : Ledger). l.state.mesh) in
    subst IsSound (get_or-map (λ (l : Ledger). l.state.mesh) xs n x x.state.mesh inside ∙ ap (λ (l : Ledger). l.state.mesh) (sym read)) (all n x.state.mesh (omega arith))

none_apart : (s : State) → s.buried ≡ none_buried → AreApart s
none_apart s none = let is : s ≡ record { mesh = s.mesh; buried = none_buried } = λ i. record { mesh = s.mesh; buried = none i } in subst AreApart (sym is) (apart-none s.mesh)

one_none : (xs : List Ledger) (n : ℕ) (x : Ledger) → NoneBuried xs → n < length xs → x ≡ get_or xs n x → x.state.buried ≡ none_buried
one_none xs n x all inside read = none_is x.state.buried (subst (λ (l : Ledger). HasNone l.state.buried) (sym read) (all n x inside))

pub invariant_of-self : goal.invariant_of-self
invariant_of-self c =
    let kept = c.args.self.now.before.items in
    let sound = subst (λ ls. All IsSound (meshes_of ls)) (sym c.truncate.ensures.items) (front_sound (c.args.m.place + 1) kept c.args.self.now.before_sound) in
    let none = subst NoneBuried (sym c.truncate.ensures.items) (front_none (c.args.m.place + 1) kept c.args.self.now.before_none) in
    let len = c.truncate.ensures.len in
    let there = c.requires.kept_there in
    let long = length-map kept (λ (l : Ledger). l.state.mesh) in
    let many : 0 < c.truncate.new.self.len = omega (arith, len, there, long, c.args.self.now.before.ok.0) in
    let x : Ledger = c.unwrap.result in
    let read : x ≡ get_or c.truncate.new.self.items (c.truncate.new.self.len - 1) x = is_read (sym c.unwrap.ensures ∙ c.pop.ensures.value x many) in
    let inside : c.truncate.new.self.len - 1 < length c.truncate.new.self.items = omega (arith, many, c.truncate.new.self.ok.0) in
    record {
      now_sound = one_sound c.truncate.new.self.items (c.truncate.new.self.len - 1) x sound inside read;
      now_apart = none_apart x.state (one_none c.truncate.new.self.items (c.truncate.new.self.len - 1) x none inside read);
      before_sound = subst (λ ls. All IsSound (meshes_of ls)) (sym c.truncate-2.ensures.items) (front_sound c.args.m.under c.pop.new.self.items (subst (λ ls. All IsSound (meshes_of ls)) (sym c.pop.ensures.rest) (front_sound (c.truncate.new.self.len - 1) c.truncate.new.self.items sound)));
      before_none = subst NoneBuried (sym c.truncate-2.ensures.items) (front_none c.args.m.under c.pop.new.self.items (subst NoneBuried (sym c.pop.ensures.rest) (front_none (c.truncate.new.self.len - 1) c.truncate.new.self.items none)));
    }

pub returns-clause-mesh : goal.returns-clause-mesh
returns-clause-mesh c =
    let kept = c.args.self.now.before.items in
    let place = c.args.m.place in
    let len = c.truncate.ensures.len in
    let there = c.requires.kept_there in
    let long = length-map kept (λ (l : Ledger). l.state.mesh) in
    let many : 0 < c.truncate.new.self.len = omega (arith, len, there, long, c.args.self.now.before.ok.0) in
    let at : c.truncate.new.self.len - 1 ≡ place = omega (arith, len, there, long, c.args.self.now.before.ok.0) in
    let x : Ledger = c.unwrap.result in
    let read : x ≡ get_or c.truncate.new.self.items place x = is_read (sym c.unwrap.ensures ∙ c.pop.ensures.value x many) ∙ ap (λ n. get_or c.truncate.new.self.items n x) at in
    slice_get-map (λ (l : Ledger). l.state.mesh) kept place
    ∙ ap (option_map (λ (l : Ledger). l.state.mesh)) (
    sym (slice_get-take (place + 1) place kept (omega arith))
    ∙ ap (λ xs. slice_get xs place) (sym c.truncate.ensures.items)
    ∙ last_is c.truncate.new.self.items place x read (omega (arith, many, at, c.truncate.new.self.ok.0)))

pub returns-clause-buried : goal.returns-clause-buried
returns-clause-buried c =
    let kept = c.args.self.now.before.items in
    let none = subst NoneBuried (sym c.truncate.ensures.items) (front_none (c.args.m.place + 1) kept c.args.self.now.before_none) in
    let len = c.truncate.ensures.len in
    let there = c.requires.kept_there in
    let long = length-map kept (λ (l : Ledger). l.state.mesh) in
    let many : 0 < c.truncate.new.self.len = omega (arith, len, there, long, c.args.self.now.before.ok.0) in
    let x : Ledger = c.unwrap.result in
    let read : x ≡ get_or c.truncate.new.self.items (c.truncate.new.self.len - 1) x = is_read (sym c.unwrap.ensures ∙ c.pop.ensures.value x many) in
    one_none c.truncate.new.self.items (c.truncate.new.self.len - 1) x none (omega (arith, many, c.truncate.new.self.ok.0)) read

pub returns-clause-kept : goal.returns-clause-kept
returns-clause-kept c =
    let kept = c.args.self.now.before.items in
    let under = c.args.m.under in
    let len = c.truncate.ensures.len in
    let there = c.requires.kept_there in
    let near = c.requires.under_near in
    let long = length-map kept (λ (l : Ledger). l.state.mesh) in
    let left : c.truncate-2.new.self.items ≡ take under kept =
    c.truncate-2.ensures.items
    ∙ ap (take under) c.pop.ensures.rest
    ∙ take-take under (c.truncate.new.self.len - 1) c.truncate.new.self.items (omega (arith, len, there, near, long, c.args.self.now.before.ok.0))
    ∙ ap (take under) c.truncate.ensures.items
    ∙ take-take under (c.args.m.place + 1) kept (omega (arith, near)) in
    let is : meshes_of c.truncate-2.new.self.items ≡ take under (meshes_of kept) = ap meshes_of left ∙ sym (take-map (λ (l : Ledger). l.state.mesh) under kept) in
    is

pub returns-clause-marks : goal.returns-clause-marks
returns-clause-marks c =
    let kept = c.args.self.now.before.items in
    let under = c.args.m.under in
    let len = c.truncate.ensures.len in
    let there = c.requires.kept_there in
    let near = c.requires.under_near in
    let long = length-map kept (λ (l : Ledger). l.state.mesh) in
    let left : c.truncate-2.new.self.items ≡ take under kept =
    c.truncate-2.ensures.items
    ∙ ap (take under) c.pop.ensures.rest
    ∙ take-take under (c.truncate.new.self.len - 1) c.truncate.new.self.items (omega (arith, len, there, near, long, c.args.self.now.before.ok.0))
    ∙ ap (take under) c.truncate.ensures.items
    ∙ take-take under (c.args.m.place + 1) kept (omega (arith, near)) in
    let is : meshes_of c.truncate-2.new.self.items ≡ take under (meshes_of kept) = ap meshes_of left ∙ sym (take-map (λ (l : Ledger). l.state.mesh) under kept) in
    subst (λ ms. BeginsWith ms (take under (meshes_of kept))) (sym is) (begins_itself (take under (meshes_of kept)))
