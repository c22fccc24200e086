use Rattle.std.proofs.Common.{◌≡◌, ◌<◌, [], length, map, take, slice_get, sym, ap, ◌∙◌, arith}
use Rattle.std.proofs.lemmas.Result.{IfOk-weaker}
use Rattle.mesh_base.specs.Given.{mesh_under}
use Rattle.mesh_shape.specs.ShapeFaults.{shape_faults}
use Rattle.mesh_faults.specs.MeetingPairs.{meeting_pairs}
use Rattle.obj_text.specs.Views.{lists_view}
use Rattle.track_check.specs.Check.{shape_as_fault, pair_as_fault, faults_told}
use Rattle.track_check.specs.declared.fault.TheConstants.{FAULTS_MAX}
use Rattle.track_check.proofs.Listed.{with_shape, with_pairs, none_taken, none_if, some_if}
use Rattle.track_check.proofs.list_faults.faults_told.Goals as goal

pub meeting_faults-requires : goal.meeting_faults-requires
meeting_faults-requires c =
    let lists = c.args.lists.now in
    let found = c.in_ok-found.found.items in
    let all = shape_faults c.args.scale (length lists.points) lists.faces in
    let none : found ≡ [] = none_if found c.in_ok-found.found.len c.in_ok-found.found.ok.0 (sym c.is_empty.ensures ∙ c.if-is_empty.true) in
    record { good = sym c.shape_faults.ensures.first ∙ ap (λ l. slice_get l 0) (none_taken FAULTS_MAX found all (omega arith) c.in_ok-found.ensures.found none) }

pub returns-then-is_empty : goal.returns-then-is_empty
returns-then-is_empty c =
    let lists = c.args.lists.now in
    let found = c.in_ok-found.found.items in
    let none : found ≡ [] = none_if found c.in_ok-found.found.len c.in_ok-found.found.ok.0 (sym c.is_empty.ensures ∙ c.if-is_empty.true) in
    IfOk-weaker c.meeting_faults.result (λ faults. faults.items ≡ map pair_as_fault (take FAULTS_MAX (meeting_pairs (mesh_under c.args.scale lists.points lists.faces)))) (λ faults. faults.items ≡ faults_told c.args.scale (lists_view lists))
    (λ faults e. e ∙ with_pairs c.args.scale lists FAULTS_MAX found (omega arith) c.in_ok-found.ensures.found none)
    c.meeting_faults.ensures

pub returns : goal.returns
returns c =
    let lists = c.args.lists.now in
    let found = c.in_ok-found.found.items in
    let some : 0 < length found = some_if found c.in_ok-found.found.len c.in_ok-found.found.ok.0 (sym c.is_empty.ensures ∙ c.if-is_empty.false) in
    IfOk-weaker c.of_shape.result (λ faults. faults.items ≡ map shape_as_fault c.deref.result.now) (λ faults. faults.items ≡ faults_told c.args.scale (lists_view lists))
    (λ faults e. e ∙ with_shape c.args.scale lists FAULTS_MAX found c.deref.result.now c.in_ok-found.ensures.found some c.deref.ensures.value)
    c.of_shape.ensures
