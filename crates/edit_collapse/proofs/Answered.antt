-- What a collapse answers, by what holds of its ends.
use Rattle.std.proofs.Common.{◌≡◌, ◌≢◌, ◌≤◌, ℕ, Bool, true, false, not, min, max, [], ◌∷◌, Option, Some, None, sym, ◌∙◌, arith}
use Rattle.std.specs.Option.{option_map}
use Rattle.grid_base.specs.declared.Point.{Point}
use Rattle.grid_base.specs.declared.Positions.{Positions}
use Rattle.grid_base.specs.Triples.{Triple, times}
use Rattle.grid_base.specs.Points.{position_of}
use Rattle.mesh_base.specs.declared.ids.PairName.{PairName}
use Rattle.mesh_base.specs.Mesh.{Mesh, IsSound}
use Rattle.mesh_base.specs.Sides.{IsClosed}
use Rattle.mesh_base.specs.Pairs.{is_edge}
use Rattle.mesh_base.specs.Placements.{rest_positions_doubled}
use Rattle.edit_base.specs.declared.answers.Why.TheVariants.{NoEdge, Solid, Full, Doubled, Hit}
use Rattle.edit_base.specs.declared.answers.Change.TheVariants.{Collapse}
use Rattle.edit_base.specs.declared.answers.Edit.{Edit}
use Rattle.edit_base.specs.declared.answers.Edit.TheVariants.{Done, No}
use Rattle.edit_base.specs.declared.scaffold.Move.{Move}
use Rattle.edit_base.specs.declared.scaffold.Touch.TheVariants.{End}
use Rattle.edit_base.specs.Reasons.{reason_if, first_reason, done_unless, is_full}
use Rattle.edit_base.specs.Scaffold.{first_failing}
use Rattle.edit_base.specs.Edges.{doubles_a_face}
use Rattle.edit_collapse.specs.Collapse.{are_both_solid, collapse_mesh, collapse_point, collapse_scaffold, joined_faces}
use Rattle.edit_collapse.specs.Answer.{collapse_answer, answer_of}
use Rattle.edit_base.proofs.Beside.{beside_of}
use Rattle.edit_collapse.specs.Tried.{MayBeTried}

-- the answer by its tests
abbrev answer_by : (edge solid doubled full : Bool) → Option PairName → Mesh → ℕ → ℕ → Edit
answer_by edge solid doubled full found m a b =
    done_unless
    (first_reason (reason_if (not edge) NoEdge ∷ reason_if solid Solid ∷ reason_if doubled Doubled ∷ reason_if full Full ∷ option_map (λ p. Hit p) found ∷ []))
    (Collapse a b (collapse_point m a b))

-- the ends of an edge are two
pub are_apart : (m : Mesh) (a b : ℕ) → IsSound m → IsClosed m → a ≤ b → is_edge m a b ≡ true → a ≢ b
are_apart m a b sound closed ordered edge e =
    let low : min a b ≡ a = omega (arith, ordered) in
    let high : max a b ≡ b = omega (arith, ordered) in
    (beside_of m a b sound closed ((λ i. is_edge m (low i) (high i)) ∙ edge)).a_b (low ∙ e ∙ sym high)

module _ (meets : Positions → Bool) (m : Mesh) (a b depth : ℕ) where
  abbrev solid : Bool
  solid = are_both_solid m a b

  abbrev doubled : Bool
  doubled = doubles_a_face (joined_faces m a b)

  abbrev full : Bool
  full = is_full m (collapse_mesh m a b (collapse_point m a b))

  abbrev found : Option PairName
  found = first_failing meets (collapse_scaffold m a b (collapse_point m a b)) depth

  pub no_edge_is_refused : is_edge m a b ≡ false → No NoEdge ≡ answer_of meets m a b depth
  no_edge_is_refused e = sym (λ i. answer_by (e i) solid doubled full found m a b)

  pub solid_is_refused : is_edge m a b ≡ true → solid ≡ true → No Solid ≡ answer_of meets m a b depth
  solid_is_refused e h = sym (λ i. answer_by (e i) (h i) doubled full found m a b)

  pub doubled_is_refused : is_edge m a b ≡ true → solid ≡ false → doubled ≡ true → No Doubled ≡ answer_of meets m a b depth
  doubled_is_refused e h f = sym (λ i. answer_by (e i) (h i) (f i) full found m a b)

  pub full_is_refused : is_edge m a b ≡ true → solid ≡ false → doubled ≡ false → full ≡ true → No Full ≡ answer_of meets m a b depth
  full_is_refused e h f g = sym (λ i. answer_by (e i) (h i) (f i) (g i) found m a b)

  pub may_be_tried : is_edge m a b ≡ true → solid ≡ false → doubled ≡ false → full ≡ false → MayBeTried m a b
  may_be_tried e h f g = record { edge = e; may_move = h; undoubled = f; full = g }

  pub hit_is_refused : MayBeTried m a b → (p : PairName) → Some p ≡ found → No (Hit p) ≡ answer_of meets m a b depth
  hit_is_refused tried p e = sym (λ i. answer_by (tried.edge i) (tried.may_move i) (tried.undoubled i) (tried.full i) (sym e i) m a b)

  pub no_hit_is_done : MayBeTried m a b → None ≡ found → Done (Collapse a b (collapse_point m a b)) ≡ answer_of meets m a b depth
  no_hit_is_done tried e = sym (λ i. answer_by (tried.edge i) (tried.may_move i) (tried.undoubled i) (tried.full i) (sym e i) m a b)

-- two ids in order, or exchanged
pub same_in_order : (meets : Positions → Bool) (m : Mesh) (u v depth : ℕ) → u ≤ v → answer_of meets m u v depth ≡ collapse_answer meets m u v depth
same_in_order meets m u v depth h =
    let low : min u v ≡ u = omega (arith, h) in
    let high : max u v ≡ v = omega (arith, h) in
    sym (λ i. answer_of meets m (low i) (high i) depth)

pub same_exchanged : (meets : Positions → Bool) (m : Mesh) (u v depth : ℕ) → v ≤ u → answer_of meets m v u depth ≡ collapse_answer meets m u v depth
same_exchanged meets m u v depth h =
    let low : min u v ≡ v = omega (arith, h) in
    let high : max u v ≡ u = omega (arith, h) in
    sym (λ i. answer_of meets m (low i) (high i) depth)

-- what the check is given is the scaffold
pub is_scaffold : (m : Mesh) (a b : ℕ) (at : Point) (first second : Move) (end : Triple) → first ≡ record { v = a; start = rest_positions_doubled m a; end = end } →
    second ≡ record { v = b; start = rest_positions_doubled m b; end = end } → end ≡ times 2 (position_of at) →
    record { mesh = m; moves = first ∷ second ∷ []; touch = End; together = a ∷ b ∷ [] } ≡ collapse_scaffold m a b at
is_scaffold m a b at first second end e f g =
    (λ i. record { mesh = m; moves = e i ∷ f i ∷ []; touch = End; together = a ∷ b ∷ [] })
    ∙ (λ i. record { mesh = m; moves = record { v = a; start = rest_positions_doubled m a; end = g i } ∷ record { v = b; start = rest_positions_doubled m b; end = g i } ∷ []; touch = End; together = a ∷ b ∷ [] })
