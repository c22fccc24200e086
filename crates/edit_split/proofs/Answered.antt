-- What a split answers where its reasons are known.
use Rattle.std.proofs.Common.{◌≡◌, ℕ, Bool, true, false, not, [], ◌∷◌, Option, sym, ap, ◌∙◌}
use Rattle.std.specs.Option.{option_map}
use Rattle.grid_decided.specs.Decided.{meets_exactly}
use Rattle.mesh_base.specs.declared.ids.PairName.{PairName}
use Rattle.mesh_base.specs.Mesh.{Mesh}
use Rattle.mesh_base.specs.Pairs.{is_edge, is_crowded}
use Rattle.mesh_base.specs.Limits.{is_over_limits}
use Rattle.edit_base.specs.declared.answers.Why.TheVariants.{NoEdge, Crowded, Full, Hit}
use Rattle.edit_base.specs.declared.answers.Change.{Change}
use Rattle.edit_base.specs.declared.answers.Change.TheVariants.{Split}
use Rattle.edit_base.specs.declared.answers.Edit.{Edit}
use Rattle.edit_base.specs.declared.answers.Edit.TheVariants.{No}
use Rattle.edit_base.specs.Reasons.{reason_if, first_reason, done_unless}
use Rattle.edit_base.specs.Scaffold.{first_failing}
use Rattle.edit_base.specs.Edges.{Edge, edge_of}
use Rattle.edit_split.specs.Split.{split_point, split_scaffold}
use Rattle.edit_split.specs.Answer.{split_answer}
use Rattle.edit_base.proofs.ReasonLaws.{edge_again}
use Rattle.edit_split.specs.Tried.{MayBeTried}

-- the answer by its tests
abbrev answer_by : Bool → Bool → Bool → Option PairName → Change → Edit
answer_by edge crowded over found change =
    done_unless (first_reason (reason_if (not edge) NoEdge ∷ reason_if crowded Crowded ∷ reason_if over Full ∷ option_map (λ p. Hit p) found ∷ [])) change

-- the answer of an edge
abbrev answer_of : Mesh → ℕ → Edge → Edit
answer_of m depth s =
    answer_by (is_edge m s.a s.b) (is_crowded m s.a s.b) (is_over_limits (split_scaffold m s).mesh) (first_failing meets_exactly (split_scaffold m s) depth) (Split s.a s.b m.next_vertex (split_point m s))

-- the two ends in order
pub same_answer : (m : Mesh) (u v depth : ℕ) (s : Edge) → s ≡ edge_of m u v → split_answer meets_exactly m s.a s.b depth ≡ split_answer meets_exactly m u v depth
same_answer m u v depth s e =
    ap (λ (s : Edge). split_answer meets_exactly m s.a s.b depth) e ∙ ap (answer_of m depth) (edge_again m u v)

pub full_answer : (m : Mesh) (u v depth : ℕ) → is_edge m (edge_of m u v).a (edge_of m u v).b ≡ true → is_crowded m (edge_of m u v).a (edge_of m u v).b ≡ false →
    is_over_limits (split_scaffold m (edge_of m u v)).mesh ≡ true → No Full ≡ split_answer meets_exactly m u v depth
full_answer m u v depth edge crowded over =
    let s = edge_of m u v in
    let found = first_failing meets_exactly (split_scaffold m s) depth in
    sym (λ i. answer_by (edge i) (crowded i) (over i) found (Split s.a s.b m.next_vertex (split_point m s)))

-- the answer where a split is tried
pub tried_answer : (m : Mesh) (s : Edge) (depth : ℕ) (found : Option PairName) → MayBeTried m s → found ≡ first_failing meets_exactly (split_scaffold m s) depth →
    answer_by true false false found (Split s.a s.b m.next_vertex (split_point m s)) ≡ split_answer meets_exactly m s.a s.b depth
tried_answer m s depth found tried is =
    sym (ap (answer_of m depth) tried.edge.beside
    ∙ (λ i. answer_by (tried.edge.is_edge i) (tried.one_face_each_way i) (tried.fits i) (sym is i) (Split s.a s.b m.next_vertex (split_point m s))))
