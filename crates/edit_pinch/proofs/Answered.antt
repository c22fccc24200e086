-- What a pinch answers where its reasons are known.
use Rattle.std.proofs.Common.{◌≡◌, ℕ, ◌-◌, ◌≤◌, Bool, true, false, nat_lt, List, [], ◌∷◌, length, take, drop, get_or, Option, None, Some, is_some, sym, ap, refl, ◌∙◌, arith}
use Rattle.std.proofs.lemmas.List.{take_all}
use Rattle.std.specs.Option.{option_map}
use Rattle.std.specs.List.{AllByRecursion}
use Rattle.grid_decided.specs.Decided.{meets_exactly}
use Rattle.mesh_base.specs.declared.ids.PairName.{PairName}
use Rattle.mesh_base.specs.Mesh.{Mesh, is_solid}
use Rattle.mesh_base.specs.Sides.{IsClosed}
use Rattle.mesh_base.specs.Limits.{is_over_limits}
use Rattle.mesh_base.proofs.ListedPairs.{all_weaker}
use Rattle.edit_base.specs.declared.answers.Why.TheVariants.{OneFan, Solid, Full, Hit}
use Rattle.edit_base.specs.declared.answers.Change.{Change}
use Rattle.edit_base.specs.declared.answers.Change.TheVariants.{Pinch}
use Rattle.edit_base.specs.declared.answers.Edit.{Edit}
use Rattle.edit_base.specs.declared.answers.Edit.TheVariants.{Done, No}
use Rattle.edit_base.specs.Reasons.{reason_if, first_reason, done_unless}
use Rattle.edit_base.specs.Scaffold.{first_failing}
use Rattle.grid_base.specs.declared.Point.{Point}
use Rattle.edit_base.specs.declared.answers.CopyAt.{CopyAt}
use Rattle.edit_pinch.specs.Pinch.{fans, fan_point, first_point, later_copies, copy_points, pinch_mesh, pinch_scaffold}
use Rattle.edit_pinch.proofs.CopiesMade.{listed_from}
use Rattle.edit_pinch.specs.Answer.{pinch_answer}
use Rattle.edit_pinch.proofs.FanBalance.{IsFan, fans_are_fans}
use Rattle.edit_pinch.specs.Rims.{AreLiveFaces}
use Rattle.edit_pinch.specs.Tried.{MayBeTried}
use Rattle.edit_pinch.proofs.Room.{not_over}

-- the answer by its tests
abbrev answer_by : Bool → Bool → Bool → Option PairName → Change → Edit
answer_by few solid over found change = done_unless (first_reason (reason_if few OneFan ∷ reason_if solid Solid ∷ reason_if over Full ∷ option_map (λ p. Hit p) found ∷ [])) change

module _ (m : Mesh) (v depth : ℕ) where
  abbrev found : Option PairName
  found = first_failing meets_exactly (pinch_scaffold m v) depth

  abbrev done : Change
  done = Pinch v (first_point m v) (later_copies m v)

  pub one_fan_is_refused : nat_lt (length (fans m v)) 2 ≡ true → No OneFan ≡ pinch_answer meets_exactly m v depth
  one_fan_is_refused few = sym (λ i. answer_by (few i) (is_solid m v) (is_over_limits (pinch_scaffold m v).mesh) found done)

  pub solid_is_refused : nat_lt (length (fans m v)) 2 ≡ false → is_solid m v ≡ true → No Solid ≡ pinch_answer meets_exactly m v depth
  solid_is_refused two solid = sym (λ i. answer_by (two i) (solid i) (is_over_limits (pinch_scaffold m v).mesh) found done)

  pub full_is_refused : nat_lt (length (fans m v)) 2 ≡ false → is_solid m v ≡ false → is_over_limits (pinch_scaffold m v).mesh ≡ true → No Full ≡ pinch_answer meets_exactly m v depth
  full_is_refused two free over = sym (λ i. answer_by (two i) (free i) (over i) found done)

  pub hit_is_refused : MayBeTried m v → (p : PairName) → Some p ≡ found → No (Hit p) ≡ pinch_answer meets_exactly m v depth
  hit_is_refused tried p e = sym (λ i. answer_by (tried.two_fans i) (tried.may_move i) (tried.fits i) (sym e i) done)

  pub no_hit_is_done : MayBeTried m v → None ≡ found → Done done ≡ pinch_answer meets_exactly m v depth
  no_hit_is_done tried e = sym (λ i. answer_by (tried.two_fans i) (tried.may_move i) (tried.fits i) (sym e i) done)

-- ---- the fans
pub fans_live : (m : Mesh) (v : ℕ) → IsClosed m → AllByRecursion (AreLiveFaces m) (fans m v)
fans_live m v closed = all_weaker (IsFan m v) (AreLiveFaces m) (fans m v) (λ fan h f has. ap is_some (h.there f has)) (fans_are_fans m v closed)

-- two, so there is a first
pub first_of_two : (P : List ℕ → Type 0) (all : List (List ℕ)) (d : List ℕ) → nat_lt (length all) 2 ≡ false → AllByRecursion P all → P (get_or all 0 d)
first_of_two P [] d two h = absurd cc
first_of_two P (x ∷ xs) d two h = h.0

pub same_first : (all : List (List ℕ)) (d e : List ℕ) → nat_lt (length all) 2 ≡ false → get_or all 0 d ≡ get_or all 0 e
same_first [] d e two = absurd cc
same_first (x ∷ xs) d e two = refl

pub later_are : (all : List (List ℕ)) → take (length all - 1) (drop 1 all) ≡ drop 1 all
later_are [] = refl
later_are (x ∷ xs) = take_all (length (x ∷ xs) - 1) xs (omega arith)

-- the point of the first fan
pub first_point_is : (m : Mesh) (v : ℕ) (parts : List (List ℕ)) (fan given : List ℕ) (at : Point) → nat_lt (length (fans m v)) 2 ≡ false → parts ≡ fans m v → fan ≡ get_or parts 0 fan → given ≡ fan → at ≡ fan_point m v given → at ≡ first_point m v
first_point_is m v parts fan given at two all first same is =
    is ∙ ap (fan_point m v) (same ∙ first ∙ ap (λ l. get_or l 0 fan) all ∙ same_first (fans m v) fan [] two)

-- the copies for the others
pub later_copies_are : (m : Mesh) (v : ℕ) (parts : List (List ℕ)) (copies : List CopyAt) → parts ≡ fans m v → copies ≡ listed_from m v m.next_vertex (take (length parts - 1) (drop 1 parts)) → copies ≡ later_copies m v
later_copies_are m v parts copies all is = is ∙ ap (listed_from m v m.next_vertex) (later_are parts ∙ ap (drop 1) all)

-- the answer, and the mesh that it leaves
module _ (m : Mesh) (v depth : ℕ) (at : Point) (copies : List CopyAt) (point_is : at ≡ first_point m v) (copies_are : copies ≡ later_copies m v) where
  pub done_answer : MayBeTried m v → None ≡ first_failing meets_exactly (pinch_scaffold m v) depth → Done (Pinch v at copies) ≡ pinch_answer meets_exactly m v depth
  done_answer tried e = (λ i. Done (Pinch v (point_is i) (copies_are i))) ∙ no_hit_is_done m v depth tried e

  pub done_mesh : (pinch_scaffold m v).mesh ≡ pinch_mesh m v at (copy_points copies)
  done_mesh = sym (λ i. pinch_mesh m v (point_is i) (copy_points (copies_are i)))

-- two fans are counted
pub two_or_more : (m : Mesh) (v : ℕ) (parts : List (List ℕ)) (count : ℕ) → parts ≡ fans m v → count ≡ length parts → 2 ≤ count → nat_lt (length (fans m v)) 2 ≡ false
two_or_more m v parts count all is most =
    let same = ap length all in
    not_over (length (fans m v)) 2 (omega (arith, same, is, most))
