-- Trees as the list of their leaves and nodes, each node behind its halves: by it a tree can be
-- a part of what a contract sees of a value.
use Rattle.std.proofs.Common.{◌≡◌, ℤ, pos, List, [], ◌∷◌, ◌++◌, append_assoc, append-nil, Option, Some, None, refl, sym, ap, ◌∙◌}
use Rattle.std.specs.Coded.{Coded, code_by, coded×, coded_ℤ, coded_list, coded_option}
use Rattle.grid_base.specs.Triples.{Triple}
use Rattle.proof_text.specs.Plain.{PlainTree, leaf, halves}

-- the leaves, and for each node nothing, behind its halves
abbrev pub marks : PlainTree → List (Option Triple)
marks (leaf n) = Some n ∷ []
marks (halves first second) = marks first ++ (marks second ++ None ∷ [])

-- a node of the two trees that were put together last
abbrev pub joined : List PlainTree → List PlainTree
joined [] = []
joined (second ∷ []) = second ∷ []
joined (second ∷ first ∷ trees) = halves first second ∷ trees

-- the trees of marks, the last one first
abbrev pub trees_of : List (Option Triple) → List PlainTree → List PlainTree
trees_of [] trees = trees
trees_of (Some n ∷ more) trees = trees_of more (leaf n ∷ trees)
trees_of (None ∷ more) trees = trees_of more (joined trees)

-- the tree that was put together last
abbrev pub last_of : List PlainTree → PlainTree
last_of [] = leaf (record { x = pos 0; y = pos 0; z = pos 0 })
last_of (tree ∷ trees) = tree

-- the tree of its marks
abbrev pub tree_of : List (Option Triple) → PlainTree
tree_of more = last_of (trees_of more [])

trees_again : (tree : PlainTree) (more : List (Option Triple)) (trees : List PlainTree) → trees_of (marks tree ++ more) trees ≡ trees_of more (tree ∷ trees)
trees_again (leaf n) more trees = refl
trees_again (halves first second) more trees =
    ap (λ l. trees_of l trees) (append_assoc (marks first) (marks second ++ None ∷ []) more ∙ ap (λ l. marks first ++ l) (append_assoc (marks second) (None ∷ []) more))
    ∙ trees_again first (marks second ++ (None ∷ more)) trees ∙ trees_again second (None ∷ more) (first ∷ trees)

-- so the tree of its marks is the tree again
pub tree_again : (tree : PlainTree) → tree_of (marks tree) ≡ tree
tree_again tree = ap tree_of (sym (append-nil (marks tree))) ∙ ap last_of (trees_again tree [] [])

-- three whole numbers
abbrev pub triple_code : Coded Triple
triple_code =
    code_by (ℤ × (ℤ × ℤ)) (coded× coded_ℤ (coded× coded_ℤ coded_ℤ)) (λ t. (t.x, (t.y, t.z))) (λ t. record { x = t.0; y = t.1.0; z = t.1.1 }) (λ _. refl)

-- a tree is stored as its marks
abbrev pub tree_code : Coded PlainTree
tree_code = code_by (List (Option Triple)) (coded_list (coded_option triple_code)) marks tree_of tree_again
