-- What a map of the library holds, as files.
use Rattle.std.proofs.Common.{◌≡◌, ℕ, List, [], ◌∷◌, refl, ap, sym, ◌∙◌, Bool, true, false, cond, Vec, string_bytes, String}
use Rattle.std.specs.declared.option.Option.{Option}
use Rattle.std.specs.declared.option.Option.TheVariants.{Some}
use Rattle.std.specs.declared.alloc.Global.{Global}
use Rattle.std.specs.Option.{option_map}
use Rattle.std.specs.Ordering.{nat_cmp, eq_by_cmp}
use Rattle.std.specs.Cmp.{eq_by_cmp_equiv}
use Rattle.std.specs.Cmp.Lexicographic.{slice_cmp, nat_list_cmp_total}
use Rattle.std.specs.Str.{bytes_eq}
use Rattle.std.specs.String.{string_cmp}
use Rattle.std.specs.Map.{lookup}
use Rattle.std.specs.BTreeMap.{BTreeMap, get_by_text, is_at, UpdatesBy}
use Rattle.std.specs.FinMap.{get, insert, find, same_map, get-insert, get-from_entries, slice_cmp-IsAntisymmetric, nat_cmp-IsAntisymmetric}
use Rattle.std.proofs.lemmas.Map.Text.{btree_map_updates_text, is_eq-slice_cmp}
use Rattle.outside_io.specs.Shelf.{listed, files_of}

moved : {X Y : Type 0} (f : X → Y) (b : Bool) (x : X) (o : Option X) → cond b (Some (f x)) (option_map f o) ≡ option_map f (cond b (Some x) o)
moved f true x o = refl
moved f false x o = refl

find_listed : (es : List (String Global × Vec ℕ Global)) (q : List ℕ) → find (slice_cmp nat_cmp) q (listed es) ≡ option_map (λ v. v.items) (lookup (is_at (λ k. slice_cmp nat_cmp q (string_bytes k))) es)
find_listed [] q = refl
find_listed (e ∷ es) q = ap (cond (eq_by_cmp (slice_cmp nat_cmp) q (string_bytes e.0)) (Some e.1.items)) (find_listed es q) ∙ moved (λ v. v.items) _ e.1 _

-- what a name holds
pub files_at : (shelf : BTreeMap (String Global) (Vec ℕ Global)) (q : List ℕ) → get (files_of shelf) q ≡ option_map (λ v. v.items) (get_by_text shelf q)
files_at shelf q = get-from_entries nat_list_cmp_total (listed shelf.entries) q ∙ find_listed shelf.entries q

-- what an insertion leaves
pub files_insert : (m n : BTreeMap (String Global) (Vec ℕ Global)) (name : List ℕ) (v : Vec ℕ Global) → UpdatesBy string_cmp (λ k. slice_cmp nat_cmp name (string_bytes k)) m n (Some v) → files_of n ≡ insert (files_of m) name v.items
files_insert m n name v updates = same_map nat_list_cmp_total (slice_cmp-IsAntisymmetric nat_cmp-IsAntisymmetric) _ _ (λ q.
    files_at n q
    ∙ ap (option_map (λ x. x.items)) (btree_map_updates_text name m n (Some v) updates q)
    ∙ sym (moved (λ x. x.items) (bytes_eq name q) v (get_by_text m q))
    ∙ ap (λ b. cond b (Some v.items) (option_map (λ x. x.items) (get_by_text m q))) (sym (is_eq-slice_cmp name q) ∙ (eq_by_cmp_equiv nat_list_cmp_total).symm name q)
    ∙ ap (cond (eq_by_cmp (slice_cmp nat_cmp) q name) (Some v.items)) (sym (files_at m q))
    ∙ sym (get-insert nat_list_cmp_total (files_of m) name v.items q))
