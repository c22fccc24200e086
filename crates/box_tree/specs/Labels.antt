-- Numbers that a box is known by.
use Rattle.std.specs.Prelude.{ℕ, Bool, cond, ◌&&◌, ◌||◌, not, nat_eq}
use Rattle.box_tree.specs.declared.labels.Labels.{Labels}

-- whether the number is one of them; 0 is none
abbrev pub has_label : Labels → ℕ → Bool
has_label l n = not (nat_eq n 0) && (nat_eq n l.first || nat_eq n l.second || nat_eq n l.third)

-- whether neither of the two numbers is one of them
abbrev pub is_apart : Labels → ℕ → ℕ → Bool
is_apart l a b = not (has_label l a || has_label l b)

-- the number, if it is one of them, and else 0
abbrev pub label_or_zero : Labels → ℕ → ℕ
label_or_zero l n = cond (has_label l n) n 0

-- those of the first that are also of the second
abbrev pub common : Labels → Labels → Labels
common l m = record {
  first = label_or_zero m l.first;
  second = label_or_zero m l.second;
  third = label_or_zero m l.third;
}
