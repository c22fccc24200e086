-- What a command finds comes from the words that it is given.
use Rattle.std.proofs.Common.{inl, inr, ◌≡◌, ◌∙◌, ℕ, zero, suc, ◌+◌, Bool, true, false, cond, refl, sym, ap, subst, List, [], ◌∷◌, ◌++◌, length, Option, Some, None, codes, eqb, arith}
use Rattle.std.specs.Prelude.{⊤, ◌⊎◌, Contains, find, fold, slice_get, encode_utf8, take, drop, nat_lt, ◌&&◌, ◌||◌}
use Rattle.std.specs.List.{before_first, after_first, list_any}
use Rattle.std.specs.Option.{option_map_or}
use Rattle.std.specs.Str.{bytes_eq, chars}
use Rattle.std.proofs.lemmas.Bool.{cases_Bool, eqb-true}
use Rattle.std.proofs.lemmas.Slice.Eq.{bytes_eq-Decides}
use Rattle.clap.specs.Lexer.{long_of, short_of, strip_byte, name_and_value, has_byte}
use Rattle.clap.specs.Walk.{Held, Names, Outcome, Row, Rule, Step, Text, Waiting, Walk, done, waits, plain, refused, idle, option, positional, next, trailing, subcommand, value}
use Rattle.clap.specs.Walk.{action_of, flag_met, is_multiple, most_values, pending_count, takes_values, arg_by_id, arg_by_long, arg_by_short, arg_by_index, without, with_values, values_or_missing, used, used_by_id, settled, settled_rows, pushed, started, option_met, long_met, bundle_met, bundle_step, bundle, option_word, plain_word, after_flag, short_word, short_or_plain, long_or_other, subcommand_met, subcommand_or_other, word_met, is_pending, takes_several, to_positional, after_step, walked_from, walked, walk_from, has_row, default_rows, with_default, finished, nothing_held, rows_after, first_of, reading_by}
use Rattle.clap.specs.declared.parser.matches.ValueSource.{ValueSource}
use Rattle.clap.specs.declared.builder.value_parser.Reading.{Reading}
use Rattle.clap.specs.declared.builder.action.ArgAction.TheVariants.{Set, SetTrue}

pub contains_here : {X : Type 0} (x : X) (xs : List X) → Contains (x ∷ xs) x
contains_here x xs = (0, omega arith, refl)

pub contains_later : {X : Type 0} (y x : X) (xs : List X) → Contains xs x → Contains (y ∷ xs) x
contains_later y x xs h = (suc h.0, omega (arith, h.1), h.2)

-- ---- `--decimals=N`

take_one_more : (n x : ℕ) (xs : Text) → take (1 + n) (x ∷ xs) ≡ x ∷ take n xs
take_one_more n x xs = let e : 1 + n ≡ suc n = omega arith in rw e refl

drop_one_more : (n x : ℕ) (xs : Text) → drop (1 + n + 1) (x ∷ xs) ≡ drop (n + 1) xs
drop_one_more n x xs = let e : 1 + n + 1 ≡ suc (n + 1) = omega arith in rw e refl

cut_at_byte : (c : ℕ) (text : Text) → list_any (λ x. eqb x c) text ≡ true → text ≡ before_first (λ x. eqb x c) text ++ c ∷ after_first (λ x. eqb x c) text
cut_at_byte c [] h = absurd (cc)
cut_at_byte c (x ∷ xs) h = elim (cases_Bool (eqb x c)) [
  | inl e ↦ let same : x ≡ c = eqb-true x c e in rw (e, same) refl
  | inr e ↦ let later : list_any (λ y. eqb y c) xs ≡ true = rw e at h in rw (e, take_one_more, drop_one_more) (ap (λ (t : Text). x ∷ t) (cut_at_byte c xs later))
]

whole_without_byte : (c : ℕ) (text : Text) → list_any (λ x. eqb x c) text ≡ false → before_first (λ x. eqb x c) text ≡ text
whole_without_byte c [] h = refl
whole_without_byte c (x ∷ xs) h = elim (cases_Bool (eqb x c)) [
  | inl e ↦ absurd (let g : true ≡ false = rw e at h in cc)
  | inr e ↦ let later : list_any (λ y. eqb y c) xs ≡ false = rw e at h in rw (e, take_one_more) (ap (λ (t : Text). x ∷ t) (whole_without_byte c xs later))
]

-- an id that is not that of `--large`
abbrev pub NotLarge : Text → Type 0
NotLarge id = id ≡ codes "large" → ⊥

pub not_large : (id : Text) → bytes_eq id (codes "large") ≡ false → NotLarge id
not_large id other is = let e : true ≡ false = subst (λ (i : Text). bytes_eq i (codes "large") ≡ false) is other in cc

-- the argument takes one value, and has none of its own
pub record IsSetRule (a : Rule) : Type 0 where
  pub action : action_of a ≡ Set
  pub missing : a.missing ≡ []
  pub defaults : a.defaults ≡ []
  pub other : bytes_eq a.id (codes "large") ≡ false

-- the argument is `--large`
pub record IsFlagRule (a : Rule) : Type 0 where
  pub id : a.id ≡ codes "large"
  pub action : action_of a ≡ SetTrue
  pub missing : a.missing ≡ codes "true" ∷ []
  pub defaults : a.defaults ≡ codes "false" ∷ []
  pub index : a.index ≡ None
  pub takes_none : takes_values a ≡ false

-- it is one or the other
abbrev pub IsKnown : Rule → Type 0
IsKnown a = IsSetRule a ⊎ IsFlagRule a

-- the name of an option
abbrev pub IsOption : Text → Type 0
IsOption id = (id ≡ codes "decimals") ⊎ (id ≡ codes "only")

-- whether it is one
abbrev pub is_option : Text → Bool
is_option id = bytes_eq id (codes "decimals") || bytes_eq id (codes "only")

pub no_option : (id : Text) → is_option id ≡ false → IsOption id → ⊥
no_option id other (inl is) = let e : true ≡ false = subst (λ (i : Text). is_option i ≡ false) is other in cc
no_option id other (inr is) = let e : true ≡ false = subst (λ (i : Text). is_option i ≡ false) is other in cc

-- `--name=v`
abbrev pub named_value : Text → Text → Text
named_value name v = 45 ∷ 45 ∷ name ++ 61 ∷ v

-- ---- what comes from the words

module _ (words : List Text) where
  -- a whole word, or what follows the name of an option
  abbrev pub FromWord : Text → Text → Type 0
  FromWord id v = Contains words v ⊎ (IsOption id × Contains words (named_value id v))

  -- of `--large` it is `false`, or the word is there
  abbrev pub FromFlag : Text → Type 0
  FromFlag v = (v ≡ codes "false") ⊎ Contains words (codes "--large")

  abbrev pub From : Text → Text → Type 0
  From id v = (NotLarge id × FromWord id v) ⊎ ((id ≡ codes "large") × FromFlag v)

  abbrev pub ValuesFrom : Text → List Text → Type 0
  ValuesFrom id [] = ⊤
  ValuesFrom id (v ∷ vs) = From id v × ValuesFrom id vs

  abbrev pub RowsFrom : List Row → Type 0
  RowsFrom [] = ⊤
  RowsFrom (r ∷ rs) = ValuesFrom r.id r.values × RowsFrom rs

  abbrev pub AreWords : List Text → Type 0
  AreWords [] = ⊤
  AreWords (v ∷ vs) = Contains words v × AreWords vs

  abbrev pub PendingFrom : Option (Text × List Text) → Type 0
  PendingFrom None = ⊤
  PendingFrom (Some p) = NotLarge p.0 × AreWords p.1

  pub record HeldFrom (h : Held) : Type 0 where
    pub rows : RowsFrom h.rows
    pub pending : PendingFrom h.pending

  words_are_from : (id : Text) (vs : List Text) → NotLarge id → AreWords vs → ValuesFrom id vs
  words_are_from id [] n h = tt
  words_are_from id (v ∷ vs) n h = (inl (n, inl h.0), words_are_from id vs n h.1)

  values_more : (id : Text) (us vs : List Text) → ValuesFrom id us → ValuesFrom id vs → ValuesFrom id (us ++ vs)
  values_more id [] vs p q = q
  values_more id (u ∷ us) vs p q = (p.0, values_more id us vs p.1 q)

  words_more : (us vs : List Text) → AreWords us → AreWords vs → AreWords (us ++ vs)
  words_more [] vs p q = q
  words_more (u ∷ us) vs p q = (p.0, words_more us vs p.1 q)

  -- ---- rows

  without_from : (id : Text) (rows : List Row) → RowsFrom rows → RowsFrom (without id rows)
  without_from id [] h = tt
  without_from id (r ∷ rs) h = elim (cases_Bool (bytes_eq r.id id)) [
    | inl e ↦ rw e h.1
    | inr e ↦ rw e (h.0, without_from id rs h.1)
  ]

  with_values_from : (id : Text) (how : Reading) (s : ValueSource) (values : List Text) (rows : List Row) → ValuesFrom id values → RowsFrom rows → RowsFrom (with_values id how s values rows)
  with_values_from id how s values [] v h = (v, tt)
  with_values_from id how s values (r ∷ rs) v h = elim (cases_Bool (bytes_eq r.id id)) [
    | inl e ↦ let same : r.id ≡ id = (bytes_eq-Decides r.id id).0 e in
        let here : ValuesFrom r.id values = subst (λ (i : Text). ValuesFrom i values) (sym same) v in
        rw e (values_more r.id r.values values h.0 here, h.1)
    | inr e ↦ rw e (h.0, with_values_from id how s values rs v h.1)
  ]

  -- ---- arguments

  given_or_missing : (a : Rule) (id : Text) (values : List Text) → a.missing ≡ [] → ValuesFrom id values → ValuesFrom id (values_or_missing a values)
  given_or_missing a id [] none v = rw none tt
  given_or_missing a id (x ∷ xs) none v = v

  used_from : (a : Rule) (values : List Text) (rows : List Row) → IsSetRule a → ValuesFrom a.id values → RowsFrom rows → RowsFrom (used a values rows)
  used_from a values rows r v h =
      rw r.action (with_values_from a.id (reading_by a) _ (values_or_missing a values) (without a.id rows) (given_or_missing a a.id values r.missing v) (without_from a.id rows h))

  flag_used_from : (a : Rule) (rows : List Row) → IsFlagRule a → Contains words (codes "--large") → RowsFrom rows → RowsFrom (used a [] rows)
  flag_used_from a rows r there h =
      let missing : ValuesFrom a.id a.missing = subst (ValuesFrom a.id) (sym r.missing) (inr (r.id, inr there), tt) in
      rw r.action (with_values_from a.id (reading_by a) _ (values_or_missing a []) (without a.id rows) missing (without_from a.id rows h))

  abbrev pub FoundSet : Option Rule → Type 0
  FoundSet None = ⊤
  FoundSet (Some a) = IsSetRule a

  -- a long name is that of an option, and of its argument, or it is `large`
  abbrev pub FoundLong : Text → Option Rule → Type 0
  FoundLong name None = ⊤
  FoundLong name (Some a) =
      (IsSetRule a × (name ≡ a.id) × IsOption a.id × (takes_values a ≡ true)) ⊎ (IsFlagRule a × (name ≡ codes "large"))

  abbrev pub AllKnown : List Rule → Type 0
  AllKnown [] = ⊤
  AllKnown (a ∷ rest) = IsKnown a × AllKnown rest

  -- an argument with another id than that of `--large` takes a value
  found_by_id : (id : Text) (xs : List Rule) → NotLarge id → AllKnown xs → FoundSet (find (λ a. bytes_eq a.id id) xs)
  found_by_id id [] n h = tt
  found_by_id id (a ∷ rest) n h = elim (cases_Bool (bytes_eq a.id id)) [
    | inl e ↦ rw e (elim h.0 [
      | inl set ↦ set
      | inr flag ↦ absurd (n (sym ((bytes_eq-Decides a.id id).0 e) ∙ flag.id))
    ])
    | inr e ↦ rw e (found_by_id id rest n h.1)
  ]

  -- and so does one with a position
  found_at : (i : ℕ) (xs : List Rule) → AllKnown xs → FoundSet (arg_by_index xs i)
  found_at i [] h = tt
  found_at i (a ∷ rest) h = elim (cases_Bool (option_map_or (λ k. eqb k i) a.index false)) [
    | inl e ↦ rw e (elim h.0 [
      | inl set ↦ set
      | inr flag ↦ absurd (let g : false ≡ true = rw flag.index at e in cc)
    ])
    | inr e ↦ rw e (found_at i rest h.1)
  ]

  -- the arguments of a command
  pub record AreSafe (c : List Rule) : Type 0 where
    pub known : AllKnown c
    pub long : (name : Text) → FoundLong name (arg_by_long c name)
    pub short : (x : ℕ) → arg_by_short c x ≡ None

  module _ (c : List Rule) (safe : AreSafe c) where
    settled_from : (h : Held) → HeldFrom h → HeldFrom (settled c h)
    settled_from h f = record { rows = rows_at h.pending f.pending; pending = tt }
      where
        used_at : (found : Option Rule) (values : List Text) → FoundSet found → AreWords values → RowsFrom (used_by_id found values h.rows)
        used_at None values s w = f.rows
        used_at (Some a) values s w = used_from a values h.rows s (words_are_from a.id values (not_large a.id s.other) w) f.rows

        rows_at : (p : Option (Text × List Text)) → PendingFrom p → RowsFrom (settled_rows c p h.rows)
        rows_at None q = f.rows
        rows_at (Some p) q = used_at (arg_by_id c p.0) p.1 (found_by_id p.0 c q.0 safe.known) q.1

    pushed_from : (id word : Text) (h : Held) → NotLarge id → Contains words word → HeldFrom h → HeldFrom (pushed id word h)
    pushed_from id word h n w f = record { rows = f.rows; pending = more h.pending f.pending }
      where
        more : (p : Option (Text × List Text)) → PendingFrom p → NotLarge (started id p).0 × AreWords ((started id p).1 ++ word ∷ [])
        more None q = (n, (w, tt))
        more (Some p) q = (q.0, words_more p.1 (word ∷ []) q.1 (w, tt))

    -- ---- one word

    -- what waits for a value is not `--large`
    abbrev WaitingFrom : Waiting → Type 0
    WaitingFrom (option id) = NotLarge id
    WaitingFrom _ = ⊤

    abbrev OutcomeFrom : Outcome → Type 0
    OutcomeFrom (waits id) = NotLarge id
    OutcomeFrom _ = ⊤

    abbrev StepFrom : Step → Type 0
    StepFrom (next waiting) = WaitingFrom waiting
    StepFrom _ = ⊤

    -- what is held, and what it comes to
    abbrev FlagFrom : Held × Outcome → Type 0
    FlagFrom r = HeldFrom r.0 × OutcomeFrom r.1

    abbrev MetFrom : Held × Step → Type 0
    MetFrom r = HeldFrom r.0 × StepFrom r.1

    plain_from : (waiting : Waiting) (word : Text) (h : Held) → WaitingFrom waiting → Contains words word → HeldFrom h → MetFrom (plain_word c waiting word h)
    plain_from idle word h i w f = (f, tt)
    plain_from positional word h i w f = (f, tt)
    plain_from (option id) word h i w f = at_found (arg_by_id c id)
      where
        after : (b : Bool) → WaitingFrom (cond b (option id) idle)
        after true = i
        after false = tt

        at_found : (found : Option Rule) → HeldFrom (option_word found id word h).0 × WaitingFrom (option_word found id word h).1
        at_found None = (f, i)
        at_found (Some a) = (pushed_from id word h i w f, after (nat_lt (pending_count a (pushed id word h).pending) (most_values a)))

    after_flag_from : (waiting : Waiting) (word : Text) (h : Held) (o : Outcome) → WaitingFrom waiting → Contains words word → HeldFrom h → OutcomeFrom o → MetFrom (after_flag c waiting word h o)
    after_flag_from waiting word h done i w f g = (f, tt)
    after_flag_from waiting word h (waits id) i w f g = (f, g)
    after_flag_from waiting word h plain i w f g = plain_from waiting word h i w f
    after_flag_from waiting word h refused i w f g = plain_from waiting word h i w f

    -- where the word is `--name=v`, v comes from it, and else it is `--name`
    abbrev TailFrom : Text → Option Text → Type 0
    TailFrom name None = Contains words (45 ∷ 45 ∷ name)
    TailFrom name (Some v) = Contains words (named_value name v)

    option_from : (a : Rule) (v : Option Text) (h : Held) (name : Text) → IsSetRule a → name ≡ a.id → IsOption a.id → TailFrom name v → HeldFrom h → FlagFrom (option_met c a v h)
    option_from a None h name s named known t f =
        let n : NotLarge a.id = not_large a.id s.other in
        (record { rows = (settled_from h f).rows; pending = (n, tt) }, n)
    option_from a (Some v) h name s named known t f =
        let from : From a.id v = inl (not_large a.id s.other, inr (known, subst (λ (n : Text). Contains words (named_value n v)) named t)) in
        (record { rows = used_from a (v ∷ []) (settled c h).rows s (from, tt) (settled_from h f).rows; pending = tt }, tt)

    flag_from : (a : Rule) (v : Option Text) (h : Held) (name : Text) → IsFlagRule a → name ≡ codes "large" → TailFrom name v → HeldFrom h → FlagFrom (flag_met c a v h)
    flag_from a None h name r named t f =
        let there : Contains words (codes "--large") = subst (λ (n : Text). Contains words (45 ∷ 45 ∷ n)) named t in
        (record { rows = flag_used_from a (settled c h).rows r there (settled_from h f).rows; pending = tt }, tt)
    flag_from a (Some v) h name r named t f = (f, tt)

    long_from : (found : Option Rule) (name : Text) (v : Option Text) (h : Held) → FoundLong name found → TailFrom name v → HeldFrom h → FlagFrom (long_met c found v h)
    long_from None name v h l t f = (f, tt)
    long_from (Some a) name v h (inl l) t f = rw l.3 (option_from a v h name l.0 l.1 l.2 t f)
    long_from (Some a) name v h (inr l) t f = rw l.0.takes_none (flag_from a v h name l.0 l.1 t f)

    bundle_step_from : (x : Option ℕ) (flags : Text) (skip : ℕ) (o : Outcome) (h : Held) (later : Text → ℕ → Outcome → Held → Held × Outcome)
        → OutcomeFrom o → HeldFrom h → ((rest : Text) (skip : ℕ) → FlagFrom (later rest skip o h)) → FlagFrom (bundle_step c x flags skip o h later)
    bundle_step_from None flags skip o h later g f same = (f, g)
    bundle_step_from (Some x) flags zero o h later g f same = rw (safe.short x) (f, tt)
    bundle_step_from (Some x) flags (suc skip) o h later g f same = same (drop (length (encode_utf8 x)) flags) skip

    bundle_from : (k : ℕ) (flags : Text) (skip : ℕ) (o : Outcome) (h : Held) → OutcomeFrom o → HeldFrom h → FlagFrom (bundle_met c k flags skip o h)
    unfolding bundle_met
    bundle_from zero flags skip o h g f = (f, g)
    bundle_from (suc k) flags skip o h g f = bundle_step_from (slice_get (chars flags) 0) flags skip o h (bundle_met c k) g f (λ rest skip. bundle_from k rest skip o h g f)

    short_from : (waiting : Waiting) (word flags : Text) (h : Held) → WaitingFrom waiting → Contains words word → HeldFrom h → MetFrom (short_word c waiting word flags h)
    short_from waiting word flags h i w f =
        let met = bundle_from (length flags) flags h.skip plain (record h { skip = 0 }) tt (record { rows = f.rows; pending = f.pending }) in
        after_flag_from waiting word (bundle c flags h).0 (bundle c flags h).1 i w met.0 met.1

    -- the tail of a long word
    tail_of : (word : Text) (p : Text × Option Text) → long_of word ≡ Some p → Contains words word → TailFrom p.0 p.1
    tail_of [] p e w = absurd (cc)
    tail_of (x ∷ []) p e w = elim (cases_Bool (eqb x 45)) [
      | inl d ↦ absurd (let g : None ≡ Some p = rw d at e in cc)
      | inr d ↦ absurd (let g : None ≡ Some p = rw d at e in cc)
    ]
    tail_of (x ∷ y ∷ rest) p e w = elim (cases_Bool (eqb x 45)) [
      | inr d ↦ absurd (let g : None ≡ Some p = rw d at e in cc)
      | inl d ↦ elim (cases_Bool (eqb y 45)) [
        | inr d2 ↦ absurd (let g : None ≡ Some p = rw (d, d2) at e in cc)
        | inl d2 ↦ named rest (rw (d, d2) at e) (subst (λ (t : Text). Contains words t) (let a : x ≡ 45 = eqb-true x 45 d in let b : y ≡ 45 = eqb-true y 45 d2 in cc) w)
      ]
    ]
      where
        named : (rest : Text) → Rattle.clap.specs.Lexer.long_of_rest rest ≡ Some p → Contains words (45 ∷ 45 ∷ rest) → TailFrom p.0 p.1
        named [] g w = absurd (cc)
        named (z ∷ zs) g w = elim (cases_Bool (has_byte 61 (z ∷ zs))) [
          | inr none ↦
              let q = rw none at g in
              let same : ◌≡◌ {A = Text × Option Text} (before_first (λ b. eqb b 61) (z ∷ zs), None) p = cc in
              let whole : before_first (λ b. eqb b 61) (z ∷ zs) ≡ z ∷ zs = whole_without_byte 61 (z ∷ zs) none in
              subst (λ (q : Text × Option Text). TailFrom q.0 q.1) same (subst (λ (t : Text). Contains words (45 ∷ 45 ∷ t)) (sym whole) w)
          | inl some ↦
              let q = rw some at g in
              let same : ◌≡◌ {A = Text × Option Text} (before_first (λ b. eqb b 61) (z ∷ zs), Some (after_first (λ b. eqb b 61) (z ∷ zs))) p = cc in
              let cut : z ∷ zs ≡ before_first (λ b. eqb b 61) (z ∷ zs) ++ 61 ∷ after_first (λ b. eqb b 61) (z ∷ zs) = cut_at_byte 61 (z ∷ zs) some in
              subst (λ (q : Text × Option Text). TailFrom q.0 q.1) same (subst (λ (t : Text). Contains words (45 ∷ 45 ∷ t)) cut w)
        ]

    long_or_other_from : (waiting : Waiting) (word : Text) (h : Held) → WaitingFrom waiting → Contains words word → HeldFrom h → MetFrom (long_or_other c waiting word (long_of word) h)
    long_or_other_from waiting word h i w f = at_long (long_of word) refl
      where
        at_short : (o : Option Text) → MetFrom (short_or_plain c waiting word o h)
        at_short None = plain_from waiting word h i w f
        at_short (Some flags) = short_from waiting word flags h i w f

        at_long : (o : Option (Text × Option Text)) → long_of word ≡ o → MetFrom (long_or_other c waiting word o h)
        at_long None e = at_short (short_of word)
        at_long (Some p) e =
            let met = long_from (arg_by_long c p.0) p.0 p.1 h (safe.long p.0) (tail_of word p e w) f in
            after_flag_from waiting word (long_met c (arg_by_long c p.0) p.1 h).0 (long_met c (arg_by_long c p.0) p.1 h).1 i w met.0 met.1

    met_from : (names : Names) (is_trailing : Bool) (waiting : Waiting) (position : ℕ) (word : Text) (h : Held) → WaitingFrom waiting → Contains words word → HeldFrom h → MetFrom (word_met c names is_trailing waiting position word h)
    met_from names true waiting position word h i w f = (f, tt)
    met_from names false waiting position word h i w f = at_name (subcommand_met names waiting word)
      where
        at_dashes : (b : Bool) → MetFrom (cond b (h, trailing position) (long_or_other c waiting word (long_of word) h))
        at_dashes true = (f, tt)
        at_dashes false = long_or_other_from waiting word h i w f

        at_name : (o : Option Text) → MetFrom (subcommand_or_other c o waiting position word h)
        at_name None = at_dashes (bytes_eq word (45 ∷ 45 ∷ []))
        at_name (Some name) = (f, tt)

    -- where the walk stands between two words
    pub record WalkFrom (w : Walk) : Type 0 where
      pub held : HeldFrom w.held
      pub waiting : WaitingFrom w.waiting

    to_positional_from : (found : Option Rule) (word : Text) (w : Walk) (h : Held) → FoundSet found → WaitingFrom w.waiting → Contains words word → HeldFrom h → WalkFrom (to_positional c found word w h)
    to_positional_from None word w h s g i f = record { held = f; waiting = g }
    to_positional_from (Some a) word w h s g i f =
        record { held = pushed_from a.id word _ (not_large a.id s.other) i (kept (is_pending a h.pending && takes_several a)); waiting = after (is_multiple a) }
      where
        kept : (b : Bool) → HeldFrom (cond b h (settled c h))
        kept true = f
        kept false = settled_from h f

        after : (b : Bool) → WaitingFrom (cond b positional idle)
        after true = tt
        after false = tt

    after_step_from : (word : Text) (w : Walk) (h : Held) (s : Step) → WaitingFrom w.waiting → Contains words word → HeldFrom h → StepFrom s → WalkFrom (after_step c word w h s)
    after_step_from word w h (next waiting) g i f n = record { held = f; waiting = n }
    after_step_from word w h (trailing position) g i f n = record { held = f; waiting = g }
    after_step_from word w h (subcommand name) g i f n = record { held = f; waiting = g }
    after_step_from word w h value g i f n = to_positional_from (arg_by_index c w.position) word w h (found_at w.position c safe.known) g i f

    walked_from_from : (names : Names) (stopped : Option (Text × List Text)) (w : Walk) (word : Text) → Contains words word → WalkFrom w → WalkFrom (walked_from c names stopped w word)
    walked_from_from names (Some p) w word i f = record { held = f.held; waiting = f.waiting }
    walked_from_from names None w word i f =
        let met = met_from names w.is_trailing w.waiting w.position word w.held f.waiting i f.held in
        after_step_from word w _ _ f.waiting i met.0 met.1

    one_walked : (names : Names) (w : Walk) (word : Text) → Contains words word → WalkFrom w → WalkFrom (walked c names w word)
    unfolding walked
    one_walked names w word i f = walked_from_from names w.stopped w word i f

    all_walked : (names : Names) (w : Walk) (some : List Text) → ((v : Text) → Contains some v → Contains words v) → WalkFrom w → WalkFrom (fold (walked c names) w some)
    all_walked names w [] within f = f
    all_walked names w (v ∷ vs) within f =
        all_walked names (walked c names w v) vs (λ x i. within x (contains_later v x vs i)) (one_walked names w v (within v (contains_here v vs)) f)

    -- ---- after the walk

    defaults_from : (rules : List Rule) (rows : List Row) → AllKnown rules → RowsFrom rows → RowsFrom (fold with_default rows rules)
    defaults_from [] rows s f = f
    defaults_from (a ∷ rest) rows s f = defaults_from rest (with_default rows a) s.1 (one (has_row a.id rows) s.0)
      where
        one : (b : Bool) → IsKnown a → RowsFrom (cond b rows (default_rows a.id (reading_by a) a.defaults rows))
        one true known = f
        one false (inl set) = rw set.defaults f
        one false (inr flag) = rw flag.defaults (with_values_from a.id (reading_by a) _ (codes "false" ∷ []) rows (inr (flag.id, inl refl), tt) f)

    finished_from : (h : Held) → HeldFrom h → RowsFrom (finished c h)
    finished_from h f = defaults_from c (settled c h).rows safe.known (settled_from h f).rows

    pub rows_from : (names : Names) (some : List Text) → ((v : Text) → Contains some v → Contains words v) → RowsFrom (rows_after c names some)
    rows_from names some within = finished_from _ (all_walked names (walk_from nothing_held) some within (record { held = record { rows = tt; pending = tt }; waiting = tt })).held

  -- ---- what is read

  first_value_from : (id : Text) (vs : List Text) (v : Text) → ValuesFrom id vs → slice_get vs 0 ≡ Some v → From id v
  first_value_from id [] v f e = absurd (cc)
  first_value_from id (u ∷ us) v f e = subst (λ (t : Text). From id t) (cc) f.0

  pub first_from : (id : Text) (rows : List Row) (v : Text) → RowsFrom rows → first_of id rows ≡ Some v → From id v
  first_from id [] v f e = absurd (cc)
  first_from id (r ∷ rs) v f e = elim (cases_Bool (bytes_eq r.id id)) [
    | inl same ↦ subst (λ (i : Text). From i v) ((bytes_eq-Decides r.id id).0 same) (first_value_from r.id r.values v f.0 (rw same at e))
    | inr other ↦ first_from id rs v f.1 (rw other at e)
  ]
