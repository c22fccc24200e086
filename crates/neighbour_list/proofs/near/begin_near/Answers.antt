use Rattle.std.proofs.Common.{◌≡◌, ℕ, ℤ, Bool, true, false, ◌&&◌, ap, ◌∙◌}
use Rattle.neighbour_list.specs.Near.{near_along}
use Rattle.neighbour_list.proofs.Words.{is_read}
use Rattle.neighbour_list.proofs.near.begin_near.Goals as goal

-- ---- the three axes one after another
first_off : (x y z : Bool) → false ≡ x → false ≡ (x && y && z)
first_off x y z h = ap (λ b. b && y && z) h

second_off : (x y z : Bool) → true ≡ x → false ≡ y → false ≡ (x && y && z)
second_off x y z h i = ap (λ b. b && false && z) h ∙ ap (λ b. x && b && z) i

third_on : (x y z r : Bool) → true ≡ x → true ≡ y → r ≡ z → r ≡ (x && y && z)
third_on x y z r h i j = j ∙ ap (λ b. b && true && z) h ∙ ap (λ b. x && b && z) i

same_along : (skin : ℕ) (a b c d e a' b' c' d' e' : ℤ) → a ≡ a' → b ≡ b' → c ≡ c' → d ≡ d' → e ≡ e' → near_along skin a b c d e ≡ near_along skin a' b' c' d' e'
same_along skin a b c d e a' b' c' d' e' h i j k l = λ t. near_along skin (h t) (i t) (j t) (k t) (l t)

pub returns-then-not-near_along : goal.returns-then-not-near_along
returns-then-not-near_along c =
    let e = c.args.e.now in
    let f = c.args.f.now in
    let ra = is_read c.wide-a.result e.first.start c.wide-a.ensures.value c.wide-a.ensures.within in
    let rb = is_read c.wide-b.result e.second.start c.wide-b.ensures.value c.wide-b.ensures.within in
    let rc = is_read c.wide-c.result f.c.start c.wide-c.ensures.value c.wide-c.ensures.within in
    let rd = is_read c.wide-d.result f.d.start c.wide-d.ensures.value c.wide-d.ensures.within in
    let rk = is_read c.wide-k.result f.e.start c.wide-k.ensures.value c.wide-k.ensures.within in
    first_off _ _ _ (c.if-not-near_along.ensures ∙ same_along c.args.skin _ _ _ _ _ _ _ _ _ _ ra.x rb.x rc.x rd.x rk.x)

pub returns-then-not-near_along-2 : goal.returns-then-not-near_along-2
returns-then-not-near_along-2 c =
    let e = c.args.e.now in
    let f = c.args.f.now in
    let ra = is_read c.wide-a.result e.first.start c.wide-a.ensures.value c.wide-a.ensures.within in
    let rb = is_read c.wide-b.result e.second.start c.wide-b.ensures.value c.wide-b.ensures.within in
    let rc = is_read c.wide-c.result f.c.start c.wide-c.ensures.value c.wide-c.ensures.within in
    let rd = is_read c.wide-d.result f.d.start c.wide-d.ensures.value c.wide-d.ensures.within in
    let rk = is_read c.wide-k.result f.e.start c.wide-k.ensures.value c.wide-k.ensures.within in
    second_off _ _ _ (c.if-not-near_along.ensures ∙ same_along c.args.skin _ _ _ _ _ _ _ _ _ _ ra.x rb.x rc.x rd.x rk.x) (c.if-not-near_along-2.ensures ∙ same_along c.args.skin _ _ _ _ _ _ _ _ _ _ ra.y rb.y rc.y rd.y rk.y)

pub returns : goal.returns
returns c =
    let e = c.args.e.now in
    let f = c.args.f.now in
    let ra = is_read c.wide-a.result e.first.start c.wide-a.ensures.value c.wide-a.ensures.within in
    let rb = is_read c.wide-b.result e.second.start c.wide-b.ensures.value c.wide-b.ensures.within in
    let rc = is_read c.wide-c.result f.c.start c.wide-c.ensures.value c.wide-c.ensures.within in
    let rd = is_read c.wide-d.result f.d.start c.wide-d.ensures.value c.wide-d.ensures.within in
    let rk = is_read c.wide-k.result f.e.start c.wide-k.ensures.value c.wide-k.ensures.within in
    third_on _ _ _ _ (c.if-not-near_along.ensures ∙ same_along c.args.skin _ _ _ _ _ _ _ _ _ _ ra.x rb.x rc.x rd.x rk.x) (c.if-not-near_along-2.ensures ∙ same_along c.args.skin _ _ _ _ _ _ _ _ _ _ ra.y rb.y rc.y rd.y rk.y)
    (c.near_along-3.ensures ∙ same_along c.args.skin _ _ _ _ _ _ _ _ _ _ ra.z rb.z rc.z rd.z rk.z)
