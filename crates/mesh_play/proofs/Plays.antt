-- What one call more does to the calls so far.
use Rattle.std.proofs.Common.{◌≡◌, ℕ, ◌+◌, ◌<◌, List, [], ◌∷◌, ◌++◌, take, drop, length, get_or, Result, Ok, Err, OnErr, refl, sym, ap, subst, ◌∙◌, append_assoc, drop-cons, add-one}
use Rattle.std.proofs.lemmas.List.{take_more}
use Rattle.mesh_base.specs.Mesh.{Mesh}
use Rattle.mesh_play.specs.declared.calls.Call.{Call}
use Rattle.mesh_play.specs.declared.calls.Answer.{Answer}
use Rattle.mesh_play.specs.Play.{PlayState, start_of, after, after_all, answer_of, answers_of, AreLawful, IsStopped}

-- the next call stands at the head of those left
next_ahead : (calls : List Call) (i : ℕ) (d : Call) → i < length calls → drop i calls ≡ get_or calls i d ∷ drop (i + 1) calls
next_ahead calls i d inside = drop-cons calls i d inside ∙ ap (λ n. get_or calls i d ∷ drop n calls) (sym (add-one i))

-- one call after others
after_push : (s : PlayState) (calls : List Call) (call : Call) → after_all s (calls ++ call ∷ []) ≡ after (after_all s calls) call
after_push s [] call = refl
after_push s (first ∷ calls) call = after_push (after s first) calls call

-- the calls so far led to what is there
pub made_more : (start s next : PlayState) (calls : List Call) (i : ℕ) (d : Call) → i < length calls → next ≡ after s (get_or calls i d) → s ≡ after_all start (take i calls) → next ≡ after_all start (take (i + 1) calls)
made_more start s next calls i d inside new made =
    new
    ∙ ap (λ t. after t (get_or calls i d)) made
    ∙ sym (after_push start (take i calls) (get_or calls i d))
    ∙ ap (λ cs. after_all start cs) (sym (take_more calls i d inside))

-- the answers so far, and those to what is left, are those to all
pub told_more : (start s next : PlayState) (calls : List Call) (i : ℕ) (d : Call) (told held more : List Answer) (answer : Answer) → i < length calls → next ≡ after s (get_or calls i d) → answer ≡ answer_of s (get_or calls i d) → held ≡ told → more ≡ held ++ answer ∷ [] → told ++ answers_of s (drop i calls) ≡ answers_of start calls → more ++ answers_of next (drop (i + 1) calls) ≡ answers_of start calls
told_more start s next calls i d told held more answer inside new answered same pushed so_far =
    let call = get_or calls i d in
    let rest = drop (i + 1) calls in
    ap (λ ts. ts ++ answers_of next rest) (pushed ∙ ap (λ ts. ts ++ answer ∷ []) same)
    ∙ append_assoc told (answer ∷ []) (answers_of next rest)
    ∙ ap (λ t. told ++ answer ∷ answers_of t rest) new
    ∙ ap (λ a. told ++ a ∷ answers_of (after s call) rest) answered
    ∙ ap (λ cs. told ++ answers_of s cs) (sym (next_ahead calls i d inside))
    ∙ so_far

-- what is left leads to what all lead to
pub left_more : (start s next : PlayState) (calls : List Call) (i : ℕ) (d : Call) → i < length calls → next ≡ after s (get_or calls i d) → after_all s (drop i calls) ≡ after_all start calls → after_all next (drop (i + 1) calls) ≡ after_all start calls
left_more start s next calls i d inside new so_far =
    ap (λ t. after_all t (drop (i + 1) calls)) new
    ∙ ap (λ cs. after_all s cs) (sym (next_ahead calls i d inside))
    ∙ so_far

-- what is left is lawful
pub lawful_more : (s next : PlayState) (calls : List Call) (i : ℕ) (d : Call) → i < length calls → next ≡ after s (get_or calls i d) → AreLawful s (drop i calls) → AreLawful next (drop (i + 1) calls)
lawful_more s next calls i d inside new lawful =
    let here = subst (λ cs. AreLawful s cs) (next_ahead calls i d inside) lawful in
    subst (λ t. AreLawful t (drop (i + 1) calls)) (sym new) here.1

-- the next call wanted memory
pub stopped_here : {T E : Type 0} (r : Result T E) (start : Mesh) (s : PlayState) (calls : List Call) (i : ℕ) (m : Mesh) → i < length calls → m ≡ s.mesh → s ≡ after_all (start_of start) (take i calls) → OnErr r (IsStopped start calls m)
stopped_here (Ok x) start s calls i m inside same made = tt
stopped_here (Err e) start s calls i m inside same made = record { made = i; next = inside; mesh = same ∙ ap (λ (t : PlayState). t.mesh) made }
