-- Lists of ids, and of vertices with their points, are read exactly.
use Rattle.std.proofs.Common.{◌≡◌, ℕ, ◌+◌, ◌<◌, ◌≤◌, ◌^◌, Bool, true, ltb, List, [], ◌∷◌, ◌++◌, length, drop, map, Result, Ok, Err, refl, sym, ap, ◌∙◌, arith, lit<, append_assoc}
use Rattle.std.specs.Prelude.{decimal, if◌then◌else◌}
use Rattle.std.specs.List.{AllByRecursion}
use Rattle.std.proofs.lemmas.Bool.{le-ltb, ltb-false}
use Rattle.std.proofs.lemmas.List.{append-nil}
use Rattle.edit_base.specs.declared.CopyAt.{CopyAt}
use Rattle.line_text.specs.declared.TextWhy.{TextWhy}
use Rattle.line_text.specs.declared.TextWhy.TheVariants.{Short}
use Rattle.line_text.specs.Faults.{◌>>=◌}
use Rattle.line_text.specs.Spellings.{spelled_number, spelled_from}
use Rattle.log_text.specs.Lines.{place_words, places_words}
use Rattle.log_read.specs.Values.{place_at}
use Rattle.log_read.specs.EditLines.{at_least, ids_add, four_by_four, places_add, first_place}
use Rattle.log_read.specs.Laws.{AreRisingTo}
use Rattle.line_text.proofs.ReadSteps.{bound, ok_same, by_test, fault_value}
use Rattle.log_read.proofs.Exactness.{word_number-some, word_number-decimal}
use Rattle.log_read.proofs.EditSpellings.{PlaceFits, place_at-exact}

-- ---- how many words there are

pub at_least-length : (count : ℕ) (words : List (List ℕ)) → count ≤ length words → at_least true count words ≡ Ok tt
unfolding at_least
at_least-length count words le = rw (le-ltb (length words) count le) refl

pub at_least-of_read : (ended : Bool) (count : ℕ) (words : List (List ℕ)) (u : Unit {0}) → at_least ended count words ≡ Ok u → (ended ≡ true) × (count ≤ length words)
unfolding at_least
at_least-of_read ended count words u h =
    by_test (ltb (length words) count) (Err Short) (if ended then Ok tt else Err Short) (Ok u)
    (λ t e. fault_value Short u e)
    (λ t e. by_test ended (Ok tt) (Err Short) (Ok u) (λ s g. (s, ltb-false (length words) count t)) (λ s g. fault_value Short u g) e)
    h

-- ---- ids

-- the ids that were added to those so far
pub record IdsAdded (most : ℕ) (before : List ℕ) (low : ℕ) (words : List (List ℕ)) (ids : List ℕ) : Type 0 where
  pub more : List ℕ
  pub all : ids ≡ before ++ more
  pub same : words ≡ map decimal more
  pub rising : AreRisingTo most low more

module _ (most : ℕ) (small : most < 2 ^ 64) where
  pub ids_add-of_read : (before : List ℕ) (low : ℕ) (words : List (List ℕ)) (ids : List ℕ) → ids_add most before low words ≡ Ok ids → IdsAdded most before low words ids
  ids_add-of_read before low [] ids h = record { more = []; all = sym (ok_same before ids h) ∙ sym (append-nil before); same = refl; rising = tt }
  ids_add-of_read before low (word ∷ words) ids h =
      let b = bound (spelled_from low most (spelled_number word)) (λ (v : ℕ). ids_add most (before ++ v ∷ []) (v + 1) words) ids h in
      let s = word_number-some low most b.value word small b.first in
      let i = ids_add-of_read (before ++ b.value ∷ []) (b.value + 1) words ids b.after in
      record {
        more = b.value ∷ i.more;
        all = i.all ∙ append_assoc before (b.value ∷ []) i.more;
        same = ap (λ (w : List ℕ). w ∷ words) s.0 ∙ ap (λ (t : List (List ℕ)). decimal b.value ∷ t) i.same;
        rising = ((s.1, s.2), i.rising);
      }

  pub ids_add-of_written : (before : List ℕ) (low : ℕ) (ids : List ℕ) → AreRisingTo most low ids → ids_add most before low (map decimal ids) ≡ Ok (before ++ ids)
  ids_add-of_written before low [] r = ap Ok (sym (append-nil before))
  ids_add-of_written before low (v ∷ ids) r =
      ap (λ (found : Result ℕ TextWhy). found >>= λ v. ids_add most (before ++ v ∷ []) (v + 1) (map decimal ids)) (word_number-decimal low most v r.0.0 r.0.1 small)
      ∙ ids_add-of_written (before ++ v ∷ []) (v + 1) ids r.1
      ∙ ap Ok (append_assoc before (v ∷ []) ids)

-- ---- vertices and their points

abbrev pub AllFit : List CopyAt → Type 0
AllFit places = AllByRecursion PlaceFits places

-- the words of a place, and those after it
pub place_cut : (words : List (List ℕ)) (place : CopyAt) (rest : List (List ℕ)) → place_at words ≡ Ok (place, rest) → words ≡ place_words place ++ rest
place_cut words place rest h = (place_at-exact.of_read words place rest h).0

-- one place is added
pub place_adds : (before : List CopyAt) (place : CopyAt) (rest : List (List ℕ)) → PlaceFits place → places_add before (place_words place ++ rest) ≡ places_add (before ++ place ∷ []) rest
place_adds before place rest r = ap (λ (found : Result (CopyAt × List (List ℕ)) TextWhy). found >>= λ place. places_add (before ++ place.0 ∷ []) rest) (place_at-exact.of_written place rest r)

-- the places that were added to those so far
pub record PlacesAdded (before : List CopyAt) (words : List (List ℕ)) (places : List CopyAt) : Type 0 where
  pub more : List CopyAt
  pub all : places ≡ before ++ more
  pub same : words ≡ places_words more
  pub fit : AllFit more

pub places_add-of_read : (before : List CopyAt) (words : List (List ℕ)) (places : List CopyAt) → places_add before words ≡ Ok places → PlacesAdded before words places
places_add-of_read before [] places h = record { more = []; all = sym (ok_same before places h) ∙ sym (append-nil before); same = refl; fit = tt }
places_add-of_read before (w ∷ []) places h = fault_value Short places h
places_add-of_read before (w ∷ x ∷ []) places h = fault_value Short places h
places_add-of_read before (w ∷ x ∷ y ∷ []) places h = fault_value Short places h
places_add-of_read before (w ∷ x ∷ y ∷ z ∷ words) places h =
    let b = bound (place_at (w ∷ x ∷ y ∷ z ∷ words)) (λ (place : CopyAt × List (List ℕ)). places_add (before ++ place.0 ∷ []) words) places h in
    let p = place_at-exact.of_read (w ∷ x ∷ y ∷ z ∷ words) b.value.0 b.value.1 b.first in
    let i = places_add-of_read (before ++ b.value.0 ∷ []) words places b.after in
    record {
      more = b.value.0 ∷ i.more;
      all = i.all ∙ append_assoc before (b.value.0 ∷ []) i.more;
      same = p.0 ∙ ap (λ (t : List (List ℕ)). place_words b.value.0 ++ t) (sym (ap (drop 4) p.0) ∙ i.same);
      fit = (p.1, i.fit);
    }

pub places_add-of_written : (before places : List CopyAt) → AllFit places → places_add before (places_words places) ≡ Ok (before ++ places)
places_add-of_written before [] r = ap Ok (sym (append-nil before))
places_add-of_written before (place ∷ places) r =
    place_adds before place (places_words places) r.0
    ∙ places_add-of_written (before ++ place ∷ []) places r.1
    ∙ ap Ok (append_assoc before (place ∷ []) places)

pub four_by_four-places : (places : List CopyAt) → four_by_four (places_words places) ≡ Ok tt
four_by_four-places [] = refl
four_by_four-places (place ∷ places) = four_by_four-places places

-- the first place of a pinch, with the words of its copies after it
pub record FirstPlace (ended : Bool) (words : List (List ℕ)) (place : CopyAt) (rest : List (List ℕ)) : Type 0 where
  pub has_end : ended ≡ true
  pub same : words ≡ place_words place ++ rest
  pub some : 0 < length rest
  pub whole : four_by_four rest ≡ Ok tt
  pub fits : PlaceFits place

pub first_place-of_read : (ended : Bool) (words : List (List ℕ)) (place : CopyAt) (rest : List (List ℕ)) → first_place ended words ≡ Ok (place, rest) → FirstPlace ended words place rest
unfolding first_place
first_place-of_read ended words place rest h =
    let c = bound (at_least ended 8 words) (λ (u : Unit {0}). four_by_four words >>= λ whole. place_at words) (place, rest) h in
    let f = bound (four_by_four words) (λ (u : Unit {0}). place_at words) (place, rest) c.after in
    let n = at_least-of_read ended 8 words c.value c.first in
    let p = place_at-exact.of_read words place rest f.after in
    record {
      has_end = n.0;
      same = p.0;
      some = omega (arith, ap length p.0, n.1);
      whole = sym (ap four_by_four p.0) ∙ f.first;
      fits = p.1;
    }

pub first_place-of_written : (place : CopyAt) (copies : List CopyAt) → PlaceFits place → 0 < length copies → first_place true (place_words place ++ places_words copies) ≡ Ok (place, places_words copies)
unfolding first_place
first_place-of_written place copies r some =
    rw (at_least-length 8 (place_words place ++ places_words copies) (long copies some), four_by_four-places copies) (place_at-exact.of_written place (places_words copies) r)
  where
    long : (copies : List CopyAt) → 0 < length copies → 8 ≤ length (place_words place ++ places_words copies)
    long [] some = absurd (omega arith)
    long (copy ∷ copies) some = omega arith

-- ---- places that are read one after the other

-- the places so far, and the words that are left, four by four
pub record PlacesLeft (places : List CopyAt) (words all : List (List ℕ)) : Type 0 where
  pub same : places_add places words ≡ places_add [] all
  pub whole : four_by_four words ≡ Ok tt

pub PlacesLeft-more : (places : List CopyAt) (words all : List (List ℕ)) (place : CopyAt) (rest : List (List ℕ)) → place_at words ≡ Ok (place, rest) → PlacesLeft places words all → PlacesLeft (places ++ place ∷ []) rest all
PlacesLeft-more places words all place rest h left =
    let p = place_at-exact.of_read words place rest h in
    record {
      same = sym (place_adds places place rest p.1) ∙ ap (places_add places) (sym p.0) ∙ left.same;
      whole = sym (ap four_by_four p.0) ∙ left.whole;
    }

pub PlacesLeft-fault : (places : List CopyAt) (words all : List (List ℕ)) (why : TextWhy) → 0 < length words → place_at words ≡ Err why → PlacesLeft places words all → places_add [] all ≡ Err why
PlacesLeft-fault places words all why some h left = sym left.same ∙ at_place words some h left.whole
  where
    at_place : (words : List (List ℕ)) → 0 < length words → place_at words ≡ Err why → four_by_four words ≡ Ok tt → places_add places words ≡ Err why
    at_place [] some h four = absurd (omega arith)
    at_place (w ∷ []) some h four = fault_value Short tt four
    at_place (w ∷ x ∷ []) some h four = fault_value Short tt four
    at_place (w ∷ x ∷ y ∷ []) some h four = fault_value Short tt four
    at_place (w ∷ x ∷ y ∷ z ∷ words) some h four = ap (λ (found : Result (CopyAt × List (List ℕ)) TextWhy). found >>= λ place. places_add (places ++ place.0 ∷ []) words) h
