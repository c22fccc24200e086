-- What a fetch says of a file.
use Rattle.std.proofs.Common.{◌≡◌, ℕ, ◌+◌, ◌<◌, ◌≤◌, ◌⊎◌, inl, inr, List, length, refl, sym, subst, arith}
use Rattle.std.proofs.lemmas.Bool.{cases_lt}
use Rattle.std.specs.Option.{IsSomeAnd}
use Rattle.std.specs.declared.option.Option.{Option}
use Rattle.std.specs.declared.option.Option.TheVariants.{None, Some}
use Rattle.std.specs.FinMap.{get}
use Rattle.mesh_base.specs.declared.Scale.{Scale}
use Rattle.mesh_base.specs.Limits.{text_most}
use Rattle.mesh_base.proofs.MeshLaws.{small_texts_of}
use Rattle.outside_io.specs.Desk.{Files}
use Rattle.track_input.specs.Source.{Source, Bytes, Absent, TooLong, IsSource}

module _ (scale : Scale) where
  held : (files : Files) (name bytes : List ℕ) → get files name ≡ Some bytes → (text_most scale < length bytes) ⊎ (length bytes ≤ text_most scale) → (s : Source) × IsSource scale (Some files) name s
  held files name bytes e (inl lt) =
      let P : Option (List ℕ) → Type 0 = λ o. IsSomeAnd o (λ bs. text_most scale + 1 ≤ length bs) in
      let le : text_most scale + 1 ≤ length bytes = omega (arith, lt) in
      let small = small_texts_of scale in
      (TooLong (text_most scale + 1), (omega arith, omega (arith, small), subst P (sym e) le))
  held files name bytes e (inr le) = (Bytes bytes, (le, e))

  found : (files : Files) (name : List ℕ) (o : Option (List ℕ)) → get files name ≡ o → (s : Source) × IsSource scale (Some files) name s
  found files name None e = (Absent, e)
  found files name (Some bytes) e = held files name bytes e (cases_lt (text_most scale) (length bytes))

  -- each name has one
  pub some_source : (files : Option Files) (name : List ℕ) → (s : Source) × IsSource scale files name s
  some_source None name = (Absent, tt)
  some_source (Some files) name = found files name (get files name) refl
