-- A text that is read part by part.
use Rattle.std.proofs.Common.{◌≡◌, ℕ, ◌+◌, ◌<◌, ◌≤◌, Bool, true, false, eqb, List, [], ◌∷◌, length, Result, Ok, Err, refl, sym, ap, ◌∙◌, arith, lit<}
use Rattle.std.specs.Prelude.{codes, if◌then◌else◌}
use Rattle.std.specs.List.{join_with_byte}
use Rattle.std.specs.Str.{bytes_eq}
use Rattle.std.proofs.lemmas.List.Sums.{count_by-le-length}
use Rattle.std.proofs.lemmas.List.Splits.{length-slice_split}
use Rattle.line_text.specs.declared.TextFault.{TextFault}
use Rattle.line_text.specs.declared.ReadFault.{ReadFault}
use Rattle.line_text.specs.declared.ReadFault.TheVariants as faults
use Rattle.line_text.specs.Faults.{◌>>=◌, at_line, Fails}
use Rattle.mesh_base.specs.declared.Scale.{Scale}
use Rattle.log_text.specs.declared.TheConstants.{VERSION, IDS_VERSION, OLD_VERSION}
use Rattle.log_text.specs.declared.LogLine.{LogLine}
use Rattle.log_text.specs.declared.LogLine.TheVariants.{First}
use Rattle.log_text.specs.Lines.{body_of}
use Rattle.log_read.proofs.CanonicalDigits.{spelled_number-some}
use Rattle.log_read.specs.Reading.{line_adds, parts_add, parts_of_text, version_in, version_of, log_of}

pub some_parts : (bytes : List ℕ) → 0 < length (parts_of_text bytes)
some_parts bytes = omega (arith, length-slice_split (λ b. eqb b 10) bytes)

-- a part with others after it is an ended line
pub parts_more : (scale : Scale) (version : ℕ) (lines : List LogLine) (number : ℕ) (part : List ℕ) (parts : List (List ℕ)) → 0 < length parts → parts_add scale version lines number (part ∷ parts) ≡ (at_line number (line_adds scale version lines true part) >>= λ more. parts_add scale version more (number + 1) parts)
parts_more scale version lines number part [] h = absurd (omega arith)
parts_more scale version lines number part (next ∷ parts) h = refl

-- the lines that name a version
pub latest_body : body_of (First VERSION) ≡ codes "topo log 2"
latest_body = ap (λ (w : List ℕ). join_with_byte 32 (codes "topo" ∷ codes "log" ∷ w ∷ [])) (sym (spelled_number-some (codes "2") 2 (lit< tt) refl))

pub numbered_body : body_of (First IDS_VERSION) ≡ codes "topo log 3"
numbered_body = ap (λ (w : List ℕ). join_with_byte 32 (codes "topo" ∷ codes "log" ∷ w ∷ [])) (sym (spelled_number-some (codes "3") 3 (lit< tt) refl))

module _ (bytes first : List ℕ) (parts : List (List ℕ)) (cut : parts_of_text bytes ≡ first ∷ parts) where
  named : (t u : Bool) → bytes_eq first (codes "topo log 2") ≡ t → bytes_eq first (codes "topo log 3") ≡ u → version_of bytes ≡ (if t then VERSION else if u then IDS_VERSION else OLD_VERSION)
  named t u h k =
      let e : bytes_eq first (body_of (First VERSION)) ≡ t = ap (bytes_eq first) latest_body ∙ h in
      let f : bytes_eq first (body_of (First IDS_VERSION)) ≡ u = ap (bytes_eq first) numbered_body ∙ k in
      ap version_in cut ∙ ap (λ (b : Bool). if b then VERSION else if bytes_eq first (body_of (First IDS_VERSION)) then IDS_VERSION else OLD_VERSION) e
      ∙ ap (λ (b : Bool). if t then VERSION else if b then IDS_VERSION else OLD_VERSION) f

  -- the version that the first part names
  pub version_named : bytes_eq first (codes "topo log 2") ≡ true → VERSION ≡ version_of bytes
  version_named h = sym (named true (bytes_eq first (codes "topo log 3")) h refl)

  pub version_numbered : bytes_eq first (codes "topo log 2") ≡ false → bytes_eq first (codes "topo log 3") ≡ true → IDS_VERSION ≡ version_of bytes
  version_numbered h k = sym (named false true h k)

  pub version_other : bytes_eq first (codes "topo log 2") ≡ false → bytes_eq first (codes "topo log 3") ≡ false → OLD_VERSION ≡ version_of bytes
  version_other h k = sym (named false false h k)

-- the lines so far and the parts that are left give what the whole text gives, and the number of the next line stays small
pub record PartsLeft (scale : Scale) (version : ℕ) (bytes : List ℕ) (lines : List LogLine) (number : ℕ) (rest : List ℕ) : Type 0 where
  pub same : parts_add scale version lines number (parts_of_text rest) ≡ log_of scale bytes
  pub few : number + length (parts_of_text rest) ≤ length bytes + 2

pub PartsLeft-first : (scale : Scale) (version : ℕ) (bytes : List ℕ) → version ≡ version_of bytes → PartsLeft scale version bytes [] 1 bytes
PartsLeft-first scale version bytes e = record { same = ap (λ v. parts_add scale v [] 1 (parts_of_text bytes)) e; few = omega (arith, length-slice_split (λ b. eqb b 10) bytes, count_by-le-length (λ b. eqb b 10) bytes) }

module _ (scale : Scale) (version : ℕ) (bytes : List ℕ) (lines : List LogLine) (number : ℕ) (rest part next : List ℕ) (cut : parts_of_text rest ≡ part ∷ parts_of_text next) (h : PartsLeft scale version bytes lines number rest) where
  next_step : (at_line number (line_adds scale version lines true part) >>= λ more. parts_add scale version more (number + 1) (parts_of_text next)) ≡ log_of scale bytes
  next_step = sym (parts_more scale version lines number part (parts_of_text next) (some_parts next)) ∙ ap (λ (t : List (List ℕ)). parts_add scale version lines number t) (sym cut) ∙ h.same

  pub PartsLeft-more : (more : List LogLine) → at_line number (line_adds scale version lines true part) ≡ Ok more → PartsLeft scale version bytes more (number + 1) next
  PartsLeft-more more e = record {
    same = sym (ap (λ (r : Result (List LogLine) TextFault). r >>= λ more. parts_add scale version more (number + 1) (parts_of_text next)) e) ∙ next_step;
    few = omega (arith, ap length cut, h.few);
  }

  pub PartsLeft-fault : (f : TextFault) → at_line number (line_adds scale version lines true part) ≡ Err f → log_of scale bytes ≡ Err f
  PartsLeft-fault f e = sym next_step ∙ ap (λ (r : Result (List LogLine) TextFault). r >>= λ more. parts_add scale version more (number + 1) (parts_of_text next)) e

  pub PartsLeft-fails : (e : ReadFault) → Fails e (at_line number (line_adds scale version lines true part)) → Fails e (log_of scale bytes)
  PartsLeft-fails faults.NoMemory f = tt
  PartsLeft-fails (faults.Text f) e = PartsLeft-fault f e
