use Rattle.std.proofs.Common.{rules, arith, ◌≡◌, ◌<◌, ◌≤◌, ℕ, List, Some, length, sym, subst, IsSomeAnd, Option}
use Rattle.outside_io.specs.MemoryDesk.{RefusesFetch}
use Rattle.outside_io.proofs.memory_desk.MemoryDeskDesk.fetch.Goals as goal

pub returns-in-Some-clause-long : goal.returns-in-Some-clause-long
returns-in-Some-clause-long c = λ seen h. let l = (c.copy_into.ensures.long seen).0 h in omega (arith, l.0, l.1)

pub returns-in-Some-clause-seen : goal.returns-in-Some-clause-seen
returns-in-Some-clause-seen c = λ seen h.
    let l = (c.copy_into.ensures.long seen).0 h in
    let P : Option (List ℕ) → Type 0 = λ o. IsSomeAnd o (λ bytes. seen ≤ length bytes) in
    subst P c.in-Some.ensures (omega (arith, l.0))

pub returns-in-Some-clause-whole : goal.returns-in-Some-clause-whole
returns-in-Some-clause-whole c = λ seen.
    let P : Option (List ℕ) → Type 0 = λ o. IsSomeAnd o (λ bytes. (seen ≡ length bytes) × (c.args.limit < seen)) in
    let free : RefusesFetch c.args.self.now → ⊥ = search rules in (
      λ h.
          let l = (c.copy_into.ensures.long seen).0 h in
          (free, subst P c.in-Some.ensures (l.0, omega (arith, l.0, l.1))),
      λ h.
          let l : P (Some c.in-Some.bytes.now) = subst P (sym c.in-Some.ensures) h.1 in
          (c.copy_into.ensures.long seen).1 (l.0, omega (arith, l.0, l.1)),
    )
