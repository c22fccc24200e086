use Rattle.std.proofs.Common.{◌≡◌, ◌+◌, ◌≤◌, drop}
use Rattle.refusal_sentences.specs.LongNumbers.{has_long_number}
use Rattle.refusal_sentences.proofs.LongNumbersSeen.{is_seen}
use Rattle.refusal_sentences.proofs.long_numbers.has_long_number.Given as goal

-- what is seen in the bytes to come is what is seen in all
abbrev pub invariant-loop-byte : goal.invariant-loop-byte
invariant-loop-byte l = record {
  to_come : is_seen l.decimals l.is_in_number l.behind (drop l.byte-index l.bytes) ≡ has_long_number l.decimals l.bytes;
  few : l.behind ≤ l.decimals + 1;
}
