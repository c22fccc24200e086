-- What a marker has taken in.
use Rattle.std.specs.Prelude.{◌≡◌, ℕ, ◌<◌, ◌^◌, List, length}
use Rattle.sha2.specs.Hashers.{Holds256}
use Rattle.job_card.specs.declared.marker.Marker.{Marker}

-- it has taken in these bytes, and counts them where they are fewer than 2 to the power 64
unfoldable pub HoldsBytes : Marker → List ℕ → Type 0
HoldsBytes m bytes = Holds256 m.hasher bytes × (length bytes < 2 ^ 64 → m.bytes ≡ length bytes)
