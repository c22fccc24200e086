-- Boxes that have what smaller ones have.
use Rattle.std.proofs.Common.{ℕ, List, inr}
use Rattle.std.specs.List.{All}
use Rattle.grid_base.specs.Extents.{IsInside}
use Rattle.pair_paths.specs.declared.Frame.{Frame}
use Rattle.pair_paths.specs.declared.Path.{Path}
use Rattle.neighbour_list.specs.declared.cluster_boxes.ClusterBoxes.{ClusterBoxes}
use Rattle.neighbour_list.specs.declared.reference.Reference.{Reference}
use Rattle.neighbour_list.specs.Clusters.{HoldsWay, HasDriftsOf, BoxesServe}
use Rattle.neighbour_list.specs.Drift.{IsNarrow}

pub grown : (frame : Frame) (path : Path) (k : Reference) (a b : ClusterBoxes) → IsInside a.swept b.swept → IsInside a.start b.start → IsInside a.end b.end → HoldsWay frame path k a → HoldsWay frame path k b
grown frame path k a b swept start end h = record {
  swept = record { start = swept _ h.swept.start; end = swept _ h.swept.end };
  start = start _ h.start;
  end = end _ h.end;
}

pub drifts_grown : (b now more : ClusterBoxes) → IsInside now.start more.start → IsInside now.end more.end → HasDriftsOf b now → HasDriftsOf b more
drifts_grown b now more start end h = record { start = λ p is. start p (h.start p is); end = λ p is. end p (h.end p is) }

-- clusters whose drifts are all in one narrow box drift alike
pub alike_in : (skin : ℕ) (all : ClusterBoxes) (boxes : List ClusterBoxes) → IsNarrow skin all.start → IsNarrow skin all.end → All (λ b. HasDriftsOf b all) boxes → All (λ a. All (BoxesServe skin a) boxes) boxes
alike_in skin all boxes start end held = λ j d lt k e le. inr (
  record { box = all.start; narrow = start; first = (held j d lt).start; second = (held k e le).start },
  record { box = all.end; narrow = end; first = (held j d lt).end; second = (held k e le).end },
)
