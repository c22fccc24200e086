-- Boxes around boxes.
use Rattle.grid_base.specs.Triples.{Triple}
use Rattle.grid_base.specs.declared.Extent.{Extent}
use Rattle.grid_base.specs.Extents.{IsIn}
use Rattle.pair_paths.specs.declared.path.Path.{Path}
use Rattle.pair_paths.specs.Bounds.{HoldsPath}

-- a box that has another has the paths in it
pub widened : (w : Path) (inner outer : Extent) → ((p : Triple) → IsIn inner p → IsIn outer p) → HoldsPath w inner → HoldsPath w outer
widened w inner outer up h = record { start = up (w.start) h.start; end = up (w.end) h.end }
