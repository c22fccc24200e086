-- The lines of a step and of a mesh are in range.
use Rattle.std.proofs.Common.{[], map, arith}
use Rattle.std.proofs.lemmas.List.Elements.{All-cons, All-nil, All-append, All-map, All-weaker}
use Rattle.mesh_base.specs.Mesh.{IsLiveVertex}
use Rattle.log_text.specs.declared.log_line.LogLine.TheVariants.{Step, Hit, Block, Move, Moved}
use Rattle.log_read.specs.Laws.{IsPairInRange}
use Rattle.run_laws.specs.Names.{IsBlockInRange}
use Rattle.run_laws.specs.Lines.{MayFollow, StepLinesAreInRange, MeshLinesAreInRange}
use Rattle.run_laws.proofs.Names.{vertices_in_range}

pub step_in_range : StepLinesAreInRange
step_in_range scale m k pairs blocks moves how sound number hits grouped live how_good =
    let moved = All-cons (MayFollow scale) (Moved how) [] (how_good, tt) (All-nil (MayFollow scale)) in
    let moving = All-map (MayFollow scale) (λ s. Move s) moves (All-weaker (λ s. IsLiveVertex m s.v) (λ s. MayFollow scale (Move s)) (λ s there. (vertices_in_range m sound s.v there, tt)) moves live) in
    let hitting = All-map (MayFollow scale) (λ p. Hit p) pairs (All-weaker IsPairInRange (λ p. MayFollow scale (Hit p)) (λ p good. (good, tt)) pairs hits) in
    let blocked = All-map (MayFollow scale) (λ ids. Block ids) blocks (All-weaker IsBlockInRange (λ ids. MayFollow scale (Block ids)) (λ ids good. (good, tt)) blocks grouped) in
    All-cons (MayFollow scale) (Step k) _ (number, tt)
    (All-append (MayFollow scale) (map (λ p. Hit p) pairs) _ hitting (All-append (MayFollow scale) (map (λ ids. Block ids) blocks) _ blocked (All-append (MayFollow scale) (map (λ s. Move s) moves) _ moving moved)))

pub mesh_in_range : MeshLinesAreInRange
mesh_in_range scale m k within sound number = ((number, omega (arith, sound.limits.vertices, within.vertices), omega (arith, sound.limits.faces, within.faces)), tt)
