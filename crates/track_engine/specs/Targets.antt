-- How meshes are saved, as bytes.
use Rattle.track_engine.specs.declared.target.Target.{Target as SaveTarget}
use Rattle.track_engine.specs.Saved.{Target}

-- where meshes are saved, with the prefix as bytes
abbrev pub target_of : SaveTarget → Target
target_of to = record { prefix = to.prefix.now; decimals = to.decimals }
