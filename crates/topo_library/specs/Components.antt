-- The components of a mesh, as a caller gets them.
use Rattle.std.specs.Prelude.{ℕ, ◌^◌, ◌-◌, ◌/◌, ◌%◌, ℤ, pos, negsuc, List, map}
use Rattle.mesh_base.specs.Mesh.{Mesh}
use Rattle.mesh_measure.specs.declared.measured.Component.{Component}
use Rattle.mesh_measure.specs.Components.{each_component}
use Rattle.topo_library.specs.declared.components.TopoComponent.{TopoComponent}

-- the low word of a number of 128 bits, from 0 to 2^64 - 1
abbrev pub low_word : ℤ → ℕ
low_word (pos n) = n % (2 ^ 64)
low_word (negsuc n) = (2 ^ 64 - 1) - n % (2 ^ 64)

-- the high word, with the sign: the number is the high word times 2^64, plus the low one
abbrev pub high_word : ℤ → ℤ
high_word (pos n) = pos (n / (2 ^ 64))
high_word (negsuc n) = negsuc (n / (2 ^ 64))

-- a component, with its volume as two words
abbrev pub told_component : Component → TopoComponent
told_component component = record {
  vertex = component.vertex;
  faces = component.faces;
  euler = component.euler;
  volume6_low = low_word component.volume6;
  volume6_high = high_word component.volume6;
}

-- the components, in order of their least faces
abbrev pub told_components : Mesh → List TopoComponent
told_components m = map told_component (each_component m)
