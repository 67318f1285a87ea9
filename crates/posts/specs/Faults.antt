-- The name of a layer, and the text of a fault. Assumes nothing.
use Rattle.std.specs.Prelude.{ℕ, List, ◌∷◌, ◌++◌, codes, decimal}
use Rattle.posts.specs.declared.fault.Fault.{Fault}
use Rattle.posts.specs.declared.fault.Layer.{Layer}
use Rattle.posts.specs.declared.fault.Layer.TheVariants.{Table, Frame}

abbrev pub layer_name : Layer → List ℕ
layer_name Table = codes "table"
layer_name Frame = codes "frame"

-- the layer's name, a space and the place
abbrev pub fault_text : Fault → List ℕ
fault_text f = layer_name f.layer ++ (32 ∷ decimal f.place)
