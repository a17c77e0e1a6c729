-- What a stop leaves of the pad's file.
use Rattle.std.specs.Prelude.{ℕ, List}
use Rattle.ep_outside.specs.declared.image.Image.{Image}
use Rattle.ep_outside.specs.declared.image.Image.TheVariants.{Old, New, Torn}

-- an image, where the bytes of a fill stand in a list
pub data Left : Type 0 where
  old : Left
  new : Left
  torn : ℕ → List ℕ → Left

abbrev pub left : Image → Left
left Old = old
left New = new
left (Torn length fill) = torn length fill.items
