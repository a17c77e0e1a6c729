-- The image that a restart leaves.
use Rattle.std.specs.Prelude.{ℕ, ◌≡◌, ◌<◌, ◌≤◌, ◌%◌, ◌⊎◌, min, max, List, [], ◌∷◌, length, get_or, Option, Some, None}
use Rattle.ep_outside.specs.Disk.{Contents, MayLeave, settled}
use Rattle.ep_outside.specs.declared.image.Image.{Image}
use Rattle.ep_outside.specs.declared.image.Image.TheVariants.{Old, New, Torn}

-- a length moved into the span
abbrev pub into_span : ℕ → ℕ → ℕ → ℕ
into_span least most n = max least (min most n)

-- the fill stands over and over from the file's beginning; an empty one stands for a byte 00
abbrev pub filling : List ℕ → ℕ → ℕ
filling [] i = 0
filling (b ∷ bs) i = get_or (b ∷ bs) (i % length (b ∷ bs)) 0

-- a range has the place
abbrev pub IsTouched : List (ℕ × ℕ) → ℕ → Type 0
IsTouched [] i = ⊥
IsTouched (r ∷ rs) i = ((r.0 ≤ i) × (i < r.1)) ⊎ IsTouched rs i

-- the fill stands in the written ranges and past the last synced end; the length is the one asked for, moved into the span that a crash may leave
pub record IsTorn (c : Contents) (n : ℕ) (fill : List ℕ) (image : List ℕ) : Type 0 where
  pub size : length image ≡ into_span c.least c.most n
  pub filled : (i : ℕ) → i < length image → IsTouched c.ranges i ⊎ (length c.synced ≤ i) → get_or image i 0 ≡ filling fill i
  pub allowed : MayLeave c image

-- the image that was asked for
abbrev pub IsAsked : Contents → Image → List ℕ → Type 0
IsAsked c Old image = image ≡ c.synced
IsAsked c New image = image ≡ c.seen
IsAsked c (Torn n fill) image = IsTorn c n fill.items image

-- the image of a restart: the one asked for with the stop, and `Old` where no stop was asked for
abbrev pub image_at : Option ℕ → Image → Image
image_at None asked = Old
image_at (Some calls) asked = asked

-- the disk holds the image, and nothing is unsynced
abbrev pub Restarts : Option Contents → Option Contents → Image → Type 0
Restarts None None asked = Unit {0}
Restarts (Some c) (Some d) asked = (image : List ℕ) × IsAsked c asked image × (d ≡ settled image)
Restarts None (Some d) asked = ⊥
Restarts (Some c) None asked = ⊥
