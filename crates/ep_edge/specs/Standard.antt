-- What a read of a reader takes, where its bytes are known.
use Rattle.std.specs.Prelude.{ℕ, List, [], take, Option}
use Rattle.std.specs.Io.KnownBytes.{Consumes, Keeps, IsAtEnd}
use Rattle.ep_outside.specs.declared.source.Got.{Got}
use Rattle.ep_outside.specs.declared.source.Got.TheVariants.{Bytes, End, Failed}

-- the bytes that came were the next ones, the end is there where nothing is left, and a failed read took nothing
abbrev pub ReadsOn : Option (List ℕ) → Option (List ℕ) → Got → List ℕ → Type 0
ReadsOn old new (Bytes n) room = Consumes old new (take n room)
ReadsOn old new End room = Consumes old new [] × IsAtEnd new
ReadsOn old new Failed room = Keeps old new
