-- Who came to doors.
use Rattle.std.specs.Prelude.{ℕ}
use Rattle.ep_outside.specs.Outside.{risen}
use Rattle.ep_doors.specs.declared.came.Came.{Came}
use Rattle.ep_doors.specs.declared.came.Came.TheVariants.{Pad, Api, Nothing, End, Failed, NoMemory}

module _ {P A : Type 0} where
  -- the count of callers that were given: one more where one came
  abbrev pub given_after : Came P A → ℕ → ℕ
  given_after (Pad p) n = risen n
  given_after (Api a) n = risen n
  given_after Nothing n = n
  given_after End n = n
  given_after Failed n = n
  given_after NoMemory n = n

  -- of a caller of pads, where one came
  abbrev pub IfPad : Came P A → (P → Type 0) → Type 0
  IfPad (Pad p) F = F p
  IfPad (Api a) F = Unit {0}
  IfPad Nothing F = Unit {0}
  IfPad End F = Unit {0}
  IfPad Failed F = Unit {0}
  IfPad NoMemory F = Unit {0}

  -- of a caller of the API, where one came
  abbrev pub IfApi : Came P A → (A → Type 0) → Type 0
  IfApi (Pad p) F = Unit {0}
  IfApi (Api a) F = F a
  IfApi Nothing F = Unit {0}
  IfApi End F = Unit {0}
  IfApi Failed F = Unit {0}
  IfApi NoMemory F = Unit {0}
