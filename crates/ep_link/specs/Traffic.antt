-- What passes on a link that tells.
use Rattle.std.specs.Prelude.{◌≡◌, List, [], ◌∷◌, ◌++◌, Option, Some, None}
use Rattle.ep_link.specs.declared.passed.Coming.{Coming}
use Rattle.ep_link.specs.declared.passed.Coming.TheVariants as coming
use Rattle.ep_link.specs.declared.passed.LinkGot.{LinkGot}
use Rattle.ep_link.specs.declared.passed.LinkGot.TheVariants as got
use Rattle.ep_link.specs.declared.passed.Passed.{Passed}
use Rattle.ep_link.specs.declared.passed.Passed.TheVariants.{Got}

-- of a link that tells, this has passed since
abbrev pub Adds : Option (List Passed) → Option (List Passed) → List Passed → Type 0
Adds None None more = Unit {0}
Adds (Some old) (Some new) more = new ≡ old ++ more
Adds None (Some new) more = ⊥
Adds (Some old) None more = ⊥

-- what came, as a receive gives it
abbrev pub as_got : Coming → LinkGot
as_got (coming.Message text) = got.Message text
as_got coming.Binary = got.Binary
as_got coming.Nothing = got.Nothing
as_got coming.Closed = got.Closed

-- what a receive brought: nothing where it failed, or there was no memory for it
abbrev pub came : LinkGot → List Passed
came (got.Message text) = Got (coming.Message text) ∷ []
came got.Binary = Got coming.Binary ∷ []
came got.Nothing = Got coming.Nothing ∷ []
came got.Closed = Got coming.Closed ∷ []
came got.Failed = []
came got.NoMemory = []
