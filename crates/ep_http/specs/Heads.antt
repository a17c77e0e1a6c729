-- Heads of requests (RFC 9112, sections 2 to 5) within the limits, and what bytes are that begin with none.
use Rattle.std.specs.Prelude.{ℕ, ◌≡◌, ◌⊎◌, ◌+◌, ◌<◌, ◌≤◌, Bool, ◌==◌, ◌||◌, if◌then◌else◌, List, [], ◌∷◌, length, count_by}
use Rattle.httparse.specs.Grammar.{RequestHead, print_request, ReadsRequest, HasNoRequest, NeverHasRequest, EndsInTarget, MayBecomeRequest}

-- ---- the limits

abbrev pub most_bytes : ℕ
most_bytes = 16384

abbrev pub most_fields : ℕ
most_fields = 64

-- the bytes are a head within the limits and then the rest
pub record BeginsWith (bytes : List ℕ) (h : RequestHead) (rest : List ℕ) : Type 0 where
  pub reads : ReadsRequest bytes h rest
  pub short : length (print_request h) ≤ most_bytes
  pub few : length h.fields ≤ most_fields

-- ---- lines

-- CR or LF
abbrev pub is_newline : ℕ → Bool
is_newline b = b == 13 || b == 10

-- how many lines end in the bytes
abbrev pub feeds : List ℕ → ℕ
feeds = count_by (λ b. b == 10)

-- the bytes behind the empty lines in front
abbrev pub behind_newlines : List ℕ → List ℕ
behind_newlines [] = []
behind_newlines (b ∷ bs) = if is_newline b then behind_newlines bs else b ∷ bs

-- how many lines end behind the empty ones in front
abbrev pub lines_in : List ℕ → ℕ
lines_in bytes = feeds (behind_newlines bytes)

-- a request line and more field lines have ended than a head may have
abbrev pub HasManyLines : List ℕ → Type 0
HasManyLines bytes = most_fields + 2 ≤ lines_in bytes

-- ---- no head

-- no head with so few fields is in front
abbrev pub HasNoHead : List ℕ → Type 0
HasNoHead bytes = (h : RequestHead) (rest : List ℕ) → ReadsRequest bytes h rest → most_fields < length h.fields

-- whatever follows makes no head, and the target isn't still being read
abbrev pub CanBeginNone : List ℕ → Type 0
CanBeginNone bytes = NeverHasRequest bytes × ¬ (EndsInTarget bytes)

-- the bytes begin no head: they can't, or too many lines have ended, or so many bytes as a head may have are there
pub record HasNoneWithin (bytes : List ℕ) : Type 0 where
  pub none : HasNoHead bytes
  pub why : (CanBeginNone bytes ⊎ HasManyLines bytes) ⊎ (most_bytes ≡ length bytes)

-- ---- a beginning of a head

-- no head has ended, and one still may
pub record IsUnfinished (bytes : List ℕ) : Type 0 where
  pub none : HasNoRequest bytes
  pub may : MayBecomeRequest bytes
  pub few : lines_in bytes < most_fields + 2

-- a head is still being read
pub record WantsHead (bytes : List ℕ) : Type 0 where
  pub unfinished : IsUnfinished bytes
  pub room : length bytes < most_bytes
