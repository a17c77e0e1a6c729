-- What a request is over the bytes of a source, and the cause of each refusal.
use Rattle.std.specs.Prelude.{ℕ, ◌≡◌, ◌⊎◌, ◌+◌, ◌<◌, ◌≤◌, max, List, ◌++◌, length, take, Option, Result, Ok, Err}
use Rattle.std.specs.List.{before_first, after_first}
use Rattle.httparse.specs.Grammar.{RequestHead, print_request}
use Rattle.ep_outside.specs.Outside.{Gives, IsAtEnd}
use Rattle.ep_http.specs.Taken.{GivesAtMost, HasFailed}
use Rattle.ep_http.specs.Heads.{most_bytes, BeginsWith, HasNoneWithin, WantsHead}
use Rattle.ep_http.specs.Fields.{asked_by}
use Rattle.ep_http.specs.Parameters.{parameters, is_question}
use Rattle.ep_http.specs.declared.fields.Asked.{Asked}
use Rattle.ep_http.specs.declared.request.Request.{Request}
use Rattle.ep_http.specs.declared.bad.HttpBad.{HttpBad}
use Rattle.ep_http.specs.declared.bad.HttpBad.TheVariants as bad

-- ---- what bytes are

-- the request of a head and a body
abbrev pub request_of : RequestHead → Asked → List ℕ → Request
request_of h asked body = record {
  method = asked.method;
  path = before_first is_question h.target;
  pairs = parameters (after_first is_question h.target) ++ parameters body;
}

-- the bytes are a head, its body and perhaps more, and this is their request
pub record IsRequest (bytes : List ℕ) (limit : ℕ) (r : Request) : Type 0 where
  pub head : RequestHead
  pub rest : List ℕ
  pub asked : Asked
  pub begins : BeginsWith bytes head rest
  pub asks : asked_by limit head ≡ Ok asked
  pub long : asked.length ≤ length rest
  pub is : r ≡ request_of head asked (take asked.length rest)

-- the bytes begin with a head that is refused for this
pub record HasRefusedHead (bytes : List ℕ) (limit : ℕ) (why : HttpBad) : Type 0 where
  pub head : RequestHead
  pub rest : List ℕ
  pub begins : BeginsWith bytes head rest
  pub asks : asked_by limit head ≡ Err why

-- the bytes begin with a head whose body isn't whole
pub record WantsBody (bytes : List ℕ) (limit : ℕ) : Type 0 where
  pub head : RequestHead
  pub rest : List ℕ
  pub asked : Asked
  pub begins : BeginsWith bytes head rest
  pub asks : asked_by limit head ≡ Ok asked
  pub short : length rest < asked.length

-- the request isn't whole, and nothing says that it can't be
abbrev pub IsCut : List ℕ → ℕ → Type 0
IsCut bytes limit = WantsHead bytes ⊎ WantsBody bytes limit

-- what the bytes come to, where nothing follows them and no device fails
abbrev pub ComesTo : List ℕ → ℕ → Result Request HttpBad → Type 0
ComesTo bytes limit (Ok r) = IsRequest bytes limit r
ComesTo bytes limit (Err bad.Head) = HasNoneWithin bytes
ComesTo bytes limit (Err bad.Method) = HasRefusedHead bytes limit bad.Method
ComesTo bytes limit (Err bad.Body) = HasRefusedHead bytes limit bad.Body
ComesTo bytes limit (Err (bad.TooBig n)) = HasRefusedHead bytes limit (bad.TooBig n)
ComesTo bytes limit (Err bad.Short) = IsCut bytes limit
ComesTo bytes limit (Err (bad.Read n)) = ⊥
ComesTo bytes limit (Err bad.NoMemory) = ⊥

-- ---- what was taken of the source

-- no byte behind the body was taken, but for those that came with the head
abbrev pub TakesNoMore : (bytes : List ℕ) (limit : ℕ) (r : Request) → IsRequest bytes limit r → Type 0
TakesNoMore bytes limit r is = length bytes ≤ max most_bytes (length (print_request is.head) + is.asked.length)

-- the source gave the bytes of a request, and this is it
abbrev pub Makes : Option (List ℕ) → Option (List ℕ) → ℕ → Request → Type 0
Makes old new limit r = (bytes : List ℕ) × Gives old new bytes × ((is : IsRequest bytes limit r) × TakesNoMore bytes limit r is)

-- the source gave bytes that are refused for this, and no more than a head may have
abbrev pub RefusesHead : Option (List ℕ) → Option (List ℕ) → ℕ → HttpBad → Type 0
RefusesHead old new limit why = (bytes : List ℕ) × GivesAtMost most_bytes old new bytes × ComesTo bytes limit (Err why)

-- the source gave bytes that are refused for this
abbrev pub Refuses : Option (List ℕ) → Option (List ℕ) → ℕ → ℕ → ℕ → HttpBad → Type 0
Refuses old new before now limit bad.Head = RefusesHead old new limit bad.Head
Refuses old new before now limit bad.Method = RefusesHead old new limit bad.Method
Refuses old new before now limit bad.Body = RefusesHead old new limit bad.Body
Refuses old new before now limit (bad.TooBig n) = RefusesHead old new limit (bad.TooBig n)
Refuses old new before now limit bad.Short = (bytes : List ℕ) × Gives old new bytes × IsCut bytes limit × IsAtEnd new
Refuses old new before now limit (bad.Read n) = (bytes : List ℕ) × Gives old new bytes × IsCut bytes limit × HasFailed before now n
Refuses old new before now limit bad.NoMemory = Unit {0}
