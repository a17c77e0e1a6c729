-- Requests: their paths, the version, the key, and the order in which they are refused.
use Rattle.std.specs.Prelude.{ℕ, nat_lt, Bool, false, not, ◌&&◌, ◌==◌, ◌||◌, List, [], length, codes, bytes_eq, if◌then◌else◌, Option, Some, None, Result, Ok, Err}
use Rattle.std.specs.Option.{ok_or, option_and_then}
use Rattle.std.specs.List.{before_first, after_first, position_or_len}
use Rattle.ep_outside.specs.declared.keeper.Pair.{Pair}
use Rattle.ep_ask.specs.Names.{function_named}
use Rattle.ep_ask.specs.Parameters.{Read, ◌>>=◌, value_of}
use Rattle.ep_ask.specs.Calls.{call_of}
use Rattle.ep_ask.specs.declared.bad.ApiBad.{ApiBad}
use Rattle.ep_ask.specs.declared.bad.ApiBad.TheVariants.{NotFound, NoVersion, NoFunction, WrongKey}
use Rattle.ep_ask.specs.declared.call.Call.{Call}
use Rattle.ep_ask.specs.declared.function.Function.{Function}
use Rattle.ep_ask.specs.declared.param.Param.TheVariants.{ApiKey}

-- ---- paths

abbrev pub is_slash : ℕ → Bool
is_slash b = b == 47

-- a text cut at its first slash
abbrev pub cut : List ℕ → Option (List ℕ × List ℕ)
cut text = if nat_lt (position_or_len is_slash text) (length text) then Some (before_first is_slash text, after_first is_slash text) else None

-- there is no slash
abbrev pub is_part : List ℕ → Bool
is_part text = not (nat_lt (position_or_len is_slash text) (length text))

-- where a part stands in front, what is behind its slash
abbrev pub behind : List ℕ → List ℕ → Read (List ℕ)
behind part text = ok_or (option_and_then (λ c. if bytes_eq c.0 part then Some c.1 else None) (cut text)) NotFound

-- the version and the function of a path `/api/VERSION/FUNCTION`
abbrev pub parts_in : List ℕ → Read (List ℕ × List ℕ)
parts_in path = do
  api ← behind [] path
  rest ← behind (codes "api") api
  (version, name) ← ok_or (cut rest) NotFound
  if is_part name then Ok (version, name) else Err NotFound

-- ---- the request

abbrev pub is_version : List ℕ → Bool
is_version v = bytes_eq v (codes "1") || (bytes_eq v (codes "1.1") || bytes_eq v (codes "1.2"))

-- the key is given in full
abbrev pub is_key : List ℕ → Option (List ℕ) → Bool
is_key key None = false
is_key key (Some given) = bytes_eq given key

-- the function of a request that has the key
abbrev pub function_in : List ℕ → List Pair → List ℕ → Read Function
function_in path pairs key = do
  parts ← parts_in path
  name ← (if is_version parts.0 then Ok parts.1 else Err NoVersion)
  f ← ok_or (function_named name) NoFunction
  if is_key key (value_of ApiKey pairs) then Ok f else Err WrongKey

-- the call that a request asks for, or why it is refused: the path, the version, the function, the key, the parameters
abbrev pub call_in : List ℕ → List Pair → List ℕ → Read Call
call_in path pairs key = function_in path pairs key >>= λ f. call_of f pairs
