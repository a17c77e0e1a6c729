-- What a source comes to, however its bytes come.
use Rattle.std.specs.Prelude.{ℕ, ◌≡◌, List, [], ◌++◌, Result, Err}
use Rattle.ep_http.specs.Requests.{ComesTo}
use Rattle.ep_http.specs.declared.request.Request.{Request}
use Rattle.ep_http.specs.declared.bad.HttpBad.{HttpBad}
use Rattle.ep_http.specs.declared.bad.HttpBad.TheVariants as bad

-- of the bytes that are left some are taken, and these come to this answer; a request is told as cut off at the end alone
pub record EndsIn (left : List ℕ) (limit : ℕ) (answer : Result Request HttpBad) : Type 0 where
  pub taken : List ℕ
  pub behind : List ℕ
  pub whole : left ≡ taken ++ behind
  pub comes : ComesTo taken limit answer
  pub cut : answer ≡ Err bad.Short → behind ≡ []
