-- What was read of a caller, and what is written then.
use Rattle.std.proofs.Common.{ℕ, List, Option, Result, Ok, Err}
use Rattle.std.specs.Prelude.{IfOk, IfErr}
use Rattle.ep_http.specs.Requests.{Makes, Refuses}
use Rattle.ep_http.specs.declared.bad.HttpBad.{HttpBad}
use Rattle.ep_http.specs.declared.request.Request.{Request}
use Rattle.ep_serve.specs.Asked.{Reads, most_body}

pub reads : {A : Type 0} (left : A → Option (List ℕ)) (failures : A → ℕ) (caller mid : A) (r : Result Request HttpBad)
    → IfOk r (λ request. Makes (left caller) (left mid) most_body request) → IfErr r (λ why. Refuses (left caller) (left mid) (failures caller) (failures mid) most_body why)
    → Reads left failures caller mid r
reads left failures caller mid (Ok request) ok err = ok
reads left failures caller mid (Err why) ok err = err
