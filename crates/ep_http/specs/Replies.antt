-- The bytes of a reply, and the reply that tells a refusal.
use Rattle.std.specs.Prelude.{ℕ, ◌==◌, ◌||◌, Bool, List, ◌++◌, length, codes, if◌then◌else◌, Option, Some, None}
use Rattle.std.specs.Fmt.{decimal}
use Rattle.ep_http.specs.declared.bad.HttpBad.{HttpBad}
use Rattle.ep_http.specs.declared.bad.HttpBad.TheVariants as bad

-- ---- statuses

-- the statuses of replies that refuse a request
abbrev pub is_refusal : ℕ → Bool
is_refusal n = n == 400 || (n == 404 || (n == 405 || n == 413))

-- the statuses of all replies
abbrev pub is_status : ℕ → Bool
is_status n = n == 200 || is_refusal n

-- the reason phrases of RFC 9110, section 15
abbrev pub reason : ℕ → List ℕ
reason n =
    if n == 200 then codes "OK"
    else (if n == 400 then codes "Bad Request"
    else (if n == 404 then codes "Not Found"
    else (if n == 405 then codes "Method Not Allowed" else codes "Content Too Large")))

-- the status that tells a refusal; none where the caller is gone, or there is no memory
abbrev pub status_of : HttpBad → Option ℕ
status_of bad.Head = Some 400
status_of bad.Method = Some 405
status_of bad.Body = Some 400
status_of (bad.TooBig n) = Some 413
status_of bad.Short = None
status_of (bad.Read n) = None
status_of bad.NoMemory = None

-- ---- bytes

-- RFC 9112, section 4
abbrev pub status_line : ℕ → List ℕ
status_line status = codes "HTTP/1.1 " ++ (decimal status ++ (codes " " ++ (reason status ++ codes "\r\n")))

-- the status line, three fields, an empty line and the body
abbrev pub reply : ℕ → List ℕ → List ℕ
reply status body =
    status_line status ++ (codes "Content-Type: application/json; charset=utf-8\r\nContent-Length: " ++ (decimal (length body) ++ (codes "\r\nConnection: close\r\n\r\n" ++ body)))

-- the body of a reply that refuses a request
abbrev pub refusal : ℕ → List ℕ
refusal status = codes "{\"code\":1,\"data\":null,\"message\":\"" ++ (reason status ++ codes "\"}")
