-- A request out of a head and what was read behind it.
use Rattle.std.proofs.Common.{◌≡◌, ◌⊎◌, ◌≤◌, ◌+◌, ◌-◌, inl, inr, ℕ, List, ◌++◌, Bool, true, false, map, codes, length, take, drop, sym, ap, ◌∙◌, subst, arith, Option, Some, None, Ok, Err, append_assoc, length-append, length-drop}
use Rattle.std.proofs.lemmas.List.{drop-append-le}
use Rattle.std.proofs.lemmas.Bool.{cases_Bool}
use Rattle.std.specs.Prelude.{if◌then◌else◌, nat_le, slice_range}
use Rattle.std.specs.Str.{bytes_eq}
use Rattle.httparse.specs.Spans.{name_and_value}
use Rattle.std.specs.List.{before_first, after_first}
use Rattle.httparse.specs.Grammar.{ReadsRequest, RequestHead}
use Rattle.httparse.specs.declared.spans.HeaderSpan.{HeaderSpan}
use Rattle.httparse.specs.declared.spans.RequestSpans.{RequestSpans}
use Rattle.httparse.proofs.GrammarLemmas.{ReadsRequest-append}
use Rattle.ep_outside.specs.Outside.{Gives}
use Rattle.ep_outside.specs.declared.keeper.Pair.{Pair}
use Rattle.ep_http.specs.Heads.{BeginsWith}
use Rattle.ep_http.specs.Looking.{IsHeadAt}
use Rattle.ep_http.specs.Fields.{asked_by, body_length, within}
use Rattle.ep_http.specs.Parameters.{is_question, parameters}
use Rattle.ep_http.specs.Pieces.{FailsToRead, ReadsAll}
use Rattle.ep_http.specs.Taken.{GivesAtMost, HasFailed}
use Rattle.ep_http.specs.Requests.{Makes, Refuses}
use Rattle.ep_http.specs.declared.fields.Asked.{Asked}
use Rattle.ep_http.specs.declared.bad.HttpBad.{HttpBad}
use Rattle.ep_http.specs.declared.bad.HttpBad.TheVariants as bad
use Rattle.ep_http.specs.declared.request.Method.TheVariants.{Get}
use Rattle.ep_http.specs.declared.request.Request.{Request}

pub Gives-append : (a b c : Option (List ℕ)) (p q : List ℕ) → Gives a b p → Gives b c q → Gives a c (p ++ q)
Gives-append None None None p q h k = tt
Gives-append (Some xs) (Some ys) (Some zs) p q h k = h ∙ (ap (λ w. p ++ w) k ∙ sym (append_assoc p q zs))
Gives-append None (Some ys) c p q h k = absurd h
Gives-append (Some xs) None c p q h k = absurd h
Gives-append None None (Some zs) p q h k = absurd k
Gives-append (Some xs) (Some ys) None p q h k = absurd k

-- the bytes of a head, and what came behind them
record Grown (bytes more : List ℕ) (spans : RequestSpans) (h : RequestHead) : Type 0 where
  begins : BeginsWith more h (drop spans.len more)
  long : length (drop spans.len more) + spans.len ≡ length more

grown : (bytes more piece : List ℕ) (fields : List HeaderSpan) (spans : RequestSpans) (h : RequestHead) → IsHeadAt bytes fields spans h
    → length bytes ≤ 16384 → more ≡ bytes ++ piece → Grown bytes more spans h
grown bytes more piece fields spans h is short whole =
    let fits : spans.len ≤ length bytes = is.within.section.len_fits in
    let front : drop spans.len (bytes ++ piece) ≡ drop spans.len bytes ++ piece = drop-append-le spans.len bytes piece fits in
    let rest : drop spans.len more ≡ drop spans.len bytes ++ piece = ap (drop spans.len) whole ∙ front in
    let reads : ReadsRequest (bytes ++ piece) h (drop spans.len bytes ++ piece) = ReadsRequest-append bytes h (drop spans.len bytes) piece is.at.reads in
    let size : length more ≡ length bytes + length piece = ap length whole ∙ length-append bytes piece in
    let behind : length (drop spans.len more) ≡ length more - spans.len = length-drop spans.len more in
    record {
      begins = record {
        reads = subst (λ b. ReadsRequest b h (drop spans.len more)) (sym whole) (subst (λ r. ReadsRequest (bytes ++ piece) h r) (sym rest) reads);
        short = omega (arith, is.at.len, fits, short);
        few = is.few;
      };
      long = omega (arith, size, behind, fits);
    }

risen_later : (before mid now n : ℕ) → before ≤ mid → HasFailed mid now n → HasFailed before now n
risen_later before mid now n le h = (grind (arith, h.0), h.1)

pub body_refused : (old mid new : Option (List ℕ)) (before between now limit : ℕ) (bytes more : List ℕ) (fields : List HeaderSpan) (spans : RequestSpans) (h : RequestHead) (asked : Asked) (why : HttpBad)
    → GivesAtMost 16384 old mid bytes → IsHeadAt bytes fields spans h → asked_by limit h ≡ Ok asked → before ≤ between
    → FailsToRead mid new between now bytes more spans.len asked.length why → Refuses old new before now limit why
body_refused old mid new before between now limit bytes more fields spans h asked bad.Short (gives, size) is asks later (grows, short, ended) =
    let g = grown bytes more grows.piece fields spans h is size grows.whole in
    let all = subst (Gives old new) (sym grows.whole) (Gives-append old mid new bytes grows.piece gives grows.gives) in
    (more, all, inr (record { head = h; rest = drop spans.len more; asked = asked; begins = g.begins; asks = asks; short = omega (arith, g.long, short) }), ended)
body_refused old mid new before between now limit bytes more fields spans h asked (bad.Read n) (gives, size) is asks later (grows, short, failed) =
    let g = grown bytes more grows.piece fields spans h is size grows.whole in
    let all = subst (Gives old new) (sym grows.whole) (Gives-append old mid new bytes grows.piece gives grows.gives) in
    (more, all, inr (record { head = h; rest = drop spans.len more; asked = asked; begins = g.begins; asks = asks; short = omega (arith, g.long, short) }), risen_later before between now n later failed)
body_refused old mid new before between now limit bytes more fields spans h asked bad.NoMemory (gives, size) is asks later x = tt
body_refused old mid new before between now limit bytes more fields spans h asked bad.Head (gives, size) is asks later x = absurd x
body_refused old mid new before between now limit bytes more fields spans h asked bad.Method (gives, size) is asks later x = absurd x
body_refused old mid new before between now limit bytes more fields spans h asked bad.Body (gives, size) is asks later x = absurd x
body_refused old mid new before between now limit bytes more fields spans h asked (bad.TooBig n) (gives, size) is asks later x = absurd x

never_asked : (limit : ℕ) (h : RequestHead) (why : HttpBad) → asked_by limit h ≡ Err why → (why ≡ bad.Method) ⊎ ((why ≡ bad.Body) ⊎ ((n : ℕ) × (why ≡ bad.TooBig n)))
never_asked limit h why asks = by_method (bytes_eq h.method (codes "GET")) (bytes_eq h.method (codes "POST")) (body_length (map name_and_value h.fields)) asks
  where
    by_method : (get post : Bool) (found : Option ℕ) → (if get then Ok (record { method = Get; length = 0 }) else (if post then within limit found else Err bad.Method)) ≡ Err why
        → (why ≡ bad.Method) ⊎ ((why ≡ bad.Body) ⊎ ((n : ℕ) × (why ≡ bad.TooBig n)))
    by_method true post found e = absurd (cc)
    by_method false false found e = inl (let w = e in cc)
    by_method false true None e = inr (inl (let w = e in cc))
    by_method false true (Some n) e = elim (cases_Bool (nat_le n limit)) [
      | inl t ↦ absurd (let w = rw t at e in cc)
      | inr f ↦ inr (inr (n, (let w = rw f at e in cc)))
    ]

pub head_refused : (old new : Option (List ℕ)) (before now limit : ℕ) (bytes : List ℕ) (fields : List HeaderSpan) (spans : RequestSpans) (h : RequestHead) (why : HttpBad)
    → GivesAtMost 16384 old new bytes → IsHeadAt bytes fields spans h → asked_by limit h ≡ Err why → Refuses old new before now limit why
head_refused old new before now limit bytes fields spans h why (gives, size) is asks =
    let begins : BeginsWith bytes h (drop spans.len bytes) = record { reads = is.at.reads; short = omega (arith, is.at.len, is.within.section.len_fits, size); few = is.few } in
    elim (never_asked limit h why asks) [
      | inl m ↦ subst (Refuses old new before now limit) (sym m) (bytes, (gives, size), record { head = h; rest = drop spans.len bytes; begins = begins; asks = asks ∙ ap Err m })
      | inr (inl b) ↦ subst (Refuses old new before now limit) (sym b) (bytes, (gives, size), record { head = h; rest = drop spans.len bytes; begins = begins; asks = asks ∙ ap Err b })
      | inr (inr t) ↦ subst (Refuses old new before now limit) (sym t.1) (bytes, (gives, size), record { head = h; rest = drop spans.len bytes; begins = begins; asks = asks ∙ ap Err t.1 })
    ]

pub request_made : (old mid new : Option (List ℕ)) (limit : ℕ) (bytes more : List ℕ) (fields : List HeaderSpan) (spans : RequestSpans) (h : RequestHead) (asked : Asked) (r : Request) (first pairs : List Pair)
    → GivesAtMost 16384 old mid bytes → IsHeadAt bytes fields spans h → asked_by limit h ≡ Ok asked
    → ReadsAll mid new bytes more spans.len asked.length
    → first ≡ parameters (after_first is_question h.target)
    → pairs ≡ first ++ parameters (slice_range more spans.len (spans.len + asked.length))
    → r ≡ record { method = asked.method; path = before_first is_question h.target; pairs = pairs }
    → Makes old new limit r
request_made old mid new limit bytes more fields spans h asked r first pairs (gives, size) is asks read query all made =
    let grows = read.grows in
    let long = read.whole in
    let no_more = read.within in
    let g = grown bytes more grows.piece fields spans h is size grows.whole in
    let given = subst (Gives old new) (sym grows.whole) (Gives-append old mid new bytes grows.piece gives grows.gives) in
    let count : (spans.len + asked.length) - spans.len ≡ asked.length = omega arith in
    let body : slice_range more spans.len (spans.len + asked.length) ≡ take asked.length (drop spans.len more) = ap (λ n. take n (drop spans.len more)) count in
    let is_pairs : pairs ≡ parameters (after_first is_question h.target) ++ parameters (take asked.length (drop spans.len more)) =
    all ∙ (ap (λ x. x ++ parameters (slice_range more spans.len (spans.len + asked.length))) query ∙ ap (λ x. parameters (after_first is_question h.target) ++ parameters x) body) in (
      more,
      given,
      (
        record {
          head = h;
          rest = drop spans.len more;
          asked = asked;
          begins = g.begins;
          asks = asks;
          long = omega (arith, g.long, long);
          is = made ∙ ap (λ p. record { method = asked.method; path = before_first is_question h.target; pairs = p }) is_pairs;
        },
        omega (arith, is.at.len, no_more, size),
      ),
    )
