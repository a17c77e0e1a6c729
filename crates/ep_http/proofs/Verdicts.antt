-- The same bytes come to one answer.
use Rattle.std.proofs.Common.{◌≡◌, ◌∙◌, ◌<◌, inl, inr, ℕ, List, [], length, take, refl, sym, ap, arith, Ok, Err, Result}
use Rattle.httparse.specs.Grammar.{RequestHead}
use Rattle.httparse.proofs.GrammarLemmas.{request_unique}
use Rattle.ep_http.specs.Fields.{asked_by}
use Rattle.ep_http.specs.Heads.{BeginsWith, HasNoneWithin, WantsHead}
use Rattle.ep_http.specs.Requests.{ComesTo, IsCut, IsRequest, HasRefusedHead, request_of}
use Rattle.ep_http.specs.declared.fields.Asked.{Asked}
use Rattle.ep_http.specs.declared.request.Request.{Request}
use Rattle.ep_http.specs.declared.bad.HttpBad.{HttpBad}
use Rattle.ep_http.specs.declared.bad.HttpBad.TheVariants as bad

-- ---- two kinds of answer exclude each other

head_or_none : (bytes : List ℕ) (h : RequestHead) (rest : List ℕ) → BeginsWith bytes h rest → HasNoneWithin bytes → ⊥
head_or_none bytes h rest b none = let over : 64 < length h.fields = none.none h rest b.reads in let few = b.few in absurd (omega (arith, over, few))

head_or_wanted : (bytes : List ℕ) (h : RequestHead) (rest : List ℕ) → BeginsWith bytes h rest → WantsHead bytes → ⊥
head_or_wanted bytes h rest b wants = wants.unfinished.none h rest b.reads

none_or_wanted : (bytes : List ℕ) → HasNoneWithin bytes → WantsHead bytes → ⊥
none_or_wanted bytes none wants =
    elim none.why [
      | inl (inl never) ↦ elim wants.unfinished.may [
        | inl more ↦ never.0 more.0 more.1 [] more.2
        | inr at ↦ never.1 at
      ]
      | inl (inr many) ↦ let few = wants.unfinished.few in absurd (omega (arith, many, few))
      | inr full ↦ let room = wants.room in absurd (omega (arith, full, room))
    ]

-- ---- one head, asked once

same_asked : (bytes : List ℕ) (limit : ℕ) (h k : RequestHead) (r q : List ℕ) → BeginsWith bytes h r → BeginsWith bytes k q → asked_by limit h ≡ asked_by limit k
same_asked bytes limit h k r q x y = ap (asked_by limit) (request_unique bytes h k r q x.reads y.reads).0

ok_or_err : (a : Asked) (e : HttpBad) → ◌≡◌ {A = Result Asked HttpBad} (Ok a) (Err e) → ⊥
ok_or_err a e bad = cc

same_ok : (a b : Asked) → ◌≡◌ {A = Result Asked HttpBad} (Ok a) (Ok b) → a ≡ b
same_ok a b e = cc

same_err : (a b : HttpBad) → ◌≡◌ {A = Result Asked HttpBad} (Err a) (Err b) → a ≡ b
same_err a b e = cc

pub one_request : (bytes : List ℕ) (limit : ℕ) (r s : Request) → IsRequest bytes limit r → IsRequest bytes limit s → r ≡ s
one_request bytes limit r s x y =
    let u = request_unique bytes x.head y.head x.rest y.rest x.begins.reads y.begins.reads in
    let a : x.asked ≡ y.asked = same_ok x.asked y.asked (sym x.asks ∙ (ap (asked_by limit) u.0 ∙ y.asks)) in
    let first : request_of x.head x.asked (take x.asked.length x.rest) ≡ request_of y.head x.asked (take x.asked.length x.rest) = ap (λ h. request_of h x.asked (take x.asked.length x.rest)) u.0 in
    let then_rest : request_of y.head x.asked (take x.asked.length x.rest) ≡ request_of y.head x.asked (take x.asked.length y.rest) = ap (λ t. request_of y.head x.asked (take x.asked.length t)) u.1 in
    let then_asked : request_of y.head x.asked (take x.asked.length y.rest) ≡ request_of y.head y.asked (take y.asked.length y.rest) = ap (λ (q : Asked). request_of y.head q (take q.length y.rest)) a in
    x.is ∙ (first ∙ (then_rest ∙ (then_asked ∙ sym y.is)))

request_or_refused : (bytes : List ℕ) (limit : ℕ) (r : Request) (e : HttpBad) → IsRequest bytes limit r → HasRefusedHead bytes limit e → ⊥
request_or_refused bytes limit r e x y = ok_or_err x.asked e (sym x.asks ∙ (same_asked bytes limit x.head y.head x.rest y.rest x.begins y.begins ∙ y.asks))

request_or_cut : (bytes : List ℕ) (limit : ℕ) (r : Request) → IsRequest bytes limit r → IsCut bytes limit → ⊥
request_or_cut bytes limit r x (inl wants) = head_or_wanted bytes x.head x.rest x.begins wants
request_or_cut bytes limit r x (inr y) =
    let u = request_unique bytes x.head y.head x.rest y.rest x.begins.reads y.begins.reads in
    let a : x.asked ≡ y.asked = same_ok x.asked y.asked (sym x.asks ∙ (ap (asked_by limit) u.0 ∙ y.asks)) in
    let size : x.asked.length ≡ y.asked.length = ap (λ (q : Asked). q.length) a in
    let rest : length x.rest ≡ length y.rest = ap length u.1 in
    let long = x.long in
    let short = y.short in
    absurd (omega (arith, size, rest, long, short))

one_refusal : (bytes : List ℕ) (limit : ℕ) (d e : HttpBad) → HasRefusedHead bytes limit d → HasRefusedHead bytes limit e → d ≡ e
one_refusal bytes limit d e x y = same_err d e (sym x.asks ∙ (same_asked bytes limit x.head y.head x.rest y.rest x.begins y.begins ∙ y.asks))

refused_or_cut : (bytes : List ℕ) (limit : ℕ) (e : HttpBad) → HasRefusedHead bytes limit e → IsCut bytes limit → ⊥
refused_or_cut bytes limit e x (inl wants) = head_or_wanted bytes x.head x.rest x.begins wants
refused_or_cut bytes limit e x (inr y) = ok_or_err y.asked e (sym y.asks ∙ (same_asked bytes limit y.head x.head y.rest x.rest y.begins x.begins ∙ x.asks))

none_or_cut : (bytes : List ℕ) (limit : ℕ) → HasNoneWithin bytes → IsCut bytes limit → ⊥
none_or_cut bytes limit none (inl wants) = none_or_wanted bytes none wants
none_or_cut bytes limit none (inr y) = head_or_none bytes y.head y.rest y.begins none

-- ---- by kinds

data Kind : Type 0 where
  none : Kind
  refused : HttpBad → Kind
  cut : Kind
  never : Kind

abbrev kind_of : HttpBad → Kind
kind_of bad.Head = none
kind_of bad.Method = refused bad.Method
kind_of bad.Body = refused bad.Body
kind_of (bad.TooBig n) = refused (bad.TooBig n)
kind_of bad.Short = cut
kind_of (bad.Read n) = never
kind_of bad.NoMemory = never

abbrev Of : List ℕ → ℕ → HttpBad → Kind → Type 0
Of bytes limit e none = HasNoneWithin bytes × (e ≡ bad.Head)
Of bytes limit e (refused d) = HasRefusedHead bytes limit d × (e ≡ d)
Of bytes limit e cut = IsCut bytes limit × (e ≡ bad.Short)
Of bytes limit e never = ⊥

of_kind : (bytes : List ℕ) (limit : ℕ) (e : HttpBad) → ComesTo bytes limit (Err e) → Of bytes limit e (kind_of e)
of_kind bytes limit bad.Head x = (x, refl)
of_kind bytes limit bad.Method x = (x, refl)
of_kind bytes limit bad.Body x = (x, refl)
of_kind bytes limit (bad.TooBig n) x = (x, refl)
of_kind bytes limit bad.Short x = (x, refl)
of_kind bytes limit (bad.Read n) x = x
of_kind bytes limit bad.NoMemory x = x

two_kinds : (bytes : List ℕ) (limit : ℕ) (d e : HttpBad) (k l : Kind) → Of bytes limit d k → Of bytes limit e l → d ≡ e
two_kinds bytes limit d e none none x y = x.1 ∙ sym y.1
two_kinds bytes limit d e none (refused b) x y = absurd (head_or_none bytes y.0.head y.0.rest y.0.begins x.0)
two_kinds bytes limit d e none cut x y = absurd (none_or_cut bytes limit x.0 y.0)
two_kinds bytes limit d e none never x y = absurd y
two_kinds bytes limit d e (refused a) none x y = absurd (head_or_none bytes x.0.head x.0.rest x.0.begins y.0)
two_kinds bytes limit d e (refused a) (refused b) x y = x.1 ∙ (one_refusal bytes limit a b x.0 y.0 ∙ sym y.1)
two_kinds bytes limit d e (refused a) cut x y = absurd (refused_or_cut bytes limit a x.0 y.0)
two_kinds bytes limit d e (refused a) never x y = absurd y
two_kinds bytes limit d e cut none x y = absurd (none_or_cut bytes limit y.0 x.0)
two_kinds bytes limit d e cut (refused b) x y = absurd (refused_or_cut bytes limit b y.0 x.0)
two_kinds bytes limit d e cut cut x y = x.1 ∙ sym y.1
two_kinds bytes limit d e cut never x y = absurd y
two_kinds bytes limit d e never l x y = absurd x

request_or_kind : (bytes : List ℕ) (limit : ℕ) (r : Request) (e : HttpBad) (k : Kind) → IsRequest bytes limit r → Of bytes limit e k → ⊥
request_or_kind bytes limit r e none x y = head_or_none bytes x.head x.rest x.begins y.0
request_or_kind bytes limit r e (refused d) x y = request_or_refused bytes limit r d x y.0
request_or_kind bytes limit r e cut x y = request_or_cut bytes limit r x y.0
request_or_kind bytes limit r e never x y = y

pub one : (bytes : List ℕ) (limit : ℕ) (a b : Result Request HttpBad) → ComesTo bytes limit a → ComesTo bytes limit b → a ≡ b
one bytes limit (Ok r) (Ok s) x y = ap Ok (one_request bytes limit r s x y)
one bytes limit (Ok r) (Err e) x y = absurd (request_or_kind bytes limit r e (kind_of e) x (of_kind bytes limit e y))
one bytes limit (Err d) (Ok s) x y = absurd (request_or_kind bytes limit s d (kind_of d) y (of_kind bytes limit d x))
one bytes limit (Err d) (Err e) x y = ap Err (two_kinds bytes limit d e (kind_of d) (kind_of e) (of_kind bytes limit d x) (of_kind bytes limit e y))
