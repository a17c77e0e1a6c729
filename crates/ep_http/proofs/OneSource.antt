-- What a source has left comes to one answer, however it comes.
use Rattle.std.proofs.Common.{◌≡◌, ◌≢◌, ◌<◌, ◌≤◌, ◌+◌, inl, inr, ℕ, List, [], ◌∷◌, ◌++◌, Bool, true, false, length, take, drop, refl, sym, ap, ◌∙◌, subst, arith, append_assoc, append-nil, Some, Result, Ok, Err, length-append}
use Rattle.std.specs.Prelude.{nat_le}
use Rattle.std.proofs.Math.Seq.{drop-append_seam, take-append_seam}
use Rattle.std.proofs.lemmas.Bool.{cases_Bool}
use Rattle.std.proofs.lemmas.List.{drop-append-le, take-append-drop, take-append-le}
use Rattle.std.proofs.lemmas.List.Elements.{All-cons, All-nil, All-take}
use Rattle.std.proofs.lemmas.Str.{IsUtf8-from_ascii}
use Rattle.std.proofs.lemmas.Str.Ascii.{IsAscii-cons, IsAscii-nil}
use Rattle.httparse.specs.Grammar.{AllPass, EndsInTarget, IsField, IsRequestHead, LineEnd, ReadsRequest, RequestHead, lf, is_uri_byte, print_blank, print_request, print_version}
use Rattle.httparse.proofs.GrammarLemmas.{print_request-append, ReadsRequest-append}
use Rattle.ep_http.specs.Heads.{BeginsWith, HasNoneWithin, WantsHead, lines_in}
use Rattle.ep_http.specs.Requests.{ComesTo, HasRefusedHead, Makes, Refuses, RefusesHead, request_of}
use Rattle.ep_http.specs.Streams.{EndsIn}
use Rattle.ep_http.specs.declared.request.Request.{Request}
use Rattle.ep_http.specs.declared.bad.HttpBad.{HttpBad}
use Rattle.ep_http.specs.declared.bad.HttpBad.TheVariants as bad
use Rattle.ep_http.proofs.HeadLines.{head_ends, lines_head_most, lines_more}
use Rattle.ep_http.proofs.Judged.{at_least, below}
use Rattle.ep_http.proofs.Lines.{lines_front}
use Rattle.ep_http.proofs.Verdicts.{one}

-- ---- beginnings

-- of two beginnings of the same bytes the shorter one begins the longer one
begun_by : (xs rest ys more : List ℕ) → xs ++ rest ≡ ys ++ more → length xs ≤ length ys → ys ≡ xs ++ drop (length xs) ys
begun_by xs rest ys more e le =
    let front : xs ≡ take (length xs) ys = sym (take-append_seam xs rest) ∙ (ap (take (length xs)) e ∙ take-append-le (length xs) ys more le) in
    sym (take-append-drop (length xs) ys) ∙ ap (λ f. f ++ drop (length xs) ys) (sym front)

begins_all : (taken behind : List ℕ) (h : RequestHead) (rest : List ℕ) → BeginsWith taken h rest → BeginsWith (taken ++ behind) h (rest ++ behind)
begins_all taken behind h rest x = record { reads = ReadsRequest-append taken h rest behind x.reads; short = x.short; few = x.few }

-- ---- bytes that begin no head, where a head follows

head_stays : (taken behind left : List ℕ) (h : RequestHead) (rest : List ℕ) → left ≡ taken ++ behind → HasNoneWithin taken → BeginsWith left h rest → ⊥
head_stays taken behind left h rest whole none begins =
    elim none.why [
      | inl (inl never) ↦ never.0 behind h rest (subst (λ b. ReadsRequest b h rest) whole begins.reads)
      | inl (inr many) ↦ elim (cases_Bool (nat_le (length (print_request h)) (length taken))) [
        | inl le ↦ contained (at_least _ _ le)
        | inr lt ↦ cut_off many (below _ _ lt)
      ]
      | inr full ↦ let short = begins.short in contained (omega (arith, full, short))
    ]
  where
    same : print_request h ++ rest ≡ taken ++ behind
    same = sym begins.reads.1 ∙ whole

    contained : length (print_request h) ≤ length taken → ⊥
    contained le =
        let over = none.none h (drop (length (print_request h)) taken) (begins.reads.0, begun_by (print_request h) rest taken behind same le) in
        let few = begins.few in
        absurd (omega (arith, over, few))

    cut_off : 66 ≤ lines_in taken → length taken < length (print_request h) → ⊥
    cut_off many lt =
        let ends = head_ends h in
        let front = ends.0 in
        let size : length (print_request h) ≡ length front + 1 = ap length ends.1 ∙ length-append front (10 ∷ []) in
        let all : taken ++ behind ≡ front ++ (10 ∷ rest) = sym same ∙ (ap (λ p. p ++ rest) ends.1 ∙ append_assoc front (10 ∷ []) rest) in
        let fits : length taken ≤ length front = omega (arith, size, lt) in
        let is : front ≡ taken ++ drop (length taken) front = begun_by taken behind front (10 ∷ rest) all fits in
        let kept : lines_in taken ≤ lines_in front = subst (λ f. lines_in taken ≤ lines_in f) (sym is) (lines_front taken (drop (length taken) front)) in
        let more = lines_more front (omega (arith, many, kept)) in
        let most = lines_head_most h begins.reads.0 in
        let there : lines_in (print_request h ++ []) ≡ lines_in (front ++ 10 ∷ []) = ap lines_in (append-nil (print_request h) ∙ ends.1) in
        let few = begins.few in
        absurd (omega (arith, many, kept, more, most, there, few))

-- ---- bytes that begin no head, where one still may

abbrev slash_head : (blank : List LineEnd) (method : List ℕ) → RequestHead
slash_head blank method = record { blank = blank; method = method; target = 47 ∷ []; minor = 1; line_end = lf; fields = []; last = lf }

abbrev slash_rest : List ℕ
slash_rest = 47 ∷ 32 ∷ (print_version 1 ++ 10 ∷ 10 ∷ [])

-- a beginning of a request line can become a head
pub target_stays : (taken behind left : List ℕ) → left ≡ taken ++ behind → EndsInTarget left → ((more : List ℕ) (h : RequestHead) (rest : List ℕ) → ReadsRequest (taken ++ more) h rest → ⊥) → EndsInTarget taken
target_stays taken behind left whole (blank, method, target, token, uri, is) never =
    elim (cases_Bool (nat_le (length start) (length taken))) [
      | inl le ↦
          let cut = begun_by start target taken behind same (at_least _ _ le) in
          let rest = drop (length start) taken in
          let tail : target ≡ rest ++ behind = sym (drop-append_seam start target) ∙ (ap (drop (length start)) same ∙ drop-append-le (length start) taken behind (at_least _ _ le)) in
          let part : rest ≡ take (length rest) target = sym (take-append_seam rest behind) ∙ ap (take (length rest)) (sym tail) in
          (blank, method, rest, token, subst (AllPass is_uri_byte) (sym part) (All-take (λ b. is_uri_byte b ≡ true) (length rest) target uri), cut ∙ append_assoc (print_blank blank ++ method) (32 ∷ []) rest)
      | inr lt ↦
          let cut = begun_by taken behind start target (sym same) (omega (arith, below _ _ lt)) in
          let rest = drop (length taken) start in
          absurd (never (rest ++ slash_rest) (slash_head blank method) [] (valid, completed rest cut))
    ]
  where
    start : List ℕ
    start = (print_blank blank ++ method) ++ 32 ∷ []

    same : start ++ target ≡ taken ++ behind
    same = append_assoc (print_blank blank ++ method) (32 ∷ []) target ∙ (sym is ∙ whole)

    valid : IsRequestHead (slash_head blank method)
    valid = record {
      method = token;
      target = (omega arith, All-cons (λ b. is_uri_byte b ≡ true) 47 [] refl (All-nil (λ b. is_uri_byte b ≡ true)));
      target_text = IsUtf8-from_ascii (47 ∷ []) (IsAscii-cons 47 [] (omega arith) IsAscii-nil);
      minor = omega arith;
      fields = All-nil IsField;
    }

    completed : (rest : List ℕ) → start ≡ taken ++ rest → taken ++ (rest ++ slash_rest) ≡ print_request (slash_head blank method) ++ []
    completed rest cut =
        sym (append_assoc taken rest slash_rest) ∙ (ap (λ s. s ++ slash_rest) (sym cut) ∙ (append_assoc (print_blank blank ++ method) (32 ∷ []) slash_rest
        ∙ (append_assoc (print_blank blank) method (32 ∷ slash_rest) ∙ sym (print_request-append (slash_head blank method) []))))

want_stays : (taken behind left : List ℕ) → left ≡ taken ++ behind → HasNoneWithin taken → WantsHead left → ⊥
want_stays taken behind left whole none wants =
    elim none.why [
      | inl (inl never) ↦ elim wants.unfinished.may [
        | inl more ↦ never.0 (behind ++ more.0) more.1 [] (subst (λ b. ReadsRequest b more.1 []) (ap (λ l. l ++ more.0) whole ∙ append_assoc taken behind more.0) more.2)
        | inr at ↦ never.1 (target_stays taken behind left whole at never.0)
      ]
      | inl (inr many) ↦
          let kept : lines_in taken ≤ lines_in left = subst (λ l. lines_in taken ≤ lines_in l) (sym whole) (lines_front taken behind) in
          let few = wants.unfinished.few in
          absurd (omega (arith, many, kept, few))
      | inr full ↦
          let size : length left ≡ length taken + length behind = ap length whole ∙ length-append taken behind in
          let room = wants.room in
          absurd (omega (arith, full, size, room))
    ]

-- ---- any answer

none_or : (taken behind left : List ℕ) (limit : ℕ) (b : Result Request HttpBad) → left ≡ taken ++ behind → HasNoneWithin taken → ComesTo left limit b → (b ≡ Err bad.Head → ⊥) → ⊥
none_or taken behind left limit (Ok r) whole none x other = head_stays taken behind left x.head x.rest whole none x.begins
none_or taken behind left limit (Err bad.Head) whole none x other = other refl
none_or taken behind left limit (Err bad.Method) whole none x other = head_stays taken behind left x.head x.rest whole none x.begins
none_or taken behind left limit (Err bad.Body) whole none x other = head_stays taken behind left x.head x.rest whole none x.begins
none_or taken behind left limit (Err (bad.TooBig n)) whole none x other = head_stays taken behind left x.head x.rest whole none x.begins
none_or taken behind left limit (Err bad.Short) whole none (inl wants) other = want_stays taken behind left whole none wants
none_or taken behind left limit (Err bad.Short) whole none (inr y) other = head_stays taken behind left y.head y.rest whole none y.begins
none_or taken behind left limit (Err (bad.Read n)) whole none x other = x
none_or taken behind left limit (Err bad.NoMemory) whole none x other = x

refused_all : (taken behind : List ℕ) (limit : ℕ) (why : HttpBad) → HasRefusedHead taken limit why → HasRefusedHead (taken ++ behind) limit why
refused_all taken behind limit why x = record { head = x.head; rest = x.rest ++ behind; begins = begins_all taken behind x.head x.rest x.begins; asks = x.asks }

-- an answer but `Head` is that of all the bytes
of_all : (taken behind : List ℕ) (limit : ℕ) (a : Result Request HttpBad) → ComesTo taken limit a → (a ≡ Err bad.Short → behind ≡ []) → (a ≡ Err bad.Head → ⊥) → ComesTo (taken ++ behind) limit a
of_all taken behind limit (Ok r) x cut other = record {
  head = x.head;
  rest = x.rest ++ behind;
  asked = x.asked;
  begins = begins_all taken behind x.head x.rest x.begins;
  asks = x.asks;
  long = let size = length-append x.rest behind in let long = x.long in omega (arith, size, long);
  is = x.is ∙ ap (request_of x.head x.asked) (sym (take-append-le x.asked.length x.rest behind x.long));
}
of_all taken behind limit (Err bad.Head) x cut other = absurd (other refl)
of_all taken behind limit (Err bad.Method) x cut other = refused_all taken behind limit bad.Method x
of_all taken behind limit (Err bad.Body) x cut other = refused_all taken behind limit bad.Body x
of_all taken behind limit (Err (bad.TooBig n)) x cut other = refused_all taken behind limit (bad.TooBig n) x
of_all taken behind limit (Err bad.Short) x cut other = subst (λ b. ComesTo b limit (Err bad.Short)) (sym (ap (λ b. taken ++ b) (cut refl) ∙ append-nil taken)) x
of_all taken behind limit (Err (bad.Read n)) x cut other = x
of_all taken behind limit (Err bad.NoMemory) x cut other = x

abbrev is_head : Result Request HttpBad → Bool
is_head (Ok r) = false
is_head (Err bad.Head) = true
is_head (Err _) = false

head_is : (a : Result Request HttpBad) → is_head a ≡ true → a ≡ Err bad.Head
head_is (Ok r) h = absurd (let bad : false ≡ true = h in cc)
head_is (Err bad.Head) h = refl
head_is (Err bad.Method) h = absurd (let bad : false ≡ true = h in cc)
head_is (Err bad.Body) h = absurd (let bad : false ≡ true = h in cc)
head_is (Err (bad.TooBig n)) h = absurd (let bad : false ≡ true = h in cc)
head_is (Err bad.Short) h = absurd (let bad : false ≡ true = h in cc)
head_is (Err (bad.Read n)) h = absurd (let bad : false ≡ true = h in cc)
head_is (Err bad.NoMemory) h = absurd (let bad : false ≡ true = h in cc)

no_head : (a : Result Request HttpBad) → is_head a ≡ false → a ≡ Err bad.Head → ⊥
no_head a other is = let bad : true ≡ false = ap is_head (sym is) ∙ other in cc

all_of : (left : List ℕ) (limit : ℕ) (a : Result Request HttpBad) → EndsIn left limit a → is_head a ≡ false → ComesTo left limit a
all_of left limit a x other = subst (λ b. ComesTo b limit a) (sym x.whole) (of_all x.taken x.behind limit a x.comes x.cut (no_head a other))

none_of : (left : List ℕ) (limit : ℕ) (a : Result Request HttpBad) (x : EndsIn left limit a) → a ≡ Err bad.Head → HasNoneWithin x.taken
none_of left limit a x is = subst (ComesTo x.taken limit) is x.comes

pub one_source : (left : List ℕ) (limit : ℕ) (a b : Result Request HttpBad) → EndsIn left limit a → EndsIn left limit b → a ≡ b
one_source left limit a b x y =
    elim (cases_Bool (is_head a)) [
      | inl h ↦ elim (cases_Bool (is_head b)) [
        | inl k ↦ head_is a h ∙ sym (head_is b k)
        | inr n ↦ absurd (none_or x.taken x.behind left limit b x.whole (none_of left limit a x (head_is a h)) (all_of left limit b y n) (no_head b n))
      ]
      | inr m ↦ elim (cases_Bool (is_head b)) [
        | inl k ↦ absurd (none_or y.taken y.behind left limit a y.whole (none_of left limit b y (head_is b k)) (all_of left limit a x m) (no_head a m))
        | inr n ↦ one left limit a b (all_of left limit a x m) (all_of left limit b y n)
      ]
    ]

-- ---- what is read

pub read_ends : (left new : List ℕ) (limit : ℕ) (r : Request) → Makes (Some left) (Some new) limit r → EndsIn left limit (Ok r)
read_ends left new limit r (bytes, gives, (is, no_more)) = record { taken = bytes; behind = new; whole = gives; comes = is; cut = λ e. absurd (cc) }

head_ends_in : (left new : List ℕ) (limit : ℕ) (why : HttpBad) → RefusesHead (Some left) (Some new) limit why → why ≢ bad.Short → EndsIn left limit (Err why)
head_ends_in left new limit why (bytes, (gives, size), comes) other = record { taken = bytes; behind = new; whole = gives; comes = comes; cut = λ e. absurd (other (cc)) }

pub refused_ends : (left new : List ℕ) (before now limit : ℕ) (why : HttpBad) → Refuses (Some left) (Some new) before now limit why
    → why ≢ bad.NoMemory → ((n : ℕ) → why ≢ bad.Read n) → EndsIn left limit (Err why)
refused_ends left new before now limit bad.Head x m r = head_ends_in left new limit bad.Head x (λ e. cc)
refused_ends left new before now limit bad.Method x m r = head_ends_in left new limit bad.Method x (λ e. cc)
refused_ends left new before now limit bad.Body x m r = head_ends_in left new limit bad.Body x (λ e. cc)
refused_ends left new before now limit (bad.TooBig n) x m r = head_ends_in left new limit (bad.TooBig n) x (λ e. cc)
refused_ends left new before now limit bad.Short (bytes, gives, cut, end) m r = record { taken = bytes; behind = new; whole = gives; comes = cut; cut = λ e. end }
refused_ends left new before now limit (bad.Read n) x m r = absurd (r n refl)
refused_ends left new before now limit bad.NoMemory x m r = absurd (m refl)
