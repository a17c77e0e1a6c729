-- How many lines a head has, no more and no fewer, and where it ends.
use Rattle.std.proofs.Common.{◌≡◌, ◌<◌, ◌≤◌, ◌+◌, inl, inr, ℕ, List, [], ◌∷◌, ◌++◌, All, Bool, true, false, ◌==◌, length, zero, suc, refl, sym, ap, ◌∙◌, arith, append_assoc, append-nil}
use Rattle.std.specs.List.{flat_map}
use Rattle.std.proofs.lemmas.List.Elements.{All-head, All-tail}
use Rattle.httparse.specs.Grammar.{AllPass, Field, IsField, IsRequestHead, LineEnd, RequestHead, crlf, lf, is_token_byte, is_uri_byte, is_value_byte, print_blank, print_end, print_field, print_request, print_section, print_version}
use Rattle.httparse.proofs.GrammarLemmas.{print_request-append}
use Rattle.ep_http.specs.Heads.{feeds, is_newline, lines_in}
use Rattle.ep_http.proofs.Lines.{behind_less, cases, feeds-append, feeds_end}

no_feed : (b : ℕ) (test : ℕ → Bool) → test 10 ≡ false → test b ≡ true → (b == 10) ≡ false
no_feed b test ends h =
    elim (cases (b == 10)) [
      | inl e ↦
          let is : b ≡ 10 = grind arith in
          let bad : false ≡ true = sym ends ∙ (ap test (sym is) ∙ h) in absurd (cc)
      | inr n ↦ n
    ]

-- bytes of a class without the line feed end no line
feeds_none : (test : ℕ → Bool) → test 10 ≡ false → (bs : List ℕ) → AllPass test bs → feeds bs ≡ 0
feeds_none test ends [] all = refl
feeds_none test ends (b ∷ bs) all =
    let first : test b ≡ true = all 0 0 (omega arith) in
    rw (no_feed b test ends first) (feeds_none test ends bs (λ k d lt. all (suc k) d (omega arith)))

token_has_no_feed : is_token_byte 10 ≡ false
unfolding is_token_byte
token_has_no_feed = refl

feeds_field : (f : Field) → IsField f → feeds (print_field f) ≡ 1
feeds_field f is =
    let name = feeds_none is_token_byte token_has_no_feed f.name is.name.1 in
    let raw = feeds_none is_value_byte refl f.raw is.raw in
    let a = feeds-append (f.name ++ 58 ∷ f.raw) (print_end f.end) in
    let b = feeds-append f.name (58 ∷ f.raw) in
    let d = feeds-append (58 ∷ []) f.raw in
    let colon : feeds (58 ∷ []) ≡ 0 = refl in
    let e = feeds_end f.end in
    omega (arith, name, raw, a, b, d, colon, e)

feeds_fields : (fs : List Field) → All IsField fs → feeds (flat_map print_field fs) ≡ length fs
feeds_fields [] all = refl
feeds_fields (f ∷ fs) all =
    let ih = feeds_fields fs (All-tail IsField f fs all) in
    let one = feeds_field f (All-head IsField f fs all) in
    let a = feeds-append (print_field f) (flat_map print_field fs) in
    omega (arith, ih, one, a)

feeds_version : (minor : ℕ) → minor ≤ 1 → feeds (print_version minor) ≡ 0
feeds_version zero le = refl
feeds_version (suc zero) le = refl
feeds_version (suc (suc n)) le = absurd (omega (arith, le))

-- the empty lines in front don't count
lines_blank : (ends : List LineEnd) (w : List ℕ) → lines_in (print_blank ends ++ w) ≡ lines_in w
lines_blank [] w = refl
lines_blank (crlf ∷ ends) w = lines_blank ends w
lines_blank (lf ∷ ends) w = lines_blank ends w

pub lines_head_most : (h : RequestHead) → IsRequestHead h → lines_in (print_request h ++ []) ≤ length h.fields + 2
lines_head_most h is =
    let section = print_section h.fields h.last ++ [] in
    let tail = print_end h.line_end ++ section in
    let version = print_version h.minor ++ tail in
    let target = h.target ++ 32 ∷ version in
    let line = h.method ++ 32 ∷ target in
    let front = lines_blank h.blank line in
    let less = behind_less line in
    let m = feeds_none is_token_byte token_has_no_feed h.method is.method.1 in
    let t = feeds_none is_uri_byte refl h.target is.target.1 in
    let v = feeds_version h.minor is.minor in
    let fs = feeds_fields h.fields is.fields in
    let a = feeds-append h.method (32 ∷ target) in
    let b = feeds-append (32 ∷ []) target in
    let d = feeds-append h.target (32 ∷ version) in
    let e = feeds-append (32 ∷ []) version in
    let f = feeds-append (print_version h.minor) tail in
    let g = feeds-append (print_end h.line_end) section in
    let i = feeds-append (print_section h.fields h.last) [] in
    let j = feeds-append (flat_map print_field h.fields) (print_end h.last) in
    let one = feeds_end h.line_end in
    let last = feeds_end h.last in
    let space : feeds (32 ∷ []) ≡ 0 = refl in
    let none : feeds [] ≡ 0 = refl in
    rw (print_request-append h []) (omega (arith, front, less, m, t, v, fs, a, b, d, e, f, g, i, j, one, last, space, none))

-- ---- the last byte

abbrev pub EndsLine : List ℕ → Type 0
EndsLine bytes = (front : List ℕ) × (bytes ≡ front ++ 10 ∷ [])

behind : (xs ys : List ℕ) → EndsLine ys → EndsLine (xs ++ ys)
behind xs ys (front, is) = (xs ++ front, ap (λ y. xs ++ y) is ∙ sym (append_assoc xs front (10 ∷ [])))

end_ends : (e : LineEnd) → EndsLine (print_end e ++ [])
end_ends crlf = (13 ∷ [], refl)
end_ends lf = ([], refl)

section_ends : (fs : List Field) (last : LineEnd) → EndsLine (print_section fs last ++ [])
section_ends fs last =
    let e = behind (flat_map print_field fs) (print_end last ++ []) (end_ends last) in
    (e.0, append_assoc (flat_map print_field fs) (print_end last) [] ∙ e.1)

pub head_ends : (h : RequestHead) → EndsLine (print_request h)
head_ends h =
    let section = print_section h.fields h.last ++ [] in
    let tail = print_end h.line_end ++ section in
    let version = print_version h.minor ++ tail in
    let target = h.target ++ 32 ∷ version in
    let all = behind (print_blank h.blank) (h.method ++ 32 ∷ target) (behind h.method (32 ∷ target) (behind (32 ∷ []) target (behind h.target (32 ∷ version) (behind (32 ∷ []) version
    (behind (print_version h.minor) tail (behind (print_end h.line_end) section (section_ends h.fields h.last))))))) in
    (all.0, sym (append-nil (print_request h)) ∙ (print_request-append h [] ∙ all.1))

-- one line more
pub lines_more : (xs : List ℕ) → 0 < lines_in xs → lines_in xs + 1 ≤ lines_in (xs ++ 10 ∷ [])
lines_more [] some = absurd (omega (arith, some))
lines_more (b ∷ bs) some =
    let more = feeds-append (b ∷ bs) (10 ∷ []) in
    let one : feeds (10 ∷ []) ≡ 1 = refl in
    elim (cases (is_newline b)) [
      | inl e ↦ rw e (lines_more bs (rw e at some))
      | inr n ↦ rw n (omega (arith, more, one))
    ]
